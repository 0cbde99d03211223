use Rattle.std.proofs.Common.{ap, sym, subst, ◌∙◌, arith}
use Rattle.std.specs.List.{All}
use Rattle.rk_world.specs.Premises.{MayAct}
use Rattle.rk_shared_lanes.specs.Together.{IsIdle, clients_of}
use Rattle.rk_drive.specs.declared.start.TheConstants.{MASTERS}
use Rattle.rk_drive.proofs.Opening.{act_from, clients_from, idle_from}
use Rattle.rk_drive.proofs.start.new_sessions.Goals as goal

pub returns-clause-clients : goal.returns-clause-clients
returns-clause-clients c = ap clients_of c.in_ok-sessions.ensures ∙ clients_from 1 c.args.clients

pub returns-clause-idle : goal.returns-clause-idle
returns-clause-idle c = subst (All IsIdle) (sym c.in_ok-sessions.ensures) (idle_from 1 c.args.clients)

pub returns-clause-acts : goal.returns-clause-acts
returns-clause-acts c =
    let few = c.ranges.clients.fits in
    subst (All (MayAct MASTERS)) (sym c.in_ok-sessions.ensures) (act_from MASTERS 1 c.args.clients (omega arith) (omega (arith, few)))
