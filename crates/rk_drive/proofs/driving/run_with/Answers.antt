-- What was gathered is of the drive if no lane was spent and all calls are answered.
use Rattle.std.proofs.Common.{ℕ, List, refl, ap, subst, ◌∙◌}
use Rattle.std.specs.List.{All}
use Rattle.std.proofs.lemmas.List.Elements.{All-weaker}
use Rattle.rk_world.specs.Premises.{MayAct}
use Rattle.rk_shared_lanes.specs.Passes.{MakesOnly}
use Rattle.rk_shared_lanes.specs.Together.{IsOfRoster, clients_of}
use Rattle.rk_drive.specs.Driven.{IsOfWorkload}
use Rattle.rk_drive.specs.declared.start.TheConstants.{BACKUPS, MASTERS}
use Rattle.rk_drive.proofs.Opening.{makes_weaker}
use Rattle.rk_drive.proofs.Reversed.{clients_back, clients_out}
use Rattle.rk_drive.proofs.driving.run_with.Goals as goal

pub gather-gathered-requires-clause-clients : goal.gather-gathered-requires-clause-clients
gather-gathered-requires-clause-clients g c =
    clients_back c.in_ok-shared.passes.items c.run_all-passes.result.items c.args.sessions.items c.in_ok-shared.ensures.sessions c.run_all-passes.ensures.clients
    ∙ c.requires.clients

pub returns-then-has_come_through-clause-driven : goal.returns-then-has_come_through-clause-driven
returns-then-has_come_through-clause-driven g c =
    let all = c.gather-gathered.ensures in
    let lanes = c.gather-gathered.result.lanes.items in
    let sessions = c.gather-gathered.result.sessions.items in
    let clients =
    clients_out c.in_ok-shared.passes.items c.run_all-passes.result.items c.args.sessions.items c.in_ok-shared.ensures.sessions c.run_all-passes.ensures.clients in
    record {
      numbers = all.numbers;
      roster =
          subst (λ (names : List ℕ). All (IsOfRoster MASTERS BACKUPS names) lanes) c.requires.numbered
          (subst (λ (backups : ℕ). All (IsOfRoster MASTERS backups g.N.Roster.clients) lanes) c.requires.backups
          (subst (λ (masters : ℕ). All (IsOfRoster masters g.N.Roster.backups g.N.Roster.clients) lanes) c.requires.masters all.roster));
      runs = c.if-has_come_through.ensures.runs refl;
      acts = subst (λ (masters : ℕ). All (MayAct masters) sessions) c.requires.masters all.acts;
      clients = ap clients_of all.sessions ∙ clients ∙ c.requires.clients ∙ c.requires.numbered;
      answered = c.if-has_come_through.ensures.answered refl;
      asked = all.asked;
      orderly = all.orderly;
      made = λ told.
          All-weaker (MakesOnly g.N.Roster.makes) (MakesOnly (IsOfWorkload c.args.plan.now.keys))
          (makes_weaker g.N.Roster.makes (IsOfWorkload c.args.plan.now.keys) c.requires.only) sessions (all.calls told);
      counted = all.counted;
      sound = all.sound;
    }
