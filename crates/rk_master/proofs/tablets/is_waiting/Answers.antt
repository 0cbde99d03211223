use Rattle.rk_master.proofs.Words.{sym, ap, ◌∙◌, Tablet}
use Rattle.rk_priority.specs.Hashes.{is_waiting}
use Rattle.rk_master.proofs.Places.{none_there, tablet_there}
use Rattle.rk_master.proofs.tablets.is_waiting.Goals as goal

pub returns-in-Ok : goal.returns-in-Ok
returns-in-Ok c =
    c.is_waiting.ensures
    ∙ sym (ap (λ (t : Tablet). is_waiting t.pulling.hashes) (tablet_there c.args.tablets.now c.args.number c.in-Ok.at c.index-tablets-at.result c.requires c.in-Ok.ensures.found))

pub returns-in-Err : goal.returns-in-Err
returns-in-Err c = sym (ap (λ (t : Tablet). is_waiting t.pulling.hashes) (none_there c.args.tablets.now c.args.number c.in-Err.field-0 c.in-Err.ensures.absent))
