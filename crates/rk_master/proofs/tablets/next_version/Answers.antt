use Rattle.rk_master.proofs.Words.{List, ap, sym, ◌∙◌, subst, Tablet, IsClosable, Row}
use Rattle.rk_world.specs.Requests.{counted_up}
use Rattle.rk_master.proofs.Closable.{closable_at, lawful_set}
use Rattle.rk_master.proofs.Places.{tablet_there, changed_so}
use Rattle.rk_master.proofs.tablets.next_version.Goals as goal

pub returns-clause-version : goal.returns-clause-version
returns-clause-version c =
    c.in_ok-version.ensures.version
    ∙ ap (λ (t : Tablet). t.handover.counter) (sym (tablet_there c.args.tablets.now c.args.number c.place_of-at.result c.index-tablets-at.result c.requires.tablets.order c.place_of-at.ensures))

pub returns-clause-counter : goal.returns-clause-counter
returns-clause-counter c =
    changed_so counted_up c.args.tablets.now c.args.number c.place_of-at.result c.index-tablets-at.result c.next_version.new.self c.requires.tablets.order c.place_of-at.ensures
    c.in_ok-version.ensures.counter

pub returns-clause-tablets : goal.returns-clause-tablets
returns-clause-tablets c =
    let rows : List Row = c.args.tablets.now in
    let within = c.place_of-at.ensures.within in
    let old = closable_at rows c.place_of-at.result c.index-tablets-at.result within c.requires.tablets.closable in
    lawful_set rows c.place_of-at.result c.index-tablets-at.result c.next_version.new.self within c.requires.tablets (subst IsClosable (sym c.in_ok-version.ensures.counter) old)
