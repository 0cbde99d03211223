use Rattle.rk_master.proofs.Words.{◌≡◌, true, List, sym, ap, ◌∙◌, false≢true, is_gathering, Tablet, tablet_of, Row, with_gather}
use Rattle.rk_master.proofs.Closable.{closable_else, lawful_set}
use Rattle.rk_master.proofs.Places.{changed_so, tablet_there}
use Rattle.rk_master.proofs.tablets.begin_gather.Goals as goal

pub returns-clause-gathers : goal.returns-clause-gathers
returns-clause-gathers c =
    changed_so (λ (tablet : Tablet). with_gather tablet c.args.gather) c.args.tablets.now c.args.number c.place_of-at.result c.index-tablets-at.result
    c.begin_gather.new.self c.requires.tablets.order c.place_of-at.ensures c.begin_gather.ensures

pub returns-clause-tablets : goal.returns-clause-tablets
returns-clause-tablets c =
    let rows : List Row = c.args.tablets.now in
    let at = c.place_of-at.ensures in
    let there = tablet_there rows c.args.number c.place_of-at.result c.index-tablets-at.result c.requires.tablets.order at in
    let role : is_gathering (tablet_of c.begin_gather.new.self).handover.role ≡ true =
    ap (λ (t : Tablet). is_gathering t.handover.role) c.begin_gather.ensures ∙ ap (λ (t : Tablet). is_gathering t.handover.role) (sym there) ∙ c.requires.role in
    lawful_set rows c.place_of-at.result c.index-tablets-at.result c.begin_gather.new.self at.within c.requires.tablets
    (closable_else (tablet_of c.begin_gather.new.self)
    (λ receives. false≢true (sym (ap is_gathering receives) ∙ role))
    (λ joins. false≢true (sym (ap is_gathering joins) ∙ role)))
