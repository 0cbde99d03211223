use Rattle.rk_master.proofs.Words.{List, sym, subst, Tablet, IsClosable, Row}
use Rattle.rk_world.specs.Requests.{with_wanted}
use Rattle.rk_master.proofs.Closable.{closable_at, lawful_set}
use Rattle.rk_master.proofs.Places.{changed_so}
use Rattle.rk_master.proofs.tablets.want.Goals as goal

pub returns-clause-wanted : goal.returns-clause-wanted
returns-clause-wanted c =
    changed_so (λ (tablet : Tablet). with_wanted tablet c.args.hash) c.args.tablets.now c.args.number c.place_of-at.result c.index-tablets-at.result c.want.new.self c.requires.tablets.order c.place_of-at.ensures
    c.in_ok-want.ensures.ok

pub returns-clause-tablets : goal.returns-clause-tablets
returns-clause-tablets c =
    let rows : List Row = c.args.tablets.now in
    let within = c.place_of-at.ensures.within in
    let old = closable_at rows c.place_of-at.result c.index-tablets-at.result within c.requires.tablets.closable in
    lawful_set rows c.place_of-at.result c.index-tablets-at.result c.want.new.self within c.requires.tablets (subst IsClosable (sym c.in_ok-want.ensures.ok) old)
