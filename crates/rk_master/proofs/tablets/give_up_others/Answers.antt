use Rattle.rk_master.proofs.Words.{◌<◌, ℕ, List, length, get_or, arith, sym, ◌∙◌, subst, IsClosable, given_up_but, tablet_of, Row}
use Rattle.rk_master.proofs.Closable.{closable_at, lawful_set, given_up_closable}
use Rattle.rk_master.proofs.Places.{changed_next}
use Rattle.rk_master.proofs.tablets.give_up_others.Goals as goal

pub loop-entry-preserved : goal.loop-entry-preserved
loop-entry-preserved c =
    let rows : List Row = c.loop-entry.tablets in
    let i : ℕ = c.loop-entry.entry-index in
    let row : Row = c.entry-item.result in
    let within : i < length rows = omega (arith, c.loop-entry-test.true, c.loop-entry.auto.tablets) in
    let was = closable_at rows i row within c.loop-entry.invariant.tablets.closable in
    record {
      tablets =
          lawful_set rows i row c.give_up_other.new.tablet within c.loop-entry.invariant.tablets
          (subst IsClosable (sym c.give_up_other.ensures) (given_up_closable c.args.number c.args.range.now (get_or rows i row).0 (tablet_of (get_or rows i row).1) was));
      rest = changed_next (given_up_but c.args.number c.args.range.now) rows i row c.give_up_other.new.tablet within c.give_up_other.ensures ∙ c.loop-entry.invariant.rest;
    }
