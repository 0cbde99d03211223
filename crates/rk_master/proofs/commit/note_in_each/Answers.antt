use Rattle.rk_master.proofs.Words.{◌∙◌, ◌<◌, ℕ, List, length, get_or, arith, sym, subst, noting, IsClosable, tablet_of, Row}
use Rattle.rk_master.proofs.Closable.{closable_at, lawful_set, noted_closable}
use Rattle.rk_master.proofs.Places.{changed_next}
use Rattle.rk_master.proofs.commit.note_in_each.Goals as goal

pub loop-entry-preserved : goal.loop-entry-preserved
loop-entry-preserved c =
    let rows : List Row = c.loop-entry.tablets in
    let i : ℕ = c.loop-entry.entry-index in
    let row : Row = c.entry-item.result in
    let within : i < length rows = omega (arith, c.loop-entry-test.true, c.loop-entry.auto.tablets) in
    record {
      tablets =
          lawful_set rows i row c.note.new.self within c.loop-entry.invariant.tablets
          (subst IsClosable (sym c.in_ok-note.ensures)
          (noted_closable c.args.call.now c.args.end (tablet_of (get_or rows i row).1) (closable_at rows i row within c.loop-entry.invariant.tablets.closable)));
      rest = changed_next (λ number. noting c.args.call.now c.args.end) rows i row c.note.new.self within c.in_ok-note.ensures ∙ c.loop-entry.invariant.rest;
    }
