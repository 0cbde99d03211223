use Rattle.rk_rebuild.proofs.Words.{List, set, sym, ap, ◌∙◌, Reader, advanced}
use Rattle.std.proofs.lemmas.List.Edits.{map_over_more}
use Rattle.rk_rebuild.proofs.reading.advance.Goals as goal

pub loop-reader-preserved : goal.loop-reader-preserved
loop-reader-preserved c =
    let items : List Reader = c.loop-reader.reader-items in
    ap (set items c.loop-reader.reader-index) (c.advance_one.ensures ∙ ap (advanced c.args.log.now) (sym c.reader-item.is))
    ∙ map_over_more (advanced c.args.log.now) c.deref_mut-reader-items.result.now items c.loop-reader.reader-index c.reader-item.result
    c.loop-reader-test.true c.loop-reader.invariant c.reader-item.is
