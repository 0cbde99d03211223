use Rattle.rk_entry.proofs.EntryLaws.{fields_shorter}
use Rattle.rk_entry.proofs.reading.read_entry.Goals as goal

pub slice_bounds-front-count : goal.slice_bounds-front-count
slice_bounds-front-count c =
    fields_shorter c.args.bytes.now c.in_ok-kind.kind c.in_ok-kind.rest.now c.in_ok-body.body c.in_ok-body.rest.now c.in_ok-entry.entry c.in_ok-entry.rest.now
    c.in_ok-kind.ensures c.in_ok-body.ensures c.in_ok-entry.ensures
