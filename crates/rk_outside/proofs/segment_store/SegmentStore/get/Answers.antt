use Rattle.std.proofs.Common.{Some, sym, ap, ◌∙◌}
use Rattle.rk_outside.proofs.Places.{get-segments_in}
use Rattle.rk_outside.proofs.segment_store.SegmentStore.get.Goals as goal

pub returns-in-None-clause-value : goal.returns-in-None-clause-value
returns-in-None-clause-value c =
    rw (← c.self.view_is) (c.in-None.ensures.value ∙ sym (get-segments_in c.self.inside.segments (c.args.master, c.args.segment)))

pub returns-in-Some-clause-value : goal.returns-in-Some-clause-value
returns-in-Some-clause-value c =
    rw (← c.self.view_is) (ap Some c.bytes.ensures.value ∙ c.in-Some.ensures.value ∙ sym (get-segments_in c.self.inside.segments (c.args.master, c.args.segment)))
