use Rattle.std.proofs.Common.{◌≡◌, Err, length, take, refl, sym, ◌∙◌}
use Rattle.std.proofs.lemmas.Bool.{eqb-true, eqb-false}
use Rattle.rk_outside.specs.Replicas.{by_number, segments_of}
use Rattle.rk_outside.proofs.Places.{ChangesAt-insert}
use Rattle.rk_outside.proofs.ReplicaLemmas.{LeavesPart-with_kept, with_kept-none, with_kept-some}
use Rattle.rk_outside.proofs.SegmentLemmas.{lengths_of-with_bytes, Lengthens-stored}
use Rattle.rk_outside.proofs.memory_replica.MemoryReplicaReplica.append.Goals as goal

-- a call that does not fail adds all bytes
pub returns-then-not-will_fail-clause-segments : goal.returns-then-not-will_fail-clause-segments
returns-then-not-will_fail-clause-segments c =
    rw (← c.self.view_is, c.in_ok-add.ensures.ok) (ChangesAt-insert c.args.master c.args.segment _ c.self.inside.segments)

pub returns-then-not-will_fail-clause-lengths : goal.returns-then-not-will_fail-clause-lengths
returns-then-not-will_fail-clause-lengths c =
    lengths_of-with_bytes c.args.master c.args.segment c.args.bytes.now (segments_of c.args.self.now) (by_number c.add.new.self) (returns-then-not-will_fail-clause-segments c)

-- a call that fails keeps a first part, which may be empty
pub returns-then-is_empty-clause-after : goal.returns-then-is_empty-clause-after
returns-then-is_empty-clause-after c =
    let none : length c.front-kept.result.now ≡ 0 = eqb-true (length c.front-kept.result.now) 0 (sym c.is_empty.ensures ∙ c.if-is_empty.true) in
    rw (c.fail.ensures.answer, c.fail.ensures.counted, ← c.self.view_is, with_kept-none c.self.inside.segments c.args.master c.args.segment c.front-kept.result.now (take c.self.inside.kept c.args.bytes.now) c.front-kept.ensures none) refl

pub returns-then-is_empty-clause-segments : goal.returns-then-is_empty-clause-segments
returns-then-is_empty-clause-segments c =
    rw (returns-then-is_empty-clause-after c, c.fail.ensures.answer, ← c.self.view_is) (LeavesPart-with_kept c.self.inside.segments c.args.master c.args.segment c.self.inside.kept c.args.bytes.now)

pub returns-then-is_empty-clause-lengths : goal.returns-then-is_empty-clause-lengths
returns-then-is_empty-clause-lengths c =
    Lengthens-stored (Err c.fail.result) c.args.master c.args.segment c.args.bytes.now (segments_of c.args.self.now) (segments_of c.fail.new.self) (returns-then-is_empty-clause-segments c)

pub returns-clause-after : goal.returns-clause-after
returns-clause-after c =
    let some = eqb-false (length c.front-kept.result.now) 0 (sym c.is_empty.ensures ∙ c.if-is_empty.false) in
    rw (c.fail-2.ensures.answer, c.fail-2.ensures.counted, c.in_ok-add-2.ensures.ok, ← c.self.view_is, with_kept-some c.self.inside.segments c.args.master c.args.segment c.front-kept.result.now (take c.self.inside.kept c.args.bytes.now) c.front-kept.ensures some) refl

pub returns-clause-segments : goal.returns-clause-segments
returns-clause-segments c =
    rw (returns-clause-after c, c.fail-2.ensures.answer, ← c.self.view_is) (LeavesPart-with_kept c.self.inside.segments c.args.master c.args.segment c.self.inside.kept c.args.bytes.now)

pub returns-clause-lengths : goal.returns-clause-lengths
returns-clause-lengths c =
    Lengthens-stored (Err c.fail-2.result) c.args.master c.args.segment c.args.bytes.now (segments_of c.args.self.now) (segments_of c.fail-2.new.self) (returns-clause-segments c)
