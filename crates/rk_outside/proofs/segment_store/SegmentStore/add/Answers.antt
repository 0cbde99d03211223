-- The segment that was found is written through, and a new one is inserted.
use Rattle.std.proofs.Common.{◌≡◌, ℕ, List, ◌++◌, Some, None, IsSome, refl, sym, ap, ◌∙◌, subst}
use Rattle.std.specs.BTreeMap.{BTreeMap}
use Rattle.std.specs.FinMap.{get, insert}
use Rattle.std.proofs.lemmas.Result.{on_ok_weaker, on_err_weaker}
use Rattle.rk_outside.specs.Segments.{bytes_of}
use Rattle.rk_outside.specs.Replicas.{segments_in}
use Rattle.rk_outside.proofs.Places.{get-segments_in, segments_in-updated, segments_in-written_back}
use Rattle.rk_outside.proofs.segment_store.SegmentStore.add.Goals as goal

pub add-requires : goal.add-requires
add-requires c =
    let place : ℕ × ℕ = (c.args.master, c.args.segment) in
    let found : get c.args.self.now place ≡ Some c.in-Some.stored.now = rw (← c.self.view_is) (get-segments_in c.self.inside.segments place ∙ sym c.in-Some.ensures.value) in
    rw found at c.requires

-- the segment that was found got no bytes
pub returns-in-Some-clause-err : goal.returns-in-Some-clause-err
returns-in-Some-clause-err c =
    let value = c.add.new.self in
    on_err_weaker c.add.result
    (λ same. rw (← c.self.view_is) (segments_in-written_back c.args.master c.args.segment value c.self.inside.segments (c.get_mut.follows.lender value) (sym c.in-Some.ensures.value ∙ ap Some (sym same)) (c.get_mut.follows.holds value)))
    c.add.ensures.err

-- the segment that was found has the bytes behind its own
pub returns-in-Some-clause-ok : goal.returns-in-Some-clause-ok
returns-in-Some-clause-ok c =
    let place : ℕ × ℕ = (c.args.master, c.args.segment) in
    let value = c.add.new.self in
    let old = c.self.inside.segments in
    let new = c.get_mut.follows.lender value in
    let found : Some c.in-Some.stored.now ≡ get (segments_in old) place = c.in-Some.ensures.value ∙ sym (get-segments_in old place) in
    let updated = segments_in-updated c.args.master c.args.segment value old new ((c.get_mut.follows.holds value).3 (subst IsSome c.in-Some.ensures.value refl)) in
    on_ok_weaker c.add.result
    (λ longer. rw (← c.self.view_is) (updated ∙ ap (insert (segments_in old) place) (longer ∙ ap (λ stored. bytes_of stored ++ c.args.bytes.now) found)))
    c.add.ensures.ok

-- a segment that was never written has these bytes alone
pub returns-clause-ok : goal.returns-clause-ok
returns-clause-ok c =
    let place : ℕ × ℕ = (c.args.master, c.args.segment) in
    let value = c.in_ok-stored.stored in
    let old = c.self.inside.segments in
    let new = c.insert.new.self in
    let absent : None ≡ get (segments_in old) place = c.in_default.ensures.value ∙ sym (get-segments_in old place) in
    let alone : value ≡ bytes_of (get (segments_in old) place) ++ c.args.bytes.now = c.in_ok-stored.ensures ∙ ap (λ stored. bytes_of stored ++ c.args.bytes.now) absent in
    let inserted : segments_in new ≡ insert (segments_in old) place value =
    subst (λ (tree : BTreeMap (ℕ × ℕ) (List ℕ)). segments_in new ≡ insert (segments_in tree) place value) c.get_mut.follows.holds-at-none
    (segments_in-updated c.args.master c.args.segment value c.get_mut.follows.lender-at-none new c.in_ok-insert.ensures.updates) in
    rw (← c.self.view_is) (inserted ∙ ap (insert (segments_in old) place) alone)
