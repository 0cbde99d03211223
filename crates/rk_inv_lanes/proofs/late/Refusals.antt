-- A master refuses a call only when it may: by what it found as it chose.
use Rattle.std.proofs.Common.{arith, None, Option, Some, ap, false, is_some, ltb-false, nat_lt, not, refl, subst, true, unwrap_or, ℕ, ◌&&◌}
use Rattle.std.proofs.Common.{◌∙◌, ◌≡◌}
use Rattle.rk_inv_base.proofs.Words.{Call, Held, IsInOrder, Master, MayAnswerMoved, Redirects, Tablet, Wants, and_parts, choice_of}
use Rattle.rk_inv_base.proofs.Words.{contains, found, has_key, hash_of, is_mutation, is_receiving, is_serving, items_of, needs_state}
use Rattle.rk_inv_base.proofs.Words.{newest, no_tablet, serving, staged, state_of, tablet_at}
use Rattle.rk_types.specs.Hashing.{bucket_of}
use Rattle.rk_world.specs.Justified.{MayAnswerNotYet}
use Rattle.rk_inv_events.proofs.request.Choices.{IsFresh, fresh, put_off, redirected}
use Rattle.rk_inv_lanes.proofs.late.Tests.{each_fails, none_passes}
use Rattle.rk_inv_wellformed.proofs.lanes.Events.{no_second}
use Rattle.rk_inv_events.proofs.Words.{find_is_got, find_passes, not-false, serves_key}
use Rattle.rk_inv_events.proofs.pulls.Targets.{receiving_is}

-- ---- Moved

pub moved_justified : (master : Master) (call : Call) → choice_of master call ≡ Redirects → MayAnswerMoved master call
moved_justified master call chose =
    none_passes (λ entry. serves_key call.table call.key entry.1) master.tablets (redirected master call chose)

-- ---- NotYet

none_of : {X : Type 0} (o : Option X) → is_some o ≡ false → o ≡ None
none_of None none = refl
none_of (Some x) none = absurd (cc none)

pub not_yet_justified : (master : Master) (call : Call) (tablet : ℕ) → IsInOrder master.tablets → choice_of master call ≡ Wants tablet
    → MayAnswerNotYet master call tablet
not_yet_justified master call number order chose =
    let its : IsFresh master call (Wants number) = fresh master call (Wants number) tt chose in
    let state : Option Held = state_of master call in
    let lacks = put_off its.number its.tablet call state number its.choice_is in
    subst (MayAnswerNotYet master call) lacks.same
    (may its.number its.tablet its.serves lacks.needs
    (each_fails (is_some state) (not (is_receiving its.tablet.handover.role)) (contains its.tablet.pulling.hashes.resolved (hash_of call.key))
    (nat_lt (bucket_of (hash_of call.key)) its.tablet.pulling.token.bucket) lacks.unknown))
  where
    may : (n : ℕ) (tablet : Tablet) → serving master call.table call.key ≡ Some (n, tablet) → needs_state call.op ≡ true
        → (is_some (state_of master call) ≡ false) × (not (is_receiving tablet.handover.role) ≡ false)
        × (contains tablet.pulling.hashes.resolved (hash_of call.key) ≡ false)
        × (nat_lt (bucket_of (hash_of call.key)) tablet.pulling.token.bucket ≡ false)
        → MayAnswerNotYet master call n
    may n tablet serves needs lacks =
        let here : tablet_at master n ≡ tablet = ap (λ (o : Option Tablet). unwrap_or o no_tablet)
        (find_is_got (λ (entry : ℕ × Tablet). serves_key call.table call.key entry.1) master.tablets (n, tablet) order serves) in
        let passes : (is_serving tablet.handover.role && has_key tablet.handover.range call.table call.key) ≡ true =
        find_passes (λ (entry : ℕ × Tablet). serves_key call.table call.key entry.1) master.tablets (n, tablet) serves in
        let none : state_of master call ≡ None = none_of (state_of master call) lacks.0 in
        record {
          receiving = ap (λ (t : Tablet). t.handover.role) here ∙ receiving_is tablet.handover.role (not-false (is_receiving tablet.handover.role) lacks.1);
          key_here = grind (arith, has_key, and_parts, is_serving, call.table, call.key, tablet.handover.role, tablet.handover.range);
          needs = needs;
          absent = grind (arith, no_second, is_mutation, newest, items_of, staged, found, call.op, call.table, call.key, master.records);
          undecided = none;
          unresolved = ap (λ (t : Tablet). contains t.pulling.hashes.resolved (hash_of call.key)) here ∙ lacks.2;
          not_passed = rw here (ltb-false (bucket_of (hash_of call.key)) tablet.pulling.token.bucket lacks.3);
        }
