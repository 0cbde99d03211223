-- Tablets of a master: how many side segments they wait for, their handover, and what they have beside it; and the tablet that a master has
-- under a number.
use Rattle.std.proofs.Common.{false, ◌≡◌, ◌≤◌, ◌<◌, ℕ, true, All, List, [], ◌∷◌, Option, Some, unwrap_or, refl, sym, ap, subst, arith}
use Rattle.std.proofs.Common.{w32, w64, ◌+◌, length, max, None, Bool, ◌&&◌}
use Rattle.rk_inv_wellformed.proofs.Words.{All-take, All-drop, All-nil, All-push, get_other, get_same, IsInOrder, get, Ended}
use Rattle.rk_inv_wellformed.proofs.Words.{IsLawfulRange, IsNumber, ends_of, noted, Handover, IsFormedGathered, IsFormedMaster}
use Rattle.rk_inv_wellformed.proofs.Words.{IsFormedPulling, IsFormedTablet, place_in, AreOfDistinctClients, IsFormedEnd, IsFormedHeld}
use Rattle.rk_inv_wellformed.proofs.Words.{IsFormedNumber, Limits, Master, tablet_at, with_tablet, with_outstanding, IsMaster}
use Rattle.rk_inv_wellformed.proofs.Words.{with_pulling, counted_up, with_wanted, is_receiving, Pulling, Tablet, no_tablet, pulling_from}
use Rattle.rk_inv_wellformed.proofs.Words.{with_handover, Hashes, NumberMap, changed_each, insert, Role, side_waits, side_waits_of}
use Rattle.rk_inv_wellformed.proofs.Words.{side_waits_in, sum-map, and_parts, is_absent, batched, batched_by, is_known, wanting}
use Rattle.std.specs.List.{IsDistinct}
use Rattle.rk_priority.specs.declared.wanted.TheConstants.{BATCH_HASHES}
use Rattle.rk_inv_wellformed.proofs.maps.{noted_each, noted_order, either_way, each_or, sum_changed, sum_put}
use Rattle.rk_inv_wellformed.proofs.masters.MergedOnce.{none_twice}

-- ---- by role

-- a role in which no side segment is waited for
abbrev pub WaitsForNone : Role → Type 0
WaitsForNone role = (sealed : List ℕ) → side_waits_in role sealed ≡ 0

-- a tablet in such a role waits for no more than any number
pub none_waits : (role : Role) (sealed : List ℕ) (n : ℕ) → WaitsForNone role → side_waits_in role sealed ≤ n
none_waits role sealed n none = omega (arith, none sealed)

-- and so does one in a role that is such a one
pub none_waits_in : (role named : Role) (sealed : List ℕ) (n : ℕ) → role ≡ named → WaitsForNone named → side_waits_in role sealed ≤ n
none_waits_in role named sealed n is none = omega (arith, ap (λ (r : Role). side_waits_in r sealed) is, none sealed)

-- a target that pulls waits for none
pub receiving_waits : (role : Role) → is_receiving role ≡ true → WaitsForNone role
receiving_waits Role.Receiving is sealed = refl
receiving_waits _ is sealed = absurd (cc is)

-- in any role no more is waited for than was sealed, or one
pub waits_few : (role : Role) (sealed : List ℕ) → side_waits_in role sealed ≤ max 1 (length sealed)
waits_few (Role.Joining None) sealed = omega arith
waits_few _ sealed = omega arith

-- ---- at a master

-- a tablet counts in place of what was there
pub waits_inserted : (master : Master) (id : ℕ) (tablet : Tablet) → IsInOrder master.tablets
    → side_waits (insert master.tablets id tablet) + side_waits_of (tablet_at master id) ≡ side_waits master.tablets + side_waits_of tablet
waits_inserted master id tablet order = omega (arith, sum_put side_waits_of no_tablet refl master.tablets id tablet order, sum-map {X = ℕ × Tablet})

-- if no tablet waits for more, neither do all of them together
pub waits_changed : (change : ℕ → Tablet → Tablet)
    → ((number : ℕ) (tablet : Tablet) → side_waits_of (change number tablet) ≤ side_waits_of tablet)
    → (tablets : NumberMap Tablet) → side_waits (changed_each change tablets) ≤ side_waits tablets
waits_changed change less tablets = sum_changed side_waits_of change less tablets

-- ---- parts of a tablet

-- a handover of a tablet that pulls, if it receives, from this master
pub record IsFormedHandover (limits : Limits) (source : ℕ) (handover : Handover) : Type 0 where
  pub term : IsFormedNumber limits handover.term
  pub place : IsNumber w64 0 (place_in handover.role)
  pub range : IsLawfulRange handover.range
  pub counter : IsFormedNumber limits handover.counter
  pub source_is : is_receiving handover.role ≡ true → IsMaster limits.masters source

-- what a tablet has beside its handover, also a tablet that a master does not know
pub record IsFormedRest (limits : Limits) (tablet : Tablet) : Type 0 where
  pub order : IsInOrder tablet.completions
  pub ended : All (IsFormedEnd limits) (ends_of tablet.completions)
  pub pulled : IsFormedPulling limits tablet.pulling
  pub gathered : All (IsFormedGathered limits) tablet.gather.members
  pub merged : All (IsFormedEnd limits) tablet.merged_ends
  pub merged_once : AreOfDistinctClients tablet.merged_ends

-- a tablet is well formed if its number, its handover and the rest are
pub formed_tablet : {limits : Limits} {number : ℕ} (tablet : Tablet) → IsNumber w32 1 number
    → IsFormedHandover limits tablet.pulling.source tablet.handover → IsFormedRest limits tablet → IsFormedTablet limits number tablet
formed_tablet tablet is handover rest = assumption

-- the handover of a well formed tablet is well formed
pub handover_of : {limits : Limits} {number : ℕ} {tablet : Tablet} → IsFormedTablet limits number tablet
    → IsFormedHandover limits tablet.pulling.source tablet.handover
handover_of formed = assumption

-- and so is what it has beside it
pub rest_of : {limits : Limits} {number : ℕ} {tablet : Tablet} → IsFormedTablet limits number tablet → IsFormedRest limits tablet
rest_of formed = assumption

-- nothing is pulled so far
pub formed_pulling_from : (limits : Limits) (source : ℕ) → IsFormedPulling limits (pulling_from source)
unfolding IsDistinct
formed_pulling_from limits source = record {
  token = (omega arith, omega arith);
  wanted = All-nil (IsNumber w64 0);
  outstanding = All-nil (IsNumber w64 0);
  workers = refl;
  items = All-nil (IsFormedHeld limits);
  sealed = record { each = All-nil _; distinct = tt };
}

-- a handover in a role that names no place, and in which nothing is pulled
pub formed_in_role : {limits : Limits} {source : ℕ} {handover : Handover} (r after : Role) → r ≡ after → place_in after ≡ 0 → is_receiving after ≡ false
    → IsFormedHandover limits source handover → IsFormedHandover limits source (record handover { role = r })
formed_in_role {limits} {source} r after is none still formed = grind (arith, w64, place_in, is_receiving)

-- a role that passes a test which Absent does not is not Absent
pub role_there : (test : Role → Bool) → test Role.Absent ≡ false → (role : Role) (at_term : Bool) → (test role && at_term) ≡ true → is_absent role ≡ false
role_there test none Role.Absent at_term is = absurd (cc (none, (and_parts (test Role.Absent) at_term is).0))
role_there test none _ at_term is = refl

-- ---- a tablet with another part

-- a tablet with another handover
pub formed_with_handover : {limits : Limits} {number : ℕ} {tablet : Tablet} {handover : Handover} → IsFormedTablet limits number tablet
    → IsFormedHandover limits tablet.pulling.source handover → IsFormedTablet limits number (with_handover tablet handover)
formed_with_handover formed new = assumption

-- the counter of a tablet rises by one
pub formed_counted_up : {limits : Limits} {number : ℕ} {tablet : Tablet} → IsFormedTablet limits number tablet → tablet.handover.counter < limits.top
    → IsFormedTablet limits number (counted_up tablet)
formed_counted_up {limits} {tablet} formed below = grind arith

-- a tablet that notes the end of a call
pub formed_noting : {limits : Limits} {number : ℕ} {tablet : Tablet} {end : Ended} → IsFormedTablet limits number tablet → IsFormedEnd limits end
    → IsFormedTablet limits number (record tablet { completions = noted tablet.completions end })
formed_noting {limits} {tablet} {end} formed new =
    assumption (noted_order tablet.completions end formed.order, noted_each (IsFormedEnd limits) tablet.completions end formed.ended new)

-- a tablet that pulls so
pub formed_with_pulling : {limits : Limits} {number : ℕ} {tablet : Tablet} (pulling : Pulling) → IsFormedTablet limits number tablet
    → IsFormedPulling limits pulling → (is_receiving tablet.handover.role ≡ true → IsMaster limits.masters pulling.source)
    → IsFormedTablet limits number (with_pulling tablet pulling)
formed_with_pulling pulling formed new source = assumption

-- ---- hashes

-- hashes whose wanted and outstanding ones can be spelled
pub record AreFormedHashes (hashes : Hashes) : Type 0 where
  pub wanted : All (IsNumber w64 0) hashes.wanted
  pub outstanding : All (IsNumber w64 0) hashes.outstanding

-- one more hash is wanted
pub formed_wanting : {hashes : Hashes} {hash : ℕ} → AreFormedHashes hashes → IsNumber w64 0 hash → AreFormedHashes (wanting hashes hash)
formed_wanting {hashes} {hash} formed new = either_way AreFormedHashes (is_known hashes hash) formed
    (record { wanted = All-push (IsNumber w64 0) hashes.wanted hash formed.wanted new; outstanding = formed.outstanding })

-- the wanted hashes become a batch, if none is outstanding
pub formed_batched : {hashes : Hashes} → AreFormedHashes hashes → AreFormedHashes (batched hashes)
formed_batched {hashes} formed = go hashes.outstanding
  where
    go : (outstanding : List ℕ) → AreFormedHashes (batched_by hashes outstanding)
    go [] =
        assumption (All-drop (IsNumber w64 0) BATCH_HASHES hashes.wanted formed.wanted, All-take (IsNumber w64 0) BATCH_HASHES hashes.wanted formed.wanted)
    go (hash ∷ more) = formed

-- the hashes of what is pulled
pub hashes_of : {limits : Limits} {pulling : Pulling} → IsFormedPulling limits pulling → AreFormedHashes pulling.hashes
hashes_of formed = assumption

-- pulling with other hashes
pub pulling_with_hashes : {limits : Limits} {pulling : Pulling} {hashes : Hashes} → IsFormedPulling limits pulling → AreFormedHashes hashes
    → IsFormedPulling limits (record pulling { hashes = hashes })
pulling_with_hashes formed new = assumption

-- a hash is wanted for a tablet
pub formed_with_wanted : {limits : Limits} {number : ℕ} {tablet : Tablet} {hash : ℕ} → IsFormedTablet limits number tablet → IsNumber w64 0 hash
    → IsFormedTablet limits number (with_wanted tablet hash)
formed_with_wanted {tablet} {hash} formed new =
    formed_with_pulling (record tablet.pulling { hashes = wanting tablet.pulling.hashes hash }) formed
    (pulling_with_hashes formed.pulled (formed_wanting (hashes_of formed.pulled) new)) formed.source

-- the wanted hashes of a tablet become a batch
pub formed_with_outstanding : {limits : Limits} {number : ℕ} {tablet : Tablet} → IsFormedTablet limits number tablet
    → IsFormedTablet limits number (with_outstanding tablet)
formed_with_outstanding {tablet} formed =
    formed_with_pulling (record tablet.pulling { hashes = batched tablet.pulling.hashes }) formed
    (pulling_with_hashes formed.pulled (formed_batched (hashes_of formed.pulled))) formed.source

-- ---- the tablet under a number

-- the tablet that is found
pub tablet_found : (master : Master) (number : ℕ) (tablet : Tablet) → get master.tablets number ≡ Some tablet → tablet_at master number ≡ tablet
tablet_found master number tablet is = ap (λ (found : Option Tablet). unwrap_or found no_tablet) is

-- a tablet that is found is well formed
pub formed_found : {limits : Limits} {number : ℕ} {master : Master} (id : ℕ) (tablet : Tablet) → IsFormedMaster limits number master
    → get master.tablets id ≡ Some tablet → IsFormedTablet limits id (tablet_at master id)
formed_found {limits} {master} id tablet formed is =
    subst (IsFormedTablet limits id) (sym (tablet_found master id tablet is)) (formed.tablets id tablet is)

-- what any tablet of a master has beside its handover
pub rest_at : (limits : Limits) (number : ℕ) (master : Master) (id : ℕ) → IsFormedMaster limits number master
    → IsFormedRest limits (tablet_at master id)
rest_at limits number master id formed = each_or (λ id tablet. IsFormedRest limits tablet) no_tablet master.tablets id
    (assumption (All-nil (IsFormedEnd limits), formed_pulling_from limits 0, All-nil (IsFormedGathered limits), none_twice))
    (λ id tablet is. rest_of (formed.tablets id tablet is))

-- its counter counts from 1, and its term is no greater than the greatest number
pub counter_at : {limits : Limits} {number : ℕ} {master : Master} (id : ℕ) → IsFormedMaster limits number master → 1 ≤ limits.top
    → IsFormedNumber limits (tablet_at master id).handover.counter
counter_at {limits} {master} id formed some =
    each_or (λ id tablet. IsFormedNumber limits tablet.handover.counter) no_tablet master.tablets id (omega (arith, some))
    (λ id tablet is. (formed.tablets id tablet is).counter)

-- what is found once a tablet is so
pub tablet_with_same : (master : Master) (id : ℕ) (tablet : Tablet) → tablet_at (with_tablet master id tablet) id ≡ tablet
tablet_with_same master id tablet =
    ap (λ (found : Option Tablet). unwrap_or found no_tablet) (get_same master.tablets id tablet id refl)

-- what is found under another number
pub tablet_with_other : (master : Master) (id : ℕ) (tablet : Tablet) (q : ℕ) → (q ≡ id → ⊥)
    → tablet_at (with_tablet master id tablet) q ≡ tablet_at master q
tablet_with_other master id tablet q apart =
    ap (λ (found : Option Tablet). unwrap_or found no_tablet) (get_other master.tablets id tablet q apart)
