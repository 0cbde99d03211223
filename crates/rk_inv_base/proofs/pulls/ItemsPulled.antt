-- What a target has that pulls, once one more item was replayed; and what another master has of a row that the item is not of.
use Rattle.rk_inv_base.proofs.Words.{◌≡◌, ℕ, zero, suc, ◌<◌, false, List, [], ◌∷◌, ◌++◌, length, Option, sym, ap, ◌∙◌, subst, ◌⊎◌, inl, inr}
use Rattle.rk_inv_base.proofs.Words.{⊎_elim, arith, slice_index_or, slice_set, Contains, flat_map, length-set, false≢true}
use Rattle.rk_inv_base.proofs.Words.{false_from_ne_true, Contains-append_cases, Contains-append_left, Contains-append_right, Contains-push}
use Rattle.rk_inv_base.proofs.Words.{Contains-push_cases, Held, Range, Entry, is_in, with_newer, IsInScanOrder, Handover, Role, none_stands}
use Rattle.rk_inv_base.proofs.Words.{Handed, with_pulled, Pulling, Written, IsBare, IsTarget, copied_items, is_joining, scan_items}
use Rattle.rk_inv_base.proofs.Words.{IsTableOf}
use Rattle.rk_transfer.specs.declared.role.Role.TheVariants as roles
use Rattle.rk_inv_base.proofs.calls.Records.{found_still, in_by_key, newer_cases, other_stays}
use Rattle.rk_inv_base.proofs.logs.InRange.{HaveSame, none_same, table_same}

-- ---- lists of items, one of which has one more

module _ (item : Held) where
  -- the lists, with the item at the end of one
  abbrev with_one : List (List Held) → ℕ → List (List Held)
  with_one lists place = slice_set lists place (slice_index_or lists place [] ++ item ∷ [])

  abbrev all_of : List (List Held) → List Held
  all_of lists = flat_map (λ items. items) lists

  one_cases : (lists : List (List Held)) (place : ℕ) (x : Held) → Contains (all_of (with_one lists place)) x → (item ≡ x) ⊎ Contains (all_of lists) x
  one_cases [] place x stands = absurd (none_stands x stands)
  one_cases (items ∷ lists) zero x stands =
      ⊎_elim
      (λ (here : Contains (items ++ item ∷ []) x).
      ⊎_elim (λ (old : Contains items x). inr (Contains-append_left items (all_of lists) x old)) (λ (is : item ≡ x). inl is)
      (Contains-push_cases items item x here))
      (λ (there : Contains (all_of lists) x). inr (Contains-append_right items (all_of lists) x there))
      (Contains-append_cases (items ++ item ∷ []) (all_of lists) x stands)
  one_cases (items ∷ lists) (suc place) x stands =
      ⊎_elim
      (λ (here : Contains items x). inr (Contains-append_left items (all_of lists) x here))
      (λ (there : Contains (all_of (with_one lists place)) x).
      ⊎_elim (λ (is : item ≡ x). inl is) (λ (old : Contains (all_of lists) x). inr (Contains-append_right items (all_of lists) x old))
      (one_cases lists place x there))
      (Contains-append_cases items (all_of (with_one lists place)) x stands)

  one_keeps : (lists : List (List Held)) (place : ℕ) (x : Held) → Contains (all_of lists) x → Contains (all_of (with_one lists place)) x
  one_keeps [] place x stands = stands
  one_keeps (items ∷ lists) zero x stands =
      ⊎_elim
      (λ (here : Contains items x).
      Contains-append_left (items ++ item ∷ []) (all_of lists) x (Contains-append_left items (item ∷ []) x here))
      (λ (there : Contains (all_of lists) x). Contains-append_right (items ++ item ∷ []) (all_of lists) x there)
      (Contains-append_cases items (all_of lists) x stands)
  one_keeps (items ∷ lists) (suc place) x stands =
      ⊎_elim
      (λ (here : Contains items x). Contains-append_left items (all_of (with_one lists place)) x here)
      (λ (there : Contains (all_of lists) x). Contains-append_right items (all_of (with_one lists place)) x (one_keeps lists place x there))
      (Contains-append_cases items (all_of lists) x stands)

  one_stands : (lists : List (List Held)) (place : ℕ) → place < length lists → Contains (all_of (with_one lists place)) item
  one_stands [] place within = absurd (omega (arith, within))
  one_stands (items ∷ lists) zero within = Contains-append_left (items ++ item ∷ []) (all_of lists) item (Contains-push items item)
  one_stands (items ∷ lists) (suc place) within =
      Contains-append_right items (all_of (with_one lists place)) item (one_stands lists place (omega (arith, within)))

-- ---- targets

module _ (range : Range) (source : ℕ) (truth material : List Entry) (from : ℕ) (written : Written) (handover : Handover) (handed : Option Handed) (records : List Held) (pulling : Pulling) (item : Held) (order : IsInScanOrder records) where
  -- a target that pulls so, with these records
  abbrev Targets : Pulling → List Held → Type 0
  Targets p table = IsTarget range source truth material from written handover p handed table

  -- a target goes on that replays an item of its source
  pub target_replays : (worker : ℕ) → worker < 4 → handover.role ≡ roles.Receiving → Contains (scan_items truth) item → Targets pulling records → Targets (with_pulled pulling worker item) (with_newer item records)
  target_replays worker few role_is of_source old =
      let now : Pulling = with_pulled pulling worker item in
      let Copied : Pulling → Held → Type 0 = λ p. Contains (copied_items handover.role p written.sides) in
      let is : (p : Pulling) → copied_items handover.role p written.sides ≡ flat_map (λ items. items) p.sides = λ p.
      ap (λ (r : Role). copied_items r p written.sides) role_is in
      let keeps : (x : Held) → Copied pulling x → Copied now x = λ x stands.
      rw (is now) (one_keeps item pulling.sides worker x (subst (λ (list : List Held). Contains list x) (is pulling) stands)) in
      record {
        from_source = old.from_source;
        workers = length-set pulling.sides worker (slice_index_or pulling.sides worker [] ++ item ∷ []) ∙ old.workers;
        pulled = λ joins. absurd (false≢true (sym (ap is_joining role_is) ∙ joins));
        received = record {
          within = λ x stands.
              ⊎_elim (λ (same : item ≡ x). subst (Contains (scan_items truth)) same of_source)
              (λ (before : Contains (flat_map (λ items. items) pulling.sides) x).
              old.received.within x (subst (λ (list : List Held). Contains list x) (sym (is pulling)) before))
              (one_cases item pulling.sides worker x (subst (λ (list : List Held). Contains list x) (is now) stands));
          copied = λ x stands arrived.
              ⊎_elim (λ copied. inl (keeps x copied)) (λ outdone. inr outdone) (old.received.copied x stands arrived);
          come = λ x stands inside.
              ⊎_elim
              (λ (same : item ≡ x).
              inr (subst (Copied now) same
              (rw (is now) (one_stands item pulling.sides worker (omega (arith, few, old.workers))))))
              (λ (before : Contains records x).
              ⊎_elim (λ own. inl own) (λ copied. inr (keeps x copied)) (old.received.come x before inside))
              (newer_cases item records x stands);
          found = λ x come. found_still item records x order (old.received.found x come);
        };
        above = old.above;
        told = old.told;
        early = old.early;
        closing = old.closing;
      }

-- ---- what an item that is not of a range leaves of it

module _ (range : Range) (item : Held) (records : List Held) (outside : is_in range item ≡ false) where
  -- the records have the same items of the range
  pub beside_same : HaveSame range records (with_newer item records)
  beside_same = record {
    come = λ x inside stands.
        ⊎_elim
        (λ (same : item ≡ x). absurd (false≢true (sym outside ∙ ap (is_in range) same ∙ inside)))
        (λ (before : Contains records x). before)
        (newer_cases item records x stands);
    stays = λ x inside stands.
        other_stays item records x stands
        (false_from_ne_true _ (λ same. false≢true (sym outside ∙ sym (in_by_key range item x same) ∙ inside)));
  }

  -- so a master that made ready has still nothing of it
  pub bare_beside : (from : ℕ) (written : Written) → IsBare range from written records → IsBare range from written (with_newer item records)
  bare_beside from written bare = assumption (none_same range records (with_newer item records) beside_same bare.empty)

  -- and a table has all of it still
  pub table_beside : (material : List Entry) → IsTableOf range material records → IsTableOf range material (with_newer item records)
  table_beside = table_same range records (with_newer item records) beside_same
