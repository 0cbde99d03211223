-- What a target has that pulls, once its log has one more entry at its end.
use Rattle.rk_inv_base.proofs.Words.{◌≡◌, ℕ, ◌≤◌, ◌<◌, true, false, List, [], ◌∷◌, ◌++◌, length, Option, Some, None, sym, ap, ◌∙◌, subst}
use Rattle.rk_inv_base.proofs.Words.{⊎_elim, arith, drop, take, All, Contains, append-nil, length-append, cases_Bool, cond-true, cond-false}
use Rattle.rk_inv_base.proofs.Words.{take-append-le, drop-append-le, flat_map-append, All-append, filter-append, IfSome_then, list_any}
use Rattle.rk_inv_base.proofs.Words.{Held, Range, slice_get_front, Entry, Handover, Handed, items_in, items_of, touches, counts, counting}
use Rattle.rk_inv_base.proofs.Words.{is_joined_in, Pulling, Written, IsTarget, IsReceived, IsBare, HasArrived, HasClosing, beginning_of}
use Rattle.rk_inv_base.proofs.Words.{before_closing, closing_joined, copied_items, entries_from, scan_items, joined_place, with_counter}
use Rattle.rk_inv_base.proofs.Words.{with_one_more}
use Rattle.rk_inv_base.proofs.logs.Shares.{joined_same}
use Rattle.rk_inv_base.proofs.views.Places.{behind_none}
use Rattle.rk_inv_base.proofs.logs.Grows.{Extends, drop_extends, still_contains, take_extends}

-- each version among some is below this item's
abbrev pub AreBelow : List Held → Held → Type 0
AreBelow others item = All (λ other. other.version < item.version) others

-- the closing entries of a log with one more entry, which is none
pub closing_push : (place : Option ℕ) (closing : Entry) (range : Range) (from : ℕ) (list : List Entry) (entry : Entry) → is_joined_in range entry ≡ false → HasClosing place closing range from list → HasClosing place closing range from (list ++ entry ∷ [])
closing_push place closing range from list entry other has = grind (arith, joined_same, slice_get_front)

-- what the source handed over is before the closing entry, also with more at the end
pub told_push : (place : Option ℕ) (from : ℕ) (list behind : List Entry) (entry : Entry) → Contains (drop from (before_closing place list)) entry → Contains (drop from (before_closing place (list ++ behind))) entry
told_push None from list behind entry told = still_contains _ _ entry (drop_extends from list behind) told
told_push (Some place) from list behind entry told =
    let first : Extends (take place list) (take place (list ++ behind)) = take_extends place place list behind (omega arith) in
    rw first.parts (still_contains _ _ entry (drop_extends from (take place list) first.more) told)

-- what holds of a target's own items holds with those of one more entry, if it is of the range
module _ (range : Range) (from : ℕ) (list : List Entry) (entry : Entry) (within : from ≤ length list) where
  pub own_push : (P : Held → Type 0) → All P (items_of (entries_from range from list)) → (counts range entry ≡ true → All P (items_in entry)) → All P (items_of (entries_from range from (list ++ entry ∷ [])))
  own_push P old new =
      let own : List Entry = entries_from range from list in
      let parts : entries_from range from (list ++ entry ∷ []) ≡ own ++ counting range (entry ∷ []) =
      ap (counting range) (drop-append-le from list (entry ∷ []) within) ∙ filter-append (counts range) (drop from list) (entry ∷ []) in
      rw parts (⊎_elim
      (λ (inside : counts range entry ≡ true).
      rw (cond-true (counts range entry) (entry ∷ []) [] inside) (rw (flat_map-append items_in own (entry ∷ []) ∙ ap (λ (l : List Held). items_of own ++ l) (append-nil (items_in entry)))
      (All-append P (items_of own) (items_in entry) old (new inside))))
      (λ (outside : counts range entry ≡ false).
      subst (λ (more : List Entry). All P (items_of (own ++ more))) (sym (cond-false (counts range entry) (entry ∷ []) [] outside))
      (subst (λ (all : List Entry). All P (items_of all)) (sym (append-nil own)) old))
      (cases_Bool (counts range entry)))

module _ (range : Range) (source : ℕ) (truth material : List Entry) (from : ℕ) (handover : Handover) (pulling : Pulling) (handed : Option Handed) (table : List Held) where
  -- a target that has written this
  abbrev Targets : Written → Type 0
  Targets w = IsTarget range source truth material from w handover pulling handed table

  -- a target goes on with another counter
  pub target_counted : (counter : ℕ) (w : Written) → Targets w → IsTarget range source truth material from w (with_counter counter handover) pulling handed table
  target_counted counter w old = assumption

  -- a target that wrote an entry, whose items are above each one of its source if it is of the range
  pub target_pushed : (w : Written) (entry : Entry) → w.applied ≤ length w.entries → from ≤ length w.entries → is_joined_in range entry ≡ false → (counts range entry ≡ true → All (AreBelow (items_of material)) (items_in entry)) → Targets w → Targets (with_one_more w entry)
  target_pushed w entry fits within other new old =
      assumption (
        subst
            (λ (sure : List Entry). IsReceived (HasArrived handover.role pulling (scan_items truth)) range (scan_items truth)
            (items_of (entries_from range from sure)) (copied_items handover.role pulling w.sides) table)
            (sym (take-append-le w.applied w.entries (entry ∷ []) fits)) old.received,
        own_push range from w.entries entry within (AreBelow (items_of material)) old.above new,
        IfSome_then handed old.told (λ h told. told_push (joined_place handover.role) from w.entries (entry ∷ []) (beginning_of handover h) told),
        ap (λ (all : List Entry). list_any (touches range) (drop w.applied all)) (take-append-le from w.entries (entry ∷ []) within) ∙ old.early,
        closing_push (joined_place handover.role) (closing_joined handover pulling.sealed) range from w.entries entry other old.closing,
      )

-- a master that made ready for a tablet, and wrote an entry of another range, has nothing of the tablet
pub bare_pushed : (range : Range) (from : ℕ) (w : Written) (table : List Held) (entry : Entry) → touches range entry ≡ false → IsBare range from w table → IsBare range from (with_one_more w entry) table
bare_pushed range from w table entry outside bare = grind (arith, length-append, behind_none, touches)
