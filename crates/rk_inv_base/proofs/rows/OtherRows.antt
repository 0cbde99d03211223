-- What is known of rows when one is replaced by another of its number and range: each other one is of another number.
use Rattle.rk_inv_base.proofs.Words.{◌≡◌, true, false, eqb, List, sym, subst, ◌∙◌, ⊎_elim, inl, inr, ◌⊎◌, All, Contains, eqb-true}
use Rattle.rk_inv_base.proofs.Words.{cases_Bool, All-contains, lawful_turned, IsTabletMap, replaced, Row}
use Rattle.rk_inv_base.proofs.Base.{same_number, all_by, new_stands, stands_found, stood}
use Rattle.rk_inv_base.proofs.pulls.Joining.{differ}

module _ (rows : List Row) (old new : Row) (apart : IsTabletMap rows) (has : Contains rows old) (number : new.tablet ≡ old.tablet) (range : new.range ≡ old.range) where
  -- what is there after a row is replaced is the new row, or was there before and has another number
  pub stood_apart : (x : Row) → Contains (replaced old.tablet new rows) x → (x ≡ new) ⊎ (Contains rows x × (x.tablet ≡ old.tablet → ⊥))
  stood_apart x stands =
      let found = stands_found rows old apart has in
      ⊎_elim
      (λ (same : eqb x.tablet old.tablet ≡ true).
      inl (same_number (replaced old.tablet new rows) x new (lawful_turned rows old.tablet old new found number range apart) stands
      (new_stands rows old.tablet old new found) (eqb-true x.tablet old.tablet same ∙ sym number)))
      (λ (other : eqb x.tablet old.tablet ≡ false).
      ⊎_elim (λ (is : x ≡ new). inl is) (λ (before : Contains rows x). inr (before, differ x.tablet old.tablet other))
      (stood rows old.tablet new x stands))
      (cases_Bool (eqb x.tablet old.tablet))

  -- what holds of each row goes on to hold as something else does, of the new one and of each other
  pub all_others : (P Q : Row → Type 0) → (P old → Q new) → ((x : Row) → Contains rows x → (x.tablet ≡ old.tablet → ⊥) → P x → Q x) → All P rows → All Q (replaced old.tablet new rows)
  all_others P Q goes others all =
      all_by Q (replaced old.tablet new rows)
      (λ x stands.
      ⊎_elim (λ (is : x ≡ new). subst Q (sym is) (goes (All-contains P rows old all has)))
      (λ (before : Contains rows x × (x.tablet ≡ old.tablet → ⊥)). others x before.0 before.1 (All-contains P rows x all before.0))
      (stood_apart x stands))
