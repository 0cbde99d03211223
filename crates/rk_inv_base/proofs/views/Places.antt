-- What is behind a place of a list, and how that changes with one more element at its end.
use Rattle.rk_inv_base.proofs.Words.{◌≡◌, ℕ, zero, suc, ◌≤◌, Bool, true, false, List, [], ◌∷◌, ◌++◌, Some, refl, ap, ◌∙◌, drop, slice_get}
use Rattle.rk_inv_base.proofs.Words.{or_from, or_parts, list_any, list_any_at, slice_get_within, get_or_from_slice_get}
use Rattle.rk_inv_base.proofs.logs.InRest.{behind_at}

-- something behind a place passes a test if the element at that place or a later one does
pub behind_any : {X : Type 0} (p : X → Bool) (xs : List X) (count place : ℕ) (x : X) → count ≤ place → slice_get xs place ≡ Some x → p x ≡ true → list_any p (drop count xs) ≡ true
behind_any p xs count place x behind at passes =
    let found = behind_at xs count place x behind at in
    list_any_at p (drop count xs) found.0 x (slice_get_within (drop count xs) found.0 x found.1)
    (ap p (get_or_from_slice_get (drop count xs) found.0 x x found.1) ∙ passes)

-- if nothing behind a place passes, nothing does with one more element that fails
pub behind_none : {X : Type 0} (p : X → Bool) (xs : List X) (count : ℕ) (x : X) → list_any p (drop count xs) ≡ false → p x ≡ false → list_any p (drop count (xs ++ x ∷ [])) ≡ false
behind_none p [] zero x none fails = or_from (p x) false fails refl
behind_none p [] (suc zero) x none fails = refl
behind_none p [] (suc (suc count)) x none fails = refl
behind_none p (y ∷ xs) zero x none fails =
    let parts = or_parts (p y) (list_any p xs) none in
    or_from (p y) (list_any p (xs ++ x ∷ [])) parts.0 (behind_none p xs zero x parts.1 fails)
behind_none p (y ∷ xs) (suc count) x none fails = behind_none p xs count x none fails
