-- What is found in the small world: its one master, tablet, backup and client, and its four messages.
use Rattle.rk_inv_base.proofs.Words.{◌≡◌, ℕ, zero, suc, Bool, false, cond, eqb, [], ◌∷◌, Option, Some, None, refl, sym, ap, subst, ◌∙◌}
use Rattle.rk_inv_base.proofs.Words.{⊎_elim, arith, All, Contains, slice_get, unwrap_or, eq-eqb, ne_eqb, cases_eq, cond-true, cond-false}
use Rattle.rk_inv_base.proofs.Words.{All-nil, All-cons, All-contains, unsigned_tied, each_insert, EachIn, get, Message, asked_by, Master}
use Rattle.rk_inv_base.proofs.Words.{new_master, tablet_at, Tablet, no_tablet, master_at, tablet_in, LastCall, Owner, Bystander, post_of}
use Rattle.rk_inv_base.proofs.example.SmallWorld.{small_world, small_master, small_tablet, small_last, small_wire, small_request}
use Rattle.rk_inv_base.proofs.example.SmallWorld.{small_append, small_told, small_reply, small_ledger, small_row}

-- what is found in a table of one thing
pub found_one : {X : Type 0} (number : ℕ) (thing : X) (q : ℕ) → get ((number, thing) ∷ []) q ≡ cond (eqb q number) (Some thing) None
found_one number thing q = ap (λ (b : Bool). cond b (Some thing) None) (unsigned_tied q number)

-- what holds of the one thing, and of nothing under each other number, holds of what is found
pub each_found : {X : Type 0} (P : ℕ → Option X → Type 0) (number : ℕ) (thing : X) → P number (Some thing) → ((q : ℕ) → (q ≡ number → ⊥) → P q None) → (q : ℕ) → P q (get ((number, thing) ∷ []) q)
each_found {X} P number thing here others q =
    ⊎_elim
    (λ (is : q ≡ number).
    let e : get ((number, thing) ∷ []) q ≡ Some thing =
    found_one number thing q ∙ cond-true (eqb q number) (Some thing) None (eq-eqb q number is)
    in subst (P q) (sym e) (subst (λ (n : ℕ). P n (Some thing)) (sym is) here))
    (λ (apart : q ≡ number → ⊥).
    let e : get ((number, thing) ∷ []) q ≡ None =
    found_one number thing q ∙ cond-false (eqb q number) (Some thing) None (ne_eqb q number apart)
    in subst (P q) (sym e) (others q apart))
    (cases_eq q number)

-- what holds of the master, and of a new one under each other number, holds of each
pub each_master : (P : ℕ → Master → Type 0) → P 1 small_master → ((q : ℕ) → (q ≡ 1 → ⊥) → P q (new_master q [])) → (q : ℕ) → P q (master_at small_world q)
each_master P here others q = each_found (λ n o. P n (unwrap_or o (new_master n []))) 1 small_master here others q

-- what holds of the tablet at the master, and of no tablet everywhere else, holds of each
pub each_tablet : (P : ℕ → ℕ → Tablet → Type 0) → P 1 1 small_tablet → ((q r : ℕ) → (q ≡ 1 → r ≡ 1 → ⊥) → P q r no_tablet) → (q r : ℕ) → P q r (tablet_in small_world q r)
each_tablet P here others q r =
    each_master (λ n m. P n r (tablet_at m r))
    (each_found (λ t o. P 1 t (unwrap_or o no_tablet)) 1 small_tablet here (λ t apart. others 1 t (λ one. apart)) r)
    (λ n apart. others n r (λ is one. apart is))
    q

-- what holds of the client's call, and of no call of each other client, holds of each
pub each_client : (P : ℕ → Option LastCall → Type 0) → P 1 (Some small_last) → ((q : ℕ) → (q ≡ 1 → ⊥) → P q None) → (q : ℕ) → P q (asked_by small_ledger q)
each_client P here others q = each_found (λ n o. P n (unwrap_or o None)) 1 (Some small_last) here others q

-- nothing is kept in an empty table
pub each_none : {X : Type 0} (Fits : ℕ → X → Type 0) → EachIn Fits []
each_none Fits number thing e = absurd (cc)

-- what holds of the four messages holds of each on the wire
pub each_message : (Fits : ℕ → Message → Type 0) → Fits 1 small_request → Fits 2 small_append → Fits 3 small_told → Fits 4 small_reply → EachIn Fits small_wire
each_message Fits first second third fourth =
    each_insert Fits ((1, small_request) ∷ (2, small_append) ∷ (3, small_told) ∷ []) 4 small_reply
    (each_insert Fits ((1, small_request) ∷ (2, small_append) ∷ []) 3 small_told
    (each_insert Fits ((1, small_request) ∷ []) 2 small_append
    (each_insert Fits [] 1 small_request (each_none Fits) first) second) third) fourth

-- what holds of the request holds of each that is kept
pub each_request : (Fits : ℕ → Message → Type 0) → Fits 1 small_request → EachIn Fits small_ledger.requests
each_request Fits first = each_insert Fits [] 1 small_request (each_none Fits) first

-- what holds of one thing holds of each in a list of it
pub all_one : {X : Type 0} (P : X → Type 0) (x : X) → P x → All P (x ∷ [])
all_one P x h = All-cons P x [] h (All-nil P)

-- a list of one thing contains it
pub one_stands : {X : Type 0} (x : X) → Contains (x ∷ []) x
one_stands x = (0, omega arith, refl)

-- and nothing else
pub only_one : {X : Type 0} (x y : X) → Contains (x ∷ []) y → y ≡ x
only_one x y there = All-contains (λ z. z ≡ x) (x ∷ []) y (all_one (λ z. z ≡ x) x refl) there

-- what is in it is at its first place
pub first_place : {X : Type 0} (x y : X) (place : ℕ) → slice_get (x ∷ []) place ≡ Some y → place ≡ 0
first_place x y zero e = refl
first_place x y (suc place) e = absurd (cc)

-- a number that is not that of the master is not the owner's
pub not_owner : (q : ℕ) → (q ≡ 1 → ⊥) → eqb 1 q ≡ false
not_owner q apart = ne_eqb 1 q (λ e. apart (sym e))

-- so it has nothing to do with the tablet
pub post_elsewhere : (q : ℕ) → (q ≡ 1 → ⊥) → post_of small_row.phase q ≡ Bystander
post_elsewhere q apart = cond-false (eqb 1 q) (Owner 0) Bystander (not_owner q apart)
