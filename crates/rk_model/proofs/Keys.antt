-- A history, key by key: it is legal if the records of each key are, and so is the map after it.
use Rattle.std.proofs.Common.{arith}
use Rattle.std.proofs.Common.{◌≡◌, ℕ, true, false, cond, ◌&&◌, eqb, List, [], ◌∷◌, Option, Some, None, refl, sym, ap, ◌∙◌, subst, ⊎_elim}
use Rattle.std.proofs.lemmas.Bool.{and_parts, and_from, eqb-true, eq-eqb, cond-false, cases_Bool}
use Rattle.std.proofs.lemmas.Bool.Decides.{same_from_decides, Decides-like, Decides-eqb}
use Rattle.std.proofs.lemmas.Slice.Eq.{bytes_eq-Decides}
use Rattle.std.specs.Prelude.{bytes_eq}
use Rattle.rk_types.specs.declared.history.Placed.{Placed}
use Rattle.rk_model.specs.Machine.{Entry, Allowed, change_of}
use Rattle.rk_model.specs.History.{Map, with_change, map_with, map_after, IsLegal, is_at, records_at, IsAllowedIn}

-- two numbers are compared in either order
eqb-swap : (a b : ℕ) → eqb a b ≡ eqb b a
eqb-swap a b = same_from_decides (eqb a b) (eqb b a) (Decides-eqb a b) (Decides-like (eqb b a) sym sym (Decides-eqb b a))

-- and so are two byte strings
pub bytes_eq-swap : (xs ys : List ℕ) → bytes_eq xs ys ≡ bytes_eq ys xs
bytes_eq-swap xs ys =
    same_from_decides (bytes_eq xs ys) (bytes_eq ys xs) (bytes_eq-Decides xs ys)
    (Decides-like (bytes_eq ys xs) sym sym (bytes_eq-Decides ys xs))

-- two names of records are compared in either order
pub name-swap :
    (t u : ℕ) (k l : List ℕ) → (eqb t u && bytes_eq k l) ≡ (eqb u t && bytes_eq l k)
name-swap t u k l = ap (λ b. b && bytes_eq k l) (eqb-swap t u) ∙ ap (λ b. eqb u t && b) (bytes_eq-swap k l)

-- a record is of its own key
pub is_at_own : (placed : Placed) → is_at placed.call.table placed.call.key placed ≡ true
is_at_own placed = grind (arith, and_from, eqb, bytes_eq, eq-eqb, bytes_eq-Decides, placed.call.table, placed.call.key)

-- a record of a key has that table and that key
pub is_at_parts :
    (table : ℕ) (key : List ℕ) (placed : Placed)
    → is_at table key placed ≡ true → (placed.call.table ≡ table) × (placed.call.key ≡ key)
is_at_parts table key placed here =
    let parts = and_parts (eqb placed.call.table table) (bytes_eq placed.call.key key) here in
    (eqb-true placed.call.table table parts.0, (bytes_eq-Decides placed.call.key key).0 parts.1)

-- what is allowed at a key by one map is allowed by another map with the same entry there
pub allowed_same :
    (m n : Map) (table : ℕ) (key : List ℕ) (placed : Placed)
    → is_at table key placed ≡ true → m table key ≡ n table key → IsAllowedIn m placed → IsAllowedIn n placed
allowed_same m n table key placed here same allowed =
    let parts = is_at_parts table key placed here in
    subst (λ (entry : Entry). Allowed entry placed.call.op placed.outcome)
    (ap (λ t. m t placed.call.key) parts.0 ∙ ap (m table) parts.1 ∙ same
    ∙ sym (ap (λ t. n t placed.call.key) parts.0 ∙ ap (n table) parts.1))
    allowed

-- two maps that agree at a key agree there after the same change
with_change-same :
    (m n : Map) (table : ℕ) (key : List ℕ) (change : Option Entry) (t : ℕ) (k : List ℕ)
    → m t k ≡ n t k → with_change m table key change t k ≡ with_change n table key change t k
with_change-same m n table key None t k same = same
with_change-same m n table key (Some entry) t k same = ap (λ e. cond (eqb t table && bytes_eq k key) entry e) same

-- and a change at another key changes nothing there
with_change-other :
    (m : Map) (table : ℕ) (key : List ℕ) (change : Option Entry) (t : ℕ) (k : List ℕ)
    → (eqb t table && bytes_eq k key) ≡ false → with_change m table key change t k ≡ m t k
with_change-other m table key None t k apart = refl
with_change-other m table key (Some entry) t k apart = cond-false (eqb t table && bytes_eq k key) entry (m t k) apart

-- two maps that agree at a key agree there after one more record
pub map_with-same :
    (m n : Map) (placed : Placed) (table : ℕ) (key : List ℕ)
    → m table key ≡ n table key → map_with m placed table key ≡ map_with n placed table key
map_with-same m n placed table key same =
    with_change-same m n placed.call.table placed.call.key (change_of placed.call.op placed.outcome) table key same

-- a record of another key changes nothing there
pub map_with-other :
    (m : Map) (placed : Placed) (table : ℕ) (key : List ℕ)
    → is_at table key placed ≡ false → map_with m placed table key ≡ m table key
map_with-other m placed table key apart =
    with_change-other m placed.call.table placed.call.key (change_of placed.call.op placed.outcome) table key
    (name-swap table placed.call.table key placed.call.key ∙ apart)

-- two maps that agree at a key agree there after the same history
pub map_after-same :
    (m n : Map) (history : List Placed) (table : ℕ) (key : List ℕ)
    → m table key ≡ n table key → map_after m history table key ≡ map_after n history table key
map_after-same m n [] table key same = same
map_after-same m n (placed ∷ history) table key same =
    map_after-same (map_with m placed) (map_with n placed) history table key (map_with-same m n placed table key same)

-- the records of a key are legal from any map that has the same entry there
pub legal_same :
    (m n : Map) (table : ℕ) (key : List ℕ) (history : List Placed)
    → m table key ≡ n table key → IsLegal m (records_at table key history) → IsLegal n (records_at table key history)
legal_same m n table key [] same legal = tt
legal_same m n table key (placed ∷ history) same legal =
    ⊎_elim
    (λ (here : is_at table key placed ≡ true).
    let both = rw here at legal in
    rw here (
      allowed_same m n table key placed here same both.0,
      legal_same (map_with m placed) (map_with n placed) table key history
          (map_with-same m n placed table key same) both.1,
    ))
    (λ (apart : is_at table key placed ≡ false).
    rw apart (legal_same m n table key history same (rw apart at legal)))
    (cases_Bool (is_at table key placed))

-- the records of a key, of a legal history, are legal
pub legal_at :
    (m : Map) (table : ℕ) (key : List ℕ) (history : List Placed)
    → IsLegal m history → IsLegal m (records_at table key history)
legal_at m table key [] legal = tt
legal_at m table key (placed ∷ history) legal =
    let rest = legal_at (map_with m placed) table key history legal.1 in
    ⊎_elim
    (λ (here : is_at table key placed ≡ true). rw here (legal.0, rest))
    (λ (apart : is_at table key placed ≡ false).
    rw apart (legal_same (map_with m placed) m table key history (map_with-other m placed table key apart) rest))
    (cases_Bool (is_at table key placed))

-- a history is legal if the records of each key are
pub legal_from_keys :
    (m : Map) (history : List Placed)
    → ((table : ℕ) (key : List ℕ) → IsLegal m (records_at table key history)) → IsLegal m history
legal_from_keys m [] each = tt
legal_from_keys m (placed ∷ history) each =
    let own : is_at placed.call.table placed.call.key placed ≡ true = is_at_own placed in
    let first = rw own at (each placed.call.table placed.call.key) in (
      first.0,
      legal_from_keys (map_with m placed) history
          (λ table key.
          ⊎_elim
          (λ (here : is_at table key placed ≡ true). let both = rw here at (each table key) in both.1)
          (λ (apart : is_at table key placed ≡ false).
          legal_same m (map_with m placed) table key history (sym (map_with-other m placed table key apart))
          (rw apart at (each table key)))
          (cases_Bool (is_at table key placed))),
    )

-- the map after a history has at a key what the map after the records of that key has
pub map_after_by_key :
    (m : Map) (history : List Placed) (table : ℕ) (key : List ℕ)
    → map_after m history table key ≡ map_after m (records_at table key history) table key
map_after_by_key m [] table key = refl
map_after_by_key m (placed ∷ history) table key =
    let rest = map_after_by_key (map_with m placed) history table key in
    ⊎_elim
    (λ (here : is_at table key placed ≡ true). rw here rest)
    (λ (apart : is_at table key placed ≡ false).
    rw apart
    (rest
    ∙ map_after-same (map_with m placed) m (records_at table key history) table key
    (map_with-other m placed table key apart)))
    (cases_Bool (is_at table key placed))
