-- What is in a world in which nothing has happened: new masters, and backups that keep nothing.
use Rattle.rk_inv_base.proofs.Words.{◌≡◌, ℕ, zero, suc, ◌+◌, ◌≤◌, ◌<◌, Bool, cond, eqb, List, [], ◌∷◌, replicate, map, Option, Some, None}
use Rattle.rk_inv_base.proofs.Words.{refl, ap, ◌∙◌, ◌⊎◌, inl, ⊎_elim, arith, unwrap_or, eq-eqb, ne_eqb, cases_eq, cases_lt, cond-true}
use Rattle.rk_inv_base.proofs.Words.{cond-false, unsigned_tied, range_with_len, NumberMap, get, Known, nothing, no_segments, Master}
use Rattle.rk_inv_base.proofs.Words.{new_master, IsMaster, new_world, master_at, backup_at, new_masters}
use Rattle.std.proofs.Common.{get_or}

-- each number with its thing
abbrev pub with_numbers : {X : Type 0} → (ℕ → X) → List ℕ → NumberMap X
with_numbers thing numbers = map (λ number. (number, thing number)) numbers

-- the first thing of such a table is found under its own number
pub found_first : {X : Type 0} (thing : ℕ → X) (n : ℕ) (numbers : List ℕ) (q : ℕ) → get (with_numbers thing (n ∷ numbers)) q ≡ cond (eqb q n) (Some (thing n)) (get (with_numbers thing numbers) q)
found_first thing n numbers q =
    ap (λ (b : Bool). cond b (Some (thing n)) (get (with_numbers thing numbers) q)) (unsigned_tied q n)

pub found_here : {X : Type 0} (thing : ℕ → X) (n : ℕ) (numbers : List ℕ) (q : ℕ) → q ≡ n → get (with_numbers thing (n ∷ numbers)) q ≡ Some (thing q)
found_here thing n numbers q is = grind (arith, found_first, cond-true, eqb, eq-eqb)

pub found_behind : {X : Type 0} (thing : ℕ → X) (n : ℕ) (numbers : List ℕ) (q : ℕ) → (q ≡ n → ⊥) → get (with_numbers thing (n ∷ numbers)) q ≡ get (with_numbers thing numbers) q
found_behind thing n numbers q apart =
    found_first thing n numbers q ∙ cond-false (eqb q n) (Some (thing n)) (get (with_numbers thing numbers) q) (ne_eqb q n apart)

-- what is found under a number is nothing, or its thing
pub found_numbered : {X : Type 0} (thing : ℕ → X) (numbers : List ℕ) (q : ℕ) → (get (with_numbers thing numbers) q ≡ None) ⊎ (get (with_numbers thing numbers) q ≡ Some (thing q))
found_numbered thing [] q = inl refl
found_numbered {X} thing (n ∷ numbers) q = grind (arith, found_here, found_behind, cases_eq, (found_numbered thing numbers q))

pub above : (a b : ℕ) → a ≤ b → (b ≡ a → ⊥) → a + 1 ≤ b
above a b low apart =
    ⊎_elim (λ (h : a < b). omega (arith, h)) (λ (h : b ≤ a). absurd (apart (omega (arith, low, h)))) (cases_lt a b)

-- within the numbers its thing is found
pub found_within : {X : Type 0} (thing : ℕ → X) (start count q : ℕ) → start ≤ q → q < start + count → get (with_numbers thing (range_with_len start count)) q ≡ Some (thing q)
found_within thing start zero q low high = absurd (omega (arith, low, high))
found_within thing start (suc count) q low high =
    ⊎_elim
    (λ (is : q ≡ start). found_here thing start (range_with_len (start + 1) count) q is)
    (λ (apart : q ≡ start → ⊥).
    found_behind thing start (range_with_len (start + 1) count) q apart
    ∙ found_within thing (start + 1) count q (above start q low apart) (omega (arith, high)))
    (cases_eq q start)

-- a master that knows nothing yet, and of no backup that it holds anything
pub record IsFresh (number : ℕ) (master : Master) : Type 0 where
  pub known : List Known
  pub nothing_known : (place : ℕ) → get_or known place nothing ≡ nothing
  pub is_new : master ≡ new_master number known

pub nothing_in : (count place : ℕ) → get_or (replicate count nothing) place nothing ≡ nothing
nothing_in (suc count) (suc place) = nothing_in count place
nothing_in _ _ = refl

-- each master of a new world is fresh
pub each_fresh : (lane masters backups q : ℕ) → IsFresh q (master_at (new_world lane masters backups) q)
each_fresh lane masters backups q =
    ⊎_elim
    (λ (e : get (new_masters masters backups) q ≡ None).
    let m : IsFresh q (master_at (new_world lane masters backups) q) = record {
      known = [];
      nothing_known = λ place. refl;
      is_new = ap (λ (o : Option Master). unwrap_or o (new_master q [])) e;
    } in m)
    (λ (e : get (new_masters masters backups) q ≡ Some (new_master q (replicate backups nothing))).
    let m : IsFresh q (master_at (new_world lane masters backups) q) = record {
      known = replicate backups nothing;
      nothing_known = nothing_in backups;
      is_new = ap (λ (o : Option Master). unwrap_or o (new_master q [])) e;
    } in m)
    (found_numbered (λ number. new_master number (replicate backups nothing)) (range_with_len 1 masters) q)

-- and a master that is there knows of each backup
pub there_fresh : (lane masters backups q : ℕ) → IsMaster masters q → master_at (new_world lane masters backups) q ≡ new_master q (replicate backups nothing)
there_fresh lane masters backups q there =
    ap (λ (o : Option Master). unwrap_or o (new_master q []))
    (found_within (λ number. new_master number (replicate backups nothing)) 1 masters q there.first (omega (arith, there.last)))

-- each backup keeps nothing
pub each_backup_fresh : (lane masters backups q : ℕ) → backup_at (new_world lane masters backups) q ≡ no_segments
each_backup_fresh lane masters backups q =
    ⊎_elim
    (λ (e : get (new_world lane masters backups).backups q ≡ None). ap (λ o. unwrap_or o no_segments) e)
    (λ (e : get (new_world lane masters backups).backups q ≡ Some no_segments). ap (λ o. unwrap_or o no_segments) e)
    (found_numbered (λ number. no_segments) (range_with_len 1 backups) q)
