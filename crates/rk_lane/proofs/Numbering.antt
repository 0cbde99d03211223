-- The masters of a lane in code, and the map of masters that they make.
use Rattle.rk_lane.proofs.Words.{◌≡◌, ◌<◌, ℕ, zero, suc, ◌+◌, Bool, cond, eqb, List, [], ◌∷◌, length, set, Option, Some, refl, sym, ap}
use Rattle.rk_lane.proofs.Words.{subst, ◌∙◌, arith, slice_get, unwrap_or, unsigned_tied, range_with_len, eq-eqb, ne_eqb, NumberMap, get}
use Rattle.rk_lane.proofs.Words.{insert, numbers, Master, new_master, masters_from}
use Rattle.std.proofs.Common.{Greater}
use Rattle.std.specs.Cmp.{nat_cmp_is}
use Rattle.std.specs.FinMap.Entries.{by_order}
use Rattle.std.specs.Ordering.{nat_cmp}
use Rattle.std.proofs.lemmas.Bool.{cond-false, cond-true}

-- a master in code, under its number
abbrev pub master_of : ℕ → Option Master → Master
master_of number master = unwrap_or master (new_master number [])

-- the numbers follow one another
pub numbers_from : (number : ℕ) (masters : List (Option Master)) → numbers (masters_from number masters) ≡ range_with_len number (length masters)
numbers_from number [] = refl
numbers_from number (master ∷ later) = ap (λ (rest : List ℕ). number ∷ rest) (numbers_from (number + 1) later)

-- what is found at the head of such a map
found_head : (number : ℕ) (master : Option Master) (later : List (Option Master)) (q : ℕ)
    → get (masters_from number (master ∷ later)) q ≡ cond (eqb q number) (Some (master_of number master)) (get (masters_from (number + 1) later) q)
found_head number master later q =
    ap (λ (b : Bool). cond b (Some (master_of number master)) (get (masters_from (number + 1) later) q)) (unsigned_tied q number)

-- the master at a place is found under its number
pub found_from : (number place : ℕ) (masters : List (Option Master)) (master : Option Master) → slice_get masters place ≡ Some master
    → get (masters_from number masters) (number + place) ≡ Some (master_of (number + place) master)
found_from number place [] master there = absurd (cc there)
found_from number zero (first ∷ later) master there = grind (arith, found_head, cond-true, eqb, masters_from, eq-eqb)
found_from number (suc place) (first ∷ later) master there =
    grind (arith, found_head, cond-false, eqb, masters_from, ne_eqb, (found_from (number + 1) place later master there))

-- what is put under the number of a place is put there
pub insert_from : (number place : ℕ) (masters : List (Option Master)) (master : Master) → place < length masters
    → insert (masters_from number masters) (number + place) master ≡ masters_from number (set masters place (Some master))
insert_from number place [] master within = absurd (omega arith)
insert_from number zero (first ∷ later) master within = grind (arith, masters_from, insert)
insert_from number (suc place) (first ∷ later) master within =
    let above : Greater ≡ nat_cmp (number + suc place) number = nat_cmp_is (number + suc place) number Greater (omega arith) in
    let next : number + suc place ≡ number + 1 + place = omega arith in
    ap (λ o. by_order o ((number + suc place, master) ∷ masters_from number (first ∷ later)) ((number, master) ∷ masters_from (number + 1) later) ((number, master_of number first) ∷ insert (masters_from (number + 1) later) (number + suc place) master)) (sym above)
    ∙ ap (λ (rest : NumberMap Master). (number, master_of number first) ∷ rest)
    (subst (λ (q : ℕ). insert (masters_from (number + 1) later) q master ≡ masters_from (number + 1) (set later place (Some master))) (sym next) (insert_from (number + 1) place later master (omega arith)))
