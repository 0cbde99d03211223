-- Whether a lane has a master that has crashed and was not noticed; once one is noticed it has none.
use Rattle.std.proofs.Common.{◌≡◌, ◌==◌, ◌&&◌, ◌≤◌, ◌<◌, ◌+◌, ℕ, Bool, true, false, cond, not, List, [], find, Option, Some, None, refl}
use Rattle.std.proofs.Common.{sym, ap, subst, ◌∙◌, arith, All, option_map, eqb-true, true≢false, ◌-◌, Contains, eq-eqb}
use Rattle.rk_scripts.proofs.Words.{list_any, range_with_len, option_or, StepError, Called, is_noticed, IsWellFormed, IsMaster, refusal}
use Rattle.rk_scripts.proofs.Words.{worn, world_stepped, step, stepped_by, World, has_crashed, find_passes, AllNoticed, Event}
use Rattle.rk_scripts.proofs.Words.{All-contains, get_or-range_with_len, length-range_with_len}
use Rattle.std.proofs.lemmas.List.Folds.{Any-from_list_any, list_any_at}
use Rattle.rk_runs.proofs.duties.Noticing.{all_noticed}
use Rattle.rk_inv_lanes.proofs.late.Tests.{none_passes}

-- ---- lists of numbers

-- whether a number is in a list
abbrev pub is_in : ℕ → List ℕ → Bool
is_in number list = list_any (λ (other : ℕ). other == number) list

-- a number for which this holds is in the list, and for a number in the list it holds
pub stands_in : (list : List ℕ) (number : ℕ) → is_in number list ≡ true → Contains list number
stands_in list number there =
    let found = Any-from_list_any (λ (other : ℕ). other == number) list there in
    subst (Contains list) (eqb-true found.1 number found.4) (found.0, found.2, found.3)

pub in_where : (list : List ℕ) (number : ℕ) → Contains list number → is_in number list ≡ true
in_where list number at =
    list_any_at (λ (other : ℕ). other == number) list at.0 number at.1 (ap (λ (other : ℕ). other == number) at.2 ∙ eq-eqb number number refl)

-- what all have, each among them has
pub one_of : (P : ℕ → Type 0) (list : List ℕ) (number : ℕ) → All P list → is_in number list ≡ true → P number
one_of P list number all there = All-contains P list number all (stands_in list number there)

-- the numbers of a range are in it
pub in_range : (start count number : ℕ) → start ≤ number → number < start + count → is_in number (range_with_len start count) ≡ true
in_range start count number first before =
    let within : number - start < count = omega (arith, first, before) in
    let same : start + (number - start) ≡ number = omega (arith, first) in
    in_where (range_with_len start count) number
    (number - start, omega (arith, within, length-range_with_len start count), get_or-range_with_len start count (number - start) number within ∙ same)

-- ---- a lane

module _ (w : World) (formed : IsWellFormed w) where
  -- a master that has crashed is one of the lane's
  crashed_there : (master : ℕ) → has_crashed w master ≡ true → is_in master (range_with_len 1 w.coordinator.masters) ≡ true
  crashed_there master crashed =
      let is : IsMaster w.coordinator.masters master = one_of (IsMaster w.coordinator.masters) w.crashed master formed.crashed crashed in
      in_range 1 w.coordinator.masters master is.first (omega (arith, is.last))

  -- once a crash is noticed, all are
  pub notice_notices : (dead : ℕ) (called : Called) → worn w ≡ None → has_crashed w dead ≡ true → AllNoticed (world_stepped w (step w (Event.Notice dead) called))
  notice_notices dead called fresh gone =
      subst (λ (refused : Option StepError). AllNoticed (world_stepped w (stepped_by w (Event.Notice dead) called refused))) (sym none)
      (all_noticed w formed dead called)
    where
      none : refusal w (Event.Notice dead) ≡ None
      none =
          ap (λ (number : Option ℕ). option_or (option_map StepError.Worn number) (cond (not (has_crashed w dead)) (Some (StepError.Alive dead)) None)) fresh
          ∙ ap (λ (b : Bool). cond (not b) (Some (StepError.Alive dead)) None) gone

  abbrev is_unnoticed_in : ℕ → Bool
  is_unnoticed_in master = has_crashed w master && not (is_noticed w.coordinator master)

  -- if none is found that has crashed and was not noticed, all were
  pub none_unnoticed : find is_unnoticed_in (range_with_len 1 w.coordinator.masters) ≡ None → AllNoticed w
  none_unnoticed none master crashed = go (has_crashed w master) (is_noticed w.coordinator master) crashed
      (one_of (λ (other : ℕ). is_unnoticed_in other ≡ false) (range_with_len 1 w.coordinator.masters) master
      (none_passes is_unnoticed_in (range_with_len 1 w.coordinator.masters) none) (crashed_there master crashed))
    where
      go : (a b : Bool) → a ≡ true → (a && not b) ≡ false → b ≡ true
      go true true gone is = refl
      go true false gone is = absurd (cc is)
      go false b gone is = absurd (cc gone)

  -- a master that is found has crashed
  pub unnoticed_crashed : (dead : ℕ) → find is_unnoticed_in (range_with_len 1 w.coordinator.masters) ≡ Some dead → has_crashed w dead ≡ true
  unnoticed_crashed dead found = grind (arith, has_crashed, is_noticed, find_passes)

  -- and if all were noticed none is found
  pub all_noticed_none : (dead : ℕ) → AllNoticed w → find is_unnoticed_in (range_with_len 1 w.coordinator.masters) ≡ Some dead → ⊥
  all_noticed_none dead all found = grind (arith, has_crashed, is_noticed, find_passes, true≢false)
