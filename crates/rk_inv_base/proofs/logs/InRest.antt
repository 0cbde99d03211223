-- What counts for the last member of a lineage and is not applied is in the rest of the row; so is the entry of a call that waits.
use Rattle.rk_inv_base.proofs.Words.{◌≡◌, ℕ, zero, suc, ◌+◌, ◌≤◌, Bool, true, false, cond, List, [], ◌∷◌, Some, ap, ◌∙◌, subst, arith, drop}
use Rattle.rk_inv_base.proofs.Words.{max, slice_get, All, cond-true, All-head, All-tail, Call, Member, Range, Entry, Handover, lineage_of}
use Rattle.rk_inv_base.proofs.Words.{Row, last_of, is_marked, unmarked, unmarked_from, counting, counts, Written, lineage_rest, member_rest}
use Rattle.rk_inv_base.proofs.Words.{rest_of, Mark, Waits}
use Rattle.rk_inv_base.proofs.logs.Shares.{counts_call}

-- what is at a place is behind each place before it
pub behind_at : {X : Type 0} (xs : List X) (from place : ℕ) (x : X) → from ≤ place → slice_get xs place ≡ Some x → (k : ℕ) × (slice_get (drop from xs) k ≡ Some x) × (from + k ≡ place)
behind_at [] from place x behind at = absurd (cc at)
behind_at (y ∷ xs) zero place x behind at = (place, at, omega arith)
behind_at (y ∷ xs) (suc from) zero x behind at = absurd (omega (arith, behind))
behind_at (y ∷ xs) (suc from) (suc place) x behind at =
    let found = behind_at xs from place x (omega (arith, behind)) at in
    let is : from + found.0 ≡ place = found.2 in
    (found.0, found.1, omega (arith, is))

-- what holds of each entry that counts and bears no mark
module _ (P : Entry → Type 0) (range : Range) (marks : List Mark) where
  -- holds of those behind the first one
  behind_first : (marked : Bool) (first : Entry) (later : List Entry) → All P (counting range (cond marked later (first ∷ later))) → All P (counting range later)
  behind_first true first later all = all
  behind_first false first later all = kept (counts range first) all
    where
      kept : (counted : Bool) → All P (cond counted (first ∷ counting range later) (counting range later)) → All P (counting range later)
      kept true all = All-tail P first (counting range later) all
      kept false all = all

  -- and of the first one
  at_first : (marked : Bool) (first : Entry) (later : List Entry) → marked ≡ false → counts range first ≡ true → All P (counting range (cond marked later (first ∷ later))) → P first
  at_first true first later free inside all = absurd (cc free)
  at_first false first later free inside all =
      All-head P first (counting range later)
      (subst (All P) (cond-true (counts range first) (first ∷ counting range later) (counting range later) inside) all)

  -- so of each at its place
  at_place : (start : ℕ) (list : List Entry) (k : ℕ) (entry : Entry) → All P (counting range (unmarked marks start list)) → slice_get list k ≡ Some entry → is_marked marks (start + k) ≡ false → counts range entry ≡ true → P entry
  at_place start [] k entry all stands free inside = absurd (cc stands)
  at_place start (first ∷ list) zero entry all stands free inside =
      let is : first ≡ entry = cc stands in
      let here : start ≡ start + 0 = omega arith in
      subst P is
      (at_first (is_marked marks start) first (unmarked marks (suc start) list) (ap (is_marked marks) here ∙ free)
      (ap (counts range) is ∙ inside) all)
  at_place start (first ∷ list) (suc k) entry all stands free inside =
      let there : suc start + k ≡ start + suc k = omega arith in
      at_place (suc start) list k entry (behind_first (is_marked marks start) first (unmarked marks (suc start) list) all) stands
      (ap (is_marked marks) there ∙ free) inside

  -- and from a place on
  from_place : (from : ℕ) (list : List Entry) (place : ℕ) (entry : Entry) → from ≤ place → All P (counting range (unmarked_from marks from list)) → slice_get list place ≡ Some entry → is_marked marks place ≡ false → counts range entry ≡ true → P entry
  from_place from list place entry behind all stands free inside =
      let found = behind_at list from place entry behind stands in
      at_place from (drop from list) found.0 entry all found.1 (ap (is_marked marks) found.2 ∙ free) inside

-- the rest of a lineage is that of its last member
pub lineage_last : (written : ℕ → Written) (range : Range) (members : List Member) (last : Member) → last_of members ≡ Some last → lineage_rest written range members ≡ member_rest written range last
lineage_last written range [] last is = absurd (cc is)
lineage_last written range (only ∷ []) last is = let same : only ≡ last = cc is in ap (member_rest written range) same
lineage_last written range (first ∷ next ∷ more) last is = lineage_last written range (next ∷ more) last is

-- what holds of each entry of a row's rest holds of that of a call that waits for the row
pub of_waiting : (P : Entry → Type 0) (rows : List Row) (handovers : ℕ → Handover) (written : ℕ → Written) (master place : ℕ) (call : Call) (waits : Waits rows handovers (written master) master place call) → All P (rest_of written waits.row) → P waits.entry
of_waiting P rows handovers written master place call waits all =
    let range : Range = waits.row.range in
    let w : Written = written master in
    let of_last : All P (member_rest written range waits.last) =
    subst (All P) (lineage_last written range (lineage_of waits.row.phase) waits.last waits.is_last) all in
    let here : All P (counting range (unmarked_from w.marks (max waits.last.from w.applied) w.entries)) =
    subst
    (λ (m : ℕ). All P (counting range (unmarked_from (written m).marks (max waits.last.from (written m).applied) (written m).entries)))
    waits.here of_last in
    from_place P range w.marks (max waits.last.from w.applied) w.entries place waits.entry (omega (arith, waits.from, waits.behind)) here
    waits.stands waits.unmarked (counts_call range call waits.entry waits.own ∙ waits.in_row)
