-- The lanes that a command on a tablet's migration concerns, lane by lane, and whether the source or the target has crashed there.
use Rattle.rk_settle.proofs.Words.{◌≡◌, ◌+◌, ℕ, suc, Bool, true, false, not, ◌||◌, nat_le, cond, List, [], ◌∷◌, ◌++◌, filter, length}
use Rattle.rk_settle.proofs.Words.{Option, Some, sym, ap, ◌∙◌, append-nil, arith, range_with_len, Segments, row_of, Session, Cluster}
use Rattle.rk_settle.proofs.Words.{lane_at, World, LaneState, IsOf, state_of, same_count}
use Rattle.std.proofs.Common.{slice_get}
use Rattle.std.specs.List.{list_any}
use Rattle.std.proofs.Math.Bool.{or-false}
use Rattle.std.proofs.lemmas.Bool.Decides.{nat_tests}
use Rattle.std.proofs.lemmas.List.Folds.{list_any-append}
use Rattle.rk_types.specs.NumberMap.{NumberMap}
use Rattle.rk_cluster.specs.Codes.{code_where, first_code}
use Rattle.rk_cluster.specs.Looks.{is_tablet}
use Rattle.rk_cluster.specs.Told.{LaneTells, LanesTell}
use Rattle.rk_cluster.specs.declared.code.Code.TheVariants.{Crashed, NotMigrating, Unknown}
use Rattle.rk_cluster.proofs.Telling.{filter_more, lane_tells}
use Rattle.rk_settle.specs.Codes.{is_dead_migration, migration_code}

above_none : (n : ℕ) → nat_le (suc n) 0 ≡ false
above_none n = grind (arith, nat_tests)

-- a list with one more number is not empty
more_there : (xs : List ℕ) (n : ℕ) → nat_le (length (xs ++ n ∷ [])) 0 ≡ false
more_there [] n = above_none 0
more_there (x ∷ xs) n = above_none (length (xs ++ n ∷ []))

-- a test of a list with one more number
any_more : (test : ℕ → Bool) (xs : List ℕ) (n : ℕ) → list_any test (xs ++ n ∷ []) ≡ (list_any test xs || test n)
any_more test xs n = list_any-append test xs (n ∷ []) ∙ ap (λ (b : Bool). list_any test xs || b) (or-false (test n))

-- whether the source or the target of a tablet has crashed in a lane
abbrev pub is_dead_in : ℕ → World → Bool
is_dead_in tablet w = is_dead_migration w (row_of w.coordinator.rows tablet)

module _ {R : Type 0} (segments : R → Option Segments) (lanes : List (LaneState R)) (test : World → Bool) (tablet : ℕ) where
  -- those of the first so many lanes that pass
  abbrev pub passing : ℕ → Cluster → List ℕ
  passing count cluster = filter (λ number. test (lane_at cluster number)) (range_with_len 0 count)

  -- whether some of the first so many lanes pass, and whether the source or the target has crashed in one of these
  abbrev pub AreSeen : ℕ → Bool → Bool → Type 0
  AreSeen count some dead =
      LanesTell segments lanes (λ cluster. nat_le (length (passing count cluster)) 0) (not some)
      × LanesTell segments lanes (λ cluster. list_any (λ number. is_dead_in tablet (lane_at cluster number)) (passing count cluster)) dead

  -- one more lane, which passes or not
  passing_next : (place : ℕ) (lane : LaneState R) (told : Bool) → slice_get lanes place ≡ Some lane → LaneTells segments lane test told
      → (sessions : NumberMap Session) (cluster : Cluster) → IsOf segments (state_of lanes sessions) cluster
      → passing (place + 1) cluster ≡ passing place cluster ++ cond told (place ∷ []) []
  passing_next place lane told there tells sessions cluster is =
      filter_more (λ number. test (lane_at cluster number)) place
      ∙ ap (λ (b : Bool). passing place cluster ++ cond b (place ∷ []) []) (lane_tells segments lanes place lane test told there tells sessions cluster is)

  pub seen_here : (place : ℕ) (lane : LaneState R) (some dead now some_after dead_after : Bool) → slice_get lanes place ≡ Some lane
      → LaneTells segments lane test true → LaneTells segments lane (is_dead_in tablet) now → some_after ≡ true → dead_after ≡ (dead || now)
      → AreSeen place some dead → AreSeen (place + 1) some_after dead_after
  seen_here place lane some dead now some_after dead_after there passes tells some_is dead_is before = (
    λ sessions cluster is.
        ap (λ (numbers : List ℕ). nat_le (length numbers) 0) (passing_next place lane true there passes sessions cluster is)
        ∙ more_there (passing place cluster) place ∙ ap not (sym some_is),
    λ sessions cluster is.
        let died = λ (number : ℕ). is_dead_in tablet (lane_at cluster number) in
        let here : died place ≡ now = lane_tells segments lanes place lane (is_dead_in tablet) now there tells sessions cluster is in
        ap (list_any died) (passing_next place lane true there passes sessions cluster is)
        ∙ any_more died (passing place cluster) place
        ∙ (λ i. before.1 sessions cluster is i || here i) ∙ sym dead_is,
  )

  pub seen_beside : (place : ℕ) (lane : LaneState R) (some dead some_after dead_after : Bool) → slice_get lanes place ≡ Some lane
      → LaneTells segments lane test false → some_after ≡ some → dead_after ≡ dead → AreSeen place some dead → AreSeen (place + 1) some_after dead_after
  seen_beside place lane some dead some_after dead_after there fails some_is dead_is before = (
    λ sessions cluster is.
        ap (λ (numbers : List ℕ). nat_le (length numbers) 0)
        (passing_next place lane false there fails sessions cluster is ∙ append-nil (passing place cluster))
        ∙ before.0 sessions cluster is ∙ ap not (sym some_is),
    λ sessions cluster is.
        ap (list_any (λ number. is_dead_in tablet (lane_at cluster number)))
        (passing_next place lane false there fails sessions cluster is ∙ append-nil (passing place cluster))
        ∙ before.1 sessions cluster is ∙ sym dead_is,
  )

  -- once all lanes are seen, the code is known
  pub code_seen : (place : ℕ) (some dead : Bool) → length lanes ≡ place → AreSeen place some dead
      → (sessions : NumberMap Session) (cluster : Cluster) → IsOf segments (state_of lanes sessions) cluster → is_tablet cluster tablet ≡ true
      → migration_code cluster tablet (passing (length cluster.lanes) cluster)
      ≡ first_code (code_where (not some) NotMigrating ∷ code_where dead Crashed ∷ [])
  code_seen place some dead count before sessions cluster is there =
      let many : length cluster.lanes ≡ place = same_count segments lanes cluster.lanes is.lanes ∙ count in
      ap (λ (n : ℕ). migration_code cluster tablet (passing n cluster)) many
      ∙ (λ i. first_code (code_where (not (there i)) Unknown ∷ code_where (before.0 sessions cluster is i) NotMigrating ∷ code_where (before.1 sessions cluster is i) Crashed ∷ []))
