-- How counts of faults go on.
use Rattle.rk_cluster.proofs.Words.{◌≡◌, ◌≢◌, ◌+◌, ◌++◌, ◌&&◌, ℕ, true, false, List, [], ◌∷◌, slice_get, slice_set, Option, None, Some}
use Rattle.rk_cluster.proofs.Words.{refl, sym, subst, inl, arith, cases_eq, eq-eqb, Node, OneFailed, fault_counts, LaneState}
use Rattle.rk_cluster.proofs.Words.{CountsGoOn, LanesGoOn, RoseBy, counts_in, lane_counts, times_lost, Fate, Kept, Lost, ClusterState}
use Rattle.rk_cluster.proofs.Words.{slice_get_within}
use Rattle.std.proofs.lemmas.Bool.{ne_eqb}
use Rattle.rk_outside.specs.Faults.{Rose}
use Rattle.rk_cluster.specs.Faults.{Counts, GoOn}
use Rattle.rk_cluster.specs.Replicas.{is_of}
use Rattle.rk_cluster.proofs.Worlds.{set_beside, set_here}

-- ---- one count

pub rose_same : (count : Option ℕ) → RoseBy 0 count count
rose_same None = refl
rose_same (Some count) = inl (omega arith)

pub rose_then : (some more : ℕ) (before mid now : Option ℕ) → RoseBy some before mid → RoseBy more mid now → RoseBy (some + more) before now
rose_then some more before mid now first second = grind arith

-- ---- how often a replica fails

pub times_both : (lane place : ℕ) (first second : List Fate) → times_lost lane place (first ++ second) ≡ times_lost lane place first + times_lost lane place second
times_both lane place [] second = omega arith
times_both lane place (fate ∷ first) second = omega (arith, times_both lane place first second)

-- ---- counts

pub go_on_same : (counts : Counts) → GoOn [] counts counts
go_on_same counts lane place = rose_same (counts lane place)

pub go_on_then : (first second : List Fate) (before mid now : Counts) → GoOn first before mid → GoOn second mid now → GoOn (first ++ second) before now
go_on_then first second before mid now one two lane place = grind (arith, times_both, rose_then, times_lost)

-- none of them falls
pub go_on_none : (fates : List Fate) (before now : Counts) → GoOn fates before now → GoOn [] before now
go_on_none fates before now on lane place = grind (arith, times_lost)

-- a call that goes well adds nothing
pub go_on_kept : (before now : Counts) → GoOn [] before now → GoOn (Kept ∷ []) before now
go_on_kept before now on lane place = on lane place

-- ---- lanes

get_set : {X : Type 0} (xs : List X) (place : ℕ) (old new : X) → slice_get xs place ≡ Some old → slice_get (slice_set xs place new) place ≡ Some new
get_set xs place old new there = set_here xs place new (slice_get_within xs place old there)

module _ {R : Type 0} (faults : R → ℕ) where
  -- the counts of one lane go on, and no other lane has failed
  pub lanes_on : (fates : List Fate) (lanes : List (LaneState R)) (place : ℕ) (old new : LaneState R) → slice_get lanes place ≡ Some old
      → ((backup : ℕ) → RoseBy (times_lost place backup fates) (slice_get (fault_counts faults old.backups) backup) (slice_get (fault_counts faults new.backups) backup))
      → ((lane backup : ℕ) → lane ≢ place → times_lost lane backup fates ≡ 0) → LanesGoOn faults fates lanes (slice_set lanes place new)
  lanes_on fates lanes place old new there on others lane backup =
      grind (arith, times_lost, lane_counts, slice_set, get_set, set_beside, rose_same, cases_eq)

  -- no replica of a lane has failed
  pub lanes_kept : (lanes : List (LaneState R)) (place : ℕ) (old new : LaneState R) → slice_get lanes place ≡ Some old
      → fault_counts faults new.backups ≡ fault_counts faults old.backups → LanesGoOn faults [] lanes (slice_set lanes place new)
  lanes_kept lanes place old new there same =
      lanes_on [] lanes place old new there
      (λ backup. subst (λ (counts : List ℕ). RoseBy 0 (slice_get (fault_counts faults old.backups) backup) (slice_get counts backup)) (sym same)
      (rose_same (slice_get (fault_counts faults old.backups) backup)))
      (λ lane backup apart. refl)

  pub lanes_same : (lanes : List (LaneState R)) → LanesGoOn faults [] lanes lanes
  lanes_same lanes = go_on_same (counts_in faults lanes)

  pub lanes_then : (old mid new : List (LaneState R)) → LanesGoOn faults [] old mid → LanesGoOn faults [] mid new → LanesGoOn faults [] old new
  lanes_then old mid new first second = go_on_then [] [] (counts_in faults old) (counts_in faults mid) (counts_in faults new) first second

  pub counts_same : (state : ClusterState R) → CountsGoOn faults [] state state
  counts_same state = lanes_same state.lanes

  pub counts_none : (fates : List Fate) (old new : ClusterState R) → CountsGoOn faults fates old new → CountsGoOn faults [] old new
  counts_none fates old new on = go_on_none fates (counts_in faults old.lanes) (counts_in faults new.lanes) on

  pub counts_then : (first second : List Fate) (old mid new : ClusterState R) → CountsGoOn faults first old mid → CountsGoOn faults second mid new
      → CountsGoOn faults (first ++ second) old new
  counts_then first second old mid new one two =
      go_on_then first second (counts_in faults old.lanes) (counts_in faults mid.lanes) (counts_in faults new.lanes) one two

-- ---- one replica failed

pub is_of_it : (lane place left : ℕ) → is_of lane place (Lost lane place left) ≡ true
is_of_it lane place left = λ i. eq-eqb lane lane refl i && eq-eqb place place refl i

module _ {R : Type 0} (faults : R → ℕ) where
  pub lanes_failed_once : (lanes : List (LaneState R)) (place left : ℕ) (receiver : Option Node) (old new : LaneState R) → slice_get lanes place ≡ Some old
      → (it : OneFailed faults receiver old.backups new.backups) → LanesGoOn faults (Lost place it.place left ∷ []) lanes (slice_set lanes place new)
  lanes_failed_once lanes place left receiver old new there it =
      grind (arith, get_set, set_beside)
