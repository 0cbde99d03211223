-- What the replicas that come back report.
use Rattle.rk_play.proofs.Words.{◌≡◌, ℕ, zero, suc, ◌+◌, ◌*◌, ◌≤◌, ◌<◌, true, false, List, [], ◌∷◌, ◌++◌, All, drop, length, map, take}
use Rattle.rk_play.proofs.Words.{slice_get, slice_index_or, refl, sym, ap, subst, ◌∙◌, ⊎_elim, arith, Keeps, range_with_len, NumberMap}
use Rattle.rk_play.proofs.Words.{LANES, Status, Done, NoMemory, Refused, Segments, Cluster, lane_at, World, new_world, LaneState}
use Rattle.rk_play.proofs.Words.{replicas_of, script_of, CountsGoOn, GoOn, backups_of, Fate, ClusterState, IsOf, go_on_same, there_within}
use Rattle.rk_play.proofs.Words.{AreGivenBack, Concludes, IsWritten, PlaysBy, Played, Setting, all_fates, cluster_by, part_of, refused_at}
use Rattle.rk_play.proofs.Words.{text_of, unset, Runs, TellStored, backup_count, count_of, replica_counts, IsSetting}
use Rattle.std.proofs.Common.{cond}
use Rattle.std.specs.Prelude.{Option, None, Some, IfSome}
use Rattle.std.specs.Ordering.{eq_by_cmp, nat_cmp}
use Rattle.std.proofs.lemmas.List.Elements.{All-nil, All-take}
use Rattle.rk_log.specs.declared.copied.TheConstants.{MOST_BACKUPS}
use Rattle.rk_types.proofs.NumberMaps.{same_number}
use Rattle.rk_types.specs.NumberMap.{get}
use Rattle.rk_types.specs.declared.status.Status.TheVariants.{ReadFault}
use Rattle.rk_world.specs.Backup.{no_segments}
use Rattle.rk_world.specs.Cluster.{new_cluster}
use Rattle.rk_world.specs.World.{new_backups}
use Rattle.rk_lane.specs.LaneState.{IsTold}
use Rattle.rk_cluster.specs.Fresh.{AreEmpty}
use Rattle.rk_cluster.specs.State.{IsWorld}
use Rattle.rk_cluster.proofs.Worlds.{all_at, something_within, world_at}
use Rattle.rk_play.specs.Played.{how_many}
use Rattle.rk_play.specs.Runs.{Plays, TellsAt}
use Rattle.rk_play.proofs.Concluding.{halts_at_once, halts_kept, refused_runs}
use Rattle.rk_play.proofs.Leaving.{IsPlayedOut, written_may}

-- ---- lists

-- what is at a place of a list is there before others too
there_before : {X : Type 0} (xs ys : List X) (place : ℕ) (x : X) → slice_get xs place ≡ Some x → slice_get (xs ++ ys) place ≡ Some x
there_before [] ys place x there = absurd (cc there)
there_before (y ∷ xs) ys zero x there = there
there_before (y ∷ xs) ys (suc place) x there = there_before xs ys place x there

-- and what is seen of it, in the list of what is seen
there_seen : {X Y : Type 0} (see : X → Y) (xs : List X) (place : ℕ) (x : X) → slice_get xs place ≡ Some x → slice_get (map see xs) place ≡ Some (see x)
there_seen see [] place x there = absurd (cc there)
there_seen see (y ∷ xs) zero x there = let same : y ≡ x = cc there in ap (λ it. Some (see it)) same
there_seen see (y ∷ xs) (suc place) x there = there_seen see xs place x there

-- ---- replicas that come back

module _ {R : Type 0} (segments : R → Option Segments) where
  -- one lane's backup has the replica that reports what it stores
  lane_tells : (lane : LaneState R) (w : World) (its : List R) (number place : ℕ) (stored : Segments) → IsWorld segments lane w
      → ((at : ℕ) → slice_get (replicas_of lane.backups) at ≡ slice_get its (8 * at + number)) → get w.backups (place + 1) ≡ Some stored
      → TellsAt segments its (8 * place + number) stored
  lane_tells lane w its number place stored is eighth found =
      let told : IsTold segments lane.backups (place + 1) stored = is.told (place + 1) stored (ap (λ (v : World). get v.backups (place + 1)) (sym is.is) ∙ found) in
      let same : told.place ≡ place = omega (arith, told.number_is) in
      record {
        replica = _;
        there = sym (eighth place) ∙ there_seen _ lane.backups place told.backup (ap (slice_get lane.backups) (sym same) ∙ told.there);
        tells = told.tells;
      }

  -- replicas given back report what the backups of the cluster store
  pub given_tell : (state : ClusterState R) (cluster : Cluster) (others replicas : List R) → IsOf segments state cluster → AreGivenBack state.lanes others replicas → TellStored segments replicas cluster
  given_tell state cluster others replicas is given lane place stored within found =
      let its = something_within state.lanes lane (omega (arith, within, given.eight)) in
      let w : World = slice_index_or cluster.lanes lane (new_world lane 0 0) in
      let world : IsWorld segments its.0 w = world_at segments state.lanes cluster.lanes lane its.0 (new_world lane 0 0) is.lanes its.1 in
      let tells = lane_tells its.0 w given.its lane place stored world (given.each lane its.0 its.1) found in
      record {
        replica = tells.replica;
        there = grind (arith, there_before, given.whole, given.its, tells.replica, tells.there);
        tells = tells.tells;
      }

  -- ---- replicas that were never lent

  -- what is found at new backups
  found_new : (from count number : ℕ) (stored : Segments) → get (map (λ backup. (backup, no_segments)) (range_with_len from count)) number ≡ Some stored
      → (number < from + count) × (stored ≡ no_segments)
  found_new from zero number stored found = absurd (cc found)
  found_new from (suc count) number stored found =
      let rest : NumberMap Segments = map (λ backup. (backup, no_segments)) (range_with_len (from + 1) count) in
      elim (eq_by_cmp nat_cmp number from)
      as (λ b. eq_by_cmp nat_cmp number from ≡ b → cond b (Some no_segments) (get rest number) ≡ Some stored → (number < from + suc count) × (stored ≡ no_segments)) [
        | true ↦ λ is e. let same : no_segments ≡ stored = cc e in (omega (arith, same_number number from is), sym same)
        | false ↦ λ is e. let later = found_new (from + 1) count number stored e in (omega (arith, later.0), later.1)
      ] refl found

  new_backups_at : (masters backups from count : ℕ) → All (λ (w : World). w.backups ≡ new_backups backups) (map (λ lane. new_world lane masters backups) (range_with_len from count))
  new_backups_at masters backups from zero = All-nil (λ (w : World). w.backups ≡ new_backups backups)
  new_backups_at masters backups from (suc count) = grind (arith, new_world, (new_backups_at masters backups (from + 1) count))

  -- empty replicas report what the backups of a new cluster store
  pub empty_tell : (replicas : List R) (masters backups : ℕ) → length replicas ≡ 32 → backups ≤ MOST_BACKUPS → AreEmpty segments replicas
      → TellStored segments replicas (new_cluster masters backups)
  empty_tell replicas masters backups many few empty lane place stored within found =
      let lanes : List World = map (λ number. new_world number masters backups) (range_with_len 0 LANES) in
      let here = there_within lanes lane (new_world lane 0 0) (omega (arith, within)) in
      let its : (lane_at (new_cluster masters backups) lane).backups ≡ new_backups backups =
      all_at (λ (w : World). w.backups ≡ new_backups backups) lanes lane (lane_at (new_cluster masters backups) lane) here (new_backups_at masters backups 0 LANES) in
      let new = found_new 1 backups (place + 1) stored (ap (λ (map : NumberMap Segments). get map (place + 1)) (sym its) ∙ found) in
      let there = something_within replicas (8 * place + lane) (omega (arith, many, few, within, new.0)) in
      record {
        replica = there.0;
        there = there.1;
        tells = all_at (λ (replica : R). segments replica ≡ Some no_segments) replicas (8 * place + lane) there.0 there.1 empty ∙ ap Some (sym new.1);
      }

  pub unset_tell : (replicas : List R) (setting : Setting) → length replicas ≡ 32 → IsSetting setting → AreEmpty segments replicas → TellStored segments replicas (cluster_by setting)
  unset_tell replicas setting many may empty =
      empty_tell replicas (how_many setting.masters) (how_many setting.backups) many may.backups empty

-- ---- runs

-- a cluster has as many backups as the one in code that represents it
pub backups_there : {R : Type 0} (segments : R → Option Segments) (state : ClusterState R) (cluster : Cluster) → IsOf segments state cluster
    → backup_count cluster ≡ backups_of state
backups_there segments state cluster is = grind (arith, slice_index_or, new_world, backup_count)

module _ {R : Type 0} (segments : R → Option Segments) (faults : R → ℕ) where
  -- a cluster over empty replicas is the cluster that was asked for
  pub opened : (state : ClusterState R) (masters backups count : ℕ) (setting : Setting) (replicas its : List R) → its ≡ take count replicas → masters ≡ how_many setting.masters
      → backups ≡ how_many setting.backups → (AreEmpty segments its → IsOf segments state (new_cluster masters backups)) → AreEmpty segments replicas
      → IsOf segments state (cluster_by setting)
  opened state masters backups count setting replicas its its_are masters_are backups_are new empty =
      let same : new_cluster masters backups ≡ cluster_by setting = λ i. new_cluster (masters_are i) (backups_are i) in
      subst (IsOf segments state) same
      (new
      (subst (AreEmpty segments) (sym its_are) (All-take (λ (replica : R). segments replica ≡ Some no_segments) count replicas empty)))

  -- one for which memory was wanting before anything ran
  pub wanting_plays : (played_by : Option ℕ → List (List Fate) → Played) (most : ℕ) (was new : Option (List ℕ)) (before after : List R) → (played_by (Some 0) []).status ≡ Done
      → Keeps was new → PlaysBy segments faults played_by most NoMemory was new before after
  wanting_plays played_by most was new before after done kept = grind (arith, halts_kept)

  pub wanting_told : (told was : Option (List ℕ)) (before after : List R) → IfSome told (λ script. Plays segments faults script NoMemory was was before after)
  wanting_told None was before after = tt
  wanting_told (Some script) was before after = record {
    part = Some 0;
    may = omega arith;
    fates = [];
    runs = halts_at_once (script_of script) was;
    counts = λ apart. absurd (apart refl);
    stored = λ apart. absurd (apart refl);
    others = λ apart. absurd (apart refl);
  }

  -- one whose script was not read
  pub unread_told : (told was : Option (List ℕ)) (replicas : List R) → IfSome told (λ script. Plays segments faults script ReadFault was was replicas replicas)
  unread_told told was replicas = grind (arith, go_on_same, replica_counts)

  -- a run that is refused before a command runs leaves the replicas as they are
  pub refused_plays : (played_by : Option ℕ → List (List Fate) → Played) (line code : ℕ) (setting : Setting) (most : ℕ) (status : Status) (old new : Option (List ℕ)) (replicas : List R)
      → played_by None [] ≡ refused_at line code (cluster_by setting) → (played_by (Some 0) []).status ≡ Done
      → Concludes (refused_at line code (cluster_by setting)) [] status old new
      → length replicas ≡ 32 → IsSetting setting → AreEmpty segments replicas → PlaysBy segments faults played_by most status old new replicas replicas
  refused_plays played_by line code setting most status old new replicas is done concludes many may empty =
      let p : Played = refused_at line code (cluster_by setting) in
      ⊎_elim
      (λ (said : IsWritten (text_of p) Refused status old new).
      let plays : PlaysBy segments faults played_by most status old new replicas replicas = record {
        part = None;
        may = written_may (text_of p) Refused status most old new tt said;
        fates = [];
        runs = subst (λ (q : Played). Runs q status old new) (sym is) (refused_runs p status old new tt said);
        counts = λ apart. go_on_same (replica_counts faults replicas);
        stored = λ apart. subst (λ (q : Played). TellStored segments replicas q.cluster) (sym is) (unset_tell segments replicas setting many may empty);
        others = λ apart. refl;
      }
      in
      plays)
      (λ (lacks : (status ≡ NoMemory) × Keeps old new).
      subst (λ (it : Status). PlaysBy segments faults played_by most it old new replicas replicas) (sym lacks.0)
      (wanting_plays played_by most old new replicas replicas done lacks.1))
      concludes

  -- what is said of numbered commands is said of the script that they are read from
  pub script_plays : (script : List ℕ) (status : Status) (was new : Option (List ℕ)) (before after : List R)
      → PlaysBy segments faults (part_of (script_of script)) (count_of (script_of script)) status was new before after
      → Plays segments faults script status was new before after
  script_plays script status was new before after plays = grind arith

  -- a run that was played out as far as memory went
  pub out_wanting : (old now : ClusterState R) (played_by : Option ℕ → List (List Fate) → Played) (most : ℕ) (was new : Option (List ℕ)) (before after : List R)
      → IsPlayedOut segments faults old now played_by most NoMemory was new → PlaysBy segments faults played_by most NoMemory was new before after
  out_wanting old now played_by most was new before after out = grind arith

  -- a run that was played out, and whose replicas came back
  pub ended_plays : (old now : ClusterState R) (played_by : Option ℕ → List (List Fate) → Played) (most : ℕ) (status : Status) (was new : Option (List ℕ)) (backups : ℕ) (others before after : List R)
      → IsPlayedOut segments faults old now played_by most status was new → AreGivenBack now.lanes others after → backups_of now ≡ backups
      → drop (LANES * backups) after ≡ drop (LANES * backups) before
      → ((fates : List Fate) → CountsGoOn faults fates old now → GoOn fates (replica_counts faults before) (replica_counts faults after))
      → PlaysBy segments faults played_by most status was new before after
  ended_plays old now played_by most status was new backups others before after out given many stay on = record {
    part = out.part;
    may = out.may;
    fates = out.fates;
    runs = out.runs;
    counts = λ apart. on (all_fates out.fates) (out.counts apart);
    stored = λ apart. given_tell segments now (played_by out.part out.fates).cluster others after (out.left apart) given;
    others = λ apart.
        let same : backup_count (played_by out.part out.fates).cluster ≡ backups = backups_there segments now (played_by out.part out.fates).cluster (out.left apart) ∙ many in
        subst (λ (count : ℕ). drop (LANES * count) after ≡ drop (LANES * count) before) (sym same) stay;
  }

-- a script that asks for nothing asks for two masters and two backups
pub unset_may : IsSetting unset
unset_may = record { masters = record { first = omega arith; last = omega arith }; backed = omega arith; backups = omega arith }
