-- A master crashes in one lane after the other, while another one lives in each: this goes on with a run.
use Rattle.std.proofs.Common.{◌≡◌, ℕ, zero, suc, ◌+◌, ◌<◌, ◌≤◌, true, not, List, [], ◌∷◌, map, None, refl, sym, subst, arith}
use Rattle.std.proofs.Common.{get_or-set_other}
use Rattle.rk_scripts.proofs.Words.{range_with_len, LANES, Cluster, Occurrence, cluster_after, cluster_stepped, lane_at, IsMaster, refusal}
use Rattle.rk_scripts.proofs.Words.{happened, stepped_by, World, new_world, acted, all_acted, code_where, first_code, is_dead, is_master}
use Rattle.rk_scripts.proofs.Words.{in_lane, Crashed, Unknown, not-false, Event, crash_code}
use Rattle.std.proofs.lemmas.List.Sums.{AllPass-from_list_all}
use Rattle.rk_world.specs.Runs.{lives_another}
use Rattle.rk_cluster.specs.Looks.{is_other_alive}
use Rattle.rk_cluster.specs.Makes.{crash_makes}
use Rattle.rk_cluster.specs.declared.code.Code.TheVariants.{LastMaster}
use Rattle.rk_scripts.proofs.play.Allowed.{came_first}
use Rattle.rk_scripts.proofs.play.Reaching.{GoesOn, IsReached, MayBe, lane_good, lane_there, none_on, reached_eight}
use Rattle.rk_scripts.proofs.play.Tests.{master_there, passes}

module _ (masters backups master : ℕ) where
  -- the master crashes in a lane
  abbrev crash_in : ℕ → Occurrence
  crash_in lane = in_lane lane (Event.Crash master)

  -- and in so many lanes from one on
  abbrev crashes : ℕ → ℕ → List Occurrence
  crashes first count = map crash_in (range_with_len first count)

  -- another master lives in each lane from this one on
  abbrev LivesFrom : Cluster → ℕ → Type 0
  LivesFrom cluster first = (lane : ℕ) → first ≤ lane → lane < LANES → lives_another (lane_at cluster lane) master ≡ true

  -- a crash in a lane changes no other
  other_same : (cluster : Cluster) (lane other : ℕ) → (other ≡ lane → ⊥) → lane_at (cluster_after cluster (crash_in lane)) other ≡ lane_at cluster other
  other_same cluster lane other apart = grind (arith, refusal, lane_at, cluster_stepped, stepped_by, get_or-set_other, happened, new_world)

  module _ (there : IsMaster masters master) where
    crash_may : (cluster : Cluster) (lane : ℕ) → lane < LANES → LivesFrom cluster lane → IsReached masters backups cluster → MayBe masters backups cluster (crash_in lane)
    crash_may cluster lane inside lives reached = record {
      may = (
        lane_there masters backups cluster reached lane inside,
        subst (λ (count : ℕ). IsMaster count master) (sym (lane_good masters backups cluster reached lane inside).masters_are) there,
        tt,
      );
      calm = lives lane (omega arith) inside;
      told = λ all. record { fault = None; told = refl };
    }

    crashes_on : (first count : ℕ) → first + count ≤ LANES → (cluster : Cluster) → LivesFrom cluster first
        → GoesOn masters backups cluster (all_acted cluster (crashes first count)).came
    crashes_on first zero within cluster lives = none_on masters backups cluster
    crashes_on first (suc count) within cluster lives =
        let inside : first < LANES = omega (arith, within) in
        let next : Cluster = (acted cluster (crash_in first)).cluster in
        came_first masters backups cluster (crash_in first) (crashes (first + 1) count) (crash_may cluster first inside lives)
        (crashes_on (first + 1) count (omega (arith, within)) next (λ lane past there. subst
        (λ (w : World). lives_another w master ≡ true)
        (sym (other_same cluster first lane (λ is. absurd (omega (arith, past, is))))) (lives lane (omega (arith, past)) there)))

  -- the crash of a master, unless a code refuses it
  pub crash_on : (cluster : Cluster) → crash_code cluster master ≡ None → GoesOn masters backups cluster (all_acted cluster (crash_makes cluster master)).came
  crash_on cluster none reached =
      let dead = code_where (is_dead cluster master) Crashed in
      let last = code_where (not (is_other_alive cluster master)) LastMaster in
      let first = passes (not (is_master cluster master)) Unknown (first_code (dead ∷ last ∷ [])) none in
      let second = passes (is_dead cluster master) Crashed (first_code (last ∷ [])) first.1 in
      let third = passes (not (is_other_alive cluster master)) LastMaster None second.1 in
      let all = AllPass-from_list_all (λ w. lives_another w master) cluster.lanes (not-false (is_other_alive cluster master) third.0) in
      let lives : LivesFrom cluster 0 = λ lane past within. all lane (new_world lane 0 0) (lane_there masters backups cluster reached lane within) in
      let eight = reached_eight masters backups cluster reached in
      subst (λ (count : ℕ). GoesOn masters backups cluster (all_acted cluster (crashes 0 count)).came) (sym eight)
      (crashes_on (master_there masters backups cluster master reached first.0) 0 LANES (omega arith) cluster lives) reached
