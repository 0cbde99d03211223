-- How a master crashes in all lanes.
use Rattle.rk_cluster.proofs.Words.{◌≡◌, ◌<◌, ◌≤◌, ◌+◌, ℕ, Bool, ◌&&◌, not, List, [], ◌∷◌, All, nat_le, length, slice_get, Option}
use Rattle.rk_cluster.proofs.Words.{None, Some, IfSome, sym, ap, subst, ◌∙◌, arith, list_all, NumberMap, LANES, Segments, Session, IsMaster}
use Rattle.rk_cluster.proofs.Words.{lives_another, World, has_crashed, LaneState, world_with, code_where, crash_code, first_code, ActsOne}
use Rattle.rk_cluster.proofs.Words.{HasCode, LanesGoOn, is_dead, is_master, backup_counts, AreWorlds, AreLanes, CarriesSteps, IsHappening}
use Rattle.rk_cluster.proofs.Words.{MayComeAt, state_of, HoldsIn, Crashed, Unknown, Deed}
use Rattle.rk_world.specs.declared.event.Event.TheVariants as events
use Rattle.rk_cluster.specs.Crashing.{IsSameBeside, crashes}
use Rattle.rk_cluster.specs.Looks.{is_other_alive}
use Rattle.rk_cluster.specs.declared.code.Code.TheVariants.{LastMaster}
use Rattle.rk_cluster.proofs.Faults.{lanes_same, lanes_then}
use Rattle.rk_cluster.proofs.Noticing.{count_is, dead_is}
use Rattle.rk_cluster.proofs.Worlds.{all_at, masters_at}
use Rattle.rk_cluster.proofs.Parts.{HaveCome, come_all, come_none, come_one}
use Rattle.rk_cluster.proofs.Deeds.{occurrence_of}
use Rattle.std.proofs.lemmas.List.FromFn.{get_or-map-range_with_len}

module _ {R : Type 0} (segments : R → Option Segments) where
  -- ---- one lane after the other

  -- a master has crashed in the lanes before one
  pub record IsCrashing (faults : R → ℕ) (old now : List (LaneState R)) (masters master lane : ℕ) : Type 0 where
    pub came : (sessions : NumberMap Session) → HaveCome segments occurrence_of (crashes master) (state_of old sessions) (state_of now sessions) lane
    pub lanes : AreLanes masters 0 now
    pub count : length now ≡ length old
    pub backups : backup_counts now ≡ backup_counts old
    pub counts : LanesGoOn faults [] old now
    pub rest : (place : ℕ) → lane ≤ place → slice_get now place ≡ slice_get old place

  pub crashing_none : (faults : R → ℕ) (lanes : List (LaneState R)) (masters master : ℕ) → AreLanes masters 0 lanes → IsCrashing faults lanes lanes masters master 0
  crashing_none faults lanes masters master are = grind (arith, come_none, occurrence_of, state_of, lanes_same)

  pub crashing_one : (faults : R → ℕ) (old now next : List (LaneState R)) (masters master lane : ℕ) → lane < LANES → IsHappening segments faults now next lane (events.Crash master) None
      → IsSameBeside lane now next → ((count : ℕ) → AreLanes count 0 now → AreLanes count 0 next) → length next ≡ length now → backup_counts next ≡ backup_counts now
      → LanesGoOn faults [] now next → IsCrashing faults old now masters master lane → IsCrashing faults old next masters master (lane + 1)
  crashing_one faults old now next masters master lane within happening beside keeps same backed on before =
      let crash : Deed = record { lane = lane; event = events.Crash master } in
      let number : 0 + lane ≡ lane = omega arith in
      record {
        came = λ sessions.
            come_one segments occurrence_of (crashes master) (state_of old sessions) (state_of now sessions) (state_of next sessions) lane crash within
            (subst (λ (deed : Deed). ActsOne segments (state_of now sessions) (state_of next sessions) (occurrence_of deed) [] None)
            (sym (get_or-map-range_with_len (λ n. record { lane = n; event = events.Crash master }) 0 LANES lane lane crash within number))
            (happening.acts sessions)) (before.came sessions);
        lanes = keeps masters before.lanes;
        count = same ∙ before.count;
        backups = backed ∙ before.backups;
        counts = lanes_then faults old now next before.counts on;
        rest = λ place past. beside place (λ is. absurd (omega (arith, past, is))) ∙ before.rest place (omega (arith, past));
      }

  pub crashing_all : (faults : R → ℕ) (old now : List (LaneState R)) (masters master lane : ℕ) → LANES ≤ lane → IsCrashing faults old now masters master lane
      → CarriesSteps segments old now (crashes master) []
  crashing_all faults old now masters master lane past before sessions =
      come_all segments occurrence_of (crashes master) (state_of old sessions) (state_of now sessions) lane past (before.came sessions)

  -- if another master lives a crash may come
  pub crash_may : (faults : R → ℕ) (old now : List (LaneState R)) (masters master lane : ℕ) → IsMaster masters master → All (HoldsIn (λ w. lives_another w master)) old
      → IsCrashing faults old now masters master lane → MayComeAt now lane (events.Crash master)
  crash_may faults old now masters master lane there calm before it is = record {
    may = subst (λ (count : ℕ). IsMaster count master) (sym (masters_at masters 0 now lane it is before.lanes)) there;
    calm = all_at (HoldsIn (λ w. lives_another w master)) old lane it (sym (before.rest lane (omega arith)) ∙ is) calm;
  }

  -- ---- codes

  module _ (lanes : List (LaneState R)) (sessions : NumberMap Session) (lane : LaneState R) (masters master : ℕ) (here crashed dead alive : Bool)
      (there : slice_get lanes 0 ≡ Some lane) (many : lane.masters ≡ masters)
      (counted : IfSome lane.running (λ running. running.coordinator.masters ≡ lane.masters))
      (known : IfSome lane.running (λ running. crashed ≡ has_crashed (world_with lane running []) master)) where
    pub crash_by : (nat_le 1 master && nat_le master masters) ≡ here → crashed ≡ dead
        → ((worlds : List World) → AreWorlds segments lanes worlds → alive ≡ list_all (λ w. lives_another w master) worlds)
        → HasCode segments (state_of lanes sessions) (λ cluster. crash_code cluster master)
        (first_code (code_where (not here) Unknown ∷ code_where dead Crashed ∷ code_where (not alive) LastMaster ∷ []))
    crash_by tested told others cluster is =
        let one : is_master cluster master ≡ here =
        ap (λ (n : ℕ). nat_le 1 master && nat_le master n) (count_is segments lanes sessions lane masters master crashed there many counted known cluster is) ∙ tested in
        let two : is_dead cluster master ≡ dead = dead_is segments lanes sessions lane masters master crashed there many counted known cluster is ∙ told in
        let three : is_other_alive cluster master ≡ alive = sym (others cluster.lanes is.lanes) in
        λ i. first_code (code_where (not (one i)) Unknown ∷ code_where (two i) Crashed ∷ code_where (not (three i)) LastMaster ∷ [])
