-- Deeds that are done, one after the other.
use Rattle.rk_cluster.proofs.Words.{arith, ◌≡◌, ◌<◌, ℕ, ◌+◌, List, [], length, slice_index_or, Option, None, Some, refl, subst, ◌∙◌}
use Rattle.rk_cluster.proofs.Words.{NumberMap, Segments, Called, Gave, Session, Happens, Occurrence, lane_at, MayHappen, told_by_replica}
use Rattle.rk_cluster.proofs.Words.{World, new_world, Event, LaneState, acted, ActsOne, IsActedAs, LanesGoOn, backup_counts, AreButOne}
use Rattle.rk_cluster.proofs.Words.{AreLanes, AreStepsCutShort, CarriesSteps, IsDeed, IsHappening, IsPlain, MayComeAt, state_of, Deed}
use Rattle.rk_cluster.proofs.Words.{StepsEndWorn}
use Rattle.std.specs.Prelude.{◌≤◌}
use Rattle.rk_world.specs.declared.event.Event.TheVariants as events
use Rattle.rk_lane.specs.Events.{MayComeTo}
use Rattle.rk_cluster.proofs.Faults.{lanes_same, lanes_then}
use Rattle.rk_cluster.proofs.Shortage.{lanes_short}
use Rattle.rk_cluster.proofs.Worlds.{masters_at}
use Rattle.rk_cluster.proofs.Parts.{HaveCome, come_all, come_none, come_one, come_short, come_worn}

-- what occurs by a deed
abbrev pub occurrence_of : Deed → Occurrence
occurrence_of deed = Happens deed.lane deed.event (Gave None)

-- ---- a plain event

-- it calls no replica
plain_answer : (w : World) (event : Event) (fault : Option ℕ) → IsPlain event → told_by_replica w event fault ≡ Gave None
plain_answer w (events.Deliver number) fault plain = absurd plain
plain_answer w _ fault plain = refl

-- it needs no calm, and what it may name depends on how many masters there are
pub may_come : {R : Type 0} (lane : LaneState R) (masters : ℕ) (event : Event) → IsPlain event → MayHappen (new_world 0 masters 0) event → lane.masters ≡ masters → MayComeTo lane event
may_come lane masters event plain may is = grind arith

module _ {R : Type 0} (segments : R → Option Segments) where
  pub happens_plain : {faults : R → ℕ} (old new : List (LaneState R)) (lane : ℕ) (event : Event) (broken : Option ℕ) → IsPlain event → IsHappening segments faults old new lane event broken
      → (sessions : NumberMap Session) → ActsOne segments (state_of old sessions) (state_of new sessions) (Happens lane event (Gave None)) [] broken
  happens_plain old new lane event broken plain it sessions cluster is =
      subst (λ (called : Called). IsActedAs segments cluster (state_of new sessions) [] broken (acted cluster (Happens lane event called)))
      (plain_answer (lane_at cluster lane) event _ plain) (it.acts sessions cluster is)

  -- ---- some of the deeds are done

  pub record IsActing (faults : R → ℕ) (old now : List (LaneState R)) (masters : ℕ) (deeds : List Deed) (index : ℕ) : Type 0 where
    pub came : (sessions : NumberMap Session) → HaveCome segments occurrence_of deeds (state_of old sessions) (state_of now sessions) index
    pub lanes : AreLanes masters 0 now
    pub count : length now ≡ length old
    pub backups : backup_counts now ≡ backup_counts old
    pub counts : LanesGoOn faults [] old now

  pub acting_none : (faults : R → ℕ) (lanes : List (LaneState R)) (masters : ℕ) (deeds : List Deed) → AreLanes masters 0 lanes
      → IsActing faults lanes lanes masters deeds 0
  acting_none faults lanes masters deeds are = grind (arith, come_none, state_of, lanes_same)

  module _ (faults : R → ℕ) (old now : List (LaneState R)) (masters : ℕ) (deeds : List Deed) (index : ℕ) (before : IsActing faults old now masters deeds index) where
    module _ (d : Deed) (within : index < length deeds) (may : IsDeed (length old) masters (slice_index_or deeds index d)) where
      abbrev deed : Deed
      deed = slice_index_or deeds index d

      pub acting_one : (next : List (LaneState R)) → IsHappening segments faults now next deed.lane deed.event None
          → ((count : ℕ) → AreLanes count 0 now → AreLanes count 0 next) → length next ≡ length now → backup_counts next ≡ backup_counts now
          → LanesGoOn faults [] now next → IsActing faults old next masters deeds (index + 1)
      acting_one next happening keeps same backed on = record {
        came = λ sessions.
            come_one segments occurrence_of deeds (state_of old sessions) (state_of now sessions) (state_of next sessions) index d within
            (happens_plain now next deed.lane deed.event None may.plain happening sessions) (before.came sessions);
        lanes = keeps masters before.lanes;
        count = same ∙ before.count;
        backups = backed ∙ before.backups;
        counts = lanes_then faults old now next before.counts on;
      }

      pub acting_worn : (next : List (LaneState R)) (number : ℕ) → IsHappening segments faults now next deed.lane deed.event (Some number)
          → StepsEndWorn segments old next deeds number
      acting_worn next number happening sessions =
          come_worn segments occurrence_of deeds (state_of old sessions) (state_of now sessions) (state_of next sessions) index number d within
          (happens_plain now next deed.lane deed.event (Some number) may.plain happening sessions) (before.came sessions)

      pub may_come_at : MayComeAt now deed.lane deed.event
      may_come_at lane there = may_come lane masters deed.event may.plain may.may (masters_at masters 0 now deed.lane lane there before.lanes)

    -- memory was wanting for one
    pub acting_short : (next : List (LaneState R)) → AreButOne now next → AreStepsCutShort segments old next deeds
    acting_short next but sessions =
        come_short segments occurrence_of deeds (state_of old sessions) (state_of now sessions) (state_of next sessions) index (before.came sessions)
        (lanes_short now next sessions but)

    -- all are done
    pub acting_all : length deeds ≤ index → CarriesSteps segments old now deeds []
    acting_all past sessions = come_all segments occurrence_of deeds (state_of old sessions) (state_of now sessions) index past (before.came sessions)
