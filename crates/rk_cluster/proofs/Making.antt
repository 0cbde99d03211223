-- What a call makes by its deeds.
use Rattle.rk_cluster.proofs.Words.{◌≡◌, ◌<◌, ℕ, List, [], ◌∷◌, ◌++◌, All, length, map, Option, None, Some, refl, sym, ap, subst, ◌∙◌}
use Rattle.rk_cluster.proofs.Words.{append-nil, All-map, All-weaker, NumberMap, LANES, Segments, Session, Cluster, Occurrence, MayHappen}
use Rattle.rk_cluster.proofs.Words.{new_world, Event, LaneState, all_acted, ActsBy, EndsIn, HasCode, IsActedAs, IsCarriedOut, all_lanes}
use Rattle.rk_cluster.proofs.Words.{in_lanes, next_tablet, ClusterState, IsOf, AreStepsCutShort, CarriesSteps, IsDeed, IsPlain}
use Rattle.rk_cluster.proofs.Words.{StepsEndWorn, WhereWorn, occurrences, state_of, LanesTell, Code, ClusterError, Deed}
use Rattle.rk_cluster.specs.Told.{WhereRefused}
use Rattle.rk_cluster.specs.declared.error.ClusterError.TheVariants as errors
use Rattle.rk_cluster.proofs.Carrying.{none_acts}
use Rattle.rk_cluster.proofs.Joining.{deeds_in, ends_in, made_in_all}
use Rattle.rk_cluster.proofs.Shortage.{made_short, nothing_done, same_short}

-- the same event in some lanes
abbrev pub deeds_of : Event → List ℕ → List Deed
deeds_of event lanes = map (λ lane. record { lane = lane; event = event }) lanes

-- so many deeds are as many occurrences
pub occurrences_of : (event : Event) (lanes : List ℕ) → occurrences (deeds_of event lanes) ≡ in_lanes lanes event
occurrences_of event [] = refl
occurrences_of event (lane ∷ lanes) = ap (λ (rest : List Occurrence). in_lanes (lane ∷ []) event ++ rest) (occurrences_of event lanes)

-- they may be done in lanes that are there
pub deeds_may : (masters count : ℕ) (event : Event) (lanes : List ℕ) → count ≡ LANES → IsPlain event → MayHappen (new_world 0 masters 0) event
    → All (λ lane. lane < LANES) lanes → All (IsDeed count masters) (deeds_of event lanes)
deeds_may masters count event lanes is plain may there =
    subst (λ (many : ℕ). All (IsDeed many masters) (deeds_of event lanes)) (sym is)
    (All-map (IsDeed LANES masters) (λ lane. record { lane = lane; event = event }) lanes
    (All-weaker (λ lane. lane < LANES) (λ lane. IsDeed LANES masters (record { lane = lane; event = event })) (λ lane within. record { there = within; plain = plain; may = may }) lanes there))

module _ {R : Type 0} (segments : R → Option Segments) where
  -- what is seen of lanes, under another name
  pub told_of : {T : Type 0} (given lanes : List (LaneState R)) (look : Cluster → T) (seen : T) → given ≡ lanes → LanesTell segments given look seen
      → LanesTell segments lanes look seen
  told_of given lanes look seen same tells = subst (λ (those : List (LaneState R)). LanesTell segments those look seen) same tells

  -- an event in all lanes, with the number of the next tablet
  pub numbered_made : (lanes : List (LaneState R)) (sessions : NumberMap Session) (event : ℕ → Event) (tablet : ℕ) → length lanes ≡ LANES
      → LanesTell segments lanes next_tablet tablet → (cluster : Cluster) → IsOf segments (state_of lanes sessions) cluster
      → in_lanes (all_lanes cluster) (event (next_tablet cluster)) ≡ occurrences (deeds_in (event tablet))
  numbered_made lanes sessions event tablet count tells cluster is =
      ap (λ (number : ℕ). in_lanes (all_lanes cluster) (event number)) (tells sessions cluster is) ∙ sym (made_in_all segments lanes sessions (event tablet) count cluster is)

  -- an event in the lanes that were found
  pub found_made : (lanes : List (LaneState R)) (sessions : NumberMap Session) (event : Event) (look : Cluster → List ℕ) (found : List ℕ)
      → LanesTell segments lanes look found → (cluster : Cluster) → IsOf segments (state_of lanes sessions) cluster
      → in_lanes (look cluster) event ≡ occurrences (deeds_of event found)
  found_made lanes sessions event look found tells cluster is =
      ap (λ (among : List ℕ). in_lanes among event) (tells sessions cluster is) ∙ sym (occurrences_of event found)

  module _ (lanes new : List (LaneState R)) (sessions : NumberMap Session) (code_of : Cluster → Option Code) (makes : Cluster → List Occurrence) (deeds : List Deed)
      (code : HasCode segments (state_of lanes sessions) code_of None)
      (made : (cluster : Cluster) → IsOf segments (state_of lanes sessions) cluster → makes cluster ≡ occurrences deeds) where
    -- all deeds were done
    pub carried_out : CarriesSteps segments lanes new deeds [] → IsCarriedOut segments (state_of lanes sessions) (state_of new sessions) code_of makes []
    carried_out carries = record {
      code = code;
      acts = λ cluster is.
          subst (λ (it : List Occurrence). IsActedAs segments cluster (state_of new sessions) [] None (all_acted cluster it))
          (append-nil (occurrences deeds) ∙ sym (made cluster is))
          (carries sessions (state_of new sessions) [] [] None (none_acts segments (state_of new sessions)) cluster is);
    }

    stops : (number : ℕ) → StepsEndWorn segments lanes new deeds number → ActsBy segments (state_of lanes sessions) (state_of new sessions) makes [] (Some number)
    stops number worn cluster is =
        subst (λ (it : List Occurrence). IsActedAs segments cluster (state_of new sessions) [] (Some number) (all_acted cluster it))
        (append-nil (occurrences deeds) ∙ sym (made cluster is)) (worn sessions [] cluster is)

    -- some were done, up to a deed that found its lane worn, or for which memory was wanting
    pub stopped : (e : ClusterError) → WhereWorn (StepsEndWorn segments lanes new deeds) e → AreStepsCutShort segments lanes new deeds → EndsIn segments (state_of lanes sessions) (state_of new sessions) code_of makes e
    stopped e worn short =
        ends_in segments (StepsEndWorn segments lanes new deeds) (state_of lanes sessions) (state_of new sessions) code_of makes e code stops worn
        (made_short segments (state_of lanes sessions) (state_of new sessions) makes (occurrences deeds) made (short sessions))

  -- a call that is refused ends in its code
  pub refused : (state : ClusterState R) (code_of : Cluster → Option Code) (makes : Cluster → List Occurrence) (Holds : Code → Type 0) (e : ClusterError)
      → ((code : Code) → Holds code → HasCode segments state code_of (Some code)) → WhereRefused Holds e → EndsIn segments state state code_of makes e
  refused state code_of makes Holds errors.NoMemory gives holds = nothing_done segments state state makes (same_short state)
  refused state code_of makes Holds (errors.Code code) gives holds = (gives code holds, refl)
  refused state code_of makes Holds (errors.Worn number) gives holds = absurd holds
