-- A message that is delivered.
use Rattle.rk_cluster.proofs.Words.{arith, ◌≡◌, ℕ, Bool, true, false, ◌&&◌, List, [], ◌∷◌, is_some, slice_get, Option, None, Some, IfSome}
use Rattle.rk_cluster.proofs.Words.{refl, sym, ap, subst, ◌∙◌, ⊎_elim, option_map, option_to_list, NumberMap, get, Node, Said, Segments}
use Rattle.rk_cluster.proofs.Words.{Traffic, number_at, receiver_of, Message, Session, Accepts, Cluster, Occurrence, lane_at, step}
use Rattle.rk_cluster.proofs.Words.{LaneState, acted, all_acted, lost_in, place_code, Delivers, DeliversShort, IsDelivery, is_backup, Acts}
use Rattle.rk_cluster.proofs.Words.{ActsBy, ActsOne, EndsIn, HasCode, IsActedAs, IsCarriedOut, BySomeFate, LanesGoOn, counts_in}
use Rattle.rk_cluster.proofs.Words.{deliver_makes, Fate, Kept, answer_of, IsShortOf, ClusterState, IsOf, IsHappening, IsLosing, WhereWorn}
use Rattle.rk_cluster.proofs.Words.{state_of, AcceptsShort, Delivered, ClusterError}
use Rattle.std.proofs.Common.{if◌then◌else◌}
use Rattle.rk_types.specs.declared.node.Node.TheVariants as nodes
use Rattle.rk_message.specs.Wire.{missing}
use Rattle.rk_message.specs.declared.missing.NoMessage.{NoMessage}
use Rattle.rk_world.specs.declared.event.Event.TheVariants as events
use Rattle.rk_cluster.specs.Delivering.{IsArrivalAt, is_lost_at_backup}
use Rattle.rk_cluster.specs.Makes.{deliver_by, deliver_in_makes, delivery, delivery_of, has_receiver}
use Rattle.rk_cluster.specs.Replicas.{happening}
use Rattle.rk_cluster.specs.declared.error.ClusterError.TheVariants as errors
use Rattle.rk_cluster.proofs.Carrying.{last_stays, none_acts, worn_stays}
use Rattle.rk_cluster.proofs.Faults.{go_on_kept, lanes_same}
use Rattle.rk_cluster.proofs.Forgetting.{place_by, wire_is}
use Rattle.rk_cluster.proofs.Shortage.{all_done, as_short, nothing_done}

pub no_receiver : (number : ℕ) (wire : Traffic) (e : NoMessage) → missing number wire ≡ Some e → receiver_of number wire ≡ None
no_receiver number wire e missing_is = grind (arith, wire.messages)

-- whom a message is for that was found
pub received : (number : ℕ) (wire : Traffic) (message : Message) (to : Node) → get wire.messages number ≡ Some message → to ≡ message.to
    → receiver_of number wire ≡ Some to
received number wire message to found is = ap (option_map (λ (it : Message). it.to)) found ∙ ap Some (sym is)

-- what was found on the wire of a lane arrives there
pub arrives : {R : Type 0} (lanes : List (LaneState R)) (place number : ℕ) (lane : LaneState R) (wire : Traffic) (message found : Message)
    → slice_get lanes place ≡ Some lane → IfSome lane.running (λ running. wire ≡ running.wire) → get wire.messages number ≡ Some found → message ≡ found
    → IsArrivalAt lanes place (record { number = number; message = message })
arrives {R = R} lanes place number lane wire message found there known is same other at = grind arith

module _ {R : Type 0} (segments : R → Option Segments) (faults : R → ℕ) where
  -- one occurrence alone, whether or not something is worn there
  alone_at : (next : ClusterState R) (told : List Said) (broken : Option ℕ) (cluster : Cluster) (occurrence : Occurrence) → IsActedAs segments cluster next told broken (acted cluster occurrence)
      → IsActedAs segments cluster next told broken (all_acted cluster (occurrence ∷ []))
  alone_at next told None cluster occurrence is = last_stays segments cluster next told (acted cluster occurrence) is
  alone_at next told (Some number) cluster occurrence is = worn_stays segments cluster next told number [] (acted cluster occurrence) is

  alone_acts : (old next : ClusterState R) (occurrence : Occurrence) (told : List Said) (broken : Option ℕ) → ActsOne segments old next occurrence told broken
      → Acts segments old next (occurrence ∷ []) told broken
  alone_acts old next occurrence told broken one cluster is = alone_at next told broken cluster occurrence (one cluster is)

  -- memory was wanting before anything was delivered
  pub short_delivery : (old new : ClusterState R) (place number : ℕ) → LanesGoOn faults [] old.lanes new.lanes → IsShortOf old new → DeliversShort segments faults old new place number
  short_delivery old new place number on since = record {
    fate = Kept;
    counts = go_on_kept (counts_in faults old.lanes) (counts_in faults new.lanes) on;
    holds = nothing_done segments old new (λ cluster. deliver_in_makes cluster place number Kept) since;
  }

  module _ (lanes : List (LaneState R)) (sessions : NumberMap Session) (place number : ℕ) (lane : LaneState R) (wire : Traffic)
      (there : slice_get lanes place ≡ Some lane) (known : IfSome lane.running (λ running. wire ≡ running.wire)) where
    -- what is made goes by the receiver
    abbrev made_for : Cluster → Fate → Option Node → List Occurrence
    made_for cluster fate None = []
    made_for cluster fate (Some to) = if has_receiver cluster to then delivery cluster place number fate to ∷ [] else []

    made_of : (cluster : Cluster) (fate : Fate) (found : Option Message)
        → delivery_of cluster place number fate found ≡ made_for cluster fate (option_map (λ message. message.to) found)
    made_of cluster fate None = refl
    made_of cluster fate (Some message) = refl

    made_is : (cluster : Cluster) → IsOf segments (state_of lanes sessions) cluster → (fate : Fate) (to : Option Node) → receiver_of number wire ≡ to
        → deliver_in_makes cluster place number fate ≡ made_for cluster fate to
    made_is cluster is fate to to_is =
        made_of cluster fate (get (lane_at cluster place).wire.messages number)
        ∙ ap (λ (t : Traffic). made_for cluster fate (receiver_of number t)) (wire_is segments lanes sessions place lane wire there known cluster is)
        ∙ ap (made_for cluster fate) to_is

    by_receiver : (new : ClusterState R) (to : Option Node) (fate : Fate) (told : List Said) (broken : Option ℕ) → receiver_of number wire ≡ to
        → LanesGoOn faults (fate ∷ []) lanes new.lanes
        → ((cluster : Cluster) → IsOf segments (state_of lanes sessions) cluster → IsActedAs segments cluster new told broken (all_acted cluster (made_for cluster fate to)))
        → Delivers segments faults (state_of lanes sessions) new place number told broken
    by_receiver new to fate told broken to_is counts acts = record {
      fate = fate;
      counts = counts;
      holds = λ cluster is.
          subst (λ (made : List Occurrence). IsActedAs segments cluster new told broken (all_acted cluster made)) (sym (made_is cluster is fate to to_is)) (acts cluster is);
    }

    -- no replica is called
    none_called : (new : ClusterState R) → LanesGoOn faults [] lanes new.lanes → LanesGoOn faults (Kept ∷ []) lanes new.lanes
    none_called new on = go_on_kept (counts_in faults lanes) (counts_in faults new.lanes) on

    -- nothing occurs if the message is not there
    pub delivers_nothing : receiver_of number wire ≡ None → Delivers segments faults (state_of lanes sessions) (state_of lanes sessions) place number [] None
    delivers_nothing none =
        by_receiver (state_of lanes sessions) None Kept [] None none (none_called (state_of lanes sessions) (lanes_same faults lanes)) (none_acts segments (state_of lanes sessions))

    -- a client takes it, if it has a session
    client_by : (new : ClusterState R) (client : ℕ) (told : List Said) (broken : Option ℕ) (has : Bool) → receiver_of number wire ≡ Some (nodes.Client client)
        → is_some (get sessions client) ≡ has → LanesGoOn faults [] lanes new.lanes
        → Acts segments (state_of lanes sessions) new (if has then Accepts place number client ∷ [] else []) told broken
        → Delivers segments faults (state_of lanes sessions) new place number told broken
    client_by new client told broken has to_is found on acts =
        by_receiver new (Some (nodes.Client client)) Kept told broken to_is (none_called new on)
        (λ cluster is.
        subst (λ (it : Bool). IsActedAs segments cluster new told broken (all_acted cluster (if it then Accepts place number client ∷ [] else [])))
        (sym (ap (λ (known : NumberMap Session). is_some (get known client)) is.sessions ∙ found)) (acts cluster is))

    pub delivers_stranger : (client : ℕ) → receiver_of number wire ≡ Some (nodes.Client client) → is_some (get sessions client) ≡ false
        → Delivers segments faults (state_of lanes sessions) (state_of lanes sessions) place number [] None
    delivers_stranger client to_is absent =
        client_by (state_of lanes sessions) client [] None false to_is absent (lanes_same faults lanes) (none_acts segments (state_of lanes sessions))

    pub delivers_client : (new : ClusterState R) (client : ℕ) (told : List Said) (broken : Option ℕ) → receiver_of number wire ≡ Some (nodes.Client client)
        → is_some (get sessions client) ≡ true → LanesGoOn faults [] lanes new.lanes → ActsOne segments (state_of lanes sessions) new (Accepts place number client) told broken
        → Delivers segments faults (state_of lanes sessions) new place number told broken
    delivers_client new client told broken to_is found on one =
        client_by new client told broken true to_is found on (alone_acts (state_of lanes sessions) new (Accepts place number client) told broken one)

    -- memory was wanting before it did, or once it had
    pub client_short : (new : ClusterState R) (client : ℕ) → receiver_of number wire ≡ Some (nodes.Client client) → is_some (get sessions client) ≡ true
        → LanesGoOn faults [] lanes new.lanes → AcceptsShort segments (state_of lanes sessions) new place number client
        → DeliversShort segments faults (state_of lanes sessions) new place number
    client_short new client to_is found on either =
        ⊎_elim (λ (since : IsShortOf (state_of lanes sessions) new). short_delivery (state_of lanes sessions) new place number on since)
        (λ (it : (told : List Said) × ActsOne segments (state_of lanes sessions) new (Accepts place number client) told None).
        let came = delivers_client new client it.0 None to_is found on it.1 in
        record {
          fate = came.fate;
          counts = came.counts;
          holds = all_done segments (state_of lanes sessions) new (λ cluster. deliver_in_makes cluster place number came.fate) it.0 came.holds;
        })
        either

    -- each other node takes it by an event
    pub delivers_node : (new : List (LaneState R)) (to : Node) (broken : Option ℕ) → ((client : ℕ) → to ≡ nodes.Client client → ⊥) → receiver_of number wire ≡ Some to
        → IsHappening segments faults lanes new place (events.Deliver number) broken
        → Delivers segments faults (state_of lanes sessions) (state_of new sessions) place number [] broken
    delivers_node new (nodes.Client client) broken other to_is it = absurd (other client refl)
    delivers_node new to broken other to_is it =
        by_receiver (state_of new sessions) (Some to) it.fate [] broken to_is it.counts
        (λ cluster is. alone_at (state_of new sessions) [] broken cluster (happening cluster place (events.Deliver number) it.fate) (it.acts sessions cluster is))

    -- ---- and whether the message was lost at a backup

    lost_is : (cluster : Cluster) → IsOf segments (state_of lanes sessions) cluster → (fate : Fate) (to : Option Node) → receiver_of number wire ≡ to
        → is_lost_at_backup cluster place number fate ≡ is_backup to && lost_in (step (lane_at cluster place) (events.Deliver number) (answer_of cluster place (events.Deliver number) fate))
    lost_is cluster is fate to to_is =
        ap (λ (t : Traffic). is_backup (receiver_of number t) && lost_in (step (lane_at cluster place) (events.Deliver number) (answer_of cluster place (events.Deliver number) fate)))
        (wire_is segments lanes sessions place lane wire there known cluster is)
        ∙ ap (λ (o : Option Node). is_backup o && lost_in (step (lane_at cluster place) (events.Deliver number) (answer_of cluster place (events.Deliver number) fate))) to_is

    delivery_by : (new : ClusterState R) (to : Option Node) (delivered : Delivered) → receiver_of number wire ≡ to
        → (it : Delivers segments faults (state_of lanes sessions) new place number (option_to_list delivered.said) None)
        → ((cluster : Cluster) → IsOf segments (state_of lanes sessions) cluster
        → is_backup to && lost_in (step (lane_at cluster place) (events.Deliver number) (answer_of cluster place (events.Deliver number) it.fate)) ≡ delivered.failed)
        → BySomeFate faults lanes new.lanes (IsDelivery segments (state_of lanes sessions) new place number delivered)
    delivery_by new to delivered to_is it shows = record {
      fate = it.fate;
      counts = it.counts;
      holds = record { acts = it.holds; failed = λ cluster is. lost_is cluster is it.fate to to_is ∙ shows cluster is };
    }

    pub delivery_nothing : receiver_of number wire ≡ None
        → BySomeFate faults lanes lanes (IsDelivery segments (state_of lanes sessions) (state_of lanes sessions) place number (record { said = None; failed = false }))
    delivery_nothing none =
        delivery_by (state_of lanes sessions) None (record { said = None; failed = false }) none (delivers_nothing none) (λ cluster is. refl)

    pub delivery_stranger : (client : ℕ) → receiver_of number wire ≡ Some (nodes.Client client) → is_some (get sessions client) ≡ false
        → BySomeFate faults lanes lanes (IsDelivery segments (state_of lanes sessions) (state_of lanes sessions) place number (record { said = None; failed = false }))
    delivery_stranger client to_is absent =
        delivery_by (state_of lanes sessions) (Some (nodes.Client client)) (record { said = None; failed = false }) to_is (delivers_stranger client to_is absent)
        (λ cluster is. refl)

    pub delivery_client : (new : ClusterState R) (client : ℕ) (said : Option Said) → receiver_of number wire ≡ Some (nodes.Client client)
        → is_some (get sessions client) ≡ true
        → LanesGoOn faults [] lanes new.lanes → ActsOne segments (state_of lanes sessions) new (Accepts place number client) (option_to_list said) None
        → BySomeFate faults lanes new.lanes (IsDelivery segments (state_of lanes sessions) new place number (record { said = said; failed = false }))
    delivery_client new client said to_is found on one =
        delivery_by new (Some (nodes.Client client)) (record { said = said; failed = false }) to_is
        (delivers_client new client (option_to_list said) None to_is found on one) (λ cluster is. refl)

    pub delivery_node : (new : List (LaneState R)) (to : Node) (lost : Bool) → ((client : ℕ) → to ≡ nodes.Client client → ⊥) → receiver_of number wire ≡ Some to
        → IsLosing segments faults lanes new place (events.Deliver number) None lost
        → BySomeFate faults lanes new (IsDelivery segments (state_of lanes sessions) (state_of new sessions) place number (record { said = None; failed = is_backup (Some to) && lost }))
    unfolding delivers_node by_receiver
    delivery_node new (nodes.Client client) lost other to_is it = absurd (other client refl)
    delivery_node new (nodes.Backup backup) lost other to_is it =
        delivery_by (state_of new sessions) (Some (nodes.Backup backup)) (record { said = None; failed = lost }) to_is
        (delivers_node new (nodes.Backup backup) None other to_is it.happens) (λ cluster is. it.shows sessions cluster is)
    delivery_node new to lost other to_is it =
        delivery_by (state_of new sessions) (Some to) (record { said = None; failed = false }) to_is (delivers_node new to None other to_is it.happens) (λ cluster is. refl)

    -- ---- at a place of the wire

    module _ (at : ℕ) (new : ClusterState R) (found : number_at at wire ≡ Some number) where
      placed_is : (fate : Fate) (cluster : Cluster) → IsOf segments (state_of lanes sessions) cluster → deliver_makes cluster place at fate ≡ deliver_in_makes cluster place number fate
      placed_is fate cluster is =
          ap (deliver_by cluster place fate) (ap (number_at at) (wire_is segments lanes sessions place lane wire there known cluster is) ∙ found)

      placed : (fate : Fate) (told : List Said) (broken : Option ℕ)
          → ActsBy segments (state_of lanes sessions) new (λ cluster. deliver_in_makes cluster place number fate) told broken
          → ActsBy segments (state_of lanes sessions) new (λ cluster. deliver_makes cluster place at fate) told broken
      placed fate told broken acts cluster is =
          subst (λ (made : List Occurrence). IsActedAs segments cluster new told broken (all_acted cluster made)) (sym (placed_is fate cluster is)) (acts cluster is)

      has_place : HasCode segments (state_of lanes sessions) (λ cluster. place_code cluster place at) None
      has_place = place_by segments lanes sessions place lane wire there known at (Some number) found

      pub carried_out : (delivered : Delivered) → BySomeFate faults lanes new.lanes (IsDelivery segments (state_of lanes sessions) new place number delivered)
          → BySomeFate faults lanes new.lanes (λ fate. IsCarriedOut segments (state_of lanes sessions) new (λ cluster. place_code cluster place at)
          (λ cluster. deliver_makes cluster place at fate) (option_to_list delivered.said))
      carried_out delivered it = record {
        fate = it.fate;
        counts = it.counts;
        holds = record { code = has_place; acts = placed it.fate (option_to_list delivered.said) None it.holds.acts };
      }

      pub ends : (e : ClusterError) → LanesGoOn faults [] lanes new.lanes → WhereWorn (λ worn. Delivers segments faults (state_of lanes sessions) new place number [] (Some worn)) e
          → DeliversShort segments faults (state_of lanes sessions) new place number
          → BySomeFate faults lanes new.lanes (λ fate. EndsIn segments (state_of lanes sessions) new (λ cluster. place_code cluster place at)
          (λ cluster. deliver_makes cluster place at fate) e)
      ends errors.NoMemory on worn short = record {
        fate = short.fate;
        counts = short.counts;
        holds = as_short segments (state_of lanes sessions) new (λ cluster. deliver_makes cluster place at short.fate) (λ cluster. deliver_in_makes cluster place number short.fate)
            (placed_is short.fate) short.holds;
      }
      ends (errors.Code code) on worn short = absurd worn
      ends (errors.Worn count) on worn short = record {
        fate = worn.fate;
        counts = worn.counts;
        holds = (has_place, placed worn.fate [] (Some count) worn.holds);
      }

      -- memory was wanting once it was delivered
      pub unlisted : (delivered : Delivered) → BySomeFate faults lanes new.lanes (IsDelivery segments (state_of lanes sessions) new place number delivered)
          → BySomeFate faults lanes new.lanes (λ fate. EndsIn segments (state_of lanes sessions) new (λ cluster. place_code cluster place at)
          (λ cluster. deliver_makes cluster place at fate) errors.NoMemory)
      unlisted delivered it = record {
        fate = it.fate;
        counts = it.counts;
        holds = all_done segments (state_of lanes sessions) new (λ cluster. deliver_makes cluster place at it.fate) (option_to_list delivered.said)
            (placed it.fate (option_to_list delivered.said) None it.holds.acts);
      }
