-- If lanes have counted their calls, and were asked at most as many as the sessions made, each call was answered.
use Rattle.std.proofs.Common.{◌≡◌, ℕ, ◌<◌, ◌≤◌, List, length, get_or, ap, subst, arith, Contains, map}
use Rattle.rk_inv_base.proofs.Words.{length-map, Contains-get_or, Placed, Receipt, Cluster, World, new_world, IsSound}
use Rattle.std.proofs.lemmas.List.{get_or_default}
use Rattle.std.proofs.lemmas.List.Elements.{All-from_get_or}
use Rattle.std.proofs.lemmas.List.Sorted.{length_permutation}
use Rattle.rk_model.specs.Ordered.{told_by}
use Rattle.rk_world.specs.Cluster.{journals_of}
use Rattle.rk_runs.specs.history.Agreement.{waiting}
use Rattle.rk_laws_lanes.specs.gathered.Answers.{accepted_answers, accepted_in}
use Rattle.rk_laws_lanes.specs.gathered.Gathered.{AreAnswered, AreCounted, AreGathered, IsEnded, LastAreAccepted}
use Rattle.rk_laws_lanes.specs.gathered.OpenCalls.{HasOpenCall}
use Rattle.rk_laws_lanes.specs.gathered.Sessions.{calls_in, receipts_in}
use Rattle.rk_laws_lanes.proofs.gathered.Accepted.{length_answers}
use Rattle.rk_laws_lanes.proofs.gathered.AllTold.{all_told}
use Rattle.rk_laws_lanes.proofs.gathered.Counted.{lanes_room, last_accepted, open_lanes_room}
use Rattle.rk_laws_lanes.proofs.gathered.Sessions.{calls_answered, distinct_calls}

module _ (masters : ℕ) (cluster : Cluster) (gathered : AreGathered masters cluster) (counted : AreCounted cluster) where
  abbrev journals : List (List Placed)
  journals = journals_of cluster

  abbrev receipts : List Receipt
  receipts = receipts_in cluster.sessions

  made : calls_in cluster.sessions ≡ length receipts
  made =
      calls_answered cluster.sessions gathered.order
      (λ client session found.
      let its : IsEnded client session = gathered.ended client session found in
      let last = its.orderly.last in
      let none = ap waiting its.answered in
      omega (arith, last, none))

  few : accepted_in journals ≤ length receipts
  few = grind (arith, lanes_room, made)

  -- there are as many accepted records as receipts
  same : accepted_in journals ≡ length receipts
  same =
      let told =
      all_told journals receipts
      (distinct_calls cluster.sessions gathered.order
      (λ client session found. (gathered.ended client session found).orderly.receipts)) gathered.recorded few in
      let long = length_permutation (map told_by receipts) (accepted_answers journals) told in
      let many = length-map receipts told_by in
      let answers = length_answers 0 journals in
      omega (arith, long, many, answers)

  none_open : (w : World) → Contains cluster.lanes w → (client : ℕ) → HasOpenCall w.ledger client → ⊥
  none_open w stands client opened = grind (arith, open_lanes_room, made, same)

  sound_at : (lane : ℕ) → lane < length cluster.lanes → IsSound (get_or cluster.lanes lane (new_world 0 0 0))
  sound_at lane inside =
      subst IsSound (get_or_default cluster.lanes lane (new_world lane 0 0) (new_world 0 0 0) inside) (gathered.lanes lane inside).sound

  pub all_answered : AreAnswered cluster
  all_answered = record {
    records = few;
    last =
        All-from_get_or LastAreAccepted cluster.lanes (new_world 0 0 0)
        (λ lane inside client.
        let w : World = get_or cluster.lanes lane (new_world 0 0 0) in
        last_accepted w (sound_at lane inside) client
        (none_open w (Contains-get_or cluster.lanes lane (new_world 0 0 0) inside) client));
  }
