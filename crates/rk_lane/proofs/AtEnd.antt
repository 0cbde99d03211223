-- A world once its messages are sent: its greatest number.
use Rattle.rk_lane.proofs.Words.{◌≡◌, ◌≤◌, ℕ, List, [], All, sym, ap, ◌∙◌, arith, NumberMap, Segments, Traffic, Message, last_stamp}
use Rattle.rk_lane.proofs.Words.{with_sends, World, counters_of, with_all_sent, with_top, Seen, KeepsTo, keeps_to_more, IsFinished}
use Rattle.rk_lane.proofs.Words.{masters_from, world_of, Parts}
use Rattle.rk_lane.proofs.Topped.{keeps_once_topped, topped}

-- the numbers that a node's work may raise keep to a limit
pub record IsWithin (limit : ℕ) (parts : Parts) : Type 0 where
  pub stamp : last_stamp parts.ledger.journal ≤ limit
  pub terms : All (λ row. row.term ≤ limit) parts.coordinator.rows
  pub counters : All (λ entry. All (λ n. n ≤ limit) (counters_of entry.1)) (masters_from 1 parts.masters.items)

-- what all of these keep to, the greatest number does
abbrev pub IsReached : ℕ → Parts → Type 0
IsReached base parts = (limit : ℕ) → base ≤ limit → IsWithin limit parts → parts.top ≤ limit

module _ (parts new : Parts) (base : ℕ) (sends : List Message) (seen : Seen) (finished : IsFinished parts sends new seen)
    (keeps : KeepsTo parts.top (world_of parts [])) (low : base ≤ parts.top) (reached : IsReached base parts) where
  sent_world : NumberMap Segments → World
  sent_world stored = with_all_sent (record (world_of parts stored) { top = base }) sends

  sent_keeps : (stored : NumberMap Segments) → KeepsTo new.top (sent_world stored)
  unfolding sent_world
  sent_keeps stored =
      let rises = finished.low in
      let more = keeps_to_more parts.top new.top (world_of parts []) rises keeps in
      let wire = ap (λ (w : Traffic). w.sent) finished.wire in
      let before = more.sent in
      let sent = finished.reached in
      record {
        top = omega arith;
        sent = omega arith;
        stamp = more.stamp;
        seen = more.seen;
        terms = more.terms;
        counters = more.counters;
      }

  sent_reached : (stored : NumberMap Segments) → new.top ≤ (with_top (sent_world stored)).top
  unfolding sent_world
  sent_reached stored =
      let once = keeps_once_topped (sent_world stored) in
      let old = reached (with_top (sent_world stored)).top once.top (record { stamp = once.stamp; terms = once.terms; counters = once.counters }) in
      let given = finished.given in
      let sent = once.sent in
      let wire = ap (λ (w : Traffic). w.sent) finished.wire in
      omega arith

  world_sent : (stored : NumberMap Segments) → with_top (sent_world stored) ≡ world_of new stored
  unfolding sent_world
  world_sent stored =
      topped (sent_world stored) new.top (sent_keeps stored) (sent_reached stored)
      ∙ ap (λ (wire : Traffic). record (world_of parts stored) { wire = wire; top = new.top }) (sym finished.wire)
      ∙ ap (λ (p : Parts). world_of p stored) (sym finished.parts)

  -- the world once they are sent is that of the parts then
  pub sends_made : (stored : NumberMap Segments) → with_sends (record (world_of parts stored) { top = base }) sends ≡ record { world = world_of new stored; seen = seen }
  unfolding sent_world
  sends_made stored = λ i. record { world = world_sent stored i; seen = sym finished.seen_is i }
