-- Events that change the coordinator and a master, and send nothing.
use Rattle.rk_lane.proofs.Words.{◌≡◌, ◌≤◌, ◌<◌, ◌-◌, ℕ, max, List, [], length, set, All, Option, Some, None, IsSome, refl, sym, ap, subst}
use Rattle.rk_lane.proofs.Words.{◌∙◌, arith, sum_by, length-set, All-map, All-set, All-weaker, sum-map, each_insert, EachIn, NumberMap, get}
use Rattle.rk_lane.proofs.Words.{insert, Segments, Gave, Master, log_bytes, IsMaster, fault_of, HasRoomIn, MOST_BYTES, happened, World}
use Rattle.rk_lane.proofs.Words.{bytes_of_logs, counters_of, greatest, with_coordinator, with_master, with_top, Event, Seen, all_in_map}
use Rattle.rk_lane.proofs.Words.{below_greatest, greatest_within, size_found, sum_inserted, numbered_order, KeepsTo, all_inserted}
use Rattle.rk_lane.proofs.Words.{keeps_to_more, keeps_to_top, IsMade, IsReady, IsAt, masters_from, world_of, IsWeighed, Parts, all_before}
use Rattle.rk_lane.proofs.Words.{terms_of, Coordinator, quietly}
use Rattle.rk_lane.proofs.Quiet.{quiet_seen}
use Rattle.rk_lane.proofs.Topped.{keeps_once_topped, topped}
use Rattle.rk_lane.proofs.MasterWork.{found_at, inserted, set_at_number}
use Rattle.rk_lane.proofs.Keeping.{formed_then}
use Rattle.rk_lane.proofs.Refusing.{refused_fresh}

module _ (old : Parts) (event : Event) (number : ℕ) (it now : Master) (coordinator : Coordinator) (p2 : Parts) (before : ℕ) (seen : Seen)
    (ready : IsReady old event) (none : fault_of (world_of old []) event ≡ None) (there : IsMaster (length old.masters.items) number)
    (at : IsAt old.masters.items number it) (before_is : before ≡ log_bytes it)
    (is : (stored : NumberMap Segments) → happened (world_of old stored) event (Gave None) ≡ quietly (with_coordinator (with_master (world_of old stored) number now) coordinator))
    (did : p2.masters.items ≡ set old.masters.items (number - 1) (Some now))
    (weighed : IsWeighed (record old { masters = p2.masters }) number before p2.log_bytes) (quiet : seen ≡ quiet_seen) where
  masters_are : insert (masters_from 1 old.masters.items) number now ≡ masters_from 1 p2.masters.items
  masters_are = inserted old.masters.items number there now ∙ ap (masters_from 1) (sym did)

  at_then : IsAt p2.masters.items number now
  at_then = subst (λ (list : List (Option Master)). IsAt list number now) (sym did) (set_at_number old.masters.items number there now)

  there_then : IsMaster (length p2.masters.items) number
  there_then = grind (arith, length-set)

  -- the parts after it
  abbrev pub after_both : Parts
  after_both = record old {
    masters = p2.masters;
    log_bytes = p2.log_bytes;
    coordinator = coordinator;
    top = max (max old.top (greatest (terms_of coordinator.rows))) (greatest (counters_of now));
  }

  -- the world then, with the greatest number as it was
  both_world : NumberMap Segments → World
  both_world stored = record (world_of old stored) { masters = masters_from 1 p2.masters.items; coordinator = coordinator }

  sizes : bytes_of_logs (world_of after_both []) ≡ p2.log_bytes
  sizes =
      let order = numbered_order (masters_from 1 old.masters.items) old.coordinator.masters ready.kept.formed.formed.masters_are in
      let moved = sum_inserted log_bytes (masters_from 1 old.masters.items) number now order in
      let size : size_found log_bytes (get (masters_from 1 old.masters.items) number) ≡ log_bytes it =
      ap (size_found log_bytes) (found_at old.masters.items number there it at) in
      let later : sum_by (λ (entry : ℕ × Master). log_bytes entry.1) (insert (masters_from 1 old.masters.items) number now) ≡ bytes_of_logs (world_of after_both []) =
      ap (λ (masters : NumberMap Master). sum_by (λ (entry : ℕ × Master). log_bytes entry.1) masters) masters_are
      ∙ sym (sum-map (λ (entry : ℕ × Master). log_bytes entry.1) (masters_from 1 p2.masters.items)) in
      let was : bytes_of_logs (world_of old []) ≡ sum_by (λ (entry : ℕ × Master). log_bytes entry.1) (masters_from 1 old.masters.items) =
      sum-map (λ (entry : ℕ × Master). log_bytes entry.1) (masters_from 1 old.masters.items) in
      let counted = ready.kept.counted in
      let weight = weighed.bytes now at_then in
      omega (arith, moved, size, later, was, counted, weight, before_is)

  below_term : (n : ℕ) → n ≤ greatest (terms_of coordinator.rows) → n ≤ after_both.top
  below_term n low = omega (arith, low)

  below_counter : (n : ℕ) → n ≤ greatest (counters_of now) → n ≤ after_both.top
  below_counter n low = omega (arith, low)

  both_keeps : (stored : NumberMap Segments) → KeepsTo after_both.top (both_world stored)
  unfolding both_world
  both_keeps stored =
      let more = keeps_to_more old.top after_both.top (world_of old []) (omega arith) (keeps_to_top (world_of old []) ready.kept.formed.formed) in
      record {
        top = more.top;
        sent = more.sent;
        stamp = more.stamp;
        seen = more.seen;
        terms =
            all_before (λ (n : ℕ). n ≤ after_both.top) (λ row. row.term) coordinator.rows
            (All-weaker (λ n. n ≤ greatest (terms_of coordinator.rows)) (λ n. n ≤ after_both.top) below_term (terms_of coordinator.rows) (below_greatest (terms_of coordinator.rows)));
        counters =
            subst (λ (masters : NumberMap Master). All (λ entry. All (λ n. n ≤ after_both.top) (counters_of entry.1)) masters) masters_are
            (all_inserted (λ (one : Master). All (λ n. n ≤ after_both.top) (counters_of one)) (masters_from 1 old.masters.items) number now
            (All-weaker (λ n. n ≤ greatest (counters_of now)) (λ n. n ≤ after_both.top) below_counter (counters_of now) (below_greatest (counters_of now)))
            more.counters);
      }

  both_reached : (stored : NumberMap Segments) → after_both.top ≤ (with_top (both_world stored)).top
  unfolding both_world
  both_reached stored =
      let limit : ℕ = (with_top (both_world stored)).top in
      let once = keeps_once_topped (both_world stored) in
      let terms = greatest_within limit (terms_of coordinator.rows) (All-map (λ (n : ℕ). n ≤ limit) (λ row. row.term) coordinator.rows once.terms) in
      let counters =
      greatest_within limit (counters_of now)
      (all_in_map (λ (one : Master). All (λ n. n ≤ limit) (counters_of one)) (masters_from 1 p2.masters.items) number now
      (found_at p2.masters.items number there_then now at_then) once.counters) in
      omega (arith, terms, counters, once.top)

  both_made_in : (stored : NumberMap Segments) → happened (world_of old stored) event (Gave None) ≡ record { world = world_of after_both stored; seen = seen }
  unfolding both_world
  both_made_in stored =
      is stored
      ∙ ap (λ (masters : NumberMap Master). quietly (record (world_of old stored) { masters = masters; coordinator = coordinator })) masters_are
      ∙ (λ i. record { world = topped (both_world stored) after_both.top (both_keeps stored) (both_reached stored) i; seen = sym quiet i })

  same_count : length p2.masters.items ≡ length old.masters.items
  same_count = ap (λ (list : List (Option Master)). length list) did ∙ length-set old.masters.items (number - 1) (Some now)

  -- the event is made
  pub both_made : IsMade old event (Gave None) after_both seen
  both_made = record {
    allowed = none;
    made = both_made_in;
    kept = record {
      present = subst (All IsSome) (sym did) (All-set IsSome old.masters.items (number - 1) (Some now) refl ready.kept.present);
      formed =
          formed_then old after_both event (Gave None) seen ready.kept ready.may tt (refused_fresh (world_of old []) event ready.fresh ∙ none) (both_made_in [])
          (record {
            bytes = subst (λ (bytes : ℕ). bytes < MOST_BYTES) (sym sizes) weighed.few;
            masters =
                subst (EachIn (λ (n : ℕ) master. HasRoomIn master)) masters_are
                (each_insert (λ (n : ℕ) master. HasRoomIn master) (masters_from 1 old.masters.items) number now ready.kept.formed.room.masters (weighed.room now at_then));
          });
      counted = sym sizes;
      distinct = ready.kept.distinct;
      reserved = omega (arith, ready.kept.reserved, same_count);
      requests = ready.kept.requests;
    };
    lane = record { number = refl; backups = refl; masters = same_count };
  }
