-- Events that change the coordinator and send nothing.
use Rattle.rk_lane.proofs.Words.{◌≡◌, ◌≤◌, ◌<◌, ◌^◌, ℕ, max, false, [], None, refl, sym, subst, ◌∙◌, arith, option_map, option_or, All-map}
use Rattle.rk_lane.proofs.Words.{All-weaker, NumberMap, Segments, Gave, Coordinator, fault_of, where_true, happened, quietly, greatest}
use Rattle.rk_lane.proofs.Words.{has_crashed, with_coordinator, with_top, Event, Seen, MayRise, below_greatest, greatest_within, all_before}
use Rattle.rk_lane.proofs.Words.{KeepsTo, keeps_to_more, keeps_to_top, terms_of, IsMade, IsReady, IsKept, world_of, Parts}
use Rattle.rk_world.specs.Migrations.{migrate_fault, tablet_migrated}
use Rattle.rk_world.specs.declared.error.StepError.TheVariants as errors
use Rattle.rk_world.specs.declared.event.Event.TheVariants as events
use Rattle.rk_lane.proofs.Keeping.{kept_still}
use Rattle.rk_lane.proofs.Quiet.{quiet_seen}
use Rattle.rk_lane.proofs.Refusing.{refused_fresh}
use Rattle.rk_lane.proofs.Topped.{keeps_once_topped, topped}

-- each term may rise
pub may_rise : (parts : Parts) → IsKept parts → MayRise parts.coordinator
may_rise parts kept =
    All-weaker (λ row. row.term ≤ parts.top) (λ row. row.term < 2 ^ 63) (λ row low. omega (arith, low, kept.formed.room.number)) parts.coordinator.rows
    (keeps_to_top (world_of parts []) kept.formed.formed).terms

module _ (old : Parts) (event : Event) (coordinator : Coordinator) (seen : Seen) (ready : IsReady old event) (none : fault_of (world_of old []) event ≡ None)
    (is : (stored : NumberMap Segments) → happened (world_of old stored) event (Gave None) ≡ quietly (with_coordinator (world_of old stored) coordinator))
    (quiet : seen ≡ quiet_seen) where
  -- the parts after it
  abbrev pub after_change : Parts
  after_change = record old { coordinator = coordinator; top = max old.top (greatest (terms_of coordinator.rows)) }

  below : (n : ℕ) → n ≤ greatest (terms_of coordinator.rows) → n ≤ after_change.top
  below n low = omega (arith, low)

  change_keeps : (stored : NumberMap Segments) → KeepsTo after_change.top (with_coordinator (world_of old stored) coordinator)
  change_keeps stored =
      let more = keeps_to_more old.top after_change.top (world_of old []) (omega arith) (keeps_to_top (world_of old []) ready.kept.formed.formed) in
      record {
        top = more.top;
        sent = more.sent;
        stamp = more.stamp;
        seen = more.seen;
        terms =
            all_before (λ (n : ℕ). n ≤ after_change.top) (λ row. row.term) coordinator.rows
            (All-weaker (λ n. n ≤ greatest (terms_of coordinator.rows)) (λ n. n ≤ after_change.top) below (terms_of coordinator.rows) (below_greatest (terms_of coordinator.rows)));
        counters = more.counters;
      }

  change_reached : (stored : NumberMap Segments) → after_change.top ≤ (with_top (with_coordinator (world_of old stored) coordinator)).top
  change_reached stored =
      let once = keeps_once_topped (with_coordinator (world_of old stored) coordinator) in
      let terms =
      greatest_within (with_top (with_coordinator (world_of old stored) coordinator)).top (terms_of coordinator.rows)
      (All-map (λ (n : ℕ). n ≤ (with_top (with_coordinator (world_of old stored) coordinator)).top) (λ row. row.term) coordinator.rows once.terms) in
      omega (arith, terms, once.top)

  change_made : (stored : NumberMap Segments) → happened (world_of old stored) event (Gave None) ≡ record { world = world_of after_change stored; seen = seen }
  change_made stored =
      is stored
      ∙ (λ i. record {
        world = topped (with_coordinator (world_of old stored) coordinator) after_change.top (change_keeps stored) (change_reached stored) i;
        seen = sym quiet i;
      })

  -- the event is made
  pub made_by_change : IsMade old event (Gave None) after_change seen
  made_by_change = record {
    allowed = none;
    made = change_made;
    kept =
        kept_still old after_change event (Gave None) seen ready.kept ready.may tt (refused_fresh (world_of old []) event ready.fresh ∙ none) (change_made [])
        refl refl refl;
    lane = record { number = refl; backups = refl; masters = refl };
  }

-- a tablet may move that the coordinator does not refuse to move, to a master that lives
pub move_allowed : (old : Parts) (tablet to : ℕ) → has_crashed (world_of old []) to ≡ false → migrate_fault old.coordinator tablet to ≡ None
    → fault_of (world_of old []) (events.Migrate tablet to) ≡ None
move_allowed old tablet to lives none =
    λ i. option_or (where_true (lives i) (errors.Dead to)) (option_map errors.Move (none i))

-- a tablet begins to move
pub moved : (old new : Parts) (tablet to : ℕ) (seen : Seen) → IsReady old (events.Migrate tablet to) → has_crashed (world_of old []) to ≡ false
    → migrate_fault old.coordinator tablet to ≡ None
    → new ≡ record old { coordinator = tablet_migrated old.coordinator tablet to; top = max old.top (greatest (terms_of (tablet_migrated old.coordinator tablet to).rows)) }
    → seen ≡ quiet_seen → IsMade old (events.Migrate tablet to) (Gave None) new seen
moved old new tablet to seen ready lives none is quiet =
    subst (λ (parts : Parts). IsMade old (events.Migrate tablet to) (Gave None) parts seen) (sym is)
    (made_by_change old (events.Migrate tablet to) (tablet_migrated old.coordinator tablet to) seen ready (move_allowed old tablet to lives none) (λ stored. refl) quiet)
