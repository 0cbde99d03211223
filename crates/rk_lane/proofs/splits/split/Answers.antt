use Rattle.rk_lane.proofs.Words.{◌≡◌, ◌<◌, ◌+◌, ◌-◌, ◌^◌, ℕ, max, set, List, Option, Some, None, length, sym, ap, subst, ◌∙◌, refl, arith}
use Rattle.rk_lane.proofs.Words.{row_of, Row, Gave, Coordinator, Master, IsMaster, rows_split, with_split, counters_of, greatest, terms_of}
use Rattle.rk_lane.proofs.Words.{IsMade, IsAt, owner_in, IsWeighed, Parts, Owner}
use Rattle.rk_world.specs.declared.event.Event.TheVariants as events
use Rattle.rk_lane.proofs.BothChanged.{both_made}
use Rattle.rk_lane.proofs.Halved.{IsOwned, owned, owner_is_there, owner_may_rise, split_alive, split_allowed, split_by_coordinator}
use Rattle.rk_lane.proofs.MasterWork.{StandsAt, set_at_number, stands_at, weighed_same, weight_is, weight_within}
use Rattle.rk_lane.proofs.Moved.{may_rise}
use Rattle.rk_lane.proofs.splits.split.Goals as goal

-- the owner that was found in the map is that of the rows
found : (tablet : ℕ) (rows map : List Row) (result : Option Owner) (owner : Owner) → map ≡ rows → result ≡ owner_in (row_of map tablet) → result ≡ Some owner
    → owner_in (row_of rows tablet) ≡ Some owner
found tablet rows map result owner same is some =
    ap (λ (list : List Row). owner_in (row_of list tablet)) (sym same) ∙ sym is ∙ some

pub split-requires : goal.split-requires
split-requires c = may_rise c.args.parts.now c.requires.kept

-- the owner has crashed
pub returns-then-has_crashed-clause-ok : goal.returns-then-has_crashed-clause-ok
returns-then-has_crashed-clause-ok c =
    let old : Parts = c.args.parts.now in
    let owner : Owner = c.in-Some.owner in
    let own : IsOwned old.coordinator.rows c.args.tablet owner = owned old.coordinator.rows c.args.tablet owner (found c.args.tablet c.args.parts.now.coordinator.rows c.map.result.now c.owner_of-owner.result c.in-Some.owner c.map.ensures c.owner_of-owner.ensures c.in-Some.is) in
    split_by_coordinator old c.raise.new.self c.args.tablet c.args.at c.args.new owner c.quiet-then-has_crashed.result c.requires own c.in_default.ensures.lawful
    (sym c.has_crashed.ensures ∙ c.if-has_crashed.true)
    (c.raise.ensures
    ∙ ap (λ (term : ℕ). record old { coordinator = c.split.new.self; top = max old.top term }) c.greatest_term-term.ensures
    ∙ ap (λ (coordinator : Coordinator). record old { coordinator = coordinator; top = max old.top (greatest (terms_of coordinator.rows)) }) c.in_default.ensures.ok)
    c.quiet-then-has_crashed.ensures

pub bytes_at-before-requires : goal.bytes_at-before-requires
bytes_at-before-requires c =
    let old : Parts = c.args.parts.now in
    let own : IsOwned old.coordinator.rows c.args.tablet c.in-Some.owner = owned old.coordinator.rows c.args.tablet c.in-Some.owner (found c.args.tablet c.args.parts.now.coordinator.rows c.map.result.now c.owner_of-owner.result c.in-Some.owner c.map.ensures c.owner_of-owner.ensures c.in-Some.is) in
    subst (λ (list : List (Option Master)). IsMaster (length list) c.in-Some.owner.master) (sym c.deref.ensures.value)
    (owner_is_there old c.args.tablet c.in-Some.owner c.requires.kept own)

pub overflow_add-next : goal.overflow_add-next
overflow_add-next c =
    let old : Parts = c.args.parts.now in
    let own : IsOwned old.coordinator.rows c.args.tablet c.in-Some.owner = owned old.coordinator.rows c.args.tablet c.in-Some.owner (found c.args.tablet c.args.parts.now.coordinator.rows c.map.result.now c.owner_of-owner.result c.in-Some.owner c.map.ensures c.owner_of-owner.ensures c.in-Some.is) in
    let low : c.in-Some.owner.term < 2 ^ 63 = owner_may_rise old c.args.tablet c.in-Some.owner c.requires.kept own in
    omega (arith, low)

pub halve-requires : goal.halve-requires
halve-requires c =
    let old : Parts = c.args.parts.now in
    let own : IsOwned old.coordinator.rows c.args.tablet c.in-Some.owner = owned old.coordinator.rows c.args.tablet c.in-Some.owner (found c.args.tablet c.args.parts.now.coordinator.rows c.map.result.now c.owner_of-owner.result c.in-Some.owner c.map.ensures c.owner_of-owner.ensures c.in-Some.is) in
    owner_is_there old c.args.tablet c.in-Some.owner c.requires.kept own

pub weigh-requires : goal.weigh-requires
weigh-requires c =
    let old : Parts = c.args.parts.now in
    let owner : Owner = c.in-Some.owner in
    let own : IsOwned old.coordinator.rows c.args.tablet owner = owned old.coordinator.rows c.args.tablet owner (found c.args.tablet c.args.parts.now.coordinator.rows c.map.result.now c.owner_of-owner.result c.in-Some.owner c.map.ensures c.owner_of-owner.ensures c.in-Some.is) in
    let there : IsMaster (length old.masters.items) owner.master = owner_is_there old c.args.tablet owner c.requires.kept own in
    let stands : StandsAt old.masters.items owner.master = stands_at old.masters.items owner.master c.requires.kept.present there in
    let weight = weight_is old owner.master c.bytes_at-before.result stands.it c.requires.kept there stands.at
    (c.bytes_at-before.ensures.bytes stands.it (subst (λ (list : List (Option Master)). IsAt list owner.master stands.it) (sym c.deref.ensures.value) stands.at)) in
    record {
      there = subst (λ (n : ℕ). IsMaster n owner.master) (sym c.in-Ok.ensures.count) there;
      counted = omega (arith, weight, weight_within old owner.master stands.it c.requires.kept there stands.at);
    }

pub counter_at-counter-requires : goal.counter_at-counter-requires
counter_at-counter-requires c =
    let old : Parts = c.args.parts.now in
    let owner : Owner = c.in-Some.owner in
    let own : IsOwned old.coordinator.rows c.args.tablet owner = owned old.coordinator.rows c.args.tablet owner (found c.args.tablet c.args.parts.now.coordinator.rows c.map.result.now c.owner_of-owner.result c.in-Some.owner c.map.ensures c.owner_of-owner.ensures c.in-Some.is) in
    let there : IsMaster (length old.masters.items) owner.master = owner_is_there old c.args.tablet owner c.requires.kept own in
    subst (λ (list : List (Option Master)). IsMaster (length list) owner.master) (sym (c.deref-2.ensures.value ∙ ap (λ (p : Parts). p.masters.items) c.weigh.ensures.parts))
    (subst (λ (n : ℕ). IsMaster n owner.master) (sym c.in-Ok.ensures.count) there)

-- the owner lives
pub returns-clause-ok : goal.returns-clause-ok
returns-clause-ok c =
    let old : Parts = c.args.parts.now in
    let event = events.Split c.args.tablet c.args.at c.args.new in
    let owner : Owner = c.in-Some.owner in
    let own : IsOwned old.coordinator.rows c.args.tablet owner = owned old.coordinator.rows c.args.tablet owner (found c.args.tablet c.args.parts.now.coordinator.rows c.map.result.now c.owner_of-owner.result c.in-Some.owner c.map.ensures c.owner_of-owner.ensures c.in-Some.is) in
    let there : IsMaster (length old.masters.items) owner.master = owner_is_there old c.args.tablet owner c.requires.kept own in
    let stands : StandsAt old.masters.items owner.master = stands_at old.masters.items owner.master c.requires.kept.present there in
    let now : Master = with_split stands.it c.args.tablet c.args.at c.args.new (owner.term + 1) in
    let coordinator : Coordinator = rows_split old.coordinator c.args.tablet c.args.at c.args.new in
    let weight = weight_is old owner.master c.bytes_at-before.result stands.it c.requires.kept there stands.at
    (c.bytes_at-before.ensures.bytes stands.it (subst (λ (list : List (Option Master)). IsAt list owner.master stands.it) (sym c.deref.ensures.value) stands.at)) in
    let did : c.halve.new.masters.items ≡ set old.masters.items (owner.master - 1) (Some now) = c.in-Ok.ensures.ok stands.it stands.at in
    let p2 : Parts = record old { masters = c.halve.new.masters; log_bytes = c.weigh.new.parts.log_bytes } in
    let weighed : IsWeighed (record old { masters = c.halve.new.masters }) owner.master c.bytes_at-before.result c.weigh.new.parts.log_bytes =
    weighed_same _ (record old { masters = c.halve.new.masters }) owner.master c.bytes_at-before.result c.weigh.new.parts.log_bytes refl refl (c.weigh.ensures.weighed c.if-not-weigh.false) in
    let term : c.greatest_term-term.result ≡ greatest (terms_of coordinator.rows) =
    c.greatest_term-term.ensures ∙ ap (λ (k : Coordinator). greatest (terms_of k.rows)) c.in_default.ensures.ok in
    let counter : c.counter_at-counter.result ≡ greatest (counters_of now) =
    c.counter_at-counter.ensures now
    (subst (λ (list : List (Option Master)). IsAt list owner.master now)
    (sym (c.deref-2.ensures.value ∙ ap (λ (p : Parts). p.masters.items) c.weigh.ensures.parts ∙ did))
    (set_at_number old.masters.items owner.master there now)) in
    let final : c.raise-3.new.self ≡ record p2 { coordinator = coordinator; top = max (max old.top (greatest (terms_of coordinator.rows))) (greatest (counters_of now)) } =
    c.raise-3.ensures
    ∙ ap (λ (p : Parts). record p { top = max p.top c.counter_at-counter.result }) c.raise-2.ensures
    ∙ ap (λ (p : Parts). record p { top = max (max p.top c.greatest_term-term.result) c.counter_at-counter.result }) c.weigh.ensures.parts
    ∙ (λ i. record p2 { coordinator = c.in_default.ensures.ok i; top = max (max old.top (term i)) (counter i) }) in
    subst (λ (p : Parts). IsMade old event (Gave None) p c.quiet-2.result) (sym final)
    (both_made old event owner.master stands.it now coordinator p2 c.bytes_at-before.result c.quiet-2.result c.requires
    (split_allowed old c.args.tablet c.args.at c.args.new c.in_default.ensures.lawful)
    there stands.at weight
    (split_alive old c.args.tablet owner c.requires.kept own c.args.at c.args.new stands.it stands.at (sym c.has_crashed.ensures ∙ c.if-has_crashed.false))
    did weighed c.quiet-2.ensures)
