use Rattle.rk_lane.proofs.Words.{◌≡◌, ◌-◌, ℕ, max, set, List, Option, Some, None, length, sym, ap, subst, ◌∙◌, refl, arith, option_map}
use Rattle.rk_lane.proofs.Words.{option_or, Coordinator, Master, IsMaster, where_true, quietly, counters_of, greatest, with_coordinator}
use Rattle.rk_lane.proofs.Words.{with_master, terms_of, IsMade, Gave, IsAt, world_of, IsWeighed, Parts}
use Rattle.rk_world.specs.Coordinator.{new_row, with_row}
use Rattle.rk_world.specs.Step.{with_added}
use Rattle.rk_world.specs.declared.error.StepError.TheVariants as errors
use Rattle.rk_world.specs.declared.event.Event.TheVariants as events
use Rattle.rk_lane.proofs.BothChanged.{both_made}
use Rattle.rk_lane.proofs.MasterWork.{StandsAt, master_is, set_at_number, stands_at, weighed_same, weight_is, weight_within}
use Rattle.rk_lane.proofs.Quiet.{masters_counted}
use Rattle.rk_lane.proofs.changes.add_tablet.Goals as goal

pub bytes_at-before-requires : goal.bytes_at-before-requires
bytes_at-before-requires c =
    subst (λ (list : List (Option Master)). IsMaster (length list) c.args.master) (sym c.deref.ensures.value)
    (subst (λ (n : ℕ). IsMaster n c.args.master) (masters_counted c.args.parts.now c.requires.kept) c.requires.may.may.2)

pub serve-requires : goal.serve-requires
serve-requires c = subst (λ (n : ℕ). IsMaster n c.args.master) (masters_counted c.args.parts.now c.requires.kept) c.requires.may.may.2

pub weigh-requires : goal.weigh-requires
weigh-requires c =
    let old : Parts = c.args.parts.now in
    let there : IsMaster (length old.masters.items) c.args.master = subst (λ (n : ℕ). IsMaster n c.args.master) (masters_counted old c.requires.kept) c.requires.may.may.2 in
    let stands : StandsAt old.masters.items c.args.master = stands_at old.masters.items c.args.master c.requires.kept.present there in
    let weight = weight_is old c.args.master c.bytes_at-before.result stands.it c.requires.kept there stands.at
    (c.bytes_at-before.ensures.bytes stands.it (subst (λ (list : List (Option Master)). IsAt list c.args.master stands.it) (sym c.deref.ensures.value) stands.at)) in
    record {
      there = subst (λ (n : ℕ). IsMaster n c.args.master) (sym c.in-Ok.ensures.count) there;
      counted = omega (arith, weight, weight_within old c.args.master stands.it c.requires.kept there stands.at);
    }

pub counter_at-counter-requires : goal.counter_at-counter-requires
counter_at-counter-requires c =
    let old : Parts = c.args.parts.now in
    let there : IsMaster (length old.masters.items) c.args.master = subst (λ (n : ℕ). IsMaster n c.args.master) (masters_counted old c.requires.kept) c.requires.may.may.2 in
    subst (λ (list : List (Option Master)). IsMaster (length list) c.args.master) (sym (c.deref-2.ensures.value ∙ ap (λ (p : Parts). p.masters.items) c.weigh.ensures.parts))
    (subst (λ (n : ℕ). IsMaster n c.args.master) (sym c.in-Ok.ensures.count) there)

pub returns-clause-ok : goal.returns-clause-ok
returns-clause-ok c =
    let old : Parts = c.args.parts.now in
    let event = events.AddTablet c.args.tablet c.args.range c.args.master in
    let there : IsMaster (length old.masters.items) c.args.master = subst (λ (n : ℕ). IsMaster n c.args.master) (masters_counted old c.requires.kept) c.requires.may.may.2 in
    let stands : StandsAt old.masters.items c.args.master = stands_at old.masters.items c.args.master c.requires.kept.present there in
    let now : Master = with_added stands.it c.args.tablet c.args.range in
    let coordinator : Coordinator = with_row old.coordinator (new_row c.args.tablet c.args.range c.args.master) in
    let weight = weight_is old c.args.master c.bytes_at-before.result stands.it c.requires.kept there stands.at
    (c.bytes_at-before.ensures.bytes stands.it (subst (λ (list : List (Option Master)). IsAt list c.args.master stands.it) (sym c.deref.ensures.value) stands.at)) in
    let did : c.serve.new.masters.items ≡ set old.masters.items (c.args.master - 1) (Some now) = c.in-Ok.ensures.ok stands.it stands.at in
    let p2 : Parts = record old { masters = c.serve.new.masters; log_bytes = c.weigh.new.parts.log_bytes } in
    let weighed : IsWeighed (record old { masters = c.serve.new.masters }) c.args.master c.bytes_at-before.result c.weigh.new.parts.log_bytes =
    weighed_same _ (record old { masters = c.serve.new.masters }) c.args.master c.bytes_at-before.result c.weigh.new.parts.log_bytes refl refl (c.weigh.ensures.weighed c.if-not-weigh.false) in
    let term : c.greatest_term-term.result ≡ greatest (terms_of coordinator.rows) =
    c.greatest_term-term.ensures ∙ ap (λ (p : Parts). greatest (terms_of p.coordinator.rows)) c.weigh.ensures.parts
    ∙ ap (λ (k : Coordinator). greatest (terms_of k.rows)) c.in_default.ensures.ok in
    let counter : c.counter_at-counter.result ≡ greatest (counters_of now) =
    c.counter_at-counter.ensures now
    (subst (λ (list : List (Option Master)). IsAt list c.args.master now)
    (sym (c.deref-2.ensures.value ∙ ap (λ (p : Parts). p.masters.items) c.weigh.ensures.parts ∙ did))
    (set_at_number old.masters.items c.args.master there now)) in
    let final : c.raise-2.new.self ≡ record p2 { coordinator = coordinator; top = max (max old.top (greatest (terms_of coordinator.rows))) (greatest (counters_of now)) } =
    c.raise-2.ensures
    ∙ ap (λ (p : Parts). record p { top = max p.top c.counter_at-counter.result }) c.raise.ensures
    ∙ ap (λ (p : Parts). record p { top = max (max p.top c.greatest_term-term.result) c.counter_at-counter.result }) c.weigh.ensures.parts
    ∙ (λ i. record p2 { coordinator = c.in_default.ensures.ok i; top = max (max old.top (term i)) (counter i) }) in
    subst (λ (p : Parts). IsMade old event (Gave None) p c.quiet.result) (sym final)
    (both_made old event c.args.master stands.it now coordinator p2 c.bytes_at-before.result c.quiet.result c.requires
    (λ i. option_or (where_true ((sym c.has_crashed.ensures ∙ c.if-has_crashed.false) i) (errors.Dead c.args.master)) (option_map errors.Map (c.in_default.ensures.lawful i)))
    there stands.at weight
    (λ stored. ap (λ (m : Master). quietly (with_coordinator (with_master (world_of old stored) c.args.master (with_added m c.args.tablet c.args.range)) coordinator)) (master_is old stored c.args.master stands.it there stands.at))
    did weighed c.quiet.ensures)
