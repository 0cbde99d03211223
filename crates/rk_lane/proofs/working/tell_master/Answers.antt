use Rattle.rk_lane.proofs.Words.{◌≡◌, ℕ, List, Option, length, ap, sym, subst, ◌∙◌, refl, arith, IfOk-weaker, IfErr-weaker, Master}
use Rattle.rk_lane.proofs.Words.{master_step, seen_in, IsMaster, IsAt, IsFitToSend, IsSettled, IsUnsettled, IsWeighed, sends_worked, Parts}
use Rattle.rk_lane.proofs.Words.{get}
use Rattle.rk_types.specs.declared.node.Node.TheVariants as nodes
use Rattle.rk_world.specs.declared.event.Event.TheVariants as events
use Rattle.rk_lane.proofs.MasterWork.{StandsAt, stands_at, step_is, weight_is, weight_within, work_faulty, work_fits, work_made}
use Rattle.rk_lane.proofs.Coordinated.{delivery_allowed}
use Rattle.rk_lane.proofs.MasterWork.{addressed, can_take, losing_made, weighed_same}
use Rattle.rk_lane.proofs.working.tell_master.Goals as goal

pub returns-then-has_crashed-clause-ok : goal.returns-then-has_crashed-clause-ok
returns-then-has_crashed-clause-ok c =
    let old : Parts = c.args.parts.now in
    let there : IsMaster (length old.masters.items) c.args.master = addressed old c.args.arrival.number c.args.arrival.message c.args.master c.requires.ready.kept c.requires.there c.requires.to in
    losing_made old c.args.arrival.number c.args.arrival.message c.args.master c.lost.result c.requires.ready c.requires.there c.requires.to (sym c.has_crashed.ensures ∙ c.if-has_crashed.true) c.lost.ensures

pub bytes_at-before-requires : goal.bytes_at-before-requires
bytes_at-before-requires c =
    let old : Parts = c.args.parts.now in
    let there : IsMaster (length old.masters.items) c.args.master = addressed old c.args.arrival.number c.args.arrival.message c.args.master c.requires.ready.kept c.requires.there c.requires.to in
    subst (λ (list : List (Option Master)). IsMaster (length list) c.args.master) (sym c.deref.ensures.value) there

pub step_master-requires : goal.step_master-requires
step_master-requires c =
    let old : Parts = c.args.parts.now in
    let there : IsMaster (length old.masters.items) c.args.master = addressed old c.args.arrival.number c.args.arrival.message c.args.master c.requires.ready.kept c.requires.there c.requires.to in
    record {
      there = there;
      take = λ master at. can_take old c.args.arrival.number c.args.arrival.message c.args.master master c.requires.ready there c.requires.there at;
    }

pub weigh-requires : goal.weigh-requires
weigh-requires c =
    let old : Parts = c.args.parts.now in
    let there : IsMaster (length old.masters.items) c.args.master = addressed old c.args.arrival.number c.args.arrival.message c.args.master c.requires.ready.kept c.requires.there c.requires.to in
    let stands : StandsAt old.masters.items c.args.master = stands_at old.masters.items c.args.master c.requires.ready.kept.present there in
    let weight = weight_is old c.args.master c.bytes_at-before.result stands.it c.requires.ready.kept there stands.at
    (c.bytes_at-before.ensures.bytes stands.it (subst (λ (list : List (Option Master)). IsAt list c.args.master stands.it) (sym c.deref.ensures.value) stands.at)) in
    record {
      there = subst (λ (n : ℕ). IsMaster n c.args.master) (sym c.in-Ok.ensures.count) there;
      counted = omega (arith, weight, weight_within old c.args.master stands.it c.requires.ready.kept there stands.at);
    }

pub settle-requires : goal.settle-requires
settle-requires c =
    let old : Parts = c.args.parts.now in
    let there : IsMaster (length old.masters.items) c.args.master = addressed old c.args.arrival.number c.args.arrival.message c.args.master c.requires.ready.kept c.requires.there c.requires.to in
    let stands : StandsAt old.masters.items c.args.master = stands_at old.masters.items c.args.master c.requires.ready.kept.present there in
    let weight = weight_is old c.args.master c.bytes_at-before.result stands.it c.requires.ready.kept there stands.at
    (c.bytes_at-before.ensures.bytes stands.it (subst (λ (list : List (Option Master)). IsAt list c.args.master stands.it) (sym c.deref.ensures.value) stands.at)) in
    let none = delivery_allowed c.args.arrival.number (get old.wire.messages c.args.arrival.number) c.args.arrival.message (nodes.Master c.args.master) c.requires.there c.requires.to refl in
    let did = c.in-Ok.ensures.ok stands.it stands.at in
    let made = step_is old c.args.arrival.number c.args.arrival.message c.args.master stands.it there stands.at c.requires.there c.requires.to (sym c.has_crashed.ensures ∙ c.if-has_crashed.false) in
    let now : Parts = record old { masters = c.step_master.new.masters; log_bytes = c.weigh.new.parts.log_bytes } in
    let is : c.weigh.new.parts ≡ now =
    c.weigh.ensures.parts in
    let weighed : IsWeighed (record old { masters = c.step_master.new.masters }) c.args.master c.bytes_at-before.result c.weigh.new.parts.log_bytes =
    weighed_same _ (record old { masters = c.step_master.new.masters }) c.args.master c.bytes_at-before.result c.weigh.new.parts.log_bytes refl refl (c.weigh.ensures.weighed c.if-not-weigh.false) in
    let fits =
    work_fits old (events.Deliver c.args.arrival.number) c.args.master stands.it (master_step stands.it c.args.arrival.message) (seen_in c.args.arrival.message.body) now c.in-Ok.work c.in-Ok.seen c.bytes_at-before.result c.requires.ready
    none there stands.at weight made did refl weighed in
    record {
      there =
          subst (λ (p : Parts). IsMaster (length p.masters.items) c.args.master) (sym is)
          (subst (λ (n : ℕ). IsMaster n c.args.master) (sym c.in-Ok.ensures.count) there);
      records = c.journal_length-records.ensures ∙ ap (λ (p : Parts). length p.ledger.journal) (sym is);
      fits = subst (λ (p : Parts). IsFitToSend p.wire (sends_worked p.ledger c.in-Ok.seen c.in-Ok.work)) (sym is) fits;
    }

pub returns : goal.returns
returns c =
    let old : Parts = c.args.parts.now in
    let there : IsMaster (length old.masters.items) c.args.master = addressed old c.args.arrival.number c.args.arrival.message c.args.master c.requires.ready.kept c.requires.there c.requires.to in
    let stands : StandsAt old.masters.items c.args.master = stands_at old.masters.items c.args.master c.requires.ready.kept.present there in
    let weight = weight_is old c.args.master c.bytes_at-before.result stands.it c.requires.ready.kept there stands.at
    (c.bytes_at-before.ensures.bytes stands.it (subst (λ (list : List (Option Master)). IsAt list c.args.master stands.it) (sym c.deref.ensures.value) stands.at)) in
    let none = delivery_allowed c.args.arrival.number (get old.wire.messages c.args.arrival.number) c.args.arrival.message (nodes.Master c.args.master) c.requires.there c.requires.to refl in
    let did = c.in-Ok.ensures.ok stands.it stands.at in
    let made = step_is old c.args.arrival.number c.args.arrival.message c.args.master stands.it there stands.at c.requires.there c.requires.to (sym c.has_crashed.ensures ∙ c.if-has_crashed.false) in
    let now : Parts = record old { masters = c.step_master.new.masters; log_bytes = c.weigh.new.parts.log_bytes } in
    let is : c.weigh.new.parts ≡ now =
    c.weigh.ensures.parts in
    let weighed : IsWeighed (record old { masters = c.step_master.new.masters }) c.args.master c.bytes_at-before.result c.weigh.new.parts.log_bytes =
    weighed_same _ (record old { masters = c.step_master.new.masters }) c.args.master c.bytes_at-before.result c.weigh.new.parts.log_bytes refl refl (c.weigh.ensures.weighed c.if-not-weigh.false) in
    record {
      ok =
          IfOk-weaker c.settle.result _ _
          (λ shown settled.
          work_made old (events.Deliver c.args.arrival.number) c.args.master stands.it (master_step stands.it c.args.arrival.message) (seen_in c.args.arrival.message.body) now c.in-Ok.work c.in-Ok.seen c.bytes_at-before.result c.requires.ready
          none there stands.at weight made did refl weighed c.settle.new.parts shown
          (subst (λ (p : Parts). IsSettled p c.args.master c.in-Ok.seen c.in-Ok.work c.settle.new.parts shown) is settled))
          c.settle.ensures.ok;
      err =
          IfErr-weaker c.settle.result _ _
          (λ error lost.
          work_faulty old (events.Deliver c.args.arrival.number) c.args.master stands.it (master_step stands.it c.args.arrival.message) (seen_in c.args.arrival.message.body) now c.in-Ok.work c.in-Ok.seen c.bytes_at-before.result c.requires.ready
          none there stands.at weight made did refl weighed c.settle.new.parts error
          (subst (λ (p : Parts). IsUnsettled p c.settle.new.parts error) is lost))
          c.settle.ensures.err;
    }
