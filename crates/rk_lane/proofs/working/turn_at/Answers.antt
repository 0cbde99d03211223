use Rattle.rk_lane.proofs.Words.{◌≡◌, ℕ, List, Option, length, ap, sym, subst, ◌∙◌, refl, arith, IfOk-weaker, IfErr-weaker, Master}
use Rattle.rk_lane.proofs.Words.{master_turn, IsMaster, IsAt, IsFitToSend, IsSettled, IsUnsettled, sends_worked, Parts}
use Rattle.rk_types.specs.declared.node.Node.TheVariants as nodes
use Rattle.rk_world.specs.declared.error.StepError.TheVariants as errors
use Rattle.rk_world.specs.declared.event.Event.TheVariants as events
use Rattle.rk_lane.proofs.Idle.{rests_made}
use Rattle.rk_lane.proofs.MasterWork.{StandsAt, stands_at, turn_is, weight_is, weight_within, work_faulty, work_fits, work_made}
use Rattle.rk_lane.proofs.Quiet.{alive, masters_counted}
use Rattle.rk_lane.proofs.working.turn_at.Goals as goal

pub bytes_at-before-requires : goal.bytes_at-before-requires
bytes_at-before-requires c =
    subst (λ (list : List (Option Master)). IsMaster (length list) c.args.master) (sym c.deref-2.ensures.value)
    (subst (λ (n : ℕ). IsMaster n c.args.master) (masters_counted c.args.parts.now c.requires.kept) c.requires.may.may)

pub turn_master-requires : goal.turn_master-requires
turn_master-requires c = subst (λ (n : ℕ). IsMaster n c.args.master) (masters_counted c.args.parts.now c.requires.kept) c.requires.may.may

pub rests_at-requires : goal.rests_at-requires
rests_at-requires c =
    subst (λ (list : List (Option Master)). IsMaster (length list) c.args.master) (sym c.deref.ensures.value)
    (subst (λ (n : ℕ). IsMaster n c.args.master) (masters_counted c.args.parts.now c.requires.kept) c.requires.may.may)

pub returns-then-rests_at-clause-ok : goal.returns-then-rests_at-clause-ok
returns-then-rests_at-clause-ok c =
    let old : Parts = c.args.parts.now in
    let there : IsMaster (length old.masters.items) c.args.master = subst (λ (n : ℕ). IsMaster n c.args.master) (masters_counted old c.requires.kept) c.requires.may.may in
    let stands : StandsAt old.masters.items c.args.master = stands_at old.masters.items c.args.master c.requires.kept.present there in
    rests_made old c.args.master stands.it c.quiet.result c.requires (sym c.has_crashed.ensures ∙ c.if-has_crashed.false) there stands.at
    (c.rests_at.ensures c.if-rests_at.true stands.it (subst (λ (list : List (Option Master)). IsAt list c.args.master stands.it) (sym c.deref.ensures.value) stands.at))
    c.quiet.ensures

pub weigh-requires : goal.weigh-requires
weigh-requires c =
    let old : Parts = c.args.parts.now in
    let there : IsMaster (length old.masters.items) c.args.master = subst (λ (n : ℕ). IsMaster n c.args.master) (masters_counted old c.requires.kept) c.requires.may.may in
    let stands : StandsAt old.masters.items c.args.master = stands_at old.masters.items c.args.master c.requires.kept.present there in
    let weight = weight_is old c.args.master c.bytes_at-before.result stands.it c.requires.kept there stands.at
    (c.bytes_at-before.ensures.bytes stands.it (subst (λ (list : List (Option Master)). IsAt list c.args.master stands.it) (sym c.deref-2.ensures.value) stands.at)) in
    record {
      there = subst (λ (n : ℕ). IsMaster n c.args.master) (sym c.in-Ok.ensures.count) there;
      counted = omega (arith, weight, weight_within old c.args.master stands.it c.requires.kept there stands.at);
    }

pub settle-requires : goal.settle-requires
settle-requires c =
    let old : Parts = c.args.parts.now in
    let there : IsMaster (length old.masters.items) c.args.master = subst (λ (n : ℕ). IsMaster n c.args.master) (masters_counted old c.requires.kept) c.requires.may.may in
    let stands : StandsAt old.masters.items c.args.master = stands_at old.masters.items c.args.master c.requires.kept.present there in
    let weight = weight_is old c.args.master c.bytes_at-before.result stands.it c.requires.kept there stands.at
    (c.bytes_at-before.ensures.bytes stands.it (subst (λ (list : List (Option Master)). IsAt list c.args.master stands.it) (sym c.deref-2.ensures.value) stands.at)) in
    let p2 : Parts = record old { masters = c.turn_master.new.masters; log_bytes = c.weigh.new.parts.log_bytes } in
    let is : c.weigh.new.parts ≡ p2 = c.weigh.ensures.parts in
    let fits =
    work_fits old (events.Turn (nodes.Master c.args.master)) c.args.master stands.it (master_turn stands.it) 0 p2 c.in-Ok.work 0 c.bytes_at-before.result c.requires
    (alive _ (errors.Dead c.args.master) (sym c.has_crashed.ensures ∙ c.if-has_crashed.false)) there stands.at weight
    (turn_is old c.args.master stands.it there stands.at) (c.in-Ok.ensures.ok stands.it stands.at) refl (c.weigh.ensures.weighed c.if-not-weigh.false) in
    record {
      there =
          subst (λ (p : Parts). IsMaster (length p.masters.items) c.args.master) (sym is)
          (subst (λ (n : ℕ). IsMaster n c.args.master) (sym c.in-Ok.ensures.count) there);
      records = c.journal_length-records.ensures ∙ ap (λ (p : Parts). length p.ledger.journal) (sym is);
      fits = subst (λ (p : Parts). IsFitToSend p.wire (sends_worked p.ledger 0 c.in-Ok.work)) (sym is) fits;
    }

pub returns : goal.returns
returns c =
    let old : Parts = c.args.parts.now in
    let there : IsMaster (length old.masters.items) c.args.master = subst (λ (n : ℕ). IsMaster n c.args.master) (masters_counted old c.requires.kept) c.requires.may.may in
    let stands : StandsAt old.masters.items c.args.master = stands_at old.masters.items c.args.master c.requires.kept.present there in
    let weight = weight_is old c.args.master c.bytes_at-before.result stands.it c.requires.kept there stands.at
    (c.bytes_at-before.ensures.bytes stands.it (subst (λ (list : List (Option Master)). IsAt list c.args.master stands.it) (sym c.deref-2.ensures.value) stands.at)) in
    let none = alive _ (errors.Dead c.args.master) (sym c.has_crashed.ensures ∙ c.if-has_crashed.false) in
    let did = c.in-Ok.ensures.ok stands.it stands.at in
    let turned = turn_is old c.args.master stands.it there stands.at in
    let now : Parts = record old { masters = c.turn_master.new.masters; log_bytes = c.weigh.new.parts.log_bytes } in
    let is : c.weigh.new.parts ≡ now = c.weigh.ensures.parts in
    record {
      ok =
          IfOk-weaker c.settle.result _ _
          (λ shown settled.
          work_made old (events.Turn (nodes.Master c.args.master)) c.args.master stands.it (master_turn stands.it) 0 now c.in-Ok.work 0 c.bytes_at-before.result c.requires
          none there stands.at weight turned did refl (c.weigh.ensures.weighed c.if-not-weigh.false) c.settle.new.parts shown
          (subst (λ (p : Parts). IsSettled p c.args.master 0 c.in-Ok.work c.settle.new.parts shown) is settled))
          c.settle.ensures.ok;
      err =
          IfErr-weaker c.settle.result _ _
          (λ error lost.
          work_faulty old (events.Turn (nodes.Master c.args.master)) c.args.master stands.it (master_turn stands.it) 0 now c.in-Ok.work 0 c.bytes_at-before.result c.requires
          none there stands.at weight turned did refl (c.weigh.ensures.weighed c.if-not-weigh.false) c.settle.new.parts error
          (subst (λ (p : Parts). IsUnsettled p c.settle.new.parts error) is lost))
          c.settle.ensures.err;
    }
