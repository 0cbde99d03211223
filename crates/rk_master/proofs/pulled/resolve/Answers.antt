use Rattle.rk_master.proofs.Words.{◌≡◌, ◌<◌, ◌&&◌, true, false, Bool, ℕ, List, [], length, get_or, sym, ap, subst, ◌∙◌, Held, All}
use Rattle.rk_master.proofs.Words.{IsLawfulHeld, is_batch, Replayed, side_replayed, records_of, NumberMap, Master, Tablet, changed}
use Rattle.rk_master.proofs.Words.{TabletLane, IsClosable, tablet_of, Row, with_side, master_of}
use Rattle.rk_world.specs.RoleTests.{is_receiving_at}
use Rattle.rk_tablet.specs.Pulls.{with_resolved}
use Rattle.rk_master.proofs.Closable.{lawful_read}
use Rattle.rk_master.proofs.Handovers.{tablet_read}
use Rattle.rk_master.proofs.Receiving.{closable_read, got_failed, got_made, got_resolved, not_resolved, same_tablets}
use Rattle.rk_master.proofs.pulled.resolve.Goals as goal

-- whether it was asked for, if the tablet pulls
asked : (tablet : Tablet) (term : ℕ) (hashes : List ℕ) (b : Bool) → is_receiving_at tablet term ≡ true → is_batch tablet.pulling.hashes.outstanding hashes ≡ b
    → (is_receiving_at tablet term && is_batch tablet.pulling.hashes.outstanding hashes) ≡ b
asked tablet term hashes b receives is = ap (λ (x : Bool). x && is_batch tablet.pulling.hashes.outstanding hashes) receives ∙ is

pub returns-then-not-resolve-clause-state : goal.returns-then-not-resolve-clause-state
returns-then-not-resolve-clause-state c =
    let rows : List Row = c.args.state.now.tablets.items in
    let read : Row = c.index_mut.result.now in
    let within = c.requires.place.within in
    let closable : IsClosable (tablet_of c.resolve.new.self) = subst IsClosable (sym c.resolve.ensures.tablet) (closable_read rows c.args.at read within c.index_mut.ensures.value c.requires.state.tablets) in
    record {
      within = c.requires.state.within;
      staged = c.requires.state.staged;
      backups = c.requires.state.backups;
      sides = c.requires.state.sides;
      tablets = lawful_read rows c.args.at read c.resolve.new.self within c.index_mut.ensures.value c.requires.state.tablets closable;
    }

pub returns-then-not-resolve-clause-ok : goal.returns-then-not-resolve-clause-ok
returns-then-not-resolve-clause-ok c =
    let master : Master = master_of c.args.state.now in
    let rows : List Row = c.args.state.now.tablets.items in
    let read : Row = c.index_mut.result.now in
    let tablet = tablet_read rows c.args.got.now.tenure.tablet c.args.at read c.requires.state.tablets.order c.requires.place c.index_mut.ensures.value in
    let receives = subst (λ (t : Tablet). is_receiving_at t c.args.got.now.tenure.term ≡ true) tablet c.requires.pulls in
    let failed : is_batch read.1.wanted.outstanding c.args.got.now.hashes ≡ false =
    ap (is_batch read.1.wanted.outstanding) (sym c.as_slice.ensures) ∙ sym c.resolve.ensures.answer ∙ c.if-not-resolve.true in
    let same : tablet_of c.resolve.new.self ≡ tablet_of read.1 =
    c.resolve.ensures.tablet ∙ ap (with_resolved (tablet_of read.1)) c.as_slice.ensures ∙ not_resolved (tablet_of read.1) c.args.got.now.hashes failed in
    ap (λ (tablets : NumberMap Tablet). changed (record master { tablets = tablets })) (same_tablets rows c.args.at read c.resolve.new.self c.index_mut.ensures.value same)
    ∙ got_failed master c.args.got.now (tablet_of read.1) tablet (asked (tablet_of read.1) c.args.got.now.tenure.term c.args.got.now.hashes false receives failed)

pub replay-requires-clause-lawful : goal.replay-requires-clause-lawful
replay-requires-clause-lawful c = subst (All IsLawfulHeld) (sym c.in_ok-items_of.ensures) c.requires.lawful

pub returns-clause-state : goal.returns-clause-state
returns-clause-state c =
    let rows : List Row = c.args.state.now.tablets.items in
    let read : Row = c.index_mut.result.now in
    let within = c.requires.place.within in
    let lane : TabletLane = c.replay.new.self in
    let before : IsClosable (tablet_of c.resolve.new.self) = subst IsClosable (sym c.resolve.ensures.tablet) (closable_read rows c.args.at read within c.index_mut.ensures.value c.requires.state.tablets) in
    let closable : IsClosable (tablet_of lane) = subst IsClosable (sym c.in_ok-replay.ensures.tablet) before in
    record {
      within = c.requires.state.within;
      staged = c.requires.state.staged;
      backups = c.requires.state.backups;
      sides = c.requires.state.sides;
      tablets = lawful_read rows c.args.at read lane within c.index_mut.ensures.value c.requires.state.tablets closable;
    }

pub returns-clause-ok : goal.returns-clause-ok
returns-clause-ok c =
    let master : Master = master_of c.args.state.now in
    let rows : List Row = c.args.state.now.tablets.items in
    let read : Row = c.index_mut.result.now in
    let hashes : List ℕ = c.args.got.now.hashes in
    let tablet = tablet_read rows c.args.got.now.tenure.tablet c.args.at read c.requires.state.tablets.order c.requires.place c.index_mut.ensures.value in
    let receives = subst (λ (t : Tablet). is_receiving_at t c.args.got.now.tenure.term ≡ true) tablet c.requires.pulls in
    let yields : is_batch read.1.wanted.outstanding hashes ≡ true = ap (is_batch read.1.wanted.outstanding) (sym c.as_slice.ensures) ∙ sym c.resolve.ensures.answer ∙ c.if-not-resolve.false in
    let resolved : tablet_of c.resolve.new.self ≡ with_resolved (tablet_of read.1) hashes = c.resolve.ensures.tablet ∙ ap (with_resolved (tablet_of read.1)) c.as_slice.ensures in
    let sides : c.resolve.new.self.sides ≡ read.1.sides = ap (λ (t : Tablet). t.pulling.sides) resolved in
    let made : List (List Held) → Replayed = λ all. side_replayed (records_of c.args.state.now.records) (get_or all 0 []) c.in_ok-items_of.field-0.items in
    let records = c.in_ok-replay.ensures.records ∙ ap (λ all. (made all).records) sides in
    let lane = c.in_ok-replay.ensures.tablet ∙ (λ i. with_side (resolved i) 0 (made (sides i)).items) in
    let some = subst (λ (all : List (List Held)). 0 < length all) sides c.in_ok-replay.ensures.workers in
    let now = got_made master (records_of c.replay.new.records) rows c.args.got.now.tenure.tablet c.args.at read c.replay.new.self c.in_ok-items_of.field-0.items hashes
    c.requires.state.tablets.order c.requires.place c.index_mut.ensures.value some records lane in
    got_resolved master _ c.args.got.now (tablet_of read.1) c.in_ok-items_of.field-0.items tablet
    (asked (tablet_of read.1) c.args.got.now.tenure.term hashes true receives yields) c.in_ok-items_of.ensures now
