use Rattle.rk_master.proofs.Words.{◌≡◌, ℕ, List, [], get_or, sym, ap, ◌∙◌, subst, Replayed, side_replayed, records_of, Master, Tablet}
use Rattle.rk_master.proofs.Words.{TabletLane, IsClosable, tablet_of, Row, with_side, master_of}
use Rattle.std.proofs.Common.{◌%◌}
use Rattle.rk_table.specs.Scans.{end}
use Rattle.rk_world.specs.Pulls.{is_token, replay, token_passed}
use Rattle.rk_tablet.specs.Pulls.{with_token}
use Rattle.rk_master.proofs.Closable.{lawful_read}
use Rattle.rk_master.proofs.Handovers.{at_set, tablet_read}
use Rattle.rk_master.proofs.Receiving.{batch_made, closable_read, pulls_still}
use Rattle.rk_master.proofs.pulled.take_batch.Goals as goal

pub returns-clause-state : goal.returns-clause-state
returns-clause-state c =
    let rows : List Row = c.args.state.now.tablets.items in
    let read : Row = c.index_mut.result.now in
    let lane : TabletLane = c.pass.new.self in
    let made : Replayed = side_replayed (records_of c.args.state.now.records) (get_or read.1.sides c.worker-worker.result []) c.args.items.items in
    let is : tablet_of lane ≡ with_token (with_side (tablet_of read.1) c.worker-worker.result made.items) c.args.next =
    c.in_ok-pass.ensures ∙ ap (λ (t : Tablet). with_token t c.args.next) c.in_ok-replay.ensures.tablet in
    let closable : IsClosable (tablet_of lane) = subst IsClosable (sym is) (closable_read rows c.args.at read c.requires.within c.index_mut.ensures.value c.requires.state.tablets) in
    record {
      within = c.requires.state.within;
      staged = c.requires.state.staged;
      backups = c.requires.state.backups;
      sides = c.requires.state.sides;
      tablets = lawful_read rows c.args.at read lane c.requires.within c.index_mut.ensures.value c.requires.state.tablets closable;
    }

pub returns-clause-pulls : goal.returns-clause-pulls
returns-clause-pulls c =
    let same = ap (λ (t : Tablet). t.handover) (c.in_ok-pass.ensures ∙ ap (λ (t : Tablet). with_token t c.args.next) c.in_ok-replay.ensures.tablet) in
    pulls_still c.args.state.now.tablets.items c.args.at c.index_mut.result.now c.pass.new.self c.requires.within c.index_mut.ensures.value c.requires.pulls same

pub returns-clause-place : goal.returns-clause-place
returns-clause-place c = λ number at. at_set c.args.state.now.tablets.items number c.args.at c.index_mut.result.now c.pass.new.self at c.index_mut.ensures.value

pub returns-clause-ok : goal.returns-clause-ok
returns-clause-ok c = λ number at.
    let master : Master = master_of c.args.state.now in
    let rows : List Row = c.args.state.now.tablets.items in
    let read : Row = c.index_mut.result.now in
    let lane = c.in_ok-pass.ensures ∙ ap (λ (t : Tablet). with_token t c.args.next) c.in_ok-replay.ensures.tablet in
    let tablet = tablet_read rows number c.args.at read c.requires.state.tablets.order at c.index_mut.ensures.value in
    let worker = c.worker-worker.ensures.worker ∙ ap (λ (t : Tablet). t.pulling.batches % 4) (sym tablet) in
    batch_made master (records_of c.replay.new.records) rows number c.args.at c.worker-worker.result read c.pass.new.self c.args.items.items c.args.next
    c.requires.state.tablets.order at c.index_mut.ensures.value c.in_ok-replay.ensures.workers c.in_ok-replay.ensures.records lane
    ∙ ap (λ (w : ℕ). token_passed (replay master number w c.args.items.items) number c.args.next) worker

pub returns-clause-last : goal.returns-clause-last
returns-clause-last c = c.has_all.ensures ∙ ap (λ (t : Tablet). is_token t.pulling.token end) c.in_ok-pass.ensures
