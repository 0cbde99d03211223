use Rattle.rk_master.proofs.Words.{◌≡◌, ℕ, List, [], ◌∷◌, ◌++◌, set, refl, sym, ap, ◌∙◌, subst, Message, NumberMap, Master, Tablet}
use Rattle.rk_master.proofs.Words.{TabletLane, IsClosable, behind, tablet_of, worked_of, Row, master_of}
use Rattle.rk_world.specs.MasterTurn.{receiving_duty, want_of}
use Rattle.rk_master.proofs.Closable.{closable_at, lawful_read}
use Rattle.rk_master.proofs.Handovers.{changed_read, with_rows}
use Rattle.rk_master.proofs.Places.{row_there}
use Rattle.rk_master.proofs.TurnDuties.{asked_so, at_read}
use Rattle.rk_master.proofs.duties.ask_source.Goals as goal

pub returns-clause-state : goal.returns-clause-state
returns-clause-state c =
    let rows : List Row = c.args.state.now.tablets.items in
    let read : Row = c.index_mut-row.result.now in
    let before : IsClosable (tablet_of read.1) =
    subst (λ (r : Row). IsClosable (tablet_of r.1)) (sym c.index_mut-row.ensures.value) (closable_at rows c.args.at read c.requires.within c.requires.state.tablets.closable) in
    record {
      within = c.requires.state.within;
      staged = c.requires.state.staged;
      backups = c.requires.state.backups;
      sides = c.requires.state.sides;
      tablets = lawful_read rows c.args.at read c.next_batch.new.self c.requires.within c.index_mut-row.ensures.value c.requires.state.tablets
          (subst IsClosable (sym c.next_batch.ensures.tablet) before);
    }

pub returns-clause-ok : goal.returns-clause-ok
returns-clause-ok c = λ row at.
    let master : Master = master_of c.args.state.now in
    let rows : List Row = c.args.state.now.tablets.items in
    let read : Row = c.index_mut-row.result.now in
    let lane : TabletLane = c.next_batch.new.self in
    let after : Master = with_rows master (set rows c.args.at (read.0, lane)) in
    let it_is : read ≡ row = c.index_mut-row.ensures.value ∙ row_there rows c.args.at read row c.requires.within at in
    let stands = at_read rows c.args.at read c.requires.within c.index_mut-row.ensures.value in
    let tablets = changed_read rows read.0 c.args.at read lane c.requires.state.tablets.order stands c.index_mut-row.ensures.value in
    let wanted = c.in_ok-send_want.ensures.sends master refl
    ∙ ap (λ (hashes : List ℕ). c.args.work.now.sends.items ++ want_of master read.0 (tablet_of lane) hashes) c.in_ok-hashes.ensures.batch in
    let pulled = c.in_ok-send.ensures.sends
    ∙ ap (λ (message : Message). c.send_want.new.work.sends.items ++ message ∷ []) (c.pull_of.ensures master refl) in
    subst (λ (r : Row). worked_of after c.send.new.self ≡ behind c.args.work.now (receiving_duty master r.0 (tablet_of r.1))) it_is
    (asked_so c.args.work.now c.send.new.self master after c.send_want.new.work.sends.items read.0 (tablet_of read.1) (tablet_of lane)
    c.next_batch.ensures.tablet (ap (λ (ts : NumberMap Tablet). record master { tablets = ts }) tablets) wanted pulled (c.in_ok-send.ensures.served ∙ c.in_ok-send_want.ensures.served)
    (c.in_ok-send.ensures.marked ∙ c.in_ok-send_want.ensures.marked))
