use Rattle.rk_lane.proofs.Words.{List, ap, sym, subst, refl, IfOk-weaker, IfErr-weaker, Message, with_sends, IsCutBack, world_of}
use Rattle.rk_lane.proofs.Words.{IsFitToSend}
use Rattle.rk_types.specs.declared.node.Node.TheVariants as nodes
use Rattle.rk_world.specs.declared.event.Event.TheVariants as events
use Rattle.rk_lane.proofs.Coordinated.{fits_by_sending, made_by_sending, faulty_by_sending}
use Rattle.rk_lane.proofs.coordinating.turn_coordinator.Goals as goal

pub finish-requires : goal.finish-requires
finish-requires c =
    let fits : IsFitToSend c.args.parts.now.wire c.in-Ok.sends.items =
    subst (IsFitToSend c.args.parts.now.wire) (sym c.in-Ok.ensures)
    (fits_by_sending c.args.parts.now (events.Turn nodes.Coordinator) _ c.requires refl (λ stored. refl)) in
    record { room = fits.room; lawful = fits.lawful }

pub returns : goal.returns
returns c =
    let sends : List Message = c.in-Ok.sends.items in
    let old = c.args.parts.now in
    record {
      ok =
          IfOk-weaker c.finish.result _ _
          (λ seen finished.
          made_by_sending old (events.Turn nodes.Coordinator) sends c.requires refl
          (λ stored. ap (λ (list : List Message). with_sends (world_of old stored) list) (sym c.in-Ok.ensures)) c.finish.new.parts seen finished)
          c.finish.ensures.ok;
      err =
          IfErr-weaker c.finish.result _ _
          (λ error cut.
          faulty_by_sending old (events.Turn nodes.Coordinator) sends c.requires refl (λ stored. ap (λ (list : List Message). with_sends (world_of old stored) list) (sym c.in-Ok.ensures)) c.finish.new.parts error
          (subst (λ records. IsCutBack old records c.finish.new.parts error) c.journal_length-records.ensures cut))
          c.finish.ensures.err;
    }
