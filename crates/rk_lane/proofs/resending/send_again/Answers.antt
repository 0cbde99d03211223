use Rattle.rk_lane.proofs.Words.{sym, subst, ◌∙◌, IfOk-weaker, IfErr-weaker, IsCutBack, get, IsLastRequest, IsFitToSend}
use Rattle.rk_world.specs.declared.event.Event.TheVariants as events
use Rattle.rk_lane.proofs.Coordinated.{fits_by_sending, made_by_sending, faulty_by_sending}
use Rattle.rk_lane.proofs.Again.{IsRequestOf, again_allowed, again_is, request_of}
use Rattle.rk_lane.proofs.resending.send_again.Goals as goal

pub finish-requires : goal.finish-requires
finish-requires c =
    let old = c.args.parts.now in
    let it : IsRequestOf old c.args.client c.in-Some.sends.items = request_of old c.args.client c.in-Some.sends (subst (IsLastRequest (get old.ledger.requests c.args.client)) c.in-Some.is c.in-Ok.ensures) in
    let fits : IsFitToSend old.wire c.in-Some.sends.items =
    fits_by_sending old (events.Again c.args.client) c.in-Some.sends.items c.requires
    (again_allowed old c.args.client c.in-Some.sends.items it (sym c.is_added.ensures ∙ c.if-not-is_added.false)) (again_is old c.args.client c.in-Some.sends.items it) in
    record { room = fits.room; lawful = fits.lawful }

pub returns : goal.returns
returns c =
    let old = c.args.parts.now in
    let it : IsRequestOf old c.args.client c.in-Some.sends.items = request_of old c.args.client c.in-Some.sends (subst (IsLastRequest (get old.ledger.requests c.args.client)) c.in-Some.is c.in-Ok.ensures) in
    let none = again_allowed old c.args.client c.in-Some.sends.items it (sym c.is_added.ensures ∙ c.if-not-is_added.false) in
    let made = again_is old c.args.client c.in-Some.sends.items it in
    record {
      ok =
          IfOk-weaker c.finish.result _ _
          (λ seen finished. made_by_sending old (events.Again c.args.client) c.in-Some.sends.items c.requires none made c.finish.new.parts seen finished)
          c.finish.ensures.ok;
      err =
          IfErr-weaker c.finish.result _ _
          (λ error cut.
          faulty_by_sending old (events.Again c.args.client) c.in-Some.sends.items c.requires none made c.finish.new.parts error
          (subst (λ records. IsCutBack old records c.finish.new.parts error) c.journal_length-records.ensures cut))
          c.finish.ensures.err;
    }
