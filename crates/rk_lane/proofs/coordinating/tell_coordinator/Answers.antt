use Rattle.rk_lane.proofs.Words.{◌≡◌, ℕ, length, max, ap, sym, subst, ◌∙◌, IfOk-weaker, IfErr-weaker, IsCoordinated, IsCutBack, IsFinished}
use Rattle.rk_lane.proofs.Words.{Parts, IsFitToSend}
use Rattle.rk_lane.proofs.Coordinated.{parts_told, told_faulty, told_fits, told_made}
use Rattle.rk_lane.proofs.coordinating.tell_coordinator.Goals as goal

handled : (c : goal.After-finish-arg-1) → IsCoordinated c.args.parts.now.coordinator c.args.parts.now.ledger c.args.arrival.message c.handle.new.coordinator c.handle.new.ledger c.in-Ok.sends.items
handled c = c.in-Ok.ensures.ok

told : (c : goal.After-finish-arg-1) → Parts
told c =
    parts_told c.args.parts.now c.args.arrival.number c.args.arrival.message c.requires.ready c.requires.there c.requires.to c.handle.new.coordinator c.handle.new.ledger
    c.in-Ok.sends.items (handled c)

told_is : (c : goal.After-finish-arg-1) → c.raise-2.new.self ≡ told c
unfolding told
told_is c =
    c.raise-2.ensures
    ∙ ap (λ (p : Parts). record p { top = max p.top c.greatest_term-term.result }) c.raise.ensures
    ∙ (λ i. record c.args.parts.now {
      coordinator = c.handle.new.coordinator;
      ledger = c.handle.new.ledger;
      top = max (max c.args.parts.now.top (c.last_stamp-stamp.ensures i)) (c.greatest_term-term.ensures i);
    })

pub finish-requires : goal.finish-requires
unfolding told
finish-requires c =
    let fits : IsFitToSend c.args.parts.now.wire c.in-Ok.sends.items =
    told_fits c.args.parts.now c.args.arrival.number c.args.arrival.message c.requires.ready c.requires.there c.requires.to c.handle.new.coordinator c.handle.new.ledger
    c.in-Ok.sends.items (handled c) in
    let later : IsFitToSend c.raise-2.new.self.wire c.in-Ok.sends.items =
    subst (λ (p : Parts). IsFitToSend p.wire c.in-Ok.sends.items) (sym (told_is c)) fits in
    record { room = later.room; lawful = later.lawful }

pub returns : goal.returns
returns c =
    let old : Parts = c.args.parts.now in
    let made = c.in-Ok.ensures.ok in
    let is : c.raise-2.new.self ≡ parts_told old c.args.arrival.number c.args.arrival.message c.requires.ready c.requires.there c.requires.to c.handle.new.coordinator c.handle.new.ledger c.in-Ok.sends.items made =
    c.raise-2.ensures
    ∙ ap (λ (p : Parts). record p { top = max p.top c.greatest_term-term.result }) c.raise.ensures
    ∙ (λ i. record old {
      coordinator = c.handle.new.coordinator;
      ledger = c.handle.new.ledger;
      top = max (max old.top (c.last_stamp-stamp.ensures i)) (c.greatest_term-term.ensures i);
    }) in
    record {
      ok =
          IfOk-weaker c.finish.result _ _
          (λ seen finished.
          told_made old c.args.arrival.number c.args.arrival.message c.requires.ready c.requires.there c.requires.to c.handle.new.coordinator c.handle.new.ledger c.in-Ok.sends.items made
          c.finish.new.parts seen
          (subst (λ (p : Parts). IsFinished p c.in-Ok.sends.items c.finish.new.parts seen) is finished))
          c.finish.ensures.ok;
      err =
          IfErr-weaker c.finish.result _ _
          (λ error cut.
          told_faulty old c.args.arrival.number c.args.arrival.message c.requires.ready c.requires.there c.requires.to c.handle.new.coordinator c.handle.new.ledger c.in-Ok.sends.items made
          c.finish.new.parts error
          (subst (λ (p : Parts). IsCutBack p (length old.ledger.journal) c.finish.new.parts error) is
          (subst (λ (records : ℕ). IsCutBack c.raise-2.new.self records c.finish.new.parts error) c.journal_length-records.ensures cut)))
          c.finish.ensures.err;
    }
