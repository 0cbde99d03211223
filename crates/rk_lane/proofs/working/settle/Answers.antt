use Rattle.rk_lane.proofs.Words.{◌≡◌, map, List, ap, sym, subst, ◌∙◌, IfOk-weaker, IfErr-weaker, Message, Ledger, filled}
use Rattle.rk_lane.proofs.Words.{Served, marks_of, IsFinished, IsFitToSend, IsRaised, IsSettled, ledger_noted, ledger_worked}
use Rattle.rk_lane.proofs.Words.{sends_worked, Parts}
use Rattle.rk_lane.proofs.Settling.{settled_by_nothing, settled_from, unsettled_from}
use Rattle.rk_lane.proofs.working.settle.Goals as goal

pub returns-then-is_nothing-clause-ok : goal.returns-then-is_nothing-clause-ok
returns-then-is_nothing-clause-ok c =
    subst (IsSettled c.args.parts.now c.args.master c.args.seen c.args.work c.raise_top.new.parts) (sym c.quiet.ensures)
    (settled_by_nothing c.args.parts.now c.raise_top.new.parts c.args.master c.args.seen c.args.work
    (sym c.is_nothing.ensures ∙ c.if-is_nothing.true) c.raise_top.ensures)

pub finish-requires : goal.finish-requires
finish-requires c =
    let old : Parts = c.args.parts.now in
    let noted : c.note.new.ledger ≡ ledger_worked old.ledger c.args.seen c.args.work =
    c.in-Ok.ensures.ok ∙ ap (λ (served : List Served). ledger_noted old.ledger c.args.seen served (marks_of c.args.work.marked)) c.as_slice.ensures.value in
    let sends : c.fill_all.new.sends.items ≡ sends_worked old.ledger c.args.seen c.args.work =
    c.fill_all.ensures ∙ (λ i. map (filled (noted i).journal (c.as_slice-2.ensures.value i)) c.args.work.sends.items) in
    let fits : IsFitToSend c.raise_top-2.new.parts.wire c.fill_all.new.sends.items =
    subst (λ (p : Parts). IsFitToSend p.wire c.fill_all.new.sends.items) (sym c.raise_top-2.ensures.parts)
    (subst (IsFitToSend old.wire) (sym sends) c.requires.fits) in
    record { room = fits.room; lawful = fits.lawful }

pub returns : goal.returns
returns c =
    let old : Parts = c.args.parts.now in
    let raised : Parts = c.raise_top-2.new.parts in
    let noted : c.note.new.ledger ≡ ledger_worked old.ledger c.args.seen c.args.work =
    c.in-Ok.ensures.ok ∙ ap (λ (served : List Served). ledger_noted old.ledger c.args.seen served (marks_of c.args.work.marked)) c.as_slice.ensures.value in
    let sends : c.fill_all.new.sends.items ≡ sends_worked old.ledger c.args.seen c.args.work =
    c.fill_all.ensures ∙ (λ i. map (filled (noted i).journal (c.as_slice-2.ensures.value i)) c.args.work.sends.items) in
    let rise : IsRaised (record old { ledger = ledger_worked old.ledger c.args.seen c.args.work }) c.args.master raised =
    subst (λ (l : Ledger). IsRaised (record old { ledger = l }) c.args.master raised) noted c.raise_top-2.ensures in
    record {
      ok =
          IfOk-weaker c.finish.result _ _
          (λ shown finished.
          settled_from old raised c.finish.new.parts c.args.master c.args.seen c.args.work shown rise
          (subst (λ (list : List Message). IsFinished raised list c.finish.new.parts shown) sends finished))
          c.finish.ensures.ok;
      err =
          IfErr-weaker c.finish.result _ _
          (λ error cut. unsettled_from old raised c.finish.new.parts c.args.master c.args.seen c.args.work c.args.records error c.requires.records rise cut)
          c.finish.ensures.err;
    }
