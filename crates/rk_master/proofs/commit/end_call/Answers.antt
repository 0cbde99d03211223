use Rattle.rk_master.proofs.Words.{Option, List, [], ◌∷◌, ◌++◌, map, refl, sym, ap, ◌∙◌, append-nil, with_items_is, NumberMap, get, Call}
use Rattle.rk_master.proofs.Words.{Message, noting, Master, Row, behind, changing, marks_of, tablets_of, worked_of, master_of}
use Rattle.rk_types.specs.declared.call.Answer.TheVariants.{Done}
use Rattle.rk_types.specs.declared.call.Outcome.{Outcome}
use Rattle.rk_world.specs.Requests.{answering}
use Rattle.rk_world.specs.Commits.{with_ended}
use Rattle.rk_master.proofs.Applying.{behind_changed, ended_none}
use Rattle.rk_master.proofs.commit.end_call.Goals as goal

pub returns-in_default-clause-ok : goal.returns-in_default-clause-ok
returns-in_default-clause-ok c = λ ends.
    let master : Master = master_of c.args.state.now in
    let none = sym c.in_default.ensures.value in
    ap (λ (calls : NumberMap Call). worked_of (record master { calls = calls }) c.args.work.now) c.in_default.ensures.unchanged
    ∙ behind_changed c.args.work.now master
    ∙ ap (behind c.args.work.now) (sym (ended_none master c.args.place (get master.calls c.args.place) (c.args.end ∷ ends) none))

pub returns-clause-ok : goal.returns-clause-ok
returns-clause-ok c = λ ends.
    let master : Master = master_of c.args.state.now in
    let call : Call = c.in-Some.call in
    let waits = sym c.in-Some.ensures.value in
    let rows = with_items_is c.args.state.now.tablets c.note_in_each.new.tablets (c.note_in_each.auto.tablets ∙ c.as_mut_slice.ensures.len) in
    let tablets = ap tablets_of rows ∙ c.in_ok-note_in_each.ensures.noted ∙ ap (λ (rows : List Row). map (changing (λ number. noting call c.args.end)) (tablets_of rows)) c.as_mut_slice.ensures.value in
    let message = c.answering.ensures master refl ∙ ap (λ (o : Outcome). answering master call (Done o)) c.outcome_of.ensures in
    let sends = c.in_ok-serve.ensures.sends ∙ c.in_ok-send.ensures.sends ∙ ap (λ (m : Message). c.args.work.now.sends.items ++ m ∷ []) message in
    let served = c.in_ok-serve.ensures.served ∙ (λ i. c.in_ok-send.ensures.served i ++ (record { call = call; outcome = c.outcome_of-2.ensures i }) ∷ []) in
    let marked = ap marks_of (c.in_ok-serve.ensures.marked ∙ c.in_ok-send.ensures.marked) ∙ sym (append-nil (marks_of c.args.work.now.marked)) in
    (λ i. record {
      master = record master { calls = c.in-Some.ensures.removed i; tablets = tablets i };
      sends = sends i;
      served = served i;
      marked = marked i;
    })
    ∙ ap (λ (o : Option Call). behind c.args.work.now (with_ended master c.args.place o (c.args.end ∷ ends))) (sym waits)
