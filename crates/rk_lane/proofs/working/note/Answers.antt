use Rattle.rk_lane.proofs.Words.{◌≡◌, List, length, take, ap, ◌∙◌, Placed, Ledger, with_all_served, with_journal}
use Rattle.rk_lane.proofs.Journals.{IsGrownFrom, cut_to, grown_by_served}
use Rattle.rk_lane.proofs.working.note.Goals as goal

pub returns-in_default-mark-clause-err : goal.returns-in_default-mark-clause-err
returns-in_default-mark-clause-err c =
    let old : Ledger = c.args.ledger.now in
    let grown : IsGrownFrom old (with_all_served c.args.seen old c.args.served.now) = grown_by_served c.args.seen old c.args.served.now in
    let now : c.mark.new.self ≡ with_all_served c.args.seen old c.args.served.now = c.in_default-mark.ensures.err ∙ c.in_ok-serve.ensures.ok in
    let left = c.withdraw.ensures ∙ ap (λ (l : Ledger). with_journal l (take (length c.journal-records.result.now) l.journal)) now in
    record {
      journal =
          ap (λ (l : Ledger). l.journal) left
          ∙ ap (λ (journal : List Placed). take (length journal) (with_all_served c.args.seen old c.args.served.now).journal) c.journal-records.ensures.value
          ∙ cut_to old (with_all_served c.args.seen old c.args.served.now) grown;
      asked = ap (λ (l : Ledger). l.asked) left ∙ grown.asked;
      clients = ap (λ (l : Ledger). l.clients) left ∙ grown.clients;
    }
