use Rattle.rk_conclude.proofs.Words.{◌-◌, ◌^◌, ◌≡◌, ℕ, min, length, map, List, Bor, sym, ap, ◌∙◌, length-map, NumberMap, Receipt, Session}
use Rattle.rk_conclude.proofs.Words.{Ledger, receipts_in}
use Rattle.rk_workload.specs.Summary.{counted}
use Rattle.rk_conclude.proofs.Ledgers.{same_sum}
use Rattle.rk_conclude.proofs.results.results_of.Goals as goal

abbrev behind : List (Bor Receipt) → List Receipt
behind lent = map (λ (receipt : Bor Receipt). receipt.now) lent

pub returns : goal.returns
returns g c = λ cluster is.
    let lent : List (Bor Receipt) = c.in_ok-receipts.receipts.items in
    let receipts : behind lent ≡ receipts_in cluster.sessions =
    c.in_ok-receipts.ensures ∙ ap (λ (sessions : NumberMap Session). receipts_in sessions) (sym is.sessions) in
    let calls = c.asked_of.ensures ∙ ap (λ (n : ℕ). min n (2 ^ 64 - 1)) (sym (same_sum g.R.Replica.segments (λ (ledger : Ledger). ledger.asked) c.args.lanes.now cluster.lanes is.lanes)) in
    let answered =
    c.len.ensures ∙ c.in_ok-receipts.receipts.ok.0 ∙ sym (length-map lent (λ (receipt : Bor Receipt). receipt.now)) ∙ ap (λ (list : List Receipt). length list) receipts
    in
    let counts = c.count.ensures ∙ ap (λ (items : List (Bor Receipt)). counted (behind items)) c.as_slice.ensures.value ∙ ap counted receipts in
    let owner = sym (c.owner_of.ensures c.args.sessions.now.entries cluster is) in
    (λ i. record { calls = calls i; answered = answered i; counts = counts i; owner = owner i })
