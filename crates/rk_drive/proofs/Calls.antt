-- The receipts of sessions that made all calls of a workload.
use Rattle.std.proofs.Common.{◌≡◌, ℕ, ◌+◌, List, [], ◌∷◌, length, map, refl, ap, ◌∙◌}
use Rattle.std.specs.List.{All, range_with_len}
use Rattle.std.proofs.lemmas.List.Elements.{All-head, All-tail}
use Rattle.rk_types.specs.declared.history.Receipt.{Receipt}
use Rattle.rk_model.specs.Ordered.{IsNumberedFrom}
use Rattle.rk_workload.specs.Workload.{call_of}

-- receipts with rising seqs of calls that a client makes are of its calls in their order
pub calls_from : (keys client seq : ℕ) (receipts : List Receipt) → IsNumberedFrom seq receipts → All (λ receipt. receipt.call.client ≡ client) receipts
    → All (λ receipt. receipt.call ≡ call_of keys receipt.call.client receipt.call.seq) receipts
    → map (λ receipt. receipt.call) receipts ≡ map (call_of keys client) (range_with_len seq (length receipts))
calls_from keys client seq [] numbered own made = refl
calls_from keys client seq (receipt ∷ receipts) numbered own made =
    let client_is = All-head (λ (r : Receipt). r.call.client ≡ client) receipt receipts own in
    let made_is = All-head (λ (r : Receipt). r.call ≡ call_of keys r.call.client r.call.seq) receipt receipts made in
    let head : receipt.call ≡ call_of keys client seq =
    made_is ∙ ap (λ (c : ℕ). call_of keys c receipt.call.seq) client_is ∙ ap (call_of keys client) numbered.0 in
    let tail =
    calls_from keys client (seq + 1) receipts numbered.1 (All-tail (λ (r : Receipt). r.call.client ≡ client) receipt receipts own)
    (All-tail (λ (r : Receipt). r.call ≡ call_of keys r.call.client r.call.seq) receipt receipts made) in
    (λ i. head i ∷ tail i)
