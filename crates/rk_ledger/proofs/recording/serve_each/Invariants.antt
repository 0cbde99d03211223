use Rattle.std.proofs.Common.{◌≡◌, take}
use Rattle.rk_world.specs.Ledger.{Ledger, with_all_served}
use Rattle.rk_ledger.specs.Growing.{IsGrown, with_journal}
use Rattle.rk_ledger.proofs.recording.serve_each.Given as goal

abbrev pub invariant-loop-one : goal.invariant-loop-one
invariant-loop-one l = record {
  recorded : (ledger : Ledger) → ledger.clients ≡ l.clients.last_calls
      → with_journal ledger l.journal ≡ with_all_served l.seen (with_journal ledger l.fn.journal) (take l.one-index l.served);
  grown : IsGrown l.fn.journal l.journal;
}
