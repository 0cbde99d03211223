-- The session once its call is answered.
use Rattle.std.proofs.Common.{arith, ◌≡◌, ℕ, max, List, [], ◌∷◌, ◌++◌, Option, None}
use Rattle.rk_types.specs.declared.call.Call.{Call}
use Rattle.rk_types.specs.declared.call.Outcome.{Outcome}
use Rattle.rk_types.specs.declared.history.Receipt.{Receipt}
use Rattle.rk_message.specs.declared.calls.Reply.{Reply}
use Rattle.rk_world.specs.Client.{Session, done, receipt_of}

-- with one more receipt, no call, and the stamp seen
pub finished : (before now : Session) (call : Call) (reply : Reply) (outcome : Outcome) (receipts : List Receipt) (outstanding : Option Call) (seen : ℕ) → before ≡ now
    → receipts ≡ before.receipts ++ receipt_of call reply outcome ∷ [] → outstanding ≡ None → seen ≡ max before.seen reply.stamp
    → record before { receipts = receipts; outstanding = outstanding; seen = seen } ≡ done now call reply outcome
finished before now call reply outcome receipts outstanding seen same is_receipts is_none is_seen = grind arith
