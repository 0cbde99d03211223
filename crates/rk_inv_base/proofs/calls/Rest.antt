-- Which ranges the entry of a call touches.
use Rattle.rk_inv_base.proofs.Words.{◌≡◌, true, ◌∙◌, Call, Range, Entry, touches, has_key, IsEntryOf}
use Rattle.rk_inv_base.proofs.logs.Shares.{counts_call, touches_call}

-- an entry of a call is of each range that has the call's key
pub own_touches : (range : Range) (call : Call) (entry : Entry) → IsEntryOf call entry → has_key range call.table call.key ≡ true → touches range entry ≡ true
own_touches range call entry own inside = touches_call range call entry own ∙ counts_call range call entry own ∙ inside
