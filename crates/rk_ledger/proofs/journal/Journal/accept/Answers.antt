use Rattle.std.proofs.Common.{sym, subst}
use Rattle.rk_ledger.specs.Noted.{IsCounted, IsKept}
use Rattle.rk_ledger.proofs.Kept.{kept_accepted}
use Rattle.rk_ledger.proofs.journal.Journal.accept.Goals as goal

pub invariant_of-self : goal.invariant_of-self
invariant_of-self c =
    let were = c.self.inside in
    let now = c.accept_at.new in
    subst (IsKept now.index now.accepted were.bytes) (sym c.accept_at.ensures.records)
    (kept_accepted were.index now.index were.records.items were.accepted now.accepted were.bytes c.args.place c.self.invariant
    (subst (IsCounted now.index now.accepted) c.accept_at.ensures.records c.accept_at.ensures.counted))
