use Rattle.std.proofs.Common.{IsSome, refl, subst, sym, ◌∙◌}
use Rattle.rk_ledger.proofs.Named.{noted_after, stored_changed}
use Rattle.rk_ledger.proofs.call_index.CallIndex.change.Goals as goal

pub returns-in-Some : goal.returns-in-Some
returns-in-Some c =
    noted_after c.args.self.now (record { notes = c.get_mut.follows.lender c.args.noted; last = c.args.self.now.last }) c.args.client c.args.seq c.args.noted
    (stored_changed c.args.self.now (record { notes = c.get_mut.follows.lender c.args.noted; last = c.args.self.now.last }) c.args.client c.args.seq
    c.args.noted (sym c.is_last.ensures ∙ c.if-is_last.false) refl ((c.get_mut.follows.holds c.args.noted).3 (subst IsSome c.in-Some.ensures.value refl)))
