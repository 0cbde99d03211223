use Rattle.std.proofs.Common.{◌≢◌, ℕ, AllPairs, sym, subst, arith}
use Rattle.rk_priority.proofs.Parts.{distinct_push, parts_apart}
use Rattle.rk_priority.proofs.wanted.Wanted.want.Goals as goal

-- the new hash is at the end, and differs from all others
distinct : (c : goal.In_ok-push) → AllPairs (λ a b. a ≢ b) c.push.new.self.items
distinct c =
    subst (AllPairs (λ (a b : ℕ). a ≢ b)) (sym c.in_ok-push.ensures.items)
    (distinct_push c.self.inside.hashes.items c.args.hash (rw c.as_slice.ensures.value at (sym c.if-has.ensures)) c.self.invariant.2)

pub invariant_of-self-2 : goal.invariant_of-self-2
invariant_of-self-2 c = (omega (arith, c.self.invariant.0, c.in_ok-push.ensures.len), c.self.invariant.1, distinct c)

pub returns-clause-apart : goal.returns-clause-apart
returns-clause-apart c = parts_apart c.self.inside.resolved c.self.inside.batch c.push.new.self.items c.self.invariant.1 (distinct c)
