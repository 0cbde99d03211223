-- Numbers are equal if their digits are.
use Rattle.std.proofs.Common.{◌∙◌, arith}
use Rattle.rk_lines.proofs.Digits.{same_digits, same_pairs}
use Rattle.rk_lines.proofs.tablets.is_like.Goals as goal

pub returns-in-Owned-Owned : goal.returns-in-Owned-Owned
returns-in-Owned-Owned c =
    rw (c.in-Owned-Owned.is-0, c.in-Owned-Owned.is-1)
    (same_digits c.in-Owned-Owned.a c.in-Owned-Owned.b (omega arith) (omega arith))

pub returns-in-Opening-Opening : goal.returns-in-Opening-Opening
returns-in-Opening-Opening c =
    let w = c.in-Opening-Opening in
    rw (w.is-0, w.is-1) (c.eq.ensures ∙ same_pairs w.a w.to_a w.b w.to_b (omega arith) (omega arith) (omega arith) (omega arith))

pub returns-in-Moving-Moving : goal.returns-in-Moving-Moving
returns-in-Moving-Moving c =
    let w = c.in-Moving-Moving in
    rw (w.is-0, w.is-1) (c.eq-in-Moving-Moving.ensures ∙ same_pairs w.a w.to_a w.b w.to_b (omega arith) (omega arith) (omega arith) (omega arith))

pub returns-in-Rebuilding-Rebuilding : goal.returns-in-Rebuilding-Rebuilding
returns-in-Rebuilding-Rebuilding c =
    let w = c.in-Rebuilding-Rebuilding in
    rw (w.is-0, w.is-1) (same_digits w.a w.b (omega arith) (omega arith))
