use Rattle.std.proofs.Common.{◌-◌, Bool, cond, sym, ap, subst}
use Rattle.rk_ledger.specs.Noted.{IsIndex, IsKept}
use Rattle.rk_ledger.proofs.Kept.{kept_popped}
use Rattle.rk_ledger.proofs.journal.pop.Goals as goal

pub returns-then-placed-clause-kept : goal.returns-then-placed-clause-kept
returns-then-placed-clause-kept c =
    let accepted = c.args.accepted.now in
    let left = c.pop.new.self.items in
    subst (λ n. IsKept c.forget.new.index (accepted - 1) (c.args.bytes.now - n) left) (sym c.record_bytes.ensures)
    (kept_popped c.args.index.now c.forget.new.index left accepted (accepted - 1) c.args.bytes.now c.in-Some.placed
    (subst (IsKept c.args.index.now accepted c.args.bytes.now) c.in-Some.ensures.items c.requires)
    (subst (IsIndex c.forget.new.index) c.as_slice.ensures.value c.forget.ensures)
    (ap (λ (b : Bool). cond b (accepted - 1) accepted) (sym c.if-placed.true)))

pub returns-clause-kept : goal.returns-clause-kept
returns-clause-kept c =
    let accepted = c.args.accepted.now in
    let left = c.pop.new.self.items in
    subst (λ n. IsKept c.forget.new.index accepted (c.args.bytes.now - n) left) (sym c.record_bytes.ensures)
    (kept_popped c.args.index.now c.forget.new.index left accepted accepted c.args.bytes.now c.in-Some.placed
    (subst (IsKept c.args.index.now accepted c.args.bytes.now) c.in-Some.ensures.items c.requires)
    (subst (IsIndex c.forget.new.index) c.as_slice.ensures.value c.forget.ensures)
    (ap (λ (b : Bool). cond b (accepted - 1) accepted) (sym c.if-placed.false)))
