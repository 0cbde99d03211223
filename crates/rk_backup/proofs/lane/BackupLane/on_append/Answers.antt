use Rattle.std.proofs.Common.{◌+◌, ◌-◌, ℕ, drop, length, ◌∙◌, ap, arith}
use Rattle.std.proofs.lemmas.Result.{err_from_is_err_and}
use Rattle.rk_backup.proofs.Accepting.{all_told, appended, gap_told, more_told, refused, told_same, unchanged}
use Rattle.rk_backup.proofs.lane.BackupLane.on_append.Goals as goal

pub returns-then-stored-at-clause-segments : goal.returns-then-stored-at-clause-segments
returns-then-stored-at-clause-segments g c =
    unchanged c.args.master c.args.segment c.args.at c.args.bytes.now c.length-stored.result (g.R.Replica.segments c.args.self.now.replica) (g.R.Replica.segments c.args.self.now.replica)
    (told_same (g.R.Replica.segments c.args.self.now.replica))
    (gap_told c.args.master c.args.segment c.args.at c.args.bytes.now (g.R.Replica.lengths c.args.self.now.replica c.args.master c.args.segment) (g.R.Replica.segments c.args.self.now.replica)
    (g.met.R.Replica.agrees c.args.self.now.replica c.args.master c.args.segment) (omega (arith, c.length-stored.ensures.value, c.if-stored-at.true)))

pub returns-then-bytes-kept-clause-segments : goal.returns-then-bytes-kept-clause-segments
returns-then-bytes-kept-clause-segments g c =
    unchanged c.args.master c.args.segment c.args.at c.args.bytes.now c.length-stored.result (g.R.Replica.segments c.args.self.now.replica) (g.R.Replica.segments c.agrees_with_stored.new.replica)
    c.agrees_with_stored.ensures.segments
    (all_told c.args.master c.args.segment c.args.at c.args.bytes.now (g.R.Replica.lengths c.args.self.now.replica c.args.master c.args.segment) (g.R.Replica.segments c.args.self.now.replica)
    (g.met.R.Replica.agrees c.args.self.now.replica c.args.master c.args.segment) (omega (arith, c.length-stored.ensures.value, c.if-bytes-kept.true)))

-- a failed append left some first part of what was to be added
pub returns-in_err-append-clause-segments : goal.returns-in_err-append-clause-segments
returns-in_err-append-clause-segments g c =
    let lost = err_from_is_err_and c.from_residual-in_err-append.result c.from_residual-in_err-append.ensures.1 in
    rw (lost.1, lost.2)
    (refused c.args.master c.args.segment c.args.at c.args.bytes.now c.in_err-append.field-0.0 c.split_at.result.1.now
    (g.R.Replica.segments c.args.self.now.replica) (g.R.Replica.segments c.agrees_with_stored.new.replica) (g.R.Replica.segments c.append.new.self)
    c.agrees_with_stored.ensures.segments c.in_err-append.ensures.segments
    (more_told c.args.master c.args.segment c.args.at c.args.bytes.now (g.R.Replica.lengths c.args.self.now.replica c.args.master c.args.segment) c.in_ok-agrees_with_stored.field-0
    c.split_at.result.1.now (g.R.Replica.segments c.args.self.now.replica) (g.met.R.Replica.agrees c.args.self.now.replica c.args.master c.args.segment)
    c.in_ok-agrees_with_stored.ensures.same c.if-not-branch.false
    (c.split_at.ensures.back ∙ ap (λ (k : ℕ). drop (k - c.args.at) c.args.bytes.now) c.length-stored.ensures.value)))

-- all that was to be added was added
pub returns-clause-segments : goal.returns-clause-segments
returns-clause-segments g c =
    appended c.args.master c.args.segment c.args.at c.args.bytes.now (c.length-stored.result + length c.split_at.result.1.now) c.split_at.result.1.now
    (g.R.Replica.segments c.args.self.now.replica) (g.R.Replica.segments c.agrees_with_stored.new.replica) (g.R.Replica.segments c.append.new.self)
    c.agrees_with_stored.ensures.segments c.in_ok-append.ensures.segments
    (more_told c.args.master c.args.segment c.args.at c.args.bytes.now (g.R.Replica.lengths c.args.self.now.replica c.args.master c.args.segment) c.in_ok-agrees_with_stored.field-0
    c.split_at.result.1.now (g.R.Replica.segments c.args.self.now.replica) (g.met.R.Replica.agrees c.args.self.now.replica c.args.master c.args.segment)
    c.in_ok-agrees_with_stored.ensures.same c.if-not-branch.false
    (c.split_at.ensures.back ∙ ap (λ (k : ℕ). drop (k - c.args.at) c.args.bytes.now) c.length-stored.ensures.value))
    (omega (arith, c.split_at.ensures.back_len, c.if-bytes-kept.false))
