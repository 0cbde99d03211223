use Rattle.std.proofs.Common.{ℕ, List, Err, subst}
use Rattle.std.proofs.lemmas.Result.{err_from_is_err_and}
use Rattle.rk_outside.specs.Segments.{WhereTold}
use Rattle.rk_backup.specs.Accepts.{Accepts}
use Rattle.rk_backup_node.proofs.Storing.{stored_told}
use Rattle.rk_backup_node.proofs.append.take_append.Goals as goal

-- the device failed, or memory was wanting
pub returns-in_err-length-clause-segments : goal.returns-in_err-length-clause-segments
returns-in_err-length-clause-segments g c =
    let lost = err_from_is_err_and c.from_residual.result c.from_residual.ensures.1 in
    let old = g.R.Replica.segments c.args.backup.now.replica in
    let new = g.R.Replica.segments c.on_append.new.self.replica in
    rw lost.1
    (stored_told c.args.master c.args.append.now {T = ℕ} (Err c.in_err-length.field-0.0) _ _ old new
    (g.met.R.Replica.agrees c.args.backup.now.replica c.args.master c.args.append.now.segment)
    (g.met.R.Replica.agrees c.on_append.new.self.replica c.args.master c.args.append.now.segment)
    (subst (λ (bytes : List ℕ). WhereTold (Accepts {T = ℕ} (Err c.in_err-length.field-0.0) c.args.master c.args.append.now.segment c.args.append.now.at bytes) old new)
    c.as_slice-bytes.ensures c.in_err-length.ensures.segments))
