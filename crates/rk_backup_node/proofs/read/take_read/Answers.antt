use Rattle.std.proofs.Common.{◌∙◌}
use Rattle.std.specs.Option.{option_map}
use Rattle.std.proofs.lemmas.Result.{err_from_is_err_and}
use Rattle.rk_backup_node.proofs.Reading.{failed_read, given_read}
use Rattle.rk_backup_node.proofs.read.take_read.Goals as goal

-- the device failed, or memory was wanting
pub returns-in_err-bytes-clause-copied : goal.returns-in_err-bytes-clause-copied
returns-in_err-bytes-clause-copied g c =
    let lost = err_from_is_err_and c.from_residual.result c.from_residual.ensures.1 in
    rw lost.1 (failed_read c.args.backup.now.number c.args.reader c.args.read c.args.log.now (g.R.Replica.segments c.args.backup.now.replica) lost.0)

-- the replica gave what it has
pub returns-clause-copied : goal.returns-clause-copied
returns-clause-copied g c =
    given_read c.args.backup.now.number c.args.reader c.args.read c.args.log.now (g.R.Replica.segments c.args.backup.now.replica)
    (option_map (λ bytes. bytes.items) c.in_ok-bytes.bytes)
    c.number.result c.copied.result (c.number.ensures ∙ c.in_ok-bytes.ensures.number) c.copied.ensures c.in_ok-bytes.ensures.stored
