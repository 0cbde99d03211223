use Rattle.std.proofs.Common.{◌∙◌, sym}
use Rattle.rk_backup.proofs.Accepting.{accepted_told}
use Rattle.rk_backup.proofs.agree.agrees_with_stored.Goals as goal

pub returns-then-length-at-clause-same : goal.returns-then-length-at-clause-same
returns-then-length-at-clause-same g c =
    accepted_told c.args.master c.args.segment c.args.at c.args.bytes.now (g.R.Replica.lengths c.args.replica.now c.args.master c.args.segment) (g.R.Replica.segments c.args.replica.now)
    (g.met.R.Replica.agrees c.args.replica.now c.args.master c.args.segment) (sym c.length.ensures.value ∙ c.if-length-at.true)
