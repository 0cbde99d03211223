use Rattle.std.proofs.Common.{◌∙◌, sym, ap}
use Rattle.rk_log.specs.Log.{Log, bytes_of}
use Rattle.rk_log.specs.Parts.{parts_of, bytes_among}
use Rattle.rk_log.proofs.Views.{bytes_of_is}
use Rattle.rk_log.proofs.log.MasterLog.bytes.Goals as goal

pub returns-clause-bytes : goal.returns-clause-bytes
returns-clause-bytes c =
    c.bytes_among.ensures.bytes
    ∙ (λ i. bytes_among c.args.segment (c.as_slice.ensures.value i) (c.as_slice-2.ensures.value i))
    ∙ sym (bytes_of_is (parts_of c.self.inside) c.args.segment c.self.invariant.consistent)
    ∙ ap (λ (log : Log). bytes_of log c.args.segment) c.self.view_is
