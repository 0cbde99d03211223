use Rattle.std.proofs.Common.{◌-◌, length, refl, ap, arith}
use Rattle.std.proofs.Math.Seq.{map-set_same}
use Rattle.rk_segment.specs.Segment.{NumberedBytes}
use Rattle.rk_log.specs.declared.copied.Copied.{Copied}
use Rattle.rk_log.proofs.Views.{on_true, put_last_bytes}
use Rattle.rk_log.proofs.copied.put_in_last.Goals as goal

pub returns-clause-fits : goal.returns-clause-fits
returns-clause-fits c =
    on_true c.is_ok.result c.append.result _ _ c.is_ok.ensures.value c.append.ensures.ok (λ e.
    put_last_bytes c.args.main.now _ c.index-main-count.result c.args.bytes.now (omega arith) (ap (λ (s : NumberedBytes). s.bytes) e))

pub returns-clause-known : goal.returns-clause-known
returns-clause-known c =
    on_true c.is_ok.result c.append.result _ _ c.is_ok.ensures.value c.append.ensures.ok (λ e.
    map-set_same (λ (k : Copied). k.known) c.args.main.now (length c.args.main.now - 1) _ c.index-main-count.result refl)
