use Rattle.rk_master.proofs.Words.{◌≡◌, drop, list_all}
use Rattle.rk_log.specs.Log.{is_side_stored}
use Rattle.rk_master.proofs.waiting.is_sealed_stored.Given as goal

abbrev pub invariant-loop-segment : goal.invariant-loop-segment
invariant-loop-segment l = list_all (is_side_stored l.log) l.segment-items ≡ list_all (is_side_stored l.log) (drop l.segment-index l.segment-items)
