use Rattle.rk_settle.proofs.Words.{◌≡◌, find, World}
use Rattle.rk_cluster.specs.State.{IsWorld}
use Rattle.rk_settle.specs.Settle.{is_unnoticed, unnoticed}
use Rattle.rk_settle.proofs.Following.{after}
use Rattle.rk_settle.proofs.looks.unnoticed.Given as goal

-- all before the next one have not crashed, or were noticed
abbrev pub invariant-loop-index : goal.invariant-loop-index
invariant-loop-index g l = (w : World) → IsWorld g.R.Replica.segments l.at w → find (is_unnoticed w) (after l.index l.masters) ≡ unnoticed w
