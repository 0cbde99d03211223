use Rattle.std.proofs.Common.{◌≡◌, length}
use Rattle.rk_drive.specs.Workers.{clients_in}
use Rattle.rk_drive.proofs.calling.look_all.Given as goal

abbrev pub invariant-loop-index : goal.invariant-loop-index
invariant-loop-index g l = record { clients : clients_in l.passes ≡ clients_in l.fn.passes; end : l.index-end ≡ length l.passes }
