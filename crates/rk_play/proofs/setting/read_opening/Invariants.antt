-- The numbers that were set so far leave the other commands to be played.
use Rattle.rk_play.proofs.Openings.{IsReading}
use Rattle.rk_play.proofs.setting.read_opening.Given as goal

abbrev pub invariant-commands : goal.invariant-commands
invariant-commands l = IsReading l.commands l.opening l.numbered-index
