use Rattle.std.proofs.Common.{◌≡◌, ◌+◌, ◌-◌, ◌≤◌, length, drop}
use Rattle.std.specs.List.{prefix_len}
use Rattle.rk_log.specs.Parts.{is_held_at, lengths_in}
use Rattle.rk_log.proofs.ends.held_from.Given as goal

abbrev pub invariant-held : goal.invariant-held
invariant-held l =
    (l.held ≤ length l.ends)
    × (l.held + prefix_len (is_held_at l.backups (lengths_in l.main)) (drop l.held l.ends) ≡ l.from + prefix_len (is_held_at l.backups (lengths_in l.main)) (drop l.from l.ends))

abbrev pub decreases-held : goal.decreases-held
decreases-held l = length l.ends - l.held
