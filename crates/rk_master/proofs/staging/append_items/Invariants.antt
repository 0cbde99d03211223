use Rattle.rk_master.proofs.Words.{◌≡◌, ℕ, ◌≤◌, length, AreStagedFrom, with_items}
use Rattle.rk_master.proofs.staging.append_items.Given as goal

-- the items so far are at the end of the log, and staged
abbrev pub invariant-loop-copy : goal.invariant-loop-copy
invariant-loop-copy l = record {
  log : l.log ≡ with_items l.initial.log l.yielded;
  longer : length l.initial.log.entries ≤ length l.log.entries;
  staged : (applied : ℕ) → applied ≤ length l.initial.log.entries → AreStagedFrom applied l.initial.staged l.initial.log.entries
      → AreStagedFrom applied l.staged l.log.entries;
}
