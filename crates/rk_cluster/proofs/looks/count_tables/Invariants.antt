use Rattle.rk_cluster.proofs.Words.{◌≡◌, ◌+◌, ◌≤◌, drop, length, tables_of}
use Rattle.rk_cluster.proofs.looks.count_tables.Given as goal

-- the tables that were counted, and those of the rows that are left
abbrev pub invariant-loop-place : goal.invariant-loop-place
invariant-loop-place l = (l.count + length (tables_of (drop l.place l.rows)) ≡ length (tables_of l.rows)) × (l.count ≤ l.place)
