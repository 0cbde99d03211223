-- The last code of a migration, and of a table, if no earlier code applies.
use Rattle.std.proofs.Common.{ℕ, Bool, false, ◌||◌, not, [], ◌∷◌, length, nat_le, nat_lt, Option}
use Rattle.rk_outside.specs.Segments.{Segments}
use Rattle.rk_cluster.specs.Codes.{MOST_TABLES, MOST_TABLETS, code_where, first_code, migrate_code, table_code}
use Rattle.rk_cluster.specs.Looks.{calls_asked, has_dead_owner, has_table, is_dead, is_master, is_owned, is_tablet, lanes_without, rows_of, tables_of}
use Rattle.rk_cluster.specs.State.{ClusterState}
use Rattle.rk_cluster.specs.Told.{Tells}
use Rattle.rk_cluster.specs.declared.code.Code.{Code}
use Rattle.rk_cluster.specs.declared.code.Code.TheVariants.{Crashed, Limit, NotOwned, OwnsAll, Taken, TooLate, Unknown}

-- the codes of a migration, by what is tested
abbrev migrate_by : Bool → Bool → Bool → Bool → Option Code
migrate_by strange moving owning dead =
    first_code (code_where strange Unknown ∷ code_where moving NotOwned ∷ code_where owning OwnsAll ∷ code_where dead Crashed ∷ [])

-- those of a table
abbrev table_by : Bool → Bool → Bool → Bool → Bool → Option Code
table_by asked taken strange dead full =
    first_code (
    code_where asked TooLate ∷ code_where taken Taken ∷ code_where strange Unknown ∷ code_where dead Crashed ∷ code_where full Limit ∷ [])

module _ {R : Type 0} (segments : R → Option Segments) (state : ClusterState R) where
  pub migrate_last : (tablet to : ℕ) (stopped : Bool)
      → Tells segments state (λ cluster. not (is_tablet cluster tablet) || not (is_master cluster to)) false
      → Tells segments state (λ cluster. not (is_owned cluster tablet)) false
      → Tells segments state (λ cluster. nat_le (length (lanes_without cluster tablet to)) 0) false
      → Tells segments state (λ cluster. is_dead cluster to || has_dead_owner cluster (lanes_without cluster tablet to) tablet) stopped
      → Tells segments state (λ cluster. migrate_code cluster tablet to) (first_code (code_where stopped Crashed ∷ []))
  migrate_last tablet to stopped strange moving owning dead cluster is =
      λ i. migrate_by (strange cluster is i) (moving cluster is i) (owning cluster is i) (dead cluster is i)

  pub table_last : (table master : ℕ) (full : Bool)
      → Tells segments state (λ cluster. nat_lt 0 (calls_asked cluster)) false
      → Tells segments state (λ cluster. has_table (rows_of cluster) table) false
      → Tells segments state (λ cluster. not (is_master cluster master)) false
      → Tells segments state (λ cluster. is_dead cluster master) false
      → Tells segments state (λ cluster. nat_le MOST_TABLES (length (tables_of (rows_of cluster))) || nat_le MOST_TABLETS (length (rows_of cluster))) full
      → Tells segments state (λ cluster. table_code cluster table master) (first_code (code_where full Limit ∷ []))
  table_last table master full asked taken strange dead room cluster is =
      λ i. table_by (asked cluster is i) (taken cluster is i) (strange cluster is i) (dead cluster is i) (room cluster is i)
