-- The codes of each call of a user, in the order in which they are tested: the first that applies is the answer, and a call without
-- one is carried out.
use Rattle.std.specs.Prelude.{ℕ, ◌||◌, Bool, not, nat_le, nat_lt, List, [], ◌∷◌, length, Option, Some, None, is_some, is_none, if◌then◌else◌}
use Rattle.std.specs.Option.{option_or}
use Rattle.rk_tablet_map.specs.Rows.{row_of}
use Rattle.rk_world.specs.Cluster.{Cluster, lane_at, session_at}
use Rattle.rk_world.specs.Refusals.{MOST_CLIENTS}
use Rattle.rk_message.specs.Wire.{number_at}
use Rattle.rk_cluster.specs.declared.code.Code.{Code}
use Rattle.rk_cluster.specs.declared.code.Code.TheVariants.{Alive, BadSplit, Busy, Crashed, LastMaster, Limit, NoPlace, NotOwned, NothingSent, OwnsAll, Taken, TooLate, Unknown}
use Rattle.rk_cluster.specs.Looks.{all_lanes, calls_asked, has_dead_owner, has_inside, has_table, is_client, is_dead, is_master, is_other_alive, is_owned, is_tablet, lanes_without, rows_of, tables_of}

-- as many tables, tablets and calls as there may be
abbrev pub MOST_TABLES : ℕ
MOST_TABLES = 8

abbrev pub MOST_TABLETS : ℕ
MOST_TABLETS = 16

abbrev pub MOST_CALLS : ℕ
MOST_CALLS = 200000

-- a code, if a test holds
abbrev pub code_where : Bool → Code → Option Code
code_where holds code = if holds then Some code else None

-- the first of these codes that applies
abbrev pub first_code : List (Option Code) → Option Code
first_code [] = None
first_code (code ∷ codes) = option_or code (first_code codes)

-- a table is made with one tablet, which a master owns
abbrev pub table_code : Cluster → ℕ → ℕ → Option Code
table_code cluster table master =
    first_code (
    code_where (nat_lt 0 (calls_asked cluster)) TooLate
    ∷ code_where (has_table (rows_of cluster) table) Taken
    ∷ code_where (not (is_master cluster master)) Unknown
    ∷ code_where (is_dead cluster master) Crashed
    ∷ code_where (nat_le MOST_TABLES (length (tables_of (rows_of cluster))) || nat_le MOST_TABLETS (length (rows_of cluster))) Limit
    ∷ [])

-- a client gets a session
abbrev pub client_code : Cluster → ℕ → Option Code
client_code cluster client =
    first_code (
    code_where (is_client cluster client) Taken
    ∷ code_where (nat_le MOST_CLIENTS (length cluster.sessions)) Limit
    ∷ [])

-- a client asks its next call
abbrev pub call_code : Cluster → ℕ → ℕ → Option Code
call_code cluster client table =
    first_code (
    code_where (not (is_client cluster client) || not (has_table (rows_of cluster) table)) Unknown
    ∷ code_where (is_some (session_at cluster client).outstanding) Busy
    ∷ code_where (nat_le MOST_CALLS (calls_asked cluster)) Limit
    ∷ [])

-- a client sends its last request again
abbrev pub again_code : Cluster → ℕ → Option Code
again_code cluster client =
    first_code (
    code_where (not (is_client cluster client)) Unknown
    ∷ code_where (is_none (session_at cluster client).sent_in) NothingSent
    ∷ [])

-- a tablet begins to move to a master
abbrev pub migrate_code : Cluster → ℕ → ℕ → Option Code
migrate_code cluster tablet to =
    let concerned = lanes_without cluster tablet to in
    first_code (
    code_where (not (is_tablet cluster tablet) || not (is_master cluster to)) Unknown
    ∷ code_where (not (is_owned cluster tablet)) NotOwned
    ∷ code_where (nat_le (length concerned) 0) OwnsAll
    ∷ code_where (is_dead cluster to || has_dead_owner cluster concerned tablet) Crashed
    ∷ [])

-- a tablet is split at a hash
abbrev pub split_code : Cluster → ℕ → ℕ → Option Code
split_code cluster tablet at =
    first_code (
    code_where (not (is_tablet cluster tablet)) Unknown
    ∷ code_where (not (is_owned cluster tablet)) NotOwned
    ∷ code_where (has_dead_owner cluster (all_lanes cluster) tablet) Crashed
    ∷ code_where (nat_le MOST_TABLETS (length (rows_of cluster))) Limit
    ∷ code_where (not (has_inside (row_of (rows_of cluster) tablet) at)) BadSplit
    ∷ [])

-- a master crashes
abbrev pub crash_code : Cluster → ℕ → Option Code
crash_code cluster master =
    first_code (
    code_where (not (is_master cluster master)) Unknown
    ∷ code_where (is_dead cluster master) Crashed
    ∷ code_where (not (is_other_alive cluster master)) LastMaster
    ∷ [])

-- the coordinators learn that a master has crashed
abbrev pub notice_code : Cluster → ℕ → Option Code
notice_code cluster master =
    first_code (
    code_where (not (is_master cluster master)) Unknown
    ∷ code_where (not (is_dead cluster master)) Alive
    ∷ [])

-- the message at a place of a lane's wire is delivered, or forgotten
abbrev pub place_code : Cluster → ℕ → ℕ → Option Code
place_code cluster lane place = code_where (is_none (number_at place (lane_at cluster lane).wire)) NoPlace
