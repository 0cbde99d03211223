-- The notice of a crash: which rows are to be rebuilt then and by whom, and the order in which crashes are noticed.
use Rattle.std.specs.Prelude.{ℕ, ◌+◌, ◌==◌, ◌&&◌, ◌||◌, Bool, not, if◌then◌else◌, List, [], ◌∷◌, ◌++◌, filter, find, fold, map, Option, Some, None, unwrap_or}
use Rattle.std.specs.List.{list_any}
use Rattle.rk_types.specs.declared.lineage.Member.{Member}
use Rattle.rk_tablet_map.specs.Phase.{member}
use Rattle.rk_tablet_map.specs.declared.phase.Phase.{Phase}
use Rattle.rk_tablet_map.specs.declared.phase.Phase.TheVariants.{Owned, Opening, Moving, Rebuilding}
use Rattle.rk_tablet_map.specs.declared.row.Row.{Row}
use Rattle.rk_world.specs.Lineage.{is_member}
use Rattle.rk_world.specs.Coordinator.{Coordinator, is_noticed, lowest_left}

-- the first master of a lineage that was not noticed dead, and else the lowest one left
abbrev pub next_rebuilder : Coordinator → List Member → ℕ
next_rebuilder coordinator lineage =
    unwrap_or (find (λ master. not (is_noticed coordinator master)) (map (λ member. member.master) lineage))
    (lowest_left coordinator)

-- the phase of a row once a master was noticed dead, if that changes it
abbrev pub phase_noticed : Coordinator → ℕ → Phase → Option Phase
phase_noticed coordinator dead (Owned master from) =
    if master == dead then Some (Rebuilding (member dead from ∷ []) (lowest_left coordinator)) else None
phase_noticed coordinator dead (Opening source sfrom target dfrom) =
    if source == dead then Some (Rebuilding (member dead sfrom ∷ []) (lowest_left coordinator))
    else if target == dead then Some (Rebuilding (member source sfrom ∷ []) source)
    else None
phase_noticed coordinator dead (Moving source sfrom target dfrom) =
    if source == dead then Some (Rebuilding (member dead sfrom ∷ member target dfrom ∷ []) target)
    else if target == dead then Some (Rebuilding (member source sfrom ∷ member dead dfrom ∷ []) source)
    else None
phase_noticed coordinator dead (Rebuilding lineage to) =
    if to == dead then Some (Rebuilding lineage (next_rebuilder coordinator lineage)) else None

-- a row once a master was noticed dead: if its phase changes, its term rises
abbrev pub row_noticed : Row → Option Phase → Row
row_noticed row None = row
row_noticed row (Some phase) = record row { term = row.term + 1; phase = phase }

-- a master is marked as dead, and then its rows change
abbrev pub notice_one : Coordinator → ℕ → Coordinator
notice_one coordinator dead =
    let marked = record coordinator { noticed = coordinator.noticed ++ dead ∷ [] } in
    record marked { rows = map (λ row. row_noticed row (phase_noticed marked dead row.phase)) coordinator.rows }

-- whether a phase names a master: as its owner, source, target, rebuilding master or member
abbrev pub names : Phase → ℕ → Bool
names (Owned owner from) master = owner == master
names (Opening source sfrom target dfrom) master = source == master || (target == master)
names (Moving source sfrom target dfrom) master = source == master || (target == master)
names (Rebuilding lineage to) master = to == master || is_member lineage master

-- whether some row names a master
abbrev pub is_named : List Row → ℕ → Bool
is_named rows master = list_any (λ row. names row.phase master) rows

-- the order in which the crashed masters that were not noticed are marked, at the notice of one of them: first those that
-- no row names, by rising number, and then those that a row names, by rising number and that one last
abbrev pub notice_order : List Row → ℕ → List ℕ → List ℕ
notice_order rows dead crashed =
    filter (λ master. not (is_named rows master)) crashed
    ++ (filter (λ master. is_named rows master && not (master == dead)) crashed
    ++ filter (λ master. is_named rows master && (master == dead)) crashed)

-- a crash is noticed, and with it each other crash that was not, so no row stays with a crashed master: a master that no row names
-- is marked before a row could be given to it, and a row that is given to a master that is marked later passes on then; a master
-- that was noticed already is not marked again
abbrev pub coordinator_notice : Coordinator → ℕ → List ℕ → Coordinator
coordinator_notice coordinator dead crashed =
    fold notice_one coordinator
    (notice_order coordinator.rows dead (filter (λ master. not (is_noticed coordinator master)) crashed))
