-- A new lane.
use Rattle.rk_lane.proofs.Words.{◌≡◌, ◌≤◌, ℕ, zero, suc, ◌+◌, eqb, List, [], ◌∷◌, map, Option, Some, IsSome, All, refl, arith, IsDistinct}
use Rattle.rk_lane.proofs.Words.{range_with_len, All-nil, NumberMap, Segments, MOST_BACKUPS, Master, log_bytes, new_master, MOST_MASTERS}
use Rattle.rk_lane.proofs.Words.{IsFormedWithRoom, World, bytes_of_logs, new_world, masters_from}
use Rattle.std.proofs.Common.{replicate, sum}
use Rattle.std.proofs.lemmas.List.Sums.{sum_by-cons}
use Rattle.rk_log.specs.Known.{nothing}
use Rattle.rk_inv_wellformed.proofs.lanes.New.{new_is_well_formed, new_has_room}

-- a new master under a number, with so many backups
abbrev pub new_at : ℕ → ℕ → Option Master
new_at backups number = Some (new_master number (replicate backups nothing))

-- the masters of a new lane
pub new_masters_are : (backups start count : ℕ) → masters_from start (map (new_at backups) (range_with_len start count))
    ≡ map (λ number. (number, new_master number (replicate backups nothing))) (range_with_len start count)
new_masters_are backups start zero = refl
new_masters_are backups start (suc count) = grind (arith, new_master, (new_masters_are backups (start + 1) count))

-- none of them is spent
pub new_present : (backups start count : ℕ) → All IsSome (map (new_at backups) (range_with_len start count))
new_present backups start zero = All-nil _
new_present backups start (suc count) = grind (arith, (new_present backups (start + 1) count))

-- a lane is well formed with room, whatever its backups store
pub formed_whatever : (w : World) (stored : NumberMap Segments) → IsFormedWithRoom w → IsFormedWithRoom (record w { backups = stored })
formed_whatever w stored before = grind arith

-- a new lane is
pub new_is_formed : (lane masters backups : ℕ) → masters ≤ MOST_MASTERS → 1 ≤ backups → backups ≤ MOST_BACKUPS
    → IsFormedWithRoom (record (new_world lane masters backups) { backups = [] })
new_is_formed lane masters backups few some few_backups =
    formed_whatever (new_world lane masters backups) []
    (record { formed = new_is_well_formed lane masters backups few some few_backups; room = new_has_room lane masters backups })

pub none_crashed : IsDistinct eqb []
unfolding IsDistinct
none_crashed = tt

-- new masters have no bytes
no_bytes : (backups : ℕ) (list : List ℕ) → sum (map (λ (entry : ℕ × Master). log_bytes entry.1) (map (λ (number : ℕ). (number, new_master number (replicate backups nothing))) list)) ≡ 0
no_bytes backups [] = refl
no_bytes backups (number ∷ list) = grind (arith, sum_by-cons, log_bytes, new_master, (no_bytes backups list))

-- its logs have no bytes
pub new_counted : (lane masters backups : ℕ) → bytes_of_logs (record (new_world lane masters backups) { backups = [] }) ≡ 0
new_counted lane masters backups = no_bytes backups (range_with_len 1 masters)
