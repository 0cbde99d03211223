-- What it makes of a view that a target seals its side lists: its master cuts side segments, and the target has all and joins.
use Rattle.std.specs.Prelude.{ℕ, ◌+◌, List, [], ◌∷◌, ◌++◌, length, map, None, Some}
use Rattle.std.specs.List.{range_with_len}
use Rattle.rk_types.specs.declared.held.Held.{Held}
use Rattle.rk_entry.specs.Entries.{spelled_all}
use Rattle.rk_entry.specs.declared.lists.TheConstants.{FIRST_SIDE_SEGMENT}
use Rattle.rk_log.specs.Log.{Log}
use Rattle.rk_transfer.specs.declared.handover.Handover.{Handover}
use Rattle.rk_transfer.specs.declared.role.Role.TheVariants as roles
use Rattle.rk_priority.specs.Hashes.{no_hashes}
use Rattle.rk_world.specs.Material.{as_entries}
use Rattle.rk_world.specs.Master.{tablet_at}
use Rattle.rk_world.specs.Pulls.{joining_at, sealing}
use Rattle.rk_world.specs.SideLogs.{sealed_sides}
use Rattle.rk_world.specs.Tablet.{Pulling}
use Rattle.rk_world.specs.World.{World, master_at, tablet_in, with_master}
use Rattle.rk_world.specs.Written.{Written}
use Rattle.rk_sound.specs.View.{View}
use Rattle.rk_sound.specs.Small.{put, put2}

-- a log with more side segments, which spell these items
abbrev pub with_sides : Log → List (List Held) → Log
with_sides log lists = record log { sides = log.sides ++ map (λ items. spelled_all (as_entries items)) lists }

-- what a master has written, with the items of more side segments
abbrev pub with_side_items : Written → List (List Held) → Written
with_side_items written lists = record written { sides = written.sides ++ lists }

-- a master cuts side segments that have these items
abbrev pub sides_cut : View → ℕ → List (List Held) → View
sides_cut v master lists = record v {
  logs = put v.logs master (with_sides (v.logs master) lists);
  written = put v.written master (with_side_items (v.written master) lists);
}

-- a handover of a target that has all
abbrev pub as_joining : Handover → Handover
as_joining handover = record handover { role = roles.Joining None }

-- what a target pulled, when these side segments have its items
abbrev pub as_sealed : List ℕ → Pulling → Pulling
as_sealed numbers pulling = record pulling { hashes = no_hashes; sides = [] ∷ [] ∷ [] ∷ [] ∷ []; sealed = numbers }

-- a target has all, in these side segments, and joins
abbrev pub sides_joined : View → ℕ → ℕ → List ℕ → View
sides_joined v master tablet numbers = record v {
  handovers = put2 v.handovers master tablet (as_joining (v.handovers master tablet));
  pullings = put2 v.pullings master tablet (as_sealed numbers (v.pullings master tablet));
}

-- a target seals its side lists: side segments have them from then on, and it joins
abbrev pub sealed : View → ℕ → ℕ → View
sealed v master tablet =
    let lists = sealed_sides (v.pullings master tablet).sides in
    sides_joined (sides_cut v master lists) master tablet
    (range_with_len (FIRST_SIDE_SEGMENT + length (v.logs master).sides) (length lists))

abbrev pub side_lists_sealed_in : World → ℕ → ℕ → World
side_lists_sealed_in w master tablet =
    let sealed = sealing (master_at w master) tablet (tablet_in w master tablet) in
    with_master w master
    (joining_at sealed tablet (tablet_at sealed tablet) (Some (as_joining (tablet_in w master tablet).handover)))
