-- How a rebuilding master gathers what the logs of a lineage hold.
use Rattle.std.specs.Prelude.{ℕ, ◌+◌, Bool, true, false, not, ◌==◌, ◌&&◌, if◌then◌else◌, List, [], ◌∷◌, ◌++◌, filter, find, length, drop, map, Option, Some, None, is_some}
use Rattle.std.specs.List.{flat_map, list_any}
use Rattle.std.specs.Option.{option_map, option_or}
use Rattle.rk_types.specs.NumberMap.{NumberMap, get, get_or, insert}
use Rattle.rk_types.specs.declared.lineage.Member.{Member}
use Rattle.rk_types.specs.declared.range.Range.{Range}
use Rattle.rk_outside.specs.Segments.{bytes_of}
use Rattle.rk_entry.specs.Entries.{entries_of}
use Rattle.rk_entry.specs.declared.entry.Entry.{Entry}
use Rattle.rk_world.specs.declared.work.Reading.{Reading}
use Rattle.rk_world.specs.Material.{material_of, named}

-- what was read of a member of a lineage: its main segments, whether the last one was passed, and its side segments
pub record Gathered : Type 0 where
  pub member : Member
  pub main : List (List Entry)
  pub main_read : Bool
  pub sides : NumberMap (List Entry)

-- a rebuild that gathers for a range: the rebuilding master, the lineage, and what was read of each
-- member but that master itself
pub record Gather : Type 0 where
  pub range : Range
  pub own : ℕ
  pub lineage : List Member
  pub members : List Gathered

-- nothing was read of a member so far
abbrev pub unread : Member → Gathered
unread member = record { member = member; main = []; main_read = false; sides = [] }

-- nothing was read so far
abbrev pub gather_begun : Range → List Member → ℕ → Gather
gather_begun range lineage own = record {
  range = range;
  own = own;
  lineage = lineage;
  members = map unread (filter (λ member. not (member.master == own)) lineage);
}

-- nothing is to be gathered
abbrev pub no_gather : Gather
no_gather = gather_begun (record { table = 0; first = 0; last = 0 }) [] 0

-- the entries of a member from its place on, each segment up to the first place without a whole entry
abbrev pub main_entries : Gathered → List Entry
main_entries gathered = drop gathered.member.from (flat_map (λ entries. entries) gathered.main)

-- the entries of a side segment that was read
abbrev pub side_read : Gathered → ℕ → List Entry
side_read gathered segment = get_or [] gathered.sides segment

-- the side segment that is read next: the first that the main entries name and that was not read
abbrev pub next_side : Range → Gathered → Option ℕ
next_side range gathered =
    find (λ segment. not (is_some (get gathered.sides segment))) (named range (main_entries gathered))

-- the segment of a member that is read next: the main ones in their order, and then the side ones
abbrev pub next_segment : Range → Gathered → Option ℕ
next_segment range gathered =
    if gathered.main_read then next_side range gathered else Some (length gathered.main + 1)

-- a segment of a member is to be read
abbrev pub reading_of : Gathered → ℕ → Reading
reading_of gathered segment = record { master = gathered.member.master; segment = segment }

-- what is read next of these members, the first of them first
abbrev pub next_of : Range → List Gathered → Option Reading
next_of range [] = None
next_of range (gathered ∷ others) =
    option_or (option_map (reading_of gathered) (next_segment range gathered)) (next_of range others)

-- what is read next; none once all is gathered
abbrev pub next_reading : Gather → Option Reading
next_reading gather = next_of gather.range gather.members

-- whether this segment of a master is read next
abbrev pub is_awaited : Option Reading → ℕ → ℕ → Bool
is_awaited None master segment = false
is_awaited (Some reading) master segment = reading.master == master && (reading.segment == segment)

-- the last main segment that there can be
abbrev pub LAST_MAIN_SEGMENT : ℕ
LAST_MAIN_SEGMENT = 2147483648

-- a main segment was read, or was never written and so the main segments are passed
abbrev pub with_main : Gathered → Option (List ℕ) → Gathered
with_main gathered None = record gathered { main_read = true }
with_main gathered (Some bytes) = record gathered {
  main = gathered.main ++ entries_of bytes ∷ [];
  main_read = length gathered.main + 1 == LAST_MAIN_SEGMENT;
}

-- a segment of a member was read
abbrev pub with_segment : Gathered → ℕ → Option (List ℕ) → Gathered
with_segment gathered segment bytes =
    if gathered.main_read
    then record gathered { sides = insert gathered.sides segment (entries_of (bytes_of bytes)) }
    else with_main gathered bytes

-- a segment of a master was read, among these members
abbrev pub with_read : List Gathered → ℕ → ℕ → Option (List ℕ) → List Gathered
with_read members master segment bytes =
    map (λ gathered. if gathered.member.master == master then with_segment gathered segment bytes else gathered) members

-- the gather after the segment that it awaited
abbrev pub gathering : Gather → ℕ → ℕ → Option (List ℕ) → Gather
gathering gather master segment bytes = record gather { members = with_read gather.members master segment bytes }

-- what counts of a member that was read
abbrev pub counted_of : Range → Gathered → List Entry
counted_of range gathered = material_of range (side_read gathered) (main_entries gathered)

-- what counts of one member: of the rebuilding master its own entries, and of another one what was read
abbrev pub material_by : Gather → List Entry → ℕ → List Entry
material_by gather own master =
    if master == gather.own then own
    else flat_map (counted_of gather.range) (filter (λ gathered. gathered.member.master == master) gather.members)

-- whether the rebuilding master is of the lineage
abbrev pub is_of_lineage : Gather → Bool
is_of_lineage gather = list_any (λ member. member.master == gather.own) gather.lineage

-- what was gathered and counts, member by member
abbrev pub counted : Gather → List Entry
counted gather = flat_map (counted_of gather.range) gather.members

-- what counts of each member, in the order of the lineage; the own entries of a master outside it come last
abbrev pub by_member : Gather → List Entry → List (List Entry)
by_member gather own =
    map (λ member. material_by gather own member.master) gather.lineage
    ++ (if is_of_lineage gather then [] else own ∷ [])
