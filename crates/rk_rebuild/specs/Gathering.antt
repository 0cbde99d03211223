-- What a gather in code represents.
use Rattle.rk_world.specs.Gather.{Gather}
use Rattle.rk_rebuild.specs.Logs.{IsGathered, members_of}
use Rattle.rk_rebuild.specs.declared.gather.Gather.TheInside.{Inside}

-- the gather, with what was read of each member
abbrev pub gather_of : Inside → Gather
gather_of it = record {
  range = it.range;
  own = it.own;
  lineage = it.lineage.items;
  members = members_of it.logs.items it.readers.items;
}

-- what is kept beside what was read is right
abbrev pub IsKept : Inside → Type 0
IsKept it = IsGathered it.range it.logs.items it.readers.items
