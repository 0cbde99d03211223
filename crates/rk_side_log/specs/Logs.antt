-- What the side logs of a target represent, and how its parts agree.
use Rattle.std.specs.Prelude.{◌≡◌, ◌≤◌, List, [], vec_capacity}
use Rattle.rk_types.specs.declared.held.Held.{Held}
use Rattle.rk_side_log.specs.Sides.{items_of_each, made_in}
use Rattle.rk_side_log.specs.Spelled.{unsealed_in}
use Rattle.rk_side_log.specs.declared.side_logs.SideLogs.TheInside.{Inside}

-- the items of each worker
abbrev pub items_of_all : Inside → List (List Held)
items_of_all logs = items_of_each logs.workers

-- the bytes are counted, and there is room to hand out all segments
pub record IsConsistent (logs : Inside) : Type 0 where
  pub bytes_are : logs.bytes ≡ unsealed_in (items_of_all logs)
  pub none_sealed : logs.sealed.items ≡ []
  pub room : made_in logs.workers ≤ vec_capacity logs.sealed
