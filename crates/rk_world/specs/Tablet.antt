-- What a master has of a tablet.
use Rattle.std.specs.Prelude.{ℕ, List, [], ◌∷◌}
use Rattle.rk_types.specs.declared.call.Ended.{Ended}
use Rattle.rk_types.specs.declared.held.Held.{Held}
use Rattle.rk_types.specs.declared.held.Token.{Token}
use Rattle.rk_table.specs.Scans.{first}
use Rattle.rk_done.specs.Completions.{Completions}
use Rattle.rk_transfer.specs.declared.handover.Handover.{Handover}
use Rattle.rk_transfer.specs.declared.role.Role.TheVariants as roles
use Rattle.rk_priority.specs.Hashes.{Hashes, no_hashes}
use Rattle.rk_world.specs.Gather.{Gather, no_gather}

-- what a target has while it pulls: whom it pulls from, the token that it has come to, how many batches it took, the
-- hashes that it wants first, and what was pulled: for each of four workers the items that are not sealed, and then the
-- numbers of the side segments that were sealed
pub record Pulling : Type 0 where
  pub source : ℕ
  pub token : Token
  pub batches : ℕ
  pub hashes : Hashes
  pub sides : List (List Held)
  pub sealed : List ℕ

-- nothing is pulled so far, from this master
abbrev pub pulling_from : ℕ → Pulling
pulling_from source = record {
  source = source;
  token = first;
  batches = 0;
  hashes = no_hashes;
  sides = [] ∷ [] ∷ [] ∷ [] ∷ [];
  sealed = [];
}

-- what a master has of a tablet: its role, term, range and counter; the last end of each client; what it pulls; what
-- it gathers for a rebuild, and the ends that it merged
pub record Tablet : Type 0 where
  pub handover : Handover
  pub completions : Completions
  pub pulling : Pulling
  pub gather : Gather
  pub merged_ends : List Ended

-- a tablet that a master does not know; counters count from 1
abbrev pub no_tablet : Tablet
no_tablet = record {
  handover = record { role = roles.Absent; term = 0; range = record { table = 0; first = 0; last = 0 }; counter = 1 };
  completions = [];
  pulling = pulling_from 0;
  gather = no_gather;
  merged_ends = [];
}

-- the tablet with another handover
abbrev pub with_handover : Tablet → Handover → Tablet
with_handover tablet handover = record tablet { handover = handover }

-- the tablet with nothing gathered or merged
abbrev pub without_merged : Tablet → Tablet
without_merged tablet = record tablet { gather = no_gather; merged_ends = [] }

-- the tablet with nothing pulled
abbrev pub without_pulled : Tablet → Tablet
without_pulled tablet = record tablet { pulling = pulling_from tablet.pulling.source }
