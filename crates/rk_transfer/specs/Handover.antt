-- The moves of a handover: which role comes after which, at which term, and what else a move changes.
use Rattle.std.specs.Prelude.{ℕ, Bool, true, false, nat_lt, ◌==◌, if◌then◌else◌, Option, Some, None}
use Rattle.std.specs.Option.{option_map}
use Rattle.rk_types.specs.declared.range.Range.{Range}
use Rattle.rk_transfer.specs.declared.handover.Handover.{Handover}
use Rattle.rk_transfer.specs.declared.role.Role.{Role}
use Rattle.rk_transfer.specs.declared.role.Role.TheVariants.{Absent, Serving, Closing, Frozen, Wanting, Receiving, Joining, Rebuilding}

-- A move, with what it is handed. Here each says which role it turns into which; when a master makes it, and what it does beside,
-- is in the files of rk_world/specs that are named.
--
--   Prepare, Close, Grant, Own, Release: on the order of the coordinator that is called so (Handovers)
--   Freeze: once none of the tablet's writes waits for its entry to be committed, which is at the Close itself or when the backups
--     have stored the last one (Handovers, Waiting)
--   Join: when the last batch of a pull is taken; with its closing entry at once if no side segment is left to store, and else
--     without, to be made again with the entry once all of them are stored (Pulls, Waiting)
--   Rebuild: on the coordinator's order to collect what a crashed owner left (Rebuilds)
--   Carry: when every log is read, and what was collected is merged (Rebuilds)
pub data Move : Type 0 where
  Prepare : (term : ℕ) (range : Range) (from : ℕ) → Move
  Close : (term : ℕ) → Move
  Freeze : (term : ℕ) → Move
  Grant : (term counter : ℕ) → Move
  Join : (term : ℕ) (entry : Option ℕ) → Move
  Rebuild : (term : ℕ) (range : Range) (from : ℕ) → Move
  Carry : (term entry counter : ℕ) → Move
  Own : (term applied : ℕ) → Move
  Release : (term : ℕ) → Move

-- the role after a close, if the role before takes one
abbrev pub role_closed : Role → Option Role
role_closed Serving = Some Closing
role_closed (Joining entry) = Some Closing
role_closed (Rebuilding from entry) = Some Closing
role_closed _ = None

-- the role after a freeze
abbrev pub role_frozen : Role → Option Role
role_frozen Closing = Some Frozen
role_frozen _ = None

-- the role after a grant
abbrev pub role_granted : Role → Option Role
role_granted (Wanting from) = Some Receiving
role_granted _ = None

-- the role after a join: a role that has its closing entry keeps it, and one without it takes one
abbrev pub role_joined : Option ℕ → Role → Option Role
role_joined entry Receiving = Some (Joining entry)
role_joined (Some place) (Joining None) = Some (Joining (Some place))
role_joined _ _ = None

-- the role after a carry: only a rebuild without its closing entry takes one
abbrev pub role_carried : ℕ → Role → Option Role
role_carried entry (Rebuilding from None) = Some (Rebuilding from (Some entry))
role_carried _ _ = None

-- the role after an Own: the closing entry is below what is applied
abbrev pub role_owned : ℕ → Role → Option Role
role_owned applied (Joining (Some entry)) = if nat_lt entry applied then Some Serving else None
role_owned applied (Rebuilding from (Some entry)) = if nat_lt entry applied then Some Serving else None
role_owned _ _ = None

-- the role after a release
abbrev pub role_released : Role → Option Role
role_released Frozen = Some Absent
role_released _ = None

-- the handover in a role, if there is one
abbrev pub in_role : Handover → Option Role → Option Handover
in_role handover role = option_map (λ r. record handover { role = r }) role

-- a handover asked for anew, by a greater term alone: the term, the range and the role are those given
abbrev pub begun : Handover → ℕ → Range → Role → Option Handover
begun handover term range role =
    if nat_lt handover.term term
    then Some (record handover { role = role; term = term; range = range })
    else None

-- after a prepare the master waits for a grant
abbrev pub prepared : Handover → ℕ → Range → ℕ → Option Handover
prepared handover term range from = begun handover term range (Wanting from)

-- after a rebuild it collects, and has no closing entry yet
abbrev pub rebuilt : Handover → ℕ → Range → ℕ → Option Handover
rebuilt handover term range from = begun handover term range (Rebuilding from None)

-- a close comes by a greater term, which is the handover's then
abbrev pub closed : Handover → ℕ → Option Handover
closed handover term =
    if nat_lt handover.term term
    then in_role (record handover { term = term }) (role_closed handover.role)
    else None

-- each other move comes at the handover's own term; a freeze is the first of them
abbrev pub frozen : Handover → ℕ → Option Handover
frozen handover term = if handover.term == term then in_role handover (role_frozen handover.role) else None

-- a grant hands over the counter
abbrev pub granted : Handover → ℕ → ℕ → Option Handover
granted handover term counter =
    if handover.term == term
    then in_role (record handover { counter = counter }) (role_granted handover.role)
    else None

-- a join gives the place of the closing entry, or that it is not in the log yet
abbrev pub joined : Handover → ℕ → Option ℕ → Option Handover
joined handover term entry = if handover.term == term then in_role handover (role_joined entry handover.role) else None

-- a carry hands over the counter too, with the place of the closing entry
abbrev pub carried : Handover → ℕ → ℕ → ℕ → Option Handover
carried handover term entry counter =
    if handover.term == term
    then in_role (record handover { counter = counter }) (role_carried entry handover.role)
    else None

-- an Own comes with how much of the log is applied
abbrev pub owned : Handover → ℕ → ℕ → Option Handover
owned handover term applied = if handover.term == term then in_role handover (role_owned applied handover.role) else None

-- a release ends the handover
abbrev pub released : Handover → ℕ → Option Handover
released handover term = if handover.term == term then in_role handover (role_released handover.role) else None

-- the handover after a move, or none if the move does not apply
abbrev pub moved : Handover → Move → Option Handover
moved handover (Prepare term range from) = prepared handover term range from
moved handover (Close term) = closed handover term
moved handover (Freeze term) = frozen handover term
moved handover (Grant term counter) = granted handover term counter
moved handover (Join term entry) = joined handover term entry
moved handover (Rebuild term range from) = rebuilt handover term range from
moved handover (Carry term entry counter) = carried handover term entry counter
moved handover (Own term applied) = owned handover term applied
moved handover (Release term) = released handover term

-- the roles in which a master answers calls
abbrev pub is_serving : Role → Bool
is_serving Serving = true
is_serving Receiving = true
is_serving (Joining entry) = true
is_serving _ = false
