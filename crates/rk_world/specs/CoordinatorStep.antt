-- What the coordinator makes of each message and of its turn.
use Rattle.std.specs.Prelude.{ℕ, ◌==◌, if◌then◌else◌, List, [], ◌∷◌, Option, Some, None}
use Rattle.std.specs.List.{flat_map}
use Rattle.rk_types.specs.NumberMap.{get_or}
use Rattle.rk_types.specs.declared.node.Node.{Node}
use Rattle.rk_types.specs.declared.node.Node.TheVariants as nodes
use Rattle.rk_tablet_map.specs.Rows.{row_of, row_with}
use Rattle.rk_tablet_map.specs.declared.phase.Phase.{Phase}
use Rattle.rk_tablet_map.specs.declared.phase.Phase.TheVariants.{Owned, Opening, Moving, Rebuilding}
use Rattle.rk_tablet_map.specs.declared.row.Row.{Row}
use Rattle.rk_message.specs.declared.calls.Lookup.{Lookup}
use Rattle.rk_message.specs.declared.handover.Ready.{Ready}
use Rattle.rk_message.specs.declared.handover.Tenure.{Tenure}
use Rattle.rk_message.specs.declared.handover.Transfer.{Transfer}
use Rattle.rk_message.specs.declared.message.Body.{Body}
use Rattle.rk_message.specs.declared.message.Body.TheVariants as bodies
use Rattle.rk_message.specs.declared.message.Message.{Message}
use Rattle.rk_message.specs.declared.rebuilding.Rebuilt.{Rebuilt}
use Rattle.rk_world.specs.Coordinator.{Coordinator, is_noticed, with_phase, with_handed, from_coordinator, row_tenure, owner_of, Handed}

-- what the coordinator makes of a message: the coordinator after it, what it sends, and the rebuild that it took, if a
-- master reported a rebuild that the row waited for
pub record Coordinated : Type 0 where
  pub coordinator : Coordinator
  pub sends : List Message
  pub rebuilt : Option Rebuilt

-- the coordinator is so now, and sends nothing
abbrev pub unanswered : Coordinator → Coordinated
unanswered coordinator = record { coordinator = coordinator; sends = []; rebuilt = None }

-- the coordinator is so now, and sends these
abbrev pub answered : Coordinator → List Message → Coordinated
answered coordinator sends = record { coordinator = coordinator; sends = sends; rebuilt = None }

-- the answer to a look-up, if a row has the hash
abbrev pub located : Node → Option Row → List Message
located sender None = []
located sender (Some row) =
    from_coordinator sender (bodies.Located (record { tablet = row.tablet; range = row.range; owner = owner_of row.phase })) ∷ []

-- the coordinator takes a Lookup
abbrev pub lookup_taken : Coordinator → Node → Lookup → Coordinated
lookup_taken coordinator sender lookup =
    answered coordinator (located sender (row_with coordinator.rows lookup.table lookup.hash))

-- the row of a tenure, if it is at that term
abbrev pub at_term : Tenure → Option Row → Option Row
at_term tenure None = None
at_term tenure (Some row) = if row.term == tenure.term then Some row else None

-- the row that a message of a master speaks of: one at the message's term, while that master was not noticed dead
abbrev pub row_for : Coordinator → ℕ → Tenure → Option Row
row_for coordinator sender tenure =
    if is_noticed coordinator sender then None else at_term tenure (row_of coordinator.rows tenure.tablet)

-- the place of a target is noted
abbrev pub place_noted : Coordinator → Row → ℕ → ℕ → ℕ → ℕ → Coordinator
place_noted coordinator row source sfrom target place =
    with_phase coordinator row (Opening source sfrom target (Some place))

-- a row moves, and what its source handed over is noted
abbrev pub row_moved : Coordinator → Row → ℕ → ℕ → ℕ → ℕ → Handed → Coordinator
row_moved coordinator row source sfrom target dfrom handed =
    with_handed (with_phase coordinator row (Moving source sfrom target dfrom)) row.tablet handed

-- a row is owned by this master, from this place of its log on
abbrev pub row_owned : Coordinator → Row → ℕ → ℕ → Coordinator
row_owned coordinator row master from = with_phase coordinator row (Owned master from)

-- the target is ready: its place is known
abbrev pub ready_in : Coordinator → ℕ → Ready → Row → Phase → Coordinated
ready_in coordinator sender message row (Opening source sfrom target None) =
    if sender == target
    then unanswered (place_noted coordinator row source sfrom target message.place)
    else unanswered coordinator
ready_in coordinator sender message row _ = unanswered coordinator

-- the source has frozen the tablet: it moves
abbrev pub transfer_in : Coordinator → ℕ → Transfer → Row → Phase → Coordinated
transfer_in coordinator sender message row (Opening source sfrom target (Some dfrom)) =
    if sender == source
    then unanswered
    (row_moved coordinator row source sfrom target dfrom (record { floor = message.floor; ends = message.ends }))
    else unanswered coordinator
transfer_in coordinator sender message row _ = unanswered coordinator

-- the message to a master that the tablet is its own
abbrev pub own_to : ℕ → Row → Message
own_to master row = from_coordinator (nodes.Master master) (bodies.Own (row_tenure row))

-- the message to a master that the tablet is another's
abbrev pub release_to : ℕ → Row → Message
release_to master row = from_coordinator (nodes.Master master) (bodies.Release (row_tenure row))

-- the owner is sent its Own again, in case it has missed it
abbrev pub told_again : Coordinator → ℕ → Row → ℕ → Coordinated
told_again coordinator sender row master =
    if sender == master then answered coordinator (own_to master row ∷ []) else unanswered coordinator

-- the target has all: it owns the tablet
abbrev pub joined_in : Coordinator → ℕ → Row → Phase → Coordinated
joined_in coordinator sender row (Moving source sfrom target dfrom) =
    if sender == target
    then answered (row_owned coordinator row target dfrom) (own_to target row ∷ release_to source row ∷ [])
    else unanswered coordinator
joined_in coordinator sender row (Owned master from) = told_again coordinator sender row master
joined_in coordinator sender row _ = unanswered coordinator

-- the tablet is rebuilt: the rebuilding master owns it, and what it reported is taken
abbrev pub rebuilt_in : Coordinator → ℕ → Rebuilt → Row → Phase → Coordinated
rebuilt_in coordinator sender message row (Rebuilding lineage to) =
    if sender == to
    then record {
      coordinator = row_owned coordinator row to message.place;
      sends = own_to to row ∷ [];
      rebuilt = Some message;
    }
    else unanswered coordinator
rebuilt_in coordinator sender message row (Owned master from) = told_again coordinator sender row master
rebuilt_in coordinator sender message row _ = unanswered coordinator

-- what is made of a message of a master about a row, if it speaks of one
abbrev pub about : Coordinator → (Row → Coordinated) → Option Row → Coordinated
about coordinator taken None = unanswered coordinator
about coordinator taken (Some row) = taken row

-- the coordinator takes what a master sent
abbrev pub report : Coordinator → ℕ → Body → Coordinated
report coordinator sender (bodies.Ready message) =
    about coordinator (λ row. ready_in coordinator sender message row row.phase) (row_for coordinator sender message.tenure)
report coordinator sender (bodies.Transfer message) =
    about coordinator (λ row. transfer_in coordinator sender message row row.phase) (row_for coordinator sender message.tenure)
report coordinator sender (bodies.Joined tenure) =
    about coordinator (λ row. joined_in coordinator sender row row.phase) (row_for coordinator sender tenure)
report coordinator sender (bodies.Rebuilt message) =
    about coordinator (λ row. rebuilt_in coordinator sender message row row.phase) (row_for coordinator sender message.tenure)
report coordinator sender _ = unanswered coordinator

-- the coordinator takes what a client sent
abbrev pub question : Coordinator → ℕ → Body → Coordinated
question coordinator client (bodies.Lookup lookup) = lookup_taken coordinator (nodes.Client client) lookup
question coordinator client _ = unanswered coordinator

-- the coordinator takes a message, by its sender
abbrev pub told_coordinator : Coordinator → Node → Body → Coordinated
told_coordinator coordinator (nodes.Client client) body = question coordinator client body
told_coordinator coordinator (nodes.Master master) body = report coordinator master body
told_coordinator coordinator _ body = unanswered coordinator

-- the coordinator takes a message
abbrev pub coordinator_step : Coordinator → Message → Coordinated
coordinator_step coordinator message = told_coordinator coordinator message.from message.body

-- what the coordinator does for a row on its turn: while the tablet opens it asks the target to prepare, and then the source
-- to close; while it moves it grants; while it is rebuilt it asks for that
abbrev pub row_duty : Coordinator → Row → Phase → List Message
row_duty coordinator row (Owned master from) = []
row_duty coordinator row (Opening source sfrom target None) =
    from_coordinator (nodes.Master target) (bodies.Prepare (record { tenure = row_tenure row; range = row.range })) ∷ []
row_duty coordinator row (Opening source sfrom target (Some dfrom)) =
    from_coordinator (nodes.Master source) (bodies.Close (row_tenure row)) ∷ []
row_duty coordinator row (Moving source sfrom target dfrom) =
    let handed = get_or (record { floor = 1; ends = [] }) coordinator.handed row.tablet in
    from_coordinator (nodes.Master target)
    (bodies.Grant (record { tenure = row_tenure row; source = source; floor = handed.floor; ends = handed.ends })) ∷ []
row_duty coordinator row (Rebuilding lineage to) =
    from_coordinator (nodes.Master to)
    (bodies.Rebuild (record { tenure = row_tenure row; range = row.range; lineage = lineage })) ∷ []

-- the coordinator's turn, by rising tablet
abbrev pub coordinator_turn : Coordinator → List Message
coordinator_turn coordinator = flat_map (λ row. row_duty coordinator row row.phase) coordinator.rows
