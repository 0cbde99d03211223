-- The ledger of a lane: what its clients asked, the journal of what was answered, and the marks of rebuilds.
use Rattle.std.specs.Prelude.{ℕ, ◌+◌, ◌==◌, ◌&&◌, Bool, not, if◌then◌else◌, List, [], ◌∷◌, ◌++◌, filter, fold, slice_get, Option, Some, None, is_some}
use Rattle.rk_types.specs.NumberMap.{NumberMap, get, get_or, insert}
use Rattle.rk_types.specs.declared.call.Call.{Call}
use Rattle.rk_types.specs.declared.call.Ended.{Ended}
use Rattle.rk_types.specs.declared.call.Outcome.{Outcome}
use Rattle.rk_types.specs.declared.history.Placed.{Placed}
use Rattle.rk_model.specs.Merged.{is_mutation}
use Rattle.rk_message.specs.declared.message.Message.{Message}
use Rattle.rk_message.specs.declared.rebuilding.Rebuilt.{Rebuilt}
use Rattle.rk_world.specs.declared.work.Served.{Served}
use Rattle.rk_world.specs.Ends.{outcome_of}
use Rattle.rk_world.specs.declared.work.Mark.{Mark}
use Rattle.rk_world.specs.Marks.{is_mark_of}
use Rattle.rk_world.specs.Journal.{next_record, has_record, accepted_at}
use Rattle.rk_world.specs.declared.ledger.LastCall.{LastCall}

-- the ledger of a lane: of each client that was added the last call that it asked here, if any; how many calls were asked;
-- the last request of each client; the journal, oldest record first; and the pieces of masters' logs that rebuilds made and that
-- the coordinator has not taken yet
pub record Ledger : Type 0 where
  pub clients : NumberMap (Option LastCall)
  pub asked : ℕ
  pub requests : NumberMap Message
  pub journal : List Placed
  pub marks : List Mark

-- the ledger of a lane in which nothing happened
abbrev pub new_ledger : Ledger
new_ledger = record { clients = []; asked = 0; requests = []; journal = []; marks = [] }

-- whether a client was added
abbrev pub is_added : Ledger → ℕ → Bool
is_added ledger client = is_some (get ledger.clients client)

-- the last call that a client asked here
abbrev pub asked_by : Ledger → ℕ → Option LastCall
asked_by ledger client = get_or None ledger.clients client

-- the marks of a master's log
abbrev pub marks_of : Ledger → ℕ → List Mark
marks_of ledger master = filter (λ mark. mark.master == master) ledger.marks

-- a client is added, and asked nothing so far
abbrev pub with_client : Ledger → ℕ → Ledger
with_client ledger client = record ledger { clients = insert ledger.clients client None }

-- a client asks a new call
abbrev pub with_asked : Ledger → ℕ → LastCall → Ledger
with_asked ledger client asked =
    record ledger { clients = insert ledger.clients client (Some asked); asked = ledger.asked + 1 }

-- the last request of a client
abbrev pub with_request : Ledger → ℕ → Message → Ledger
with_request ledger client message = record ledger { requests = insert ledger.requests client message }

-- a call gets its record, at the end of the journal
abbrev pub with_record : Ledger → Call → Outcome → ℕ → Ledger
with_record ledger call outcome seen =
    record ledger { journal = ledger.journal ++ next_record ledger.journal call outcome seen ∷ [] }

-- the record at a place is accepted
abbrev pub with_accepted : Ledger → ℕ → Ledger
with_accepted ledger place =
    record ledger { journal = accepted_at ledger.journal place (slice_get ledger.journal place) }

-- the stamp that a client had seen when it asked its last call here
abbrev pub seen_of : Option LastCall → ℕ
seen_of None = 0
seen_of (Some asked) = asked.seen

-- an applied mutation gets its record, with what its client had seen when it asked, unless it has one
abbrev pub with_mutation : Ledger → Served → Ledger
with_mutation ledger served =
    if has_record ledger.journal served.call.client served.call.seq then ledger
    else with_record ledger served.call served.outcome (seen_of (asked_by ledger served.call.client))

-- a served call gets its record: a read with what its request had seen, a mutation once it is applied
abbrev pub with_served : ℕ → Ledger → Served → Ledger
with_served seen ledger served =
    if is_mutation served.call.op then with_mutation ledger served
    else with_record ledger served.call served.outcome seen

-- served calls get their records, in their order
abbrev pub with_all_served : ℕ → Ledger → List Served → Ledger
with_all_served seen ledger served = fold (with_served seen) ledger served

-- an end makes a record if it is that of its client's last call here and that call has none
abbrev pub with_end_of : Ledger → Ended → Option LastCall → Ledger
with_end_of ledger end None = ledger
with_end_of ledger end (Some asked) =
    if asked.call.seq == end.seq && not (has_record ledger.journal end.client end.seq)
    then with_record ledger asked.call (outcome_of end.end) asked.seen
    else ledger

-- an end of a rebuild makes a record, if it is that of the last call of its client and that call has none
abbrev pub with_end : Ledger → Ended → Ledger
with_end ledger end = with_end_of ledger end (asked_by ledger end.client)

-- the ends of a rebuild make records, in their order
abbrev pub with_ends : Ledger → List Ended → Ledger
with_ends ledger ends = fold with_end ledger ends

-- pieces of a master's log are marked
abbrev pub with_marks : Ledger → List Mark → Ledger
with_marks ledger marks = record ledger { marks = ledger.marks ++ marks }

-- a rebuild of a tablet is taken: no log has a mark of the tablet any more
abbrev pub without_marks : Ledger → ℕ → ℕ → Ledger
without_marks ledger tablet term =
    record ledger { marks = filter (λ mark. not (is_mark_of tablet term mark)) ledger.marks }

-- a rebuild is taken, if there is one: its ends make records, and its marks are taken away
abbrev pub with_rebuilt : Ledger → Option Rebuilt → Ledger
with_rebuilt ledger None = ledger
with_rebuilt ledger (Some rebuilt) =
    without_marks (with_ends ledger rebuilt.ends) rebuilt.tenure.tablet rebuilt.tenure.term
