-- What a master makes of a request: first a choice, by the rules in their order, and then what the choice changes.
use Rattle.std.specs.Prelude.{ℕ, ◌+◌, ◌==◌, ◌||◌, ◌&&◌, Bool, true, false, not, nat_lt, if◌then◌else◌, List, [], ◌∷◌, Option, Some, None, is_some}
use Rattle.std.specs.Option.{option_or}
use Rattle.rk_types.specs.Hashing.{hash_of, bucket_of}
use Rattle.rk_types.specs.declared.call.Answer.{Answer}
use Rattle.rk_types.specs.declared.call.Answer.TheVariants as answers
use Rattle.rk_types.specs.declared.call.Call.{Call}
use Rattle.rk_types.specs.declared.call.Op.{Op}
use Rattle.rk_types.specs.declared.call.Op.TheVariants as ops
use Rattle.rk_types.specs.declared.call.Outcome.{Outcome}
use Rattle.rk_types.specs.declared.call.Outcome.TheVariants as outcomes
use Rattle.rk_types.specs.declared.held.Held.{Held}
use Rattle.rk_types.specs.declared.node.Node.TheVariants as nodes
use Rattle.rk_model.specs.Merged.{is_mutation}
use Rattle.rk_entry.specs.declared.entry.Entry.{Entry}
use Rattle.rk_entry.specs.declared.entry.Entry.TheVariants as entries
use Rattle.rk_table.specs.Items.{found}
use Rattle.rk_done.specs.Completions.{look}
use Rattle.rk_done.specs.declared.completion.Look.{Look}
use Rattle.rk_done.specs.declared.completion.Look.TheVariants as looks
use Rattle.rk_priority.specs.Hashes.{wanting, contains}
use Rattle.rk_overlay.specs.Live.{record_of}
use Rattle.rk_overlay.specs.Newest.{newest}
use Rattle.rk_message.specs.declared.calls.Request.{Request}
use Rattle.rk_message.specs.declared.message.Body.TheVariants as bodies
use Rattle.rk_message.specs.declared.message.Message.{Message}
use Rattle.rk_world.specs.declared.choice.Choice.{Choice}
use Rattle.rk_world.specs.declared.choice.Choice.TheVariants.{Redirects, Repeats, Ignores, Wants, Reads, Writes, Refuses}
use Rattle.rk_world.specs.Ends.{outcome_of, items_of}
use Rattle.rk_world.specs.Tablet.{Tablet}
use Rattle.rk_world.specs.RoleTests.{is_receiving}
use Rattle.rk_world.specs.Master.{Master, tablet_at, staged, is_staged, serving, with_tablet, with_appended, with_call}
use Rattle.rk_world.specs.Worked.{Worked, changed, sending, from_master}

-- the item of a key that a call finds: for a mutation the newest staged one, else that of the records; for a read that of
-- the records
abbrev pub state_of : Master → Call → Option Held
state_of master call =
    option_or
    (if is_mutation call.op then newest (items_of (staged master)) call.table call.key else None)
    (found call.table call.key master.records)

-- whether what a call finds of a key is all that there is: the item is there, or the tablet has all items, or that of this
-- hash came, or all of its bucket came
abbrev pub is_known : Tablet → ℕ → Option Held → Bool
is_known tablet hash state =
    is_some state || not (is_receiving tablet.handover.role) || contains tablet.pulling.hashes.resolved hash
    || nat_lt (bucket_of hash) tablet.pulling.token.bucket

-- what a read returns
abbrev pub read_of : Option (ℕ × List ℕ) → Outcome
read_of None = outcomes.Absent
read_of (Some record_there) = outcomes.Found record_there.0 record_there.1

-- the version of a record, 0 if none is there
abbrev pub version_of : Option (ℕ × List ℕ) → ℕ
version_of None = 0
version_of (Some record_there) = record_there.0

-- what an operation does at a tablet, by the record that is there
abbrev pub operation : ℕ → Op → Option (ℕ × List ℕ) → Choice
operation tablet ops.Get live = Reads (read_of live)
operation tablet (ops.Put value) live = Writes tablet
operation tablet (ops.CondPut expected value) live =
    if expected == version_of live then Writes tablet else Refuses (version_of live) false
operation tablet ops.Delete live = if is_some live then Writes tablet else Refuses 0 true

-- the value that an operation writes; none if it removes the record, or reads it
abbrev pub value_written : Op → Option (List ℕ)
value_written (ops.Put value) = Some value
value_written (ops.CondPut expected value) = Some value
value_written ops.Delete = None
value_written ops.Get = None

-- whether an operation needs to know what is there: all but a put do
abbrev pub needs_state : Op → Bool
needs_state ops.Get = true
needs_state (ops.Put value) = false
needs_state (ops.CondPut expected value) = true
needs_state ops.Delete = true

-- what is done with a call that has not ended and is not staged
abbrev pub fresh_choice : ℕ → Tablet → Call → Option Held → Choice
fresh_choice number tablet call state =
    if needs_state call.op && not (is_known tablet (hash_of call.key) state)
    then Wants number
    else operation number call.op (record_of state)

-- what is done with a mutation, by what is known of it
abbrev pub mutation_choice : Master → ℕ → Tablet → Call → Look → Choice
mutation_choice master number tablet call looks.New =
    if is_staged master call.client call.seq then Ignores else fresh_choice number tablet call (state_of master call)
mutation_choice master number tablet call (looks.Same end) = Repeats end
mutation_choice master number tablet call (looks.Old seq) = Ignores

-- what is done with a call, by the tablet that is served here and has its key
abbrev pub choice_at : Master → Call → Option (ℕ × Tablet) → Choice
choice_at master call None = Redirects
choice_at master call (Some (number, tablet)) =
    if is_mutation call.op
    then mutation_choice master number tablet call (look tablet.completions call.client call.seq)
    else fresh_choice number tablet call (state_of master call)

-- what a master does with a call
abbrev pub choice_of : Master → Call → Choice
choice_of master call = choice_at master call (serving master call.table call.key)

-- the call that a request of a client asks
abbrev pub call_of : ℕ → Request → Call
call_of client request = record {
  client = client;
  seq = request.seq;
  table = request.table;
  key = request.key;
  op = request.op;
}

-- an answer to a client; stamp and place are filled in where the record is made
abbrev pub answering : Master → Call → Answer → Message
answering master call answer =
    from_master master (nodes.Client call.client)
    (bodies.Reply (record { seq = call.seq; stamp = 0; place = 0; answer = answer }))

-- a hash is wanted for a tablet
abbrev pub with_wanted : Tablet → ℕ → Tablet
with_wanted tablet hash = record tablet { pulling = record tablet.pulling { hashes = wanting tablet.pulling.hashes hash } }

-- the counter of a tablet rises by one
abbrev pub counted_up : Tablet → Tablet
counted_up tablet = record tablet { handover = record tablet.handover { counter = tablet.handover.counter + 1 } }

-- the item that a mutation leaves
abbrev pub item_of : Call → ℕ → Option (List ℕ) → Held
item_of call version value = record {
  table = call.table;
  version = version;
  client = call.client;
  seq = call.seq;
  key = call.key;
  value = value;
}

-- the refusal that a mutation leaves
abbrev pub refusal_of : Call → ℕ → Bool → Entry
refusal_of call found absent = entries.Refused (record {
  table = call.table;
  found = found;
  client = call.client;
  seq = call.seq;
  absent = absent;
  key = call.key;
})

-- a call and its entry are staged
abbrev pub with_staged : Master → Call → Entry → Master
with_staged master call entry = with_appended (with_call master call) entry

-- a write or a removal is staged, for the tablet of this number, whose counter rises
abbrev pub write_staged : Master → ℕ → Call → Option (List ℕ) → Master
write_staged master number call value =
    with_tablet
    (with_staged master call (entries.Held (item_of call (tablet_at master number).handover.counter value)))
    number (counted_up (tablet_at master number))

-- a refusal is staged
abbrev pub refusal_staged : Master → Call → ℕ → Bool → Master
refusal_staged master call found absent = with_staged master call (refusal_of call found absent)

-- a hash is wanted for the tablet of this number
abbrev pub hash_wanted : Master → ℕ → ℕ → Master
hash_wanted master number hash = with_tablet master number (with_wanted (tablet_at master number) hash)

-- what a choice changes, sends and serves
abbrev pub chosen : Master → ℕ → Call → Choice → Worked
chosen master asked call Redirects = sending master (answering master call (answers.Moved asked))
chosen master asked call (Repeats end) = sending master (answering master call (answers.Done (outcome_of end)))
chosen master asked call Ignores = changed master
chosen master asked call (Wants number) =
    sending (hash_wanted master number (hash_of call.key)) (answering master call (answers.NotYet call.key))
chosen master asked call (Reads outcome) = record {
  master = master;
  sends = answering master call (answers.Done outcome) ∷ [];
  served = (record { call = call; outcome = outcome }) ∷ [];
  marked = [];
}
chosen master asked call (Writes number) = changed (write_staged master number call (value_written call.op))
chosen master asked call (Refuses found absent) = changed (refusal_staged master call found absent)

-- a master takes a client's request
abbrev pub request_taken : Master → ℕ → Request → Worked
request_taken master client request =
    let call = call_of client request in chosen master request.tablet call (choice_of master call)
