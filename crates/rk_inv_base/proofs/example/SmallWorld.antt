-- A small world: a lane after one put that is applied and answered, with one master, one backup and one client.
use Rattle.rk_inv_base.proofs.Words.{ℕ, false, List, [], ◌∷◌, length, Some, NumberMap, Call, Ended, Held, Placed, Range, Segments, spelled}
use Rattle.rk_inv_base.proofs.Words.{Entry, Owned, Row, Known, nothing, Log, Reply, Request, Message, Append, Stored, no_segments, no_base}
use Rattle.rk_inv_base.proofs.Words.{Ledger, Master, Tablet, no_tablet, World, written_in, rest_of, LastCall, View, view, with_stored}
use Rattle.rk_inv_base.proofs.Words.{truth_of}
use Rattle.rk_types.specs.declared.call.Answer.TheVariants as answers
use Rattle.rk_types.specs.declared.call.End.TheVariants as ends
use Rattle.rk_types.specs.declared.call.Op.TheVariants as ops
use Rattle.rk_types.specs.declared.call.Outcome.TheVariants as outcomes
use Rattle.rk_types.specs.declared.node.Node.TheVariants as nodes
use Rattle.rk_entry.specs.declared.entry.Entry.TheVariants as entries
use Rattle.rk_transfer.specs.declared.role.Role.TheVariants as roles
use Rattle.rk_message.specs.declared.message.Body.TheVariants as bodies
use Rattle.rk_log.specs.Known.{told}

-- all hashes of table 1
abbrev pub small_range : Range
small_range = record { table = 1; first = 0; last = 18446744073709551615 }

-- the key a, which lies in lane 4, and the value x
abbrev pub small_key : List ℕ
small_key = 97 ∷ []

abbrev pub small_value : List ℕ
small_value = 120 ∷ []

-- client 1 puts x at a
abbrev pub small_call : Call
small_call = record { client = 1; seq = 1; table = 1; key = small_key; op = ops.Put small_value }

-- the item that the put left, at version 1
abbrev pub small_item : Held
small_item = record { table = 1; version = 1; client = 1; seq = 1; key = small_key; value = Some small_value }

abbrev pub small_entry : Entry
small_entry = entries.Held small_item

-- how the put ended
abbrev pub small_end : Ended
small_end = record { client = 1; seq = 1; end = ends.Written 1 }

-- the bytes of the log, all in segment 1
abbrev pub small_bytes : List ℕ
small_bytes = spelled small_entry

-- the backup is known to hold them
abbrev pub small_known : Known
small_known = told nothing 1 (length small_bytes)

abbrev pub small_log : Log
small_log = record { entries = small_entry ∷ []; sides = []; known = small_known ∷ [] }

-- tablet 1 is served, and the next version is 2
abbrev pub small_tablet : Tablet
small_tablet = record no_tablet {
  handover = record { role = roles.Serving; term = 1; range = small_range; counter = 2 };
  completions = (1, record { seq = 1; end = ends.Written 1 }) ∷ [];
}

-- the one master: its entry is applied and no call waits
abbrev pub small_master : Master
small_master = record {
  number = 1;
  log = small_log;
  sides = [];
  applied = 1;
  calls = [];
  records = small_item ∷ [];
  tablets = (1, small_tablet) ∷ [];
}

-- what the backup keeps
abbrev pub small_stored : Segments
small_stored = with_stored no_segments 1 1 (Some small_bytes)

-- the row of the tablet
abbrev pub small_row : Row
small_row = record { tablet = 1; range = small_range; term = 1; phase = Owned 1 0 }

abbrev pub small_map : List Row
small_map = small_row ∷ []

-- the call of the client, which had seen nothing then
abbrev pub small_last : LastCall
small_last = record { call = small_call; seen = 0 }

-- the record of the put, which its client has not accepted
abbrev pub small_placed : Placed
small_placed = record { call = small_call; outcome = outcomes.Written 1; stamp = 1; accepted = false }

abbrev pub small_journal : List Placed
small_journal = small_placed ∷ []

-- the four messages of the put
abbrev pub small_asks : Request
small_asks = record { tablet = 1; seq = 1; seen = 0; table = 1; key = small_key; op = ops.Put small_value }

abbrev pub small_request : Message
small_request = record { from = nodes.Client 1; to = nodes.Master 1; body = bodies.Request small_asks }

abbrev pub small_piece : Append
small_piece = record { segment = 1; at = 0; bytes = small_bytes }

abbrev pub small_append : Message
small_append = record { from = nodes.Master 1; to = nodes.Backup 1; body = bodies.Append small_piece }

abbrev pub small_length : Stored
small_length = record { segment = 1; length = length small_bytes }

abbrev pub small_told : Message
small_told = record { from = nodes.Backup 1; to = nodes.Master 1; body = bodies.Stored small_length }

abbrev pub small_answer : Reply
small_answer = record { seq = 1; stamp = 1; place = 0; answer = answers.Done (outcomes.Written 1) }

abbrev pub small_reply : Message
small_reply = record { from = nodes.Master 1; to = nodes.Client 1; body = bodies.Reply small_answer }

-- all of them are still on the wire
abbrev pub small_wire : NumberMap Message
small_wire = (1, small_request) ∷ (2, small_append) ∷ (3, small_told) ∷ (4, small_reply) ∷ []

abbrev pub small_ledger : Ledger
small_ledger = record {
  clients = (1, Some small_last) ∷ [];
  asked = 1;
  requests = (1, small_request) ∷ [];
  journal = small_journal;
  marks = [];
}

-- the world of lane 4, where nobody has crashed
abbrev pub small_world : World
small_world = record {
  lane = 4;
  masters = (1, small_master) ∷ [];
  backup_count = 1;
  backups = (1, small_stored) ∷ [];
  coordinator = record { masters = 1; rows = small_map; noticed = []; handed = [] };
  wire = record { messages = small_wire; sent = 4 };
  ledger = small_ledger;
  crashed = [];
  top = 4;
  base = no_base;
}

-- what is seen of it
abbrev pub small_view : View
small_view = view small_world

-- the truth of each row, and what is behind it
abbrev pub small_truths : Row → List Entry
small_truths = truth_of no_base (written_in small_world)

abbrev pub small_rests : Row → List Entry
small_rests = rest_of (written_in small_world)
