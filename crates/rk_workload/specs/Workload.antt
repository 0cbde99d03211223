-- The calls of a drive, made from three numbers: how many clients there are, how many calls each makes, and how many keys they use.
use Rattle.std.specs.Prelude.{ℕ, ◌+◌, ◌*◌, ◌-◌, ◌%◌, ◌==◌, ◌||◌, List, ◌++◌, codes, decimal, if◌then◌else◌, map}
use Rattle.std.specs.List.{flat_map, range_with_len}
use Rattle.rk_types.specs.declared.call.Call.{Call}
use Rattle.rk_types.specs.declared.call.Op.{Op}
use Rattle.rk_types.specs.declared.call.Op.TheVariants.{Get, Put, CondPut, Delete}
use Rattle.rk_workload.specs.declared.calls.TheConstants.{TABLE}

-- the key and the value of a client's call of this number
abbrev pub key_of : ℕ → ℕ → ℕ → List ℕ
key_of keys client seq = codes "k" ++ decimal ((7 * seq + 13 * client) % keys)

abbrev pub value_of : ℕ → ℕ → List ℕ
value_of client seq = codes "v" ++ decimal client ++ codes "_" ++ decimal seq

-- what the call at a place of its turn asks: calls come in turns of eight
abbrev pub op_at : ℕ → ℕ → ℕ → Op
op_at place client seq =
    if place == 0 || place == 3 || place == 6 then Put (value_of client seq)
    else if place == 2 then CondPut (seq % 3) (value_of client seq)
    else if place == 5 then Delete
    else Get

-- a client's call of this number, the first of which is 1
abbrev pub call_of : ℕ → ℕ → ℕ → Call
call_of keys client seq = record {
  client = client;
  seq = seq;
  table = TABLE;
  key = key_of keys client seq;
  op = op_at ((seq - 1) % 8) client seq;
}

-- the calls of a client, in their order
abbrev pub calls_of : ℕ → ℕ → ℕ → List Call
calls_of calls keys client = map (call_of keys client) (range_with_len 1 calls)

-- the calls of all clients, client by client
abbrev pub workload : ℕ → ℕ → ℕ → List Call
workload clients calls keys = flat_map (calls_of calls keys) (range_with_len 1 clients)
