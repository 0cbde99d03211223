-- The constants of the code that definitions cite, each by its number or by examples on both sides of its limit.
use Rattle.std.specs.Prelude.{◌≡◌, [], ◌∷◌, ℕ, List, codes, length, replicate, false, not, None, Some, Ok, Err}
use Rattle.std.proofs.Common.{ap, cond, ltb, refl, Result}
use Rattle.std.specs.List.{range_with_len}
use Rattle.std.specs.Str.Lines.{lines}
use Rattle.rk_types.specs.Hashing.{hash_of}
use Rattle.rk_types.specs.Held.{spelled_of}
use Rattle.rk_types.specs.Text.{key_fault, value_fault}
use Rattle.rk_types.specs.declared.call.Call.{Call}
use Rattle.rk_types.specs.declared.hashing.TheConstants.{BUCKETS, HASH_PRIME, LANES}
use Rattle.rk_types.specs.declared.text.TextError.TheVariants.{Byte, Length}
use Rattle.rk_outside.specs.declared.reading.TheConstants.{PIECE}
use Rattle.rk_entry.specs.declared.error.TheConstants.{BAD_BODY_LENGTH, BAD_CHOICE, BAD_KEY, BAD_KIND, BAD_MARK, BAD_NUMBER, BAD_VALUE}
use Rattle.rk_entry.specs.declared.fields.ends.TheConstants as ends
use Rattle.rk_entry.specs.declared.head.TheConstants.{MET_ANOTHER, MET_NONE}
use Rattle.rk_entry.specs.declared.kind.TheConstants.{LONGEST_BODY, MOST_ENDS}
use Rattle.rk_log.specs.Cut.{end_of, with_bytes}
use Rattle.rk_log.specs.Parts.{known_at}
use Rattle.rk_log.specs.declared.copied.TheConstants.{MOST_BACKUPS}
use Rattle.rk_table.specs.Scans.{end}
use Rattle.rk_priority.specs.Hashes.{batched, no_hashes}
use Rattle.rk_message.specs.declared.calls.TheConstants as calls
use Rattle.rk_message.specs.declared.fields.TheConstants.{BACKUP, CLIENT, COORDINATOR, MASTER}
use Rattle.rk_message.specs.declared.rebuilding.TheConstants.{MISSING, PRESENT}
use Rattle.rk_world.specs.Client.{Session}
use Rattle.rk_world.specs.Ledger.{is_added}
use Rattle.rk_world.specs.Refusals.{ask_refusal, comes_anyway, fault_of, refusal, where_true, worn}
use Rattle.rk_world.specs.World.{World, bytes_of_logs}
use Rattle.rk_world.specs.declared.error.StepError.TheVariants.{Stranger, Worn}
use Rattle.rk_world.specs.declared.event.Event.{Event}
use Rattle.rk_script.specs.Numbers as numbers
use Rattle.rk_script.specs.Script.{commands_from, script_of}
use Rattle.rk_script.specs.declared.code.Code.TheVariants.{BadNumber, ScriptLength}
use Rattle.rk_script.specs.declared.line.TheConstants.{BLANK, COMMENT, FIRST_PRINTED, LAST_PRINTED, TAB}
use Rattle.rk_script.specs.declared.numbers.TheConstants.{ZERO}
use Rattle.rk_script.specs.declared.command.Numbered.{Numbered}
use Rattle.rk_script.specs.declared.script.ParseError.{ParseError}
use Rattle.rk_script.specs.declared.script.ParseError.TheVariants.{Refused}
use Rattle.rk_script.specs.declared.script.TheConstants.{LINE_FEED, LONGEST_SCRIPT}
use Rattle.rk_workload.specs.declared.calls.TheConstants.{TABLE}
use Rattle.rk_constants.specs.Batches.{IsAnsweredBy, item}
use Rattle.rk_constants.proofs.Refusals.{below_limit, below_limits, worn_bytes, worn_idle, worn_number, worn_seen, worn_seq}

-- ---- hashes

-- The hash is that of 64-bit FNV-1a, by its published vectors and its prime; there are 8 lanes of 1,024 buckets.
pub hashes_of_keys : hash_of [] ∷ hash_of (codes "foobar") ∷ [] ≡ 0xcbf29ce484222325 ∷ 0x85944171f73967e8 ∷ []
unfolding hash_of
hashes_of_keys = refl

pub hash_prime : HASH_PRIME ≡ 0x100000001b3
hash_prime = refl

pub lanes_and_buckets : LANES ∷ BUCKETS ∷ [] ≡ 8 ∷ 1024 ∷ []
lanes_and_buckets = refl

-- ---- limits

-- A key has at most 250 bytes.
pub longest_key : key_fault (replicate 250 0x7e) ∷ key_fault (replicate 251 0x7e) ∷ [] ≡ None ∷ Some (Length 251) ∷ []
longest_key = refl

-- A value has at most 65,000 bytes.
pub longest_value : value_fault (replicate 65000 0x21) ∷ value_fault (replicate 65001 0x21) ∷ [] ≡ None ∷ Some (Length 65001) ∷ []
longest_value = refl

-- Each byte of a key or a value is a printed character, from 21 to 7e in hexadecimal.
pub printed_texts : value_fault (0x21 ∷ 0x20 ∷ []) ∷ value_fault (0x7e ∷ 0x7f ∷ []) ∷ [] ≡ Some (Byte 1) ∷ Some (Byte 1) ∷ []
printed_texts = refl

-- The entry of a value with more than 8,192 bytes has one byte more, its mark.
pub marked_entries : spelled_of (item (codes "a") 8192) ∷ spelled_of (item (codes "a") 8193) ∷ [] ≡ 8231 ∷ 8233 ∷ []
unfolding spelled_of
marked_entries = refl

-- A segment has at most 131,072 bytes.
pub filled_segment : end_of (with_bytes (replicate 131071 0 ∷ []) (0 ∷ [])) ≡ record { segment = 1; offset = 131072 }
filled_segment = refl

pub begun_segment : end_of (with_bytes (replicate 131072 0 ∷ []) (0 ∷ [])) ≡ record { segment = 2; offset = 1 }
begun_segment = refl

-- Main segments are numbered from 1 on and side segments from 2,147,483,649 on.
pub numbers_of_segments : known_at ((7 ∷ []) ∷ []) ((5 ∷ []) ∷ []) 0 ≡ (1, 7) ∷ (2147483649, 5) ∷ []
numbers_of_segments = refl

-- A log has at most 4 backups, a Carried 65,535 ends, and an entry a body of 4,294,967,290 bytes.
pub most_of_logs : MOST_BACKUPS ∷ MOST_ENDS ∷ LONGEST_BODY ∷ [] ≡ 4 ∷ 65535 ∷ 4294967290 ∷ []
most_of_logs = refl

-- A pull is answered with items until their entries have 20,480 bytes together: behind an entry of 20,479 bytes another one comes, and
-- behind one of 20,480 bytes none.
pub entries_about_a_batch : spelled_of (item (codes "q") 20439) ∷ spelled_of (item (codes "q") 20440) ∷ [] ≡ 20479 ∷ 20480 ∷ []
unfolding spelled_of
entries_about_a_batch = refl

pub below_a_batch : IsAnsweredBy (item (codes "q") 20439 ∷ item (codes "a") 1 ∷ [])
    (item (codes "q") 20439 ∷ item (codes "a") 1 ∷ []) end
unfolding hash_of spelled_of
below_a_batch = refl

pub a_whole_batch : IsAnsweredBy (item (codes "q") 20440 ∷ item (codes "a") 1 ∷ []) (item (codes "q") 20440 ∷ [])
    (record { bucket = 247; skip = 1 })
unfolding hash_of spelled_of
a_whole_batch = refl

-- At most 16 hashes are asked for at once.
pub sixteen_hashes : batched (record no_hashes { wanted = range_with_len 1 17 })
    ≡ record { resolved = []; outstanding = range_with_len 1 16; wanted = 17 ∷ [] }
sixteen_hashes = refl

-- ---- codes

-- In entries: the faults, the reasons of a refusal (another version, none), and the tags of ends (written, deleted, absent, mismatch).
pub faults_of_entries : BAD_KIND ∷ BAD_BODY_LENGTH ∷ BAD_NUMBER ∷ BAD_KEY ∷ BAD_VALUE ∷ BAD_CHOICE ∷ BAD_MARK ∷ []
    ≡ 1 ∷ 2 ∷ 3 ∷ 4 ∷ 5 ∷ 6 ∷ 7 ∷ []
faults_of_entries = refl

pub reasons_of_refusals : MET_ANOTHER ∷ MET_NONE ∷ [] ≡ 1 ∷ 2 ∷ []
reasons_of_refusals = refl

pub tags_of_ends : ends.WRITTEN ∷ ends.DELETED ∷ ends.ABSENT ∷ ends.MISMATCH ∷ [] ≡ 1 ∷ 2 ∷ 3 ∷ 4 ∷ []
tags_of_ends = refl

-- In frames: the kinds of nodes, the operations of a Request, the answers of a Reply, and whether a Copy has bytes.
pub kinds_of_nodes : CLIENT ∷ COORDINATOR ∷ MASTER ∷ BACKUP ∷ [] ≡ 1 ∷ 2 ∷ 3 ∷ 4 ∷ []
kinds_of_nodes = refl

pub operations : calls.GET ∷ calls.PUT ∷ calls.COND_PUT ∷ calls.DELETE ∷ [] ≡ 1 ∷ 2 ∷ 3 ∷ 4 ∷ []
operations = refl

pub answers : calls.FOUND ∷ calls.ABSENT ∷ calls.WRITTEN ∷ calls.DELETED ∷ calls.MISMATCH ∷ calls.MOVED ∷ calls.NOT_YET ∷ []
    ≡ 1 ∷ 2 ∷ 3 ∷ 4 ∷ 5 ∷ 6 ∷ 7 ∷ []
answers = refl

pub bytes_of_copies : MISSING ∷ PRESENT ∷ [] ≡ 0 ∷ 1 ∷ []
bytes_of_copies = refl

-- ---- scripts

-- The bytes that part words and lines, the byte that begins a comment, those that words may have, and the digit of zero.
pub parting_bytes : BLANK ∷ TAB ∷ LINE_FEED ∷ COMMENT ∷ [] ≡ 32 ∷ 9 ∷ 10 ∷ 35 ∷ []
parting_bytes = refl

pub printed_bytes : FIRST_PRINTED ∷ LAST_PRINTED ∷ ZERO ∷ [] ≡ 33 ∷ 126 ∷ 48 ∷ []
printed_bytes = refl

-- A script has at most 16,777,216 bytes, and is read in pieces of 65,536.
-- (what a script of so many bytes says)
abbrev of_length : List ℕ → ℕ → Result (List Numbered) ParseError
of_length script n = cond (ltb LONGEST_SCRIPT n) (Err (Refused 0 ScriptLength)) (commands_from 1 (lines script))

pub longest_script : (script : List ℕ) → length script ≡ 16777216 → script_of script ≡ commands_from 1 (lines script)
longest_script script is = ap (of_length script) is

pub longer_script : (script : List ℕ) → length script ≡ 16777217 → script_of script ≡ Err (Refused 0 ScriptLength)
longer_script script is = ap (of_length script) is

pub piece : PIECE ≡ 65536
piece = refl

-- It asks for 2 to 8 masters and up to 4 backups, and names tablets up to 16, lanes up to 7 and hashes of 16 digits.
pub fewest_masters : numbers.masters_of (codes "1") ∷ numbers.masters_of (codes "2") ∷ [] ≡ Err BadNumber ∷ Ok 2 ∷ []
fewest_masters = refl

pub most_masters : numbers.masters_of (codes "8") ∷ numbers.masters_of (codes "9") ∷ [] ≡ Ok 8 ∷ Err BadNumber ∷ []
most_masters = refl

pub most_backups : numbers.backups_of (codes "4") ∷ numbers.backups_of (codes "5") ∷ [] ≡ Ok 4 ∷ Err BadNumber ∷ []
most_backups = refl

pub last_tablet : numbers.tablet_of (codes "16") ∷ numbers.tablet_of (codes "17") ∷ [] ≡ Ok 16 ∷ Err BadNumber ∷ []
last_tablet = refl

pub last_lane : numbers.lane_of (codes "7") ∷ numbers.lane_of (codes "8") ∷ [] ≡ Ok 7 ∷ Err BadNumber ∷ []
last_lane = refl

pub hashes_of_scripts : numbers.hash_of (replicate 15 0x66) ∷ numbers.hash_of (replicate 16 0x66) ∷ []
    ≡ Err BadNumber ∷ Ok 0xffffffffffffffff ∷ []
hashes_of_scripts = refl

-- The calls of a workload are about table 1.
pub table_of_workloads : TABLE ≡ 1
table_of_workloads = refl

-- ---- when lanes and sessions wear out

-- A lane is worn once it has had a number of 2^48 or its logs have 2^28 bytes, and not before. Then it refuses each event with that
-- number, but for a crash and a message that is forgotten.
pub lanes_wear_out_not_before : (w : World) (event : Event) → w.top ≡ 281474976710655 → bytes_of_logs w ≡ 268435455
    → refusal w event ≡ fault_of w event
lanes_wear_out_not_before = below_limits

pub numbers_wear_out : (w : World) (event : Event) → comes_anyway event ≡ false → w.top ≡ 281474976710656
    → refusal w event ≡ Some (Worn 281474976710656)
numbers_wear_out = worn_number

pub logs_wear_out : (w : World) (event : Event) → comes_anyway event ≡ false → w.top ≡ 281474976710655
    → bytes_of_logs w ≡ 268435456 → refusal w event ≡ Some (Worn 268435456)
logs_wear_out = worn_bytes

-- In a lane that is not worn a session is refused its turn once it has seen a stamp of 2^48 or asks a call with that seq, and not before.
pub sessions_wear_out_not_before : (w : World) (session : Session) (call : Call) → worn w ≡ None
    → session.outstanding ≡ Some call → call.seq ≡ 281474976710655 → session.seen ≡ 281474976710655
    → ask_refusal w session ≡ where_true (not (is_added w.ledger session.client)) (Stranger session.client)
sessions_wear_out_not_before w session call calm = below_limit w session calm call

pub idle_sessions_wear_out : (w : World) (session : Session) → worn w ≡ None → session.outstanding ≡ None
    → session.seen ≡ 281474976710656 → ask_refusal w session ≡ Some (Worn 281474976710656)
idle_sessions_wear_out = worn_idle

pub seen_stamps_wear_out : (w : World) (session : Session) (call : Call) → worn w ≡ None
    → session.outstanding ≡ Some call → call.seq ≡ 281474976710655 → session.seen ≡ 281474976710656
    → ask_refusal w session ≡ Some (Worn 281474976710656)
seen_stamps_wear_out w session call calm = worn_seen w session calm call

pub seqs_wear_out : (w : World) (session : Session) (call : Call) → worn w ≡ None
    → session.outstanding ≡ Some call → call.seq ≡ 281474976710656
    → ask_refusal w session ≡ Some (Worn 281474976710656)
seqs_wear_out w session call calm = worn_seq w session calm call
