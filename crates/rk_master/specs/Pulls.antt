-- What the messages of a pull need, what a source answers, and what is so at the place of a target's tablet.
use Rattle.std.specs.Prelude.{◌≡◌, ℕ, ◌++◌, List, slice_get, Some}
use Rattle.std.specs.List.{All, flat_map}
use Rattle.rk_types.specs.declared.node.Node.{Node}
use Rattle.rk_types.specs.declared.range.Range.{Range}
use Rattle.rk_entry.specs.declared.entry.Entry.{Entry}
use Rattle.rk_entry.specs.Lawful.{IsLawfulEntry, IsLawfulHeld}
use Rattle.rk_table.specs.Items.{at_hash, live_in}
use Rattle.rk_table.specs.Scans.{batch_at, next_token}
use Rattle.rk_transfer.specs.declared.role.Role.TheVariants as roles
use Rattle.rk_pull.specs.declared.batches.TheConstants.{BATCH_BYTES}
use Rattle.rk_log.specs.Log.{Log}
use Rattle.rk_message.specs.declared.message.Body.TheVariants as bodies
use Rattle.rk_message.specs.declared.message.Message.{Message}
use Rattle.rk_message.specs.declared.pulling.Pull.{Pull}
use Rattle.rk_message.specs.declared.pulling.Want.{Want}
use Rattle.rk_world.specs.Ends.{items_of}
use Rattle.rk_world.specs.Master.{Master}
use Rattle.rk_world.specs.Material.{as_entries}
use Rattle.rk_world.specs.Waiting.{joined_entry}
use Rattle.rk_world.specs.Worked.{from_master}
use Rattle.rk_tablet.specs.Tablets.{tablet_of}
use Rattle.rk_master.specs.Places.{Row}

-- the items among entries that were pulled can be spelled
abbrev pub HasLawfulItems : List Entry → Type 0
HasLawfulItems entries = All IsLawfulHeld (items_of entries)

-- the live items of a range from the token of a Pull on, as they are answered
abbrev pub batch_answer : Master → Node → Range → Pull → Message
batch_answer master to range pull =
    let items = live_in range master.records in
    from_master master to (bodies.Pulled (record {
      tenure = pull.tenure;
      token = pull.token;
      next = next_token pull.token BATCH_BYTES items;
      entries = as_entries (batch_at pull.token BATCH_BYTES items);
    }))

-- the live items of a range with the hashes of a Want, as they are answered
abbrev pub want_answer : Master → Node → Range → Want → Message
want_answer master to range want =
    from_master master to (bodies.Got (record {
      tenure = want.tenure;
      hashes = want.hashes;
      entries = as_entries (flat_map (λ hash. at_hash hash (live_in range master.records)) want.hashes);
    }))

-- the tablet at a place pulls
abbrev pub DoesPull : List Row → ℕ → Type 0
DoesPull rows place = (row : Row) → slice_get rows place ≡ Some row → row.1.handover.role ≡ roles.Receiving

-- the entry that closes the role of the tablet at a place can be spelled
abbrev pub CanClose : List Row → ℕ → Type 0
CanClose rows place = (row : Row) → slice_get rows place ≡ Some row → IsLawfulEntry (joined_entry (tablet_of row.1))

-- the log with these side segments beside it
abbrev pub with_sides : Log → List (List ℕ) → Log
with_sides log segments = record log { sides = log.sides ++ segments }
