-- A source that is asked for a batch of its records, for examples.
use Rattle.std.specs.Prelude.{◌≡◌, ℕ, List, [], ◌∷◌, replicate, Some}
use Rattle.rk_types.specs.declared.held.Held.{Held}
use Rattle.rk_types.specs.declared.held.Token.{Token}
use Rattle.rk_types.specs.declared.node.Node.TheVariants as nodes
use Rattle.rk_table.specs.Scans.{first}
use Rattle.rk_transfer.specs.declared.role.Role.TheVariants as roles
use Rattle.rk_message.specs.declared.handover.Tenure.{Tenure}
use Rattle.rk_message.specs.declared.message.Body.TheVariants as bodies
use Rattle.rk_world.specs.Master.{Master, new_master, with_tablet}
use Rattle.rk_world.specs.Material.{as_entries}
use Rattle.rk_world.specs.Pulls.{pull_taken}
use Rattle.rk_world.specs.Tablet.{no_tablet}
use Rattle.rk_world.specs.Worked.{from_master}

-- an item of table 1 with this key and a value of so many bytes
abbrev pub item : List ℕ → ℕ → Held
item key count = record { table = 1; version = 1; client = 1; seq = 1; key = key; value = Some (replicate count 120) }

-- tablet 1 at term 2
abbrev pub tenure : Tenure
tenure = record { tablet = 1; term = 2 }

-- master 1, frozen for all hashes of table 1, with these records
abbrev pub frozen_with : List Held → Master
frozen_with items =
    with_tablet (record (new_master 1 []) { records = items }) 1
    (record no_tablet {
      handover = record {
        role = roles.Frozen;
        term = 2;
        range = record { table = 1; first = 0; last = 0xffffffffffffffff };
        counter = 2;
      };
    })

-- asked by master 2 for the first batch of its records, it answers with these, and with this token
abbrev pub IsAnsweredBy : List Held → List Held → Token → Type 0
IsAnsweredBy items batch next =
    (pull_taken (frozen_with items) (nodes.Master 2) (record { tenure = tenure; token = first })).sends
    ≡ from_master (frozen_with items) (nodes.Master 2)
    (bodies.Pulled (record { tenure = tenure; token = first; next = next; entries = as_entries batch })) ∷ []
