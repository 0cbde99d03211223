-- What the commands of a script may name: each number is in its range, and the key and the value of a call are within their limits.
use Rattle.std.specs.Prelude.{◌≡◌, ◌≤◌, ◌<◌, ⊤, ℕ, List, None}
use Rattle.std.specs.Int.{IsInRange}
use Rattle.rk_types.specs.declared.call.Op.{Op}
use Rattle.rk_types.specs.declared.call.Op.TheVariants.{Get, Put, CondPut, Delete}
use Rattle.rk_types.specs.declared.hashing.TheConstants.{LANES}
use Rattle.rk_types.specs.Text.{key_fault, value_fault}
use Rattle.rk_script.specs.declared.command.Command.{Command}
use Rattle.rk_script.specs.declared.command.Command.TheVariants.{Masters, Backups, Table, Client, Call, Serve, Repeat, Migrate, Advance, Priority, Split, Turn, Deliver, Forget, Crash, Notice, Settle, Where, Dump, History}
use Rattle.rk_script.specs.declared.command.Numbered.{Numbered}
use Rattle.rk_script.specs.declared.numbers.TheConstants.{FEWEST_MASTERS, MOST_MASTERS, MOST_BACKUPS, MOST_TABLETS}

-- the number of a master, and of a tablet
abbrev pub IsMasterNumber : ℕ → Type 0
IsMasterNumber master = IsInRange 1 MOST_MASTERS master

abbrev pub IsTabletNumber : ℕ → Type 0
IsTabletNumber tablet = IsInRange 1 MOST_TABLETS tablet

-- a lane, and a place on its wire
abbrev pub IsPlace : ℕ → ℕ → Type 0
IsPlace lane place = (lane < LANES) × (1 ≤ place)

-- what an operation writes, if it writes something, is a value
abbrev pub HasLawfulValue : Op → Type 0
HasLawfulValue Get = ⊤
HasLawfulValue (Put value) = value_fault value ≡ None
HasLawfulValue (CondPut version value) = value_fault value ≡ None
HasLawfulValue Delete = ⊤

-- a call that a client may ask: client and table are numbered from 1, and the key and the value are within their limits
pub record MayBeAsked (client table : ℕ) (key : List ℕ) (op : Op) : Type 0 where
  pub client_is : 1 ≤ client
  pub table_is : 1 ≤ table
  pub key_is : key_fault key ≡ None
  pub op_is : HasLawfulValue op

-- all that a command names is in its range
abbrev pub IsLawfulCommand : Command → Type 0
IsLawfulCommand (Masters count) = IsInRange FEWEST_MASTERS MOST_MASTERS count
IsLawfulCommand (Backups count) = IsInRange 1 MOST_BACKUPS count
IsLawfulCommand (Table table master) = (1 ≤ table) × IsMasterNumber master
IsLawfulCommand (Client client) = 1 ≤ client
IsLawfulCommand (Call client table key op) = MayBeAsked client table key op
IsLawfulCommand (Serve client) = 1 ≤ client
IsLawfulCommand (Repeat client) = 1 ≤ client
IsLawfulCommand (Migrate tablet master) = IsTabletNumber tablet × IsMasterNumber master
IsLawfulCommand (Advance tablet reach) = IsTabletNumber tablet
IsLawfulCommand (Priority tablet) = IsTabletNumber tablet
IsLawfulCommand (Split tablet hash) = IsTabletNumber tablet
IsLawfulCommand (Turn lane) = lane < LANES
IsLawfulCommand (Deliver lane place) = IsPlace lane place
IsLawfulCommand (Forget lane place) = IsPlace lane place
IsLawfulCommand (Crash master) = IsMasterNumber master
IsLawfulCommand (Notice master) = IsMasterNumber master
IsLawfulCommand Settle = ⊤
IsLawfulCommand (Where tablet) = IsTabletNumber tablet
IsLawfulCommand (Dump tablet) = IsTabletNumber tablet
IsLawfulCommand History = ⊤

-- a lawful command at a line; lines are counted from 1
pub record IsLawful (numbered : Numbered) : Type 0 where
  pub line : 1 ≤ numbered.line
  pub command : IsLawfulCommand numbered.command
