-- What the tasks of a command name is there: lanes and masters.
use Rattle.std.specs.Prelude.{◌<◌, ℕ, List, All, ⊤}
use Rattle.rk_types.specs.declared.hashing.TheConstants.{LANES}
use Rattle.rk_tablet_map.specs.declared.phase.Phase.{Phase}
use Rattle.rk_tablet_map.specs.declared.phase.Phase.TheVariants.{Moving, Opening, Owned}
use Rattle.rk_world.specs.Premises.{IsMaster, MayHappen}
use Rattle.rk_world.specs.World.{new_world}
use Rattle.rk_cluster.specs.Steps.{IsPlain}
use Rattle.rk_settle.specs.declared.task.Act.{Act}
use Rattle.rk_settle.specs.declared.task.Act.TheVariants as acts
use Rattle.rk_settle.specs.declared.task.Task.{Task}
use Rattle.rk_settle.specs.declared.task.Task.TheVariants as tasks

-- an act that may come to a lane with so many masters
abbrev pub IsAct : ℕ → Act → Type 0
IsAct masters (acts.Happens event) = IsPlain event × MayHappen (new_world 0 masters 0) event
IsAct masters (acts.Asks client) = ⊤

-- a task names lanes that there are, and some of so many masters
abbrev pub IsTask : ℕ → Task → Type 0
IsTask masters (tasks.Occurs lane act) = (lane < LANES) × IsAct masters act
IsTask masters (tasks.Delivers lane number) = lane < LANES
IsTask masters tasks.Begins = ⊤
IsTask masters tasks.Ends = ⊤
IsTask masters (tasks.Exchanges lane topic act) = (lane < LANES) × IsAct masters act
IsTask masters (tasks.Sorts lane topic from last) = lane < LANES
IsTask masters (tasks.Hands lane topic from) = lane < LANES
IsTask masters (tasks.Notices lane) = lane < LANES
IsTask masters tasks.Settles = ⊤
IsTask masters (tasks.Turns lane) = lane < LANES
IsTask masters (tasks.Empties lane) = lane < LANES
IsTask masters (tasks.Tries lane client times) = lane < LANES
IsTask masters (tasks.Requests lane client times) = lane < LANES
IsTask masters (tasks.Hears lane client times asked) = (lane < LANES) × IsMaster masters asked
IsTask masters (tasks.Commits lane client asked) = (lane < LANES) × IsMaster masters asked
IsTask masters (tasks.Hastens lane tablet) = lane < LANES
IsTask masters (tasks.Advances lane tablet reach) = lane < LANES
IsTask masters (tasks.Reaches lane tablet reach) = lane < LANES
IsTask masters (tasks.Freezes lane tablet master) = (lane < LANES) × IsMaster masters master

-- so do all of some tasks
abbrev pub AreTasks : ℕ → List Task → Type 0
AreTasks masters left = All (IsTask masters) left

-- the owner of a tablet is there, and so are the source and the target of a migration
abbrev pub AreNamed : ℕ → Phase → Type 0
AreNamed masters (Owned master from) = IsMaster masters master
AreNamed masters (Opening source sfrom target dfrom) = IsMaster masters source × IsMaster masters target
AreNamed masters (Moving source sfrom target dfrom) = IsMaster masters source × IsMaster masters target
AreNamed masters phase = ⊤

-- a task of a migration, or a task that unfolds into nothing
abbrev pub IsMigrating : Task → Type 0
IsMigrating (tasks.Exchanges lane topic act) = ⊥
IsMigrating (tasks.Sorts lane topic from last) = ⊥
IsMigrating (tasks.Hands lane topic from) = ⊥
IsMigrating (tasks.Notices lane) = ⊥
IsMigrating tasks.Settles = ⊥
IsMigrating (tasks.Turns lane) = ⊥
IsMigrating (tasks.Empties lane) = ⊥
IsMigrating (tasks.Tries lane client times) = ⊥
IsMigrating (tasks.Requests lane client times) = ⊥
IsMigrating (tasks.Hears lane client times asked) = ⊥
IsMigrating (tasks.Commits lane client asked) = ⊥
IsMigrating task = ⊤

-- a task of serve, or of a migration, or a task that unfolds into nothing
abbrev pub IsServed : Task → Type 0
IsServed (tasks.Exchanges lane topic act) = ⊥
IsServed (tasks.Sorts lane topic from last) = ⊥
IsServed (tasks.Hands lane topic from) = ⊥
IsServed (tasks.Notices lane) = ⊥
IsServed tasks.Settles = ⊥
IsServed (tasks.Turns lane) = ⊥
IsServed (tasks.Empties lane) = ⊥
IsServed task = ⊤
