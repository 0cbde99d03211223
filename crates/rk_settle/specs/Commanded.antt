-- What a settling command is.
use Rattle.std.specs.Prelude.{List}
use Rattle.rk_world.specs.Cluster.{Cluster}
use Rattle.rk_settle.specs.declared.task.Task.{Task}

-- the tasks that a command begins with, by the cluster as it is then
abbrev pub SettlingCommand : Type 0
SettlingCommand = Cluster → List Task
