-- How a task unfolds into smaller ones, by the cluster as it is when its turn comes.
use Rattle.std.specs.Prelude.{List, []}
use Rattle.rk_world.specs.Cluster.{Cluster, lane_at, session_at}
use Rattle.rk_settle.specs.Advance.{advance_tasks, freeze_tasks, reach_tasks}
use Rattle.rk_settle.specs.Exchange.{exchange_tasks, hand_tasks, sort_tasks}
use Rattle.rk_settle.specs.Priority.{hasten_tasks}
use Rattle.rk_settle.specs.Serve.{commit_tasks, hear_tasks, request_tasks, try_tasks}
use Rattle.rk_settle.specs.Settle.{empty_tasks, notice_tasks, settling_tasks, turn_tasks}
use Rattle.rk_settle.specs.declared.task.Task.{Task}
use Rattle.rk_settle.specs.declared.task.Task.TheVariants as tasks

-- what a task unfolds into; a task that makes an occurrence, or begins or ends a round, into nothing
abbrev pub unfolded : Cluster → Task → List Task
unfolded cluster (tasks.Exchanges lane topic act) = exchange_tasks (lane_at cluster lane).wire lane topic act
unfolded cluster (tasks.Sorts lane topic from last) = sort_tasks (lane_at cluster lane).wire lane topic from last
unfolded cluster (tasks.Hands lane topic from) = hand_tasks (lane_at cluster lane).wire lane topic from
unfolded cluster (tasks.Notices lane) = notice_tasks (lane_at cluster lane) lane
unfolded cluster tasks.Settles = settling_tasks cluster
unfolded cluster (tasks.Turns lane) = turn_tasks cluster lane
unfolded cluster (tasks.Empties lane) = empty_tasks (lane_at cluster lane) lane
unfolded cluster (tasks.Tries lane client times) = try_tasks (session_at cluster client) lane client times
unfolded cluster (tasks.Requests lane client times) = request_tasks (session_at cluster client) lane client times
unfolded cluster (tasks.Hears lane client times asked) = hear_tasks (session_at cluster client) lane client times asked
unfolded cluster (tasks.Commits lane client asked) =
    commit_tasks (lane_at cluster lane) (session_at cluster client) lane client asked
unfolded cluster (tasks.Hastens lane tablet) = hasten_tasks (lane_at cluster lane) lane tablet
unfolded cluster (tasks.Advances lane tablet reach) = advance_tasks (lane_at cluster lane) lane tablet reach
unfolded cluster (tasks.Reaches lane tablet reach) = reach_tasks (lane_at cluster lane) lane tablet reach
unfolded cluster (tasks.Freezes lane tablet source) = freeze_tasks (lane_at cluster lane) lane tablet source
unfolded cluster task = []
