-- What a command of a script makes of a cluster: the text that it writes, the cluster after it, what occurred, and why the run ends there,
-- if it does. `fates` is what becomes of the calls of replicas: one for each move of a command that settles, and one for a delivery.
use Rattle.std.specs.Prelude.{ℕ, ◌||◌, Bool, nat_le, List, [], ◌∷◌, map, sum, Option, Some, None, if◌then◌else◌, unwrap_or, slice_get}
use Rattle.rk_message.specs.Wire.{bytes_on}
use Rattle.rk_ledger.specs.Values.{value_bytes}
use Rattle.rk_world.specs.Cluster.{Cluster, Occurrence}
use Rattle.rk_cluster.specs.Acted.{Acted, all_acted}
use Rattle.rk_cluster.specs.Codes as codes
use Rattle.rk_cluster.specs.Makes as makes
use Rattle.rk_cluster.specs.Numbers.{number_of}
use Rattle.rk_cluster.specs.Replicas.{Fate, Kept}
use Rattle.rk_cluster.specs.declared.code.Code.{Code}
use Rattle.rk_cluster.specs.declared.code.Code.TheVariants.{Limit, TooLate}
use Rattle.rk_settle.specs.Advance.{advance}
use Rattle.rk_settle.specs.Codes.{advance_code, priority_code, serve_code}
use Rattle.rk_settle.specs.Course.{Course, course_of, error_of, moved_all}
use Rattle.rk_settle.specs.Priority.{priority}
use Rattle.rk_settle.specs.Serve.{serve}
use Rattle.rk_settle.specs.Settle.{settle}
use Rattle.rk_settle.specs.declared.error.SettleError.{SettleError}
use Rattle.rk_settle.specs.declared.error.SettleError.TheVariants as errors
use Rattle.rk_script.specs.declared.command.Command.{Command}
use Rattle.rk_script.specs.declared.command.Command.TheVariants as commands
use Rattle.rk_lines.specs.Lines.{said_lines}
use Rattle.rk_play.specs.Shows.{dump_code, dump_text, history_text, where_code, where_text}

-- why a run ends at a command: a code refuses it, a number of a lane is worn, or replicas failed in so many rounds; or it is not over after
-- so many moves
pub data Stop : Type 0 where
  Refuses : (code : ℕ) → Stop
  Wears : (number : ℕ) → Stop
  Fails : (rounds : ℕ) → Stop
  Pauses : Stop

-- what a command has come to; one at which the run ends writes nothing
pub record Effect : Type 0 where
  pub text : List ℕ
  pub cluster : Cluster
  pub occurred : List Occurrence
  pub stop : Option Stop

-- a command has written this
abbrev pub writing : List ℕ → Cluster → List Occurrence → Effect
writing text cluster occurred = record { text = text; cluster = cluster; occurred = occurred; stop = None }

-- the run ends at a command
abbrev pub ending_at : Stop → Cluster → List Occurrence → Effect
ending_at stop cluster occurred = record { text = []; cluster = cluster; occurred = occurred; stop = Some stop }

-- a code refuses a command, which changes nothing
abbrev pub refused_by : Code → Cluster → Effect
refused_by code cluster = ending_at (Refuses (number_of code)) cluster []

-- what events have made, unless one met a lane that is worn
abbrev pub carried_by : Acted → Option ℕ → Effect
carried_by after None = writing (said_lines after.said) after.cluster after.came
carried_by after (Some number) = ending_at (Wears number) after.cluster after.came

-- a command that makes events, unless a code refuses it
abbrev pub carried : Cluster → Option Code → List Occurrence → Effect
carried cluster (Some code) occurrences = refused_by code cluster
carried cluster None occurrences =
    let after = all_acted cluster occurrences in carried_by after after.worn

-- why a settling command stopped
abbrev pub stop_of : Option SettleError → Stop
stop_of (Some (errors.Worn number)) = Wears number
stop_of (Some (errors.Replica rounds)) = Fails rounds
stop_of error = Pauses

-- what a settling command has made, once no task is left
abbrev pub settled_by : {Task : Type 0} → Course → List Task → Effect
settled_by course [] = writing (said_lines course.said) course.cluster course.occurred
settled_by course (task ∷ left) = ending_at (stop_of (error_of course)) course.cluster course.occurred

-- a settling command, unless a code refuses it
abbrev pub settled : Cluster → Option Code → Course → Effect
settled cluster (Some code) course = refused_by code cluster
settled cluster None course = settled_by course course.tasks

-- a command that shows something, unless a code refuses it
abbrev pub shown : Cluster → Option Code → List ℕ → Effect
shown cluster (Some code) text = refused_by code cluster
shown cluster None text = writing text cluster []

-- what becomes of the one call of a replica that a delivery may make
abbrev pub only_fate : List Fate → Fate
only_fate fates = unwrap_or (slice_get fates 0) Kept

-- what a command makes of a cluster; how many masters and backups there are is no longer to be said
abbrev pub effect : Cluster → Command → List Fate → Effect
effect cluster (commands.Masters masters) fates = refused_by TooLate cluster
effect cluster (commands.Backups backups) fates = refused_by TooLate cluster
effect cluster (commands.Table table master) fates =
    carried cluster (codes.table_code cluster table master) (makes.table_makes cluster table master)
effect cluster (commands.Client client) fates =
    carried cluster (codes.client_code cluster client) (makes.client_makes cluster client)
effect cluster (commands.Call client table key op) fates =
    carried cluster (codes.call_code cluster client table) (makes.call_makes client table key op)
effect cluster (commands.Serve client) fates =
    settled cluster (serve_code cluster client) (moved_all (course_of cluster (serve cluster client)) fates)
effect cluster (commands.Repeat client) fates =
    carried cluster (codes.again_code cluster client) (makes.again_makes cluster client)
effect cluster (commands.Migrate tablet master) fates =
    carried cluster (codes.migrate_code cluster tablet master) (makes.migrate_makes cluster tablet master)
effect cluster (commands.Advance tablet reach) fates =
    settled cluster (advance_code cluster tablet reach) (moved_all (course_of cluster (advance cluster tablet reach)) fates)
effect cluster (commands.Priority tablet) fates =
    settled cluster (priority_code cluster tablet) (moved_all (course_of cluster (priority cluster tablet)) fates)
effect cluster (commands.Split tablet hash) fates =
    carried cluster (codes.split_code cluster tablet hash) (makes.split_makes cluster tablet hash)
effect cluster (commands.Turn lane) fates = carried cluster None (makes.turn_makes cluster lane)
effect cluster (commands.Deliver lane place) fates =
    carried cluster (codes.place_code cluster lane place) (makes.deliver_makes cluster lane place (only_fate fates))
effect cluster (commands.Forget lane place) fates =
    carried cluster (codes.place_code cluster lane place) (makes.forget_makes cluster lane place)
effect cluster (commands.Crash master) fates =
    carried cluster (codes.crash_code cluster master) (makes.crash_makes cluster master)
effect cluster (commands.Notice master) fates =
    carried cluster (codes.notice_code cluster master) (makes.notice_makes cluster master)
effect cluster commands.Settle fates = settled cluster None (moved_all (course_of cluster (settle cluster)) fates)
effect cluster (commands.Where tablet) fates = shown cluster (where_code cluster tablet) (where_text cluster tablet)
effect cluster (commands.Dump tablet) fates = shown cluster (dump_code cluster tablet) (dump_text cluster tablet)
effect cluster commands.History fates = shown cluster None (history_text cluster)

-- so many bytes of values in the journals, or of frames on the wires, are too many for another command
abbrev pub MOST_BYTES : ℕ
MOST_BYTES = 134217728

-- the bytes of the values in all journals
abbrev pub journal_bytes : Cluster → ℕ
journal_bytes cluster = sum (map (λ w. value_bytes w.ledger.journal) cluster.lanes)

-- the bytes of the frames on all wires
abbrev pub wire_bytes : Cluster → ℕ
wire_bytes cluster = sum (map (λ w. bytes_on w.wire) cluster.lanes)

-- whether the journals or the wires of a cluster have too many bytes for another command
abbrev pub is_full : Cluster → Bool
is_full cluster = nat_le MOST_BYTES (journal_bytes cluster) || nat_le MOST_BYTES (wire_bytes cluster)

-- what a command makes of a cluster, unless that is full
abbrev pub effect_within : Cluster → Command → List Fate → Effect
effect_within cluster command fates =
    if is_full cluster then refused_by Limit cluster else effect cluster command fates
