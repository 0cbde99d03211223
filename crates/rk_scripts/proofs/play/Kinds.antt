-- What a command makes of a cluster, by the kinds of commands: what is so of each kind is so of each command.
use Rattle.std.proofs.Common.{true, false, ℕ, List, Option, None, if◌then◌else◌}
use Rattle.rk_scripts.proofs.Words.{Cluster, Occurrence, Fate, Code, Limit, TooLate, advance, advance_code, priority, priority_code, serve}
use Rattle.rk_scripts.proofs.Words.{serve_code, settle, course_of, moved_all, Command, Effect, carried, effect, effect_within, is_full}
use Rattle.rk_scripts.proofs.Words.{only_fate, refused_by, settled, shown, dump_code, dump_text, where_code, where_text}
use Rattle.rk_cluster.specs.Codes as codes
use Rattle.rk_cluster.specs.Makes as makes
use Rattle.rk_play.specs.Shows.{history_text}
use Rattle.rk_scripts.proofs.settle.Tasks.{Task}

-- a command that shows something
abbrev pub IsShowing : Command → Type 0
IsShowing (Command.Where tablet) = Unit {0}
IsShowing (Command.Dump tablet) = Unit {0}
IsShowing Command.History = Unit {0}
IsShowing command = ⊥

-- something of what is made
module _ (cluster : Cluster) (fates : List Fate) (P : Effect → Type 0) (refuses : (code : Code) → P (refused_by code cluster)) where
  -- also if the cluster is full
  pub within_by : (command : Command) → P (effect cluster command fates) → P (effect_within cluster command fates)
  within_by command is =
      elim (is_full cluster) as (λ b. P (if b then refused_by Limit cluster else effect cluster command fates)) [
        | true ↦ refuses Limit
        | false ↦ is
      ]

  module _ (carries : (code : Option Code) (list : List Occurrence) → P (carried cluster code list))
      (settles : (code : Option Code) (tasks : List Task) → P (settled cluster code (moved_all (course_of cluster tasks) fates))) where
    pub effect_by : (command : Command) → (IsShowing command → (code : Option Code) (text : List ℕ) → P (shown cluster code text))
        → P (effect cluster command fates)
    effect_by (Command.Table table master) shows = carries (codes.table_code cluster table master) (makes.table_makes cluster table master)
    effect_by (Command.Client client) shows = carries (codes.client_code cluster client) (makes.client_makes cluster client)
    effect_by (Command.Call client table key op) shows = carries (codes.call_code cluster client table) (makes.call_makes client table key op)
    effect_by (Command.Serve client) shows = settles (serve_code cluster client) (serve cluster client)
    effect_by (Command.Repeat client) shows = carries (codes.again_code cluster client) (makes.again_makes cluster client)
    effect_by (Command.Migrate tablet master) shows =
        carries (codes.migrate_code cluster tablet master) (makes.migrate_makes cluster tablet master)
    effect_by (Command.Advance tablet reach) shows = settles (advance_code cluster tablet reach) (advance cluster tablet reach)
    effect_by (Command.Priority tablet) shows = settles (priority_code cluster tablet) (priority cluster tablet)
    effect_by (Command.Split tablet hash) shows = carries (codes.split_code cluster tablet hash) (makes.split_makes cluster tablet hash)
    effect_by (Command.Turn lane) shows = carries None (makes.turn_makes cluster lane)
    effect_by (Command.Deliver lane place) shows =
        carries (codes.place_code cluster lane place) (makes.deliver_makes cluster lane place (only_fate fates))
    effect_by (Command.Forget lane place) shows = carries (codes.place_code cluster lane place) (makes.forget_makes cluster lane place)
    effect_by (Command.Crash master) shows = carries (codes.crash_code cluster master) (makes.crash_makes cluster master)
    effect_by (Command.Notice master) shows = carries (codes.notice_code cluster master) (makes.notice_makes cluster master)
    effect_by Command.Settle shows = settles None (settle cluster)
    effect_by (Command.Where tablet) shows = shows tt (where_code cluster tablet) (where_text cluster tablet)
    effect_by (Command.Dump tablet) shows = shows tt (dump_code cluster tablet) (dump_text cluster tablet)
    effect_by Command.History shows = shows tt None (history_text cluster)
    effect_by command shows = refuses TooLate

    -- each command, also if the cluster is full
    pub command_by : ((code : Option Code) (text : List ℕ) → P (shown cluster code text)) → (command : Command) → P (effect_within cluster command fates)
    command_by shows command = within_by command (effect_by command (λ some. shows))
