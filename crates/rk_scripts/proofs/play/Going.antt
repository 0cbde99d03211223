-- What occurs at each command of a script goes on with a run, and so does what occurs in a script played.
use Rattle.std.proofs.Common.{◌≡◌, ℕ, ◌<◌, List, [], ◌∷◌, Option, None, Some, arith, w32, All}
use Rattle.rk_scripts.proofs.Words.{IsNumber, Cluster, Occurrence, lane_at, LANES, number_at, all_acted, Code, Fate, advance_are}
use Rattle.rk_scripts.proofs.Words.{priority_are, serve_are, settle_are, advance, advance_code, priority_code, serve_code, Course}
use Rattle.rk_scripts.proofs.Words.{course_of, moved_all, priority, serve, settle, IsLawfulCommand, Command, Effect, carried, effect}
use Rattle.rk_scripts.proofs.Words.{effect_within, only_fate, settled, settled_by, shown, dump_code, dump_text, where_code, where_text}
use Rattle.rk_script.proofs.Widths.{HasWidths}
use Rattle.rk_scripts.proofs.play.Allowed.{IsFree, came_on, delivered_on}
use Rattle.rk_scripts.proofs.play.Calling.{call_on}
use Rattle.rk_scripts.proofs.play.Commanding.{client_allowed, forget_allowed, migrate_allowed, notice_allowed, split_allowed, table_allowed}
use Rattle.rk_scripts.proofs.play.Commanding.{turn_allowed}
use Rattle.rk_scripts.proofs.play.Coursing.{IsCoursing, all_moved_on}
use Rattle.rk_scripts.proofs.play.Crashing.{crash_on}
use Rattle.rk_scripts.proofs.play.Masters.{names_masters}
use Rattle.rk_scripts.proofs.play.Reaching.{GoesOn, IsReached, none_on}
use Rattle.rk_scripts.proofs.play.Resending.{again_on}
use Rattle.rk_scripts.proofs.play.Kinds.{within_by}
use Rattle.rk_cluster.specs.Codes as codes
use Rattle.rk_cluster.specs.Makes as makes

module _ (masters backups : ℕ) (cluster : Cluster) where
  -- what occurs at a command goes on with a run
  abbrev pub EffectGoesOn : Effect → Type 0
  EffectGoesOn it = GoesOn masters backups cluster it.occurred

  -- ---- kinds of commands

  -- a command that makes events, unless a code refuses it
  carried_on : (code : Option Code) (list : List Occurrence) → (code ≡ None → GoesOn masters backups cluster (all_acted cluster list).came) → EffectGoesOn (carried cluster code list)
  carried_on code list on = grind (arith, none_on, all_acted)

  -- one whose events are allowed at any time
  allowed_carried : (code : Option Code) (list : List Occurrence) → (IsReached masters backups cluster → code ≡ None → All (IsFree masters) list) → EffectGoesOn (carried cluster code list)
  allowed_carried code list allowed =
      carried_on code list (λ none reached. came_on masters backups cluster list (allowed reached none) reached)

  settled_by_on : {Task : Type 0} (course : Course) (left : List Task) → GoesOn masters backups cluster course.occurred → EffectGoesOn (settled_by course left)
  settled_by_on course [] on = on
  settled_by_on course (task ∷ left) on = on

  -- a command that settles, with a course that begins here
  settled_on : (code : Option Code) (course : Course) (fates : List Fate) → ((reached : IsReached masters backups cluster) → IsCoursing masters backups cluster reached course)
      → EffectGoesOn (settled cluster code (moved_all course fates))
  settled_on (Some code) course fates begins = none_on masters backups cluster
  settled_on None course fates begins = settled_by_on (moved_all course fates) (moved_all course fates).tasks
      (λ reached. (all_moved_on masters backups cluster reached course fates (begins reached)).run)

  -- the message at a place of a wire is delivered
  deliver_on : (lane : ℕ) → lane < LANES → (fate : Fate) (found : Option ℕ) → GoesOn masters backups cluster (all_acted cluster (makes.deliver_by cluster lane fate found)).came
  deliver_on lane inside fate None = none_on masters backups cluster
  deliver_on lane inside fate (Some number) = delivered_on masters backups cluster lane number fate inside

  -- a command that shows something
  shown_on : (code : Option Code) (text : List ℕ) → EffectGoesOn (shown cluster code text)
  shown_on (Some code) text = none_on masters backups cluster
  shown_on None text = none_on masters backups cluster

  -- ---- each command

  effect_on : (command : Command) (fates : List Fate) → IsLawfulCommand command → HasWidths command → EffectGoesOn (effect cluster command fates)
  effect_on (Command.Table table master) fates lawful widths = search (allowed_carried, table_allowed, lawful.0)
  effect_on (Command.Client client) fates lawful widths =
      let number : IsNumber w32 1 client = record { least_is = lawful; fits = omega (arith, widths) } in
      allowed_carried (codes.client_code cluster client) (makes.client_makes cluster client)
      (λ reached none. client_allowed masters backups cluster reached client number)
  effect_on (Command.Call client table key op) fates lawful widths = search (carried_on, call_on, widths.0, widths.1, widths.2)
  effect_on (Command.Serve client) fates lawful widths = grind (arith, settled_on, serve_code, course_of, serve, serve_are, names_masters)
  effect_on (Command.Repeat client) fates lawful widths = grind (arith, carried_on, again_on)
  effect_on (Command.Migrate tablet master) fates lawful widths = search (allowed_carried, migrate_allowed)
  effect_on (Command.Advance tablet reach) fates lawful widths =
      grind (arith, settled_on, advance_code, course_of, advance, advance_are, names_masters)
  effect_on (Command.Priority tablet) fates lawful widths =
      grind (arith, settled_on, priority_code, course_of, priority, priority_are, names_masters)
  effect_on (Command.Split tablet hash) fates lawful widths = search (allowed_carried, split_allowed)
  effect_on (Command.Turn lane) fates lawful widths = search (allowed_carried, turn_allowed)
  effect_on (Command.Deliver lane place) fates lawful widths =
      grind (arith, carried_on, only_fate, deliver_on, number_at, lane_at, lawful.0)
  effect_on (Command.Forget lane place) fates lawful widths = grind (arith, allowed_carried, forget_allowed, lawful.0)
  effect_on (Command.Crash master) fates lawful widths = grind (arith, carried_on, crash_on)
  effect_on (Command.Notice master) fates lawful widths = search (allowed_carried, notice_allowed)
  effect_on Command.Settle fates lawful widths = search (settled_on, course_of, settle, settle_are, names_masters)
  effect_on (Command.Where tablet) fates lawful widths = shown_on (where_code cluster tablet) (where_text cluster tablet)
  effect_on (Command.Dump tablet) fates lawful widths = shown_on (dump_code cluster tablet) (dump_text cluster tablet)
  effect_on _ fates lawful widths = none_on masters backups cluster

  -- also if the cluster is full
  pub within_on : (command : Command) (fates : List Fate) → IsLawfulCommand command → HasWidths command → EffectGoesOn (effect_within cluster command fates)
  within_on command fates lawful widths =
      within_by cluster fates EffectGoesOn (λ code. none_on masters backups cluster) command (effect_on command fates lawful widths)
