-- A script played: what is written, piece by piece, how the run ends, and the cluster then. Beside the script it is known from what becomes
-- of the calls of replicas, a list of fates for each command.
use Rattle.std.specs.Prelude.{ℕ, List, [], ◌∷◌, ◌++◌, Option, Some, None, is_some, Result, Ok, Err, map, replicate, take, unwrap_or, if◌then◌else◌}
use Rattle.std.specs.List.{concat}
use Rattle.rk_types.specs.declared.status.Status.{Status}
use Rattle.rk_types.specs.declared.status.Status.TheVariants.{Done, NoMemory, Refused, ReplicaFault, Worn}
use Rattle.rk_world.specs.Cluster.{Cluster, Occurrence, new_cluster}
use Rattle.rk_cluster.specs.Numbers.{number_of}
use Rattle.rk_cluster.specs.Replicas.{Fate, Kept}
use Rattle.rk_cluster.specs.declared.code.Code.TheVariants.{TooLate}
use Rattle.rk_script.specs.Codes.{code_number}
use Rattle.rk_script.specs.Script.{script_of}
use Rattle.rk_script.specs.declared.command.Command.{Command}
use Rattle.rk_script.specs.declared.command.Command.TheVariants as commands
use Rattle.rk_script.specs.declared.command.Numbered.{Numbered}
use Rattle.rk_script.specs.declared.script.ParseError.{ParseError}
use Rattle.rk_script.specs.declared.script.ParseError.TheVariants as faults
use Rattle.rk_lines.specs.Lines.{refused_line}
use Rattle.rk_play.specs.Effects.{Effect, Fails, Pauses, Refuses, Stop, Wears, effect_within}

-- a run: one piece of text for each command that acted, and behind them the refusal, if it is refused; its status; the cluster at its
-- end, and what occurred from the start on
pub record Played : Type 0 where
  pub pieces : List (List ℕ)
  pub status : Status
  pub cluster : Cluster
  pub occurred : List Occurrence

-- the whole text
abbrev pub text_of : Played → List ℕ
text_of played = concat played.pieces

-- a run that had written these pieces before, after this had occurred
abbrev pub behind : List (List ℕ) → List Occurrence → Played → Played
behind pieces occurred played =
    record played { pieces = pieces ++ played.pieces; occurred = occurred ++ played.occurred }

-- a run that ends without a word
abbrev pub ending : Status → Cluster → Played
ending status cluster = record { pieces = []; status = status; cluster = cluster; occurred = [] }

-- a run that is refused at a line
abbrev pub refused_at : ℕ → ℕ → Cluster → Played
refused_at line code cluster =
    record { pieces = refused_line line code ∷ []; status = Refused; cluster = cluster; occurred = [] }

-- how a run stops at a line; a run that pauses has not come to an end, as when memory is wanting
abbrev pub stopped_at : ℕ → Stop → Cluster → Played
stopped_at line (Refuses code) cluster = refused_at line code cluster
stopped_at line (Wears number) cluster = ending Worn cluster
stopped_at line (Fails rounds) cluster = ending ReplicaFault cluster
stopped_at line Pauses cluster = ending NoMemory cluster

-- a run stops at a command, after what occurred there, or goes on
abbrev pub continued : ℕ → Effect → Option Stop → (Cluster → Played) → Played
continued line effect (Some stop) rest = behind [] effect.occurred (stopped_at line stop effect.cluster)
continued line effect None rest = behind (effect.text ∷ []) effect.occurred (rest effect.cluster)

-- the first of some lists of fates, and the others
abbrev pub first_fates : List (List Fate) → List Fate
first_fates [] = []
first_fates (fates ∷ others) = fates

abbrev pub other_fates : List (List Fate) → List (List Fate)
other_fates [] = []
other_fates (fates ∷ others) = others

-- numbered commands played in a cluster
abbrev pub played_in : List Numbered → List (List Fate) → Cluster → Played
played_in [] fates cluster = ending Done cluster
played_in (first ∷ others) fates cluster =
    let it = effect_within cluster first.command (first_fates fates) in
    continued first.line it it.stop (λ next. played_in others (other_fates fates) next)

-- how many masters and backups a script asks for
pub record Setting : Type 0 where
  pub masters : Option ℕ
  pub backups : Option ℕ

-- nothing was asked for yet
abbrev pub unset : Setting
unset = record { masters = None; backups = None }

-- there are two of each if a script does not say otherwise
abbrev pub how_many : Option ℕ → ℕ
how_many count = unwrap_or count 2

-- the cluster that a setting asks for
abbrev pub cluster_by : Setting → Cluster
cluster_by setting = new_cluster (how_many setting.masters) (how_many setting.backups)

-- a number is set, and the run goes on, unless it was set before
abbrev pub set_once : ℕ → Option ℕ → Setting → Played → Played
set_once line before setting rest =
    if is_some before then refused_at line (number_of TooLate) (cluster_by setting) else rest

-- a command sets a number before all others, or the cluster is made; `next` is the run behind a command that sets one, and `all` the run
-- in a cluster
abbrev pub opened_by : ℕ → Command → Setting → (Setting → Played) → (Cluster → Played) → Played
opened_by line (commands.Masters masters) setting next all =
    set_once line setting.masters setting (next (record setting { masters = Some masters }))
opened_by line (commands.Backups backups) setting next all =
    set_once line setting.backups setting (next (record setting { backups = Some backups }))
opened_by line command setting next all = all (cluster_by setting)

-- numbered commands played from a setting on
abbrev pub played_from : List Numbered → List (List Fate) → Setting → Played
played_from [] fates setting = ending Done (cluster_by setting)
played_from (first ∷ others) fates setting =
    opened_by first.line first.command setting
    (λ next. played_from others fates next) (λ cluster. played_in (first ∷ others) fates cluster)

-- commands played from the start, or a refusal before anything runs
abbrev pub played_of : Result (List Numbered) ParseError → List (List Fate) → Played
played_of (Ok commands) fates = played_from commands fates unset
played_of (Err (faults.Refused line code)) fates = refused_at line (code_number code) (cluster_by unset)
played_of (Err faults.NoMemory) fates = ending NoMemory (cluster_by unset)

-- a script played
abbrev pub played : List ℕ → List (List Fate) → Played
played script fates = played_of (script_of script) fates

-- the first commands of a script alone; none if it is refused before anything runs
abbrev pub first_commands : ℕ → Result (List Numbered) ParseError → Result (List Numbered) ParseError
first_commands count (Ok commands) = Ok (take count commands)
first_commands count (Err fault) = Ok []

-- a part of commands played, or of a refusal before anything runs: so many of the first alone, or all
abbrev pub part_of : Result (List Numbered) ParseError → Option ℕ → List (List Fate) → Played
part_of commands (Some count) fates = played_of (first_commands count commands) fates
part_of commands None fates = played_of commands fates

-- a part of a script played
abbrev pub played_part : Option ℕ → List ℕ → List (List Fate) → Played
played_part part script fates = part_of (script_of script) part fates

-- the fates of all calls of replicas, command after command
abbrev pub all_fates : List (List Fate) → List Fate
all_fates [] = []
all_fates (fates ∷ others) = fates ++ all_fates others

-- each call of a replica goes well, with as many moves as these for each command
abbrev pub faultless : List ℕ → List (List Fate)
faultless moves = map (λ count. replicate count Kept) moves
