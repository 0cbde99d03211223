-- What a run of the program says, by the words after its name.
use Rattle.std.specs.Prelude.{◌≡◌, List, ℕ, Option, codes, ⊤}
use Rattle.std.specs.Io.KnownBytes.{Appends}
use Rattle.rk_types.specs.declared.status.Status.{Status}
use Rattle.rk_types.specs.declared.status.Status.TheVariants.{Audit, Done, NoMemory, Refused, Usage, Worn, WriteFault}
use Rattle.rk_outside.specs.Parts.{AppendsPart}
use Rattle.rk_outside.specs.Segments.{Segments}
use Rattle.rk_cluster.specs.Fresh.{AreEmpty}
use Rattle.rk_cluster.specs.Replicas.{Fate}
use Rattle.rk_drive.specs.Outcomes.{Drives, EndsDone}
use Rattle.rk_drive.specs.declared.plan.Plan.{Plan}
use Rattle.rk_script.specs.Script.{script_of}
use Rattle.rk_play.specs.Played.{faultless, played, played_part}
use Rattle.rk_play.specs.Runs.{MayBePart, Plays, Runs, count_of, replica_counts}
use Rattle.rk_scripts.specs.play.Alone.{IsFaultless, NoneRose}
use Rattle.rk_scripts.specs.play.Historical.{IsHistorical}
use Rattle.rk_scripts.specs.answers.Pieces.{AreAnswers, acting_in}

-- what is written if the words are none of the forms of the program
abbrev pub usage_text : List ℕ
usage_text = codes "usage: rocksteady play\nusage: rocksteady drive CLIENTS CALLS KEYS [crash M AFTER] [history]\n"

-- with wrong words the forms are written, or a part of them if the sink fails
abbrev pub Refuses : Status → Option (List ℕ) → Option (List ℕ) → Type 0
Refuses Usage old new = Appends old new usage_text
Refuses WriteFault old new = AppendsPart old new usage_text
Refuses _ old new = ⊥

-- a run of a script over replicas says what `play` says: by some fates of the calls of replicas, and for a script or for its first commands
-- alone. The replies in the text of that run are the receipts of its sessions; it is a run of the definitions from a new cluster, and so
-- has one history. If no count of a replica rose, no call of one failed, and the run is that of the script alone
pub record PlaysOneMap {R : Type 0} (segments : R → Option Segments) (faults : R → ℕ) (script : List ℕ) (status : Status) (old new : Option (List ℕ)) (before after : List R) : Type 0 where
  pub plays : Plays segments faults script status old new before after
  pub answers : AreAnswers (acting_in plays.part script) (played_part plays.part script plays.fates)
  pub historical : IsHistorical (played_part plays.part script plays.fates)
  pub alone : (status ≡ NoMemory → ⊥) → NoneRose (replica_counts faults before) (replica_counts faults after) → IsFaultless plays.fates

-- a script that is played without faults, however far, meets no code and no lane that is worn
abbrev pub IsSmooth : List ℕ → Type 0
IsSmooth script =
    (moves : List ℕ) → let it = played script (faultless moves) in (it.status ≡ Refused → ⊥) × (it.status ≡ Worn → ⊥)

-- by some fates of the calls of replicas a run of a script, or of its first commands, has this status, and its sink holds what was written,
-- in which the replies are the receipts of the sessions; it is a run of the definitions
pub record IsPlayed (script : List ℕ) (status : Status) (old new : Option (List ℕ)) : Type 0 where
  pub part : Option ℕ
  pub may : MayBePart status (count_of (script_of script)) part
  pub fates : List (List Fate)
  pub runs : Runs (played_part part script fates) status old new
  pub answers : AreAnswers (acting_in part script) (played_part part script fates)
  pub historical : IsHistorical (played_part part script fates)

-- a drive over some replicas that held nothing says what `drive` says
pub record DrivesOver {R : Type 0} (segments : R → Option Segments) (plan : Plan) (status : Status) (old new : Option (List ℕ)) : Type 0 where
  pub before : List R
  pub after : List R
  pub empty : AreEmpty segments before
  pub drives : Drives segments plan old new before after status
  pub done : status ≡ Done → EndsDone segments plan old new before after

-- how a drive may end if nothing failed
abbrev pub EndsUnfailed : Status → Type 0
EndsUnfailed Done = ⊤
EndsUnfailed Audit = ⊤
EndsUnfailed Worn = ⊤
EndsUnfailed NoMemory = ⊤
EndsUnfailed _ = ⊥
