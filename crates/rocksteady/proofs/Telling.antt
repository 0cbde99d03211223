-- A script played is one map, and is done if nothing fails.
use Rattle.std.proofs.Common.{◌≡◌, ◌⊎◌, List, ℕ, ap, sym, inl, inr, refl, ◌∙◌, arith}
use Rattle.std.specs.Prelude.{Option, None, Some, IfSome}
use Rattle.rk_types.specs.declared.status.Status.{Status}
use Rattle.rk_types.specs.declared.status.Status.TheVariants.{Audit, Done, NoMemory, ReadFault, Refused, ReplicaFault, Usage, Worn, WriteFault}
use Rattle.rk_outside.specs.Segments.{Segments}
use Rattle.rk_cluster.specs.Faults.{Counts}
use Rattle.rk_cluster.specs.Replicas.{Fate}
use Rattle.rk_settle.specs.Faults.{RoseInRounds}
use Rattle.rk_play.specs.Played.{played, played_part}
use Rattle.rk_script.specs.Script.{script_of}
use Rattle.rk_play.specs.Runs.{MayBePart, Plays, count_of, replica_counts}
use Rattle.rk_scripts.specs.play.Alone.{IsFaultless, NoneRose}
use Rattle.rk_scripts.proofs.play.Alone.{none_in_rounds, none_lost}
use Rattle.rk_scripts.proofs.play.Playing.{scripts_historical}
use Rattle.rk_scripts.proofs.answers.Playing.{script_answers}
use Rattle.rk_conclude.specs.Concluded.{MayEnd}
use Rattle.rocksteady.specs.Run.{EndsUnfailed, IsSmooth, PlaysOneMap}

-- ---- a script that meets no code and no lane that is worn

refused_never : (script : List ℕ) (part : Option ℕ) (fates : List (List Fate)) (most : ℕ) → MayBePart Refused most part → (played_part part script fates).status ≡ Refused
    → IsFaultless fates → IsSmooth script → ⊥
refused_never script None fates most may ended faultless smooth =
    (smooth faultless.moves).0 (ap (λ (it : List (List Fate)). (played script it).status) (sym faultless.are) ∙ ended)
refused_never script (Some count) fates most may ended faultless smooth = absurd may

worn_never : (script : List ℕ) (part : Option ℕ) (fates : List (List Fate)) (most : ℕ) → MayBePart Worn most part → (played_part part script fates).status ≡ Worn
    → IsFaultless fates → IsSmooth script → ⊥
worn_never script None fates most may ended faultless smooth =
    (smooth faultless.moves).1 (ap (λ (it : List (List Fate)). (played script it).status) (sym faultless.are) ∙ ended)
worn_never script (Some count) fates most may ended faultless smooth = absurd may

-- ---- a drive in which nothing failed

pub ends_unfailed : (status : Status) (before after : Counts) → MayEnd status → (status ≡ ReplicaFault → RoseInRounds 100 before after)
    → NoneRose before after → (status ≡ WriteFault → ⊥) → EndsUnfailed status
ends_unfailed Done before after may rounds none sink = tt
ends_unfailed Audit before after may rounds none sink = tt
ends_unfailed Worn before after may rounds none sink = tt
ends_unfailed NoMemory before after may rounds none sink = tt
ends_unfailed ReplicaFault before after may rounds none sink = absurd (omega (arith, none_in_rounds 100 before after (rounds refl) none))
ends_unfailed WriteFault before after may rounds none sink = absurd (sink refl)
ends_unfailed Usage before after may rounds none sink = absurd may
ends_unfailed ReadFault before after may rounds none sink = absurd may
ends_unfailed Refused before after may rounds none sink = absurd may

-- ---- a script that is played

module _ {R : Type 0} (segments : R → Option Segments) (faults : R → ℕ) (old new : Option (List ℕ)) (before after : List R) where
  none_failed : (script : List ℕ) (status : Status) (plays : Plays segments faults script status old new before after) → (status ≡ NoMemory → ⊥)
      → NoneRose (replica_counts faults before) (replica_counts faults after) → IsFaultless plays.fates
  none_failed script status plays memory none =
      none_lost plays.fates (replica_counts faults before) (replica_counts faults after) (plays.counts memory) none

  -- the answers of a run that is played are those of one map
  plays_one_map : (script : List ℕ) (status : Status) → Plays segments faults script status old new before after → PlaysOneMap segments faults script status old new before after
  plays_one_map script status plays = record {
    plays = plays;
    answers = script_answers script plays.part plays.fates;
    historical = scripts_historical script plays.part plays.fates;
    alone = λ memory none. none_failed script status plays memory none;
  }

  -- if nothing failed, a smooth script is done, or memory was wanting
  complete : (script : List ℕ) (status : Status) → Plays segments faults script status old new before after
      → (status ≡ ReplicaFault → RoseInRounds 100 (replica_counts faults before) (replica_counts faults after)) → IsSmooth script
      → NoneRose (replica_counts faults before) (replica_counts faults after) → (status ≡ ReadFault → ⊥) → (status ≡ WriteFault → ⊥) → (status ≡ Done) ⊎ (status ≡ NoMemory)
  complete script Done plays rounds smooth none read write = inl refl
  complete script NoMemory plays rounds smooth none read write = inr refl
  complete script ReadFault plays rounds smooth none read write = absurd (read refl)
  complete script WriteFault plays rounds smooth none read write = absurd (write refl)
  complete script Refused plays rounds smooth none read write =
      absurd (refused_never script plays.part plays.fates (count_of (script_of script)) plays.may plays.runs.ended (none_failed script Refused plays (λ same. absurd (cc same)) none) smooth)
  complete script Worn plays rounds smooth none read write =
      absurd (worn_never script plays.part plays.fates (count_of (script_of script)) plays.may plays.runs.ended (none_failed script Worn plays (λ same. absurd (cc same)) none) smooth)
  complete script ReplicaFault plays rounds smooth none read write =
      absurd (omega (arith, none_in_rounds 100 (replica_counts faults before) (replica_counts faults after) (rounds refl) none))
  complete script Usage plays rounds smooth none read write = absurd plays.runs
  complete script Audit plays rounds smooth none read write = absurd plays.runs

  -- so it is of the script that a source handed over
  pub one_map_told : (told : Option (List ℕ)) (status : Status) → IfSome told (λ script. Plays segments faults script status old new before after)
      → IfSome told (λ script. PlaysOneMap segments faults script status old new before after)
  one_map_told None status plays = tt
  one_map_told (Some script) status plays = plays_one_map script status plays

  pub complete_told : (told : Option (List ℕ)) (status : Status) → IfSome told (λ script. Plays segments faults script status old new before after)
      → (status ≡ ReplicaFault → RoseInRounds 100 (replica_counts faults before) (replica_counts faults after))
      → IfSome told (λ script. IsSmooth script → NoneRose (replica_counts faults before) (replica_counts faults after)
      → (status ≡ ReadFault → ⊥) → (status ≡ WriteFault → ⊥) → (status ≡ Done) ⊎ (status ≡ NoMemory))
  complete_told None status plays rounds = tt
  complete_told (Some script) status plays rounds = complete script status plays rounds
