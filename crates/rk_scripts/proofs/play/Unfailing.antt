-- If no call of a replica fails, no command stops because replicas failed.
use Rattle.std.proofs.Common.{arith, ◌≡◌, ℕ, List, [], ◌∷◌, replicate, zero, suc, Option, Some, sym, subst}
use Rattle.rk_scripts.proofs.Words.{ReplicaFault, Cluster, Occurrence, all_acted, Fate, Kept, Code, IsWell, moved_well, well_other, Course}
use Rattle.rk_scripts.proofs.Words.{course_of, error_of, moved, moved_all, SettleError, Command, Numbered, Effect, Fails, Stop, carried}
use Rattle.rk_scripts.proofs.Words.{effect_within, stop_of, Played, cluster_by, continued, faultless, first_fates, other_fates, played_in}
use Rattle.rk_scripts.proofs.Words.{played_part}
use Rattle.rk_scripts.proofs.play.Deciding.{first_are, first_moves, other_moves, others_are}
use Rattle.rk_scripts.proofs.play.Openings.{opening}
use Rattle.rk_scripts.proofs.play.Kinds.{command_by}

-- ---- courses

all_well : (course : Course) (count : ℕ) → IsWell course → IsWell (moved_all course (replicate count Kept))
all_well course zero is = is
all_well course (suc count) is = all_well (moved course Kept) count (moved_well course is)

-- a stop for replicas that failed
abbrev IsFailure : Option Stop → Type 0
IsFailure (Some (Fails rounds)) = Unit {0}
IsFailure stop = ⊥

error_other : (course : Course) (found : Option SettleError) → error_of course ≡ found → IsWell course → IsFailure (Some (stop_of found)) → ⊥
error_other course (Some (SettleError.Replica rounds)) is well fails = well_other course rounds well is
error_other course _ is well fails = fails

-- ---- commands

-- a command does not stop because replicas failed
abbrev NoFailure : Effect → Type 0
NoFailure it = IsFailure it.stop → ⊥

module _ (cluster : Cluster) where
  carried_other : (code : Option Code) (list : List Occurrence) → NoFailure (carried cluster code list)
  carried_other code list fails = grind (arith, all_acted)

  within_other : (command : Command) (count : ℕ) → NoFailure (effect_within cluster command (replicate count Kept))
  within_other command count = grind (arith, command_by, carried_other, course_of, moved_all, all_well, error_other, error_of)

-- ---- a run

-- a run does not end because replicas failed
abbrev IsUnfailing : Played → Type 0
IsUnfailing it = it.status ≡ ReplicaFault → ⊥

continued_other : (line : ℕ) (it : Effect) (stop : Option Stop) (rest : Cluster → Played) → (IsFailure stop → ⊥) → IsUnfailing (rest it.cluster) → IsUnfailing (continued line it stop rest)
continued_other line it stop rest other later is = grind arith

in_other : (all : List Numbered) (moves : List ℕ) (cluster : Cluster) → IsUnfailing (played_in all (faultless moves) cluster)
in_other [] moves cluster = λ is. absurd (cc is)
in_other (first ∷ others) moves cluster =
    let it : Effect = effect_within cluster first.command (first_fates (faultless moves)) in
    continued_other first.line it it.stop (λ next. played_in others (other_fates (faultless moves)) next)
    (subst (λ (fates : List Fate). NoFailure (effect_within cluster first.command fates)) (sym (first_are moves)) (within_other cluster first.command (first_moves moves)))
    (subst (λ (fates : List (List Fate)). IsUnfailing (played_in others fates it.cluster)) (sym (others_are moves)) (in_other others (other_moves moves) it.cluster))

pub never_fails : (script : List ℕ) (part : Option ℕ) (moves : List ℕ) → IsUnfailing (played_part part script (faultless moves))
never_fails script part moves = opening (λ left one other. IsUnfailing one) (faultless moves) (faultless moves)
    (λ left line code setting may is. absurd (cc is)) (λ setting may is. absurd (cc is))
    (λ left setting may lawful widths. in_other left moves (cluster_by setting)) script part
