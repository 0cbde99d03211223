-- If no call of a replica fails, the script alone decides a run: moves that are left once a command is over, or stops, change nothing.
use Rattle.std.proofs.Common.{◌≡◌, ℕ, zero, suc, ◌+◌, List, [], ◌∷◌, ◌++◌, replicate, Option, None, Some, refl, sym, ap, subst, ◌∙◌, arith}
use Rattle.rk_scripts.proofs.Words.{none-some, NoMemory, Cluster, Fate, Kept, Code, advance, advance_code, priority_code, serve_code}
use Rattle.rk_scripts.proofs.Words.{Course, course_of, error_of, moved, moved_all, moved_by, priority, serve, settle, Command, Numbered}
use Rattle.rk_scripts.proofs.Words.{Effect, Pauses, Stop, carried, effect, effect_within, is_full, only_fate, refused_by, settled}
use Rattle.rk_scripts.proofs.Words.{settled_by, Played, behind, cluster_by, continued, faultless, first_fates, other_fates, played_in}
use Rattle.rk_scripts.proofs.Words.{played_part, replicate-append-replicate}
use Rattle.rk_settle.proofs.Lossless.{stands_still}
use Rattle.rk_scripts.proofs.play.Openings.{opening}
use Rattle.rk_cluster.specs.Codes as codes
use Rattle.rk_cluster.specs.Makes as makes

-- ---- moves that are left

-- a move leaves a course as it is
abbrev Stands : Course → Type 0
Stands course = moved course Kept ≡ course

-- an effect that does not pause
abbrev IsOver : Effect → Type 0
IsOver it = it.stop ≡ Some Pauses → ⊥

over_by : {T : Type 0} (course : Course) (left : List T) → (left ≡ [] → Stands course) → IsOver (settled_by course left) → Stands course
over_by course left none over = grind (arith, error_of, stands_still)

-- also if no task is left
none_left : (course : Course) → course.tasks ≡ [] → Stands course
none_left course is = ap (moved_by course Kept) is

stands_on : (course : Course) (count : ℕ) → Stands course → moved_all course (replicate count Kept) ≡ course
stands_on course zero stands = refl
stands_on course (suc count) stands = ap (λ (next : Course). moved_all next (replicate count Kept)) stands ∙ stands_on course count stands

joined : (course : Course) (first : ℕ) (rest : List Fate) → moved_all course (replicate first Kept ++ rest) ≡ moved_all (moved_all course (replicate first Kept)) rest
joined course zero rest = refl
joined course (suc first) rest = joined (moved course Kept) first rest

moves_join : (course : Course) (first second : ℕ) → moved_all course (replicate (first + second) Kept) ≡ moved_all (moved_all course (replicate first Kept)) (replicate second Kept)
moves_join course first second =
    ap (moved_all course) (sym (replicate-append-replicate first second Kept)) ∙ joined course first (replicate second Kept)

-- more moves change nothing
longer_same : (course : Course) (first second : ℕ) → Stands (moved_all course (replicate first Kept))
    → moved_all course (replicate (first + second) Kept) ≡ moved_all course (replicate first Kept)
longer_same course first second stands = moves_join course first second ∙ stands_on (moved_all course (replicate first Kept)) second stands

both_same : (course : Course) (first second : ℕ) → Stands (moved_all course (replicate first Kept)) → Stands (moved_all course (replicate second Kept))
    → moved_all course (replicate first Kept) ≡ moved_all course (replicate second Kept)
both_same course first second one two =
    let turned : first + second ≡ second + first = omega arith in
    sym (longer_same course first second one) ∙ ap (λ (count : ℕ). moved_all course (replicate count Kept)) turned ∙ longer_same course second first two

-- ---- commands

-- the one fate of so many is that the call goes well
pub only_kept : (count : ℕ) → only_fate (replicate count Kept) ≡ Kept
only_kept zero = refl
only_kept (suc count) = refl

module _ (cluster : Cluster) (first second : ℕ) where
  -- it comes to the same with either count of moves, if neither pauses
  abbrev Same : (ℕ → Effect) → Type 0
  Same makes = IsOver (makes first) → IsOver (makes second) → makes first ≡ makes second

  settled_same : (code : Option Code) (course : Course) → Same (λ count. settled cluster code (moved_all course (replicate count Kept)))
  settled_same code course one two = grind (arith, moved_all, settled_by, both_same, over_by, none_left)

  effect_same : (command : Command) → Same (λ count. effect cluster command (replicate count Kept))
  effect_same (Command.Serve client) one two = settled_same (serve_code cluster client) (course_of cluster (serve cluster client)) one two
  effect_same (Command.Advance tablet reach) one two = grind (arith, settled_same, advance_code, course_of, advance)
  effect_same (Command.Priority tablet) one two = settled_same (priority_code cluster tablet) (course_of cluster (priority cluster tablet)) one two
  effect_same Command.Settle one two = settled_same None (course_of cluster (settle cluster)) one two
  effect_same (Command.Deliver lane place) one two = grind (arith, carried, only_kept)
  effect_same command one two = refl

  within_same : (command : Command) → Same (λ count. effect_within cluster command (replicate count Kept))
  within_same command = grind (arith, is_full, refused_by, effect, effect_same)

-- ---- a run

-- memory was not wanting
abbrev Ended : Played → Type 0
Ended it = it.status ≡ NoMemory → ⊥

abbrev pub first_moves : List ℕ → ℕ
first_moves [] = 0
first_moves (count ∷ moves) = count

abbrev pub other_moves : List ℕ → List ℕ
other_moves [] = []
other_moves (count ∷ moves) = moves

pub first_are : (moves : List ℕ) → first_fates (faultless moves) ≡ replicate (first_moves moves) Kept
first_are [] = refl
first_are (count ∷ moves) = refl

pub others_are : (moves : List ℕ) → other_fates (faultless moves) ≡ faultless (other_moves moves)
others_are [] = refl
others_are (count ∷ moves) = refl

-- a command that pauses ends a run for want of memory
pauses_not : (line : ℕ) (it : Effect) (stop : Option Stop) (rest : Cluster → Played) → Ended (continued line it stop rest) → stop ≡ Some Pauses → ⊥
pauses_not line it stop rest ended is = grind (arith, none-some)

continued_same : (line : ℕ) (it : Effect) (stop : Option Stop) (rest other : Cluster → Played) → Ended (continued line it stop rest) → Ended (continued line it stop other)
    → (Ended (rest it.cluster) → Ended (other it.cluster) → rest it.cluster ≡ other it.cluster) → continued line it stop rest ≡ continued line it stop other
continued_same line it (Some stop) rest other one two later = refl
continued_same line it None rest other one two later = ap (behind (it.text ∷ []) it.occurred) (later one two)

-- a run without a loss, with so many moves for each command
abbrev kept_in : List Numbered → List ℕ → Cluster → Played
kept_in all moves cluster = played_in all (faultless moves) cluster

first_effect : (cluster : Cluster) (command : Command) (moves : List ℕ)
    → effect_within cluster command (first_fates (faultless moves)) ≡ effect_within cluster command (replicate (first_moves moves) Kept)
first_effect cluster command moves = ap (effect_within cluster command) (first_are moves)

-- the commands behind the first one
later_same : (others : List Numbered) (a b : List ℕ) (next : Cluster)
    → (Ended (kept_in others (other_moves a) next) → Ended (kept_in others (other_moves b) next) → kept_in others (other_moves a) next ≡ kept_in others (other_moves b) next)
    → Ended (played_in others (other_fates (faultless a)) next) → Ended (played_in others (other_fates (faultless b)) next)
    → played_in others (other_fates (faultless a)) next ≡ played_in others (other_fates (faultless b)) next
later_same others a b next same = grind (arith, played_in, other_fates, faultless, others_are)

in_same : (all : List Numbered) (a b : List ℕ) (cluster : Cluster) → Ended (kept_in all a cluster) → Ended (kept_in all b cluster) → kept_in all a cluster ≡ kept_in all b cluster
in_same [] a b cluster one two = refl
in_same (first ∷ others) a b cluster one two =
    let it : Effect = effect_within cluster first.command (first_fates (faultless a)) in
    let its : Effect = effect_within cluster first.command (first_fates (faultless b)) in
    let rest : Cluster → Played = λ next. played_in others (other_fates (faultless a)) next in
    let other : Cluster → Played = λ next. played_in others (other_fates (faultless b)) next in
    let over : IsOver it = pauses_not first.line it it.stop rest one in
    let over_its : IsOver its = pauses_not first.line its its.stop other two in
    let same : it ≡ its =
    first_effect cluster first.command a ∙ within_same cluster (first_moves a) (first_moves b) first.command
    (subst IsOver (first_effect cluster first.command a) over) (subst IsOver (first_effect cluster first.command b) over_its)
    ∙ sym (first_effect cluster first.command b) in
    continued_same first.line it it.stop rest other one (subst (λ (e : Effect). Ended (continued first.line e e.stop other)) (sym same) two)
    (later_same others a b it.cluster (in_same others (other_moves a) (other_moves b) it.cluster))
    ∙ ap (λ (e : Effect). continued first.line e e.stop other) same

-- ---- from the start

-- two runs are the same, if memory was wanting in neither
abbrev AreSame : Played → Played → Type 0
AreSame it other = Ended it → Ended other → it ≡ other

pub alone_decides : (script : List ℕ) (part : Option ℕ) (a b : List ℕ) → AreSame (played_part part script (faultless a)) (played_part part script (faultless b))
alone_decides script part a b =
    opening (λ left one other. AreSame one other) (faultless a) (faultless b) (λ left line code setting may one two. refl) (λ setting may one two. refl)
    (λ left setting may lawful widths. in_same left a b (cluster_by setting)) script part
