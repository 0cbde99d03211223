-- What a command writes is a piece of text, and what clients said in it is what they said along the command's occurrences.
use Rattle.std.proofs.Common.{◌≡◌, List, [], ◌∷◌, arith, ℕ, Option, None, Some, refl, sym, ap}
use Rattle.rk_scripts.proofs.Words.{Cluster, all_acted, Fate, Course, moved, moved_all, said_along, none-some, Said, Occurrence, Acted}
use Rattle.rk_scripts.proofs.Words.{number_of, Code, course_of, error_of, SettleError, Command, Effect, Refuses, Stop, Wears, carried}
use Rattle.rk_scripts.proofs.Words.{carried_by, effect, effect_within, refused_by, settled, settled_by, shown, stop_of, dump_code}
use Rattle.rk_scripts.proofs.Words.{where_code, Piece, piece_said, piece_text}
use Rattle.rk_scripts.proofs.answers.Along.{came_said, said_joins}
use Rattle.rk_scripts.proofs.play.Moving.{IsCourseFrom, moved_from}
use Rattle.rk_lines.specs.Lines.{said_lines}
use Rattle.rk_play.specs.Effects.{ending_at, writing}
use Rattle.rk_scripts.specs.answers.Pieces.{Dump, History, IsPieceOf, Says, Where}
use Rattle.rk_scripts.proofs.play.Kinds.{effect_by, within_by}

-- What clients said in the course of a settling command is what they said along all that occurred in it.

-- what clients said in a course is what they said along all that occurred in it
abbrev pub IsCourseSaid : Cluster → Course → Type 0
IsCourseSaid start course = course.said ≡ said_along start course.occurred

-- it stays so at a move; the tasks of a course have no name outside their crate, so it is `grind` that goes through them
moved_said : (start : Cluster) (course : Course) (fate : Fate) → IsCourseFrom start course → IsCourseSaid start course
    → IsCourseSaid start (moved course fate)
moved_said start course fate from says = grind (arith, all_acted, came_said, said_along, said_joins)

-- and at all of them
pub all_moved_said : (start : Cluster) (course : Course) (fates : List Fate) → IsCourseFrom start course → IsCourseSaid start course
    → IsCourseSaid start (moved_all course fates)
all_moved_said start course [] from says = says
all_moved_said start course (fate ∷ fates) from says =
    all_moved_said start (moved course fate) fates (moved_from start course fate from) (moved_said start course fate from says)

-- a command that has not stopped has written its piece, in which clients said what they did at its occurrences
pub record HasWritten (command : Command) (start : Cluster) (it : Effect) : Type 0 where
  pub piece : Piece
  pub text : it.text ≡ piece_text piece
  pub said : piece_said piece ≡ said_along start it.occurred
  pub of : IsPieceOf command start it.occurred piece

-- a command that has not stopped has written a piece; at a command that is refused nothing occurred
pub record IsWriting (command : Command) (start : Cluster) (it : Effect) : Type 0 where
  pub written : it.stop ≡ None → HasWritten command start it
  pub refused : (code : ℕ) → it.stop ≡ Some (Refuses code) → it.occurred ≡ []

module _ (cluster : Cluster) where
  -- a command writes what clients say
  abbrev OnlySays : Command → Type 0
  OnlySays command = (occurred : List Occurrence) (said : List Said) → said ≡ said_along cluster occurred → IsPieceOf command cluster occurred (Says said)

  as_said : (occurred : List Occurrence) (said : List Said) → said ≡ said_along cluster occurred → Says said ≡ Says (said_along cluster occurred)
  as_said occurred said is = ap Says is

  module _ (command : Command) where
    -- a command that writes a piece
    writes : (text : List ℕ) (next : Cluster) (occurred : List Occurrence) → HasWritten command cluster (writing text next occurred)
        → IsWriting command cluster (writing text next occurred)
    writes text next occurred has = record { written = λ none. has; refused = λ code is. absurd (none-some (Refuses code) is) }

    -- a command that stops, and not for a code
    stops : (stop : Stop) (next : Cluster) (occurred : List Occurrence) → ((code : ℕ) → stop ≡ Refuses code → ⊥)
        → IsWriting command cluster (ending_at stop next occurred)
    stops stop next occurred other = record {
      written = λ none. absurd (none-some stop (sym none));
      refused = λ code is. absurd (other code (cc is));
    }

    -- a command that stops for a code
    refuses : (code : Code) → IsWriting command cluster (refused_by code cluster)
    refuses code = record { written = λ none. absurd (none-some (Refuses (number_of code)) (sym none)); refused = λ number is. refl }

    -- ---- commands that make events

    carried_writes_by : OnlySays command → (occurrences : List Occurrence) (worn : Option ℕ) → (all_acted cluster occurrences).worn ≡ worn
        → IsWriting command cluster (carried_by (all_acted cluster occurrences) worn)
    carried_writes_by only occurrences None none =
        let it : Acted = all_acted cluster occurrences in
        writes (said_lines it.said) it.cluster it.came
        (record { piece = Says it.said; text = refl; said = came_said cluster occurrences; of = only it.came it.said (came_said cluster occurrences) })
    carried_writes_by only occurrences (Some number) is =
        stops (Wears number) (all_acted cluster occurrences).cluster (all_acted cluster occurrences).came (λ code same. absurd (cc same))

    carried_writes : OnlySays command → (code : Option Code) (occurrences : List Occurrence) → IsWriting command cluster (carried cluster code occurrences)
    carried_writes only (Some code) occurrences = refuses code
    carried_writes only None occurrences = carried_writes_by only occurrences (all_acted cluster occurrences).worn refl

    -- ---- commands that settle

    -- none of them stops for a code
    settling_refuses_none : (error : Option SettleError) (code : ℕ) → stop_of error ≡ Refuses code → ⊥
    settling_refuses_none (Some (SettleError.Worn number)) code same = absurd (cc same)
    settling_refuses_none _ code same = absurd (cc same)

    settled_writes_by : {Task : Type 0} → OnlySays command → (course : Course) (left : List Task) → IsCourseSaid cluster course
        → IsWriting command cluster (settled_by course left)
    settled_writes_by only course [] says = writes (said_lines course.said) course.cluster course.occurred
        (record { piece = Says course.said; text = refl; said = says; of = only course.occurred course.said says })
    settled_writes_by only course (task ∷ left) says =
        stops (stop_of (error_of course)) course.cluster course.occurred (settling_refuses_none (error_of course))

    -- with a course that begins here
    settled_writes : OnlySays command → (code : Option Code) (course : Course) (fates : List Fate)
        → IsCourseFrom cluster course → IsCourseSaid cluster course → IsWriting command cluster (settled cluster code (moved_all course fates))
    settled_writes only (Some code) course fates from says = refuses code
    settled_writes only None course fates from says =
        settled_writes_by only (moved_all course fates) (moved_all course fates).tasks (all_moved_said cluster course fates from says)

    -- ---- commands that show something

    shown_writes : (code : Option Code) (piece : Piece) → piece_said piece ≡ [] → IsPieceOf command cluster [] piece
        → IsWriting command cluster (shown cluster code (piece_text piece))
    shown_writes (Some code) piece none of = refuses code
    shown_writes None piece none of = writes (piece_text piece) cluster [] (record { piece = piece; text = refl; said = none; of = of })

  -- ---- all commands

  effect_writes : (command : Command) (fates : List Fate) → IsWriting command cluster (effect cluster command fates)
  effect_writes (Command.Where tablet) fates = grind (arith, where_code)
  effect_writes (Command.Dump tablet) fates = shown_writes (Command.Dump tablet) (dump_code cluster tablet) (Dump cluster tablet) refl (refl, refl)
  effect_writes Command.History fates = shown_writes Command.History None (History cluster) refl (refl, refl)
  effect_writes command fates = effect_by cluster fates (IsWriting command cluster) (refuses command) (carried_writes command as_said)
      (λ code tasks. settled_writes command as_said code (course_of cluster tasks) fates refl refl) command (λ shows. absurd shows)

-- each command, also if the cluster is full
pub within_writes : (cluster : Cluster) (command : Command) (fates : List Fate)
    → IsWriting command cluster (effect_within cluster command fates)
within_writes cluster command fates =
    within_by cluster fates (IsWriting command cluster) (refuses cluster command) command (effect_writes cluster command fates)
