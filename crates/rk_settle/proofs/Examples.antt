-- Worked examples: serve and settle answer a put, and advance brings a migration to its grant.
use Rattle.std.specs.Prelude.{Some, ◌≡◌, ℕ, Bool, List, [], ◌∷◌, length, refl, replicate, false, true}
use Rattle.rk_types.specs.Hashing.{hash_of}
use Rattle.rk_types.specs.Held.{spelled_of}
use Rattle.rk_types.specs.declared.call.Outcome.TheVariants.{Written}
use Rattle.rk_types.specs.declared.node.Said.TheVariants as says
use Rattle.rk_transfer.specs.declared.role.Role.TheVariants as roles
use Rattle.rk_settle.proofs.Words.{Course, Moving, Said, Task, advance, Granted, course_of, is_at_rest, serve, settle}
use Rattle.rk_entry.specs.Ends.{range_bytes, outcome_bytes, end_bytes}
use Rattle.rk_entry.specs.Entries.{spelled_all}
use Rattle.rk_entry.specs.Lists.{ends_bytes, segments_bytes}
use Rattle.rk_entry.specs.Numbers.{number_bytes}
use Rattle.rk_entry.specs.Spelling.{head_bytes, held_bytes, refused_bytes, carried_bytes, joined_bytes, body_length, front_bytes, spelled, mark_of}
use Rattle.rk_entry.specs.Texts.{key_bytes, value_bytes}
use Rattle.rk_settle.specs.Course.{error_of}
use Rattle.rk_settle.specs.declared.task.Task.TheVariants.{Begins}
use Rattle.rk_settle.specs.declared.error.SettleError.TheVariants.{Replica}
use Rattle.rk_settle.proofs.Scene.{calling, course_after, migrating, shown_of}

-- what is seen of a course for calls: what is left of it, what clients say, how many occurrences it took, and if its cluster is at rest
record Answered : Type 0 where
  left : List Task
  said : List Said
  occurrences : ℕ
  rests : Bool

abbrev answered_by : Course → Answered
answered_by course =
    record { left = course.tasks; said = course.said; occurrences = length course.occurred; rests = is_at_rest course.cluster }

-- serve brings a put to its end, after nineteen occurrences: the client says the answer, and the cluster is at rest
served :
    answered_by (course_after 60 calling (serve calling 1))
    ≡ record { left = []; said = says.Reply 1 1 (Written 1) ∷ []; occurrences = 19; rests = true }
unfolding hash_of spelled_of spelled_all spelled front_bytes body_length head_bytes held_bytes refused_bytes carried_bytes joined_bytes mark_of number_bytes key_bytes value_bytes range_bytes outcome_bytes end_bytes ends_bytes segments_bytes
served = refl

-- and so does settle, after ninety-three
settled :
    answered_by (course_after 220 calling (settle calling))
    ≡ record { left = []; said = says.Reply 1 1 (Written 1) ∷ []; occurrences = 93; rests = true }
unfolding hash_of spelled_of spelled_all spelled front_bytes body_length head_bytes held_bytes refused_bytes carried_bytes joined_bytes mark_of number_bytes key_bytes value_bytes range_bytes outcome_bytes end_bytes ends_bytes segments_bytes
settled = refl

-- advance brings the migration to its grant, in seventeen occurrences in each lane: no task is left, the rows move, and the targets answer
-- calls
granted :
    shown_of (course_after 500 migrating (advance migrating 1 Granted))
    ≡ record {
      left = 0;
      occurrences = 136;
      phases = replicate 8 (Moving 1 0 2 0 ∷ []);
      targets = replicate 8 roles.Receiving;
    }
unfolding hash_of spelled_of spelled_all spelled front_bytes body_length head_bytes held_bytes refused_bytes carried_bytes joined_bytes mark_of number_bytes key_bytes value_bytes range_bytes outcome_bytes end_bytes ends_bytes segments_bytes
granted = refl

-- if replicas have failed in a hundred rounds, no further round begins
limit_stops : error_of (record (course_of calling (Begins ∷ [])) { faults = 100 }) ≡ Some (Replica 100)
limit_stops = refl
