-- How a run is concluded: what its status then says of the run played.
use Rattle.rk_play.proofs.Words.{◌≡◌, ◌≢◌, ℕ, ◌≤◌, List, [], ◌∷◌, ◌++◌, ◌-◌, length, take, refl, sym, ap, subst, ◌∙◌, ⊎_elim, arith}
use Rattle.rk_play.proofs.Words.{append-nil, length-append, Result, Ok, Err, concat, Appends, Keeps, Appends-kept, Appends-nil, Keeps-refl}
use Rattle.rk_play.proofs.Words.{take-append-le, take-length, Status, Done, NoMemory, Refused, ReplicaFault, Worn, WriteFault, AppendsPart}
use Rattle.rk_play.proofs.Words.{Segments, Cluster, Occurrence, Fate, ClusterState, IsOf, Numbered, ParseError, Concludes, ConcludesBy}
use Rattle.rk_play.proofs.Words.{IsWritten, MayComeTo, Pauses, Stop, HasFailed, IsHalted, Played, behind, cluster_by, ending, part_of}
use Rattle.rk_play.proofs.Words.{played_in, refused_at, stopped_at, text_of, unset, IsSent, Runs, stop_by, End, PlayError}
use Rattle.std.specs.Prelude.{Option, Some, ⊤}
use Rattle.rk_outside.proofs.PartLemmas.{AppendsPart-more}
use Rattle.rk_play.specs.Ended.{HasEndCause}
use Rattle.rk_play.specs.Reached.{IsReached}
use Rattle.rk_play.specs.Runs.{HasStatusCause}
use Rattle.rk_play.specs.declared.end.End.TheVariants as ends
use Rattle.rk_play.specs.declared.error.PlayError.TheVariants as errors
use Rattle.rk_play.proofs.Reaching.{text_behind}
use Rattle.rk_play.proofs.Sending.{sent_part, sent_rest}

-- ---- statuses

-- a run that has come to its end has this status
abbrev pub IsEnded : Status → Type 0
IsEnded Done = ⊤
IsEnded Refused = ⊤
IsEnded Worn = ⊤
IsEnded ReplicaFault = ⊤
IsEnded status = ⊥

-- its whole text was written
ended_runs : (p : Played) (status : Status) (old new : Option (List ℕ)) → IsEnded status → p.status ≡ status → Appends old new (text_of p) → Runs p status old new
ended_runs p status old new is ended written = grind arith

-- so memory was not wanting there
ended_apart : (status : Status) → IsEnded status → status ≡ NoMemory → ⊥
ended_apart status is wanting = subst IsEnded wanting is

pub stopped_ended : (line : ℕ) (error : PlayError) (cluster : Cluster) → error ≢ errors.NoMemory → IsEnded (stopped_at line (stop_by error) cluster).status
stopped_ended line errors.NoMemory cluster apart = absurd (apart refl)
stopped_ended line _ cluster apart = tt

-- ---- what is held back is written

module _ (q : Played) (pieces : List (List ℕ)) (occurred : List Occurrence) (held : List ℕ) (old mid : Option (List ℕ)) (sent : IsSent old mid pieces held) where
  pub written_runs : (status : Status) (new : Option (List ℕ)) → IsEnded q.status → IsWritten (held ++ text_of q) q.status status mid new
      → Runs (behind pieces occurred q) status old new
  written_runs status new ended is =
      let p : Played = behind pieces occurred q in
      let text : concat pieces ++ text_of q ≡ text_of p = sym (text_behind pieces occurred q) in
      ⊎_elim
      (λ (whole : (status ≡ q.status) × Appends mid new (held ++ text_of q)).
      subst (λ (it : Status). Runs p it old new) (sym whole.0)
      (ended_runs p q.status old new ended refl
      (subst (λ (it : List ℕ). Appends old new it) text (sent_rest old mid new pieces held (text_of q) sent whole.1))))
      (λ (part : (status ≡ WriteFault) × AppendsPart mid new (held ++ text_of q)).
      subst (λ (it : Status). Runs p it old new) (sym part.0)
      (record {
        ended = ended_apart q.status ended;
        written = subst (λ (it : List ℕ). AppendsPart old new it) text (sent_part old mid new pieces held (text_of q) sent part.1);
      }))
      is

-- a run that was refused before a command ran
pub refused_runs : (p : Played) (status : Status) (old new : Option (List ℕ)) → IsEnded p.status → IsWritten (text_of p) p.status status old new → Runs p status old new
refused_runs p status old new ended is =
    written_runs p [] [] [] old old (record { sent = 0; few = omega arith; written = Appends-nil old; rest = refl }) status new ended is

-- ---- memory was wanting, or the sink failed

-- no command runs
pub none_played : (commands : Result (List Numbered) ParseError) → (part_of commands (Some 0) []).status ≡ Done
none_played (Ok commands) = refl
none_played (Err fault) = refl

-- before anything was written
pub halts_kept : (p : Played) (old new : Option (List ℕ)) → p.status ≡ Done → Keeps old new → Runs p NoMemory old new
halts_kept p old new done kept =
    record { ended = done; pieces = 0; few = omega arith; written = Appends-kept old old new [] (Appends-nil old) kept }

pub halts_at_once : (commands : Result (List Numbered) ParseError) (old : Option (List ℕ)) → Runs (part_of commands (Some 0) []) NoMemory old old
halts_at_once commands old = halts_kept (part_of commands (Some 0) []) old old (none_played commands) (Keeps-refl old)

-- nothing was put from then on
part_kept : (old mid new : Option (List ℕ)) (text : List ℕ) → AppendsPart old mid text → Keeps mid new → AppendsPart old new text
part_kept old mid new text part kept =
    record { front = part.front; back = part.back; parts = part.parts; written = Appends-kept old mid new part.front part.written kept }

-- the commands that have run, alone
first_part : (ran left all : List Numbered) → ran ++ left ≡ all → take (length ran) all ≡ ran
first_part ran left all whole =
    ap (take (length ran)) (sym whole) ∙ take-append-le (length ran) ran left (omega arith) ∙ take-length ran

-- those are played to their end
pub ran_alone : {R : Type 0} (segments : R → Option Segments) (start : Cluster) (now : ClusterState R) (ran left all : List Numbered) (fates : List (List Fate))
    (pieces : List (List ℕ)) → ran ++ left ≡ all → (reached : IsReached segments start now ran fates pieces)
    → played_in (take (length ran) all) fates start ≡ behind pieces reached.occurred (ending Done reached.cluster)
ran_alone segments start now ran left all fates pieces whole reached =
    (λ i. played_in ((first_part ran left all whole ∙ sym (append-nil ran)) i) (sym (append-nil fates) i) start) ∙ reached.goes_on [] []

-- all of them
pub ran_all : {R : Type 0} (segments : R → Option Segments) (start : Cluster) (now : ClusterState R) (ran all : List Numbered) (fates : List (List Fate))
    (pieces : List (List ℕ)) → ran ++ [] ≡ all → (reached : IsReached segments start now ran fates pieces)
    → played_in all fates start ≡ behind pieces reached.occurred (ending Done reached.cluster)
ran_all segments start now ran all fates pieces whole reached =
    (λ i. played_in (sym whole i) (sym (append-nil fates) i) start) ∙ reached.goes_on [] []

-- memory was wanting: only whole pieces were put
pub halted_runs : {R : Type 0} (segments : R → Option Segments) (faults : R → ℕ) (old : ClusterState R) (all : List Numbered) (was now new : Option (List ℕ))
    (halted : IsHalted segments faults old all was now) (cluster : Cluster) → IsOf segments old cluster → Keeps now new
    → Runs (played_in (take (length halted.on.ran) all) halted.on.reached.fates cluster) NoMemory was new
halted_runs segments faults old all was now new halted cluster is kept =
    let on = halted.on in
    let reached = on.reached.reached cluster is in
    let sent = on.sent in
    subst (λ (p : Played). Runs p NoMemory was new) (sym (ran_alone segments cluster halted.now on.ran (halted.first ∷ halted.others) all on.reached.fates on.pieces on.whole reached))
    (record {
      ended = refl;
      pieces = sent.sent;
      few = omega (arith, sent.few, length-append on.pieces []);
      written = grind (arith, take-append-le, sent.sent, on.pieces, sent.few, sent.written);
    })

-- as many commands came before a command that is left
pub halted_may : {R : Type 0} (segments : R → Option Segments) (faults : R → ℕ) (old : ClusterState R) (all : List Numbered) (was now : Option (List ℕ))
    (halted : IsHalted segments faults old all was now) → length halted.on.ran ≤ length all - 1
halted_may segments faults old all was now halted = grind (arith, length-append)

-- the sink failed: it has a part of what was written
pub failed_runs : {R : Type 0} (segments : R → Option Segments) (faults : R → ℕ) (old now : ClusterState R) (all : List Numbered) (was written new : Option (List ℕ))
    (failed : HasFailed segments faults old now all was written) (cluster : Cluster) → IsOf segments old cluster → Keeps written new
    → Runs (played_in (take (length failed.ran) all) failed.reached.fates cluster) WriteFault was new
failed_runs segments faults old now all was written new failed cluster is kept =
    let reached = failed.reached.reached cluster is in
    let q : Played = ending Done reached.cluster in
    subst (λ (p : Played). Runs p WriteFault was new) (sym (ran_alone segments cluster now failed.ran failed.left all failed.reached.fates failed.pieces failed.whole reached))
    (record {
      ended = λ wanting. absurd (cc wanting);
      written =
          subst (λ (text : List ℕ). AppendsPart was new text) (sym (text_behind failed.pieces reached.occurred q))
          (AppendsPart-more was new (concat failed.pieces) (text_of q) (part_kept was written new (concat failed.pieces) failed.put kept));
    })

-- ---- which statuses come

pub written_comes : (text : List ℕ) (given status : Status) (old new : Option (List ℕ)) → IsWritten text given status old new → MayComeTo given → MayComeTo status
written_comes text given status old new is may = grind arith

pub concluded_comes : (p : Played) (held : List ℕ) (status : Status) (old new : Option (List ℕ)) → Concludes p held status old new → MayComeTo p.status → MayComeTo status
concluded_comes p held status old new concludes may = grind (arith, text_of, written_comes)

-- a script that is refused before a command runs comes to one of these
pub refused_comes : (line code : ℕ) (status : Status) (old new : Option (List ℕ)) → ((cluster : Cluster) → Concludes (refused_at line code cluster) [] status old new)
    → MayComeTo status
refused_comes line code status old new concludes =
    let cluster : Cluster = cluster_by unset in
    concluded_comes (refused_at line code cluster) [] status old new (concludes cluster) tt

-- a run that is not played to its end does not come to it
pub concluded_apart : (p : Played) (held : List ℕ) (status : Status) (old new : Option (List ℕ)) → Concludes p held status old new → p.status ≢ Done → status ≢ Done
concluded_apart p held status old new concludes apart done = grind (arith, text_of)

stopped_comes : (line : ℕ) (stop : Stop) (cluster : Cluster) → MayComeTo (stopped_at line stop cluster).status
stopped_comes line Pauses cluster = tt
stopped_comes line _ cluster = tt

pub ended_comes : (end : End) (held : List ℕ) (status : Status) (old new : Option (List ℕ)) → ConcludesBy end held status old new → MayComeTo status
ended_comes ends.Done held status old new is = written_comes held Done status old new is tt
ended_comes (ends.Stopped line error) held status old new is =
    let cluster : Cluster = record { lanes = []; sessions = [] } in
    concluded_comes (stopped_at line (stop_by error) cluster) held status old new (is cluster) (stopped_comes line (stop_by error) cluster)
ended_comes ends.WriteFault held status old new is = subst MayComeTo (sym is.0) tt
ended_comes ends.NoMemory held status old new is = subst MayComeTo (sym is.0) tt

-- ---- if the sink failed

pub ended_cause : (end : End) (held : List ℕ) (status : Status) (old new : Option (List ℕ)) (before mid now : ℕ) → HasEndCause end before mid
    → ((end ≡ ends.WriteFault → ⊥) → HasStatusCause WriteFault status mid now) → (end ≡ ends.WriteFault → now ≡ mid) → ConcludesBy end held status old new
    → HasStatusCause WriteFault status before now
ended_cause end held status old new before mid now ended concluded kept is = grind arith
