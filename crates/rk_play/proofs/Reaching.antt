-- A run goes on from the pieces that it has written; these lemmas know of no command.
use Rattle.rk_play.proofs.Words.{arith, ◌≡◌, ◌≢◌, ℕ, List, [], ◌∷◌, ◌++◌, refl, sym, ap, subst, ◌∙◌, append_assoc, append-nil, concat}
use Rattle.rk_play.proofs.Words.{concat-append, Segments, AppendsPart, Cluster, Occurrence, CountsGoOn, Fate, ClusterState, counts_same}
use Rattle.rk_play.proofs.Words.{counts_then, Numbered, Came, Ran, Stopped, Effect, Stop, EndsBy, HasFailed, HasStopped, IsHalted, end_by}
use Rattle.rk_play.proofs.Words.{Played, all_fates, behind, played_in, stopped_at, text_of, IsOn, Spills, stop_by, PlayError}
use Rattle.std.specs.Prelude.{Bool, Option, None, Some}
use Rattle.rk_play.specs.Effects.{effect_within}
use Rattle.rk_play.specs.Played.{continued}
use Rattle.rk_play.specs.Reached.{Reached}
use Rattle.rk_play.specs.declared.end.End.TheVariants as ends
use Rattle.rk_play.specs.declared.error.PlayError.TheVariants as errors
use Rattle.rk_play.proofs.Sending.{sent_failed, sent_none, sent_piece, sent_spilled}

-- ---- runs behind pieces

behind_both : (first second : List (List ℕ)) (before then : List Occurrence) (p : Played)
    → behind first before (behind second then p) ≡ behind (first ++ second) (before ++ then) p
behind_both first second before then p =
    λ i. record p { pieces = sym (append_assoc first second p.pieces) i; occurred = sym (append_assoc before then p.occurred) i }

pub text_behind : (pieces : List (List ℕ)) (occurred : List Occurrence) (p : Played) → text_of (behind pieces occurred p) ≡ concat pieces ++ text_of p
text_behind pieces occurred p = concat-append pieces p.pieces

-- ---- one command

-- it goes on behind its text
went_on : (line : ℕ) (it : Effect) (text : List ℕ) (rest : Cluster → Played) → it.text ≡ text → it.stop ≡ None
    → continued line it it.stop rest ≡ behind (text ∷ []) it.occurred (rest it.cluster)
went_on line it text rest text_is stop_is = grind (arith, behind)

-- or the run stops there
came_to_stop : (line : ℕ) (it : Effect) (stop : Stop) (rest : Cluster → Played) → it.stop ≡ Some stop
    → continued line it it.stop rest ≡ behind [] it.occurred (stopped_at line stop it.cluster)
came_to_stop line it stop rest stop_is = ap (λ (some : Option Stop). continued line it some rest) stop_is

-- a run that a command stops has not failed at the sink
pub end_apart : (line : ℕ) (error : PlayError) → end_by line error ≡ ends.WriteFault → ⊥
end_apart line errors.NoMemory same = absurd (cc same)
end_apart line _ same = absurd (cc same)

-- the fates of the calls of one more command
one_more : (fates : List (List Fate)) (its : List Fate) → all_fates (fates ++ its ∷ []) ≡ all_fates fates ++ its
one_more [] its = append-nil its
one_more (first ∷ fates) its = ap (λ (list : List Fate). first ++ list) (one_more fates its) ∙ sym (append_assoc first (all_fates fates) its)

module _ {R : Type 0} (segments : R → Option Segments) (faults : R → ℕ) where
  -- the counts of replicas went on by one more command
  counts_more : (old mid now : ClusterState R) (fates : List (List Fate)) (its : List Fate) → CountsGoOn faults (all_fates fates) old mid → CountsGoOn faults its mid now
      → CountsGoOn faults (all_fates (fates ++ its ∷ [])) old now
  counts_more old mid now fates its before on =
      subst (λ (list : List Fate). CountsGoOn faults list old now) (sym (one_more fates its)) (counts_then faults (all_fates fates) its old mid now before on)

  pub reached_start : (old : ClusterState R) → Reached segments faults old old [] []
  reached_start old = grind (arith, counts_same)

  pub reached_step : (old mid now : ClusterState R) (ran : List Numbered) (first : Numbered) (pieces : List (List ℕ)) (text : List ℕ)
      → Reached segments faults old mid ran pieces → Came segments faults mid now (λ cluster fates. effect_within cluster first.command fates) text None
      → Reached segments faults old now (ran ++ first ∷ []) (pieces ++ text ∷ [])
  reached_step old mid now ran first pieces text before came = record {
    fates = before.fates ++ came.fates ∷ [];
    counts = counts_more old mid now before.fates came.fates before.counts came.counts;
    reached = λ cluster is.
        let was = before.reached cluster is in
        let comes = came.comes was.cluster was.is in
        let it : Effect = effect_within was.cluster first.command came.fates in
        record {
          cluster = it.cluster;
          is = comes.cluster;
          occurred = was.occurred ++ it.occurred;
          goes_on = λ left later.
              (λ i. played_in (append_assoc ran (first ∷ []) left i) (append_assoc before.fates (came.fates ∷ []) later i) cluster)
              ∙ was.goes_on (first ∷ left) (came.fates ∷ later)
              ∙ ap (behind pieces was.occurred) (went_on first.line it text (λ next. played_in left later next) comes.text_is comes.stop_is)
              ∙ behind_both pieces (text ∷ []) was.occurred it.occurred (played_in left later it.cluster);
        };
  }

  stop_came : (mid now : ClusterState R) (effect : Cluster → List Fate → Effect) (error : PlayError) → error ≢ errors.NoMemory → Stopped segments faults mid now effect error
      → Came segments faults mid now effect [] (Some (stop_by error))
  stop_came mid now effect errors.NoMemory apart stopped = absurd (apart refl)
  stop_came mid now effect _ apart stopped = stopped

  module _ (old mid now : ClusterState R) (all others : List Numbered) (first : Numbered) (was written : Option (List ℕ)) (held : List ℕ)
      (on : IsOn segments faults old mid all (first ∷ others) was written held) where
    -- a command has run
    pub on_step : (next : List ℕ) → Ran segments faults mid now (λ cluster fates. effect_within cluster first.command fates) held next
        → IsOn segments faults old now all others was written next
    on_step next ran = record {
      ran = on.ran ++ first ∷ [];
      whole = append_assoc on.ran (first ∷ []) others ∙ on.whole;
      pieces = on.pieces ++ ran.text ∷ [];
      reached = reached_step old mid now on.ran first on.pieces ran.text on.reached ran.came;
      sent = sent_piece was written on.pieces held next ran.text ran.added on.sent;
    }

    -- memory was wanting
    on_halted : IsHalted segments faults old all was written
    on_halted = record { now = mid; first = first; others = others; held = held; on = on }

    -- or the run stops at it
    on_stopped : (error : PlayError) (next : List ℕ) → error ≢ errors.NoMemory → next ≡ held
        → Stopped segments faults mid now (λ cluster fates. effect_within cluster first.command fates) error
        → HasStopped segments faults old now all first.line error was written next
    on_stopped error next apart kept stopped =
        let came = stop_came mid now (λ cluster fates. effect_within cluster first.command fates) error apart stopped in
        record {
          apart = apart;
          before = on_halted;
          pieces = on.pieces;
          sent = record { sent = on.sent.sent; few = on.sent.few; written = on.sent.written; rest = kept ∙ on.sent.rest };
          fates = on.reached.fates ++ came.fates ∷ [];
          counts = counts_more old mid now on.reached.fates came.fates on.reached.counts came.counts;
          stopped = λ cluster is.
              let before = on.reached.reached cluster is in
              let comes = came.comes before.cluster before.is in
              let it : Effect = effect_within before.cluster first.command came.fates in
              record {
                cluster = it.cluster;
                is = comes.cluster;
                occurred = before.occurred ++ it.occurred;
                stops =
                    ap (λ (list : List Numbered). played_in list (on.reached.fates ++ came.fates ∷ []) cluster) (sym on.whole)
                    ∙ before.goes_on (first ∷ others) (came.fates ∷ [])
                    ∙ ap (behind on.pieces before.occurred) (came_to_stop first.line it (stop_by error) (λ next. played_in others [] next) comes.stop_is)
                    ∙ behind_both on.pieces [] before.occurred it.occurred (stopped_at first.line (stop_by error) it.cluster)
                    ∙ ap (λ (pieces : List (List ℕ)). behind pieces (before.occurred ++ it.occurred) (stopped_at first.line (stop_by error) it.cluster)) (append-nil on.pieces);
              };
        }

    -- the run ends there
    pub on_ended : (error : PlayError) (next : List ℕ) → (error ≢ errors.NoMemory → next ≡ held)
        → Stopped segments faults mid now (λ cluster fates. effect_within cluster first.command fates) error
        → EndsBy segments faults old now all was written next (end_by first.line error)
    on_ended errors.NoMemory next kept stopped = on_halted
    on_ended (errors.Refused code) next kept stopped =
        let apart : errors.Refused code ≢ errors.NoMemory = λ same. absurd (cc same) in on_stopped (errors.Refused code) next apart (kept apart) stopped
    on_ended (errors.Worn number) next kept stopped =
        let apart : errors.Worn number ≢ errors.NoMemory = λ same. absurd (cc same) in on_stopped (errors.Worn number) next apart (kept apart) stopped
    on_ended (errors.Replica rounds) next kept stopped =
        let apart : errors.Replica rounds ≢ errors.NoMemory = λ same. absurd (cc same) in on_stopped (errors.Replica rounds) next apart (kept apart) stopped

  pub on_spilled : (old now : ClusterState R) (all left : List Numbered) (was mid new : Option (List ℕ)) (held next : List ℕ) (few : Bool)
      → IsOn segments faults old now all left was mid held → Spills few mid new held next → IsOn segments faults old now all left was new next
  on_spilled old now all left was mid new held next few on spills = grind (arith, sent_spilled)

  pub on_failed : (old now : ClusterState R) (all left : List Numbered) (was mid new : Option (List ℕ)) (held : List ℕ) → IsOn segments faults old now all left was mid held
      → AppendsPart mid new held → HasFailed segments faults old now all was new
  on_failed old now all left was mid new held on part = search (sent_failed, on.ran, on.whole, on.pieces, on.reached, on.sent)

  pub on_start : (old : ClusterState R) (all : List Numbered) (was : Option (List ℕ)) (held : List ℕ) → held ≡ [] → IsOn segments faults old old all all was was held
  on_start old all was held none =
      record { ran = []; whole = refl; pieces = []; reached = reached_start old; sent = sent_none was held none }
