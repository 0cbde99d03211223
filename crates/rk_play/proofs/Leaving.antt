-- What a run leaves when it ends: the part that was played, and the cluster in code then.
use Rattle.rk_play.proofs.Words.{arith, ◌≡◌, ◌≢◌, ℕ, List, [], ◌++◌, length, refl, sym, subst, ⊎_elim, append-nil, Keeps, Status, Done}
use Rattle.rk_play.proofs.Words.{NoMemory, WriteFault, Segments, Cluster, CountsGoOn, Fate, ClusterState, IsOf, Numbered, Concludes}
use Rattle.rk_play.proofs.Words.{ConcludesBy, IsWritten, part_in, Pauses, Stop, EndsBy, HasFailed, HasStopped, IsHalted, Played, all_fates}
use Rattle.rk_play.proofs.Words.{ending, stopped_at, text_of, IsOn, MayBePart, Runs, stop_by, End, PlayError}
use Rattle.std.specs.Prelude.{Option, None, Some}
use Rattle.rk_play.specs.declared.end.End.TheVariants as ends
use Rattle.rk_play.proofs.Concluding.{IsEnded, failed_runs, halted_may, halted_runs, ran_all, ran_alone, stopped_ended, written_runs}

-- by the fates of the calls of replicas a part of a run, which has so many commands in all, has this status; unless memory was wanting, for
-- each call that failed the count of its replica rose, and the cluster in code represents the one at the end
pub record IsPlayedOut {R : Type 0} (segments : R → Option Segments) (faults : R → ℕ) (old now : ClusterState R) (played_by : Option ℕ → List (List Fate) → Played) (most : ℕ) (status : Status) (was new : Option (List ℕ)) : Type 0 where
  pub part : Option ℕ
  pub may : MayBePart status most part
  pub fates : List (List Fate)
  pub runs : Runs (played_by part fates) status was new
  pub counts : (status ≡ NoMemory → ⊥) → CountsGoOn faults (all_fates fates) old now
  pub left : (status ≡ NoMemory → ⊥) → IsOf segments now (played_by part fates).cluster

-- ---- statuses

-- if a text is written it is that of the whole run
pub written_may : (text : List ℕ) (given status : Status) (most : ℕ) (old new : Option (List ℕ)) → IsEnded given → IsWritten text given status old new → MayBePart status most None
written_may text given status most old new ended is = grind arith

-- a run that stops leaves the cluster as it is
stopped_cluster : (line : ℕ) (stop : Stop) (cluster : Cluster) → (stopped_at line stop cluster).cluster ≡ cluster
stopped_cluster line Pauses cluster = refl
stopped_cluster line _ cluster = refl

module _ {R : Type 0} (segments : R → Option Segments) (faults : R → ℕ) (old now : ClusterState R) (all : List Numbered) (was : Option (List ℕ)) (cluster : Cluster) (is : IsOf segments old cluster) where
  -- what is played out is a part of these commands, in that cluster
  abbrev IsOut : Status → Option (List ℕ) → Type 0
  IsOut status new = IsPlayedOut segments faults old now (part_in all cluster) (length all) status was new

  -- ---- however the commands end

  -- memory was wanting
  pub halted_out : (written new : Option (List ℕ)) (halted : IsHalted segments faults old all was written) → Keeps written new → IsOut NoMemory new
  halted_out written new halted kept = record {
    part = Some (length halted.on.ran);
    may = halted_may segments faults old all was written halted;
    fates = halted.on.reached.fates;
    runs = halted_runs segments faults old all was written new halted cluster is kept;
    counts = λ apart. absurd (apart refl);
    left = λ apart. absurd (apart refl);
  }

  done_out : (written new : Option (List ℕ)) (held : List ℕ) (status : Status) → IsOn segments faults old now all [] was written held → IsWritten held Done status written new
      → IsOut status new
  done_out written new held status on concludes =
      let reached = on.reached.reached cluster is in
      let q : Played = ending Done reached.cluster in
      let same = ran_all segments cluster now on.ran all on.reached.fates on.pieces on.whole reached in
      record {
        part = None;
        may = written_may held Done status (length all) written new tt concludes;
        fates = on.reached.fates;
        runs =
            subst (λ (p : Played). Runs p status was new) (sym same)
            (written_runs q on.pieces reached.occurred held was written on.sent status new tt
            (subst (λ (text : List ℕ). IsWritten text Done status written new) (sym (append-nil held)) concludes));
        counts = λ apart. on.reached.counts;
        left = λ apart. subst (λ (p : Played). IsOf segments now p.cluster) (sym same) reached.is;
      }

  stopped_out : (written new : Option (List ℕ)) (held : List ℕ) (line : ℕ) (error : PlayError) (status : Status)
      → HasStopped segments faults old now all line error was written held → ((end : Cluster) → Concludes (stopped_at line (stop_by error) end) held status written new) → IsOut status new
  stopped_out written new held line error status stopped concludes =
      let stops = stopped.stopped cluster is in
      let q : Played = stopped_at line (stop_by error) stops.cluster in
      let ended = stopped_ended line error stops.cluster stopped.apart in
      ⊎_elim
      (λ (said : IsWritten (held ++ text_of q) q.status status written new).
      let out : IsOut status new = record {
        part = None;
        may = written_may (held ++ text_of q) q.status status (length all) written new ended said;
        fates = stopped.fates;
        runs =
            subst (λ (p : Played). Runs p status was new) (sym stops.stops)
            (written_runs q stopped.pieces stops.occurred held was written stopped.sent status new ended said);
        counts = λ apart. stopped.counts;
        left = λ apart.
            subst (λ (p : Played). IsOf segments now p.cluster) (sym stops.stops)
            (subst (IsOf segments now) (sym (stopped_cluster line (stop_by error) stops.cluster)) stops.is);
      }
      in
      out)
      (λ (lacks : (status ≡ NoMemory) × Keeps written new).
      subst (λ (it : Status). IsOut it new) (sym lacks.0) (halted_out written new stopped.before lacks.1))
      (concludes stops.cluster)

  failed_out : (written new : Option (List ℕ)) → HasFailed segments faults old now all was written → Keeps written new → IsOut WriteFault new
  failed_out written new failed kept =
      let reached = failed.reached.reached cluster is in
      record {
        part = Some (length failed.ran);
        may = tt;
        fates = failed.reached.fates;
        runs = failed_runs segments faults old now all was written new failed cluster is kept;
        counts = λ apart. failed.reached.counts;
        left = λ apart.
            subst (λ (p : Played). IsOf segments now p.cluster)
            (sym (ran_alone segments cluster now failed.ran failed.left all failed.reached.fates failed.pieces failed.whole reached)) reached.is;
      }

  -- and the run is concluded
  pub played_out : (written new : Option (List ℕ)) (held : List ℕ) (end : End) (status : Status) → end ≢ ends.NoMemory
      → EndsBy segments faults old now all was written held end → ConcludesBy end held status written new → IsOut status new
  played_out written new held end status apart on concludes = grind (arith, done_out, stopped_out, failed_out)
