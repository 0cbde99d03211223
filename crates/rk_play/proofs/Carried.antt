-- What a command comes to that is a call of a cluster, by what the call answers.
use Rattle.rk_play.proofs.Words.{arith, ◌≡◌, ◌≢◌, ℕ, Bool, true, false, List, [], ◌∷◌, ◌++◌, Option, None, Some, IfErr, refl, sym, ap}
use Rattle.rk_play.proofs.Words.{subst, IsErrAnd, if◌then◌else◌, Said, Segments, Cluster, Occurrence, CountsGoOn, number_of, Fate}
use Rattle.rk_play.proofs.Words.{ClusterState, IsOf, Tells, Code, ClusterError, counts_same, said_lines, Came, IsCome, Ran, Stopped, Effect}
use Rattle.rk_play.proofs.Words.{Refuses, Stop, is_full, refused_by, error_by_cluster, stop_by, PlayError}
use Rattle.std.proofs.Common.{Result, Ok, Err, IfOk, OnOk}
use Rattle.std.specs.Prelude.{IsOkAnd}
use Rattle.rk_cluster.specs.Acted.{Acted, all_acted}
use Rattle.rk_cluster.specs.Effects.{EndsIn, HasCode, IsActedAs, IsCarriedOut}
use Rattle.rk_cluster.specs.Faults.{BySomeFate}
use Rattle.rk_cluster.specs.declared.code.Code.TheVariants.{Limit}
use Rattle.rk_cluster.specs.declared.error.ClusterError.TheVariants as answers
use Rattle.rk_play.specs.Effects.{Wears, carried, carried_by}
use Rattle.rk_play.specs.declared.error.PlayError.TheVariants as errors

-- what is made of a cluster that is not full, and else a refusal
abbrev pub unless_full : (Cluster → List Fate → Effect) → Cluster → List Fate → Effect
unless_full effect_of cluster fates = if is_full cluster then refused_by Limit cluster else effect_of cluster fates

module _ {R : Type 0} (segments : R → Option Segments) (faults : R → ℕ) where
  -- ---- events that came, and a lane that was worn there or not

  came_out : (cluster : Cluster) (state : ClusterState R) (told : List Said) (it : Acted) → IsActedAs segments cluster state told None it
      → IsCome segments state (said_lines told) None (carried_by it it.worn)
  came_out cluster state told it is = grind (arith, said_lines)

  came_worn : (cluster : Cluster) (state : ClusterState R) (told : List Said) (number : ℕ) (it : Acted) → IsActedAs segments cluster state told (Some number) it
      → IsCome segments state [] (Some (Wears number)) (carried_by it it.worn)
  came_worn cluster state told number it is = grind arith

  module _ (old new : ClusterState R) (effect_of : Cluster → List Fate → Effect) where
    -- ---- a call that made just what the effect says, by these fates of the calls of replicas

    module _ (its : List Fate) (on : CountsGoOn faults its old new) (code_of : Cluster → Option Code) (makes : Cluster → List Occurrence)
        (same : (cluster : Cluster) → effect_of cluster its ≡ carried cluster (code_of cluster) (makes cluster)) where
      -- what comes of the call comes of the command
      come : (text : List ℕ) (stop : Option Stop)
          → ((cluster : Cluster) → IsOf segments old cluster → IsCome segments new text stop (carried cluster (code_of cluster) (makes cluster)))
          → Came segments faults old new effect_of text stop
      come text stop comes =
          record { fates = its; counts = on; comes = λ cluster is. subst (IsCome segments new text stop) (sym (same cluster)) (comes cluster is) }

      ran : (said : List Said) (was now : List ℕ) → IsCarriedOut segments old new code_of makes said → now ≡ was ++ said_lines said
          → Ran segments faults old new effect_of was now
      ran said was now out added = record {
        text = said_lines said;
        added = added;
        came = come (said_lines said) None (λ cluster is.
            subst (λ (code : Option Code). IsCome segments new (said_lines said) None (carried cluster code (makes cluster))) (sym (out.code cluster is))
            (came_out cluster new said (all_acted cluster (makes cluster)) (out.acts cluster is)));
      }

      refused : (code : Code) → HasCode segments old code_of (Some code) → new ≡ old → Came segments faults old new effect_of [] (Some (Refuses (number_of code)))
      refused code has unchanged = come [] (Some (Refuses (number_of code))) (λ cluster is.
          subst (λ (it : Option Code). IsCome segments new [] (Some (Refuses (number_of code))) (carried cluster it (makes cluster))) (sym (has cluster is))
          (record { cluster = subst (λ (state : ClusterState R). IsOf segments state cluster) (sym unchanged) is; text_is = refl; stop_is = refl }))

      stopped : (error : ClusterError) → EndsIn segments old new code_of makes error → Stopped segments faults old new effect_of (error_by_cluster error)
      stopped answers.NoMemory ends = tt
      stopped (answers.Code code) ends = refused code ends.0 ends.1
      stopped (answers.Worn number) ends = come [] (Some (Wears number)) (λ cluster is.
          subst (λ (code : Option Code). IsCome segments new [] (Some (Wears number)) (carried cluster code (makes cluster))) (sym (ends.0 cluster is))
          (came_worn cluster new [] number (all_acted cluster (makes cluster)) (ends.1 cluster is)))

    -- ---- what the call answered, and what was answered to that

    ran_by : {V : Type 0} (items : V → List Said) (told : Result V ClusterError) (result : Result (Unit {0}) PlayError) (Out : List Said → Type 0) (was now : List ℕ)
        → ((said : List Said) → Out said → now ≡ was ++ said_lines said → Ran segments faults old new effect_of was now)
        → IfOk told (λ said. Out (items said)) → OnOk result (IsOkAnd told (λ said. now ≡ was ++ said_lines (items said)))
        → OnOk result (Ran segments faults old new effect_of was now)
    ran_by items (Ok said) (Ok done) Out was now runs out added = runs (items said) out added
    ran_by items (Err error) (Ok done) Out was now runs out added = absurd added
    ran_by items told (Err e) Out was now runs out added = tt

    stopped_as : {V : Type 0} (told : Result V ClusterError) (e : PlayError) (Ends : ClusterError → Type 0)
        → ((error : ClusterError) → Ends error → Stopped segments faults old new effect_of (error_by_cluster error))
        → IfErr told Ends → IsErrAnd told (λ error. e ≡ error_by_cluster error) → Stopped segments faults old new effect_of e
    stopped_as (Ok said) e Ends stops ends cause = absurd cause
    stopped_as (Err error) e Ends stops ends cause = subst (Stopped segments faults old new effect_of) (sym cause) (stops error ends)

    stopped_by : {V : Type 0} (told : Result V ClusterError) (result : Result (Unit {0}) PlayError) (Ends : ClusterError → Type 0)
        → ((error : ClusterError) → Ends error → Stopped segments faults old new effect_of (error_by_cluster error))
        → IfErr told Ends → IfErr result (λ e. e ≢ errors.NoMemory → IsErrAnd told (λ error. e ≡ error_by_cluster error))
        → IfErr result (Stopped segments faults old new effect_of)
    stopped_by told (Ok done) Ends stops ends cause = tt
    stopped_by told (Err errors.NoMemory) Ends stops ends cause = tt
    stopped_by told (Err (errors.Refused code)) Ends stops ends cause = stopped_as told (errors.Refused code) Ends stops ends (cause (λ never. cc never))
    stopped_by told (Err (errors.Worn number)) Ends stops ends cause = stopped_as told (errors.Worn number) Ends stops ends (cause (λ never. cc never))
    stopped_by told (Err (errors.Replica rounds)) Ends stops ends cause = stopped_as told (errors.Replica rounds) Ends stops ends (cause (λ never. cc never))

    -- ---- a command that calls no replica

    module _ (on : CountsGoOn faults [] old new) (code_of : Cluster → Option Code) (makes : Cluster → List Occurrence)
        (same : (cluster : Cluster) → effect_of cluster [] ≡ carried cluster (code_of cluster) (makes cluster)) where
      pub carried_out : {V : Type 0} (items : V → List Said) (told : Result V ClusterError) (result : Result (Unit {0}) PlayError) (was now : List ℕ)
          → IfOk told (λ said. IsCarriedOut segments old new code_of makes (items said))
          → OnOk result (IsOkAnd told (λ said. now ≡ was ++ said_lines (items said))) → OnOk result (Ran segments faults old new effect_of was now)
      carried_out items told result was now =
          ran_by items told result (IsCarriedOut segments old new code_of makes) was now (λ said. ran [] on code_of makes same said was now)

      pub ends_in : {V : Type 0} (told : Result V ClusterError) (result : Result (Unit {0}) PlayError)
          → IfErr told (EndsIn segments old new code_of makes) → IfErr result (λ e. e ≢ errors.NoMemory → IsErrAnd told (λ error. e ≡ error_by_cluster error))
          → IfErr result (Stopped segments faults old new effect_of)
      ends_in told result = stopped_by told result (EndsIn segments old new code_of makes) (stopped [] on code_of makes same)

    -- ---- a delivery, which may call a replica

    module _ (code_of : Cluster → Option Code) (makes : Fate → Cluster → List Occurrence)
        (same : (fate : Fate) (cluster : Cluster) → effect_of cluster (fate ∷ []) ≡ carried cluster (code_of cluster) (makes fate cluster)) where
      pub delivered : {V : Type 0} (items : V → List Said) (told : Result V ClusterError) (result : Result (Unit {0}) PlayError) (was now : List ℕ)
          → IfOk told (λ said. BySomeFate faults old.lanes new.lanes (λ fate. IsCarriedOut segments old new code_of (makes fate) (items said)))
          → OnOk result (IsOkAnd told (λ said. now ≡ was ++ said_lines (items said))) → OnOk result (Ran segments faults old new effect_of was now)
      delivered items told result was now =
          ran_by items told result (λ said. BySomeFate faults old.lanes new.lanes (λ fate. IsCarriedOut segments old new code_of (makes fate) said)) was now
          (λ said by. ran (by.fate ∷ []) by.counts code_of (makes by.fate) (same by.fate) said was now by.holds)

      pub undelivered : {V : Type 0} (told : Result V ClusterError) (result : Result (Unit {0}) PlayError)
          → IfErr told (λ error. BySomeFate faults old.lanes new.lanes (λ fate. EndsIn segments old new code_of (makes fate) error))
          → IfErr result (λ e. e ≢ errors.NoMemory → IsErrAnd told (λ error. e ≡ error_by_cluster error))
          → IfErr result (Stopped segments faults old new effect_of)
      undelivered told result =
          stopped_by told result (λ error. BySomeFate faults old.lanes new.lanes (λ fate. EndsIn segments old new code_of (makes fate) error))
          (λ error by. stopped (by.fate ∷ []) by.counts code_of (makes by.fate) (same by.fate) error by.holds)

  -- ---- a command, unless the cluster is full

  module _ (old new : ClusterState R) (effect_of : Cluster → List Fate → Effect) (free : Tells segments old is_full false) where
    came_within : (text : List ℕ) (stop : Option Stop) → Came segments faults old new effect_of text stop → Came segments faults old new (unless_full effect_of) text stop
    came_within text stop came = record {
      fates = came.fates;
      counts = came.counts;
      comes = λ cluster is.
          subst (λ (full : Bool). IsCome segments new text stop (if full then refused_by Limit cluster else effect_of cluster came.fates)) (sym (free cluster is))
          (came.comes cluster is);
    }

    pub ran_within : (result : Result (Unit {0}) PlayError) (was now : List ℕ) → OnOk result (Ran segments faults old new effect_of was now)
        → OnOk result (Ran segments faults old new (unless_full effect_of) was now)
    ran_within (Ok done) was now it = record { text = it.text; added = it.added; came = came_within it.text None it.came }
    ran_within (Err e) was now it = tt

    stopped_within : (e : PlayError) → Stopped segments faults old new effect_of e → Stopped segments faults old new (unless_full effect_of) e
    stopped_within errors.NoMemory came = tt
    stopped_within (errors.Refused code) came = came_within [] (Some (stop_by (errors.Refused code))) came
    stopped_within (errors.Worn number) came = came_within [] (Some (stop_by (errors.Worn number))) came
    stopped_within (errors.Replica rounds) came = came_within [] (Some (stop_by (errors.Replica rounds))) came

    pub ends_within : (result : Result (Unit {0}) PlayError) → IfErr result (Stopped segments faults old new effect_of)
        → IfErr result (Stopped segments faults old new (unless_full effect_of))
    ends_within (Ok done) stops = tt
    ends_within (Err e) stops = stopped_within e stops

  -- ---- a code refuses a command, which changes nothing

  pub refuses : (old : ClusterState R) (effect_of : Cluster → List Fate → Effect) (code : Code)
      → ((cluster : Cluster) → IsOf segments old cluster → effect_of cluster [] ≡ refused_by code cluster)
      → Stopped segments faults old old effect_of (errors.Refused code)
  refuses old effect_of code same = grind (arith, counts_same, number_of)

  -- if the cluster is full
  pub full_refuses : (old : ClusterState R) (effect_of : Cluster → List Fate → Effect) → Tells segments old is_full true
      → Stopped segments faults old old (unless_full effect_of) (errors.Refused Limit)
  full_refuses old effect_of full =
      refuses old (unless_full effect_of) Limit (λ cluster is. ap (λ (it : Bool). if it then refused_by Limit cluster else effect_of cluster []) (full cluster is))
