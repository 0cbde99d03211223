-- What commands that show something have come to, and those that a code refuses.
use Rattle.rk_play.proofs.Words.{arith, ◌≡◌, ℕ, ◌++◌, List, [], Option, None, Some, refl, sym, subst, Segments, Cluster, number_of, Fate}
use Rattle.rk_play.proofs.Words.{ClusterState, IsOf, LaneState, state_of, LanesTell, Tells, Code, counts_same, Came, IsCome, Ran, Stopped}
use Rattle.rk_play.proofs.Words.{WhereRefused, Effect, Refuses, refused_by, PlayError}
use Rattle.rk_play.specs.Effects.{shown, writing}
use Rattle.rk_play.specs.declared.error.PlayError.TheVariants as errors

module _ {R : Type 0} (segments : R → Option Segments) (faults : R → ℕ) (state : ClusterState R) where
  -- a code refuses a command
  pub came_refused : (effect_of : Cluster → List Fate → Effect) (it : Code)
      → ((cluster : Cluster) → IsOf segments state cluster → effect_of cluster [] ≡ refused_by it cluster)
      → Came segments faults state state effect_of [] (Some (Refuses (number_of it)))
  came_refused effect_of it refuses = grind (arith, counts_same, number_of)

  module _ (code : Cluster → Option Code) (text : Cluster → List ℕ) where
    pub shown_refused : (it : Code) → Tells segments state code (Some it)
        → Came segments faults state state (λ cluster fates. shown cluster (code cluster) (text cluster)) [] (Some (Refuses (number_of it)))
    shown_refused it tells =
        came_refused (λ cluster fates. shown cluster (code cluster) (text cluster)) it (λ cluster is i. shown cluster (tells cluster is i) (text cluster))

    -- a text is added that shows it
    pub shown_written : (lines was now : List ℕ) → Tells segments state code None → Tells segments state text lines → now ≡ was ++ lines
        → Ran segments faults state state (λ cluster fates. shown cluster (code cluster) (text cluster)) was now
    shown_written lines was now none tells added = record {
      text = lines;
      added = added;
      came = record {
        fates = [];
        counts = counts_same faults state;
        comes = λ cluster is.
            subst (λ (effect : Effect). IsCome segments state lines None effect)
            (λ i. shown cluster (sym (none cluster is) i) (sym (tells cluster is) i))
            (let effect : Effect = writing lines cluster [] in record { cluster = is; text_is = refl; stop_is = refl });
      };
    }

-- what is seen in lanes is seen in the cluster that has them
pub in_lanes : {R T : Type 0} (segments : R → Option Segments) (state : ClusterState R) (lanes : List (LaneState R)) (look : Cluster → T) (seen : T)
    → lanes ≡ state.lanes → LanesTell segments lanes look seen → Tells segments state look seen
in_lanes {R} segments state lanes look seen same tells cluster is =
    tells state.sessions cluster (subst (λ (it : List (LaneState R)). IsOf segments (state_of it state.sessions) cluster) (sym same) is)

-- what is known of the code of a refusal
pub refused_weaker : (Holds Also : Code → Type 0) (error : PlayError) → ((code : Code) → Holds code → Also code) → WhereRefused Holds error → WhereRefused Also error
refused_weaker Holds Also error weaker known = grind arith

-- a refusal ends the run as each of its codes does
pub refused_stops : {R : Type 0} (segments : R → Option Segments) (faults : R → ℕ) (state : ClusterState R) (effect_of : Cluster → List Fate → Effect) (Holds : Code → Type 0) (error : PlayError)
    → ((code : Code) → Holds code → Came segments faults state state effect_of [] (Some (Refuses (number_of code)))) → WhereRefused Holds error
    → Stopped segments faults state state effect_of error
refused_stops segments faults state effect_of Holds error stops known = grind arith
