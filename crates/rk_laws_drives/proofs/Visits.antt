-- A client whose session has no outstanding call leaves a cluster as it was, when it takes its turn and when it takes a message.
use Rattle.std.proofs.Common.{◌≡◌, ℕ, cond, List, Option, Some, None, Ok, refl, ap, ◌∙◌}
use Rattle.std.specs.Prelude.{unwrap_or}
use Rattle.std.proofs.lemmas.List.{set-get_or}
use Rattle.rk_types.specs.NumberMap.{IsInOrder, NumberMap, get}
use Rattle.rk_types.proofs.Places.{insert_same}
use Rattle.rk_types.specs.declared.call.Call.{Call}
use Rattle.rk_message.specs.declared.message.Message.{Message}
use Rattle.rk_world.specs.Calls.{accept_by, accepting, ask_by, asked_by_session, asking, taking, untouched}
use Rattle.rk_world.specs.Client.{Session, new_session}
use Rattle.rk_world.specs.Cluster.{Accepts, Asks, Cluster, cluster_after, cluster_visited, lane_at, session_at, with_lane, with_session}
use Rattle.rk_world.specs.Refusals.{accept_refusal, ask_refusal}
use Rattle.rk_world.specs.World.{World, new_world}
use Rattle.rk_world.specs.declared.error.StepError.{StepError}
use Rattle.rk_world.specs.declared.event.Taken.TheVariants as takes

module _ (cluster : Cluster) (client : ℕ) (session : Session) (order : IsInOrder cluster.sessions) (found : get cluster.sessions client ≡ Some session) (none : session.outstanding ≡ None) (lane : ℕ) where
  abbrev w : World
  w = lane_at cluster lane

  abbrev mine : Session
  mine = session_at cluster client

  mine_is : mine ≡ session
  mine_is = ap (λ (o : Option Session). unwrap_or o (new_session client)) found

  mine_asks_none : mine.outstanding ≡ None
  mine_asks_none = ap (λ (s : Session). s.outstanding) mine_is ∙ none

  -- the lane and the session are put where they are
  put_again : with_session (with_lane cluster lane w) client mine ≡ cluster
  put_again =
      ap (with_session (with_lane cluster lane w) client) mine_is
      ∙ ap (λ (lanes : List World). with_session (record cluster { lanes = lanes }) client session)
      (set-get_or cluster.lanes lane (new_world lane 0 0))
      ∙ ap (λ (sessions : NumberMap Session). record cluster { sessions = sessions }) (insert_same cluster.sessions client session order found)

  pub asks_nothing : cluster_after cluster (Asks lane client) ≡ cluster
  asks_nothing = by_refusal (ask_refusal w mine)
    where
      by_refusal : (refused : Option StepError) → cluster_visited cluster lane client (ask_by w mine refused) ≡ cluster
      by_refusal (Some error) = refl
      by_refusal None = ap (λ (out : Option Call). cluster_visited cluster lane client (Ok (asking w mine out))) mine_asks_none ∙ put_again

  pub accepts_nothing : (number : ℕ) → cluster_after cluster (Accepts lane number client) ≡ cluster
  accepts_nothing number = by_refusal (accept_refusal w number mine.client (get w.wire.messages number))
    where
      by_message : (message : Option Message) → cluster_visited cluster lane client (Ok (accepting w mine message)) ≡ cluster
      by_message None = put_again
      by_message (Some message) =
          ap
          (λ (out : Option Call). cluster_visited cluster lane client
          (Ok (cond (asked_by_session w mine out) (taking w mine message.body) (untouched w mine (Some takes.Ignored))))) mine_asks_none
          ∙ put_again

      by_refusal : (refused : Option StepError) → cluster_visited cluster lane client (accept_by w number mine refused) ≡ cluster
      by_refusal (Some error) = refl
      by_refusal None = by_message (get w.wire.messages number)
