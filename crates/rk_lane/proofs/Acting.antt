-- A session that may act still may after its turn, even if the lane did not record that, and after an answer.
use Rattle.rk_lane.proofs.Words.{arith, ◌≡◌, ◌==◌, ℕ, Bool, true, false, cond, not, [], length, filter, All, Option, None, Some, IfOk}
use Rattle.rk_lane.proofs.Words.{Result, Ok, Err, ⊎_elim, sym, subst, ◌∙◌, All-nil, All-set, Call, Located, accept, ask, MOST_REQUESTS}
use Rattle.rk_lane.proofs.Words.{Session, looking_up, range_of, session_turn, turn_by, turn_of, turn_to, MayAct, StepError, Seen, IsKept}
use Rattle.rk_lane.proofs.Words.{world_of, IsVisited, Parts}
use Rattle.std.proofs.Common.{OnErr}
use Rattle.std.proofs.lemmas.List.Elements.{All-filter}
use Rattle.rk_session.specs.Turns.{session_after}
use Rattle.rk_world.specs.Client.{call_lane, has_call, ranges_in}
use Rattle.rk_world.specs.Premises.{IsCached}
use Rattle.rk_inv_wellformed.proofs.lanes.Asks.{formed_accept, formed_ask}
use Rattle.rk_inv_wellformed.proofs.maps.Lists.{all_at}
use Rattle.rk_lane.specs.Visits.{MayHaveTurned}
use Rattle.rk_lane.proofs.Clients.{after_nothing}
use Rattle.rk_lane.proofs.Quiet.{masters_counted}

-- ---- a turn alone

module _ (count : ℕ) (session : Session) (may : MayAct count session) where
  acts_looking : (call : Call) → MayAct count (looking_up session call).session
  acts_looking call = record {
    client = may.client;
    call = may.call;
    own = may.own;
    seen = may.seen;
    cached =
        All-set (All (IsCached count)) session.ranges (call_lane call) (filter (λ (located : Located). not (has_call call located)) (ranges_in session (call_lane call)))
        (All-filter (λ (located : Located). not (has_call call located)) (IsCached count) (ranges_in session (call_lane call))
        (all_at (All (IsCached count)) session.ranges (call_lane call) [] (All-nil (IsCached count)) may.cached))
        may.cached;
  }

  acts_requesting : (call : Call) (tablet : ℕ) (owner : Option ℕ) → MayAct count (turn_to session call tablet owner).session
  acts_requesting call tablet None = acts_looking call
  acts_requesting call tablet (Some master) = grind arith

  acts_by_range : (call : Call) (found : Option Located) → MayAct count (turn_by session call found).session
  acts_by_range call None = acts_looking call
  acts_by_range call (Some located) = go (session.requests == MOST_REQUESTS)
    where
      go : (often : Bool) → MayAct count (cond often (looking_up session call) (turn_to session call located.tablet located.owner)).session
      go true = acts_looking call
      go false = acts_requesting call located.tablet located.owner

  acts_by_call : (call : Option Call) → MayAct count (session_after session (turn_of session call))
  acts_by_call None = may
  acts_by_call (Some call) = acts_by_range call (range_of session call)

-- a session that has its turn or is as it was may act
pub acts_turned : (count : ℕ) (old new : Session) → MayAct count old → MayHaveTurned old new → MayAct count new
acts_turned count old new may turned =
    ⊎_elim
    (λ (same : new ≡ old). subst (MayAct count) (sym same) may)
    (λ (is : new ≡ session_after old (session_turn old)). subst (MayAct count) (sym is) (acts_by_call count old may old.outstanding))
    turned

-- ---- in a lane

-- a session may act in a lane whose coordinator counts the masters
pub acts_there : (parts : Parts) (session : Session) → IsKept parts → MayAct (length parts.masters.items) session → MayAct parts.coordinator.masters session
acts_there parts session kept may = subst (λ (masters : ℕ). MayAct masters session) (sym (masters_counted parts kept)) may

-- it still may after its turn there, and after an answer
pub acts_after_turn : (old new : Parts) (session later : Session) (seen : Seen) → IsKept old → MayAct (length old.masters.items) session
    → IsVisited (λ w. ask w session) old new later seen → MayAct (length new.masters.items) later
acts_after_turn old new session later seen kept may visited =
    subst (λ (masters : ℕ). MayAct masters later) (masters_counted old kept ∙ sym visited.lane.masters)
    (formed_ask (world_of old []) session (record { world = world_of new []; session = later; seen = seen }) (visited.visited []) (acts_there old session kept may)
    (after_nothing session.outstanding) visited.kept.formed.room kept.formed.formed).session

pub acts_after_answer : (old new : Parts) (number : ℕ) (session later : Session) (seen : Seen) → IsKept old → MayAct (length old.masters.items) session
    → IsVisited (λ w. accept w number session) old new later seen → MayAct (length new.masters.items) later
acts_after_answer old new number session later seen kept may visited =
    subst (λ (masters : ℕ). MayAct masters later) (masters_counted old kept ∙ sym visited.lane.masters)
    (formed_accept (world_of old []) number session (record { world = world_of new []; session = later; seen = seen }) (visited.visited []) (acts_there old session kept may)
    kept.formed.formed).session

-- so it is also if they found no memory, or were refused
pub acts_by_turn : (old new : Parts) (session later : Session) (result : Result Seen StepError) → IsKept old → MayAct (length old.masters.items) session
    → IfOk result (λ seen. IsVisited (λ w. ask w session) old new later seen) → OnErr result (new ≡ old) → OnErr result (MayHaveTurned session later)
    → MayAct (length new.masters.items) later
acts_by_turn old new session later (Ok seen) kept may visited same turned = acts_after_turn old new session later seen kept may visited
acts_by_turn old new session later (Err error) kept may visited same turned =
    subst (λ (parts : Parts). MayAct (length parts.masters.items) later) (sym same) (acts_turned (length old.masters.items) session later may turned)

pub acts_by_answer : (old new : Parts) (number : ℕ) (session later : Session) (result : Result Seen StepError) → IsKept old → MayAct (length old.masters.items) session
    → IfOk result (λ seen. IsVisited (λ w. accept w number session) old new later seen) → OnErr result (new ≡ old) → OnErr result (later ≡ session)
    → MayAct (length new.masters.items) later
acts_by_answer old new number session later (Ok seen) kept may visited same stays = acts_after_answer old new number session later seen kept may visited
acts_by_answer old new number session later (Err error) kept may visited same stays = grind (arith, old.masters.items)
