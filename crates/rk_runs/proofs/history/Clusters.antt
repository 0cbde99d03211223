-- What holds of a cluster between any two occurrences: its lanes are sound, well formed and have room, and its sessions agree with them.
-- That events keep lanes sound is an argument here.
use Rattle.std.proofs.Common.{◌≡◌, ℕ, ◌<◌, Option, length, refl, sym, ap, subst, ⊎_elim, arith, IfSome, unwrap_or, w32, get_or-set_other}
use Rattle.std.proofs.Common.{get_or-set_same, length-set}
use Rattle.rk_inv_base.proofs.Words.{cases_eq, get_other, get_same, NumberMap, no_base, Session, new_session, Cluster, lane_at, session_at}
use Rattle.rk_inv_base.proofs.Words.{with_lane, with_session, IsWellFormed, Ledger, MayAct, HasRoom, World, new_world, IsSound}
use Rattle.rk_entry.specs.Numbers.{IsNumber}
use Rattle.rk_runs.specs.history.Agreement.{Agrees}
use Rattle.rk_runs.proofs.history.Agreeing.{ChangesAt}
use Rattle.rk_runs.proofs.history.Ordered.{IsLawfulLane}
use Rattle.rk_runs.proofs.history.SentIn.{WasSentThere}

-- the ledger of each lane
abbrev pub ledgers_of : Cluster → ℕ → Ledger
ledgers_of cluster lane = (lane_at cluster lane).ledger

-- a lane between two events; `Steady` is what else holds of it
pub record IsGoodLane (Steady : World → Type 0) (masters lane : ℕ) (w : World) : Type 0 where
  pub sound : IsSound w
  pub formed : IsWellFormed w
  pub room : HasRoom w
  pub steady : Steady w
  pub lane_is : w.lane ≡ lane
  pub base_is : w.base ≡ no_base
  pub masters_are : w.coordinator.masters ≡ masters

-- a session that may act, if its client's number is lawful, as it is if a call is outstanding; and that sent its last request, if
-- there was one, in a lane that is there
pub record IsGoodSession (masters client : ℕ) (session : Session) : Type 0 where
  pub acts : IsNumber w32 1 client → MayAct masters session
  pub lawful : IfSome session.outstanding (λ call. IsNumber w32 1 client)
  pub sent_in : WasSentThere session

-- a cluster between two occurrences
pub record IsGood (Steady : World → Type 0) (masters : ℕ) (cluster : Cluster) : Type 0 where
  pub lanes : (lane : ℕ) → lane < length cluster.lanes → IsGoodLane Steady masters lane (lane_at cluster lane)
  pub agree : (client : ℕ) → Agrees (ledgers_of cluster) client (session_at cluster client)
  pub sessions : (client : ℕ) → IsGoodSession masters client (session_at cluster client)

-- a sound lane is lawful
pub lawful_lane : (Steady : World → Type 0) (masters lane : ℕ) (w : World) → IsGoodLane Steady masters lane w → IsLawfulLane lane w.ledger
lawful_lane Steady masters lane w good = grind arith

-- ---- one lane or one session of a cluster is another

module _ (cluster : Cluster) (lane : ℕ) (w : World) (within : lane < length cluster.lanes) where
  pub lane_here : lane_at (with_lane cluster lane w) lane ≡ w
  lane_here = get_or-set_same cluster.lanes lane w (new_world lane 0 0) within

  lane_other : (q : ℕ) → (q ≡ lane → ⊥) → lane_at (with_lane cluster lane w) q ≡ lane_at cluster q
  lane_other q apart = get_or-set_other cluster.lanes lane q w (new_world q 0 0) apart

  pub changes_there : (sessions : NumberMap Session) → ChangesAt (ledgers_of cluster) (ledgers_of (record (with_lane cluster lane w) { sessions = sessions })) lane w.ledger
  changes_there sessions = grind (arith, lane_here, lane_other)

  pub lanes_there : (Steady : World → Type 0) (masters : ℕ) → ((q : ℕ) → q < length cluster.lanes → IsGoodLane Steady masters q (lane_at cluster q)) → IsGoodLane Steady masters lane w → (q : ℕ) → q < length (with_lane cluster lane w).lanes → IsGoodLane Steady masters q (lane_at (with_lane cluster lane w) q)
  lanes_there Steady masters good new q inside =
      ⊎_elim
      (λ (is : q ≡ lane).
      subst (λ (l : ℕ). IsGoodLane Steady masters l (lane_at (with_lane cluster lane w) l)) (sym is)
      (subst (IsGoodLane Steady masters lane) (sym lane_here) new))
      (λ (apart : q ≡ lane → ⊥).
      subst (IsGoodLane Steady masters q) (sym (lane_other q apart))
      (good q (let long = length-set cluster.lanes lane w in omega (arith, inside, long)))) (cases_eq q lane)

module _ (cluster : Cluster) (client : ℕ) (session : Session) where
  pub session_here : session_at (with_session cluster client session) client ≡ session
  session_here = ap (λ (o : Option Session). unwrap_or o (new_session client)) (get_same cluster.sessions client session client refl)

  -- what holds of each session
  pub each_session : (P : ℕ → Session → Type 0) → P client session → ((c : ℕ) → (c ≡ client → ⊥) → P c (session_at cluster c)) → (c : ℕ) → P c (session_at (with_session cluster client session) c)
  each_session P here other c = grind (arith, session_at, with_session, session_here, cases_eq, new_session, get_other)
