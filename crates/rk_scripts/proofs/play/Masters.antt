-- What a lane of a run and the session of a client name: masters that are there.
use Rattle.std.proofs.Common.{◌≡◌, ℕ, ◌<◌, not, find, Option, None, Some, refl, sym, ap, subst, ◌∙◌, arith, IfSome, w32, All}
use Rattle.rk_scripts.proofs.Words.{range_with_len, All-filter, All-map, get_or-range_with_len, length-range_with_len, numbers, Call, LANES}
use Rattle.rk_scripts.proofs.Words.{IsNumber, row_of, Row, known_owner, Cluster, lane_at, session_at, limits_of, Master, IsMaster, World}
use Rattle.rk_scripts.proofs.Words.{has_crashed, live_masters, NamesMasters, unnoticed, IsGoodLane, Lasts, all_before}
use Rattle.rk_session.specs.Owners.{owner_by_call}
use Rattle.rk_settle.proofs.Found.{first_holds, owner_there, row_names}
use Rattle.rk_settle.specs.Lawful.{AreNamed}
use Rattle.rk_settle.specs.Settle.{is_unnoticed}
use Rattle.rk_runs.proofs.history.Clusters.{IsGoodSession}
use Rattle.rk_scripts.proofs.play.Reaching.{IsReached, lane_good, reached_eight, reached_good}

-- ---- masters that live

-- the numbers from 1 on are those of masters
counted_are : (masters : ℕ) → All (IsMaster masters) (range_with_len 1 masters)
counted_are masters k d within = grind (arith, length-range_with_len, get_or-range_with_len)

module _ (masters backups : ℕ) (cluster : Cluster) (reached : IsReached masters backups cluster) where
  module _ (lane : ℕ) (inside : lane < LANES) where
    good : IsGoodLane Lasts masters lane (lane_at cluster lane)
    good = lane_good masters backups cluster reached lane inside

    -- the source and the target of a row that migrates
    named_there : (tablet : ℕ) (row : Row) → row_of (lane_at cluster lane).coordinator.rows tablet ≡ Some row → AreNamed masters row.phase
    named_there tablet row found =
        let w : World = lane_at cluster lane in
        subst (λ (count : ℕ). AreNamed count row.phase) good.masters_are
        (subst (λ (o : Option Row). IfSome o (λ row. AreNamed (limits_of w).masters row.phase)) found
        (row_names (limits_of w) w.coordinator.rows tablet good.formed.coordinator.rows))

    -- the masters that live
    live_there : All (IsMaster masters) (numbers (live_masters (lane_at cluster lane)))
    live_there =
        let w : World = lane_at cluster lane in
        let numbered : numbers w.masters ≡ range_with_len 1 masters = good.formed.masters_are ∙ ap (range_with_len 1) good.masters_are in
        let all : All (IsMaster masters) (numbers w.masters) = subst (All (IsMaster masters)) (sym numbered) (counted_are masters) in
        All-map (IsMaster masters) (λ entry. entry.0) (live_masters w)
        (All-filter (λ entry. not (has_crashed w entry.0)) (λ (entry : ℕ × Master). IsMaster masters entry.0) w.masters
        (all_before (IsMaster masters) (λ (entry : ℕ × Master). entry.0) w.masters all))

    -- a master that has crashed and was not noticed, if there is one
    unnoticed_there : IfSome (unnoticed (lane_at cluster lane)) (IsMaster masters)
    unnoticed_there =
        subst (λ (count : ℕ). IfSome (find (is_unnoticed (lane_at cluster lane)) (range_with_len 1 count)) (IsMaster masters)) (sym good.masters_are)
        (first_holds (IsMaster masters) (is_unnoticed (lane_at cluster lane)) (range_with_len 1 masters) (counted_are masters))

  -- ---- clients

  owner_by : (client : ℕ) (out : Option Call) → (session_at cluster client).outstanding ≡ out → IfSome (owner_by_call (session_at cluster client) out) (IsMaster masters)
  owner_by client None is = tt
  owner_by client (Some call) is =
      let mine : IsGoodSession masters client (session_at cluster client) = (reached_good masters backups cluster reached).sessions client in
      let number : IsNumber w32 1 client = subst (λ (out : Option Call). IfSome out (λ call. IsNumber w32 1 client)) is mine.lawful in
      subst (λ (out : Option Call). IfSome (owner_by_call (session_at cluster client) out) (IsMaster masters)) is
      (owner_there masters (session_at cluster client) (mine.acts number))

  -- the owner that a client knows
  owner_known : (client : ℕ) → IfSome (known_owner (session_at cluster client)) (IsMaster masters)
  owner_known client = owner_by client (session_at cluster client).outstanding refl

  -- a cluster that a run has come to names masters that are there
  pub names_masters : NamesMasters masters cluster
  names_masters = record {
    eight = reached_eight masters backups cluster reached;
    rows = λ lane tablet row inside is. named_there lane inside tablet row is;
    live = λ lane inside. live_there lane inside;
    unnoticed_is = λ lane inside. unnoticed_there lane inside;
    owners = λ client. owner_known client;
  }
