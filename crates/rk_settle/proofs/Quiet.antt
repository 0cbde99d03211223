-- A cluster that is found to be at rest is quiet.
use Rattle.std.proofs.Common.{◌≡◌, ◌==◌, ℕ, Bool, true, List, [], ◌∷◌, All, length, map, Option, None, Some, refl, is_none, eqb-true}
use Rattle.std.proofs.lemmas.Bool.{and_parts, not-true}
use Rattle.std.proofs.lemmas.List.{nil_from_length}
use Rattle.std.proofs.lemmas.List.Elements.{All-cons, All-map, All-nil}
use Rattle.std.specs.List.{list_all, list_any}
use Rattle.rk_types.specs.NumberMap.{NumberMap}
use Rattle.rk_types.specs.declared.call.Call.{Call}
use Rattle.rk_tablet_map.specs.declared.phase.Phase.{Phase}
use Rattle.rk_tablet_map.specs.declared.phase.Phase.TheVariants.{Owned}
use Rattle.rk_tablet_map.specs.declared.row.Row.{Row}
use Rattle.rk_world.specs.Client.{Session}
use Rattle.rk_world.specs.Cluster.{Cluster, IsQuietCluster}
use Rattle.rk_world.specs.Master.{Master, staged}
use Rattle.rk_world.specs.Quiet.{IsOwnedLive, IsQuiet}
use Rattle.rk_world.specs.World.{World, live_masters}
use Rattle.rk_cluster.specs.Quiet.{has_applied_all, has_owners, is_owned_live, is_quiet, is_quiet_lane}
use Rattle.rk_settle.specs.Rest.{is_at_rest, is_silent}

-- what a test shows holds of all, if all pass it
all_by : {X : Type 0} (test : X → Bool) (Holds : X → Type 0) → ((x : X) → test x ≡ true → Holds x) → (xs : List X) → list_all test xs ≡ true → All Holds xs
all_by test Holds tells [] is = All-nil Holds
all_by test Holds tells (x ∷ xs) is =
    let both = and_parts (test x) (list_all test xs) is in
    All-cons Holds x xs (tells x both.0) (all_by test Holds tells xs both.1)

owned_live : (w : World) (phase : Phase) → is_owned_live w phase ≡ true → IsOwnedLive w.crashed phase
owned_live w (Owned master from) is = not-true (list_any (λ dead. dead == master) w.crashed) is
owned_live w phase is = absurd (cc is)

none_there : (call : Option Call) → is_none call ≡ true → call ≡ None
none_there None is = refl
none_there (Some call) is = absurd (cc is)

answered : (sessions : NumberMap Session) → list_all (λ entry. is_none entry.1.outstanding) sessions ≡ true
    → All (λ session. session.outstanding ≡ None) (map (λ entry. entry.1) sessions)
answered sessions is =
    All-map (λ (session : Session). session.outstanding ≡ None) (λ (entry : ℕ × Session). entry.1) sessions
    (all_by (λ (entry : ℕ × Session). is_none entry.1.outstanding) (λ entry. entry.1.outstanding ≡ None)
    (λ entry passes. none_there entry.1.outstanding passes) sessions is)

quiet_lane : (sessions : NumberMap Session) (w : World) → list_all (λ entry. is_none entry.1.outstanding) sessions ≡ true → is_quiet_lane w ≡ true
    → IsQuiet w.coordinator.rows w.crashed (live_masters w) (map (λ entry. entry.1) sessions)
quiet_lane sessions w none is =
    let both = and_parts (has_owners w) (has_applied_all w) is in
    record {
      owned = all_by (λ (row : Row). is_owned_live w row.phase) (λ row. IsOwnedLive w.crashed row.phase)
          (λ row passes. owned_live w row.phase passes) w.coordinator.rows both.0;
      settled = all_by (λ (entry : ℕ × Master). length (staged entry.1) == 0) (λ entry. staged entry.1 ≡ [])
          (λ entry passes. nil_from_length (staged entry.1) (eqb-true (length (staged entry.1)) 0 passes)) (live_masters w) both.1;
      answered = answered sessions none;
    }

pub quiet_cluster : (cluster : Cluster) → is_quiet cluster ≡ true → IsQuietCluster cluster
quiet_cluster cluster is =
    let both = and_parts (list_all is_quiet_lane cluster.lanes) (list_all (λ (entry : ℕ × Session). is_none entry.1.outstanding) cluster.sessions) is in
    all_by is_quiet_lane (λ w. IsQuiet w.coordinator.rows w.crashed (live_masters w) (map (λ (entry : ℕ × Session). entry.1) cluster.sessions))
    (λ w passes. quiet_lane cluster.sessions w both.1 passes) cluster.lanes both.0

-- so is a cluster that is at rest
pub rests_quiet : (cluster : Cluster) → is_at_rest cluster ≡ true → IsQuietCluster cluster
rests_quiet cluster is = quiet_cluster cluster (and_parts (is_quiet cluster) (list_all is_silent cluster.lanes) is).0
