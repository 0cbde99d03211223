-- The clients of each lane stay those with sessions at all moves of a settling command.
use Rattle.std.proofs.Common.{arith, ◌≡◌, ℕ, zero, suc, List, [], ◌∷◌, length, Option, refl, inl, inr, ⊎_elim}
use Rattle.rk_scripts.proofs.Words.{Call, Cluster, Fate, advance, Course, moved, moved_all, moved_by, priority, serve_by, settle, Reach}
use Rattle.rk_scripts.proofs.settle.AddingNobody.{Advances, Hastens, Serves, Settles, all_own}
use Rattle.rk_scripts.proofs.settle.OwnTasks.{Each, Goes, IsOwn, Precedes, joined_own, weaker_own}
use Rattle.rk_scripts.proofs.settle.Owning.{HasOwnClients}
use Rattle.rk_scripts.proofs.settle.Tasks.{Task}

-- fewer moves from a task on nobody is added either
fewer_moves : (n : ℕ) (task : Task) → IsOwn (suc n) task → IsOwn n task
fewer_moves zero task own = tt
fewer_moves (suc n) task own = λ course fate rest clients.
    let goes : Goes (IsOwn (suc n)) course rest (moved_by course fate (task ∷ rest)) = own course fate rest clients in
    record {
      own = goes.own;
      left = ⊎_elim (λ (same : (moved_by course fate (task ∷ rest)).tasks ≡ course.tasks). inl same)
          (λ (behind : Precedes (IsOwn (suc n)) rest (moved_by course fate (task ∷ rest)).tasks).
          inr (record { more = behind.more; are = weaker_own (IsOwn (suc n)) (IsOwn n) (fewer_moves n) behind.more behind.are; is = behind.is }))
          goes.left;
    }

-- a course in which nobody is added at any move
pub record IsOwnCourse (n : ℕ) (course : Course) : Type 0 where
  pub own : HasOwnClients course.cluster
  pub left : Each (IsOwn n) course.tasks

moved_own : (n : ℕ) (course : Course) (fate : Fate) (left : List Task) → course.tasks ≡ left → HasOwnClients course.cluster → Each (IsOwn (suc n)) left
    → IsOwnCourse n (moved_by course fate left)
moved_own n course fate left is own each = grind (arith, moved_by, weaker_own, fewer_moves, joined_own)

-- the clients of each lane are those with sessions after all moves
pub moves_own : (fates : List Fate) (course : Course) → IsOwnCourse (length fates) course → HasOwnClients (moved_all course fates).cluster
moves_own [] course is = is.own
moves_own (fate ∷ fates) course is =
    moves_own fates (moved course fate) (moved_own (length fates) course fate course.tasks refl is.own is.left)

module _ (n : ℕ) where
  pub serve_own : (client : ℕ) (out : Option Call) → Each (IsOwn n) (serve_by client out)
  serve_own client out = all_own n _ (Serves client out)

  pub advance_own : (cluster : Cluster) (tablet : ℕ) (reach : Reach) → Each (IsOwn n) (advance cluster tablet reach)
  advance_own cluster tablet reach = all_own n _ (Advances cluster tablet reach)

  pub priority_own : (cluster : Cluster) (tablet : ℕ) → Each (IsOwn n) (priority cluster tablet)
  priority_own cluster tablet = all_own n _ (Hastens cluster tablet)

  pub settle_own : (cluster : Cluster) → Each (IsOwn n) (settle cluster)
  settle_own cluster = all_own n _ (Settles cluster)
