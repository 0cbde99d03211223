-- Who has something left to do in a lane sends on its turn: if nothing is sent, each row is owned by a master that lives, and nothing is
-- staged at one.
use Rattle.std.proofs.Common.{◌≡◌, ◌==◌, ◌<◌, ℕ, Bool, true, false, cond, not, List, [], ◌∷◌, All, filter, length, Option, None, Some, refl}
use Rattle.std.proofs.Common.{sym, ap, subst, ◌∙◌, inl, inr, ⊎_elim, arith, ◌⊎◌, unwrap_or, option_map, nat_cmp, eq-eqb, Contains}
use Rattle.rk_scripts.proofs.Words.{list_all, option_or, eq_by_cmp, and_from, false≢true, or_left, or_right, All-head, All-tail}
use Rattle.rk_scripts.proofs.Words.{same_number, NumberMap, get, numbers, Node, Entry, Phase, Owned, Row, Traffic, StepError, Called}
use Rattle.rk_scripts.proofs.Words.{Coordinator, IsWellFormed, Master, new_master, staged, IsOwnedLive, refusal, where_true, worn, HasRoom}
use Rattle.rk_scripts.proofs.Words.{world_stepped, happened, step, stepped_by, World, has_crashed, live_masters, master_at, has_applied_all}
use Rattle.rk_scripts.proofs.Words.{has_owners, is_owned_live, All_pairs, masters_in_order, AllCaughtUp, wire_counts, AllNoticed}
use Rattle.rk_scripts.proofs.Words.{NoDeadOwner, Event}
use Rattle.rk_runs.proofs.duties.Turns.{disowned_sends}
use Rattle.rk_inv_base.proofs.Words.{stands_cases}
use Rattle.rk_scripts.proofs.settle.Noticing.{in_where, stands_in, is_in}
use Rattle.rk_scripts.proofs.settle.Turning.{IsTurned, turn_turned}

-- a turn, if it is not refused
pub stepped_turned : (w : World) (node : Node) (called : Called) → IsTurned w (world_stepped w (step w (Event.Turn node) called))
stepped_turned w node called = grind (arith, refusal, world_stepped, stepped_by, turn_turned)

-- a wire on which more was sent is not as it was
no_more : (before after : Traffic) → after ≡ before → before.sent < after.sent → ⊥
no_more before after same more = let is = ap (λ (wire : Traffic). wire.sent) same in omega (arith, is, more)

-- ---- the coordinator

owned_tested : (w : World) (rows : List Row) → All (λ row. IsOwnedLive w.crashed row.phase) rows → list_all (λ (row : Row). is_owned_live w row.phase) rows ≡ true
owned_tested w [] all = refl
owned_tested w (row ∷ rows) all =
    and_from (is_owned_live w row.phase) (list_all (λ (row : Row). is_owned_live w row.phase) rows)
    (one row.phase (All-head (λ (row : Row). IsOwnedLive w.crashed row.phase) row rows all))
    (owned_tested w rows (All-tail (λ (row : Row). IsOwnedLive w.crashed row.phase) row rows all))
  where
    one : (phase : Phase) → IsOwnedLive w.crashed phase → is_owned_live w phase ≡ true
    one (Owned master from) lives = ap not lives
    one _ never = absurd never

-- if the coordinator sends nothing, each row is owned by a living master
pub coordinator_quiet : (w : World) (called : Called) → NoDeadOwner w.coordinator → AllNoticed w → worn w ≡ None
    → (world_stepped w (step w (Event.Turn Node.Coordinator) called)).wire ≡ w.wire → has_owners w ≡ true
coordinator_quiet w called free noticed fresh same = go (has_owners w) refl
  where
    none : refusal w (Event.Turn Node.Coordinator) ≡ None
    none = ap (λ (number : Option ℕ). option_or (option_map StepError.Worn number) None) fresh

    still : (happened w (Event.Turn Node.Coordinator) called).world.wire ≡ w.wire
    still = subst (λ (refused : Option StepError). (world_stepped w (stepped_by w (Event.Turn Node.Coordinator) called refused)).wire ≡ w.wire) none same

    go : (b : Bool) → has_owners w ≡ b → has_owners w ≡ true
    go true is = is
    go false is = absurd (no_more w.wire (happened w (Event.Turn Node.Coordinator) called).world.wire still
        (disowned_sends w free noticed called (λ all. false≢true (sym is ∙ owned_tested w w.coordinator.rows all))))

-- a turn leaves the owners as they are
pub owners_kept : (w now : World) → IsTurned w now → has_owners w ≡ true → has_owners now ≡ true
owners_kept w now turned owned = grind (arith, has_owners)

-- ---- masters

-- at each master that lives nothing is staged, or its turn is still to come
abbrev pub Waits : World → List ℕ → Type 0
Waits w coming = (master : ℕ) → has_crashed w master ≡ false → (staged (master_at w master) ≡ []) ⊎ (is_in master coming ≡ true)

-- a living master under a number is among those that live
lives_in : (w : World) (things : NumberMap Master) (master : ℕ) (thing : Master) → get things master ≡ Some thing → has_crashed w master ≡ false
    → is_in master (numbers (filter (λ (entry : ℕ × Master). not (has_crashed w entry.0)) things)) ≡ true
lives_in w [] master thing found lives = absurd (cc found)
lives_in w (first ∷ things) master thing found lives =
    go (λ later. lives_in w things master thing later lives) (eq_by_cmp nat_cmp master first.0) refl found
  where
    kept : NumberMap Master
    kept = filter (λ (entry : ℕ × Master). not (has_crashed w entry.0)) things

    behind : (b : Bool) → is_in master (numbers kept) ≡ true → is_in master (numbers (cond b (first ∷ kept) kept)) ≡ true
    behind true there = or_right (first.0 == master) (is_in master (numbers kept)) there
    behind false there = there

    go : (get things master ≡ Some thing → is_in master (numbers kept) ≡ true) → (b : Bool) → eq_by_cmp nat_cmp master first.0 ≡ b
        → cond b (Some first.1) (get things master) ≡ Some thing
        → is_in master (numbers (cond (not (has_crashed w first.0)) (first ∷ kept) kept)) ≡ true
    go later true is at =
        let same : master ≡ first.0 = same_number master first.0 is in
        let own : not (has_crashed w first.0) ≡ true = ap (λ (n : ℕ). not (has_crashed w n)) (sym same) ∙ ap not lives in
        subst (λ (b : Bool). is_in master (numbers (cond b (first ∷ kept) kept)) ≡ true) (sym own)
        (or_left (first.0 == master) (is_in master (numbers kept)) (eq-eqb first.0 master (sym same)))
    go later false is at = behind (not (has_crashed w first.0)) (later at)

-- before any turn each master that lives is still to take its own
pub waits_first : (w : World) → Waits w (numbers (live_masters w))
waits_first w master lives = grind (arith, staged, new_master, is_in, numbers, live_masters, lives_in)

-- a turn leaves what is staged
pub waits_kept : (w now : World) (coming : List ℕ) → IsTurned w now → Waits w coming → Waits now coming
waits_kept w now coming turned waits master lives = grind (arith, is_in)

-- if a master sends nothing on its turn, nothing is staged there
pub master_waits : (w : World) (number : ℕ) (coming : List ℕ) (called : Called) → IsWellFormed w → HasRoom w → AllCaughtUp w → worn w ≡ None
    → (world_stepped w (step w (Event.Turn (Node.Master number)) called)).wire ≡ w.wire → Waits w (number ∷ coming)
    → Waits (world_stepped w (step w (Event.Turn (Node.Master number)) called)) coming
master_waits w number coming called formed room caught fresh same waits =
    waits_kept w (world_stepped w (step w (Event.Turn (Node.Master number)) called)) coming (stepped_turned w (Node.Master number) called) now
  where
    still : has_crashed w number ≡ false → (happened w (Event.Turn (Node.Master number)) called).world.wire ≡ w.wire
    still lives =
        subst (λ (refused : Option StepError). (world_stepped w (stepped_by w (Event.Turn (Node.Master number)) called refused)).wire ≡ w.wire)
        (ap (λ (worn : Option ℕ). option_or (option_map StepError.Worn worn) (where_true (has_crashed w number) (StepError.Dead number))) fresh
        ∙ ap (λ (b : Bool). where_true b (StepError.Dead number)) lives)
        same

    own : has_crashed w number ≡ false → (list : List Entry) → staged (master_at w number) ≡ list → staged (master_at w number) ≡ []
    own lives [] is = is
    own lives (entry ∷ entries) is =
        absurd (no_more w.wire (happened w (Event.Turn (Node.Master number)) called).world.wire (still lives)
        (wire_counts w number called formed room.bytes caught (λ none. let never : entry ∷ entries ≡ [] = sym is ∙ none in cc never)))

    now : Waits w coming
    now master lives = ⊎_elim (λ (none : staged (master_at w master) ≡ []). inl none)
        (λ (there : is_in master (number ∷ coming) ≡ true).
        ⊎_elim
        (λ (one : number ≡ master).
        inl (subst (λ (m : ℕ). staged (master_at w m) ≡ []) one (own (ap (has_crashed w) one ∙ lives) (staged (master_at w number)) refl)))
        (λ (behind : Contains coming master). inr (in_where coming master behind))
        (stands_cases number coming master (stands_in (number ∷ coming) master there)))
        (waits master lives)

-- once all have taken their turns, nothing is staged at a master that lives
pub waits_none : (w : World) → IsWellFormed w → Waits w [] → has_applied_all w ≡ true
waits_none w formed waits = all_of w.masters
    (All_pairs (λ (number : ℕ) (master : Master). has_crashed w number ≡ false → staged master ≡ []) w.masters (masters_in_order w formed)
    (λ number master found lives.
    subst (λ (it : Option Master). staged (unwrap_or it (new_master number [])) ≡ []) found
    (⊎_elim (λ (none : staged (master_at w number) ≡ []). none) (λ (never : false ≡ true). absurd (false≢true never)) (waits number lives))))
  where
    all_of : (things : NumberMap Master) → All (λ (entry : ℕ × Master). has_crashed w entry.0 ≡ false → staged entry.1 ≡ []) things
        → list_all (λ (entry : ℕ × Master). length (staged entry.1) == 0) (filter (λ (entry : ℕ × Master). not (has_crashed w entry.0)) things) ≡ true
    all_of [] all = refl
    all_of (first ∷ things) all =
        go (all_of things (All-tail (λ (entry : ℕ × Master). has_crashed w entry.0 ≡ false → staged entry.1 ≡ []) first things all)) (has_crashed w first.0) refl
      where
        kept : NumberMap Master
        kept = filter (λ (entry : ℕ × Master). not (has_crashed w entry.0)) things

        go : list_all (λ (entry : ℕ × Master). length (staged entry.1) == 0) kept ≡ true → (b : Bool) → has_crashed w first.0 ≡ b
            → list_all (λ (entry : ℕ × Master). length (staged entry.1) == 0) (cond (not b) (first ∷ kept) kept) ≡ true
        go later true is = later
        go later false is =
            and_from (length (staged first.1) == 0) (list_all (λ (entry : ℕ × Master). length (staged entry.1) == 0) kept)
            (ap (λ (list : List Entry). length list == 0) (All-head (λ (entry : ℕ × Master). has_crashed w entry.0 ≡ false → staged entry.1 ≡ []) first things all is))
            later
