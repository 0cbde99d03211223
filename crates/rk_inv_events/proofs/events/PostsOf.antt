-- What a row is like when a master has a role of its tablet, by the table of posts and bonds.
use Rattle.std.proofs.Common.{List, None, Option, Some, [], arith, cond, eqb-true, false, length, ne_eqb, refl, true, ℕ, ◌<◌, ◌==◌}
use Rattle.std.proofs.Common.{◌||◌, ◌∷◌, ◌≡◌, ◌≤◌}
use Rattle.rk_transfer.specs.declared.role.Role.TheVariants as roles
use Rattle.rk_inv_base.proofs.Words.{Bystander, Ended, FirstRebuilder, FormerMember, Handover, Holds, InvitedTarget}
use Rattle.rk_inv_base.proofs.Words.{IsMovingOrOwned, JoinedIn, LastRebuilder, Member, Moving, MovingSource, MovingTarget, OnlyRebuilder}
use Rattle.rk_inv_base.proofs.Words.{Opening, OpeningSource, OutsideRebuilder, Owned, Owner, Phase, Post, ReadyTarget, Rebuilding, Rebuilt}
use Rattle.rk_inv_base.proofs.Words.{RebuiltIn, Role, bond_of, cond_both, is_granted, is_member, is_serving, lineage_of, post_of}
use Rattle.rk_inv_base.proofs.Words.{rebuilder_post, target_post, ⊤}

-- what a role asks of a post
abbrev pub Fits : Post → Role → ℕ → ℕ → ℕ → Type 0
Fits post role term own applied = Holds (bond_of post role) term own applied

-- a master has its post in a row of this phase
pub data HasPost (master : ℕ) : Phase → Post → Type 0 where
  owns : (from : ℕ) → HasPost master (Owned master from) (Owner from)
  gives : (sfrom target : ℕ) (dfrom : Option ℕ) → HasPost master (Opening master sfrom target dfrom) OpeningSource
  invited : (source sfrom : ℕ) → HasPost master (Opening source sfrom master None) InvitedTarget
  ready : (source sfrom dfrom : ℕ) → HasPost master (Opening source sfrom master (Some dfrom)) (ReadyTarget dfrom)
  gave : (sfrom target dfrom : ℕ) → HasPost master (Moving master sfrom target dfrom) MovingSource
  takes : (source sfrom dfrom : ℕ) → HasPost master (Moving source sfrom master dfrom) (MovingTarget dfrom)
  only_heir : (only : Member) → only.master ≡ master → HasPost master (Rebuilding (only ∷ []) master) (OnlyRebuilder only.from)
  first_heir :
      (first last : Member) (more : List Member) → first.master ≡ master
      → HasPost master (Rebuilding (first ∷ last ∷ more) master) (FirstRebuilder first.from)
  last_heir :
      (first last : Member) (more : List Member) → last.master ≡ master
      → HasPost master (Rebuilding (first ∷ last ∷ more) master) (LastRebuilder last.from)
  -- of two members it is none
  outside :
      (lineage : List Member) → (length lineage ≤ 2 → is_member lineage master ≡ false)
      → HasPost master (Rebuilding lineage master) OutsideRebuilder
  former : (lineage : List Member) (to : ℕ) → HasPost master (Rebuilding lineage to) FormerMember
  beside : (phase : Phase) → is_member (lineage_of phase) master ≡ false → HasPost master phase Bystander

heir : (lineage : List Member) (master : ℕ) → HasPost master (Rebuilding lineage master) (rebuilder_post lineage master)
heir [] master = outside [] (λ few. refl)
heir (only ∷ []) master =
    cond_both (only.master == master) (OnlyRebuilder only.from) OutsideRebuilder (HasPost master (Rebuilding (only ∷ []) master))
    (λ is. only_heir only (eqb-true only.master master is)) (λ is. outside (only ∷ []) (λ few i. is i || false))
heir (first ∷ last ∷ more) master =
    cond_both (first.master == master) (FirstRebuilder first.from) (cond (last.master == master) (LastRebuilder last.from) OutsideRebuilder) Has
    (λ is. first_heir first last more (eqb-true first.master master is))
    (λ one.
    cond_both (last.master == master) (LastRebuilder last.from) OutsideRebuilder Has
    (λ is. last_heir first last more (eqb-true last.master master is)) (λ two. outside (first ∷ last ∷ more) (neither one two more)))
  where
    Has : Post → Type 0
    Has = HasPost master (Rebuilding (first ∷ last ∷ more) master)

    neither : (first.master == master) ≡ false → (last.master == master) ≡ false → (more : List Member) → length (first ∷ last ∷ more) ≤ 2
        → is_member (first ∷ last ∷ more) master ≡ false
    neither one two [] few = λ i. one i || (two i || false)
    neither one two (other ∷ more) few = absurd (omega (arith, few))

told_target : (master source sfrom : ℕ) (dfrom : Option ℕ) → HasPost master (Opening source sfrom master dfrom) (target_post dfrom)
told_target master source sfrom None = invited source sfrom
told_target master source sfrom (Some place) = ready source sfrom place

pub has_post : (phase : Phase) (master : ℕ) → HasPost master phase (post_of phase master)
has_post (Owned owner from) master =
    cond_both (owner == master) (Owner from) Bystander (HasPost master (Owned owner from)) (λ is. rw (eqb-true owner master is) (owns from))
    (λ is. beside (Owned owner from) (λ i. is i || false))
has_post (Opening source sfrom target dfrom) master =
    let Has : Post → Type 0 = HasPost master (Opening source sfrom target dfrom) in
    cond_both (source == master) OpeningSource (cond (target == master) (target_post dfrom) Bystander) Has
    (λ is. rw (eqb-true source master is) (gives sfrom target dfrom))
    (λ one.
    cond_both (target == master) (target_post dfrom) Bystander Has
    (λ is. rw (eqb-true target master is) (told_target master source sfrom dfrom))
    (λ two. beside (Opening source sfrom target dfrom) (λ i. one i || false)))
has_post (Moving source sfrom target dfrom) master =
    let Has : Post → Type 0 = HasPost master (Moving source sfrom target dfrom) in
    cond_both (source == master) MovingSource (cond (target == master) (MovingTarget dfrom) Bystander) Has
    (λ is. rw (eqb-true source master is) (gave sfrom target dfrom))
    (λ one.
    cond_both (target == master) (MovingTarget dfrom) Bystander Has (λ is. rw (eqb-true target master is) (takes source sfrom dfrom))
    (λ two. beside (Moving source sfrom target dfrom) (λ i. one i || (two i || false))))
has_post (Rebuilding lineage to) master =
    let Has : Post → Type 0 = HasPost master (Rebuilding lineage to) in
    cond_both (to == master) (rebuilder_post lineage master) (cond (is_member lineage master) FormerMember Bystander) Has
    (λ is. rw (eqb-true to master is) (heir lineage master))
    (λ one.
    cond_both (is_member lineage master) FormerMember Bystander Has (λ is. former lineage to) (λ two. beside (Rebuilding lineage to) two))

-- a member that lives is not among those that another master rebuilds from
pub former_member : (lineage : List Member) (to master term own applied : ℕ) (role : Role) → (to ≡ master → ⊥) → is_member lineage master ≡ true
    → Fits (post_of (Rebuilding lineage to) master) role term own applied → ⊥
former_member lineage to master term own applied role differs member fits = grind (arith, ne_eqb)

-- ---- a role at the row's term

module _ (master term own applied : ℕ) (same : own ≡ term) where
  -- a target that pulls is that of a row that moves
  pub receiving_moves : (phase : Phase) → Fits (post_of phase master) roles.Receiving term own applied → IsMovingOrOwned phase
  receiving_moves phase = grind (arith, has_post)

  -- a target that has joined is that of a row that moves, or owns it
  pub joined_in : (entry : ℕ) (phase : Phase) (handover : Handover) → handover.role ≡ roles.Joining (Some entry) → handover.term ≡ term
      → entry < applied
      → Fits (post_of phase master) (roles.Joining (Some entry)) term own applied → JoinedIn phase handover applied term master
  joined_in entry phase handover role at closed = grind (arith, has_post)

  -- who has rebuilt a row is to rebuild it, or owns it
  pub rebuilt_in : (from entry : ℕ) (phase : Phase) (handover : Handover) (merged : List Ended) (rebuilt : Rebuilt)
      → handover.role ≡ roles.Rebuilding from (Some entry) → handover.term ≡ term → entry < applied
      → rebuilt.place ≡ from → rebuilt.ends ≡ merged → Fits (post_of phase master) (roles.Rebuilding from (Some entry)) term own applied
      → RebuiltIn phase handover merged applied term master rebuilt
  rebuilt_in from entry phase handover merged rebuilt role at closed placed ends = grind (arith, has_post)

-- ---- a master that gathers

-- a row in this phase is rebuilt by a master, whose term is the row's
pub record IsRebuiltAt (phase : Phase) (master own term : ℕ) : Type 0 where
  pub lineage : List Member
  pub phase_is : phase ≡ Rebuilding lineage master
  pub term_is : own ≡ term

pub gathering_row : (master place term own applied : ℕ) (phase : Phase)
    → Fits (post_of phase master) (roles.Rebuilding place None) term own applied → IsRebuiltAt phase master own term
gathering_row master place term own applied phase = grind (arith, has_post)

-- ---- a master that serves

-- what a post says of a master that serves there: only some posts let it
abbrev pub Serves : Post → Role → ℕ → ℕ → Type 0
Serves (Owner place) role term own = ⊤
Serves OpeningSource role term own = ⊤
Serves (MovingTarget place) role term own = is_granted role ≡ true
Serves (OnlyRebuilder place) role term own = own < term
Serves (LastRebuilder place) role term own = (is_granted role ≡ true) × (own < term)
Serves _ role term own = ⊥

pub serves_in : (post : Post) (role : Role) (term own applied : ℕ) → Fits post role term own applied → is_serving role ≡ true
    → Serves post role term own
serves_in post role term own applied fits serves = grind arith
