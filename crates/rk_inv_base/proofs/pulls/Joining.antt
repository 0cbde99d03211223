-- What a target that joins is to its row, and how what it copied shows what its source has.
use Rattle.rk_inv_base.proofs.Words.{arith, ◌≡◌, ℕ, ◌<◌, ◌⊎◌, Bool, true, false, cond, List, [], ◌∷◌, filter, fold, Option, Some, None}
use Rattle.rk_inv_base.proofs.Words.{refl, sym, ◌∙◌, ⊎_elim, inl, inr, ◌==◌, Contains, flat_map, eq-eqb, eqb-true, cond_both, false≢true}
use Rattle.rk_inv_base.proofs.Words.{Held, Member, Entry, lineage_of, Phase, Owned, Opening, Moving, Rebuilding, items_in, items_of}
use Rattle.rk_inv_base.proofs.Words.{is_member, with_number, Post, MovingSource, MovingTarget, Bystander, bond_of, post_of, rebuilder_post}
use Rattle.rk_inv_base.proofs.Words.{target_post, Holds, scan_items, IsFormed, filter_passes, All-contains}
use Rattle.rk_transfer.specs.declared.role.Role.TheVariants as roles
use Rattle.rk_tablet_map.specs.Phase.{member as member_at}
use Rattle.rk_inv_base.proofs.views.Among.{from_flat, number_from, to_flat}
use Rattle.rk_inv_base.proofs.calls.Records.{filter_from, filter_stands, scanned_from}

-- a master is the second of two members of a lineage; if it is to rebuild the row, it keeps a smaller term
pub record IsSecond (phase : Phase) (master term own : ℕ) : Type 0 where
  pub source : Member
  pub target : Member
  pub lineage_is : lineage_of phase ≡ source ∷ target ∷ []
  pub here : target.master ≡ master
  pub apart : source.master ≡ master → ⊥
  pub behind : (lineage : List Member) → phase ≡ Rebuilding lineage master → own < term

-- two numbers differ if a test says so
pub differ : (a b : ℕ) → (a == b) ≡ false → a ≡ b → ⊥
differ a b other same = false≢true (sym other ∙ eq-eqb a b same)

module _ (master term own applied : ℕ) where
  -- a master with this post joins a tablet
  abbrev Joins : Phase → Post → Type 0
  Joins phase post = Holds (bond_of post (roles.Joining None)) term own applied → IsSecond phase master term own

  of_target : (source sfrom target : ℕ) (dfrom : Option ℕ) → Joins (Opening source sfrom target dfrom) (target_post dfrom)
  of_target source sfrom target None holds = absurd holds
  of_target source sfrom target (Some place) holds = absurd holds

  of_rebuilder : (lineage : List Member) (to : ℕ) → IsFormed (Rebuilding lineage to) → Joins (Rebuilding lineage to) (rebuilder_post lineage master)
  of_rebuilder lineage to formed = grind (arith, cond_both, eqb-true, differ)

  -- it is the second of its row's two members
  pub joining_second : (phase : Phase) → IsFormed phase → Joins phase (post_of phase master)
  joining_second (Owned owner from) formed = grind (arith, cond_both)
  joining_second (Opening source sfrom target dfrom) formed = grind (arith, cond_both, target_post, of_target)
  joining_second (Moving source sfrom target dfrom) formed =
      cond_both (source == master) MovingSource (cond (target == master) (MovingTarget dfrom) Bystander)
      (Joins (Moving source sfrom target dfrom)) (λ e holds. absurd holds)
      (λ other.
      cond_both (target == master) (MovingTarget dfrom) Bystander (Joins (Moving source sfrom target dfrom))
      (λ e holds. record {
        source = member_at source sfrom;
        target = member_at target dfrom;
        lineage_is = refl;
        here = eqb-true target master e;
        apart = differ source master other;
        behind = λ lineage is. absurd (cc is);
      })
      (λ e holds. absurd holds))
  joining_second (Rebuilding lineage to) formed = grind (arith, cond_both, rebuilder_post, is_member, of_rebuilder)

-- ---- what is among some

-- what is kept of a list is in it, and passes the test
pub kept_stands : {X : Type 0} (p : X → Bool) (xs : List X) (x : X) → Contains (filter p xs) x → Contains xs x × (p x ≡ true)
kept_stands p xs x at =
    (filter_from p xs x at, All-contains (λ y. p y ≡ true) (filter p xs) x (filter_passes p xs) at)

-- and what is in it and passes is kept
pub stands_kept : {X : Type 0} (p : X → Bool) (xs : List X) (x : X) → Contains xs x → p x ≡ true → Contains (filter p xs) x
stands_kept p xs x at passes = filter_stands p xs x at passes

-- the items that entries leave are items of them
pub scanned : (list : List Entry) (item : Held) → Contains (scan_items list) item → Contains (items_of list) item
scanned list item at = scanned_from list item at

-- ---- side segments

module _ (sides : ℕ → List Entry) where
  -- the items of side segments
  abbrev pub items_at : List ℕ → List Held
  items_at numbers = items_of (flat_map sides numbers)

  -- an item of numbers to which others were added is one of either
  pub numbered : (some others : List ℕ) (item : Held) → Contains (items_at (fold with_number some others)) item → Contains (items_at some) item ⊎ Contains (items_at others) item
  numbered some others item at =
      let of = from_flat items_in (flat_map sides (fold with_number some others)) item at in
      let number = from_flat sides (fold with_number some others) of.0 of.1 in
      let among : (numbers : List ℕ) → Contains numbers number.0 → Contains (items_at numbers) item = λ numbers there.
      to_flat items_in (flat_map sides numbers) of.0 item (to_flat sides numbers number.0 of.0 there number.2) of.2 in
      ⊎_elim (λ there. inl (among some there)) (λ there. inr (among others there)) (number_from some others number.0 number.1)
