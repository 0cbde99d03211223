-- A source may take the role in which it closes a tablet at a greater term, as its row asks it to, or when it is to rebuild the tablet
-- that was its alone.
use Rattle.rk_inv_base.proofs.Words.{◌⊎◌, ◌≡◌, ℕ, ◌<◌, ◌≤◌, true, List, [], ◌∷◌, arith, Member, role_closed, Handover, lineage_of}
use Rattle.rk_inv_base.proofs.Words.{Phase, Row, is_member, IsClosing, IsOnlyRebuilder, IsOwner, MayTakeRole, Post, post_of, bond_of, Holds}
use Rattle.rk_inv_base.proofs.Words.{speaks, View, SoundView, MayClose, as_closing}
use Rattle.rk_transfer.specs.declared.role.Role.TheVariants as roles
use Rattle.rk_inv_base.proofs.Base.{row_in}

-- ---- who may close

-- a lineage has one member, which is this master
pub record IsAlone (lineage : List Member) (master : ℕ) : Type 0 where
  pub only : Member
  pub lineage_is : lineage ≡ only ∷ []
  pub member : is_member lineage master ≡ true

-- what a post that closes at a term says of it
pub record Closes (post : Post) (term own applied : ℕ) : Type 0 where
  pub owner : IsOwner post own term
  pub fits : Holds (bond_of post roles.Closing) term own applied
  pub says : (old : Handover) → speaks post (as_closing own old) term ≡ true → speaks post old term ≡ true

-- a Close may be followed by a phase at a term
abbrev pub Follows : Phase → ℕ → ℕ → ℕ → Type 0
Follows phase term master at =
    ((at ≡ term) × IsClosing phase master) ⊎ ((at < term) × IsOnlyRebuilder (post_of phase master))

-- ---- a source closes

module _ (v : View) (row : Row) (master term : ℕ) (sound : SoundView v) (may : MayClose v row master term) where
  abbrev old : Handover
  old = v.handovers master row.tablet

  abbrev applied : ℕ
  applied = (v.written master).applied

  alone : IsAlone (lineage_of row.phase) master
  alone = grind arith

  closes : Closes (post_of row.phase master) row.term term applied
  closes = grind arith

  within : term ≤ row.term
  within = omega (arith, may.may_follow)

  ranged : old.range ≡ row.range
  ranged = grind (arith, row_in, alone)

  pub takes_role : MayTakeRole v row master (as_closing term old)
  takes_role = grind (arith, within, alone, ranged, closes, role_closed, speaks)
