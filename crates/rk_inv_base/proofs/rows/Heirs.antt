-- Heirs: masters that are to rebuild a tablet. An heir that has not begun keeps a smaller term than the row's.
use Rattle.rk_inv_base.proofs.Words.{arith, ◌≡◌, List, eq-eqb, false, ℕ, ◌<◌, FirstRebuilder, Holds, LastRebuilder, Member, OnlyRebuilder}
use Rattle.rk_inv_base.proofs.Words.{OutsideRebuilder, Post, Rebuilding, Role, bond_of, cond-true, cond_both, is_member, is_rebuilding}
use Rattle.rk_inv_base.proofs.Words.{post_of, rebuilder_post, ⊤}

-- posts of a master that is to rebuild a tablet
abbrev pub IsHeir : Post → Type 0
IsHeir (OnlyRebuilder place) = ⊤
IsHeir (FirstRebuilder place) = ⊤
IsHeir (LastRebuilder place) = ⊤
IsHeir OutsideRebuilder = ⊤
IsHeir _ = ⊥

pub heir_post : (lineage : List Member) (master : ℕ) → IsHeir (rebuilder_post lineage master)
heir_post lineage master = grind (arith, cond_both)

pub not_begun : (lineage : List Member) (q : ℕ) (role : Role) (term own applied : ℕ) → is_rebuilding role ≡ false → Holds (bond_of (post_of (Rebuilding lineage q) q) role) term own applied → own < term
not_begun lineage q role term own applied idle holds = grind (arith, rebuilder_post, heir_post, bond_of, cond-true, is_member, eq-eqb)
