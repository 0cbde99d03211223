-- Lineages: what their truth is by what counts of each member, and that the first of two members is not the last one.
use Rattle.rk_inv_base.proofs.Words.{◌≡◌, ℕ, suc, List, [], ◌∷◌, Some, refl, sym, ap, ◌∙◌, arith, Contains, flat_map, Member, Range, Entry}
use Rattle.rk_inv_base.proofs.Words.{lineage_of, Phase, Base, last_of, Written, member_truth, lineage_truth, AreApart, IsFormed}
use Rattle.rk_inv_base.proofs.Words.{base_entries}

-- the truth of a lineage, by what counts of each member
abbrev pub truth_by : Base → (Range → Member → List Entry) → Range → List Member → List Entry
truth_by base sure range [] = base_entries base range
truth_by base sure range (member ∷ members) = flat_map (sure range) (member ∷ members)

pub truth_is : (base : Base) (written : ℕ → Written) (range : Range) (members : List Member) → lineage_truth base written range members ≡ truth_by base (member_truth written) range members
truth_is base written range [] = refl
truth_is base written range (member ∷ members) = refl

-- the last member is one of the lineage
pub last_stands : (members : List Member) (last : Member) → last_of members ≡ Some last → Contains members last
last_stands [] last is = absurd (cc)
last_stands (member ∷ []) last is = let same : member ≡ last = cc in (0, omega arith, same)
last_stands (member ∷ next ∷ more) last is =
    let rest = last_stands (next ∷ more) last is in (suc rest.0, omega (arith, rest.1), rest.2)

-- the lineage of a row in such a phase has at most two members, and they are two
pub formed_apart : (phase : Phase) → IsFormed phase → AreApart (lineage_of phase)
formed_apart phase formed = grind arith

-- so the first one is another master than the last one
pub first_not_last : (first next : Member) (more : List Member) (last : Member) → AreApart (first ∷ next ∷ more) → last_of (first ∷ next ∷ more) ≡ Some last → first.master ≡ last.master → ⊥
first_not_last first next [] last apart is same = let its : next ≡ last = cc is in apart (same ∙ sym (ap (λ (m : Member). m.master) its))
first_not_last first next (third ∷ more) last apart is same = absurd apart
