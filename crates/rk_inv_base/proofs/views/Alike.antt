-- Handovers that give the parts the same answers: who answers calls, and who waits for a grant.
use Rattle.rk_inv_base.proofs.Words.{arith, ◌≡◌, ℕ, Bool, true, cond, ltb, eqb, List, ◌∷◌, Option, Some, None, refl, sym, ap, ◌∙◌, ⊎_elim}
use Rattle.rk_inv_base.proofs.Words.{inl, inr, option_map, NumberMap, get, Member, Range, Entry, is_serving, Handover, lineage_of, Phase}
use Rattle.rk_inv_base.proofs.Words.{Moving, Row, Body, Handed, second_of, is_rebuilding, Written, member_truth, is_wanting, second_has}
use Rattle.rk_inv_base.proofs.Words.{is_waiting, handed_for_grant, handed_by, beginning_in, target_truth, Post, StillCounts, speaks}
use Rattle.rk_inv_base.proofs.Words.{as_frozen}
use Rattle.rk_transfer.specs.declared.role.Role.TheVariants as roles

-- two handovers, or one before and after, that answer alike
pub record IsAlike (old new : Handover) : Type 0 where
  pub same_serving : is_serving new.role ≡ is_serving old.role
  pub same_rebuilding : is_rebuilding new.role ≡ is_rebuilding old.role
  pub same_wanting : is_wanting new.role ≡ is_wanting old.role
  pub same_term : new.term ≡ old.term

-- all tablets of all masters
abbrev pub AreAlike : (ℕ → ℕ → Handover) → (ℕ → ℕ → Handover) → Type 0
AreAlike handovers now = (master number : ℕ) → IsAlike (handovers master number) (now master number)

-- a handover that closes answers alike once it is frozen
pub alike_frozen : (handover : Handover) → handover.role ≡ roles.Closing → IsAlike handover (as_frozen handover)
alike_frozen handover closing =
    assumption (ap is_serving (sym closing), ap is_rebuilding (sym closing), ap is_wanting (sym closing))

-- what a master has still counts as before, if it keeps the same term
pub still_counts : (live : Bool) (old new term : ℕ) → new ≡ old → StillCounts live new term → StillCounts live old term
still_counts live old new term same counts =
    ⊎_elim (λ (lives : live ≡ true). inl lives) (λ (at : new ≡ term). inr (sym same ∙ at)) counts

-- such tablets speak for a post alike
pub speaks_alike : (post : Post) (term : ℕ) (old new : Handover) → IsAlike old new → speaks post new term ≡ speaks post old term
speaks_alike post term old new alike = grind (arith, ltb)

-- the second member of a lineage waits alike
pub waits_alike : (row : Row) (handovers now : ℕ → ℕ → Handover) (member : Option Member) → AreAlike handovers now → is_waiting (second_has now row member) ≡ is_waiting (second_has handovers row member)
waits_alike row handovers now None alike = refl
waits_alike row handovers now (Some member) alike = (alike member.master row.tablet).same_wanting

-- what is kept for a grant counts alike
pub handed_for_grant_alike : (row : Row) (handovers now : ℕ → ℕ → Handover) (handed : NumberMap Handed) → AreAlike handovers now → handed_for_grant row now handed ≡ handed_for_grant row handovers handed
handed_for_grant_alike row handovers now handed alike =
    ap (λ (b : Bool). cond b (get handed row.tablet) None) (waits_alike row handovers now (second_of (lineage_of row.phase)) alike)

-- what a message hands over counts alike
pub handed_by_alike : (row : Row) (handovers now : ℕ → ℕ → Handover) (body : Body) → AreAlike handovers now → handed_by row now body ≡ handed_by row handovers body
handed_by_alike row handovers now body alike = grind (arith, eqb, second_of, lineage_of)

-- what the target of a row that moves has applied, behind what its source handed over, is the same if as much is applied
pub target_truth_same : (written now : ℕ → Written) (handed : NumberMap Handed) (row : Row) (phase : Phase) → ((range : Range) (m : Member) → member_truth now range m ≡ member_truth written range m) → target_truth now handed row phase ≡ target_truth written handed row phase
target_truth_same written now handed row (Moving source sfrom target dfrom) same =
    ap (λ (truth : List Entry). option_map (λ h. beginning_in row h ∷ truth) (get handed row.tablet))
    (same row.range (record { master = target; from = dfrom }))
target_truth_same written now handed row _ same = refl
