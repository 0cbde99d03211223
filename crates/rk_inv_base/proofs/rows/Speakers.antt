-- Who answers calls of a row: one living master at most, and while it does, no grant is awaited and no Transfer counts.
use Rattle.rk_inv_base.proofs.Words.{arith, ◌≡◌, ℕ, Bool, true, false, ltb, eqb, List, Option, Some, None, refl, subst, ne_eqb}
use Rattle.rk_inv_base.proofs.Words.{eqb-true, cases_eq, cond-false, cond_both, or_left, and_left, and_right, ⊤, NumberMap, Ended, Member}
use Rattle.rk_inv_base.proofs.Words.{Node, Segments, Completions, is_serving, Handover, Role, lineage_of, Phase, Owned, Opening, Moving}
use Rattle.rk_inv_base.proofs.Words.{Rebuilding, Row, Log, Transfer, Body, Handed, is_member, second_of, last_of, is_rebuilding, Written}
use Rattle.rk_inv_base.proofs.Words.{is_wanting, second_has, is_waiting, is_waiting_at, handed_by, SaysOf, Post, InvitedTarget, ReadyTarget}
use Rattle.rk_inv_base.proofs.Words.{MovingSource, FormerMember, Bystander, target_post, rebuilder_post, post_of, bond_of, Holds, speaks}
use Rattle.rk_inv_base.proofs.Words.{RoleFits, IsFormed}
use Rattle.rk_message.specs.declared.message.Body.TheVariants as bodies

-- a master that serves speaks, whatever its post
pub speaks_serving : (post : Post) (handover : Handover) (term : ℕ) → is_serving handover.role ≡ true → speaks post handover term ≡ true
speaks_serving post handover term serves = grind (arith, or_left, is_serving, is_rebuilding, ltb)

-- posts in which no master serves
abbrev pub IsQuiet : Post → Type 0
IsQuiet InvitedTarget = ⊤
IsQuiet (ReadyTarget place) = ⊤
IsQuiet MovingSource = ⊤
IsQuiet FormerMember = ⊤
IsQuiet Bystander = ⊤
IsQuiet _ = ⊥

pub quiet_role : (post : Post) (role : Role) (term own applied : ℕ) → IsQuiet post → Holds (bond_of post role) term own applied → is_serving role ≡ true → ⊥
quiet_role duty role term own applied quiet fits serves = grind arith

-- a master in such a post does not speak
pub quiet_says : (post : Post) (handover : Handover) (term applied : ℕ) → IsQuiet post → Holds (bond_of post handover.role) term handover.term applied → speaks post handover term ≡ true → ⊥
quiet_says post handover term applied quiet fits says = grind (arith, quiet_role)

-- the only master that may speak for a row in this phase
abbrev pub speaker_of : Phase → ℕ
speaker_of (Owned owner from) = owner
speaker_of (Opening source sfrom target dfrom) = source
speaker_of (Moving source sfrom target dfrom) = target
speaker_of (Rebuilding lineage to) = to

-- each other one is in a post in which none serves
pub quiet_others : (phase : Phase) (q : ℕ) → (q ≡ speaker_of phase → ⊥) → IsQuiet (post_of phase q)
quiet_others phase q apart = grind (arith, cond-false, eqb, ne_eqb, target_post, cond_both, rebuilder_post, is_member)

-- so a master whose role fits its post and that speaks is that one
pub speaker_is : (row : Row) (q : ℕ) (handover : Handover) (applied : ℕ) → RoleFits row q handover applied → speaks (post_of row.phase q) handover row.term ≡ true → q ≡ speaker_of row.phase
speaker_is row q handover applied fits says = grind (arith, quiet_says, post_of, quiet_others, cases_eq)

pub none_waits : (row : Row) (handovers : ℕ → ℕ → Handover) (phase : Phase) (last : Member) → IsFormed phase → last_of (lineage_of phase) ≡ Some last → is_serving (handovers last.master row.tablet).role ≡ true → is_waiting (second_has handovers row (second_of (lineage_of phase))) ≡ false
none_waits row handovers phase last formed is serves = grind (arith, is_serving)

-- what waits at no term waits at none
pub waiting_at : (other : Option Handover) (term : ℕ) → is_waiting other ≡ false → is_waiting_at other term ≡ false
waiting_at None term none = refl
waiting_at (Some handover) term none = and_left (is_wanting handover.role) (eqb handover.term term) none

pub transfer_hands : (row : Row) (logs : ℕ → Log) (written : ℕ → Written) (stored : ℕ → Segments) (handovers : ℕ → ℕ → Handover) (completions : ℕ → ℕ → Completions) (merged : ℕ → ℕ → List Ended) (live : ℕ → Bool) (handed : NumberMap Handed) (from to : Node) (transfer : Transfer)
    → SaysOf row logs written stored handovers completions merged live handed from to (bodies.Transfer transfer) → is_serving (handovers (speaker_of row.phase) row.tablet).role ≡ true
    → handed_by row handovers (bodies.Transfer transfer) ≡ None
transfer_hands row logs written stored handovers completions merged live handed from to transfer says serves =
    grind (arith, eqb, eqb-true, is_serving)

-- of a row no message hands anything over while the last member of its lineage, its speaker, serves
pub none_hands : (row : Row) (logs : ℕ → Log) (written : ℕ → Written) (stored : ℕ → Segments) (handovers : ℕ → ℕ → Handover) (completions : ℕ → ℕ → Completions) (merged : ℕ → ℕ → List Ended) (live : ℕ → Bool) (handed : NumberMap Handed) (from to : Node) (body : Body) (last : Member)
    → SaysOf row logs written stored handovers completions merged live handed from to body → IsFormed row.phase → last_of (lineage_of row.phase) ≡ Some last → last.master ≡ speaker_of row.phase
    → is_serving (handovers last.master row.tablet).role ≡ true → handed_by row handovers body ≡ None
none_hands row logs written stored handovers completions merged live handed from to (bodies.Transfer transfer) last says formed is speaker serves =
    transfer_hands row logs written stored handovers completions merged live handed from to transfer says (subst (λ (m : ℕ). is_serving (handovers m row.tablet).role ≡ true) speaker serves)
none_hands row logs written stored handovers completions merged live handed from to (bodies.Grant grant) last says formed is speaker serves =
    cond-false _ (Some (record { floor = grant.floor; ends = grant.ends })) None
    (and_right (eqb grant.tenure.tablet row.tablet) (is_waiting_at (second_has handovers row (second_of (lineage_of row.phase))) grant.tenure.term)
    (waiting_at (second_has handovers row (second_of (lineage_of row.phase))) grant.tenure.term (none_waits row handovers row.phase last formed is serves)))
none_hands row logs written stored handovers completions merged live handed from to _ last says formed is speaker serves = refl
