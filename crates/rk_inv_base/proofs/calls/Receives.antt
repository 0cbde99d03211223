-- Targets of rows, and masters that made ready, by what they have written.
use Rattle.rk_inv_base.proofs.Words.{◌≡◌, ℕ, ◌≤◌, ◌<◌, true, false, List, [], ◌∷◌, ◌++◌, refl, arith, IfSome, Option, Contains, flat_map}
use Rattle.rk_inv_base.proofs.Words.{All-weaker, All-contains_itself, Held, Member, Range, Entry, is_serving, Handover, Role, Row, Base}
use Rattle.rk_inv_base.proofs.Words.{Handed, items_of, floor_of, is_absent, Pulling, Written, lineage_truth, member_material, member_truth}
use Rattle.rk_inv_base.proofs.Words.{IsBare, IsTarget, wanted_place}
use Rattle.rk_transfer.specs.declared.role.Role.TheVariants as roles
use Rattle.rk_inv_base.proofs.logs.Floors.{floor_above, floor_append}
use Rattle.rk_inv_base.proofs.calls.Targets.{AreBelow}

-- a target of a row, by what its source and it have written
abbrev pub IsTargetIn : (ℕ → Written) → Row → Member → Member → Handover → Pulling → Option Handed → List Held → Type 0
IsTargetIn written row source target handover pulling handed table =
    IsTarget row.range source.master (member_truth written row.range source) (member_material written row.range source)
    target.from (written target.master) handover pulling handed table

-- a master that made ready for a tablet has nothing of it
abbrev pub IsBareOf : Handover → Written → List Held → Type 0
IsBareOf handover written table = IfSome (wanted_place handover.role) (λ from. IsBare handover.range from written table)

-- an item that is above all that counts for a row is above each one of its source
pub above_source : (base : Base) (range : Range) (written : ℕ → Written) (rest : List Entry) (source target : Member) (item : Held) → floor_of (lineage_truth base written range (source ∷ target ∷ []) ++ rest) ≤ item.version → AreBelow (items_of (member_truth written range source)) item
above_source base range written rest source target item low =
    let first : List Entry = member_truth written range source in
    let others : List Entry = flat_map (member_truth written range) (target ∷ []) in
    let under : floor_of first ≤ floor_of ((first ++ others) ++ rest) =
    let one = floor_append 1 first others in
    let two = floor_append 1 (first ++ others) rest in
    omega (arith, one, two) in
    All-weaker (Contains (items_of first)) (λ (other : Held). other.version < item.version)
    (λ (other : Held) at. let below = floor_above first other at in omega (arith, below, under, low))
    (items_of first) (All-contains_itself (items_of first))

-- a role that serves waits for nothing
pub serving_waits : (role : Role) (P : ℕ → Type 0) → is_serving role ≡ true → IfSome (wanted_place role) P
serving_waits (roles.Wanting from) P serves = absurd (cc)
serving_waits role P serves = tt

-- what waits is not absent
pub waits_then : (role : Role) (P Q : ℕ → Type 0) → (is_absent role ≡ false → (from : ℕ) → P from → Q from) → IfSome (wanted_place role) P → IfSome (wanted_place role) Q
waits_then (roles.Wanting from) P Q then holds = then refl from holds
waits_then role P Q then holds = tt
