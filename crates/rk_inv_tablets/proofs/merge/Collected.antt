-- What a rebuild has gathered, once all is, records no end that the truth or the rest of its row does not, and so does what it merges.
use Rattle.std.proofs.Common.{◌≡◌, ℕ, zero, suc, ◌≤◌, ◌⊎◌, Bool, true, false, cond, List, [], ◌∷◌, ◌++◌, filter, length, None, refl, sym}
use Rattle.std.proofs.Common.{ap, ◌∙◌, subst, ⊎_elim, inl, inr, arith, ◌==◌, All, not, Contains, eq-eqb, eqb-true, ◌<◌, max, take, flat_map}
use Rattle.rk_inv_base.proofs.Words.{cond_both, cond-true, false≢true, or_from, All-append, All-contains, All-contains_itself, All-nil}
use Rattle.rk_inv_base.proofs.Words.{All-weaker, Contains-append_left, Contains-append_right, Ended, Member, Range, Entry, completions_from}
use Rattle.rk_inv_base.proofs.Words.{ends_of, lineage_of, Phase, Rebuilding, known_of, told, Gather, Gathered, LAST_MAIN_SEGMENT, by_member}
use Rattle.rk_inv_base.proofs.Words.{counted_of, is_member, unmarked_from, as_entries, counting, own_place, Written, member_material}
use Rattle.rk_inv_base.proofs.Words.{stored_of, FormerMember, Bystander, Holds, bond_of, post_of, rebuilder_post, IsGathered, MarkedFit}
use Rattle.rk_inv_base.proofs.Words.{NeededOf, READ_BACKUP, TellNoMore, closing_carried, member_marked, member_stored, AreApart, IsFormed}
use Rattle.rk_inv_base.proofs.Words.{View, false_from_ne_true, cases_lt, Contains-append_cases, Base, item_end, items_of, told_by, counts}
use Rattle.rk_inv_base.proofs.Words.{joined_from, named, side_entries, lineage_rest, lineage_truth, member_rest, member_truth, NamedFit}
use Rattle.rk_inv_base.proofs.Words.{FirstIsDone, OnlyIsUnnamed}
use Rattle.rk_inv_tablets.proofs.Words.{member as member_at, kept_stands, each_member, members_by, all_by, former_gone, IsToldIn}
use Rattle.rk_inv_tablets.proofs.Words.{own_entries, row_in, stands_kept}
use Rattle.rk_inv_tablets.proofs.crash.MergeTells.{IsToldBy, all_stand_told, all_told, piece_told, read_all, read_told, stands_told}
use Rattle.rk_inv_tablets.proofs.crash.MergeTells.{told_through, item_told}
use Rattle.rk_inv_tablets.proofs.crash.ReadTold.{AreMarksTold, counted_told, side_material}
use Rattle.rk_inv_tablets.proofs.crash.Unmarked.{first_among, marked_stands, first_stands, free_place, free_stands, joined_applied}
use Rattle.rk_inv_tablets.proofs.merge.Merging.{Merging, fit, gathers, merged, old, own_is, piece, rebuilder, rebuilt, some, rebuilt_row}
use Rattle.rk_inv_tablets.proofs.ready.OwnItems.{flat_stands, none_stands, one_stands, two_stand, flat_from, sides_into}
use Rattle.rk_inv_tablets.proofs.crash.OwnPiece.{member_backed}
use Rattle.rk_inv_tablets.proofs.crash.MarksTold.{sides_named}
use Rattle.rk_transfer.specs.declared.role.Role.TheVariants as roles

-- ---- the last member

module _ (written : ℕ → Written) (range : Range) (m : Member) where
  abbrev w : Written
  w = written m.master

  -- an entry is in what is applied of a member, or in its rest
  abbrev StandsIn : Entry → Type 0
  StandsIn e = Contains (member_truth written range m) e ⊎ Contains (member_rest written range m) e

  -- as one of its own is
  main_stands : (e : Entry) → Contains (counting range (unmarked_from w.marks m.from w.entries)) e → StandsIn e
  main_stands e at =
      let kept = kept_stands (counts range) (unmarked_from w.marks m.from w.entries) e at in
      let is = free_place w.marks m.from w.entries e kept.0 in
      ⊎_elim
      (λ (applied : is.place < w.applied).
      inl (Contains-append_left _ _ e (first_stands w.marks range m.from w.applied w.entries e is applied kept.1)))
      (λ (waits : w.applied ≤ is.place).
      inr (stands_kept (counts range) (unmarked_from w.marks (max m.from w.applied) w.entries) e
      (free_stands w.marks (max m.from w.applied) w.entries e
      (record { place = is.place; behind = omega (arith, is.behind, waits); stands = is.stands; free = is.free })) kept.1))
      (cases_lt is.place w.applied)

  -- and what it names is, if no Joined waits
  side_stands : joined_from range (max m.from w.applied) w.entries ≡ [] → (e : Entry) → Contains (side_material range m w) e → Contains (member_truth written range m) e
  side_stands none e at =
      let free : List Entry = unmarked_from w.marks m.from w.entries in
      let sure : List Entry = unmarked_from w.marks m.from (take w.applied w.entries) in
      let kept = kept_stands (counts range) (flat_map (side_entries w.sides) (named range free)) e at in
      let side : List Entry = flat_map (side_entries w.sides) (named range sure) in
      Contains-append_right (counting range sure) (counting range side) e
      (stands_kept (counts range) side e
      (sides_into range (side_entries w.sides) free sure (joined_applied range w m.from none) e kept.0) kept.1)

-- ---- a lineage

-- all that its members have written, marked pieces apart
abbrev pub all_material : (ℕ → Written) → Range → List Member → List Entry
all_material written range lineage = flat_map (member_material written range) lineage

-- an end is recorded by what is applied of a lineage, or behind it
abbrev pub IsToldOf : Base → (ℕ → Written) → Range → List Member → Ended → Type 0
IsToldOf base written range lineage end =
    Contains (told (lineage_truth base written range lineage)) end ⊎ Contains (told (lineage_rest written range lineage)) end

module _ (base : Base) (written : ℕ → Written) (range : Range) where
  -- the ends that an entry of a member's truth records are the lineage's
  of_truth : (lineage : List Member) (first : Member) (more : List Member) → lineage ≡ first ∷ more → (m : Member) → Contains lineage m → (e : Entry) → Contains (member_truth written range m) e → (end : Ended) → Contains (told_by e) end → Contains (told (lineage_truth base written range (first ∷ more))) end
  of_truth lineage first more is m has e at end its =
      flat_stands told_by (flat_map (member_truth written range) (first ∷ more)) e end
      (flat_stands (member_truth written range) (first ∷ more) m e (subst (λ (members : List Member). Contains members m) is has) at) its

  -- so what all members have written records nothing more
  pub material_told : (lineage : List Member) → AreApart lineage → FirstIsDone written range lineage → OnlyIsUnnamed written range lineage → NamedFit written range lineage → (end : Ended) → Contains (told (all_material written range lineage)) end → IsToldOf base written range lineage end
  material_told [] apart done unnamed names end at = absurd (none_stands end at)
  material_told (only ∷ []) apart done unnamed names end at =
      let found = flat_from told_by (all_material written range (only ∷ [])) end at in
      let of = flat_from (member_material written range) (only ∷ []) found.0 found.1 in
      let same : only ≡ of.0 = one_stands only of.0 of.1 in
      let there : Contains (member_material written range only) found.0 =
      subst (λ (m : Member). Contains (member_material written range m) found.0) (sym same) of.2 in
      let w : Written = written only.master in
      let truth : Contains (member_truth written range only) found.0 → IsToldOf base written range (only ∷ []) end =
      (λ its. inl (of_truth (only ∷ []) only [] refl only (zero, omega arith, refl) found.0 its end found.2)) in
      ⊎_elim
      (λ (main : Contains (counting range (unmarked_from w.marks only.from w.entries)) found.0).
      ⊎_elim truth
      (λ (waits : Contains (member_rest written range only) found.0).
      inr (flat_stands told_by (member_rest written range only) found.0 end waits found.2))
      (main_stands written range only found.0 main))
      (λ (side : Contains (side_material range only w) found.0). truth (side_stands written range only unnamed found.0 side))
      (Contains-append_cases (counting range (unmarked_from w.marks only.from w.entries)) (side_material range only w) found.0 there)
  material_told (first ∷ last ∷ []) apart done unnamed names end at =
      let both : List Member = first ∷ last ∷ [] in
      let found = flat_from told_by (all_material written range both) end at in
      let of = flat_from (member_material written range) both found.0 found.1 in
      let w : Written = written last.master in
      let is_first : Contains both first = (zero, omega arith, refl) in
      let is_last : Contains both last = (suc zero, omega arith, refl) in
      ⊎_elim
      (λ (same : first ≡ of.0).
      let there : Contains (member_material written range first) found.0 =
      subst (λ (m : Member). Contains (member_material written range m) found.0) (sym same) of.2 in
      inl (of_truth both first (last ∷ []) refl first is_first found.0
      (rw (← done.all) there) end found.2))
      (λ (same : last ≡ of.0).
      let there : Contains (member_material written range last) found.0 =
      subst (λ (m : Member). Contains (member_material written range m) found.0) (sym same) of.2 in
      ⊎_elim
      (λ (main : Contains (counting range (unmarked_from w.marks last.from w.entries)) found.0).
      ⊎_elim
      (λ (its : Contains (member_truth written range last) found.0).
      inl (of_truth both first (last ∷ []) refl last is_last found.0 its end found.2))
      (λ (waits : Contains (member_rest written range last) found.0).
      inr (flat_stands told_by (member_rest written range last) found.0 end waits found.2))
      (main_stands written range last found.0 main))
      (λ (side : Contains (side_material range last w) found.0).
      let item = sides_named range last w found.0 side in
      let true_of : Contains (items_of (member_truth written range first)) item.0 = names item.0 item.2 in
      let tells : Contains (told (member_truth written range first)) (item_end item.0) = item_told (member_truth written range first) item.0 true_of in
      let by : Contains (item_end item.0 ∷ []) end = subst (λ (e : Entry). Contains (told_by e) end) (sym item.1) found.2 in
      let is_end : item_end item.0 ≡ end = one_stands (item_end item.0) end by in
      let source = flat_from told_by (member_truth written range first) (item_end item.0) tells in
      inl (of_truth both first (last ∷ []) refl first is_first source.0 source.1 end
      (subst (λ (x : Ended). Contains (told_by source.0) x) is_end source.2)))
      (Contains-append_cases (counting range (unmarked_from w.marks last.from w.entries)) (side_material range last w) found.0 there))
      (two_stand first last of.0 of.1)
  material_told (first ∷ second ∷ third ∷ more) apart done unnamed names end at = absurd apart

-- ---- who rebuilds

-- a master that gathers is a member at its place, or of no lineage
pub heir_place : (lineage : List Member) (q term own applied from : ℕ) → AreApart lineage → Holds (bond_of (rebuilder_post lineage q) (roles.Rebuilding from None)) term own applied → (is_member lineage q ≡ false) ⊎ Contains lineage (member_at q from)
heir_place lineage q term own applied from apart = grind (arith, cond_both, bond_of, is_member, member_at, eqb-true, or_from)

-- ---- what marked pieces of dead members record

-- each of these is recorded by all that members have written, if what dead ones have in marked pieces fits
module _ (v : View) (range : Range) (lineage : List Member) where
  abbrev pub materials : List Entry
  materials = all_material v.written range lineage

  -- what counts of a member records nothing more
  pub member_told : (m : Member) → Contains lineage m → All (IsToldBy materials) (member_material v.written range m)
  member_told m has = search (all_stand_told, member_material, flat_stands)

  -- nor does what a backup stores of it
  pub stored_told : (m : Member) → Contains lineage m → All (IsToldBy materials) (member_stored v.logs v.written v.stored range m)
  stored_told m has =
      let w : Written = v.written m.master in
      all_stand_told (member_stored v.logs v.written v.stored range m) materials
      (λ e at.
      flat_stands (member_material v.written range) lineage m e has
      (Contains-append_left (counting range (unmarked_from w.marks m.from w.entries)) (side_material range m w) e
      (first_among w.marks range m.from _ w.entries e at)))

  -- nor what it names
  pub side_told : (m : Member) → Contains lineage m → All (IsToldBy materials) (side_material range m (v.written m.master))
  side_told m has =
      let w : Written = v.written m.master in
      all_stand_told (side_material range m w) materials
      (λ e at.
      flat_stands (member_material v.written range) lineage m e has
      (Contains-append_right (counting range (unmarked_from w.marks m.from w.entries)) (side_material range m w) e at))

-- what records no more than some entries records no more than others that record these
no_more : (these some others : List Entry) → TellNoMore these some → All (IsToldBy others) some → TellNoMore these others
no_more these some others tells each =
    let through = all_told some others each in
    record {
      items = λ item at. through.items item (tells.items item at);
      ends = All-weaker (Contains (told some)) (Contains (told others)) (λ end at. All-contains (Contains (told others)) (told some) end through.ends at) (told these) tells.ends;
      floor = omega (arith, tells.floor, through.floor);
    }

-- so a marked piece of a dead member records nothing more
pub marks_told : (v : View) (range : Range) (lineage : List Member) → AreApart lineage → MarkedFit v.logs v.written v.stored v.live range lineage → (m : Member) → Contains lineage m → v.live m.master ≡ false → TellNoMore (member_marked v.written range m) (all_material v.written range lineage)
marks_told v range [] apart fits m has dead = absurd (none_stands m has)
marks_told v range (only ∷ []) apart fits m has dead =
    let lineage : List Member = only ∷ [] in
    let same : only ≡ m = one_stands only m has in
    let fit : TellNoMore (member_marked v.written range m) (member_material v.written range m) =
    rw (← same) (fits (ap (λ (x : Member). v.live x.master) same ∙ dead)) in
    no_more (member_marked v.written range m) (member_material v.written range m) (materials v range lineage) fit (member_told v range lineage m has)
marks_told v range (first ∷ last ∷ []) apart fits m has dead =
    let lineage : List Member = first ∷ last ∷ [] in
    let is_first : Contains lineage first = (zero, omega arith, refl) in
    let is_last : Contains lineage last = (suc zero, omega arith, refl) in
    let own : List Entry = member_material v.written range first in
    ⊎_elim
    (λ (same : first ≡ m).
    let stored : List Entry = member_stored v.logs v.written v.stored range last in
    let fit : TellNoMore (member_marked v.written range m) (own ++ stored) =
    rw (← same) (fits.0 (ap (λ (x : Member). v.live x.master) same ∙ dead)) in
    no_more (member_marked v.written range m) (own ++ stored) (materials v range lineage) fit
    (All-append (IsToldBy (materials v range lineage)) own stored (member_told v range lineage first is_first) (stored_told v range lineage last is_last)))
    (λ (same : last ≡ m).
    let other : List Entry = member_material v.written range last in
    let fit : TellNoMore (member_marked v.written range m) (own ++ other) =
    rw (← same) (fits.1 (ap (λ (x : Member). v.live x.master) same ∙ dead)) in
    no_more (member_marked v.written range m) (own ++ other) (materials v range lineage) fit
    (All-append (IsToldBy (materials v range lineage)) own other (member_told v range lineage first is_first) (member_told v range lineage last is_last)))
    (two_stand first last m has)
marks_told v range (first ∷ second ∷ third ∷ more) apart fits m has dead = absurd apart

module _ (v : View) (a : Merging v) where
  abbrev lineage : List Member
  lineage = (rebuilt v a).0

  abbrev all : List Entry
  all = all_material v.written a.row.range (rebuilt v a).0

  abbrev gather : Gather
  gather = v.gathers a.master a.row.tablet

  formed : AreApart lineage
  formed = subst IsFormed (rebuilt v a).1 (row_in v a.sound a.row a.has_row).rows.formed

  same_lineage : lineage_of a.row.phase ≡ lineage
  same_lineage = ap lineage_of (rebuilt v a).1

  -- ---- what is the master's own

  own_told : All (IsToldBy all) (own_entries v a.master a.row.tablet)
  own_told =
      let lineage_post : post_of (Rebuilding lineage a.master) a.master ≡ rebuilder_post lineage a.master =
      cond-true (a.master == a.master) (rebuilder_post lineage a.master) (cond (is_member lineage a.master) FormerMember Bystander)
      (eq-eqb a.master a.master refl) in
      let holds : Holds (bond_of (rebuilder_post lineage a.master) (roles.Rebuilding (gathers v a).0 None)) a.row.term (old v a).term (v.written a.master).applied =
      rw (← lineage_post) (subst
      (λ (phase : Phase). Holds (bond_of (post_of phase a.master) (roles.Rebuilding (gathers v a).0 None)) a.row.term (old v a).term
      (v.written a.master).applied) (rebuilt v a).1 (fit v a)) in
      rw (own_is v a) (⊎_elim
      (λ (outside : is_member lineage a.master ≡ false).
      rw ((rebuilder v a).outside outside) (All-nil _))
      (λ (stands : Contains lineage (member_at a.master (gathers v a).0)).
      let place : own_place (old v a).role ≡ (gathers v a).0 = ap own_place (gathers v a).1 in
      rw place (member_told v a.row.range lineage (member_at a.master (gathers v a).0) stands))
      (heir_place lineage a.master a.row.term (old v a).term (v.written a.master).applied (gathers v a).0 formed holds))

  -- ---- what is read of others

  abbrev is_read : Member → Bool
  is_read m = not (m.master == a.master)

  -- each is a member, and another master
  others : All (λ gathered. Contains (filter is_read lineage) gathered.member) gather.members
  others =
      members_by (Contains (filter is_read lineage)) gather.members
      (subst (All (Contains (filter is_read lineage))) (sym (rebuilder v a).gather.members_are) (All-contains_itself (filter is_read lineage)))

  -- which has crashed
  is_one : (m : Member) → Contains lineage m → is_member lineage m.master ≡ true
  is_one m has = All-contains (λ (x : Member). is_member lineage x.master ≡ true) lineage m (each_member lineage) has

  dead : (m : Member) → Contains lineage m → (m.master ≡ a.master → ⊥) → v.live m.master ≡ false
  dead m has away =
      false_from_ne_true (v.live m.master)
      (λ lives. former_gone v a.sound.roles a.row a.has_row lineage a.master m.master (rebuilt v a).1 lives away (is_one m has))

  each_told : (gathered : Gathered) → Contains gather.members gathered → All (IsToldBy all) (counted_of a.row.range gathered)
  each_told gathered there =
      let m : Member = gathered.member in
      let kept = kept_stands is_read lineage m
      (All-contains (λ (g : Gathered). Contains (filter is_read lineage) g.member) gather.members gathered others there) in
      let has : Contains lineage m = kept.0 in
      let away : m.master ≡ a.master → ⊥ = (λ same. false≢true (sym (ap not (eq-eqb m.master a.master same)) ∙ kept.1)) in
      let w : Written = v.written m.master in
      let tells : AreMarksTold v a.row m all =
      (λ place e behind before at marked inside.
      told_through (member_marked v.written a.row.range m) all e (marks_told v a.row.range lineage formed (rebuilt_row v a).1 m has (dead m has away))
      (stands_told (member_marked v.written a.row.range m) e (marked_stands w.marks a.row.range m.from w.entries place e behind at marked inside))) in
      counted_told v a.sound a.may.readable a.row m (member_backed v a.sound a.row a.has_row lineage a.master (rebuilt v a).1 m.master (is_one m has)) (NeededOf a.row v.written lineage m.master) gathered
      (All-contains (λ (g : Gathered). length g.main ≤ LAST_MAIN_SEGMENT) gather.members gathered a.may.gathered there)
      (All-contains
      (λ (g : Gathered). IsGathered (NeededOf a.row v.written lineage g.member.master) (known_of (v.logs g.member.master) READ_BACKUP)
      (stored_of v.stored g.member.master READ_BACKUP) g) gather.members gathered (rebuilder v a).read there)
      all (stored_told v a.row.range lineage m has) (side_told v a.row.range lineage m has) tells refl

  -- ---- all that is read, and what is merged

  read : TellNoMore (read_all (by_member gather (own_entries v a.master a.row.tablet))) all
  read =
      all_told (read_all (by_member gather (own_entries v a.master a.row.tablet))) all
      (read_told all (own_entries v a.master a.row.tablet) gather own_told
      (rw (rebuilder v a).gather.range_is
      (all_by (λ (gathered : Gathered). All (IsToldBy all) (counted_of a.row.range gathered)) gather.members each_told)))

  closing : IsToldBy all (closing_carried (old v a) (merged v a))
  closing =
      All-contains (IsToldBy all) (piece v a) (closing_carried (old v a) (merged v a))
      (piece_told (own_entries v a.master a.row.tablet) (by_member gather (own_entries v a.master a.row.tablet)) (old v a) all read)
      (Contains-append_right (as_entries (merged v a).copies) (closing_carried (old v a) (merged v a) ∷ []) (closing_carried (old v a) (merged v a))
      (zero, omega arith, refl))

  row_told : (end : Ended) → Contains (told all) end → IsToldIn v a.row end
  row_told end at =
      rw same_lineage (material_told v.base v.written a.row.range lineage formed
      (rw (← same_lineage) (row_in v a.sound a.row a.has_row).rest.done)
      (rw (← same_lineage) (row_in v a.sound a.row a.has_row).rest.unnamed)
      (rw (← same_lineage) (row_in v a.sound a.row a.has_row).receives.named) end at)

  -- so each end that the rebuild merges is recorded by the row's truth or its rest
  pub collected : All (IsToldIn v a.row) (ends_of (completions_from [] (merged v a).ends))
  collected = All-weaker _ _ row_told (ends_of (completions_from [] (merged v a).ends)) closing.ends
