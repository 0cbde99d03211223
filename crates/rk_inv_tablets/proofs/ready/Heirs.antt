-- Each master that is to rebuild a row, of its lineage or not, may begin to: its place, and the records that it has then.
use Rattle.std.proofs.Common.{◌≡◌, ℕ, ◌<◌, ◌≤◌, Bool, true, false, List, [], ◌∷◌, Option, Some, None, cond, length, refl, sym, ap, ◌∙◌}
use Rattle.std.proofs.Common.{subst, ⊎_elim, inl, inr, arith, ◌==◌, ◌||◌, IfSome, drop, max, Contains, flat_map, eq-eqb, eqb-true, lt-ltb}
use Rattle.rk_inv_base.proofs.Words.{both_ways, cond_both, cond-false, false≢true, drop_all, Contains-append_cases, Contains-append_left}
use Rattle.rk_inv_base.proofs.Words.{get, meets, Held, Member, Range, Entry, without, Handover, Role, lineage_of, Phase, Rebuilding, Row}
use Rattle.rk_inv_base.proofs.Words.{items_in, items_of, first_of, is_member, own_member, unmarked_from, touches, counting, counts}
use Rattle.rk_inv_base.proofs.Words.{is_joined_in, joined_from, log_material, material_of, named, named_by, side_entries, is_receiving}
use Rattle.rk_inv_base.proofs.Words.{Pulling, Written, applied_entries, lineage_truth, member_truth, FirstRebuilder, Holds, LastRebuilder}
use Rattle.rk_inv_base.proofs.Words.{OnlyRebuilder, Post, bond_of, post_of, rebuilder_post, applied_from, HasClosing, IsBare, IsFound}
use Rattle.rk_inv_base.proofs.Words.{MembersFit, NamedFit, closing_joined, copied_items, entries_from, is_granted, joined_place}
use Rattle.rk_inv_base.proofs.Words.{named_items, wanted_place, FirstIsDone, IsDone, OnlyIsUnnamed, AreApart, HasItems, IsTableOf}
use Rattle.rk_inv_base.proofs.Words.{has_all_items, View, truths, SoundView}
use Rattle.rk_inv_tablets.proofs.Words.{truth_in, kept_stands, scanned, stands_kept, IsTargetIn, IsOutside, heir_outside, IsHeir, heir_post}
use Rattle.rk_inv_tablets.proofs.Words.{behind_first, begins_from, items_left, row_in}
use Rattle.rk_inv_tablets.proofs.ready.OwnItems.{none_left, flat_from, flat_stands, named_counts, named_from, one_stands, none_stands}
use Rattle.rk_inv_tablets.proofs.ready.Outside.{rebuilder_is, second_member, only_post, first_post, last_post}
use Rattle.rk_inv_tablets.proofs.ready.TakenUp.{IsTakenUp, applied_behind, applied_counts, bare_takes, named_applied, named_of, table_comes}
use Rattle.rk_inv_tablets.proofs.ready.TakenUp.{table_finds, unmarked_behind}
use Rattle.rk_transfer.specs.declared.role.Role.TheVariants as roles

-- a master outside the lineage may begin at any place
foreign_fits : (post : Post) (from term applied : ℕ) → IsOutside post → IsHeir post → Holds (bond_of post (roles.Rebuilding from None)) term term applied
foreign_fits post from term applied outside heir = grind arith

module _ (v : View) (row : Row) (master : ℕ) (sound : SoundView v) (has : Contains v.rows row) (lives : v.live master ≡ true) (below : (v.handovers master row.tablet).term < row.term) (lineage : List Member) (is : row.phase ≡ Rebuilding lineage master) where
  abbrev w : Written
  w = v.written master

  abbrev old : Handover
  old = v.handovers master row.tablet

  abbrev range : Range
  range = row.range

  -- ---- what the row says

  lineage_is : lineage_of row.phase ≡ lineage
  lineage_is = ap lineage_of is

  pub post_is : post_of row.phase master ≡ rebuilder_post lineage master
  post_is = ap (λ (phase : Phase). post_of phase master) is ∙ rebuilder_is lineage master

  truths_are : truths v row ≡ lineage_truth v.base v.written range lineage
  truths_are = ap (lineage_truth v.base v.written range) lineage_is

  pub old_fits : Holds (bond_of (rebuilder_post lineage master) old.role) row.term old.term w.applied
  old_fits = rw (← post_is) ((row_in v sound row has).roles.fitting master (inl lives))

  -- an item of a member's truth is of the row's
  member_in : (first : Member) (more : List Member) (m : Member) → lineage ≡ first ∷ more → Contains (first ∷ more) m → (item : Held) → Contains (items_of (member_truth v.written range m)) item → Contains (items_of (truths v row)) item
  member_in first more m shape member item at =
      let found = flat_from items_in (member_truth v.written range m) item at in
      rw (truths_are ∙ ap (lineage_truth v.base v.written range) shape)
      (flat_stands items_in (flat_map (member_truth v.written range) (first ∷ more)) found.0 item
      (flat_stands (member_truth v.written range) (first ∷ more) m found.0 member found.1) found.2)

  -- ---- a first member, whose records are the newest of what is applied there

  -- what counts of what is applied at the master is the truth of a member that it is
  own_truth : (m : Member) → m.master ≡ master → (item : Held) → Contains (items_of (log_material range w.marks w.sides m.from (applied_entries w))) item → Contains (items_of (member_truth v.written range m)) item
  own_truth m here item = grind (arith, items_of, log_material, applied_entries)

  -- it has all items of its truth
  table_is : (first : Member) (more : List Member) → lineage ≡ first ∷ more → has_all_items (rebuilder_post lineage master) old row.term ≡ true → IsTableOf range (member_truth v.written range first) (v.records master)
  table_is first more shape all =
      let items : HasItems row v.written (v.records master) =
      (row_in v sound row has).tables master lives
      (ap (λ (post : Post). has_all_items post old row.term) post_is ∙ all) in
      subst (λ (members : List Member). IfSome (first_of members) (λ member. IsTableOf range (member_truth v.written range member) (v.records master)))
      (lineage_is ∙ shape) items

  -- what it names from its place on is of its truth
  abbrev NamesOwn : Member → Type 0
  NamesOwn m = (item : Held) → Contains (named_items range m.from w) item → Contains (items_of (member_truth v.written range m)) item

  -- so it may begin
  table_takes : (first : Member) (more : List Member) → lineage ≡ first ∷ more → first.master ≡ master → has_all_items (rebuilder_post lineage master) old row.term ≡ true → NamesOwn first → IsTakenUp v row master first.from (v.records master)
  table_takes first more shape here all names =
      let own : List Entry = member_truth v.written range first in
      let table : IsTableOf range own (v.records master) = table_is first more shape all in
      let finds : (item : Held) → Contains (items_of own) item → IsFound (v.records master) item = λ item at.
      table_finds range own (v.records master) item (truth_in v.written range first) table at in
      let into : (item : Held) → Contains (items_of own) item → Contains (items_of (truths v row)) item =
      member_in first more first shape (0, omega arith, refl) in
      record {
        found = λ item at.
            finds item (own_truth first here item (applied_counts v row master sound has lives below first.from item at));
        come = λ item stands inside. inr (into item (table_comes range own (v.records master) item table stands inside));
        sides = λ item at. (into item (names item at), finds item (names item at));
      }

  only_takes : (only : Member) → lineage ≡ only ∷ [] → only.master ≡ master → IsTakenUp v row master only.from (v.records master)
  only_takes only shape here =
      let post : rebuilder_post lineage master ≡ OnlyRebuilder only.from =
      ap (λ (members : List Member). rebuilder_post members master) shape ∙ only_post only master here in
      let unnamed : OnlyIsUnnamed v.written range (only ∷ []) =
      subst (OnlyIsUnnamed v.written range) (lineage_is ∙ shape)
      (row_in v sound row has).rest.unnamed in
      let none : joined_from range (max only.from w.applied) w.entries ≡ [] =
      rw (← here) unnamed in
      table_takes only [] shape here
      (ap (λ (post : Post). has_all_items post old row.term) post ∙ lt-ltb old.term row.term below)
      (λ item at. own_truth only here item (named_applied v row master sound has lives below only.from none item at))

  first_takes : (first last : Member) → lineage ≡ first ∷ last ∷ [] → first.master ≡ master → IsTakenUp v row master first.from (v.records master)
  first_takes first last shape here =
      let post : rebuilder_post lineage master ≡ FirstRebuilder first.from =
      ap (λ (members : List Member). rebuilder_post members master) shape ∙ first_post first last master here in
      let done : IsDone v.written range first =
      subst (FirstIsDone v.written range) (lineage_is ∙ shape)
      (row_in v sound row has).rest.done in
      table_takes first (last ∷ []) shape here
      (ap (λ (post : Post). has_all_items post old row.term) post ∙ lt-ltb old.term row.term below)
      (λ item at.
      let mine = named_of v row master sound has lives below first.from item at in
      rw (← done.all, here) (named_counts range (side_entries w.sides) (unmarked_from w.marks first.from w.entries) item mine.0 mine.1))

  -- ---- the last of two members, which had the tablet granted or waits for its grant

  -- what it keeps is of the row's range
  own_range : is_member lineage master ≡ true → old.range ≡ range
  own_range member =
      (row_in v sound row has).roles.ranged master (inl lives) (ap (λ (members : List Member). is_member members master) lineage_is ∙ member)

  -- a master that waits has nothing
  waits_takes : (from place : ℕ) → is_member lineage master ≡ true → old.role ≡ roles.Wanting from → from ≡ place → IsTakenUp v row master place (v.records master)
  waits_takes from place member role same =
      let bare : IsBare old.range from w (v.records master) =
      subst (λ (role : Role). IfSome (wanted_place role) (λ from. IsBare old.range from w (v.records master))) role
      (sound.receives.bare master row.tablet) in
      bare_takes v row master sound has lives below place (v.records master)
      (rw (← own_range member, ← same) bare)

  module _ (first last : Member) (shape : lineage ≡ first ∷ last ∷ []) (here : last.master ≡ master) (granted : is_granted old.role ≡ true) where
    abbrev pulling : Pulling
    pulling = v.pullings master row.tablet

    abbrev Target : ℕ → Type 0
    Target n =
        IsTargetIn v.written row first (record { master = n; from = last.from }) (v.handovers n row.tablet) (v.pullings n row.tablet)
        (get v.handed row.tablet) (v.records n)

    target : Target master
    target =
        rw (← here)
        (subst (λ (members : List Member). MembersFit row v.written v.handovers v.pullings v.records v.handed members) (lineage_is ∙ shape)
        (row_in v sound row has).receives.target
        (ap (λ (n : ℕ). is_granted (v.handovers n row.tablet).role) here ∙ granted))

    -- what it copied
    abbrev copied : List Held
    copied = copied_items old.role pulling w.sides

    -- a Joined of the range is among those from its place on
    among_joined : (j : Entry) → Contains (drop last.from w.entries) j → is_joined_in range j ≡ true → (others : List Entry) → joined_from range last.from w.entries ≡ others → Contains others j
    among_joined j stands joins others are = rw (← are) (stands_kept (is_joined_in range) (drop last.from w.entries) j stands joins)

    -- a segment that a Joined of the range names
    record IsNamed (n : ℕ) : Type 0 where
      joined : Entry
      stands : Contains (drop last.from w.entries) joined
      joins : is_joined_in range joined ≡ true
      names : Contains (named_by range joined) n

    -- is a segment that it sealed, and it pulls no more
    sealed_is : (role : Role) → is_granted role ≡ true → HasClosing (joined_place role) (closing_joined old pulling.sealed) range last.from w.entries → (n : ℕ) → IsNamed n → Contains pulling.sealed n × (is_receiving role ≡ false)
    sealed_is (roles.Joining (Some place)) granted closing n named =
        let only : Contains (closing_joined old pulling.sealed ∷ []) named.joined =
        among_joined named.joined named.stands named.joins (closing_joined old pulling.sealed ∷ []) closing.alone in
        let same = one_stands (closing_joined old pulling.sealed) named.joined only in
        (of_closing (meets old.range range) (subst (λ (e : Entry). Contains (named_by range e) n) (sym same) named.names), refl)
      where
        of_closing : (b : Bool) → Contains (cond b pulling.sealed []) n → Contains pulling.sealed n
        of_closing true at = at
        of_closing false at = absurd (omega (arith, at.1))
    sealed_is (roles.Joining None) granted closing n named =
        absurd (none_stands named.joined (among_joined named.joined named.stands named.joins [] closing))
    sealed_is roles.Receiving granted closing n named =
        absurd (none_stands named.joined (among_joined named.joined named.stands named.joins [] closing))
    sealed_is role granted closing n named = absurd (cc)

    -- what it copied is of these once it pulls no more
    copies_are : is_receiving old.role ≡ false → copied ≡ items_of (flat_map (side_entries w.sides) pulling.sealed)
    copies_are joins =
        cond-false (is_receiving old.role) (flat_map (λ items. items) pulling.sides)
        (items_of (flat_map (side_entries w.sides) pulling.sealed)) joins

    -- so its item is copied, and the source's
    named_copied : (list : List Entry) → ((e : Entry) → Contains list e → Contains (drop last.from w.entries) e) → (e : Entry) → Contains (flat_map (side_entries w.sides) (named range list)) e → (item : Held) → Contains (items_in e) item → IsFound (v.records master) item
    named_copied list behind e at item inside =
        let segment = flat_from (side_entries w.sides) (named range list) e at in
        let joined = named_from range list segment.0 segment.1 in
        let sealed =
        sealed_is old.role granted target.closing segment.0
        (record { joined = joined.0; stands = behind joined.0 joined.1; joins = joined.3; names = joined.2 }) in
        let copy : Contains copied item =
        rw (copies_are sealed.1) (flat_stands items_in (flat_map (side_entries w.sides) pulling.sealed) e item
        (flat_stands (side_entries w.sides) pulling.sealed segment.0 e sealed.0 segment.2) inside) in
        target.received.found item
        (inr (target.received.within item copy, λ receives. absurd (both_ways (is_receiving old.role) sealed.1 receives)))

    own_found : (item : Held) → Contains (items_of (applied_from range last.from w)) item → IsFound (v.records master) item
    own_found item at =
        let list : List Entry = drop last.from (applied_entries w) in
        let side : List Entry = flat_map (side_entries w.sides) (named range list) in
        let found = flat_from items_in (material_of range (side_entries w.sides) list) item at in
        ⊎_elim
        (λ (own : Contains (counting range list) found.0).
        target.received.found item (inl (flat_stands items_in (counting range list) found.0 item own found.2)))
        (λ (beside : Contains (counting range side) found.0).
        named_copied list (applied_behind v row master sound has lives below last.from) found.0
        (kept_stands (counts range) side found.0 beside).0 item found.2)
        (Contains-append_cases (counting range list) (counting range side) found.0 found.1)

    granted_takes : IsTakenUp v row master last.from (v.records master)
    granted_takes = record {
      found = own_found;
      come = λ item stands inside.
          ⊎_elim
          (λ (own : Contains (items_of (entries_from range last.from (applied_entries w))) item).
          let list : List Entry = drop last.from (applied_entries w) in
          let found = flat_from items_in (counting range list) item own in
          inl (flat_stands items_in (material_of range (side_entries w.sides) list) found.0 item
          (Contains-append_left (counting range list)
          (counting range (flat_map (side_entries w.sides) (named range list))) found.0 found.1) found.2))
          (λ (copy : Contains copied item).
          inr (member_in first (last ∷ []) first shape (0, omega arith, refl) item
          (scanned (member_truth v.written range first) item (target.received.within item copy))))
          (target.received.come item stands inside);
      sides = λ item at.
          let mine = named_of v row master sound has lives below last.from item at in
          let all : List Entry = unmarked_from w.marks last.from w.entries in
          let found = flat_from items_in (flat_map (side_entries w.sides) (named range all)) item mine.1 in (
            member_in first (last ∷ []) first shape (0, omega arith, refl) item (of_first item at),
            named_copied all (unmarked_behind v row master sound has lives below last.from) found.0 found.1 item found.2,
          );
    }
      where
        of_first : (item : Held) → Contains (named_items range last.from w) item → Contains (items_of (member_truth v.written range first)) item
        of_first item at =
            subst (NamedFit v.written range) (lineage_is ∙ shape)
            (row_in v sound row has).receives.named item
            (rw here at)

  last_takes : (first last : Member) → lineage ≡ first ∷ last ∷ [] → (first.master ≡ master → ⊥) → last.master ≡ master → IsTakenUp v row master last.from (v.records master)
  last_takes first last shape apart here = go old.role refl (rw (← post) old_fits)
    where
      post : rebuilder_post lineage master ≡ LastRebuilder last.from
      post =
          ap (λ (members : List Member). rebuilder_post members master) shape ∙ last_post first last master apart here

      member : is_member lineage master ≡ true
      member = rw (← here) (ap (λ (members : List Member). is_member members last.master) shape ∙ second_member first last [])

      go : (role : Role) → old.role ≡ role → Holds (bond_of (LastRebuilder last.from) role) row.term old.term w.applied → IsTakenUp v row master last.from (v.records master)
      go (roles.Wanting from) role holds = waits_takes from last.from member role holds.1
      go roles.Receiving role holds = granted_takes first last shape here (ap is_granted role)
      go (roles.Joining entry) role holds = granted_takes first last shape here (ap is_granted role)
      go (roles.Rebuilding from entry) role holds = let at = holds.0 in absurd (omega (arith, below, at))
      go _ role holds = absurd holds

  -- ---- a master outside the lineage, once its items of the range are dropped

  entries_are : length (v.logs master).entries ≡ length w.entries
  entries_are = ap (λ (list : List Entry). length list) (sound.logs.each master).entries_are

  outside_takes : IsTakenUp v row master (length (v.logs master).entries) (without range (v.records master))
  outside_takes = grind (arith, bare_takes, without, entries_are, touches, drop_all, none_left)

  -- ---- each of them

  -- a master may begin to rebuild the row, by its own member of the lineage, if it has one
  pub record MayBeginBy (own : Option Member) : Type 0 where
    pub takes : IsTakenUp v row master (begins_from v master own) (items_left (v.records master) range own)
    pub placed : begins_from v master own ≤ length w.entries
    pub fits : Holds (bond_of (rebuilder_post lineage master) (roles.Rebuilding (begins_from v master own) None)) row.term row.term w.applied
    pub foreign : own ≡ None → is_member lineage master ≡ false

  member_placed : (m : Member) → m.master ≡ master → Contains lineage m → m.from ≤ length w.entries
  member_placed m here member = grind (arith, lineage_is, row_in)

  pub begins_by : AreApart lineage → MayBeginBy (own_member lineage master)
  begins_by apart = go lineage refl apart
    where
      by_member : (m : Member) → m.master ≡ master → Contains lineage m → Holds (bond_of (rebuilder_post lineage master) (roles.Rebuilding m.from None)) row.term row.term w.applied → IsTakenUp v row master m.from (v.records master) → MayBeginBy (Some m)
      by_member m here stands fits takes =
          record { takes = takes; placed = member_placed m here stands; fits = fits; foreign = λ none. absurd (cc none) }

      only_begins : (only : Member) → lineage ≡ only ∷ [] → only.master ≡ master → MayBeginBy (Some only)
      only_begins only shape here =
          by_member only here (rw shape (0, omega arith, refl)) (rw (shape, only_post only master here) (refl, refl)) (only_takes only shape here)

      first_begins : (first last : Member) → lineage ≡ first ∷ last ∷ [] → first.master ≡ master → MayBeginBy (Some first)
      first_begins first last shape here =
          by_member first here (rw shape (0, omega arith, refl)) (rw (shape, first_post first last master here) (refl, refl))
          (first_takes first last shape here)

      last_begins : (first last : Member) → lineage ≡ first ∷ last ∷ [] → (first.master ≡ master → ⊥) → last.master ≡ master → MayBeginBy (Some last)
      last_begins first last shape away here =
          by_member last here (rw shape (behind_first first (last ∷ []) last (0, omega arith, refl)))
          (rw (shape, last_post first last master away here) (refl, refl)) (last_takes first last shape away here)

      foreign_begins : is_member lineage master ≡ false → MayBeginBy None
      foreign_begins outside = record {
        takes = outside_takes;
        placed = omega (arith, entries_are);
        fits = grind (arith, foreign_fits, rebuilder_post, heir_outside, heir_post, v.logs, row.term, w.applied);
        foreign = λ none. outside;
      }

      go : (members : List Member) → lineage ≡ members → AreApart members → MayBeginBy (own_member members master)
      go (only ∷ []) shape apart =
          cond_both (only.master == master) (Some only) None MayBeginBy (λ e. only_begins only shape (eqb-true only.master master e))
          (λ e.
          foreign_begins
          (ap (λ (members : List Member). is_member members master) shape
          ∙ ap (λ (b : Bool). b || false) e))
      go (first ∷ last ∷ []) shape apart =
          cond_both (first.master == master) (Some first) (cond (last.master == master) (Some last) None) MayBeginBy
          (λ e. first_begins first last shape (eqb-true first.master master e))
          (λ away.
          cond_both (last.master == master) (Some last) None MayBeginBy
          (λ e.
          last_begins first last shape (λ same. false≢true (sym away ∙ eq-eqb first.master master same)) (eqb-true last.master master e))
          (λ e.
          foreign_begins
          (ap (λ (members : List Member). is_member members master) shape
          ∙ ap (λ (b : Bool). b || ((last.master == master) || false)) away ∙ ap (λ (b : Bool). b || false) e)))
      go _ shape apart = absurd apart
