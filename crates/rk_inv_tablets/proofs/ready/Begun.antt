-- A lane stays sound when a master begins to rebuild a tablet: it gives up each other tablet there, and outside the lineage it drops its
-- items of the range; nothing is gathered so far.
use Rattle.std.proofs.Common.{◌≡◌, ℕ, ◌<◌, Bool, true, false, List, [], ◌∷◌, Option, Some, None, cond, map, refl, sym, ap, ◌∙◌, subst}
use Rattle.std.proofs.Common.{⊎_elim, ◌⊎◌, arith, ◌==◌, ◌||◌, filter, is_some, not, slice_index_or, Contains}
use Rattle.rk_inv_base.proofs.Words.{cases_eq, false≢true, drop_all, Contains-get_or, meets, Held, Member, order_without, Handover}
use Rattle.rk_inv_base.proofs.Words.{lineage_of, row_of, Phase, Rebuilding, Row, Known, known_of, EntryEnd, Rebuild, with_others_given_up}
use Rattle.rk_inv_base.proofs.Words.{is_member, own_member, unmarked, Master, with_tablet, material_of, side_entries, begun_from}
use Rattle.rk_inv_base.proofs.Words.{rebuild_begun, Tablet, World, master_at, tablet_in, with_master, member_material, IsWithinRows}
use Rattle.rk_inv_base.proofs.Words.{stored_of, IsGathered, IsFormed, HandoverFits, View, truths, view, SoundView}
use Rattle.rk_inv_tablets.proofs.Words.{member as member_at, unread, MayBegin, same_number, covered_by, stays, stood, IsRebuilderIn}
use Rattle.rk_inv_tablets.proofs.Words.{rows_apart, stands_found, as_begun, begins_from, begun, begun_tablets, items_left, rebuild_begun_in}
use Rattle.rk_inv_tablets.proofs.Words.{tablet_seen, row_in}
use Rattle.rk_sound.specs.Rebuilds.{AreGathered}
use Rattle.rk_inv_tablets.proofs.ready.Heirs.{MayBeginBy, begins_by, post_is}
use Rattle.rk_inv_tablets.proofs.ready.OthersGivenUp.{MayTakeOrder, apart, beside_order, step}
use Rattle.rk_inv_tablets.proofs.ready.TakenTablets.{own_at, view_taken}
use Rattle.rk_inv_tablets.proofs.ready.Yielded.{view_yielded}
use Rattle.rk_inv_tablets.proofs.ready.Yielding.{AreLeft, Yields, YieldsBeside}

-- ---- what is gathered at first

-- nothing was read of a member so far
unread_one : (Needed : EntryEnd → Type 0) (known : Known) (stored : ℕ → List ℕ) (member : Member) → IsGathered Needed known stored (unread member)
unread_one Needed known stored member = grind (arith, false≢true)

unread_all : (Needed : ℕ → EntryEnd → Type 0) (known : ℕ → Known) (stored : ℕ → ℕ → List ℕ) (members : List Member) → AreGathered Needed known stored (map unread members)
unread_all Needed known stored [] = grind arith
unread_all Needed known stored (member ∷ members) =
    grind (arith, unread, unread_one, member.master, (unread_all Needed known stored members))

unread_members : (members : List Member) → map (λ gathered. gathered.member) (map unread members) ≡ members
unread_members [] = refl
unread_members (member ∷ members) = ap (λ (list : List Member). member ∷ list) (unread_members members)

-- a master outside a lineage has no member there
own_none : (lineage : List Member) (master : ℕ) → is_member lineage master ≡ false → own_member lineage master ≡ None
own_none [] master outside = refl
own_none (member ∷ more) master outside = go (member.master == master) (own_none more master) outside
  where
    go : (b : Bool) → (is_member more master ≡ false → own_member more master ≡ None) → (b || is_member more master) ≡ false → cond b (Some member) (own_member more master) ≡ None
    go true later outside = absurd (cc)
    go false later outside = later outside

-- ---- a view in which a master begins to rebuild a row

-- the order of a row that a master rebuilds
abbrev pub order_of : Row → List Member → Rebuild
order_of row lineage = record { tenure = record { tablet = row.tablet; term = row.term }; range = row.range; lineage = lineage }

module _ (v : View) (row : Row) (master : ℕ) (lineage : List Member) (sound : SoundView v) (may : MayBegin v row master (order_of row lineage)) where
  -- what the condition says, by short names
  abbrev has : Contains v.rows row
  has = may.has_row

  abbrev lives : v.live master ≡ true
  lives = may.lives

  abbrev is : row.phase ≡ Rebuilding lineage master
  is = may.ordered

  abbrev below : (v.handovers master row.tablet).term < row.term
  below = may.greater

  abbrev place : ℕ
  place = begins_from v master (own_member lineage master)

  abbrev left : List Held
  left = items_left (v.records master) row.range (own_member lineage master)

  abbrev old : Handover
  old = v.handovers master row.tablet

  abbrev own : Tablet
  own = as_begun master (order_of row lineage) place (tablet_seen v master row.tablet)

  begins : MayBeginBy v row master sound has lives below lineage is (own_member lineage master)
  begins = begins_by v row master sound has lives below lineage is (subst IsFormed is (row_in v sound row has).rows.formed)

  order : MayTakeOrder v master row.tablet row.term row.range
  order = record {
    lives = lives;
    above = may.above;
    below = λ k d within other met.
        absurd (rows_apart v (slice_index_or v.rows k d) row sound (Contains-get_or v.rows k d within) has other met);
    outside = λ x there other met member. rows_apart v x row sound there has other met;
  }

  same_row : (x : Row) → Contains v.rows x → x.tablet ≡ row.tablet → x ≡ row
  same_row x there its = same_number v.rows x row sound.rows.apart there has its

  -- ---- its tablet

  beside_row : YieldsBeside row master (v.written master).applied old own.handover
  beside_row = grind (arith, post_is, begins)

  formed : (x : Row) → Contains v.rows x → HandoverFits x row.tablet own.handover
  formed x there = record {
    within = λ its. rw (same_row x there its) (omega arith);
    below = λ other met. absurd (rows_apart v x row sound there has other met);
    exact = λ its at. ap (λ (r : Row). r.range) (sym (same_row x there its));
  }

  found : row_of v.rows row.tablet ≡ Some row
  found = stands_found v.rows row sound.rows.apart has

  row_within : IsWithinRows v.rows row.range
  row_within hash inside = covered_by v.rows row row.range.table hash has inside

  -- outside the lineage it has no entries of its own yet
  none_own : is_member lineage master ≡ false → member_material v.written row.range (member_at master place) ≡ []
  none_own outside = grind (arith, begins_from, own_none, material_of, side_entries, unmarked, drop_all)

  -- a master rebuilds the row, of this lineage, with what it begins with
  abbrev IsBegun : Row → List Member → Type 0
  IsBegun x members =
      IsRebuilderIn v.logs v.written v.stored x members master (truths v x) own.handover (v.completions master x.tablet) own.gather [] left

  rebuilder : IsBegun row lineage
  rebuilder = record {
    range_is = refl;
    gather = record {
      range_is = refl;
      lineage_is = refl;
      own_is = refl;
      members_are = unread_members (filter (λ member. not (member.master == master)) lineage);
    };
    read = grind (arith, unread_all, known_of, stored_of, v.written, v.logs, v.stored);
    placed = begins.placed;
    merged = tt;
    items = record { found = begins.takes.found; come = begins.takes.come };
    sides = begins.takes.sides;
    outside = none_own;
  }

  rebuilds : (x : Row) (members : List Member) → Contains v.rows x → x.tablet ≡ row.tablet → x.phase ≡ Rebuilding members master → IsBegun x members
  rebuilds x members there its phase =
      let same : x ≡ row = same_row x there its in
      let those : members ≡ lineage =
      ap lineage_of (sym phase) ∙ ap (λ (r : Row). lineage_of r.phase) same ∙ ap lineage_of is in
      rw (same, those) rebuilder

  own_yields : Yields v master left row.tablet own
  own_yields = record {
    beside = λ x there its.
        rw (same_row x there its) beside_row;
    formed = formed;
    begun = λ present. omega (arith, below);
    known = λ present. ap is_some found;
    unknown = λ none. let some : Some row ≡ None = sym found ∙ none in absurd (cc some);
    ranges = λ begun. row_within;
    bare = tt;
    rebuilds = λ x members there its phase at. rebuilds x members there its phase;
  }

  -- ---- its records

  -- outside the lineage, a row of which it is a member, or whose term it keeps, does not meet the range
  beside_range : is_member lineage master ≡ false → (x : Row) → Contains v.rows x → (is_member (lineage_of x.phase) master ≡ true) ⊎ ((v.handovers master x.tablet).term ≡ x.term) → meets row.range x.range ≡ false
  beside_range outside x there counts =
      ⊎_elim
      (λ (its : x.tablet ≡ row.tablet).
      let same : x ≡ row = same_row x there its in
      absurd (⊎_elim
      (λ (member : is_member (lineage_of x.phase) master ≡ true).
      false≢true
      (sym outside ∙ ap (λ (phase : Phase). is_member (lineage_of phase) master) (sym is)
      ∙ ap (λ (r : Row). is_member (lineage_of r.phase) master) (sym same) ∙ member))
      (λ (at : (v.handovers master x.tablet).term ≡ x.term).
      let here : old.term ≡ row.term = rw (← same) at in
      omega (arith, below, here)) counts))
      (λ (other : x.tablet ≡ row.tablet → ⊥). beside_order v master row.tablet row.term row.range sound order x there other counts)
      (cases_eq x.tablet row.tablet)

  are_left : AreLeft v master left
  are_left = go (own_member lineage master) begins
    where
      go : (member : Option Member) → MayBeginBy v row master sound has lives below lineage is member → AreLeft v master (items_left (v.records master) row.range member)
      go (Some member) may = record {
        ordered = sound.records.ordered master;
        stood = λ item at. at;
        stays = λ x there counts item inside at. at;
      }
      go None may = record {
        ordered = order_without row.range (v.records master) (sound.records.ordered master);
        stood = stood row.range (v.records master);
        stays = λ x there counts. stays row.range x.range (beside_range (may.foreign refl) x there counts) (v.records master);
      }

  pub view_begins : SoundView (begun v master (order_of row lineage))
  view_begins =
      view_yielded v (record {
        sound = sound;
        master = master;
        lives = lives;
        records = left;
        tablets = begun_tablets v master (order_of row lineage);
        left = are_left;
        step = step v master row.tablet row.term row.range sound order own refl left own_yields;
        apart = apart v master row.tablet row.term row.range sound order own refl;
      })

pub view_begun : (v : View) (row : Row) (master : ℕ) (rebuild : Rebuild) → SoundView v → MayBegin v row master rebuild → SoundView (begun v master rebuild)
view_begun v row master rebuild sound may = search (view_begins, rebuild.lineage, may.tablet_is, may.term_is, may.range_is)

-- ---- a world in which a master begins to rebuild a tablet

from_is : (w : World) (master : ℕ) (own : Option Member) → begun_from (master_at w master) own ≡ begins_from (view w) master own
from_is w master (Some member) = refl
from_is w master None = refl

module _ (w : World) (master : ℕ) (rebuild : Rebuild) where
  abbrev asked : ℕ
  asked = rebuild.tenure.tablet

  abbrev was : Tablet
  was = tablet_in w master asked

  -- what is left to the master, by its member of the lineage
  abbrev base : Option Member → Master
  base member = record (master_at w master) { records = items_left (master_at w master).records rebuild.range member }

  -- the master once its other tablets of the range are gone too
  abbrev left_alone : Option Member → Master
  left_alone member = with_others_given_up (base member) asked rebuild.range

  -- the tablet that it begins to rebuild, if this is its number
  abbrev begins_as : ℕ → Tablet
  begins_as number = as_begun number rebuild (begins_from (view w) master (own_member rebuild.lineage number)) was

  -- the master that begins, if this is its number
  abbrev begins_by_number : ℕ → Master
  begins_by_number number = with_tablet (left_alone (own_member rebuild.lineage number)) asked (begins_as number)

  moves : was.handover.term < rebuild.tenure.term → rebuild_begun (master_at w master) rebuild ≡ begins_by_number (master_at w master).number
  moves greater =
      grind (arith, own_at)

  pub view_begun_in : (master_at w master).number ≡ master → was.handover.term < rebuild.tenure.term → view (rebuild_begun_in w master rebuild) ≡ begun (view w) master rebuild
  view_begun_in numbered greater =
      ap (λ (m : Master). view (with_master w master m)) (moves greater ∙ ap begins_by_number numbered)
      ∙ view_taken w master (items_left (master_at w master).records rebuild.range (own_member rebuild.lineage master)) asked rebuild.range
      (begins_as master) refl
