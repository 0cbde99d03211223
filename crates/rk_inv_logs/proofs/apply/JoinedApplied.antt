-- A view stays sound when a Joined is applied that bears no mark: the side items that it makes part of its master's log are of the truth of
-- the first member already, or it names none for the row.
use Rattle.std.proofs.Common.{◌≡◌, ℕ, ◌+◌, ◌≤◌, max, true, false, List, [], ◌∷◌, ◌++◌, Some, None, refl, sym, ap, ◌∙◌, subst, inl, inr, ◌⊎◌}
use Rattle.std.proofs.Common.{arith, drop, filter, length, take, slice_get, Contains, flat_map, length-append, Bool, take-append-drop}
use Rattle.rk_inv_base.proofs.Words.{cases_Bool, cond-false, All-nil, Contains-append_left, filter-append, get, meets, Held, Member, Range}
use Rattle.rk_inv_base.proofs.Words.{Entry, Joined, filter_kept, lineage_of, Row, items_in, items_of, is_marked, unmarked_from, counting}
use Rattle.rk_inv_base.proofs.Words.{counts, is_joined_in, joined_from, material_of, named, side_entries, own_place, Written}
use Rattle.rk_inv_base.proofs.Words.{member_material, member_rest, member_truth, NamedFit, FirstIsDone, OnlyIsUnnamed, AreApart}
use Rattle.rk_inv_base.proofs.Words.{View, SoundView, last_of}
use Rattle.rk_inv_logs.proofs.Words.{nil_from_length, formed_apart, Extends, still_contains, sides_extend, append_nil, unless_marked}
use Rattle.rk_inv_logs.proofs.Words.{kept_stands, row_in, flat_from, named_from, named_of, unmarked_grow}
use Rattle.rk_inv_logs.specs.apply.Small.{MayApplyUnmarked, entry_applied, with_one_applied}
use Rattle.rk_inv_logs.proofs.apply.Members.{IsNextOf, IsStill, member_cases, stands_at, still, IsNamedItem, has_block, named_item}
use Rattle.rk_inv_logs.proofs.apply.Members.{applied_named, held_of}
use Rattle.rk_inv_logs.proofs.apply.Inserted.{dropped_next, unmarked_next}
use Rattle.rk_inv_logs.proofs.apply.Passing.{Gains, Passing, gains_none, uncalled, view_passed}
use Rattle.rk_entry.specs.declared.entry.Entry.TheVariants as entries

-- an item of entries is an entry among them
pub item_entry : (list : List Entry) (item : Held) → Contains (items_of list) item → Contains list (entries.Held item)
item_entry list item at = let of = flat_from items_in list item at in rw (held_of of.0 item of.2) of.1

-- side items came into the truth of a member, which it names
record Names (v : View) (joined : Joined) (now : ℕ → Written) (range : Range) (member : Member) : Type 0 where
  block : List Entry
  truth : member_truth now range member ≡ member_truth v.written range member ++ block
  rest : member_rest now range member ≡ member_rest v.written range member
  sides : (e : Entry) → Contains block e → IsNamedItem range (v.written member.master).sides (named range (unmarked_from (v.written member.master).marks member.from (v.written member.master).entries)) e
  few : length (member_truth v.written range member) + length block ≤ length (member_material v.written range member)
  met : meets joined.range range ≡ true
  stands : slice_get (v.written member.master).entries (v.written member.master).applied ≡ Some (entries.Joined joined)
  behind : member.from ≤ (v.written member.master).applied

module _ (v : View) (master : ℕ) (joined : Joined) (sound : SoundView v) (may : MayApplyUnmarked v master (entries.Joined joined)) where
  abbrev entry : Entry
  entry = entries.Joined joined

  abbrev after : ℕ → Written
  after = with_one_applied v.written master

  none_waits : get (v.calls master) (v.written master).applied ≡ None
  none_waits = uncalled v master entry sound may (λ call own. own)

  -- ---- members

  names : (range : Range) (member : Member) → IsNextOf v.written master (entries.Joined joined) may.stands range member → meets joined.range range ≡ true → Names v joined (with_one_applied v.written master) range member
  names range member next met =
      let w : Written = v.written member.master in
      let side : ℕ → List Entry = side_entries w.sides in
      let stands : slice_get w.entries w.applied ≡ Some entry = stands_at v.written master entry may.stands member.master next.at in
      let free : is_marked w.marks w.applied ≡ false =
      ap (λ (n : ℕ). is_marked (v.written n).marks (v.written n).applied) next.at ∙ may.unmarked in
      let old : List Entry = unmarked_from w.marks member.from (take w.applied w.entries) in
      let now : List Entry = unmarked_from w.marks member.from (take (w.applied + 1) w.entries) in
      let all : List Entry = unmarked_from w.marks member.from w.entries in
      let left : List Entry = unmarked_from w.marks (max member.from (w.applied + 1)) w.entries in
      let is : now ≡ old ++ entry ∷ [] =
      unmarked_next w.entries w.applied entry stands w.marks member.from next.behind ∙ ap (λ (b : Bool). old ++ unless_marked b entry)
      free in
      let more = has_block range w.sides old entry refl in
      let grown = unmarked_grow w.marks member.from (take (w.applied + 1) w.entries) w.entries
      (record { more = drop (w.applied + 1) w.entries; parts = sym (take-append-drop (w.applied + 1) w.entries) }) in
      record {
        block = more.block;
        truth = next.truth ∙ ap (λ (b : Bool). material_of range side (old ++ unless_marked b entry)) free ∙ more.parts;
        rest = next.rest_now ∙ sym (next.rest ∙ ap (λ (b : Bool). counting range (unless_marked b entry ++ left)) free);
        sides = λ e there.
            let kept = kept_stands (counts range) (flat_map side (named range (old ++ entry ∷ []))) e (more.from e there) in
            let of = flat_from side (named range (old ++ entry ∷ [])) e kept.0 in
            let by = named_from range (old ++ entry ∷ []) of.0 of.1 in
            named_item range w.sides (named range all) of.0 e
            (named_of range all by.0 of.0 (still_contains now all by.0 grown (rw is by.1)) by.2) of.2 kept.1;
        few = longer w now all (material_of range side old) more.block (ap (material_of range side) is ∙ more.parts) grown;
        met = met;
        stands = stands;
        behind = next.behind;
      }
    where
      longer : (w : Written) (now all front back : List Entry) → material_of range (side_entries w.sides) now ≡ front ++ back → Extends now all → length front + length back ≤ length (material_of range (side_entries w.sides) all)
      longer w now all front back is grown =
          let side : ℕ → List Entry = side_entries w.sides in
          let sides = sides_extend range side now all grown in
          let counted : counting range all ≡ counting range now ++ counting range grown.more =
          ap (counting range) grown.parts ∙ filter-append (counts range) now grown.more in
          let one = length-append front back in
          let same : length (material_of range side now) ≡ length (front ++ back) = ap (λ (l : List Entry). length l) is in
          let two = length-append (counting range now) (counting range (flat_map side (named range now))) in
          let three = length-append (counting range all) (counting range (flat_map side (named range all))) in
          let four : length (counting range all) ≡ length (counting range now ++ counting range grown.more) = ap (λ (l : List Entry). length l) counted in
          let five = length-append (counting range now) (counting range grown.more) in
          let six : length (counting range (flat_map side (named range all))) ≡ length (counting range (flat_map side (named range now)) ++ sides.more) =
          ap (λ (l : List Entry). length l) sides.parts in
          let seven = length-append (counting range (flat_map side (named range now))) sides.more in
          omega (arith, one, same, two, three, four, five, six, seven)

  either : (range : Range) (member : Member) → IsStill v.written (with_one_applied v.written master) range member ⊎ Names v joined (with_one_applied v.written master) range member
  either range member = elim (member_cases v.written master entry may.stands range member) [
    | inl same ↦ inl same
    | inr next ↦ elim (cases_Bool (meets joined.range range)) [
      | inl met ↦ inr (names range member next met)
      | inr apart ↦
          inl
          (still v.written master entry may.stands range member
          (λ at free. (refl, cond-false (meets joined.range range) joined.segments [] apart)))
    ]
  ]

  -- the first of two names no more than what it has applied
  first_still : (row : Row) → Contains v.rows row → (first second : Member) (more : List Member) → lineage_of row.phase ≡ first ∷ second ∷ more → IsStill v.written (with_one_applied v.written master) row.range first
  first_still row has first second more is =
      let done : FirstIsDone v.written row.range (first ∷ second ∷ more) = rw is at (row_in v sound row has).rest.done in
      elim (either row.range first) [
        | inl same ↦ same
        | inr named_it ↦
            let size = ap (λ (l : List Entry). length l) done.all in
            let none : named_it.block ≡ [] = nil_from_length named_it.block (omega (arith, size, named_it.few)) in
            record {
              truth = grind (arith, member_truth, append_nil, named_it.truth, v.written, row.range);
              rest = named_it.rest;
            }
      ]

  -- and an only one has no Joined of the range that is not applied
  only_still : (row : Row) → Contains v.rows row → (only : Member) → lineage_of row.phase ≡ only ∷ [] → IsStill v.written (with_one_applied v.written master) row.range only
  only_still row has only is =
      let unnamed : OnlyIsUnnamed v.written row.range (only ∷ []) =
      rw is at (row_in v sound row has).rest.unnamed in
      elim (either row.range only) [
        | inl same ↦ same
        | inr named_it ↦
            let w : Written = v.written only.master in
            let here : max only.from w.applied ≡ w.applied =
            (let behind : only.from ≤ w.applied = named_it.behind in omega (arith, behind)) in
            let joins : joined_from row.range w.applied w.entries ≡ entries.Joined joined ∷ filter (is_joined_in row.range) (drop (w.applied + 1) w.entries) =
            ap (filter (is_joined_in row.range)) (dropped_next w.entries w.applied (entries.Joined joined) named_it.stands)
            ∙ filter_kept (is_joined_in row.range) (entries.Joined joined) (drop (w.applied + 1) w.entries) named_it.met in
            absurd (cc (sym joins ∙ ap (λ (n : ℕ). joined_from row.range n w.entries) (sym here) ∙ unnamed))
      ]

  -- what the last of two names is of the truth of the first one
  named_first : (row : Row) → Contains v.rows row → (first second : Member) → lineage_of row.phase ≡ first ∷ second ∷ [] → (e : Entry)
      → IsNamedItem row.range (v.written second.master).sides (named row.range (unmarked_from (v.written second.master).marks second.from (v.written second.master).entries)) e
      → Contains (member_truth v.written row.range first) e
  named_first row has first second is e named_it =
      let fit : NamedFit v.written row.range (first ∷ second ∷ []) =
      rw is at (row_in v sound row has).receives.named in
      rw named_it.is at (item_entry (member_truth v.written row.range first) named_it.item (fit named_it.item named_it.stands))

  last_gains : (row : Row) → Contains v.rows row → (lineage : List Member) → AreApart lineage → lineage_of row.phase ≡ lineage → (last : Member) → last_of lineage ≡ Some last → Gains v (with_one_applied v.written master) row last
  last_gains row has (only ∷ []) apart is last ends = grind (arith, gains_none, only_still)
  last_gains row has (first ∷ second ∷ []) apart is last ends = let same : second ≡ last = cc ends in
      subst (Gains v after row) same (elim (either row.range second) [
        | inl still ↦ gains_none v after row second still
        | inr named_it ↦ record {
          more = record {
            before = member_truth v.written row.range second;
            block = named_it.block;
            behind = [];
            old_is = sym (append_nil (member_truth v.written row.range second));
            now_is = grind (arith, member_truth, append_nil, named_it.truth, v.written, row.range, named_it.block);
          };
          head = [];
          rest_is = sym named_it.rest;
          quiet = All-nil _;
          from = λ e at.
              inl
              (rw is
              (Contains-append_left (member_truth v.written row.range first) (member_truth v.written row.range second ++ []) e
              (named_first row has first second is e (named_it.sides e at))));
        }
      ])
  last_gains row has _ apart is last ends = absurd apart

  abbrev passing : Passing v
  passing = record {
    master = master;
    entry = entries.Joined joined;
    sound = sound;
    held = may.held;
    stands = may.stands;
    none = none_waits;
    firsts = first_still;
    only = λ row has only is. ap items_of (only_still row has only is).truth;
    lasts = λ row has. last_gains row has (lineage_of row.phase) (formed_apart row.phase (row_in v sound row has).rows.formed) refl;
    copied = inl refl;
    own = λ row has found.
        applied_named row.range (v.written master) joined may.stands may.unmarked (own_place (v.handovers master row.tablet).role)
        (v.records master) found;
  }

  pub view_joined : SoundView (entry_applied v master (entries.Joined joined))
  view_joined = view_passed v passing
