-- What members of a lineage, targets and masters that rebuild have once the next entry of a log is applied: beside what they had, that
-- entry, or the items that it names.
use Rattle.std.proofs.Common.{◌≡◌, ℕ, ◌+◌, ◌≤◌, max, Bool, true, false, List, [], ◌∷◌, ◌++◌, Some, refl, sym, ap, ◌∙◌, inl, inr, ◌⊎◌, arith}
use Rattle.std.proofs.Common.{slice_get, Option, take, Contains, drop, subst, append_assoc, filter, flat_map}
use Rattle.rk_inv_base.proofs.Words.{cases_Bool, cases_eq, cases_lt, Member, Range, Entry, filter_kept, filter_left_out, Base, last_of}
use Rattle.rk_inv_base.proofs.Words.{is_marked, unmarked, unmarked_from, counting, counts, material_of, named_by, side_entries}
use Rattle.rk_inv_base.proofs.Words.{log_material, Written, applied_entries, lineage_rest, lineage_truth, member_rest, member_truth}
use Rattle.rk_inv_base.proofs.Words.{AreApart, false≢true, Held, IsInScanOrder, Handover, Handed, items_in, items_of, touches, Pulling}
use Rattle.rk_inv_base.proofs.Words.{applied_from, HasArrived, IsFound, IsReceived, IsTarget, copied_items, entries_from, scan_items}
use Rattle.rk_inv_base.proofs.Words.{Contains-append_right, is_in, first_stands, none_stands, named, flat_map-append, Contains-append_cases}
use Rattle.rk_inv_base.proofs.Words.{Contains-append_left, Joined, stands_cases, named_items, Contains-push_cases}
use Rattle.rk_inv_logs.proofs.Words.{lineage_last, append_nil, unless_marked, put_by, put_here, put_other, stands_kept, sides_extend}
use Rattle.rk_inv_logs.proofs.Words.{flat_of, kept_stands, flat_from, named_from, named_of, free_stands, side_held}
use Rattle.rk_inv_logs.specs.apply.Small.{with_one_applied, with_item_of}
use Rattle.rk_inv_logs.proofs.apply.Inserted.{IsInserted, material_beside, material_more, nothing_ahead, rest_next, unmarked_next}
use Rattle.rk_inv_logs.proofs.apply.Inserted.{told_cases, told_new, told_still, counting_beside, counting_more, from_next, none_fewer}
use Rattle.rk_inv_logs.proofs.apply.ItemPut.{found_with, item_cases, item_found}
use Rattle.rk_inv_rows.proofs.lineage.TargetMaterial.{item_counts}
use Rattle.rk_entry.specs.declared.entry.Entry.TheVariants as entries

-- a member has what it had for a range
pub record IsStill (written now : ℕ → Written) (range : Range) (member : Member) : Type 0 where
  pub truth : member_truth now range member ≡ member_truth written range member
  pub rest : member_rest now range member ≡ member_rest written range member

-- an entry came into the truth of a member, and was the first of its rest
pub record Takes (entry : Entry) (written now : ℕ → Written) (range : Range) (member : Member) : Type 0 where
  pub truth : IsInserted entry (member_truth written range member) (member_truth now range member)
  pub rest : member_rest written range member ≡ entry ∷ member_rest now range member

-- ---- one member

module _ (written : ℕ → Written) (master : ℕ) (entry : Entry) (stands : slice_get (written master).entries (written master).applied ≡ Some entry) where
  -- what is written then
  abbrev after : ℕ → Written
  after = with_one_applied written master

  -- what holds of one more applied entry, and of as many as were, holds of each master
  pub of_applied : (P : ℕ → Type 0) (q : ℕ) → (q ≡ master → P ((written q).applied + 1)) → ((q ≡ master → ⊥) → P (written q).applied) → P (after q).applied
  of_applied P q here was = put_by (λ r. (written r).applied) master (λ n. n + 1) P q here was

  -- a master has one more applied, or is another one
  pub after_here : (q : ℕ) → q ≡ master → after q ≡ record (written q) { applied = (written q).applied + 1 }
  after_here q at = grind (arith, put_here)

  pub after_apart : (q : ℕ) → (q ≡ master → ⊥) → after q ≡ written q
  after_apart q apart = λ i. record (written q)
      { applied = put_other (λ r. (written r).applied) master ((written master).applied + 1) q apart i }

  -- the entry is next at the member's master, from its place on: if it bears no mark, it came behind what was applied, and was the first
  -- of the rest
  pub record IsNextOf (range : Range) (member : Member) : Type 0 where
    pub at : member.master ≡ master
    pub behind : member.from ≤ (written member.master).applied
    pub truth :
        member_truth after range member
        ≡ material_of range (side_entries (written member.master).sides)
        (unmarked_from (written member.master).marks member.from (applied_entries (written member.master))
        ++ unless_marked (is_marked (written member.master).marks (written member.master).applied) entry)
    pub rest :
        member_rest written range member
        ≡ counting range
        (unless_marked (is_marked (written member.master).marks (written member.master).applied) entry
        ++ unmarked_from (written member.master).marks (max member.from ((written member.master).applied + 1))
        (written member.master).entries)
    pub rest_now :
        member_rest after range member
        ≡ counting range (unmarked_from (written member.master).marks (max member.from ((written member.master).applied + 1))
        (written member.master).entries)

  abbrev truth_by : Range → ℕ → Written → List Entry
  truth_by range from w = log_material range w.marks w.sides from (applied_entries w)

  abbrev rest_by : Range → ℕ → Written → List Entry
  rest_by range from w = counting range (unmarked_from w.marks (max from w.applied) w.entries)

  pub stands_at : (q : ℕ) → q ≡ master → slice_get (written q).entries (written q).applied ≡ Some entry
  stands_at q at = ap (λ (n : ℕ). slice_get (written n).entries (written n).applied) at ∙ stands

  pub next_at : (range : Range) (member : Member) → member.master ≡ master → member.from ≤ (written member.master).applied → IsNextOf range member
  next_at range member at behind = grind (arith, after_here, material_of, side_entries, unmarked_next, stands_at, counting, rest_next)

  -- else it changes nothing
  pub member_cases : (range : Range) (member : Member) → IsStill written after range member ⊎ IsNextOf range member
  member_cases range member = let w : Written = written member.master in elim (cases_eq member.master master) [
    | inl at ↦ elim (cases_lt w.applied member.from) [
      | inl ahead ↦
          let same : max member.from (w.applied + 1) ≡ max member.from w.applied = omega (arith, ahead) in
          inl
          (record {
            truth = ap (truth_by range member.from) (after_here member.master at)
                ∙ ap (λ (l : List Entry). material_of range (side_entries w.sides) (unmarked w.marks member.from l))
                (nothing_ahead w.entries w.applied entry (stands_at member.master at) member.from ahead);
            rest = grind (arith, after_here, counting, unmarked_from, member.from, member.master, w.marks, w.entries);
          })
      | inr behind ↦ inr (next_at range member at behind)
    ]
    | inr apart ↦
        inl
        (record {
          truth = ap (truth_by range member.from) (after_apart member.master apart);
          rest = ap (rest_by range member.from) (after_apart member.master apart);
        })
  ]

  -- nor does it if it bears a mark, or neither counts nor names anything
  pub still : (range : Range) (member : Member) → (member.master ≡ master → is_marked (written member.master).marks (written member.master).applied ≡ false → (counts range entry ≡ false) × (named_by range entry ≡ [])) → IsStill written after range member
  still range member out = elim (member_cases range member) [
    | inl same ↦ same
    | inr next ↦
        let w : Written = written member.master in
        let old : List Entry = unmarked_from w.marks member.from (applied_entries w) in
        let left : List Entry = unmarked_from w.marks (max member.from (w.applied + 1)) w.entries in
        let side : ℕ → List Entry = side_entries w.sides in
        elim (cases_Bool (is_marked w.marks w.applied)) [
          | inl marked ↦ record {
            truth = grind (arith, material_of, unless_marked, append_nil, next.truth);
            rest = next.rest_now ∙ sym (next.rest ∙ ap (λ (b : Bool). counting range (unless_marked b entry ++ left)) marked);
          }
          | inr free ↦
              let beside = out next.at free in
              record {
                truth = next.truth ∙ ap (λ (b : Bool). material_of range side (old ++ unless_marked b entry)) free
                    ∙ material_beside range old entry side beside.1 beside.0;
                rest = grind (arith, counting, unless_marked, filter_left_out, counts, next.rest_now, next.rest, beside.0);
              }
        ]
  ]

  -- and it is taken if it counts, names nothing, and bears none
  pub takes : (range : Range) (member : Member) → IsNextOf range member → is_marked (written member.master).marks (written member.master).applied ≡ false → counts range entry ≡ true → named_by range entry ≡ [] → Takes entry written after range member
  takes range member next free inside names =
      let w : Written = written member.master in
      let old : List Entry = unmarked_from w.marks member.from (applied_entries w) in
      let left : List Entry = unmarked_from w.marks (max member.from (w.applied + 1)) w.entries in
      let side : ℕ → List Entry = side_entries w.sides in
      record {
        truth =
            rw (next.truth ∙ ap (λ (b : Bool). material_of range side (old ++ unless_marked b entry)) free)
            (material_more range old entry side names inside);
        rest = grind (arith, counting, unless_marked, filter_kept, counts, next.rest, next.rest_now);
      }

-- ---- lineages

-- one of one member or two has a last one
pub has_last : (lineage : List Member) → AreApart lineage → (last : Member) × (last_of lineage ≡ Some last)
has_last (only ∷ []) apart = (only, refl)
has_last (first ∷ second ∷ []) apart = (second, refl)
has_last _ apart = absurd apart

module _ (base : Base) (written now : ℕ → Written) (range : Range) where
  -- if each member has what it had, truth and rest are what they were
  pub truth_still : (lineage : List Member) → AreApart lineage → ((member : Member) → IsStill written now range member) → lineage_truth base now range lineage ≡ lineage_truth base written range lineage
  truth_still lineage apart each = grind arith

  -- what came into the truth of the last one came into that of the row, if the first of two has what it had
  pub truth_grows : (R : List Entry → List Entry → Type 0) → ((front old new : List Entry) → R old new → R (front ++ old) (front ++ new)) → ((old new : List Entry) → R old new → R (old ++ []) (new ++ []))
      → (lineage : List Member) → AreApart lineage → ((first second : Member) (more : List Member) → lineage ≡ first ∷ second ∷ more → IsStill written now range first)
      → ((last : Member) → last_of lineage ≡ Some last → R (member_truth written range last) (member_truth now range last))
      → R (lineage_truth base written range lineage) (lineage_truth base now range lineage)
  truth_grows R behind before lineage apart firsts grows = grind (arith, member_truth)

-- what came first in the rest of the last member came first in that of the row
pub rest_grows : (written now : ℕ → Written) (range : Range) (lineage : List Member) (last : Member) (head : List Entry) → last_of lineage ≡ Some last → member_rest written range last ≡ head ++ member_rest now range last → lineage_rest written range lineage ≡ head ++ lineage_rest now range lineage
rest_grows written now range lineage last head is rest =
    lineage_last written range lineage last is ∙ rest ∙ ap (λ (l : List Entry). head ++ l) (sym (lineage_last now range lineage last is))

-- own items, with those of an entry if it counts; any other is found
pub record HasOwn (range : Range) (entry : Entry) (Found : Held → Type 0) (own now : List Held) : Type 0 where
  pub still : (x : Held) → Contains own x → Contains now x
  pub new : counts range entry ≡ true → (x : Held) → Contains (items_in entry) x → Contains now x
  pub cases : (x : Held) → Contains now x → Contains (items_in entry) x ⊎ Contains own x ⊎ Found x

-- the item of an entry is behind a place, if the entry counts
abbrev pub StandsBehind : Range → Entry → ℕ → ℕ → Type 0
StandsBehind range entry from place = counts range entry ≡ true → (x : Held) → Contains (items_in entry) x → from ≤ place

-- what is applied of a master's own entries of a range, with one more: it has what it had, and beside it the entry's item or what is found
abbrev pub HasApplied : Range → ℕ → Written → Entry → List Held → Type 0
HasApplied range from w entry records = HasOwn range entry (IsFound records) (items_of (applied_from range from w))
    (items_of (applied_from range from (record w { applied = w.applied + 1 })))

module _ (range : Range) (entry : Entry) (Found : Held → Type 0) where
  -- the same items, if they have that of the entry
  pub own_same : (own : List Held) → (counts range entry ≡ true → (x : Held) → Contains (items_in entry) x → Contains own x) → HasOwn range entry Found own own
  own_same own has = record { still = λ x at. at; new = has; cases = λ x at. inr (inl at) }

  -- and those of entries, with that entry at the end of them
  pub own_next : (f : List Entry → List Entry) → ((list : List Entry) → counts range entry ≡ true → IsInserted entry (f list) (f (list ++ entry ∷ [])))
      → ((list : List Entry) → counts range entry ≡ false → f (list ++ entry ∷ []) ≡ f list)
      → (list : List Entry) (place from : ℕ) → slice_get list place ≡ Some entry → StandsBehind range entry from place
      → HasOwn range entry Found (items_of (f (drop from (take place list)))) (items_of (f (drop from (take (place + 1) list))))
  own_next f more beside list place from stands behind = let own : List Entry = drop from (take place list) in elim (cases_lt place from) [
    | inl ahead ↦
        rw (nothing_ahead list place entry stands from ahead)
        (own_same (items_of (f own)) (λ inside x at. let before = behind inside x at in absurd (omega (arith, before, ahead))))
    | inr before ↦ rw (from_next list place entry stands from before) (elim (cases_Bool (counts range entry)) [
      | inl inside ↦
          let put : IsInserted entry (f own) (f (own ++ entry ∷ [])) = more own inside in
          record {
            still = told_still entry (f own) (f (own ++ entry ∷ [])) put items_in;
            new = λ _. told_new entry (f own) (f (own ++ entry ∷ [])) put items_in;
            cases = λ x at.
                elim (told_cases entry (f own) (f (own ++ entry ∷ [])) put items_in x at) [ inl its ↦ inl its | inr was ↦ inr (inl was) ];
          }
      | inr outside ↦
          rw (beside own outside) (own_same (items_of (f own)) (λ inside. absurd (false≢true (sym outside ∙ inside))))
    ])
  ]

-- so it is of all that is applied from a place on, with the items of side segments
pub applied_with : (range : Range) (w : Written) (entry : Entry) (records : List Held) → slice_get w.entries w.applied ≡ Some entry → named_by range entry ≡ [] → (from : ℕ) → StandsBehind range entry from w.applied → HasApplied range from w entry records
applied_with range w entry records stands names from = own_next range entry (IsFound records) (material_of range (side_entries w.sides))
    (λ list. material_more range list entry (side_entries w.sides) names)
    (λ list. material_beside range list entry (side_entries w.sides) names) w.entries w.applied from stands

-- what has been received, with the entry among the own ones and in the records
received_with : (Arrived : Held → Type 0) (range : Range) (entry : Entry) (items own now sides records : List Held) → IsInScanOrder records → HasOwn range entry (λ x. ⊥) own now → IsReceived Arrived range items own sides records → IsReceived Arrived range items now sides (with_item_of entry records)
received_with Arrived range entry items own now sides records order has old = record {
  within = old.within;
  copied = λ x stands arrived. elim (old.copied x stands arrived) [
    | inl copied ↦ inl copied
    | inr outdone ↦
        inr
        (record {
          newer = outdone.newer;
          stands = has.still outdone.newer outdone.stands;
          same_key = outdone.same_key;
          above = outdone.above;
        })
  ];
  come = λ x stands inside. elim (item_cases entry records x stands) [
    | inl its ↦ inl (has.new (item_counts range entry x its inside) x its)
    | inr was ↦ elim (old.come x was inside) [ inl mine ↦ inl (has.still x mine) | inr copied ↦ inr copied ]
  ];
  found = λ x come. elim come [
    | inl mine ↦ elim (has.cases x mine) [
      | inl its ↦ item_found entry records x its
      | inr rest ↦ elim rest [ inl was ↦ found_with entry records x order (old.found x (inl was)) | inr none ↦ absurd none ]
    ]
    | inr source ↦ found_with entry records x order (old.found x (inr source))
  ];
}

pub target_applied : (range : Range) (w : Written) (entry : Entry) → slice_get w.entries w.applied ≡ Some entry → (from source : ℕ) (truth material : List Entry) (handover : Handover) (pulling : Pulling) (handed : Option Handed) (records : List Held)
    → IsInScanOrder records → StandsBehind range entry from w.applied → IsTarget range source truth material from w handover pulling handed records
    → IsTarget range source truth material from (record w { applied = w.applied + 1 }) handover pulling handed (with_item_of entry records)
target_applied range w entry stands from source truth material handover pulling handed records order behind old =
    let own =
    own_next range entry (λ x. ⊥) (counting range) (λ list. counting_more range list entry) (λ list. counting_beside range list entry)
    w.entries
    w.applied from stands behind in
    assumption (
      received_with (HasArrived handover.role pulling (scan_items truth)) range entry (scan_items truth)
          (items_of (entries_from range from (take w.applied w.entries)))
          (items_of (entries_from range from (take (w.applied + 1) w.entries))) (copied_items handover.role pulling w.sides) records order own
          old.received,
      none_fewer (touches range) w.applied (take from w.entries) old.early,
    )

-- ---- the items of side segments

-- what counts of side segments that are named is among the items there, of the range
pub record IsNamedItem (range : Range) (sides : List (List Held)) (numbers : List ℕ) (e : Entry) : Type 0 where
  pub item : Held
  pub is : entries.Held item ≡ e
  pub stands : Contains (filter (is_in range) (items_of (flat_map (side_entries sides) numbers))) item

pub named_item : (range : Range) (sides : List (List Held)) (numbers : List ℕ) (number : ℕ) (e : Entry) → Contains numbers number → Contains (side_entries sides number) e → counts range e ≡ true → IsNamedItem range sides numbers e
named_item range sides numbers number e named there counted =
    let its = side_held sides number e there in
    let all : List Entry = flat_map (side_entries sides) numbers in
    record {
      item = its.0;
      is = its.1;
      stands = stands_kept (is_in range) (items_of all) its.0
          (flat_of items_in all e its.0 (flat_of (side_entries sides) numbers number e named there)
          (subst (λ (x : Entry). Contains (items_in x) its.0) its.1 (first_stands its.0 [])))
          (subst (λ (x : Entry). counts range x ≡ true) (sym its.1) counted);
    }

-- ---- with a Joined at the end

module _ (range : Range) (sides : List (List Held)) (list : List Entry) (entry : Entry) (outside : counts range entry ≡ false) where
  -- what counts has a block of side items more, of segments that are named
  pub record HasBlock : Type 0 where
    pub block : List Entry
    pub parts : material_of range (side_entries sides) (list ++ entry ∷ []) ≡ material_of range (side_entries sides) list ++ block
    pub from :
        (e : Entry) → Contains block e
        → Contains (counting range (flat_map (side_entries sides) (named range (list ++ entry ∷ [])))) e

  pub has_block : HasBlock
  has_block =
      let side : ℕ → List Entry = side_entries sides in
      let old : List Entry = counting range (flat_map side (named range list)) in
      let grown = sides_extend range side list (list ++ entry ∷ []) (record { more = entry ∷ []; parts = refl }) in
      record {
        block = grown.more;
        parts = grind (arith, counting_beside, append_assoc, counting, grown.parts, grown.more);
        from = λ e at. rw grown.parts (Contains-append_right old grown.more e at);
      }

-- an entry that has an item is that item
pub held_of : (entry : Entry) (item : Held) → Contains (items_in entry) item → entries.Held item ≡ entry
held_of entry item at = grind (arith, stands_cases, none_stands)

module _ (range : Range) (w : Written) (joined : Joined) (stands : slice_get w.entries w.applied ≡ Some (entries.Joined joined)) (free : is_marked w.marks w.applied ≡ false) (from : ℕ) (records : List Held) (found : (x : Held) → Contains (named_items range from w) x → IsFound records x) where
  abbrev side : ℕ → List Entry
  side = side_entries w.sides

  -- the entries that were applied from the place on, with the Joined
  abbrev old : List Entry
  old = drop from (take w.applied w.entries)

  abbrev with_it : List Entry
  with_it = drop from (take w.applied w.entries) ++ entries.Joined joined ∷ []

  abbrev all : List Entry
  all = unmarked_from w.marks from w.entries

  -- an item of the segments that are named then was there, or is found: the Joined bears no mark, so what it names is named
  of_side : from ≤ w.applied → (x : Held) (e : Entry) → Contains (items_in e) x → Contains (counting range (flat_map (side_entries w.sides) (named range with_it))) e → Contains (items_of (applied_from range from w)) x ⊎ IsFound records x
  of_side behind x e its at =
      let kept = kept_stands (counts range) (flat_map side (named range with_it)) e at in
      let there = flat_from side (named range with_it) e kept.0 in
      let by = named_from range with_it there.0 there.1 in
      elim (Contains-push_cases old (entries.Joined joined) by.0 by.1) [
        | inl before ↦
            inl
            (flat_of items_in (material_of range side old) e x
            (Contains-append_right (counting range old) (counting range (flat_map side (named range old))) e
            (stands_kept (counts range) (flat_map side (named range old)) e
            (flat_of side (named range old) there.0 e (named_of range old by.0 there.0 before by.2) there.2) kept.1)) its)
        | inr is ↦
            let here : Contains all by.0 =
            rw is at
            (free_stands w.marks from w.entries (entries.Joined joined)
            (record { place = w.applied; behind = behind; stands = stands; free = free })) in
            let item =
            named_item range w.sides (named range all) there.0 e (named_of range all by.0 there.0 here by.2) there.2 kept.1 in
            let same : item.item ≡ x = cc (item.is ∙ sym (held_of e x its)) in inr (found x (rw same at item.stands))
      ]

  named_own : from ≤ w.applied → HasOwn range (entries.Joined joined) (IsFound records) (items_of (material_of range (side_entries w.sides) old)) (items_of (material_of range (side_entries w.sides) with_it))
  named_own behind =
      let more = has_block range w.sides old (entries.Joined joined) refl in
      let was : List Held = items_of (material_of range side old) in
      let parts : items_of (material_of range side with_it) ≡ was ++ items_of more.block =
      ap items_of more.parts ∙ flat_map-append items_in (material_of range side old) more.block in
      record {
        still = λ x at. rw parts (Contains-append_left was (items_of more.block) x at);
        new = λ counted x at. absurd (none_stands x at);
        cases = λ x at.
            elim (Contains-append_cases was (items_of more.block) x (subst (λ (l : List Held). Contains l x) parts at)) [
              | inl before ↦ inr (inl before)
              | inr new ↦ let it = flat_from items_in more.block x new in inr (of_side behind x it.0 it.2 (more.from it.0 it.1))
            ];
      }

  pub applied_named : HasApplied range from w (entries.Joined joined) records
  applied_named = elim (cases_lt w.applied from) [
    | inl ahead ↦
        rw (nothing_ahead w.entries w.applied (entries.Joined joined) stands from ahead)
        (own_same range (entries.Joined joined) (IsFound records) (items_of (material_of range side old)) (λ counted. absurd (cc counted)))
    | inr behind ↦ rw (from_next w.entries w.applied (entries.Joined joined) stands from behind) (named_own behind)
  ]
