-- The law of entries that are applied: a view stays sound when the next entry of a master's log is, if what counts for each row gives
-- its history then, and what is said beside the rows is so. What is asked beside it of the entry, and what follows for targets, for
-- rebuilds and for messages, is the same whatever it records.
use Rattle.std.proofs.Common.{◌≡◌, ℕ, ◌+◌, true, false, List, [], ◌∷◌, Some, refl, sym, ap, ◌∙◌, subst, inl, inr, ◌⊎◌, arith, ◌≤◌, ◌<◌}
use Rattle.std.proofs.Common.{Contains, All, IfSome, slice_get, slice_index_or, Option, None, ◌++◌, drop, option_map}
use Rattle.rk_inv_base.proofs.Words.{All-contains, All-cons, All-nil, IfSome_then, get_or_from_slice_get, slice_get_within, get, Ended}
use Rattle.rk_inv_base.proofs.Words.{Held, Member, Node, Range, Entry, Completions, completions_from, Handover, Role, lineage_of, Phase}
use Rattle.rk_inv_base.proofs.Words.{Moving, Rebuilding, Row, known_of, committed, EntryEnd, Body, Got, Pulled, CopySegment, Rebuilt}
use Rattle.rk_inv_base.proofs.Words.{items_in, items_of, by_member, merge, own_place, is_absent, Written, member_material, member_truth}
use Rattle.rk_inv_base.proofs.Words.{Mark, Merged, MayApply, IsEntryWithin, IsItemWithin, is_wanting, stored_of, CopyIn, GotAgrees}
use Rattle.rk_inv_base.proofs.Words.{PulledAgrees, RebuiltIn, SaysOf, HasJoined, HasRebuilt, post_of, bond_of, Holds, IsRebuilder, MarkFits}
use Rattle.rk_inv_base.proofs.Words.{NeededOf, READ_BACKUP, RowIsRebuilt, merged_place, IsPieceOf, IsBare, IsFound, IsTarget, MembersFit}
use Rattle.rk_inv_base.proofs.Words.{NamedFit, is_granted, wanted_place, named_items, View, truths, SoundView, CoverOf, LogsOf, Call}
use Rattle.rk_inv_base.proofs.Words.{NumberMap, Placed, IsKnown, IsStagedEnd, told, IsInScanOrder, Waits, EachIn, AreAboveMap}
use Rattle.rk_inv_base.proofs.Words.{AreHandedOver, FirstIsDone, HandedFits, Handed, HasItems, OnlyIsUnnamed, ReachAll, TellAll, base_map}
use Rattle.rk_inv_base.proofs.Words.{beginning_in, ends_of, floor_of, handed_by, handed_for_grant, has_all_items, is_joined_in, joined_from}
use Rattle.rk_inv_base.proofs.Words.{last_of, list_any, map_after, rests, target_truth, touches, member_given_up, order_after, is_idle}
use Rattle.rk_inv_base.proofs.Words.{Message}
use Rattle.rk_inv_logs.proofs.Words.{all_by, by_master, if_master, part_weaker, rebuilder_weaker, put_by, newer_cases, Bond, Closed, Both}
use Rattle.rk_inv_logs.proofs.Words.{Either, IsGatherOf, CountsFor, SoundBeside, SoundRow, SpeaksFor, row_in, view_by_rows, TellHistory}
use Rattle.rk_tablet_map.specs.Phase.{member as member_at}
use Rattle.rk_inv_base.proofs.views.ByRows.{staged_as}
use Rattle.rk_sound.specs.Things.{IsNextOf}
use Rattle.rk_inv_logs.proofs.apply.ItemPut.{found_with, item_cases, item_found}
use Rattle.rk_inv_rows.proofs.lineage.TargetMaterial.{item_counts}
use Rattle.rk_inv_logs.specs.apply.Small.{with_item_of, entry_applied, with_one_applied}
use Rattle.rk_inv_logs.proofs.apply.Members.{HasApplied, StandsBehind, target_applied, IsStill, after_apart, after_here, stands_at}
use Rattle.rk_inv_logs.proofs.apply.Inserted.{none_fewer, none_from}
use Rattle.rk_inv_rows.proofs.lineage.FewerMarks.{waits_with}
use Rattle.rk_entry.specs.declared.entry.Entry.TheVariants as entries
use Rattle.rk_transfer.specs.declared.role.Role.TheVariants as roles
use Rattle.rk_inv_logs.proofs.apply.Members as members

-- ---- data

-- what holds of records and of the item of an entry holds of the records with it
all_with : (P : Held → Type 0) (entry : Entry) (records : List Held) → All P records → All P (items_in entry) → All P (with_item_of entry records)
all_with P (entries.Held held) records old new =
    all_by P (with_item_of (entries.Held held) records) (λ x stands. elim (newer_cases held records x stands) [
      | inl is ↦ rw is at (All-contains P (held ∷ []) held new (0, omega arith, refl))
      | inr was ↦ All-contains P records x old was
    ])
all_with P _ records old new = old

-- the item of an entry that lies in rows lies there
item_within : (rows : List Row) (entry : Entry) → IsEntryWithin rows entry → All (IsItemWithin rows) (items_in entry)
item_within rows (entries.Held held) within = All-cons (IsItemWithin rows) held [] within (All-nil (IsItemWithin rows))
item_within rows _ within = All-nil (IsItemWithin rows)

-- a bond holds with more applied
holds_more : (bond : Bond) (term own few many : ℕ) → few ≤ many → Holds bond term own few → Holds bond term own many
holds_more (Closed entry) term own few many more holds = let closed : entry < few = holds in omega (arith, closed, more)
holds_more (Both one other) term own few many more holds =
    (holds_more one term own few many more holds.0, holds_more other term own few many more holds.1)
holds_more (Either one other) term own few many more holds =
    elim holds [ inl a ↦ inl (holds_more one term own few many more a) | inr b ↦ inr (holds_more other term own few many more b) ]
holds_more _ term own few many more holds = holds

-- ---- reports

-- an entry that was applied is
joined_more : (role : Role) (few many : ℕ) → few ≤ many → HasJoined role few → HasJoined role many
joined_more (roles.Joining (Some place)) few many more has = let below : place < few = has in omega (arith, below, more)
joined_more role few many more has = has

rebuilt_more : (role : Role) (few many place : ℕ) → few ≤ many → HasRebuilt role few place → HasRebuilt role many place
rebuilt_more role few many place more has = grind arith

rebuilt_says : (phase : Phase) (handover : Handover) (ends : List Ended) (few many term master : ℕ) (rebuilt : Rebuilt) → few ≤ many → RebuiltIn phase handover ends few term master rebuilt → RebuiltIn phase handover ends many term master rebuilt
rebuilt_says phase handover ends few many term master rebuilt more says = grind (arith, rebuilt_more)

-- ---- what has to be read

-- the same is needed however much is applied
needs_same : (v : View) (master : ℕ) (row : Row) (lineage : List Member) (q : ℕ) (end : EntryEnd) → NeededOf row (with_one_applied v.written master) lineage q end → NeededOf row v.written lineage q end
needs_same v master row lineage q end needed = grind (arith, member_given_up, member_material)

-- what waits for its grant is not absent
waiting_so : (role : Role) (P Q : ℕ → Type 0) → (is_wanting role ≡ true → is_absent role ≡ false → (from : ℕ) → P from → Q from) → IfSome (wanted_place role) P → IfSome (wanted_place role) Q
waiting_so (roles.Wanting from) P Q so holds = so refl refl from holds
waiting_so role P Q so holds = tt

-- the piece of a rebuild is the same however much is applied
piece_same : (number from : ℕ) (handover : Handover) (merged : Merged) (w : Written) (closing applied : ℕ) → IsPieceOf number from handover merged w closing → IsPieceOf number from handover merged (record w { applied = applied }) closing
piece_same number from handover merged w closing applied piece = search piece

-- ---- the entry

-- if the master has nothing of the range of a tablet, it still has nothing with the item of an entry
abbrev pub StaysBare : View → ℕ → Entry → ℕ → Type 0
StaysBare v master entry tablet =
    (from : ℕ) (w : Written) → IsBare (v.handovers master tablet).range from w (v.records master)
    → IsBare (v.handovers master tablet).range from w (with_item_of entry (v.records master))

-- the next entry of a master's log is applied, in a sound view, with the calls that wait then, the last ends that masters keep, and the
-- journal
pub record Applies (v : View) : Type 0 where
  pub master : ℕ
  pub entry : Entry
  pub sound : SoundView v
  pub held : MayApply v master
  pub stands : slice_get (v.written master).entries (v.written master).applied ≡ Some entry
  pub calls : ℕ → NumberMap Call
  pub kept : ℕ → ℕ → Completions
  pub journal : List Placed
  -- the first of two members has what it had
  pub firsts :
      (row : Row) → Contains v.rows row → (first second : Member) (more : List Member) → lineage_of row.phase ≡ first ∷ second ∷ more
      → IsStill v.written (with_one_applied v.written master) row.range first
  -- an item of a row is behind the place of the target that was granted it, and a master that waits for a grant has none of it
  pub granted :
      (row : Row) → Contains v.rows row → (first last : Member) → lineage_of row.phase ≡ first ∷ last ∷ [] → last.master ≡ master
      → is_granted (v.handovers last.master row.tablet).role ≡ true
      → StandsBehind row.range entry last.from (v.written last.master).applied
  pub wanted :
      (tablet : ℕ) → is_wanting (v.handovers master tablet).role ≡ true → is_absent (v.handovers master tablet).role ≡ false
      → StaysBare v master entry tablet
  -- what the master rebuilds has what it had
  pub own :
      (row : Row) → Contains v.rows row → (lineage : List Member) → row.phase ≡ Rebuilding lineage master
      → (v.handovers master row.tablet).term ≡ row.term
      → ((x : Held) → Contains (named_items row.range (own_place (v.handovers master row.tablet).role) (v.written master)) x
      → IsFound (v.records master) x)
      → HasApplied row.range (own_place (v.handovers master row.tablet).role) (v.written master) entry (v.records master)
  -- the last ends that are kept are those of what was merged still, and those of frozen sources, and of other masters
  pub others : (q tablet : ℕ) → (q ≡ master → ⊥) → kept q tablet ≡ v.completions q tablet
  pub merged :
      (row : Row) → Contains v.rows row → (lineage : List Member) → row.phase ≡ Rebuilding lineage master
      → (v.handovers master row.tablet).term ≡ row.term → IsGatherOf (v.gathers master row.tablet) row.range lineage master
      → (m : Merged)
      → m
      ≡ merge (member_material v.written row.range (member_at master (own_place (v.handovers master row.tablet).role)))
      (by_member (v.gathers master row.tablet)
      (member_material v.written row.range (member_at master (own_place (v.handovers master row.tablet).role))))
      → v.completions master row.tablet ≡ completions_from [] m.ends → kept master row.tablet ≡ completions_from [] m.ends
  pub frozen :
      (q tablet : ℕ) → (v.handovers q tablet).role ≡ roles.Frozen → kept q tablet ≡ v.completions q tablet

-- what is to be shown of a row: what counts for it records its history, and so will what a target has once its source is forgotten. No item
-- is lost, and no floor rises; who answers, and what is handed over, has all of it; and the records of the first member have the newest
pub record Tells (v now : View) (row : Row) : Type 0 where
  pub history : TellHistory v.base row.range (truths now row) (rests now row) now.journal v.asked
  pub moving : IfSome (target_truth now.written v.handed row row.phase) (TellAll row.range now.journal)
  pub low_moving :
      IfSome (target_truth now.written v.handed row row.phase) (AreAboveMap row.range (map_after (base_map v.base) now.journal))
  pub still : (x : Held) → Contains (items_of (truths v row)) x → Contains (items_of (truths now row)) x
  pub floor : floor_of (truths now row ++ rests now row) ≤ floor_of (truths v row ++ rests v row)
  pub answering :
      (q : ℕ) → CountsFor v row q → SpeaksFor v row q → ReachAll row.range now.journal (ends_of (now.completions q row.tablet))
  pub ends_granted : IfSome (handed_for_grant row v.handovers v.handed) (λ h. AreHandedOver v.base row.range now.journal h.ends)
  pub ends_sent : EachIn (λ n m. IfSome (handed_by row v.handovers m.body) (λ h. AreHandedOver v.base row.range now.journal h.ends)) v.wire
  pub items :
      (q : ℕ) → v.live q ≡ true → has_all_items (post_of row.phase q) (v.handovers q row.tablet) row.term ≡ true
      → HasItems row now.written (now.records q)
  pub handed_on : HandedFits row v.handovers now.completions v.handed (lineage_of row.phase)

-- what a target has once its source is forgotten: what follows of it for any last member follows
pub of_target : (v : View) (written : ℕ → Written) (row : Row) (P Q : List Entry → Type 0)
    → ((last : Member) → last_of (lineage_of row.phase) ≡ Some last → (front : List Entry) → P (front ++ member_truth v.written row.range last) → Q (front ++ member_truth written row.range last))
    → (phase : Phase) → row.phase ≡ phase → IfSome (target_truth v.written v.handed row phase) P → IfSome (target_truth written v.handed row phase) Q
of_target v written row P Q gives (Moving source sfrom target dfrom) is old = of_handed (get v.handed row.tablet) old
  where
    of_handed : (handed : Option Handed)
        → IfSome (option_map (λ h. beginning_in row h ∷ member_truth v.written row.range (member_at target dfrom)) handed) P
        → IfSome (option_map (λ h. beginning_in row h ∷ member_truth written row.range (member_at target dfrom)) handed) Q
    of_handed None old = tt
    of_handed (Some h) old = gives (member_at target dfrom) (ap (λ (p : Phase). last_of (lineage_of p)) is) (beginning_in row h ∷ []) old
of_target v written row P Q gives _ is old = old

-- an end is known by the journal, or staged of a row that a master rebuilds
abbrev pub IsKnownIn : View → View → ℕ → ℕ → Ended → Type 0
IsKnownIn v now q r end = IsKnown v.base now.journal end ⊎ IsStagedEnd v.rows (rests now) q r (v.handovers q r).term end

pub end_then : (v now : View) (q r : ℕ) (end : Ended) → (IsKnown v.base v.journal end → IsKnown v.base now.journal end)
    → ((row : Row) → Contains v.rows row → Contains (told (rests v row)) end → IsKnown v.base now.journal end ⊎ Contains (told (rests now row)) end)
    → IsKnownIn v v q r end → IsKnownIn v now q r end
end_then v now q r end known staged is = elim is [
  | inl was ↦ inl (known was)
  | inr s ↦ elim (staged s.row s.stands s.told) [
    | inl told ↦ inl told
    | inr there ↦
        let term : ℕ = (v.handovers q r).term in
        inr (staged_as v.rows v.rows (rests v) (rests now) q r term term end s s.stands there s.at_term)
  ]
]

module _ (v : View) (b : Applies v) where
  abbrev pub now : View
  now = record (entry_applied v b.master b.entry) { calls = b.calls; completions = b.kept; journal = b.journal }

  pub of_applied : (P : ℕ → Type 0) (q : ℕ) → (q ≡ b.master → P ((v.written q).applied + 1)) → ((q ≡ b.master → ⊥) → P (v.written q).applied) → P (now.written q).applied
  of_applied = members.of_applied v.written b.master b.entry b.stands

  of_records : (P : List Held → Type 0) (q : ℕ) → (q ≡ b.master → P (with_item_of b.entry (v.records q))) → ((q ≡ b.master → ⊥) → P (v.records q)) → P (now.records q)
  of_records P q here was = put_by v.records b.master (with_item_of b.entry) P q here was

  -- what a master has written, and its records, with the entry or without it
  of_both : (P : Written → List Held → Type 0) (q : ℕ) → (q ≡ b.master → P (record (v.written q) { applied = (v.written q).applied + 1 }) (with_item_of b.entry (v.records q))) → ((q ≡ b.master → ⊥) → P (v.written q) (v.records q)) → P (now.written q) (now.records q)
  of_both P q here was = grind (arith, of_records, after_here, after_apart)

  pub applied_grows : (q : ℕ) → (v.written q).applied ≤ (now.written q).applied
  applied_grows q = of_applied (λ n. (v.written q).applied ≤ n) q (λ at. omega arith) (λ apart. omega arith)

  -- ---- frames

  entry_within : IsEntryWithin v.rows b.entry
  entry_within =
      let w : Written = v.written b.master in
      All-contains (IsEntryWithin v.rows) w.entries b.entry (b.sound.cover.entries b.master)
      (w.applied, slice_get_within w.entries w.applied b.entry b.stands, get_or_from_slice_get w.entries w.applied b.entry b.entry b.stands)

  pub cover_now : CoverOf now
  cover_now =
      assumption (
        λ (q : ℕ).
            of_records (All (IsItemWithin v.rows)) q
            (λ at. all_with (IsItemWithin v.rows) b.entry (v.records q) (b.sound.cover.items q) (item_within v.rows b.entry entry_within))
            (λ apart. b.sound.cover.items q),
        b.sound.cover,
      )

  pub logs_now : LogsOf now
  logs_now = grind (arith, of_applied, committed)

  -- ---- targets

  target_at : (other : Row) → Contains v.rows other → (first last : Member) → lineage_of other.phase ≡ first ∷ last ∷ [] → is_granted (v.handovers last.master other.tablet).role ≡ true → (truth : List Entry)
      → IsTarget other.range first.master truth (member_material v.written other.range first) last.from (v.written last.master) (v.handovers last.master other.tablet) (v.pullings last.master other.tablet) (get v.handed other.tablet) (v.records last.master)
      → IsTarget other.range first.master truth (member_material v.written other.range first) last.from (now.written last.master) (v.handovers last.master other.tablet) (v.pullings last.master other.tablet) (get v.handed other.tablet) (now.records last.master)
  target_at other has first last is granted truth old =
      of_both
      (λ w records.
      IsTarget other.range first.master truth (member_material v.written other.range first) last.from w
      (v.handovers last.master other.tablet)
      (v.pullings last.master other.tablet) (get v.handed other.tablet) records) last.master
      (λ at.
      target_applied other.range (v.written last.master) b.entry (stands_at v.written b.master b.entry b.stands last.master at) last.from
      first.master truth (member_material v.written other.range first) (v.handovers last.master other.tablet)
      (v.pullings last.master other.tablet) (get v.handed other.tablet) (v.records last.master) (b.sound.records.ordered last.master)
      (b.granted other has first last is at granted) old) (λ apart. old)

  members_at : (other : Row) → Contains v.rows other → (lineage : List Member) → lineage_of other.phase ≡ lineage → MembersFit other v.written v.handovers v.pullings v.records v.handed lineage → MembersFit other now.written v.handovers v.pullings now.records v.handed lineage
  members_at other has (first ∷ last ∷ []) is fit = λ granted.
      rw (b.firsts other has first last [] is).truth
      (target_at other has first last is granted (member_truth v.written other.range first) (fit granted))
  members_at other has _ is fit = tt

  named_at : (other : Row) → Contains v.rows other → (lineage : List Member) → lineage_of other.phase ≡ lineage → NamedFit v.written other.range lineage → NamedFit now.written other.range lineage
  named_at other has (first ∷ last ∷ []) is fit = λ item there. rw (b.firsts other has first last [] is).truth (fit item there)
  named_at other has _ is fit = tt

  pub bare_now : (q r : ℕ) → IfSome (wanted_place (v.handovers q r).role) (λ from. IsBare (v.handovers q r).range from (now.written q) (now.records q))
  bare_now q r =
      let kept : Handover = v.handovers q r in
      waiting_so kept.role (λ from. IsBare kept.range from (v.written q) (v.records q))
      (λ from. IsBare kept.range from (now.written q) (now.records q)) (λ wants there from bare.
      of_records (λ records. IsBare kept.range from (now.written q) records) q
      (λ at.
      let with_it : IsBare kept.range from (v.written q) (with_item_of b.entry (v.records q)) =
      subst
      (λ (n : ℕ).
      is_wanting (v.handovers n r).role ≡ true → is_absent (v.handovers n r).role ≡ false
      → IsBare (v.handovers n r).range from (v.written n) (v.records n)
      → IsBare (v.handovers n r).range from (v.written n) (with_item_of b.entry (v.records n))) (sym at)
      (λ w t. b.wanted r w t from (v.written b.master)) wants there bare in
      assumption with_it) (λ apart. assumption bare)) (b.sound.receives.bare q r)

  -- ---- records, and the calls that wait

  pub ordered_now : (q : ℕ) → IsInScanOrder (now.records q)
  ordered_now q = grind (arith, of_records, order_after)

  pub waits_on : (q number : ℕ) (call : Call) → (now.written q).applied ≤ number → Waits v.rows (v.handovers q) (v.written q) q number call → Waits v.rows (v.handovers q) (now.written q) q number call
  waits_on q number call behind old = grind (arith, waits_with)

  -- ---- rebuilds

  -- a master that rebuilds a row
  abbrev IsRebuilderBy : Row → List Member → ℕ → List Entry → (ℕ → EntryEnd → Type 0) → Written → Completions → List Held → Type 0
  IsRebuilderBy other lineage to truth Needed w ends records = IsRebuilder other lineage to truth
      (member_material v.written other.range (member_at to (own_place (v.handovers to other.tablet).role))) Needed
      (λ q. known_of (v.logs q) READ_BACKUP) (λ q. stored_of v.stored q READ_BACKUP) w (v.handovers to other.tablet) ends
      (v.gathers to other.tablet) (v.merged to other.tablet) records

  module _ (other : Row) (has : Contains v.rows other) (still : (x : Held) → Contains (items_of (truths v other)) x → Contains (items_of (truths now other)) x) where
    rebuilder_here : (lineage : List Member) → other.phase ≡ Rebuilding lineage b.master → (v.handovers b.master other.tablet).term ≡ other.term → (Needed : ℕ → EntryEnd → Type 0)
        → IsRebuilderBy other lineage b.master (truths v other) Needed (v.written b.master) (v.completions b.master other.tablet) (v.records b.master)
        → IsRebuilderBy other lineage b.master (truths now other) Needed (record (v.written b.master) { applied = (v.written b.master).applied + 1 }) (b.kept b.master other.tablet) (with_item_of b.entry (v.records b.master))
    rebuilder_here lineage is at_term Needed old =
        let w : Written = v.written b.master in
        let kept : Handover = v.handovers b.master other.tablet in
        let from : ℕ = own_place (v.handovers b.master other.tablet).role in
        let records : List Held = v.records b.master in
        let order = b.sound.records.ordered b.master in
        let own : HasApplied other.range from w b.entry records = b.own other has lineage is at_term (λ x at. (old.sides x at).1) in
        record {
          range_is = old.range_is;
          gather = old.gather;
          read = old.read;
          placed = old.placed;
          merged = IfSome_then (merged_place kept.role) old.merged (λ closing merged. record {
            gathered_all = merged.gathered_all;
            merged = merged.merged;
            merged_is = merged.merged_is;
            ends_are = merged.ends_are;
            piece = piece_same other.tablet from kept merged.merged w closing (w.applied + 1) merged.piece;
            counter = merged.counter;
            completions = b.merged other has lineage is at_term old.gather merged.merged merged.merged_is merged.completions;
          });
          items = record {
            found = λ x at. elim (own.cases x at) [
              | inl its ↦ item_found b.entry records x its
              | inr rest ↦ found_with b.entry records x order (elim rest [ inl was ↦ old.items.found x was | inr is ↦ is ])
            ];
            come = λ x at inside. elim (item_cases b.entry records x at) [
              | inl its ↦ inl (own.new (item_counts other.range b.entry x its inside) x its)
              | inr was ↦ elim (old.items.come x was inside) [ inl mine ↦ inl (own.still x mine) | inr told ↦ inr (still x told) ]
            ];
          };
          sides = λ x at. let was = old.sides x at in (still x was.0, found_with b.entry records x order was.1);
          outside = old.outside;
        }

    rebuilder_at : (lineage : List Member) (to : ℕ) → other.phase ≡ Rebuilding lineage to → (v.handovers to other.tablet).term ≡ other.term → (Needed : ℕ → EntryEnd → Type 0)
        → IsRebuilderBy other lineage to (truths v other) Needed (v.written to) (v.completions to other.tablet) (v.records to)
        → IsRebuilderBy other lineage to (truths now other) Needed (now.written to) (b.kept to other.tablet) (now.records to)
    rebuilder_at lineage to is at_term Needed old =
        of_both (λ w records. IsRebuilderBy other lineage to (truths now other) Needed w (b.kept to other.tablet) records) to
        (λ at.
        subst
        (λ (m : ℕ).
        IsRebuilderBy other lineage m (truths now other) Needed (record (v.written m) { applied = (v.written m).applied + 1 })
        (b.kept m other.tablet) (with_item_of b.entry (v.records m))) (sym at)
        (rebuilder_here lineage (is ∙ ap (Rebuilding lineage) at)
        (subst (λ (m : ℕ). (v.handovers m other.tablet).term ≡ other.term) at at_term) Needed
        (subst (λ (m : ℕ). IsRebuilderBy other lineage m (truths v other) Needed (v.written m) (v.completions m other.tablet) (v.records m))
        at old))) (λ apart.
        rw (b.others to other.tablet apart)
        (record {
          range_is = old.range_is;
          gather = old.gather;
          read = old.read;
          placed = old.placed;
          merged = old.merged;
          items = record {
            found = old.items.found;
            come = λ x at inside. elim (old.items.come x at inside) [ inl mine ↦ inl mine | inr told ↦ inr (still x told) ];
          };
          sides = λ x at. let was = old.sides x at in (still x was.0, was.1);
          outside = old.outside;
        }))

    rebuilt_at : (phase : Phase) → other.phase ≡ phase → RowIsRebuilt other phase (truths v other) v.logs v.written v.stored v.handovers v.completions v.gathers v.merged v.records v.live
        → RowIsRebuilt other phase (truths now other) v.logs now.written v.stored v.handovers b.kept v.gathers v.merged now.records v.live
    rebuilt_at (Rebuilding lineage to) is says = (
      λ term.
          rebuilder_weaker other lineage to (truths now other)
          (member_material v.written other.range (member_at to (own_place (v.handovers to other.tablet).role)))
          (NeededOf other v.written lineage) (NeededOf other now.written lineage) (λ q. known_of (v.logs q) READ_BACKUP)
          (λ q. stored_of v.stored q READ_BACKUP) (now.written to) (v.handovers to other.tablet) (b.kept to other.tablet)
          (v.gathers to other.tablet) (v.merged to other.tablet) (now.records to)
          (λ q _ end needed. needs_same v b.master other lineage q end needed)
          (rebuilder_at lineage to is term (NeededOf other v.written lineage) (says.0 term)),
      says.1,
    )
    rebuilt_at _ is says = tt

  mark_same : (other : Row) (q : ℕ) (mark : Mark) → MarkFits other q (v.handovers q other.tablet) (v.live q) (v.written q) mark → MarkFits other q (v.handovers q other.tablet) (v.live q) (now.written q) mark
  mark_same other q mark fits = assumption fits

  -- ---- messages

  pulled_says : (other : Row) → Contains v.rows other → (lineage : List Member) → lineage_of other.phase ≡ lineage → (from : Node) (master : ℕ) (pulled : Pulled) → PulledAgrees other v.written v.handovers v.live lineage from master pulled → PulledAgrees other now.written v.handovers v.live lineage from master pulled
  pulled_says other has (source ∷ target ∷ []) is from master pulled agrees = grind arith
  pulled_says other has _ is from master pulled agrees = agrees

  got_says : (other : Row) → Contains v.rows other → (lineage : List Member) → lineage_of other.phase ≡ lineage → (from : Node) (master : ℕ) (got : Got) → GotAgrees other v.written v.handovers v.live lineage from master got → GotAgrees other now.written v.handovers v.live lineage from master got
  got_says other has (source ∷ target ∷ []) is from master got agrees =
      λ here alive its. rw (b.firsts other has source target [] is).truth (agrees here alive its)
  got_says other has _ is from master got agrees = agrees

  copy_says : (other : Row) (copy : CopySegment) (phase : Phase) → CopyIn other phase v.logs v.written v.stored v.live copy → CopyIn other phase v.logs now.written v.stored v.live copy
  copy_says other copy phase says = grind (arith, part_weaker, known_of, stored_of, needs_same)

  says_now : (other : Row) → Contains v.rows other → (from to : Node) (body : Body) → SaysOf other v.logs v.written v.stored v.handovers v.completions v.merged v.live v.handed from to body → SaysOf other v.logs now.written v.stored v.handovers b.kept v.merged v.live v.handed from to body
  says_now other has from to body says =
      grind (arith, by_master, told, if_master, lineage_of, pulled_says, got_says, applied_grows, copy_says, rebuilt_says, joined_more)

  -- ---- all rows

  done_at : (row : Row) → Contains v.rows row → (lineage : List Member) → lineage_of row.phase ≡ lineage → FirstIsDone v.written row.range lineage → FirstIsDone now.written row.range lineage
  done_at row has lineage is done = grind arith

  unnamed_at : (range : Range) (lineage : List Member) → OnlyIsUnnamed v.written range lineage → OnlyIsUnnamed now.written range lineage
  unnamed_at range lineage none = grind (arith, of_applied, joined_from, none_from, is_joined_in)

  next_now : (row : Row) → Tells v now row → (number : ℕ) → IsNextOf v row number → IsNextOf now row number
  next_now row tells number next = omega (arith, tells.floor, next)

  -- what is said of a row is said still
  pub row_now : (row : Row) → Contains v.rows row → Tells v now row → SoundRow now row
  row_now row has tells =
      let was : SoundRow v row = row_in v b.sound row has in
      let floor_granted : IfSome (handed_for_grant row v.handovers v.handed) (λ h. IsNextOf now row h.floor) =
      IfSome_then (handed_for_grant row v.handovers v.handed) was.counters.granted (λ h. next_now row tells h.floor) in
      let floor_sent : EachIn (λ n m. IfSome (handed_by row v.handovers m.body) (λ h. IsNextOf now row h.floor)) v.wire = λ n m there.
      IfSome_then (handed_by row v.handovers m.body) (was.counters.sent n m there) (λ h. next_now row tells h.floor) in
      let marks : (q : ℕ) → All (λ mark. mark.tablet ≡ row.tablet → MarkFits row q (v.handovers q row.tablet) (v.live q) (now.written q) mark) (v.written q).marks = λ q i mark inside its.
      mark_same row q (slice_index_or (v.written q).marks i mark) (was.rebuilds.marks q i mark inside its) in
      assumption (
        was,
        tells.history,
        tells,
        λ (q : ℕ) (counts : CountsFor v row q).
            holds_more (bond_of (post_of row.phase q) (v.handovers q row.tablet).role) row.term (v.handovers q row.tablet).term
            (v.written q).applied (now.written q).applied (applied_grows q) (was.roles.fitting q counts),
        λ (q : ℕ) (counts : CountsFor v row q) (says : SpeaksFor v row q).
            next_now row tells (v.handovers q row.tablet).counter (was.counters.counted q counts says),
        floor_granted,
        floor_sent,
        done_at row has (lineage_of row.phase) refl was.rest.done,
        unnamed_at row.range (lineage_of row.phase) was.rest.unnamed,
        λ (q : ℕ) (counts : CountsFor v row q) (idles : is_idle (v.handovers q row.tablet).role ≡ true).
            let none = was.rest.idle q counts idles in
            of_applied (λ n. list_any (touches row.range) (drop n (v.written q).entries) ≡ false) q
            (λ at. none_fewer (touches row.range) (v.written q).applied (v.written q).entries none) (λ apart. none),
        members_at row has (lineage_of row.phase) refl was.receives.target,
        named_at row has (lineage_of row.phase) refl was.receives.named,
        rebuilt_at row has tells.still row.phase refl was.rebuilds.rebuilt,
        marks,
        λ (n : ℕ) (m : Message) (there : get v.wire n ≡ Some m). says_now row has m.from m.to m.body (was.messages n m there),
      )

  pub view_applied : SoundBeside now → ((row : Row) → Contains v.rows row → Tells v now row) → SoundView now
  view_applied beside tells = view_by_rows now beside (all_by (SoundRow now) v.rows (λ row has. row_now row has (tells row has)))
