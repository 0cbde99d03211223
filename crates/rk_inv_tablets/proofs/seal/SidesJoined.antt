-- A view stays sound when a target that has pulled all takes what it copied from side segments, and joins.
use Rattle.std.proofs.Common.{◌≡◌, ℕ, ◌<◌, true, List, [], ◌∷◌, Option, None, refl, sym, ap, ◌∙◌, ⊎_elim, inl, inr, arith, nat_lt}
use Rattle.std.proofs.Common.{slice_index_or, take, Contains, flat_map, lt-ltb, All, Some, false}
use Rattle.rk_inv_base.proofs.Words.{Contains-append_left, get, Held, Member, Range, Entry, end, passed, is_serving, Handover, lineage_of}
use Rattle.rk_inv_base.proofs.Words.{Phase, Rebuilding, Row, Handed, items_of, side_entries, is_idle, is_rebuilding, may_have_staged}
use Rattle.rk_inv_base.proofs.Words.{Pulling, Written, applied_entries, member_material, member_truth, is_wanting, Post, Holds, bond_of}
use Rattle.rk_inv_base.proofs.Words.{post_of, has_merged, HandedFits, HasArrived, IsHandedBy, IsTarget, MembersFit, before_closing}
use Rattle.rk_inv_base.proofs.Words.{beginning_of, closing_joined, copied_items, entries_from, is_granted, joined_place, scan_items}
use Rattle.rk_inv_base.proofs.Words.{wanted_place, Role, View, truths, SoundView, MarkFits, Message, has_all_items, is_absent, is_member}
use Rattle.rk_inv_base.proofs.Words.{◌≢◌, HandoverFits, SoundTablet, Tablet, tablet_seen}
use Rattle.rk_inv_tablets.proofs.Words.{AreAlike, handed_by_alike, handed_for_grant_alike, speaks_alike, still_counts, stands_kept, put2_by}
use Rattle.rk_inv_tablets.proofs.Words.{put2_other, IsRebuilderIn, mark_same, role_looks, terms_look, AllLook, all_items_same, as_joining}
use Rattle.rk_inv_tablets.proofs.Words.{as_sealed, sides_joined, row_in, CountsFor, SoundRow, SpeaksFor, looks_same, IsRebuiltIn, put2_here}
use Rattle.rk_types.specs.declared.hashing.TheConstants.{BUCKETS}
use Rattle.rk_table.proofs.InOrder.{bucket_below_end}
use Rattle.rk_table.specs.Order.{item_bucket}
use Rattle.rk_table.specs.Scans.{before_bucket, of_bucket}
use Rattle.rk_inv_base.proofs.pulls.Replayed.{receiving_behind}
use Rattle.rk_inv_base.proofs.rows.RowAppended.{StaysAs}
use Rattle.rk_inv_base.proofs.views.ByThings.{tablet_of}
use Rattle.rk_inv_base.proofs.views.Lists.{all_in}
use Rattle.rk_inv_base.proofs.views.TabletReplaced.{view_with_tablet}
use Rattle.rk_inv_base.proofs.views.Terms.{handover_looks}
use Rattle.rk_inv_base.proofs.views.Turned.{IsTurned}
use Rattle.rk_inv_base.proofs.wire.Messages.{says_of_looks}
use Rattle.rk_transfer.specs.declared.role.Role.TheVariants as roles

-- ---- roles

-- a post that takes a target that pulls takes a target that joins
pub fits_joining : (post : Post) (term own applied : ℕ) → Holds (bond_of post roles.Receiving) term own applied → Holds (bond_of post (roles.Joining None)) term own applied
fits_joining post term own applied holds = grind arith

-- ---- a target

-- at the end of a scan all is passed
passed_all : (items : List Held) (item : Held) → Contains items item → Contains (passed end items) item
passed_all items item at =
    Contains-append_left (before_bucket BUCKETS items) (take 0 (of_bucket BUCKETS items)) item
    (stands_kept (λ (other : Held). nat_lt (item_bucket other) BUCKETS) items item at (lt-ltb (item_bucket item) BUCKETS (bucket_below_end item)))

-- the side segments of these numbers have what the target copied
abbrev pub HaveCopies : Written → Pulling → List ℕ → Type 0
HaveCopies w pulling numbers = items_of (flat_map (side_entries w.sides) numbers) ≡ flat_map (λ items. items) pulling.sides

module _ (range : Range) (source : ℕ) (truth material : List Entry) (from : ℕ) (w : Written) (h : Handover) (pulling : Pulling) (handed : Option Handed) (table : List Held) (numbers : List ℕ) (receiving : h.role ≡ roles.Receiving) (at_end : pulling.token ≡ end) (copies : HaveCopies w pulling numbers) where
  abbrev items : List Held
  items = scan_items truth

  abbrev own : List Held
  own = items_of (entries_from range from (applied_entries w))

  abbrev Arrived : Held → Type 0
  Arrived = HasArrived h.role pulling items

  -- what was copied is so still
  same_copies : items_of (flat_map (side_entries w.sides) numbers) ≡ copied_items h.role pulling w.sides
  same_copies = copies ∙ sym (ap (λ (role : Role). copied_items role pulling w.sides) receiving)

  -- all has arrived
  arrived : (item : Held) → Contains items item → Arrived item
  arrived item at = λ _. inl (rw at_end (passed_all items item at))

  pub target_joins : IsTarget range source truth material from w h pulling handed table → IsTarget range source truth material from w (as_joining h) (as_sealed numbers pulling) handed table
  target_joins was = record {
    from_source = was.from_source;
    workers = refl;
    pulled = λ joins. record { at_end = at_end; sealed = refl };
    received = record {
      within = λ item at. was.received.within item (rw (← same_copies) at);
      copied = λ item at its.
          rw same_copies (was.received.copied item at (arrived item at));
      come = λ item at inside.
          rw same_copies (was.received.come item at inside);
      found = λ item come.
          was.received.found item
          (⊎_elim (λ (mine : Contains own item). inl mine)
          (λ (its : Contains items item × HasArrived (roles.Joining None) (as_sealed numbers pulling) items item). inr (its.0, arrived item its.0)) come);
    };
    above = was.above;
    told = grind (arith, before_closing, joined_place, beginning_of, was.told, w.entries);
    early = was.early;
    closing = grind (arith, joined_place, closing_joined, pulling.sealed, w.entries, was.closing);
  }

-- ---- the view

module _ (v : View) (row : Row) (master : ℕ) (numbers : List ℕ) (sound : SoundView v) (has_row : Contains v.rows row) (lives : v.live master ≡ true) (receiving : (v.handovers master row.tablet).role ≡ roles.Receiving) (at_end : (v.pullings master row.tablet).token ≡ end) (copies : HaveCopies (v.written master) (v.pullings master row.tablet) numbers) where
  abbrev now : View
  now = sides_joined v master row.tablet numbers

  abbrev number : ℕ
  number = row.tablet

  -- what the master has of the tablet then
  abbrev joined : Tablet
  joined = record (tablet_seen v master number) {
    handover = as_joining (v.handovers master number);
    pulling = as_sealed numbers (v.pullings master number);
  }

  turned : IsTurned v now master number joined
  turned = grind (arith, put2_here, put2_other, as_joining, as_sealed)

  was : SoundRow v row
  was = row_in v sound row has_row

  of_handover : (P : Handover → Type 0) (q r : ℕ) → (q ≡ master → r ≡ row.tablet → P (as_joining (v.handovers q r))) → ((q ≡ master → r ≡ row.tablet → ⊥) → P (v.handovers q r)) → P (now.handovers q r)
  of_handover P q r here was = put2_by v.handovers master row.tablet as_joining P q r here was

  of_pulling : (P : Pulling → Type 0) (q r : ℕ) → (q ≡ master → r ≡ row.tablet → P (as_sealed numbers (v.pullings q r))) → ((q ≡ master → r ≡ row.tablet → ⊥) → P (v.pullings q r)) → P (now.pullings q r)
  of_pulling P q r here was = put2_by v.pullings master row.tablet (as_sealed numbers) P q r here was

  -- ---- the tablet

  receives_it : (q r : ℕ) → q ≡ master → r ≡ row.tablet → (v.handovers q r).role ≡ roles.Receiving
  receives_it q r at its = ap (λ (n : ℕ). (v.handovers n r).role) at ∙ ap (λ (n : ℕ). (v.handovers master n).role) its ∙ receiving

  joins_as : (h : Handover) → h.role ≡ roles.Receiving → StaysAs h (as_joining h)
  joins_as h is =
      grind (arith, is_serving, is_rebuilding, is_wanting, is_idle, has_merged, is_granted, may_have_staged, wanted_place, fits_joining)

  -- each tablet stays as it was
  each : (q r : ℕ) → StaysAs (v.handovers q r) (now.handovers q r)
  each q r =
      of_handover (StaysAs (v.handovers q r)) q r (λ at its. joins_as (v.handovers q r) (receives_it q r at its))
      (λ apart. assumption (looks_same (v.handovers q r)))

  alike : AreAlike v.handovers now.handovers
  alike q r = (each q r).alike

  counter_same : (q r : ℕ) → (now.handovers q r).counter ≡ (v.handovers q r).counter
  counter_same q r = of_handover (λ h. h.counter ≡ (v.handovers q r).counter) q r (λ at its. refl) (λ apart. refl)

  looks : AllLook v.written v.written v.handovers now.handovers
  looks = record { each = λ q r. (each q r).looks; applied = λ q. refl; truths = λ range member. refl }

  counted : (q : ℕ) → CountsFor now row q → CountsFor v row q
  counted q = still_counts (v.live q) (v.handovers q number).term (now.handovers q number).term row.term (alike q number).same_term

  spoke : (q : ℕ) → SpeaksFor now row q → SpeaksFor v row q
  spoke q says = sym (speaks_alike (post_of row.phase q) row.term (v.handovers q number) (now.handovers q number) (alike q number)) ∙ says

  -- ---- rebuilds

  -- the target has not begun to rebuild its row
  behind : (lineage : List Member) → row.phase ≡ Rebuilding lineage master → (v.handovers master row.tablet).term < row.term
  behind lineage is = grind (arith, receiving_behind, bond_of, post_of, was)

  abbrev IsBy : List Member → ℕ → Handover → Type 0
  IsBy lineage to h =
      IsRebuilderIn v.logs v.written v.stored row lineage to (truths v row) h (v.completions to number) (v.gathers to number) (v.merged to number) (v.records to)

  rebuilt_on : (phase : Phase) → row.phase ≡ phase → IsRebuiltIn v row phase → IsRebuiltIn now row phase
  rebuilt_on phase is fit = grind (arith, alike, of_handover, behind)

  -- ---- targets

  abbrev IsTargetBy : Member → Member → Handover → Pulling → Type 0
  IsTargetBy source target h pulling =
      IsTarget row.range source.master (member_truth v.written row.range source) (member_material v.written row.range source) target.from
      (v.written target.master) h pulling (get v.handed number) (v.records target.master)

  copies_of : (q r : ℕ) → q ≡ master → r ≡ row.tablet → HaveCopies (v.written q) (v.pullings q r) numbers
  copies_of q r at its = rw (at, its) copies

  ends_of : (q r : ℕ) → q ≡ master → r ≡ row.tablet → (v.pullings q r).token ≡ end
  ends_of q r at its = ap (λ (n : ℕ). (v.pullings n r).token) at ∙ ap (λ (n : ℕ). (v.pullings master n).token) its ∙ at_end

  members_on : (lineage : List Member) → MembersFit row v.written v.handovers v.pullings v.records v.handed lineage → MembersFit row v.written now.handovers now.pullings v.records v.handed lineage
  members_on (source ∷ target ∷ []) fit = λ granted.
      let q : ℕ = target.master in
      let was : IsTargetBy source target (v.handovers q number) (v.pullings q number) = fit (sym (each q number).granted ∙ granted) in
      of_handover (λ (h : Handover). IsTargetBy source target h (now.pullings q number)) q number
      (λ at its.
      of_pulling (IsTargetBy source target (as_joining (v.handovers q number))) q number
      (λ _ _.
      target_joins row.range source.master (member_truth v.written row.range source) (member_material v.written row.range source) target.from
      (v.written q) (v.handovers q number) (v.pullings q number) (get v.handed number) (v.records q) numbers (receives_it q number at its)
      (ends_of q number at its) (copies_of q number at its) was)
      (λ apart. absurd (apart at its)))
      (λ apart. of_pulling (IsTargetBy source target (v.handovers q number)) q number (λ at its. absurd (apart at its)) (λ _. was))
  members_on _ fit = tt

  told_on : (lineage : List Member) → HandedFits row v.handovers v.completions v.handed lineage → HandedFits row now.handovers v.completions v.handed lineage
  told_on (source ∷ target ∷ []) fit = λ term.
      let was = fit (sym (alike target.master number).same_term ∙ term ∙ (alike source.master number).same_term) in
      of_handover (λ (h : Handover). IsHandedBy (get v.handed number) h (v.completions source.master number)) source.master number
      (λ at its. was) (λ apart. was)
  told_on _ fit = tt

  -- ---- the whole

  marks : (q : ℕ) → All (λ mark. mark.tablet ≡ number → MarkFits row q (now.handovers q number) (v.live q) (v.written q) mark) (v.written q).marks
  marks q j m stands its =
      let fit = was.rebuilds.marks q j m stands its in
      mark_same row q (v.handovers q number) (now.handovers q number) (v.live q) (v.written q) (v.written q) (slice_index_or (v.written q).marks j m)
      (alike q number).same_term (each q number).merged fit.behind fit

  here : SoundRow now row
  here =
      assumption (
        was,
        λ (q : ℕ) (counts : CountsFor now row q).
            role_looks row q (v.handovers q number) (now.handovers q number) (v.written q).applied (v.written q).applied (each q number).looks refl
            (was.roles.fitting q (counted q counts)),
        λ (q : ℕ) (counts : CountsFor now row q) (member : is_member (lineage_of row.phase) q ≡ true).
            (each q number).looks.range ∙ was.roles.ranged q (counted q counts) member,
        terms_look row.phase (λ q. (v.handovers q number).term) (λ q. (now.handovers q number).term) row.term
            (λ q. (alike q number).same_term) was.roles.at_term,
        λ (q : ℕ) (counts : CountsFor now row q) (says : SpeaksFor now row q). was.calls.answering q (counted q counts) (spoke q says),
        rw (← handed_for_grant_alike row v.handovers now.handovers v.handed alike) at was.calls.granted,
        λ (n : ℕ) (m : Message) (there : get v.wire n ≡ Some m).
            rw (← handed_by_alike row v.handovers now.handovers m.body alike) at (was.calls.sent n m there),
        λ (q : ℕ) (counts : CountsFor now row q) (says : SpeaksFor now row q).
            rw (← counter_same q number) at (was.counters.counted q (counted q counts) (spoke q says)),
        rw (← handed_for_grant_alike row v.handovers now.handovers v.handed alike) at was.counters.granted,
        λ (n : ℕ) (m : Message) (there : get v.wire n ≡ Some m).
            rw (← handed_by_alike row v.handovers now.handovers m.body alike) at (was.counters.sent n m there),
        λ (q : ℕ) (counts : CountsFor now row q) (idles : is_idle (now.handovers q number).role ≡ true).
            was.rest.idle q (counted q counts) (sym (each q number).idle ∙ idles),
        λ (q : ℕ) (alive : v.live q ≡ true) (has : has_all_items (post_of row.phase q) (now.handovers q number) row.term ≡ true).
            was.tables q alive
            (sym (all_items_same (post_of row.phase q) (now.handovers q number) (v.handovers q number) row.term (alike q number).same_term) ∙ has),
        members_on (lineage_of row.phase) was.receives.target,
        told_on (lineage_of row.phase) was.receives.handed_on,
        rebuilt_on row.phase refl was.rebuilds.rebuilt,
        marks,
        λ (n : ℕ) (m : Message) (there : get v.wire n ≡ Some m).
            says_of_looks v v.logs v.written now.handovers looks (λ q. refl) (λ x lineage q dead end needed. needed) row m.from m.to m.body
            (was.messages n m there),
      )

  -- the tablet is sound as that of a target that joins
  tablet : SoundTablet v master number joined
  tablet =
      let its = tablet_of v sound master number in
      let there : is_absent (v.handovers master number).role ≡ false = ap is_absent receiving in
      assumption (
        its,
        all_in _ (λ x. HandoverFits x number joined.handover) v.rows
            (λ x has. handover_looks x number (v.handovers master number) joined.handover (joins_as (v.handovers master number) receiving).looks)
            its.terms.kept,
        λ (absent : is_absent (roles.Joining None) ≡ false). its.terms.begun there,
        λ (other : ℕ) (apart : number ≢ other) (absent : is_absent (roles.Joining None) ≡ false). its.terms.apart other apart there,
        λ (alive : v.live master ≡ true) (absent : is_absent (roles.Joining None) ≡ false). its.roles alive there,
      )

  pub view_sides_joined : SoundView now
  view_sides_joined =
      view_with_tablet v row master joined (tablet_seen now) sound
      (record { has_row = has_row; turned = turned; tablet = tablet; stages = λ some staged. refl; holds = here })
