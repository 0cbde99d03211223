-- A target that pulls, by its row and its source: what it has of the source's items, what it leaves when it replays items of its source,
-- and that a sound lane stays sound when a Got reaches it.
use Rattle.std.proofs.Common.{All, Bool, Contains, List, Some, [], ap, arith, cond, eqb-true, false, filter, flat_map, fold, inl, inr}
use Rattle.std.proofs.Common.{is_some, not, refl, subst, sym, true, ℕ, ⊎_elim, ◌&&◌, ◌<◌, ◌∙◌, ◌∷◌, ◌≡◌}
use Rattle.std.specs.List.Sorted.{IsStrictlySortedBy}
use Rattle.rk_transfer.specs.declared.role.Role.TheVariants as roles
use Rattle.rk_message.specs.declared.message.Body.TheVariants as bodies
use Rattle.rk_types.specs.declared.node.Node.TheVariants as nodes
use Rattle.rk_overlay.proofs.Ordered.{one_order}
use Rattle.rk_table.proofs.Changes.{order_live}
use Rattle.rk_table.proofs.Found.{order_with_item}
use Rattle.rk_table.proofs.InOrder.{item_total}
use Rattle.rk_inv_base.proofs.Words.{All-contains, BATCH_BYTES, Contains-append_cases, Contains-append_left, Contains-append_right, Entry}
use Rattle.rk_inv_base.proofs.Words.{Got, GotAgrees, Handover, Held, IsFound, IsInScanOrder, IsOfTarget, IsPulling, IsSound, IsTableOf}
use Rattle.rk_inv_base.proofs.Words.{Master, Member, MembersFit, Node, Pulling, Range, Role, Row, SoundView, Tablet, Tenure, Token, View}
use Rattle.rk_inv_base.proofs.Words.{World, Written, and_parts, applied_entries, at_hash, batch_at, behind_stands, changed, cond_both}
use Rattle.rk_inv_base.proofs.Words.{copied_items, counts, entries_from, first_stands, found, get, got_taken, has_crashed, hashes_resolved}
use Rattle.rk_inv_base.proofs.Words.{is_absent, is_batch, is_granted, is_in, is_newer, is_of_parts, is_receiving, is_receiving_at}
use Rattle.rk_inv_base.proofs.Words.{item_replayed, items_in, items_of, master_at, member_material, member_truth, newest, newest_items}
use Rattle.rk_inv_base.proofs.Words.{none_stands, passed, post_of, put, put2, replay, replay_one, same_older, scan_items, source_items}
use Rattle.rk_inv_base.proofs.Words.{stands_cases, tablet_in, to_master, view, with_item, with_master, with_newer, with_pulled, worked_at}
use Rattle.rk_inv_base.proofs.pulls.Joining.{joining_second, kept_stands, scanned, stands_kept}
use Rattle.rk_inv_tablets.proofs.seal.SidesJoined.{fits_joining}
use Rattle.rk_inv_base.proofs.Headlines.{sound_replayed, sound_resolved}
use Rattle.rk_inv_base.proofs.pulls.Replayed.{view_item}
use Rattle.rk_inv_logs.proofs.apply.ItemPut.{put_found}
use Rattle.rk_inv_wellformed.proofs.masters.Pulls.{items_again}
use Rattle.rk_inv_events.proofs.Words.{AreIn, IsIn, IsTargetIn, IsThere, filter_from, first_stand, flat_among, found_still, in_by_key}
use Rattle.rk_inv_events.proofs.Words.{is_live_in, item_cmp, kept_among, law_whole, left, left_in_two, live_in, master_same, newest_scanned}
use Rattle.rk_inv_events.proofs.Words.{put_all_from, rest_at, role_fits, row_done, row_formed, row_in, row_said, scan_in, scan_newest}
use Rattle.rk_inv_events.proofs.Words.{truth_in}
use Rattle.rk_inv_events.proofs.events.RowsApart.{has_row}
use Rattle.rk_inv_events.proofs.events.Working.{put_again, reached, sound_changed, sound_unchanged, stays, view_unchanged}

-- ---- The live items of a range in records are the scan of what counts for it, if the records have the newest of each key.

-- items that are put one after the other are in scan order
order_put : (done items : List Held) → IsInScanOrder done → IsInScanOrder (fold (λ list item. with_item item list) done items)
order_put done [] order = order
order_put done (item ∷ items) order = order_put (with_item item done) items (order_with_item item done order)

no_items_in_order : IsInScanOrder []
unfolding IsStrictlySortedBy
no_items_in_order = tt

-- so does a scan
pub scan_in_order : (list : List Entry) → IsInScanOrder (scan_items list)
scan_in_order list = order_put [] (filter (λ item. is_some item.value) (newest_items (items_of list))) no_items_in_order

-- which has no tombstone
scan_is_live : (list : List Entry) (item : Held) → Contains (scan_items list) item → is_some item.value ≡ true
scan_is_live list item stands =
    let is_live : Held → Bool = λ x. is_some x.value in
    elim (put_all_from [] (filter is_live (newest_items (items_of list))) item stands) [
      | inl none ↦ absurd (none_stands item none)
      | inr kept ↦ (kept_stands is_live (newest_items (items_of list)) item kept).1
    ]

module _ (range : Range) (list : List Entry) (records : List Held) (order : IsInScanOrder records) (inside : AreIn range (items_of list)) (table : IsTableOf range list records) where
  live_scanned : (item : Held) → Contains (live_in range records) item → Contains (scan_items list) item
  live_scanned item stands =
      let kept = kept_stands (is_live_in range) records item stands in
      let both = and_parts (is_some item.value) (is_in range item) kept.1 in
      newest_scanned list item ((table item both.1).0 kept.0) both.0

  scanned_live : (item : Held) → Contains (scan_items list) item → Contains (live_in range records) item
  scanned_live item stands =
      let in_range : is_in range item ≡ true = All-contains (IsIn range) (items_of list) item inside (scanned list item stands) in
      stands_kept (is_live_in range) records item ((table item in_range).1 (scan_newest list item stands))
      (λ i. scan_is_live list item stands i && in_range i)

  -- the live items of the range are the scan
  pub records_scanned : live_in range records ≡ scan_items list
  records_scanned = one_order item_cmp item_total (live_in range records) (scan_items list) (order_live range records order)
      (scan_in_order list) (λ item. (live_scanned item, scanned_live item))

-- ---- A target that pulls, by its row and its source: an item of the source that is found in the target's records is copied there, or the
-- target has a newer one of its own.

-- ---- first parts of a scan

module _ (items : List Held) where
  -- what has one of some hashes is one of the items
  pub of_some_hash : (hashes : List ℕ) (item : Held) → Contains (flat_map (λ hash. at_hash hash items) hashes) item → Contains items item
  of_some_hash [] item at = absurd (none_stands item at)
  of_some_hash (hash ∷ more) item at = ⊎_elim (λ (here : Contains (at_hash hash items) item). filter_from _ items item here)
      (λ (later : Contains (flat_map (λ hash. at_hash hash items) more) item). of_some_hash more item later)
      (Contains-append_cases (at_hash hash items) (flat_map (λ hash. at_hash hash items) more) item at)

-- what a scan has passed is one of its items, and so is what a batch has
module _ (list : List Entry) (token : Token) (item : Held) where
  abbrev items : List Held
  items = scan_items list

  pub passed_stands : Contains (passed token items) item → Contains items item
  passed_stands at =
      rw (law_whole token items (scan_in_order list)) at (Contains-append_left (passed token items) (left token items) item at)

  pub batch_stands : Contains (batch_at token BATCH_BYTES items) item → Contains items item
  batch_stands at = rw (law_whole token items (scan_in_order list)) at
      (Contains-append_right (passed token items) (left token items) item
      (rw (left_in_two token BATCH_BYTES items) at
      (Contains-append_left (batch_at token BATCH_BYTES items) (rest_at token BATCH_BYTES items) item at)))

-- ---- a target and its row

-- a master is the target of a row, and pulls
pub record IsTargetOf (v : View) (master number : ℕ) : Type 0 where
  pub row : Row
  pub source : Member
  pub target : Member
  pub number_is : row.tablet ≡ number
  pub here : target.master ≡ master
  pub pulls : IsPulling v row source target

module _ (v : View) (sound : SoundView v) (master number : ℕ) (lives : v.live master ≡ true) (receives : (v.handovers master number).role ≡ roles.Receiving) where
  target_in : (row : Row) → Contains v.rows row → row.tablet ≡ number → IsTargetOf v master number
  target_in row stands number_is =
      let handover : Handover = v.handovers master row.tablet in
      let role_is : handover.role ≡ roles.Receiving = ap (λ (n : ℕ). (v.handovers master n).role) number_is ∙ receives in
      let second =
      joining_second master row.term handover.term (v.written master).applied row.phase (row_formed v sound row stands)
      (fits_joining (post_of row.phase master) row.term handover.term (v.written master).applied
      (rw role_is at (role_fits v sound row stands master (inl lives)))) in
      record {
        row = row;
        source = second.source;
        target = second.target;
        number_is = number_is;
        here = second.here;
        pulls = record {
          lives = ap v.live second.here ∙ lives;
          has_row = stands;
          lineage_is = second.lineage_is;
          receiving = ap (λ (n : ℕ). (v.handovers n row.tablet).role) second.here ∙ role_is;
        };
      }

  -- a living master that pulls is the target of a row
  pub target_of : IsTargetOf v master number
  target_of =
      let its = has_row v.rows number (sound.roles.known master number lives (ap is_absent receives)) in
      target_in its.row its.stands its.tablet_is

-- a role that the test says to pull does
pub receiving_is : (role : Role) → is_receiving role ≡ true → role ≡ roles.Receiving
receiving_is roles.Receiving holds = refl
receiving_is _ holds = absurd (cc holds)

-- a living master that takes what it pulls is the target of a row, and what it takes is of that row
module _ (w : World) (sound : IsSound w) (master : ℕ) (tenure : Tenure) (lives : has_crashed w master ≡ false) (receives : is_receiving_at (tablet_in w master tenure.tablet) tenure.term ≡ true) where
  pub as_target : IsTargetOf (view w) master tenure.tablet
  as_target = target_of (view w) sound master tenure.tablet (ap not lives)
      (receiving_is (tablet_in w master tenure.tablet).handover.role (and_parts _ _ receives).0)

  pub of_target : IsOfTarget as_target.row ((view w).handovers master as_target.row.tablet) tenure
  of_target = grind (arith, as_target, eqb-true, tablet_in, and_parts, view)

-- ---- what is there

module _ (v : View) (sound : SoundView v) (row : Row) (source target : Member) (pulls : IsPulling v row source target) where
  abbrev w : Written
  w = v.written target.master

  abbrev truth : List Entry
  truth = member_truth v.written row.range source

  abbrev own : List Entry → List Held
  own list = items_of (entries_from row.range target.from list)

  its : IsTargetIn v.written row source target (v.handovers target.master row.tablet) (v.pullings target.master row.tablet) (get v.handed row.tablet) (v.records target.master)
  its = subst (MembersFit row v.written v.handovers v.pullings v.records v.handed) pulls.lineage_is (row_in v sound row pulls.has_row).receives.target
      (ap is_granted pulls.receiving)

  -- what the source has applied is all that counts of it
  done : member_material v.written row.range source ≡ truth
  done = (rw pulls.lineage_is at (row_done v sound row pulls.has_row)).all

  own_stands : (x : Held) → Contains (own (applied_entries w)) x → Contains (own w.entries) x
  own_stands = search (flat_among, items_in, entries_from, applied_entries, kept_among, counts, first_stand)

  module _ (item : Held) (of_source : Contains (source_items v row source) item) where
    -- its own items are above the source's
    above : (x : Held) → Contains (own (applied_entries w)) x → item.version < x.version
    above x at = All-contains (λ (other : Held). other.version < x.version) (items_of (member_material v.written row.range source)) item
        (All-contains
        (λ (own : Held). All (λ (other : Held). other.version < own.version) (items_of (member_material v.written row.range source)))
        (own w.entries) x its.above (own_stands x at)) (rw done (scanned truth item of_source))

    -- of the source no other item has the key
    only : (x : Held) → Contains (source_items v row source) x → x.table ≡ item.table → x.key ≡ item.key → x ≡ item
    only x at table key =
        let one : Some x ≡ Some item =
        sym (scan_newest truth x at) ∙ (λ i. newest (items_of truth) (table i) (key i)) ∙ scan_newest truth item of_source in
        let same : x ≡ item = cc in same

    -- what is found is there
    pub found_there : IsFound (v.records target.master) item → IsThere v row target item
    found_there found =
        let inside : is_in row.range found.there ≡ true =
        in_by_key row.range item found.there found.same_key
        ∙ All-contains (IsIn row.range) (source_items v row source) item (scan_in row.range truth (truth_in v.written row.range source))
        of_source in
        let parts = is_of_parts item.table item.key found.there found.same_key in
        let copies = copied_items (v.handovers target.master row.tablet).role (v.pullings target.master row.tablet) w.sides in
        record {
          copied = elim (its.received.come found.there found.stands inside) [
            | inl at ↦ inr (record { newer = found.there; stands = at; same_key = found.same_key; above = above found.there at })
            | inr at ↦ inl (subst (Contains copies) (only found.there (its.received.within found.there at) parts.0 parts.1) at)
          ];
          found = found;
        }

  -- what the scan has passed is found
  pub passed_found : (item : Held) → Contains (passed (v.pullings target.master row.tablet).token (source_items v row source)) item → IsFound (v.records target.master) item
  passed_found item at =
      its.received.found item (inr (passed_stands truth (v.pullings target.master row.tablet).token item at, λ receiving. inl at))

-- ---- What a target leaves that replays items of its source one after the other: the lane stays sound, and each of them is found in its
-- records.

-- a view with other records, in which this is pulled
abbrev pub with_items : View → (ℕ → List Held) → (ℕ → ℕ → Pulling) → View
with_items v records pullings = record v { records = records; pullings = pullings }

-- items are replayed: the lane is sound with the master that is left, which differs in its records and in what it pulls alone; what was
-- found in its records is found still, and so are the items
pub record IsReplayed (w : World) (master : ℕ) (items : List Held) (now : Master) : Type 0 where
  pub sound : IsSound (with_master w master now)
  pub records : ℕ → List Held
  pub pullings : ℕ → ℕ → Pulling
  pub view_is : view (with_master w master now) ≡ with_items (view w) records pullings
  pub still : (x : Held) → IsFound (master_at w master).records x → IsFound now.records x
  pub found : (x : Held) → Contains items x → IsFound now.records x

-- a target pulls whatever its records are, and its source has the same items
pulls_with : (v : View) (row : Row) (source target : Member) (records : ℕ → List Held) (pullings : ℕ → ℕ → Pulling) → IsPulling v row source target
    → IsPulling (with_items v records pullings) row source target
pulls_with v row source target records pullings pulls = assumption pulls

module _ (w : World) (row : Row) (source target : Member) (items : List Held) (now : Master) (replayed : IsReplayed w target.master items now) where
  pub still_pulls : IsPulling (view w) row source target → IsPulling (view (with_master w target.master now)) row source target
  still_pulls pulls = rw replayed.view_is (pulls_with (view w) row source target replayed.records replayed.pullings pulls)

  pub same_source : source_items (view (with_master w target.master now)) row source ≡ source_items (view w) row source
  same_source = ap (λ (v : View). source_items v row source) replayed.view_is

  -- what is found in the records of the master is found in those of the lane
  pub found_in : (x : Held) → IsFound now.records x → IsFound ((view (with_master w target.master now)).records target.master) x
  found_in x = subst (λ (m : Master). IsFound m.records x) (sym (master_same w target.master now target.master refl))

-- none is
replayed_none : (w : World) (master : ℕ) → IsSound w → IsReplayed w master [] (master_at w master)
replayed_none w master sound =
    record {
      sound = sound_unchanged w master sound;
      records = (view w).records;
      pullings = (view w).pullings;
      view_is = view_unchanged w master;
      still = λ x is. is;
      found = λ x at. absurd (none_stands x at);
    }

-- and then others
replayed_then : (w : World) (master : ℕ) (item : Held) (items : List Held) (now : Master) (change : Master → Master) → IsReplayed w master (item ∷ []) now
    → IsReplayed (with_master w master now) master items (change (master_at (with_master w master now) master))
    → IsReplayed w master (item ∷ items) (change now)
replayed_then w master item items now change first later =
    let same = master_same w master now master refl in
    let end : change (master_at (with_master w master now) master) ≡ change now = ap change same in
    let still : (x : Held) → IsFound now.records x → IsFound (change now).records x =
    λ x is. subst (λ (m : Master). IsFound m.records x) end (later.still x (subst (λ (m : Master). IsFound m.records x) (sym same) is)) in
    record {
      sound = subst IsSound (put_again w master now change) later.sound;
      records = later.records;
      pullings = later.pullings;
      view_is = grind (arith, view, put_again, later.view_is, later.records, later.pullings, first.view_is);
      still = λ x is. still x (first.still x is);
      found = λ x at.
          ⊎_elim (λ (is : item ≡ x). still x (first.found x (subst (Contains (item ∷ [])) is (first_stands item []))))
          (λ (behind : Contains items x). subst (λ (m : Master). IsFound m.records x) end (later.found x behind))
          (stands_cases item items x at);
    }

module _ (row : Row) (source target : Member) (worker : ℕ) (few : worker < 4) where
  -- items of the source
  abbrev pub AreOfSource : World → List Held → Type 0
  AreOfSource w items = (x : Held) → Contains items x → Contains (source_items (view w) row source) x

  -- an item is replayed if it is newer than what is there
  replayed_one : (w : World) (item : Held) → IsSound w → IsPulling (view w) row source target → Contains (source_items (view w) row source) item
      → IsReplayed w target.master (item ∷ []) (replay_one row.tablet worker (master_at w target.master) item)
  replayed_one w item sound pulls of_source =
      cond_both (is_newer item (found item.table item.key own.records)) (item_replayed row.tablet worker own item) own
      (IsReplayed w target.master (item ∷ []))
      (λ is. record {
        sound = sound_replayed w row source target worker item sound (record { pulling = pulls; worker_is = few; of_source = of_source });
        records = put (view w).records target.master (with_newer item ((view w).records target.master));
        pullings = put2 (view w).pullings target.master row.tablet (with_pulled ((view w).pullings target.master row.tablet) worker item);
        view_is = view_item w target.master row.tablet worker item;
        still = λ x was. found_still item own.records x (sound.records.ordered target.master) was;
        found = found_one (with_newer item own.records) refl;
      })
      (λ older.
      let same = replayed_none w target.master sound in
      record {
        sound = same.sound;
        records = same.records;
        pullings = same.pullings;
        view_is = same.view_is;
        still = same.still;
        found = found_one own.records (same_older item own.records older);
      })
    where
      own : Master
      own = master_at w target.master

      found_one : (list : List Held) → with_newer item own.records ≡ list → (x : Held) → Contains (item ∷ []) x → IsFound list x
      found_one list is x at = elim (stands_cases item [] x at) [
        | inl same ↦ rw same at (rw is at (put_found item own.records))
        | inr none ↦ absurd (none_stands x none)
      ]

  -- and all of them, one after the other
  pub replayed_all : (w : World) (items : List Held) → IsSound w → IsPulling (view w) row source target → AreOfSource w items
      → IsReplayed w target.master items (replay (master_at w target.master) row.tablet worker items)
  replayed_all w [] sound pulls of_source = replayed_none w target.master sound
  replayed_all w (item ∷ items) sound pulls of_source =
      let own = master_at w target.master in
      let first = replayed_one w item sound pulls (of_source item (first_stands item items)) in
      let now = replay_one row.tablet worker own item in
      replayed_then w target.master item items now (λ m. replay m row.tablet worker items) first
      (replayed_all (with_master w target.master now) items first.sound (still_pulls w row source target (item ∷ []) now first pulls)
      (λ x at.
      subst (λ (list : List Held). Contains list x) (sym (same_source w row source target (item ∷ []) now first)) (of_source x (behind_stands item items x at))))

-- ---- A sound lane stays sound when a Got reaches a target that lives: it replays the items, each of which is its source's, and the hashes
-- are resolved.

-- ---- a target

module _ (w : World) (sound : IsSound w) (row : Row) (source target : Member) (pulls : IsPulling (view w) row source target) where
  -- it replays the items that have some hashes, which are resolved then
  pub sound_items : (hashes : List ℕ) (items : List Held) → items ≡ flat_map (λ hash. at_hash hash (source_items (view w) row source)) hashes
      → IsSound (with_master w target.master (hashes_resolved (replay (master_at w target.master) row.tablet 0 items) row.tablet hashes))
  sound_items hashes items are =
      let now : Master = replay (master_at w target.master) row.tablet 0 items in
      let from_source : (x : Held) → Contains items x → Contains (source_items (view w) row source) x = λ x at.
      of_some_hash (source_items (view w) row source) hashes x (subst (λ (list : List Held). Contains list x) are at) in
      let done = replayed_all row source target 0 (omega arith) w items sound pulls from_source in
      let after : World = with_master w target.master now in
      let still = still_pulls w row source target items now done pulls in
      let same = same_source w row source target items now done in
      subst IsSound (put_again w target.master now (λ m. hashes_resolved m row.tablet hashes))
      (sound_resolved after row source target hashes done.sound (record {
        pulling = still;
        arrived = λ item at.
            found_there (view after) done.sound row source target still item
            (of_some_hash (source_items (view after) row source) hashes item at)
            (found_in w row source target items now done item
            (done.found item
            (subst (λ (list : List Held). Contains list item) (sym are)
            (subst (λ (list : List Held). Contains (flat_map (λ hash. at_hash hash list) hashes) item) same at))));
      }))

-- ---- the message

-- what a Got has is what the source of its receiver has of the hashes
pub got_are : (w : World) (number master : ℕ) (from : Node) (message : Got) (sound : IsSound w) (lives : has_crashed w master ≡ false)
    (receives : is_receiving_at (tablet_in w master message.tenure.tablet) message.tenure.term ≡ true)
    → get w.wire.messages number ≡ Some (record { from = from; to = nodes.Master master; body = bodies.Got message })
    → let its = as_target w sound master message.tenure lives receives in
    items_of message.entries ≡ flat_map (λ hash. at_hash hash (source_items (view w) its.row its.source)) message.hashes
got_are w number master from message sound lives receives there =
    let v = view w in
    let its = as_target w sound master message.tenure lives receives in
    let agrees : GotAgrees its.row v.written v.handovers v.live (its.source ∷ its.target ∷ []) from master message =
    rw its.pulls.lineage_is at (row_said v sound its.row its.pulls.has_row number _ there).1 in
    ap items_of (agrees its.here (ap not lives) (of_target w sound master message.tenure lives receives)).items_are
    ∙ items_again (flat_map (λ hash. at_hash hash (source_items v its.row its.source)) message.hashes)

module _ (w : World) (number sender master : ℕ) (message : Got) (sound : IsSound w) (lives : has_crashed w master ≡ false)
    (there : get w.wire.messages number ≡ Some (record { from = nodes.Master sender; to = nodes.Master master; body = bodies.Got message })) where
  abbrev kept : Tablet
  kept = tablet_in w master message.tenure.tablet

  taken : is_receiving_at kept message.tenure.term ≡ true
      → IsSound (with_master w master (hashes_resolved (replay (master_at w master) message.tenure.tablet 0 (items_of message.entries)) message.tenure.tablet message.hashes))
  taken receives =
      let its = as_target w sound master message.tenure lives receives in
      subst (λ (n : ℕ). IsSound (with_master w master (hashes_resolved (replay (master_at w master) n 0 (items_of message.entries)) n message.hashes))) its.number_is
      (subst (λ (q : ℕ). IsSound (with_master w q (hashes_resolved (replay (master_at w q) its.row.tablet 0 (items_of message.entries)) its.row.tablet message.hashes))) its.here
      (sound_items w sound its.row its.source its.target its.pulls message.hashes (items_of message.entries)
      (got_are w number master (nodes.Master sender) message sound lives receives there)))

  pub sound_got : IsSound (to_master w master (record { from = nodes.Master sender; to = nodes.Master master; body = bodies.Got message })).world
  sound_got = reached w master 0 (got_taken (master_at w master) message) lives
      (go (is_receiving_at kept message.tenure.term) (is_batch kept.pulling.hashes.outstanding message.hashes) refl)
    where
      go : (receives batch : Bool) → is_receiving_at kept message.tenure.term ≡ receives
          → IsSound (worked_at w master 0 (cond (receives && batch)
          (changed (hashes_resolved (replay (master_at w master) message.tenure.tablet 0 (items_of message.entries)) message.tenure.tablet message.hashes))
          (changed (master_at w master)))).world
      go true true is = sound_changed w master 0 _ (taken is)
      go _ batch is = stays w master 0 sound
