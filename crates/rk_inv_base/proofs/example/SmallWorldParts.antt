-- The parts of the small world: what is said of its row, and beside it.
use Rattle.rk_inv_base.proofs.Words.{◌≡◌, ◌≤◌, ◌<◌, Bool, true, false, cond, eqb, ◌&&◌, List, [], ◌∷◌, ◌++◌, Some, None, refl, sym, subst}
use Rattle.rk_inv_base.proofs.Words.{◌∙◌, arith, bytes_eq, ℕ, ◌||◌, ap, All, IfSome, is_some, flat_map, eqb-true, inl, inr, Contains}
use Rattle.rk_inv_base.proofs.Words.{name-swap, IsLegal, live_after, map_after, never, last_version, Entry, IsPlain, no_base, of_key}
use Rattle.rk_inv_base.proofs.Words.{floor_of, AgreeIn, IsNext, AreAboveMap, IsTruth, All-nil, lineage_of, row_of, is_covered, Body}
use Rattle.rk_inv_base.proofs.Words.{is_member, names, IsMaster, is_absent, no_tablet, tablet_in, IsWithinRows, IsItemWithin, IsEntryWithin}
use Rattle.rk_inv_base.proofs.Words.{IsOfWholeRows, Post, RoleFits, HandoverFits, SentFits, IsWithinTerm, IsBelowOthers, tenure_in}
use Rattle.rk_inv_base.proofs.Words.{range_in, CoverOf, Held, is_mutation, IsInScanOrder, member, newest, is_of, told, asked_by, written_in}
use Rattle.rk_inv_base.proofs.Words.{member_truth, IsKnown, IsReached, ReachAll, TellAll, is_record_in, post_of, IsRest, HasItems}
use Rattle.rk_inv_base.proofs.Words.{IsTableOf, has_all_items, lane_of_key, IsAfterStart, IsLastCall, IsRequest, RequestFits, RequestSays}
use Rattle.rk_inv_base.proofs.Words.{WasAsked, IsRecordAt, Asked, empty_map}
use Rattle.rk_types.specs.Hashing.{hash_of}
use Rattle.std.specs.List.Sorted.{IsStrictlySortedBy}
use Rattle.rk_types.specs.declared.call.Outcome.TheVariants as outcomes
use Rattle.rk_model.specs.History.{record_of as entry_record}
use Rattle.rk_model.specs.Machine.{live as live_entry}
use Rattle.rk_overlay.specs.Live.{record_of as item_record, live as live_items}
use Rattle.rk_inv_base.proofs.example.SmallWorld.{small_entry, small_item, small_key, small_range, small_row, small_journal, small_truths}
use Rattle.rk_inv_base.proofs.example.SmallWorld.{small_rests, small_value, small_world, small_tablet, small_map, small_view, small_ledger}
use Rattle.rk_inv_base.proofs.example.SmallWorld.{small_end, small_placed, small_answer, small_asks, small_wire}
use Rattle.rk_inv_base.proofs.example.SmallWorldLooks.{only_one, each_master, each_message, each_tablet, all_one, not_owner, post_elsewhere}
use Rattle.rk_inv_base.proofs.example.SmallWorldLooks.{one_stands, each_client, each_request, first_place}

-- ---- its log and its journal record one put

-- the truth of the row is the put alone
pub truth_is : small_truths small_row ≡ small_entry ∷ []
unfolding hash_of
truth_is = refl

-- log and journal leave the same record
pub same_record : (b c : Bool) → b ≡ c → item_record (cond b (Some small_item) None) ≡ entry_record (cond c (live_entry 1 small_value) never)
same_record true false e = absurd (cc)
same_record false true e = absurd (cc)
same_record _ _ e = refl

pub small_live : AgreeIn small_range (live_items (small_item ∷ [])) (live_after empty_map small_journal)
small_live table key here =
    same_record (eqb 1 table && bytes_eq small_key key) (eqb table 1 && bytes_eq key small_key) (name-swap 1 table small_key key)

-- there is but one item
pub small_plain : IsPlain (small_item ∷ [])
small_plain a b first second table key version = only_one small_item a first ∙ sym (only_one small_item b second)

-- a put may be written at version 1 where nothing was
pub small_legal : IsLegal empty_map small_journal
small_legal = (omega arith, tt)

-- the truth of the row gives what the journal leaves
pub truth_one : IsTruth no_base small_range (small_truths small_row) small_journal
truth_one = rw truth_is (record { plain = small_plain; live = small_live })

-- the version that was given is below the next one
pub low_either : (found : Bool) → last_version (cond found (live_entry 1 small_value) never) < floor_of (cond found (small_entry ∷ []) [])
low_either true = omega arith
low_either false = omega arith

-- so it is of each key
pub small_low : AreAboveMap small_range (map_after empty_map small_journal) (small_entry ∷ [])
small_low table key here =
    subst
    (λ (found : Bool). last_version (cond found (live_entry 1 small_value) never) < floor_of (of_key table key (small_entry ∷ [])))
    (name-swap 1 table small_key key) (low_either (eqb 1 table && bytes_eq small_key key))

-- and for the truth of the row
pub low_one : AreAboveMap small_range (map_after empty_map small_journal) (small_truths small_row)
low_one = rw truth_is small_low

-- the tablet's counter is above all that was written
pub next_one : IsNext (small_truths small_row ++ small_rests small_row) 2
next_one = subst (λ (truth : List Entry). floor_of (truth ++ []) ≤ 2) (sym truth_is) (omega arith)

-- ---- its row, what its one master has of it, and the part Cover

-- a master that the row names is the master that is there
pub named_is_there : (q : ℕ) → names small_row.phase q ≡ true → IsMaster 1 q
named_is_there q named =
    let is : 1 ≡ q = eqb-true 1 q named in
    subst (λ (n : ℕ). IsMaster 1 n) is (record { first = omega arith; last = omega arith })

-- the key of the put is in the row
pub covered_one : is_covered small_map 1 (hash_of small_key) ≡ true
unfolding hash_of
covered_one = refl

-- a tablet that is not absent is the one of the master
pub present_one : (q r : ℕ) → is_absent (tablet_in small_world q r).handover.role ≡ false → (q ≡ 1) × (r ≡ 1)
present_one q r there =
    each_tablet (λ n t tablet. is_absent tablet.handover.role ≡ false → (n ≡ 1) × (t ≡ 1))
    (λ h. (refl, refl)) (λ n t apart h. absurd (cc)) q r there

-- what the master keeps of the tablet is at the row's term, with its range
pub handover_here : HandoverFits small_row 1 small_tablet.handover
handover_here = record { within = λ same. omega arith; below = λ apart meet. absurd (apart refl); exact = λ same term. refl }

-- what nobody keeps is at term 0
pub handover_nowhere : (r : ℕ) → HandoverFits small_row r no_tablet.handover
handover_nowhere r = record {
  within = λ same. omega arith;
  below = λ apart meet. omega arith;
  exact = λ same term. absurd (omega (arith, term));
}

-- a message that carries no tenure says nothing of terms
pub no_tenure : (body : Body) → tenure_in body ≡ None → SentFits small_row body
no_tenure body none = record {
  within = subst (λ o. IfSome o (λ tenure. IsWithinTerm small_row tenure.tablet tenure.term)) (sym none) tt;
  below =
      subst
      (λ o. IfSome o (λ tenure. IfSome (range_in body) (λ range. IsBelowOthers small_row tenure.tablet tenure.term range)))
      (sym none) tt;
}

-- the range of the row lies in it
pub within_one : IsWithinRows small_map small_range
within_one hash here = ap (λ (b : Bool). b || false) here

-- the tablet has a row, and nothing is spoken of that lies in none
pub small_cover : CoverOf small_view
small_cover = record {
  unknown = each_tablet (λ q r tablet. row_of small_map r ≡ None → tablet.handover.term ≡ 0) (λ none. absurd (cc)) (λ q r apart none. refl);
  marks = λ q. All-nil _;
  sent = each_message (λ number message. IfSome (tenure_in message.body) (λ tenure. is_some (row_of small_map tenure.tablet) ≡ true)) tt tt tt tt;
  ranges = each_tablet (λ q r tablet. 1 ≤ tablet.handover.term → IsWithinRows small_map tablet.handover.range)
      (λ begun. within_one) (λ q r apart begun. absurd (omega (arith, begun)));
  ordered = each_message (λ number message. IfSome (range_in message.body) (IsWithinRows small_map)) tt tt tt tt;
  entries = each_master (λ q m. All (IsEntryWithin small_map) m.log.entries)
      (all_one (IsEntryWithin small_map) small_entry covered_one) (λ q apart. All-nil _);
  sides = each_master (λ q m. All (IsItemWithin small_map) (flat_map (λ items. items) m.sides)) (All-nil _) (λ q apart. All-nil _);
  items = each_master (λ q m. All (IsItemWithin small_map) m.records)
      (all_one (IsItemWithin small_map) small_item covered_one) (λ q apart. All-nil _);
  wholes = each_master (λ q m. All (IsOfWholeRows small_map) m.log.entries)
      (all_one (IsOfWholeRows small_map) small_entry tt) (λ q apart. All-nil _);
}

-- another master is absent, and its post asks no more
pub role_elsewhere : (q : ℕ) → (q ≡ 1 → ⊥) → RoleFits small_row q no_tablet.handover 0
role_elsewhere q apart = rw (post_elsewhere q apart) (omega arith)

-- and it is not of the lineage
pub not_member : (q : ℕ) → (q ≡ 1 → ⊥) → is_member (lineage_of small_row.phase) q ≡ true → ⊥
not_member q apart there =
    let e : (eqb 1 q || false) ≡ false = ap (λ (b : Bool). b || false) (not_owner q apart) in
    let f : true ≡ false = sym there ∙ e in absurd (cc)

-- ---- its one call ended once, nothing is staged, and the table has its item

-- the end of the put reaches its record
pub reached_one : ReachAll small_range small_journal (small_end ∷ [])
reached_one =
    all_one (λ placed. is_record_in small_range placed ≡ true → is_mutation placed.call.op ≡ true → IsReached (small_end ∷ []) placed) small_placed
    (λ here mutation. record {
      end = small_end;
      stands = one_stands small_end;
      reaches = record { client = refl; reached = inr (refl, refl) };
    })

-- and so does what the truth records of its key
pub told_one : TellAll small_range small_journal (small_entry ∷ [])
told_one =
    all_one
    (λ placed. is_record_in small_range placed ≡ true → is_mutation placed.call.op ≡ true
    → IsReached (told (of_key placed.call.table placed.call.key (small_entry ∷ []))) placed) small_placed
    (λ here mutation. record {
      end = small_end;
      stands = one_stands small_end;
      reaches = record { client = refl; reached = inr (refl, refl) };
    })

-- the end is that of the record
pub known_one : IsKnown no_base small_journal small_end
known_one = inl (record {
  placed = small_placed;
  stands = one_stands small_placed;
  fits = record { mutation = refl; client = refl; seq = refl; outcome = refl };
})

-- nothing is behind the truth
pub rest_one : IsRest no_base small_range (small_truths small_row) (small_rests small_row) small_journal (asked_by small_ledger)
rest_one =
    subst (λ (truth : List Entry). IsRest no_base small_range truth [] small_journal (asked_by small_ledger)) (sym truth_is)
    (record { legal = small_legal; live = small_live; staged = All-nil _; one = λ i j d before within. absurd (omega (arith, within)) })

-- the newest item of a key is the put's or none
pub newest_one : (item : Held) → newest (small_item ∷ []) item.table item.key ≡ Some item → small_item ≡ item
newest_one item = go (is_of item.table item.key small_item)
  where
    go : (b : Bool) → cond b (Some small_item) None ≡ Some item → small_item ≡ item
    go true e = cc
    go false e = absurd (cc)

-- the table has just the newest item of the put's key
pub table_one : IsTableOf small_range (small_entry ∷ []) (small_item ∷ [])
table_one item here = (
  λ there. subst (λ (i : Held). newest (small_item ∷ []) i.table i.key ≡ Some i) (sym (only_one small_item item there)) refl,
  λ found. subst (Contains (small_item ∷ [])) (newest_one item found) (one_stands small_item),
)

-- what is applied at the owner is the put alone
pub member_is : member_truth (written_in small_world) small_range (member 1 0) ≡ small_entry ∷ []
unfolding hash_of
member_is = refl

-- so the table has what is applied there
pub items_one : HasItems small_row (written_in small_world) (small_item ∷ [])
items_one = subst (λ (truth : List Entry). IsTableOf small_range truth (small_item ∷ [])) (sym member_is) table_one

-- and another master need not have them
pub nothing_full : (n : ℕ) → (n ≡ 1 → ⊥) → has_all_items (post_of small_row.phase n) no_tablet.handover 1 ≡ true → ⊥
nothing_full n apart all =
    let e : has_all_items (post_of small_row.phase n) no_tablet.handover 1 ≡ false =
    ap (λ (post : Post). has_all_items post no_tablet.handover 1) (post_elsewhere n apart)
    in let f : true ≡ false = sym all ∙ e in absurd (cc)

-- one item is in scan order
pub order_one : (item : Held) → IsInScanOrder (item ∷ [])
unfolding IsStrictlySortedBy
order_one item = (tt, tt)

-- ---- its reply and its request, and the part Asked

-- the reply names the record
pub reply_one : IsRecordAt small_journal 1 small_answer (outcomes.Written 1)
reply_one = record {
  placed = small_placed;
  stands = refl;
  client_is = refl;
  seq_is = refl;
  outcome_is = refl;
  stamp_is = refl;
}

-- the key lies in the lane
pub lane_one : lane_of_key small_key ≡ 4
unfolding hash_of
lane_one = refl

-- the request is that of the last call
pub request_one : RequestFits (asked_by small_ledger) small_journal 1 small_asks
request_one = record { was_asked = inl refl; seen = λ same. refl }

-- the put is the last call of its client, and the request asks it
pub small_asked : Asked no_base 4 (asked_by small_ledger) small_ledger.requests small_journal small_wire
small_asked = record {
  last = each_client (λ client last. IfSome last (IsLastCall no_base 4 client))
      (record { own = refl; here = lane_one; after = All-nil _ }) (λ client apart. tt);
  own_keys = all_one (λ placed. lane_of_key placed.call.key ≡ 4) small_placed lane_one;
  recorded = all_one (λ placed. WasAsked (asked_by small_ledger placed.call.client) small_journal placed.call) small_placed (inl refl);
  after_start = all_one (λ placed. IsAfterStart no_base placed.call) small_placed (All-nil _);
  once = λ i j a b first second same. first_place small_placed a i first ∙ sym (first_place small_placed b j second);
  sent = each_message (λ number message. RequestSays (asked_by small_ledger) small_journal message.from message.body) request_one tt tt tt;
  again = each_request (λ client message. IsRequest (asked_by small_ledger) small_journal client message.from message.body) (refl, request_one);
}
