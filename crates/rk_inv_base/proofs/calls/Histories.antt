-- The history that staged calls will make, with one more call, and the records that it leaves.
use Rattle.rk_inv_base.proofs.Words.{◌≡◌, ℕ, ◌<◌, true, Bool, false, ◌&&◌, eqb, List, [], ◌∷◌, ◌++◌, Option, Some, None, refl, sym, ap, ◌∙◌}
use Rattle.rk_inv_base.proofs.Words.{subst, ⊎_elim, arith, append_assoc, bytes_eq, ◌≢◌, if◌then◌else◌, append-nil, all_pairs_push}
use Rattle.rk_inv_base.proofs.Words.{cases_Bool, cond-true, cond-false, flat_map-append, All-push, Call, End, Ended, Outcome, Held, Placed}
use Rattle.rk_inv_base.proofs.Words.{Range, legal_push, map_after-append, name-swap, Map, IsLegal, map_after, with_change, Allowed}
use Rattle.rk_inv_base.proofs.Words.{change_of, Entry, newest_is, newest_from-append, with_newer_here, with_newer_other, newer_item}
use Rattle.rk_inv_base.proofs.Words.{record_of, is_of, newest, none_found, Base, base_map, map_entry_of, items_of, items_in, end_of_item}
use Rattle.rk_inv_base.proofs.Words.{outcome_of, floor_of, has_key, item_of, refusal_of, LastCall, refused_as, IsNext, IsLast, IsLastAsked}
use Rattle.rk_inv_base.proofs.Words.{IsRest, IsStaged, call_end, call_ends, record_of_last, records_of, MayEnd}
use Rattle.rk_types.specs.declared.call.End.TheVariants as ends
use Rattle.rk_entry.specs.declared.entry.Entry.TheVariants as entries
use Rattle.rk_model.specs.History.{with_entry, record_of as map_record_of}
use Rattle.rk_model.specs.Machine.{Entry as MapEntry}
use Rattle.rk_overlay.specs.Live.{live as live_items}
use Rattle.rk_inv_base.proofs.Base.{floor_above}

-- the record that a call will make
abbrev pub record_for : Call → Outcome → Placed
record_for call outcome = record { call = call; outcome = outcome; stamp = 0; accepted = false }

-- the records that ends will make, with one more
pub records_push : (asked : ℕ → Option LastCall) (list : List Ended) (end : Ended) (last : LastCall) (call : Call) → asked end.client ≡ Some last → last.call ≡ call → records_of asked (list ++ end ∷ []) ≡ records_of asked list ++ record_for call (outcome_of end.end) ∷ []
records_push asked list end last call kept same = grind (arith, flat_map-append, record_of_last, records_of, outcome_of)

-- the map has of an item that was put what the item is
pub record_put : (item : Held) (value : Option (List ℕ)) → item.value ≡ value → record_of (Some item) ≡ map_record_of (map_entry_of item value)
record_put item None is = ap (λ (o : Option (List ℕ)). record_of (Some (record item { value = o }))) is
record_put item (Some value) is = ap (λ (o : Option (List ℕ)). record_of (Some (record item { value = o }))) is

-- an item above all others is the newest of its key, as a map has the entry that was put last
module _ (map : Map) (items : List Held) (item : Held) (table : ℕ) (key : List ℕ) where
  abbrev Agree : List Held → Map → Type 0
  Agree list left = live_items list table key ≡ map_record_of (left table key)

  live_push : ((old : Held) → newest items table key ≡ Some old → old.version < item.version) → Agree items map → Agree (items ++ item ∷ []) (with_entry map item.table item.key (map_entry_of item item.value))
  live_push above same =
      ap (λ found. record_of (found table key)) (newest_from-append none_found items (item ∷ []))
      ∙ ⊎_elim
      (λ (here : is_of table key item ≡ true).
      ap record_of (with_newer_here (newest items) item table key here)
      ∙ ap (λ (x : Held). record_of (Some x)) (newer_item (newest items table key) item above)
      ∙ record_put item item.value refl
      ∙ sym
      (ap map_record_of
      (cond-true (eqb table item.table && bytes_eq key item.key) (map_entry_of item item.value) (map table key)
      (name-swap table item.table key item.key ∙ here))))
      (λ (other : is_of table key item ≡ false).
      ap record_of (with_newer_other (newest items) item table key other)
      ∙ same
      ∙ sym
      (ap map_record_of
      (cond-false (eqb table item.table && bytes_eq key item.key) (map_entry_of item item.value) (map table key)
      (name-swap table item.table key item.key ∙ other))))
      (cases_Bool (is_of table key item))

module _ (start : Map) (journal records : List Placed) (call : Call) (outcome : Outcome) where
  -- the history of the journal and of the staged calls, with one more call that may end so
  legal_pushed : IsLegal start (journal ++ records) → Allowed (map_after start (journal ++ records) call.table call.key) call.op outcome → IsLegal start (journal ++ (records ++ record_for call outcome ∷ []))
  legal_pushed legal allowed = grind (arith, append_assoc, legal_push)

  -- and the map after it
  map_pushed : map_after start (journal ++ (records ++ record_for call outcome ∷ [])) ≡ with_change (map_after start (journal ++ records)) call.table call.key (change_of call.op outcome)
  map_pushed = grind (arith, map_after, append_assoc, map_after-append)

-- the items of truth and rest, with one more entry behind
pub items_pushed : (truth rest : List Entry) (entry : Entry) → items_of (truth ++ (rest ++ entry ∷ [])) ≡ items_of (truth ++ rest) ++ items_in entry
items_pushed truth rest entry = grind (arith, items_of, append_assoc, flat_map-append, items_in, append-nil)

-- the call that may end so is the last that its client asked
pub last_asked : (asked : ℕ → Option LastCall) (journal : List Placed) (call : Call) (last : IsLastAsked asked journal call.client call.seq call.table call.key) → last.last.call ≡ call → IsLast (asked call.client) call
last_asked asked journal call last same = subst (λ (o : Option LastCall). IsLast o call) (sym last.asked_is) same

module _ (base : Base) (range : Range) (truth rest : List Entry) (journal : List Placed) (asked : ℕ → Option LastCall) (call : Call) where
  -- what is staged goes on lawfully behind the truth
  abbrev GoesOn : List Entry → Type 0
  GoesOn list = IsRest base range truth list journal asked

  -- the records that the staged calls will make, and the map that they leave
  abbrev records : List Placed
  records = records_of asked (call_ends rest)

  abbrev map_now : Map
  map_now = map_after (base_map base) (journal ++ records_of asked (call_ends rest))

  -- the end of the call
  abbrev ended : End → Ended
  ended end = record { client = call.client; seq = call.seq; end = end }

  -- with an entry, truth and rest leave the records that a call which ends so leaves
  abbrev Leaves : Entry → End → Type 0
  Leaves entry end =
      (table : ℕ) (key : List ℕ) → has_key range table key ≡ true
      → live_items (items_of (truth ++ (rest ++ entry ∷ []))) table key
      ≡ map_record_of (with_change map_now call.table call.key (change_of call.op (outcome_of end)) table key)

  -- so the entry of a call that may end so goes behind the rest
  goes_on_with : (entry : Entry) (end : End) → call_end entry ≡ ended end ∷ [] → GoesOn rest → MayEnd base rest journal asked call (outcome_of end) → IsStaged base asked journal entry → Leaves entry end → GoesOn (rest ++ entry ∷ [])
  goes_on_with entry end its old may staged leaves =
      let outcome : Outcome = outcome_of end in
      let ends_are : call_ends (rest ++ entry ∷ []) ≡ call_ends rest ++ ended end ∷ [] =
      flat_map-append call_end rest (entry ∷ []) ∙ ap (λ (l : List Ended). call_ends rest ++ (l ++ [])) its in
      let records_are : records_of asked (call_ends (rest ++ entry ∷ [])) ≡ records ++ record_for call outcome ∷ [] =
      ap (records_of asked) ends_are ∙ records_push asked (call_ends rest) (ended end) may.last.last call may.last.asked_is may.same_call in
      record {
        legal = rw records_are (legal_pushed (base_map base) journal records call outcome old.legal may.allowed);
        live = λ table key inside.
            leaves table key inside
            ∙ ap (λ (map : Map). map_record_of (map table key)) (sym (map_pushed (base_map base) journal records call outcome))
            ∙ ap (λ (more : List Placed). map_record_of (map_after (base_map base) (journal ++ more) table key)) (sym records_are);
        staged = All-push (IsStaged base asked journal) rest entry old.staged staged;
        one = rw ends_are (all_pairs_push (λ a b. a.client ≢ b.client) (call_ends rest) (ended end) old.one may.unstaged);
      }

  -- so the item of a write goes, with a version that is above all of the row
  module _ (counter : ℕ) (value : Option (List ℕ)) where
    -- the item, and how the call ends
    abbrev item : Held
    item = item_of call counter value

    abbrev written : Outcome
    written = outcome_of (end_of_item counter value)

    pub write_goes_on : GoesOn rest → MayEnd base rest journal asked call written → change_of call.op written ≡ Some (map_entry_of item value) → IsNext (truth ++ rest) counter → GoesOn (rest ++ entries.Held item ∷ [])
    write_goes_on old may leaves low =
        goes_on_with (entries.Held item) (end_of_item counter value) refl old may
        (record {
          last = may.last;
          leaves = subst (λ (c : Call). change_of c.op written ≡ Some (map_entry_of item value)) (sym may.same_call) leaves;
        })
        (λ table key inside.
        ap (λ (items : List Held). live_items items table key) (items_pushed truth rest (entries.Held item))
        ∙ live_push map_now (items_of (truth ++ rest)) item table key
        (λ other is.
        let under : other.version < floor_of (truth ++ rest) =
        floor_above (truth ++ rest) other (newest_is (items_of (truth ++ rest)) table key other is).stands in
        omega (arith, under, low))
        (old.live table key inside)
        ∙ ap (λ (change : Option MapEntry). map_record_of (with_change map_now call.table call.key change table key)) (sym leaves))

  -- and a refusal, which leaves all as it was
  pub refusal_goes_on : (found : ℕ) (absent : Bool) → GoesOn rest → MayEnd base rest journal asked call (refused_as found absent) → change_of call.op (refused_as found absent) ≡ None → GoesOn (rest ++ refusal_of call found absent ∷ [])
  refusal_goes_on found absent old may leaves =
      let entry : Entry = refusal_of call found absent in
      goes_on_with entry (if absent then ends.Absent else ends.Mismatch found) refl old may may.last
      (λ table key inside.
      ap (λ (items : List Held). live_items items table key) (items_pushed truth rest entry ∙ append-nil (items_of (truth ++ rest)))
      ∙ old.live table key inside
      ∙ ap (λ (change : Option MapEntry). map_record_of (with_change map_now call.table call.key change table key)) (sym leaves))
