-- What a backup stores of a member, and what that records, once the member's log has more entries at its end.
use Rattle.rk_inv_base.proofs.Words.{◌≡◌, ℕ, zero, suc, ◌≤◌, List, [], ◌∷◌, ◌++◌, refl, sym, ap, subst, arith, append_assoc, drop, take}
use Rattle.rk_inv_base.proofs.Words.{nat_le, Contains, flat_map-append, All-weaker, Contains-append_left, filter-append, Held, Range}
use Rattle.rk_inv_base.proofs.Words.{spelled, Entry, ends, end_of, cut, with_bytes, Log, with_entry, items_in, items_of, told, told_by}
use Rattle.rk_inv_base.proofs.Words.{is_marked, unmarked, unmarked_from, counts, counting, Mark, TellNoMore, stored_count, ends_push}
use Rattle.rk_inv_base.proofs.Words.{prefix_len_push_le}
use Rattle.rk_inv_base.proofs.logs.Floors.{floor_append}

-- entries are others with more behind them
pub record Extends (old new : List Entry) : Type 0 where
  pub more : List Entry
  pub parts : new ≡ old ++ more

-- what is among some is among these with others
pub still_contains : (old new : List Entry) (entry : Entry) → Extends old new → Contains old entry → Contains new entry
still_contains old new entry grown has = rw grown.parts (Contains-append_left old grown.more entry has)

-- also behind further ones
pub extends_behind : (front old new : List Entry) → Extends old new → Extends (front ++ old) (front ++ new)
extends_behind front old new grown = grind (arith, append_assoc)

-- so are the first of them, if no fewer are taken
pub take_extends : (few many : ℕ) (list behind : List Entry) → few ≤ many → Extends (take few list) (take many (list ++ behind))
take_extends zero many list behind more = record { more = take many (list ++ behind); parts = refl }
take_extends (suc few) zero list behind more = absurd (omega arith)
take_extends (suc few) (suc many) [] behind more = record { more = take (suc many) behind; parts = refl }
take_extends (suc few) (suc many) (entry ∷ list) behind more =
    let rest = take_extends few many list behind (omega arith) in
    record { more = rest.more; parts = ap (λ (all : List Entry). entry ∷ all) rest.parts }

-- those behind a place
pub drop_extends : (place : ℕ) (list behind : List Entry) → Extends (drop place list) (drop place (list ++ behind))
drop_extends zero list behind = record { more = behind; parts = refl }
drop_extends (suc place) [] behind = record { more = drop (suc place) behind; parts = refl }
drop_extends (suc place) (entry ∷ list) behind = drop_extends place list behind

-- those that bear no mark
pub unmarked_extends : (marks : List Mark) (place : ℕ) (list behind : List Entry) → Extends (unmarked marks place list) (unmarked marks place (list ++ behind))
unmarked_extends marks place [] behind = record { more = unmarked marks place behind; parts = refl }
unmarked_extends marks place (entry ∷ list) behind = grind (arith, is_marked, unmarked, (unmarked_extends marks (suc place) list behind))

-- and those that count of these
pub counting_extends : (range : Range) (marks : List Mark) (place : ℕ) (old new : List Entry) → Extends old new → Extends (counting range (unmarked_from marks place old)) (counting range (unmarked_from marks place new))
counting_extends range marks place old new grown =
    let behind = drop_extends place old grown.more in
    let rest = unmarked_extends marks place (drop place old) behind.more in
    record {
      more = counting range rest.more;
      parts = grind (arith, counting, unmarked, filter-append, counts, grown.parts, behind.parts, rest.parts, rest.more);
    }

-- a backup stores as many first entries of a log with one more
pub stored_push : (log : Log) (entry : Entry) (stored : ℕ → List ℕ) → stored_count log stored ≤ stored_count (with_entry log entry) stored
stored_push log entry stored = grind (arith, nat_le, ends_push, prefix_len_push_le, ends, end_of, with_bytes, cut, spelled)

-- what records no more than some entries records no more than these with others
pub tells_extended : (list old new : List Entry) → Extends old new → TellNoMore list old → TellNoMore list new
tells_extended list old new grown tells =
    subst (TellNoMore list) (sym grown.parts) (record {
      items = λ item at.
          subst (λ (items : List Held). Contains items item) (sym (flat_map-append items_in old grown.more))
          (Contains-append_left (items_of old) (items_of grown.more) item (tells.items item at));
      ends =
          rw (flat_map-append told_by old grown.more) (All-weaker (Contains (told old)) (Contains (told old ++ told grown.more))
          (λ end at. Contains-append_left (told old) (told grown.more) end at) (told list) tells.ends);
      floor = grind (arith, floor_append, grown.more, tells.floor);
    })
