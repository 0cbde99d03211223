-- How many bytes the spelling of an entry takes.
use Rattle.std.proofs.Common.{◌≡◌, ℕ, ◌+◌, true, false, ltb, List, ◌++◌, length, Option, sym, ap, ◌∙◌, arith, length-append, append_assoc, drop}
use Rattle.std.proofs.lemmas.List.{append-nil, drop_at}
use Rattle.std.specs.Int.{w8, w32}
use Rattle.rk_types.specs.Held.{spelled_of, spelled_value_of}
use Rattle.rk_types.specs.declared.held.Held.{Held}
use Rattle.rk_entry.specs.declared.kind.Kind.{Kind}
use Rattle.rk_entry.specs.declared.kind.Kind.TheVariants as kinds
use Rattle.rk_entry.specs.declared.kind.TheConstants.{HEAD_BYTES}
use Rattle.rk_entry.specs.declared.entry.Entry.{Entry}
use Rattle.rk_entry.specs.declared.entry.Entry.TheVariants as entries
use Rattle.rk_entry.specs.Numbers.{number_bytes}
use Rattle.rk_entry.specs.Kinds.{kind_of, kind_number, is_marked, item_kind}
use Rattle.rk_entry.specs.Lengths.{fields_count, value_count}
use Rattle.rk_entry.specs.Spelling.{mark_of, mark_bytes, mark_count, fields_bytes, body_length, front_bytes, spelled}
use Rattle.rk_entry.proofs.Counts.{length-number_bytes, length-fields_bytes}

-- the mark takes as many bytes as are counted
pub length_mark : (kind : Kind) (front : List ℕ) → length (mark_bytes kind front) ≡ mark_count kind
length_mark kind front = grind (arith, length-number_bytes)

-- the body is the fields and the mark
pub body_count : (entry : Entry) → body_length entry ≡ fields_count entry + mark_count (kind_of entry)
unfolding body_length
body_count entry = ap (λ (n : ℕ). n + mark_count (kind_of entry)) (length-fields_bytes entry)

-- what comes before the mark
pub front_count : (entry : Entry) → length (front_bytes entry) ≡ HEAD_BYTES + fields_count entry
unfolding front_bytes
front_count entry =
    omega (
      arith,
      length-append (number_bytes w8 (kind_number (kind_of entry))) (number_bytes w32 (body_length entry) ++ fields_bytes entry),
      length-append (number_bytes w32 (body_length entry)) (fields_bytes entry),
      length-number_bytes w8 (kind_number (kind_of entry)),
      length-number_bytes w32 (body_length entry),
      length-fields_bytes entry,
    )

-- the whole spelling
pub spelled_count : (entry : Entry) → length (spelled entry) ≡ HEAD_BYTES + fields_count entry + mark_count (kind_of entry)
unfolding spelled
spelled_count entry =
    omega (arith, length-append (front_bytes entry) (mark_bytes (kind_of entry) (front_bytes entry)), front_count entry, length_mark (kind_of entry) (front_bytes entry))

-- the value and the mark of an item take what its length counts
value_and_mark : (value : Option (List ℕ)) → value_count value + mark_count (item_kind value) ≡ spelled_value_of value
value_and_mark value = grind (arith, ltb)

-- the length that is given for an item is that of its spelling
pub held_spelled : (held : Held) → spelled_of held ≡ length (spelled (entries.Held held))
unfolding spelled_of
held_spelled held = omega (arith, spelled_count (entries.Held held), value_and_mark held.value)

-- an entry whose mark is put behind the rest of it is spelled
pub marked_whole : (entry : Entry) (old items : List ℕ) (start mark : ℕ) → is_marked (kind_of entry) ≡ true → start ≡ length old → items ≡ old ++ front_bytes entry
    → mark ≡ mark_of (drop start items) → items ++ number_bytes w8 mark ≡ old ++ spelled entry
unfolding spelled
marked_whole entry old items start mark marked at so_far is =
    let front : drop start items ≡ front_bytes entry = rw so_far (drop_at old (front_bytes entry) start (sym at)) in
    let mark_is : mark ≡ mark_of (front_bytes entry) = is ∙ ap mark_of front in
    rw (marked, mark_is, so_far) (append_assoc old (front_bytes entry) (number_bytes w8 (mark_of (front_bytes entry))))

-- an entry without a mark is spelled by the rest of it
pub unmarked_whole : (entry : Entry) (old items : List ℕ) → is_marked (kind_of entry) ≡ false → items ≡ old ++ front_bytes entry → items ≡ old ++ spelled entry
unfolding spelled
unmarked_whole entry old items unmarked so_far =
    rw (unmarked, append-nil (front_bytes entry)) so_far
