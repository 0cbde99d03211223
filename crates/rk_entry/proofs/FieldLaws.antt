-- The fields of an entry that are read are spelled so.
use Rattle.std.proofs.Common.{◌≡◌, ℕ, ◌+◌, ◌*◌, ◌^◌, ◌<◌, ◌≤◌, Bool, true, false, cond, ltb, eqb, List, [], ◌++◌, length, Option, Some, None, Ok, refl, sym, ap, subst, ◌∙◌, arith}
use Rattle.std.specs.Prelude.{IsTrue}
use Rattle.std.specs.Option.{ok_or}
use Rattle.std.specs.List.{AllByRecursion, IsDistinct}
use Rattle.std.specs.Int.{w8, w16, w32, w64}
use Rattle.std.proofs.lemmas.Bool.{eqb-true}
use Rattle.std.proofs.lemmas.Bool.Decides.{nat_tests}
use Rattle.std.proofs.lemmas.List.{append-nil}
use Rattle.rk_types.specs.Text.{key_fault, value_fault}
use Rattle.rk_types.specs.declared.call.Ended.{Ended}
use Rattle.rk_types.specs.declared.held.Held.{Held}
use Rattle.rk_types.specs.declared.text.TheConstants.{LONGEST_KEY}
use Rattle.rk_entry.specs.declared.error.DecodeError.{DecodeError}
use Rattle.rk_entry.specs.declared.error.DecodeError.TheVariants.{Bad}
use Rattle.rk_entry.specs.declared.error.TheConstants.{BAD_CHOICE}
use Rattle.rk_entry.specs.declared.head.Head.{Head}
use Rattle.rk_entry.specs.declared.entry.Entry.{Entry}
use Rattle.rk_entry.specs.declared.entry.Entry.TheVariants as entries
use Rattle.rk_entry.specs.declared.entry.Refused.{Refused}
use Rattle.rk_entry.specs.declared.entry.Carried.{Carried}
use Rattle.rk_entry.specs.declared.entry.Joined.{Joined}
use Rattle.rk_entry.specs.declared.kind.Kind.{Kind}
use Rattle.rk_entry.specs.declared.kind.Kind.TheVariants as kinds
use Rattle.rk_entry.specs.declared.kind.TheConstants.{TOMBSTONE_BYTES, OBJECT_BYTES, MARK_BYTES, REFUSED_BYTES, CARRIED_BYTES, END_BYTES, JOINED_BYTES, SEGMENT_NUMBER_BYTES, LONGEST_BODY, MOST_ENDS}
use Rattle.rk_entry.specs.declared.lists.TheConstants.{FIRST_SIDE_SEGMENT}
use Rattle.rk_entry.specs.Numbers.{number_bytes, IsNumber, read_number, read_from}
use Rattle.rk_entry.specs.Texts.{key_bytes, value_bytes, read_key_length, read_key, read_value_length, read_value}
use Rattle.rk_entry.specs.Ends.{range_bytes, IsLawfulRange, IsLawfulEnd, RiseAbove, read_range}
use Rattle.rk_entry.specs.Lists.{ends_bytes, read_ends, segments_bytes, read_segments}
use Rattle.rk_entry.specs.Kinds.{kind_of, item_kind}
use Rattle.rk_entry.specs.Spelling.{head_bytes, why_number, held_bytes, refused_bytes, carried_bytes, joined_bytes, fields_bytes, mark_count}
use Rattle.rk_entry.specs.Lawful.{IsLawfulEntry}
use Rattle.rk_entry.specs.Lengths.{fields_count}
use Rattle.rk_entry.specs.Reading.{where_body_is, read_head, read_tombstone, shortest_value, longest_value, read_object, why_numbered, read_why, read_refused, read_carried, read_joined, read_fields}
use Rattle.rk_entry.proofs.Tools.{bind_ok, unless_ok, ok_is, Takes, takes_both, takes_weaker}
use Rattle.rk_entry.proofs.NumberLaws.{wide8, wide16, wide32, wide64, number_takes, from_takes}
use Rattle.rk_entry.proofs.TextLaws.{key_length_takes, key_takes, key_counts, value_length_takes, value_takes, value_counts}
use Rattle.rk_entry.proofs.EndLaws.{chosen, range_takes}
use Rattle.rk_entry.proofs.ListLaws.{ends_take, segments_take}

-- a head that may be read
pub record IsLawfulHead (least : ℕ) (head : Head) : Type 0 where
  pub table : IsNumber w64 1 head.table
  pub version : IsNumber w64 least head.version
  pub client : IsNumber w32 1 head.client
  pub seq : IsNumber w64 1 head.seq

-- a head that is read is lawful and spelled so
pub head_takes : (least : ℕ) (bytes : List ℕ) (x : Head × List ℕ) → read_head least bytes ≡ Ok x → Takes bytes (head_bytes x.0) x.1 (IsLawfulHead least x.0)
unfolding read_head head_bytes
head_takes least bytes x e =
    let a = bind_ok (read_from w64 1 bytes) e in
    let b = bind_ok (read_from w64 least a.0.1) a.2 in
    let c = bind_ok (read_from w32 1 b.0.1) b.2 in
    let d = bind_ok (read_from w64 1 c.0.1) c.2 in
    let head : Head = record { table = a.0.0; version = b.0.0; client = c.0.0; seq = d.0.0 } in
    let all = takes_both (from_takes w64 wide64 1 bytes a.0 a.1) (takes_both (from_takes w64 wide64 least a.0.1 b.0 b.1) (takes_both (from_takes w32 wide32 1 b.0.1 c.0 c.1) (from_takes w64 wide64 1 c.0.1 d.0 d.1))) in
    subst (λ (y : Head × List ℕ). Takes bytes (head_bytes y.0) y.1 (IsLawfulHead least y.0)) (ok_is (head, d.0.1) x d.2)
    (takes_weaker (λ (h : IsNumber w64 1 a.0.0 × (IsNumber w64 least b.0.0 × (IsNumber w32 1 c.0.0 × IsNumber w64 1 d.0.0))).
    record { table = h.0; version = h.1.0; client = h.1.1.0; seq = h.1.1.1 }) all)

-- what an option held that was asked for
pub ok_or_ok : {A : Type 0} (o : Option A) (d : DecodeError) (y : A) → ok_or o d ≡ Ok y → o ≡ Some y
ok_or_ok None d y e = absurd cc
ok_or_ok (Some x) d y e = cc

-- a number that is read as a reason is its number
why_is : (found n : ℕ) (absent : Bool) → why_numbered found n ≡ Some absent → (n ≡ why_number absent) × (IsTrue absent → found ≡ 0)
why_is found n absent e = grind (arith, chosen, eqb, eqb-true)

-- a reason that is read is spelled by its number, and a removal found no version
pub why_takes : (found : ℕ) (bytes : List ℕ) (x : Bool × List ℕ) → read_why found bytes ≡ Ok x → Takes bytes (number_bytes w8 (why_number x.0)) x.1 (IsTrue x.0 → found ≡ 0)
unfolding read_why
why_takes found bytes x e =
    let a = bind_ok (read_number w8 bytes) e in
    let b = bind_ok (ok_or (why_numbered found a.0.0) (Bad BAD_CHOICE)) a.2 in
    let why = why_is found a.0.0 b.0 (ok_or_ok (why_numbered found a.0.0) (Bad BAD_CHOICE) b.0 b.1) in
    subst (λ (y : Bool × List ℕ). Takes bytes (number_bytes w8 (why_number y.0)) y.1 (IsTrue y.0 → found ≡ 0)) (ok_is (b.0, a.0.1) x b.2)
    (subst (λ (n : ℕ). Takes bytes (number_bytes w8 n) a.0.1 (IsTrue b.0 → found ≡ 0)) why.0
    (takes_weaker (λ (fits : a.0.0 < 256). why.1) (number_takes w8 wide8 bytes a.0 a.1)))

-- an entry of this kind whose body has so many bytes
pub record IsOf (kind : Kind) (body : ℕ) (entry : Entry) : Type 0 where
  pub lawful : IsLawfulEntry entry
  pub kind_is : kind_of entry ≡ kind
  pub body_is : body ≡ fields_count entry + mark_count kind

-- the last length or count of a body that was read on with
pub known : {A : Type 0} (count body : ℕ) {read x : A} → where_body_is count body read ≡ Ok x → (body ≡ count) × (read ≡ x)
known count body e = grind (arith, unless_ok, eqb, nat_tests)

-- the body of an item without a value has the bytes of its parts
tombstone_body : (body key key_len : ℕ) → body ≡ TOMBSTONE_BYTES + key → key_len ≡ key → body ≡ TOMBSTONE_BYTES + key_len + 0 + 0
tombstone_body body key key_len b k = omega arith

-- so has that of a refusal
refused_body : (body key key_len : ℕ) → body ≡ REFUSED_BYTES + key → key_len ≡ key → body ≡ REFUSED_BYTES + key_len + 0
refused_body body key key_len b k = omega arith

-- so has that of ends that came with a tablet
carried_body : (body count ends_len : ℕ) → body ≡ CARRIED_BYTES + END_BYTES * count → ends_len ≡ count → body ≡ CARRIED_BYTES + END_BYTES * ends_len + 0
carried_body body count ends_len b n = omega arith

-- ends with a count of two bytes are not too many
ends_few : (count ends_len : ℕ) → count < 256 ^ 2 → ends_len ≡ count → ends_len ≤ MOST_ENDS
ends_few count ends_len fits n = omega arith

-- the body of side segments has the bytes of its parts
joined_body : (body count segments_len : ℕ) → body ≡ JOINED_BYTES + SEGMENT_NUMBER_BYTES * count → segments_len ≡ count → body ≡ JOINED_BYTES + SEGMENT_NUMBER_BYTES * segments_len + 0
joined_body body count segments_len b n = omega arith

-- side segments of a body that is not too long are not too many
segments_few : (body count segments_len : ℕ) → body ≤ LONGEST_BODY → body ≡ JOINED_BYTES + SEGMENT_NUMBER_BYTES * count → segments_len ≡ count → JOINED_BYTES + SEGMENT_NUMBER_BYTES * segments_len ≤ LONGEST_BODY
segments_few body count segments_len within b n = omega arith

-- an item without a value that is read is lawful and spelled so
pub tombstone_takes : (body : ℕ) (bytes : List ℕ) (x : Entry × List ℕ) → read_tombstone body bytes ≡ Ok x → Takes bytes (fields_bytes x.0) x.1 (IsOf kinds.Tombstone body x.0)
unfolding read_tombstone held_bytes key_bytes
tombstone_takes body bytes x e =
    let a = bind_ok (read_head 1 bytes) e in
    let b = bind_ok (read_key_length a.0.1) a.2 in
    let c = bind_ok (where_body_is (TOMBSTONE_BYTES + b.0.0) body b.0) b.2 in
    let g = known (TOMBSTONE_BYTES + b.0.0) body c.1 in
    let d = bind_ok (read_key c.0.0 c.0.1) c.2 in
    let len : length d.0.0 ≡ b.0.0 = key_counts c.0.0 c.0.1 d.0 d.1 ∙ ap (λ (y : ℕ × List ℕ). y.0) (sym g.1) in
    let held : Held = record { table = a.0.0.table; version = a.0.0.version; client = a.0.0.client; seq = a.0.0.seq; key = d.0.0; value = None } in
    let count : Takes a.0.1 (number_bytes w8 b.0.0) c.0.1 ((1 ≤ b.0.0) × (b.0.0 ≤ LONGEST_KEY)) =
    subst (λ (rest : List ℕ). Takes a.0.1 (number_bytes w8 b.0.0) rest ((1 ≤ b.0.0) × (b.0.0 ≤ LONGEST_KEY))) (ap (λ (y : ℕ × List ℕ). y.1) g.1) (key_length_takes a.0.1 b.0 b.1) in
    let all = takes_both (head_takes 1 bytes a.0 a.1) (takes_both count (key_takes c.0.0 c.0.1 d.0 d.1)) in
    let text : head_bytes a.0.0 ++ (number_bytes w8 b.0.0 ++ d.0.0) ≡ fields_bytes (entries.Held held) =
    ap (λ (t : List ℕ). head_bytes a.0.0 ++ t) (ap (λ (n : ℕ). number_bytes w8 n ++ d.0.0) (sym len) ∙ sym (append-nil (number_bytes w8 (length d.0.0) ++ d.0.0))) in
    subst (λ (y : Entry × List ℕ). Takes bytes (fields_bytes y.0) y.1 (IsOf kinds.Tombstone body y.0)) (ok_is (entries.Held held, d.0.1) x d.2)
    (subst (λ (t : List ℕ). Takes bytes t d.0.1 (IsOf kinds.Tombstone body (entries.Held held))) text
    (takes_weaker (λ (h : IsLawfulHead 1 a.0.0 × (((1 ≤ b.0.0) × (b.0.0 ≤ LONGEST_KEY)) × ((length d.0.0 ≡ c.0.0) × (key_fault d.0.0 ≡ None)))).
    record {
      lawful = record { table = h.0.table; version = h.0.version; client = h.0.client; seq = h.0.seq; key = h.1.1.1; value = tt };
      kind_is = refl;
      body_is = tombstone_body body b.0.0 (length d.0.0) g.0 len;
    }) all))

-- the kind of an item with a value
abbrev pub object_kind : Bool → Kind
object_kind marked = cond marked kinds.LongObject kinds.Object

-- an item with a value of these limits is of this kind
object_kind_is : (marked : Bool) (value : List ℕ) → shortest_value marked ≤ length value → length value ≤ longest_value marked → item_kind (Some value) ≡ object_kind marked
object_kind_is marked value below above = grind (arith, ltb, nat_tests)

-- how many bytes the mark of an object takes
object_mark : (marked : Bool) → mark_count (object_kind marked) ≡ cond marked MARK_BYTES 0
object_mark true = refl
object_mark false = refl

-- the body of an object has the bytes of its parts
object_body : (body key value key_len value_len mark mark_len : ℕ) → body ≡ OBJECT_BYTES + key + value + mark → key_len ≡ key → value_len ≡ value → mark_len ≡ mark
    → body ≡ TOMBSTONE_BYTES + key_len + (4 + value_len) + mark_len
object_body body key value key_len value_len mark mark_len b k v m = omega arith

-- an item with a value that is read is lawful and spelled so
pub object_takes : (marked : Bool) (body : ℕ) (bytes : List ℕ) (x : Entry × List ℕ) → read_object marked body bytes ≡ Ok x → Takes bytes (fields_bytes x.0) x.1 (IsOf (object_kind marked) body x.0)
unfolding read_object held_bytes key_bytes value_bytes
object_takes marked body bytes x e =
    let a = bind_ok (read_head 1 bytes) e in
    let b = bind_ok (read_key_length a.0.1) a.2 in
    let c = bind_ok (read_key b.0.0 b.0.1) b.2 in
    let d = bind_ok (read_value_length (shortest_value marked) (longest_value marked) c.0.1) c.2 in
    let whole = OBJECT_BYTES + b.0.0 + d.0.0 + cond marked MARK_BYTES 0 in
    let f = bind_ok (where_body_is whole body d.0) d.2 in
    let g = known whole body f.1 in
    let v = bind_ok (read_value f.0.0 f.0.1) f.2 in
    let key_len : length c.0.0 ≡ b.0.0 = key_counts b.0.0 b.0.1 c.0 c.1 in
    let value_len : length v.0.0 ≡ d.0.0 = value_counts f.0.0 f.0.1 v.0 v.1 ∙ ap (λ (y : ℕ × List ℕ). y.0) (sym g.1) in
    let held : Held = record { table = a.0.0.table; version = a.0.0.version; client = a.0.0.client; seq = a.0.0.seq; key = c.0.0; value = Some v.0.0 } in
    let Within : Type 0 = (shortest_value marked ≤ d.0.0) × (d.0.0 ≤ longest_value marked) in
    let count : Takes c.0.1 (number_bytes w32 d.0.0) f.0.1 Within =
    subst (λ (rest : List ℕ). Takes c.0.1 (number_bytes w32 d.0.0) rest Within) (ap (λ (y : ℕ × List ℕ). y.1) g.1) (value_length_takes (shortest_value marked) (longest_value marked) c.0.1 d.0 d.1) in
    let key = takes_both (key_length_takes a.0.1 b.0 b.1) (key_takes b.0.0 b.0.1 c.0 c.1) in
    let value = takes_both count (value_takes f.0.0 f.0.1 v.0 v.1) in
    let all = takes_both (head_takes 1 bytes a.0 a.1) (takes_both key value) in
    let text : head_bytes a.0.0 ++ ((number_bytes w8 b.0.0 ++ c.0.0) ++ (number_bytes w32 d.0.0 ++ v.0.0)) ≡ fields_bytes (entries.Held held) =
    ap (λ (n : ℕ). head_bytes a.0.0 ++ ((number_bytes w8 n ++ c.0.0) ++ (number_bytes w32 d.0.0 ++ v.0.0))) (sym key_len)
    ∙ ap (λ (n : ℕ). head_bytes a.0.0 ++ ((number_bytes w8 (length c.0.0) ++ c.0.0) ++ (number_bytes w32 n ++ v.0.0))) (sym value_len) in
    subst (λ (y : Entry × List ℕ). Takes bytes (fields_bytes y.0) y.1 (IsOf (object_kind marked) body y.0)) (ok_is (entries.Held held, v.0.1) x v.2)
    (subst (λ (t : List ℕ). Takes bytes t v.0.1 (IsOf (object_kind marked) body (entries.Held held))) text
    (takes_weaker (λ (h : IsLawfulHead 1 a.0.0 × ((((1 ≤ b.0.0) × (b.0.0 ≤ LONGEST_KEY)) × ((length c.0.0 ≡ b.0.0) × (key_fault c.0.0 ≡ None))) × (Within × ((length v.0.0 ≡ f.0.0) × (value_fault v.0.0 ≡ None))))).
    record {
      lawful = record { table = h.0.table; version = h.0.version; client = h.0.client; seq = h.0.seq; key = h.1.0.1.1; value = h.1.1.1.1 };
      kind_is = object_kind_is marked v.0.0 (rw value_len h.1.1.0.0) (rw value_len h.1.1.0.1);
      body_is = object_body body b.0.0 d.0.0 (length c.0.0) (length v.0.0) (cond marked MARK_BYTES 0) (mark_count (object_kind marked)) g.0 key_len value_len (object_mark marked);
    }) all))

-- a refusal that is read is lawful and spelled so
pub refused_takes : (body : ℕ) (bytes : List ℕ) (x : Entry × List ℕ) → read_refused body bytes ≡ Ok x → Takes bytes (fields_bytes x.0) x.1 (IsOf kinds.Refused body x.0)
unfolding read_refused refused_bytes key_bytes
refused_takes body bytes x e =
    let a = bind_ok (read_head 0 bytes) e in
    let w = bind_ok (read_why a.0.0.version a.0.1) a.2 in
    let b = bind_ok (read_key_length w.0.1) w.2 in
    let c = bind_ok (where_body_is (REFUSED_BYTES + b.0.0) body b.0) b.2 in
    let g = known (REFUSED_BYTES + b.0.0) body c.1 in
    let d = bind_ok (read_key c.0.0 c.0.1) c.2 in
    let len : length d.0.0 ≡ b.0.0 = key_counts c.0.0 c.0.1 d.0 d.1 ∙ ap (λ (y : ℕ × List ℕ). y.0) (sym g.1) in
    let refused : Refused = record { table = a.0.0.table; found = a.0.0.version; client = a.0.0.client; seq = a.0.0.seq; absent = w.0.0; key = d.0.0 } in
    let count : Takes w.0.1 (number_bytes w8 b.0.0) c.0.1 ((1 ≤ b.0.0) × (b.0.0 ≤ LONGEST_KEY)) =
    subst (λ (rest : List ℕ). Takes w.0.1 (number_bytes w8 b.0.0) rest ((1 ≤ b.0.0) × (b.0.0 ≤ LONGEST_KEY))) (ap (λ (y : ℕ × List ℕ). y.1) g.1) (key_length_takes w.0.1 b.0 b.1) in
    let all = takes_both (head_takes 0 bytes a.0 a.1) (takes_both (why_takes a.0.0.version a.0.1 w.0 w.1) (takes_both count (key_takes c.0.0 c.0.1 d.0 d.1))) in
    let text : head_bytes a.0.0 ++ (number_bytes w8 (why_number w.0.0) ++ (number_bytes w8 b.0.0 ++ d.0.0)) ≡ fields_bytes (entries.Refused refused) =
    ap (λ (n : ℕ). head_bytes a.0.0 ++ (number_bytes w8 (why_number w.0.0) ++ (number_bytes w8 n ++ d.0.0))) (sym len) in
    subst (λ (y : Entry × List ℕ). Takes bytes (fields_bytes y.0) y.1 (IsOf kinds.Refused body y.0)) (ok_is (entries.Refused refused, d.0.1) x d.2)
    (subst (λ (t : List ℕ). Takes bytes t d.0.1 (IsOf kinds.Refused body (entries.Refused refused))) text
    (takes_weaker (λ (h : IsLawfulHead 0 a.0.0 × ((IsTrue w.0.0 → a.0.0.version ≡ 0) × (((1 ≤ b.0.0) × (b.0.0 ≤ LONGEST_KEY)) × ((length d.0.0 ≡ c.0.0) × (key_fault d.0.0 ≡ None))))).
    record {
      lawful = record { table = h.0.table; found = h.0.version; client = h.0.client; seq = h.0.seq; none_found = h.1.0; key = h.1.1.1.1 };
      kind_is = refl;
      body_is = refused_body body b.0.0 (length d.0.0) g.0 len;
    }) all))

-- ends that came with a tablet and are read are lawful and spelled so
pub carried_takes : (body : ℕ) (bytes : List ℕ) (x : Entry × List ℕ) → read_carried body bytes ≡ Ok x → Takes bytes (fields_bytes x.0) x.1 (IsOf kinds.Carried body x.0)
unfolding read_carried carried_bytes
carried_takes body bytes x e =
    let a = bind_ok (read_range bytes) e in
    let t = bind_ok (read_from w64 1 a.0.1) a.2 in
    let f = bind_ok (read_from w64 1 t.0.1) t.2 in
    let b = bind_ok (read_number w16 f.0.1) f.2 in
    let c = bind_ok (where_body_is (CARRIED_BYTES + END_BYTES * b.0.0) body b.0) b.2 in
    let g = known (CARRIED_BYTES + END_BYTES * b.0.0) body c.1 in
    let d = bind_ok (read_ends c.0.0 0 [] c.0.1) c.2 in
    let ends = ends_take c.0.0 0 [] c.0.1 d.0 d.1 in
    let all_is : d.0.0 ≡ ends.more = ends.whole in
    let len : length ends.more ≡ b.0.0 = ends.counted ∙ ap (λ (y : ℕ × List ℕ). y.0) (sym g.1) in
    let carried : Carried = record { range = a.0.0; term = t.0.0; floor = f.0.0; ends = ends.more } in
    let count : Takes f.0.1 (number_bytes w16 b.0.0) c.0.1 (b.0.0 < 256 ^ 2) =
    subst (λ (rest : List ℕ). Takes f.0.1 (number_bytes w16 b.0.0) rest (b.0.0 < 256 ^ 2)) (ap (λ (y : ℕ × List ℕ). y.1) g.1) (number_takes w16 wide16 f.0.1 b.0 b.1) in
    let all = takes_both (range_takes bytes a.0 a.1) (takes_both (from_takes w64 wide64 1 a.0.1 t.0 t.1) (takes_both (from_takes w64 wide64 1 t.0.1 f.0 f.1) (takes_both count ends.taken))) in
    let text : range_bytes a.0.0 ++ (number_bytes w64 t.0.0 ++ (number_bytes w64 f.0.0 ++ (number_bytes w16 b.0.0 ++ ends_bytes ends.more))) ≡ fields_bytes (entries.Carried carried) =
    ap (λ (n : ℕ). range_bytes a.0.0 ++ (number_bytes w64 t.0.0 ++ (number_bytes w64 f.0.0 ++ (number_bytes w16 n ++ ends_bytes ends.more)))) (sym len) in
    let with_ends : List Ended → Entry × List ℕ = λ ends. (entries.Carried (record { range = a.0.0; term = t.0.0; floor = f.0.0; ends = ends }), d.0.1) in
    let made : with_ends ends.more ≡ x = subst (λ (ends : List Ended). with_ends ends ≡ x) all_is (ok_is (with_ends d.0.0) x d.2) in
    subst (λ (y : Entry × List ℕ). Takes bytes (fields_bytes y.0) y.1 (IsOf kinds.Carried body y.0)) made
    (subst (λ (t : List ℕ). Takes bytes t d.0.1 (IsOf kinds.Carried body (entries.Carried carried))) text
    (takes_weaker (λ (h : IsLawfulRange a.0.0 × (IsNumber w64 1 t.0.0 × (IsNumber w64 1 f.0.0 × ((b.0.0 < 256 ^ 2) × (AllByRecursion IsLawfulEnd ends.more × RiseAbove 0 ends.more))))).
    record {
      lawful = record { range = h.0; term = h.1.0; floor = h.1.1.0; few = ends_few b.0.0 (length ends.more) h.1.1.1.0 len; each = h.1.1.1.1.0; rising = h.1.1.1.1.1 };
      kind_is = refl;
      body_is = carried_body body b.0.0 (length ends.more) g.0 len;
    }) all))

-- side segments that became part of the log and are read are lawful and spelled so
pub joined_takes : (body : ℕ) (bytes : List ℕ) (x : Entry × List ℕ) → body ≤ LONGEST_BODY → read_joined body bytes ≡ Ok x → Takes bytes (fields_bytes x.0) x.1 (IsOf kinds.Joined body x.0)
unfolding read_joined joined_bytes IsDistinct
joined_takes body bytes x within e =
    let a = bind_ok (read_range bytes) e in
    let t = bind_ok (read_from w64 1 a.0.1) a.2 in
    let b = bind_ok (read_number w32 t.0.1) t.2 in
    let c = bind_ok (where_body_is (JOINED_BYTES + SEGMENT_NUMBER_BYTES * b.0.0) body b.0) b.2 in
    let g = known (JOINED_BYTES + SEGMENT_NUMBER_BYTES * b.0.0) body c.1 in
    let d = bind_ok (read_segments c.0.0 [] c.0.1) c.2 in
    let segments = segments_take c.0.0 [] c.0.1 d.0 d.1 in
    let all_is : d.0.0 ≡ segments.more = segments.whole in
    let len : length segments.more ≡ b.0.0 = segments.counted ∙ ap (λ (y : ℕ × List ℕ). y.0) (sym g.1) in
    let distinct : IsDistinct eqb segments.more = subst (λ (all : List ℕ). IsDistinct eqb all) all_is (segments.distinct tt) in
    let joined : Joined = record { range = a.0.0; term = t.0.0; segments = segments.more } in
    let count : Takes t.0.1 (number_bytes w32 b.0.0) c.0.1 (b.0.0 < 256 ^ 4) =
    subst (λ (rest : List ℕ). Takes t.0.1 (number_bytes w32 b.0.0) rest (b.0.0 < 256 ^ 4)) (ap (λ (y : ℕ × List ℕ). y.1) g.1) (number_takes w32 wide32 t.0.1 b.0 b.1) in
    let all = takes_both (range_takes bytes a.0 a.1) (takes_both (from_takes w64 wide64 1 a.0.1 t.0 t.1) (takes_both count segments.taken)) in
    let text : range_bytes a.0.0 ++ (number_bytes w64 t.0.0 ++ (number_bytes w32 b.0.0 ++ segments_bytes segments.more)) ≡ fields_bytes (entries.Joined joined) =
    ap (λ (n : ℕ). range_bytes a.0.0 ++ (number_bytes w64 t.0.0 ++ (number_bytes w32 n ++ segments_bytes segments.more))) (sym len) in
    let with_segments : List ℕ → Entry × List ℕ = λ segments. (entries.Joined (record { range = a.0.0; term = t.0.0; segments = segments }), d.0.1) in
    let made : with_segments segments.more ≡ x = subst (λ (segments : List ℕ). with_segments segments ≡ x) all_is (ok_is (with_segments d.0.0) x d.2) in
    subst (λ (y : Entry × List ℕ). Takes bytes (fields_bytes y.0) y.1 (IsOf kinds.Joined body y.0)) made
    (subst (λ (t : List ℕ). Takes bytes t d.0.1 (IsOf kinds.Joined body (entries.Joined joined))) text
    (takes_weaker (λ (h : IsLawfulRange a.0.0 × (IsNumber w64 1 t.0.0 × ((b.0.0 < 256 ^ 4) × AllByRecursion (IsNumber w32 FIRST_SIDE_SEGMENT) segments.more))).
    record {
      lawful = record { range = h.0; term = h.1.0; few = segments_few body b.0.0 (length segments.more) within g.0 len; each = h.1.1.1; distinct = distinct };
      kind_is = refl;
      body_is = joined_body body b.0.0 (length segments.more) g.0 len;
    }) all))

-- the fields of an entry of any kind
pub fields_take : (kind : Kind) (body : ℕ) (bytes : List ℕ) (x : Entry × List ℕ) → body ≤ LONGEST_BODY → read_fields kind body bytes ≡ Ok x → Takes bytes (fields_bytes x.0) x.1 (IsOf kind body x.0)
fields_take kinds.Object body bytes x within e = object_takes false body bytes x e
fields_take kinds.Tombstone body bytes x within e = tombstone_takes body bytes x e
fields_take kinds.Refused body bytes x within e = refused_takes body bytes x e
fields_take kinds.Carried body bytes x within e = carried_takes body bytes x e
fields_take kinds.Joined body bytes x within e = joined_takes body bytes x within e
fields_take kinds.LongObject body bytes x within e = object_takes true body bytes x e
