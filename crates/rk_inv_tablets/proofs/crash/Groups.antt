-- The main segments of a log are spelled by groups of its entries, one behind the other, and each entry ends where it does in its group.
use Rattle.std.proofs.Common.{◌≡◌, ℕ, suc, ◌+◌, ◌-◌, ◌<◌, List, [], ◌∷◌, ◌++◌, length, map, set, refl, sym, ap, ◌∙◌, arith, append_assoc}
use Rattle.std.proofs.Common.{length-append, flat_map, append-nil}
use Rattle.rk_inv_base.proofs.Words.{cond_both, get_or_push, length-map, map-append, flat_map-append, spelled, Entry, room_some, has_room}
use Rattle.rk_inv_base.proofs.Words.{in_last, with_bytes, cut, end_of, ends_after, ends, EntryEnd}
use Rattle.rk_inv_tablets.proofs.Words.{last_of, cut_after, set-append_seam}
use Rattle.rk_entry.specs.Entries.{spelled_all}
pub use Rattle.rk_log.proofs.CutLaws.{spelled_one}

-- ---- spellings

pub spelled_none : spelled_all [] ≡ []
unfolding spelled_all
spelled_none = refl

pub spelled_first : (entry : Entry) (list : List Entry) → spelled_all (entry ∷ list) ≡ spelled entry ++ spelled_all list
unfolding spelled_all
spelled_first entry list = refl

pub spelled_both : (list more : List Entry) → spelled_all (list ++ more) ≡ spelled_all list ++ spelled_all more
unfolding spelled_all
spelled_both list more = flat_map-append spelled list more

-- ---- groups

-- where the entries of a segment end, behind so many bytes
abbrev pub ends_in : ℕ → ℕ → List Entry → List EntryEnd
ends_in segment offset [] = []
ends_in segment offset (entry ∷ list) =
    record { segment = segment; offset = offset + length (spelled entry) } ∷ ends_in segment (offset + length (spelled entry)) list

-- where those of segments end, which count from this number
abbrev pub group_ends : ℕ → List (List Entry) → List EntryEnd
group_ends first [] = []
group_ends first (group ∷ groups) = ends_in first 0 group ++ group_ends (suc first) groups

-- segments are spelled by groups of these entries, which end there
pub record AreGroups (segments : List (List ℕ)) (list : List Entry) (places : List EntryEnd) : Type 0 where
  pub groups : List (List Entry)
  pub spelled_are : segments ≡ map spelled_all groups
  pub list_is : flat_map (λ group. group) groups ≡ list
  pub places_are : group_ends 1 groups ≡ places

-- one more entry at the end of a group
ends_push : (segment offset : ℕ) (list : List Entry) (entry : Entry) → ends_in segment offset (list ++ entry ∷ []) ≡ ends_in segment offset list ++ record { segment = segment; offset = offset + length (spelled_all list) + length (spelled entry) } ∷ []
ends_push segment offset [] entry = grind (arith, spelled, spelled_none)
ends_push segment offset (first ∷ list) entry =
    let next : ℕ = offset + length (spelled first) in
    let at : next + length (spelled_all list) + length (spelled entry) ≡ offset + length (spelled_all (first ∷ list)) + length (spelled entry) =
    omega (arith, ap length (spelled_first first list), length-append (spelled first) (spelled_all list)) in
    ap (λ (places : List EntryEnd). record { segment = segment; offset = next } ∷ places)
    (ends_push segment next list entry
    ∙ ap (λ (n : ℕ). ends_in segment next list ++ record { segment = segment; offset = n } ∷ []) at)

-- and one more group
groups_push : (first : ℕ) (groups : List (List Entry)) (group : List Entry) → group_ends first (groups ++ group ∷ []) ≡ group_ends first groups ++ ends_in (first + length groups) 0 group
groups_push first [] group = grind (arith, append-nil)
groups_push first (here ∷ groups) group = grind (arith, append_assoc, (groups_push (suc first) groups group))

-- some things have a last one
record HasLast {X : Type 0} (xs : List X) : Type 0 where
  front : List X
  last : X
  parts : xs ≡ front ++ last ∷ []

last_there : {X : Type 0} (xs : List X) → 0 < length xs → HasLast xs
last_there [] some = absurd (omega (arith, some))
last_there (x ∷ []) some = record { front = []; last = x; parts = refl }
last_there {X} (x ∷ y ∷ xs) some =
    let rest = last_there (y ∷ xs) (omega arith) in
    record { front = x ∷ rest.front; last = rest.last; parts = ap (λ (more : List X). x ∷ more) rest.parts }

-- the last segment of some, and these with more bytes there
last_is : (front : List (List ℕ)) (bytes : List ℕ) → last_of (front ++ bytes ∷ []) ≡ bytes
last_is front bytes = get_or_push front bytes [] (length (front ++ bytes ∷ []) - 1) (omega (arith, length-append front (bytes ∷ [])))

more_last : (front : List (List ℕ)) (bytes more : List ℕ) → in_last (front ++ bytes ∷ []) more ≡ front ++ (bytes ++ more) ∷ []
more_last front bytes more =
    let at : length (front ++ bytes ∷ []) - 1 ≡ length front = omega (arith, length-append front (bytes ∷ [])) in
    (λ i. set (front ++ bytes ∷ []) (at i) (last_is front bytes i ++ more))
    ∙ set-append_seam front bytes [] (bytes ++ more)

-- where segments end that have this last one
end_is : (front : List (List ℕ)) (bytes : List ℕ) (count size : ℕ) → 1 + length front ≡ count → length bytes ≡ size → end_of (front ++ bytes ∷ []) ≡ record { segment = count; offset = size }
end_is front bytes count size counted sized = grind (arith, length-append, last_is)

module _ (segments : List (List ℕ)) (list : List Entry) (places : List EntryEnd) (entry : Entry) (old : AreGroups segments list places) where
  -- segments with the entry are spelled by groups that have it last
  abbrev HaveIt : List (List ℕ) → Type 0
  HaveIt now = AreGroups now (list ++ entry ∷ []) (places ++ end_of now ∷ [])

  -- it is a group of its own
  alone : HaveIt (segments ++ spelled entry ∷ [])
  alone =
      let counted : 1 + length segments ≡ 1 + length old.groups = omega (arith, ap length old.spelled_are, length-map old.groups spelled_all) in
      let place : end_of (segments ++ spelled entry ∷ []) ≡ record { segment = 1 + length old.groups; offset = length (spelled entry) } =
      end_is segments (spelled entry) (1 + length old.groups) (length (spelled entry)) counted refl in
      let none : 0 + length (spelled entry) ≡ length (spelled entry) = omega arith in
      record {
        groups = old.groups ++ (entry ∷ []) ∷ [];
        spelled_are = grind (arith, spelled_one, map-append, old.spelled_are, old.groups);
        list_is = grind (arith, flat_map-append, old.groups, old.list_is);
        places_are = grind (arith, groups_push, old.groups, old.places_are);
      }

  -- or it is of the last one
  behind : 0 < length segments → HaveIt (in_last segments (spelled entry))
  behind some =
      let some_groups : 0 < length old.groups = omega (arith, some, ap length old.spelled_are, length-map old.groups spelled_all) in
      let parts = last_there old.groups some_groups in
      let front : List (List ℕ) = map spelled_all parts.front in
      let size : ℕ = length (spelled_all parts.last) + length (spelled entry) in
      let count : ℕ = 1 + length parts.front in
      let were : segments ≡ front ++ spelled_all parts.last ∷ [] =
      old.spelled_are ∙ ap (map spelled_all) parts.parts ∙ map-append spelled_all parts.front (parts.last ∷ []) in
      let are : in_last segments (spelled entry) ≡ front ++ (spelled_all parts.last ++ spelled entry) ∷ [] =
      ap (λ (s : List (List ℕ)). in_last s (spelled entry)) were ∙ more_last front (spelled_all parts.last) (spelled entry) in
      let counted : 1 + length front ≡ count = omega (arith, length-map parts.front spelled_all) in
      let sized : length (spelled_all parts.last ++ spelled entry) ≡ size = length-append (spelled_all parts.last) (spelled entry) in
      let place : end_of (in_last segments (spelled entry)) ≡ record { segment = count; offset = size } =
      ap end_of are ∙ end_is front (spelled_all parts.last ++ spelled entry) count size counted sized in
      let none : 0 + length (spelled_all parts.last) + length (spelled entry) ≡ size = omega arith in
      let whole : spelled_all (parts.last ++ entry ∷ []) ≡ spelled_all parts.last ++ spelled entry =
      spelled_both parts.last (entry ∷ []) ∙ ap (λ (bytes : List ℕ). spelled_all parts.last ++ bytes) (spelled_one entry) in
      let all : flat_map (λ (group : List Entry). group) parts.front ++ parts.last ≡ list =
      ap (λ (more : List Entry). flat_map (λ (group : List Entry). group) parts.front ++ more) (sym (append-nil parts.last))
      ∙ sym (flat_map-append (λ (group : List Entry). group) parts.front (parts.last ∷ []))
      ∙ ap (flat_map (λ (group : List Entry). group)) (sym parts.parts)
      ∙ old.list_is in
      let before : group_ends 1 parts.front ++ ends_in count 0 parts.last ≡ places =
      sym (groups_push 1 parts.front parts.last) ∙ ap (group_ends 1) (sym parts.parts) ∙ old.places_are in
      record {
        groups = parts.front ++ (parts.last ++ entry ∷ []) ∷ [];
        spelled_are = grind (arith, map-append, parts.front, parts.last);
        list_is = grind (arith, flat_map-append, append-nil, append_assoc, parts.front, parts.last);
        places_are = grind (arith, groups_push, ends_push, append_assoc, parts.front, parts.last);
      }

  with_it : HaveIt (with_bytes segments (spelled entry))
  with_it = grind (arith, cond_both, has_room, spelled, in_last, behind, room_some, alone)

-- groups of the same
groups_same : (segments : List (List ℕ)) (list list' : List Entry) (places places' : List EntryEnd) → list ≡ list' → places ≡ places' → AreGroups segments list places → AreGroups segments list' places'
groups_same segments list list' places places' same also old = grind arith

groups_after : (segments : List (List ℕ)) (list : List Entry) (places : List EntryEnd) (more : List Entry) → AreGroups segments list places → AreGroups (cut_after segments more) (list ++ more) (places ++ ends_after segments more)
groups_after segments list places [] old = grind (arith, groups_same, append-nil)
groups_after segments list places (entry ∷ more) old =
    let now : List (List ℕ) = with_bytes segments (spelled entry) in
    groups_same (cut_after now more) ((list ++ entry ∷ []) ++ more) (list ++ entry ∷ more) ((places ++ end_of now ∷ []) ++ ends_after now more)
    (places ++ end_of now ∷ ends_after now more) (append_assoc list (entry ∷ []) more)
    (append_assoc places (end_of now ∷ []) (ends_after now more))
    (groups_after now (list ++ entry ∷ []) (places ++ end_of now ∷ []) more (with_it segments list places entry old))

-- so are those of a log
pub cut_groups : (list : List Entry) → AreGroups (cut list) list (ends list)
cut_groups list = groups_after [] [] [] list (record { groups = []; spelled_are = refl; list_is = refl; places_are = refl })
