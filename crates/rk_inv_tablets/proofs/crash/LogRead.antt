-- What a rebuild gathered of a member is what the member wrote: its main segments give first entries of the log, each of which backup 1
-- stores, and each side segment items of it.
use Rattle.std.proofs.Common.{◌≡◌, ℕ, zero, suc, ◌+◌, ◌-◌, ◌<◌, ◌≤◌, true, false, List, [], ◌∷◌, length, get_or, map, Option, Some, None}
use Rattle.std.proofs.Common.{refl, sym, ap, subst, ◌∙◌, ⊎_elim, arith, nat_lt, unwrap_or, All, Contains, flat_map, lt-ltb, le-ltb}
use Rattle.rk_inv_base.proofs.Words.{cases_lt, cond-false, false≢true, get_or_past, All-map, Contains-append_left, list_all, option_map_or}
use Rattle.rk_inv_base.proofs.Words.{get, Held, NumberedBytes, entries_of, spelled_all, IsLawfulEntry, IsLawfulHeld, Entry}
use Rattle.rk_inv_base.proofs.Words.{FIRST_SIDE_SEGMENT, cut, ends, Known, is_whole, known_length, IsBackup, Log, bytes_of, is_side_stored}
use Rattle.rk_inv_base.proofs.Words.{known_of, EntryEnd, Gathered, LAST_MAIN_SEGMENT, side_read, as_entries, side_entries, Written, IsCopy}
use Rattle.rk_inv_base.proofs.Words.{IsLog, AreRead, IsGathered, READ_BACKUP}
use Rattle.rk_inv_tablets.proofs.Words.{first_part_more, bytes_in, bytes_main, bytes_side, numbered_at, numbered_before, numbered_past}
use Rattle.rk_inv_wellformed.proofs.maps.Lists.{all_given}
use Rattle.rk_entry.specs.declared.entry.Entry.TheVariants as entries
use Rattle.rk_inv_tablets.proofs.crash.FirstRead.{AreFirstStored, IsPartRead, first_read, segments_read}
use Rattle.rk_inv_tablets.proofs.crash.Groups.{cut_groups, spelled_none}

-- what holds of each thing of all lists holds of each of one
pub all_groups : {X : Type 0} (P : X → Type 0) (groups : List (List X)) → All P (flat_map (λ group. group) groups) → All (All P) groups
all_groups P groups all = all_given P (λ group. group) groups all

-- the list at a place, the empty one behind all
pub all_at : {X : Type 0} (P : X → Type 0) (groups : List (List X)) (k : ℕ) → All (All P) groups → All P (get_or groups k [])
all_at {X} P groups k all = grind (arith, get_or_past, cases_lt)

-- the bytes of a group
pub spelled_at : (groups : List (List Entry)) (k : ℕ) → get_or (map spelled_all groups) k [] ≡ spelled_all (get_or groups k [])
spelled_at [] k = sym spelled_none
spelled_at (group ∷ groups) zero = refl
spelled_at (group ∷ groups) (suc k) = spelled_at groups k

-- the bytes of a list of items
pub items_at : (sides : List (List Held)) (k : ℕ) → get_or (map (λ (items : List Held). spelled_all (as_entries items)) sides) k [] ≡ spelled_all (as_entries (get_or sides k []))
items_at [] k = sym spelled_none
items_at (items ∷ sides) zero = refl
items_at (items ∷ sides) (suc k) = items_at sides k

module _ (log : Log) (w : Written) (stored : ℕ → ℕ → List ℕ) (kept : IsLog log w stored) (backed : IsBackup log READ_BACKUP) (few : length (cut log.entries) < FIRST_SIDE_SEGMENT) where
  abbrev its : ℕ → List ℕ
  its = stored READ_BACKUP

  abbrev known : Known
  known = known_of log READ_BACKUP

  pub copy : IsCopy log (stored READ_BACKUP) (known_of log READ_BACKUP)
  copy = kept.copies READ_BACKUP backed

  module _ (Needed : EntryEnd → Type 0) (gathered : Gathered) (read : IsGathered Needed (known_of log READ_BACKUP) (stored READ_BACKUP) gathered) where
    -- ---- main segments

    -- a main segment by the group of entries that spells it
    pub group_of : (k segment : ℕ) → 1 + k ≡ segment → segment < FIRST_SIDE_SEGMENT → (groups : List (List Entry)) → cut log.entries ≡ map spelled_all groups → bytes_of log segment ≡ spelled_all (get_or groups k [])
    group_of k segment is main groups are =
        let at : segment - 1 ≡ k = omega (arith, is) in
        bytes_main log segment (omega (arith, is)) main
        ∙ ap (λ (n : ℕ). get_or (cut log.entries) n []) at
        ∙ ap (λ (segments : List (List ℕ)). get_or segments k []) are
        ∙ spelled_at groups k

    part_read : length gathered.main ≤ LAST_MAIN_SEGMENT → (groups : List (List Entry)) → cut log.entries ≡ map spelled_all groups → (k segment : ℕ) → 1 + k ≡ segment → k < length gathered.main → IsPartRead (known_length known) its segment (get_or groups k []) (get_or gathered.main k [])
    part_read fits groups are k segment is within =
        let at : k + 1 ≡ segment = omega (arith, is) in
        let main : segment < FIRST_SIDE_SEGMENT = omega (arith, is, within, fits) in
        let one : AreRead Needed known its segment (get_or gathered.main k []) =
        rw (← at) (read.main k within) in
        let group = group_of k segment is main groups are in
        record {
          bytes = one.bytes;
          read_is = one.spelled;
          front = one.read.front;
          copied = rw (← group) (copy.front segment);
          enough = one.read.enough;
          in_order = λ later behind mains some.
              rw (← group) (copy.in_order later some segment behind (lt-ltb segment FIRST_SIDE_SEGMENT main ∙ sym mains));
        }

    -- what was read of main segments are first entries of the log, each of which is stored
    pub main_read : length gathered.main ≤ LAST_MAIN_SEGMENT → All IsLawfulEntry log.entries → AreFirstStored its log.entries (ends log.entries) (flat_map (λ list. list) gathered.main)
    main_read fits lawful =
        let groups = cut_groups log.entries in
        subst
        (λ (list : List Entry). AreFirstStored its list (ends log.entries) (flat_map (λ list. list) gathered.main)) groups.list_is
        (subst
        (λ (places : List EntryEnd). AreFirstStored its (flat_map (λ group. group) groups.groups) places (flat_map (λ list. list) gathered.main))
        groups.places_are
        (segments_read (known_length known) its 1 groups.groups gathered.main
        (all_groups IsLawfulEntry groups.groups (rw groups.list_is lawful))
        (part_read fits groups.groups groups.spelled_are)
        (λ n below. lt-ltb n FIRST_SIDE_SEGMENT (omega (arith, below, fits)))))

    -- ---- side segments

    -- a side segment that is stored has the number of one
    pub side_number : (number : ℕ) → is_side_stored log number ≡ true → FIRST_SIDE_SEGMENT ≤ number
    side_number number stands =
        ⊎_elim
        (λ (less : number < FIRST_SIDE_SEGMENT).
        absurd (false≢true
        (sym (ap (λ (found : Option NumberedBytes). option_map_or (λ segment. list_all (λ known. is_whole known segment) log.known) found false)
        (numbered_before number FIRST_SIDE_SEGMENT log.sides less))
        ∙ stands)))
        (λ (side : FIRST_SIDE_SEGMENT ≤ number). side)
        (cases_lt number FIRST_SIDE_SEGMENT)

    -- its bytes spell its items
    side_bytes : (number : ℕ) → FIRST_SIDE_SEGMENT ≤ number → bytes_of log number ≡ spelled_all (as_entries (get_or w.sides (number - FIRST_SIDE_SEGMENT) []))
    side_bytes number side =
        let k : ℕ = number - FIRST_SIDE_SEGMENT in
        bytes_side log number few side
        ∙ ⊎_elim
        (λ (within : k < length log.sides). ap bytes_in (numbered_at number FIRST_SIDE_SEGMENT k log.sides (omega (arith, side)) within))
        (λ (past : length log.sides ≤ k).
        ap bytes_in (numbered_past number FIRST_SIDE_SEGMENT log.sides (omega (arith, past, side))) ∙ sym (get_or_past log.sides k [] past))
        (cases_lt k (length log.sides))
        ∙ ap (λ (sides : List (List ℕ)). get_or sides k []) kept.spelled
        ∙ items_at w.sides k

    -- what was read of it are entries of it
    pub side_stands : All IsLawfulHeld (flat_map (λ items. items) w.sides) → (number : ℕ) → FIRST_SIDE_SEGMENT ≤ number → (entry : Entry) → Contains (side_read gathered number) entry → Contains (side_entries w.sides number) entry
    side_stands lawful number side entry = go (get gathered.sides number) refl
      where
        list : List Held
        list = get_or w.sides (number - FIRST_SIDE_SEGMENT) []

        its_entries : side_entries w.sides number ≡ as_entries list
        its_entries = cond-false (nat_lt number FIRST_SIDE_SEGMENT) [] (as_entries list) (le-ltb number FIRST_SIDE_SEGMENT side)

        spelt : All IsLawfulEntry (as_entries list)
        spelt = All-map IsLawfulEntry entries.Held list (all_at IsLawfulHeld w.sides (number - FIRST_SIDE_SEGMENT) (all_groups IsLawfulHeld w.sides lawful))

        go : (found : Option (List Entry)) → get gathered.sides number ≡ found → Contains (unwrap_or found []) entry → Contains (side_entries w.sides number) entry
        go None is at = absurd (omega (arith, at.1))
        go (Some of) is at =
            let one = read.sides number of is in
            let part = first_part_more one.bytes (its number) (bytes_of log number) one.read.front (copy.front number) in
            let first = first_read (as_entries list) one.bytes part.more spelt (sym (side_bytes number side) ∙ part.parts) in
            rw (its_entries ∙ first.parts) (Contains-append_left (entries_of one.bytes) first.more entry (rw (← one.spelled) at))
