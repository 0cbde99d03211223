-- What is read of a lineage's members, once the segment that was awaited is gathered: it goes to one member, and to the others nothing.
use Rattle.rk_inv_base.proofs.Words.{◌≡◌, ℕ, ◌+◌, ◌<◌, ◌≤◌, Bool, true, List, [], ◌∷◌, map, filter, length, Option, Some, None, refl, sym}
use Rattle.rk_inv_base.proofs.Words.{ap, ◌∙◌, subst, ⊎_elim, ◌⊎◌, inl, inr, arith, length-append, ◌≢◌, ◌==◌, if◌then◌else◌, All, option_map}
use Rattle.rk_inv_base.proofs.Words.{eq-eqb, ne_eqb, eqb-true, ltb-true, cases_eq, cases_lt, cond-true, cond-false, cond_both, and_parts}
use Rattle.rk_inv_base.proofs.Words.{false≢true, get_or_push, get_or_append_left, All-head, All-tail, All-cons, option_or, ⊤, each_insert}
use Rattle.rk_inv_base.proofs.Words.{Member, Range, entries_of, Known, known_length, EntryEnd, Gathered, is_awaited, next_of, next_segment}
use Rattle.rk_inv_base.proofs.Words.{reading_of, is_main, AreRead, IsGathered, IsReadPart, AreApart, next_side, with_main, with_read}
use Rattle.rk_inv_base.proofs.Words.{with_segment}
use Rattle.rk_outside.specs.Segments.{bytes_of}

-- ---- members are apart

-- none of these members is this master
abbrev pub IsAway : ℕ → List Member → Type 0
IsAway master [] = ⊤
IsAway master (member ∷ others) = (member.master ≢ master) × IsAway master others

-- the members are different masters
abbrev pub AllApart : List Member → Type 0
AllApart [] = ⊤
AllApart (member ∷ others) = IsAway member.master others × AllApart others

pub away_kept : (keep : Member → Bool) (master : ℕ) (members : List Member) → IsAway master members → IsAway master (filter keep members)
away_kept keep master [] away = tt
away_kept keep master (member ∷ others) away = grind (arith, cond_both, away.1, away.0, (away_kept keep master others away.1))

-- and so are those of them that are kept
pub kept_apart : (keep : Member → Bool) (members : List Member) → AllApart members → AllApart (filter keep members)
kept_apart keep [] apart = tt
kept_apart keep (member ∷ others) apart =
    grind (arith, cond_both, away_kept, apart.1, member.master, apart.0, (kept_apart keep others apart.1))

-- so those that are read of a lineage are apart
pub read_apart : (lineage : List Member) (keep : Member → Bool) (members : List Gathered) → AreApart lineage → map (λ gathered. gathered.member) members ≡ filter keep lineage → AllApart (map (λ gathered. gathered.member) members)
read_apart lineage keep members apart is = grind (arith, kept_apart)

-- ---- one member

pub same_member : (gathered : Gathered) (segment : ℕ) (bytes : Option (List ℕ)) → (with_segment gathered segment bytes).member ≡ gathered.member
same_member gathered segment bytes = grind (arith, cond_both, with_main)

-- nothing is known of a main segment behind one of which nothing is known
abbrev pub NoneBehind : Known → Type 0
NoneBehind known =
    (earlier later : ℕ) → 1 ≤ earlier → earlier < later → is_main later ≡ true → known_length known earlier ≡ 0
    → known_length known later ≡ 0

-- what is needed has bytes in its segment, and nothing that is needed is behind a segment of which nothing is known
pub record NeedsFew (Needed : EntryEnd → Type 0) (known : Known) : Type 0 where
  pub some : (end : EntryEnd) → Needed end → 1 ≤ end.offset
  pub behind :
      (end : EntryEnd) → Needed end → (earlier : ℕ) → 1 ≤ earlier → earlier < end.segment → is_main end.segment ≡ true
      → known_length known earlier ≡ 0 → ⊥

module _ (Needed : EntryEnd → Type 0) (known : Known) (stored : ℕ → List ℕ) (gathered : Gathered) (segment : ℕ) (few : NeedsFew Needed known) (old : IsGathered Needed known stored gathered) where
  -- its next main segment was read, or was never written
  main_gathered : (bytes : Option (List ℕ)) → NoneBehind known → length gathered.main + 1 ≡ segment → IsReadPart Needed known stored segment (bytes_of bytes) → IsGathered Needed known stored (with_main gathered bytes)
  main_gathered bytes none is part =
      grind (arith, known_length, cases_eq, get_or_append_left, entries_of, length-append, get_or_push, cases_lt, eqb-true, ltb-true)

  -- one of its segments was read, which is the next one
  pub segment_read : (range : Range) (bytes : Option (List ℕ)) → NoneBehind known → next_segment range gathered ≡ Some segment → IsReadPart Needed known stored segment (bytes_of bytes) → IsGathered Needed known stored (with_segment gathered segment bytes)
  segment_read range bytes none next part =
      cond_both gathered.main_read _ (with_main gathered bytes) (IsGathered Needed known stored)
      (λ e.
      assumption
      (each_insert (λ n entries. AreRead Needed known stored n entries) gathered.sides segment (entries_of (bytes_of bytes)) old.sides
      (record { bytes = bytes_of bytes; read = part; spelled = refl })))
      (λ e.
      let first : Some (length gathered.main + 1) ≡ Some segment =
      sym (cond-false gathered.main_read (next_side range gathered) (Some (length gathered.main + 1)) e) ∙ next in
      let is : length gathered.main + 1 ≡ segment = cc first in
      main_gathered bytes none is part)

-- ---- all members

-- there is something, or nothing
pub optional : {X : Type 0} (found : Option X) → (found ≡ None) ⊎ ((x : X) × (found ≡ Some x))
optional None = inl refl
optional (Some x) = inr (x, refl)

module _ (range : Range) (master segment : ℕ) (bytes : Option (List ℕ)) where
  -- what becomes of one member
  abbrev now : Gathered → Gathered
  now gathered = if gathered.member.master == master then with_segment gathered segment bytes else gathered

  -- the members are those that they were
  pub same_members : (members : List Gathered) → map (λ gathered. gathered.member) (with_read members master segment bytes) ≡ map (λ gathered. gathered.member) members
  same_members [] = refl
  same_members (gathered ∷ others) =
      grind (arith, cond_both, with_segment, same_member, gathered.member.master, gathered.member, (same_members others))

  -- the segment is awaited of a first one with this next segment, or of the others
  abbrev Awaits : Gathered → List Gathered → Option ℕ → Type 0
  Awaits gathered others next = is_awaited (option_or (option_map (reading_of gathered) next) (next_of range others)) master segment ≡ true

  -- nothing is awaited of a master that is none of them
  none_awaited : (members : List Gathered) → IsAway master (map (λ gathered. gathered.member) members) → is_awaited (next_of range members) master segment ≡ true → ⊥
  none_awaited [] away awaited = absurd (false≢true awaited)
  none_awaited (gathered ∷ others) away awaited =
      ⊎_elim
      (λ (none : next_segment range gathered ≡ None).
      none_awaited others away.1 (subst (Awaits gathered others) none awaited))
      (λ (some : (s : ℕ) × (next_segment range gathered ≡ Some s)).
      let here = and_parts (gathered.member.master == master) (some.0 == segment) (subst (Awaits gathered others) some.1 awaited) in
      away.0 (eqb-true gathered.member.master master here.0))
      (optional (next_segment range gathered))

  -- and nothing changes for it
  none_read : (members : List Gathered) → IsAway master (map (λ gathered. gathered.member) members) → with_read members master segment bytes ≡ members
  none_read [] away = refl
  none_read (gathered ∷ others) away =
      grind (arith, cond-false, with_segment, ne_eqb, gathered.member.master, away.0, away.1, (none_read others away.1))

  -- what holds of a member of the master holds of it once its next segment was read
  abbrev StaysFit : (Gathered → Type 0) → Type 0
  StaysFit Fits =
      (gathered : Gathered) → gathered.member.master ≡ master → next_segment range gathered ≡ Some segment → Fits gathered
      → Fits (with_segment gathered segment bytes)

  -- so what holds of each member holds of it now
  pub members_read : (Fits : Gathered → Type 0) → StaysFit Fits → (members : List Gathered) → AllApart (map (λ gathered. gathered.member) members) → is_awaited (next_of range members) master segment ≡ true → All Fits members → All Fits (with_read members master segment bytes)
  members_read Fits gives [] apart awaited old = old
  members_read Fits gives (gathered ∷ others) apart awaited old =
      let head : Fits gathered = All-head Fits gathered others old in
      let tail : All Fits others = All-tail Fits gathered others old in
      let away : gathered.member.master ≡ master → IsAway master (map (λ g. g.member) others) =
      λ at. subst (λ (m : ℕ). IsAway m (map (λ g. g.member) others)) at apart.0 in
      ⊎_elim
      (λ (none : next_segment range gathered ≡ None).
      let behind : is_awaited (next_of range others) master segment ≡ true = subst (Awaits gathered others) none awaited in
      All-cons Fits (now gathered) (with_read others master segment bytes)
      (subst Fits
      (sym (cond-false (gathered.member.master == master) (with_segment gathered segment bytes) gathered
      (ne_eqb gathered.member.master master (λ at. none_awaited others (away at) behind)))) head)
      (members_read Fits gives others apart.1 behind tail))
      (λ (some : (s : ℕ) × (next_segment range gathered ≡ Some s)).
      let here = and_parts (gathered.member.master == master) (some.0 == segment) (subst (Awaits gathered others) some.1 awaited) in
      let at : gathered.member.master ≡ master = eqb-true gathered.member.master master here.0 in
      let its : some.0 ≡ segment = eqb-true some.0 segment here.1 in
      All-cons Fits (now gathered) (with_read others master segment bytes)
      (subst Fits
      (sym (cond-true (gathered.member.master == master) (with_segment gathered segment bytes) gathered (eq-eqb gathered.member.master master at)))
      (gives gathered at (some.1 ∙ ap Some its) head))
      (subst (All Fits) (sym (none_read others (away at))) tail))
      (optional (next_segment range gathered))
