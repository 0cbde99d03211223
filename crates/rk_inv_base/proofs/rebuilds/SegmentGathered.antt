-- A rebuild may go on when it gathers the segment that it awaits, if what was read is a first part of what is stored that holds all
-- that its master knew to be stored, and all that is needed.
use Rattle.rk_inv_base.proofs.Words.{◌≡◌, ℕ, ◌<◌, ◌≤◌, Bool, true, false, List, [], ◌∷◌, ◌++◌, length, refl, sym, ap, ◌∙◌, subst}
use Rattle.rk_inv_base.proofs.Words.{arith, not, ◌==◌, Contains, ltb-true, lt-ltb, length-append, cases_lt, or_right, get_or_past}
use Rattle.rk_inv_base.proofs.Words.{All-weaker, Member, Entry, FIRST_SIDE_SEGMENT, Phase, Rebuilding, Row, Known, known_length, nothing}
use Rattle.rk_inv_base.proofs.Words.{IsBackup, Log, bytes_of, known_of, EntryEnd, CopySegment, Gather, is_member, names, IsMaster, Written}
use Rattle.rk_inv_base.proofs.Words.{member_material, Mark, IsCopy, is_main, stored_of, IsGathered, IsReadPart, MarkFits, MarkedFit}
use Rattle.rk_inv_base.proofs.Words.{NeededOf, READ_BACKUP, member_given_up, member_marked, member_stored, stored_count, IsFormed, View}
use Rattle.rk_inv_base.proofs.Words.{SoundView, with_segment, IsGatherOf, GathersOn, MayGather, MayGatherOn, reading}
use Rattle.rk_outside.specs.Segments.{bytes_of as read_bytes}
use Rattle.rk_inv_base.proofs.Base.{NeedsFew, NoneBehind, members_read, read_apart, same_member, same_members, segment_read, same_number}
use Rattle.rk_inv_base.proofs.Base.{AreAmong, IsStoredEnd, among_then, end_stored, given_up_among, living_among, needed_member}
use Rattle.rk_inv_base.proofs.Base.{needed_within, tells_among, bytes_before, row_in, IsRebuiltIn}

-- if nothing of a main segment is known to be stored in a copy, it stores nothing of a later one
pub copy_none_stored : (log : Log) (stored : ℕ → List ℕ) (known : Known) → IsCopy log stored known → (earlier later : ℕ) → 1 ≤ earlier → earlier < later → is_main later ≡ true → known_length known earlier ≡ 0 → 0 < length (stored later) → ⊥
copy_none_stored log stored known copy earlier later some before main none filled =
    let front = copy.front later in
    let there : 0 < length (bytes_of log later) = omega (arith, filled, ap length front.parts, length-append (stored later) front.more) in
    let less : later < FIRST_SIDE_SEGMENT = ltb-true later FIRST_SIDE_SEGMENT main in
    let sort : is_main earlier ≡ is_main later = lt-ltb earlier FIRST_SIDE_SEGMENT (omega arith) ∙ sym main in
    let whole : length (bytes_of log earlier) ≤ known_length known earlier =
    copy.in_order later (λ empty. omega (arith, filled, ap length empty)) earlier before sort in
    omega (arith, whole, none, bytes_before log earlier later some before less there)

-- so it is of each master
pub none_behind : (v : View) → SoundView v → (master : ℕ) → NoneBehind (known_of (v.logs master) READ_BACKUP)
none_behind v sound master =
    grind (arith, stored_of, known_of, known_length, get_or_past, nothing, cases_lt, copy_none_stored, v.logs, sound.logs.each, v.stored)

-- ---- what is needed

module _ (v : View) (row : Row) (lineage : List Member) (own : ℕ) (sound : SoundView v) (has : Contains v.rows row) (is : row.phase ≡ Rebuilding lineage own) where
  -- the own entries of the first of two members, and what backup 1 stores of the last
  abbrev told_of : Member → Member → List Entry
  told_of first last = member_material v.written row.range first ++ member_stored v.logs v.written v.stored row.range last

  -- these record what the first one has of given up rebuilds
  given_up_told : (first last : Member) → MarkedFit v.logs v.written v.stored v.live row.range (first ∷ last ∷ []) → AreAmong (member_given_up v.written row first) (told_of first last)
  given_up_told first last fit = go (v.live first.master) refl
    where
      go : (b : Bool) → v.live first.master ≡ b → AreAmong (member_given_up v.written row first) (told_of first last)
      go false dead =
          among_then (member_given_up v.written row first) (member_marked v.written row.range first) (told_of first last)
          (given_up_among row first.from (v.written first.master))
          (tells_among (member_marked v.written row.range first) (told_of first last) (fit.0 dead))
      go true lives =
          let Fits : Mark → Type 0 = λ mark.
          MarkFits row first.master (v.handovers first.master row.tablet) (v.live first.master) (v.written first.master) mark in
          living_among row first.from (v.written first.master) (told_of first last)
          (All-weaker (λ (mark : Mark). mark.tablet ≡ row.tablet → Fits mark) (λ (mark : Mark). mark.tablet ≡ row.tablet → mark.term ≡ row.term)
          (λ (mark : Mark) fits its. let told = fits its in told.present lives) (v.written first.master).marks
          ((row_in v sound row has).rebuilds.marks first.master))

  -- so backup 1 stores what is needed
  pub needed_stored : (members : List Member) → MarkedFit v.logs v.written v.stored v.live row.range members → (q : ℕ) (end : EntryEnd) → NeededOf row v.written members q end → IsStoredEnd (stored_of v.stored q READ_BACKUP) end
  needed_stored (first ∷ last ∷ []) fit q end needed =
      let w : Written = v.written last.master in
      let log : Log = v.logs last.master in
      let stored : ℕ → List ℕ = stored_of v.stored last.master READ_BACKUP in
      let needs = needed.1 in
      let kept = sound.logs.each last.master in
      subst (λ (n : ℕ). IsStoredEnd (stored_of v.stored n READ_BACKUP) end) needed.0
      (end_stored log w stored needs.place end kept.entries_are
      (needed_within row.range (member_given_up v.written row first) (member_material v.written row.range first) last.from w needs.place
      needs.entry (stored_count log stored) needs.needed (given_up_told first last fit))
      needs.ends_there)
  needed_stored _ fit q end needed = absurd needed

  -- each member is there, and knows of backup 1
  member_backed : (q : ℕ) → is_member lineage q ≡ true → IsBackup (v.logs q) READ_BACKUP
  member_backed q member =
      let named : names row.phase q ≡ true → IsMaster v.masters q =
      (row_in v sound row has).nodes q in
      let there : IsMaster v.masters q =
      named (ap (λ (phase : Phase). names phase q) is ∙ or_right (own == q) (is_member lineage q) member) in
      record { first = omega arith; last = omega (arith, sound.nodes.known q there, sound.nodes.backed) }

  -- nothing that is needed is behind a segment of which nothing is known
  needs_few : MarkedFit v.logs v.written v.stored v.live row.range lineage → (q : ℕ) → NeedsFew (NeededOf row v.written lineage q) (known_of (v.logs q) READ_BACKUP)
  needs_few fit q = record {
    some = λ end needed. let stored = needed_stored lineage fit q end needed in stored.some;
    behind = λ end needed earlier one before main none.
        let kept = sound.logs.each q in
        let stored = needed_stored lineage fit q end needed in
        let copy = kept.copies READ_BACKUP (member_backed q (needed_member row v.written lineage q end needed)) in
        copy_none_stored (v.logs q) (stored_of v.stored q READ_BACKUP) (known_of (v.logs q) READ_BACKUP) copy earlier end.segment one before main none
        (omega (arith, stored.some, stored.there));
  }

-- what is gathered for a row goes on
pub goes_on : (v : View) (row : Row) (lineage : List Member) (own : ℕ) (copy : CopySegment) → SoundView v → Contains v.rows row → row.phase ≡ Rebuilding lineage own → (v.handovers own row.tablet).term ≡ row.term
    → MayGather v own row.tablet copy.master copy.segment copy.bytes → GathersOn v row lineage own (reading copy (v.gathers own row.tablet))
goes_on v row lineage own copy sound has phase term may =
    let gather : Gather = v.gathers own row.tablet in
    let known : ℕ → Known = λ q. known_of (v.logs q) READ_BACKUP in
    let stored : ℕ → ℕ → List ℕ = λ q. stored_of v.stored q READ_BACKUP in
    let rebuilt : IsRebuiltIn v row (Rebuilding lineage own) = subst (IsRebuiltIn v row) phase (row_in v sound row has).rebuilds.rebuilt in
    let was = rebuilt.0 term in
    let old : IsGatherOf gather row.range lineage own = was.gather in
    let Needed : ℕ → EntryEnd → Type 0 = NeededOf row v.written lineage in
    let same : may.row ≡ row = same_number v.rows may.row row sound.rows.apart may.has_row has may.tablet_is in
    let part : IsReadPart (Needed copy.master) (known copy.master) (stored copy.master) copy.segment (read_bytes copy.bytes) =
    subst (λ (members : List Member). IsReadPart (NeededOf row v.written members copy.master) (known copy.master) (stored copy.master) copy.segment (read_bytes copy.bytes))
    old.lineage_is
    (subst
    (λ (r : Row). IsReadPart (NeededOf r v.written gather.lineage copy.master) (known copy.master) (stored copy.master) copy.segment (read_bytes copy.bytes))
    same may.read) in
    let apart = subst IsFormed phase (row_in v sound row has).rows.formed in
    record {
      gathering = may.gathering;
      gather = assumption (same_members gather.range copy.master copy.segment copy.bytes gather.members ∙ old.members_are);
      read =
          members_read gather.range copy.master copy.segment copy.bytes
          (λ gathered. IsGathered (Needed gathered.member.master) (known gathered.member.master) (stored gathered.member.master) gathered)
          (λ gathered at next fits.
          subst
          (λ (m : Member). IsGathered (Needed m.master) (known m.master) (stored m.master) (with_segment gathered copy.segment copy.bytes))
          (sym (same_member gathered copy.segment copy.bytes))
          (segment_read (Needed gathered.member.master) (known gathered.member.master) (stored gathered.member.master) gathered copy.segment
          (needs_few v row lineage own sound has phase rebuilt.1 gathered.member.master) fits gather.range copy.bytes
          (none_behind v sound gathered.member.master) next
          (subst (λ (m : ℕ). IsReadPart (Needed m) (known m) (stored m) copy.segment (read_bytes copy.bytes)) (sym at) part)))
          gather.members (read_apart lineage (λ member. not (member.master == own)) gather.members apart old.members_are) may.awaited was.read;
    }

-- it may go on for each row that the master rebuilds
pub may_go_on : (v : View) (own : ℕ) (copy : CopySegment) → SoundView v → MayGather v own copy.tenure.tablet copy.master copy.segment copy.bytes → MayGatherOn v own copy.tenure.tablet (reading copy)
may_go_on v own copy sound may row lineage has its phase term =
    goes_on v row lineage own copy sound has phase term
    (subst (λ (n : ℕ). MayGather v own n copy.master copy.segment copy.bytes) (sym its) may)
