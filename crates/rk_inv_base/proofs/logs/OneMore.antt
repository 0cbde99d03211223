-- One more entry at the end of a master's log: what counts of logs, what backups store of them and what has to be read of them stays as it
-- was, but for the range that the entry is of.
use Rattle.rk_inv_base.proofs.Words.{◌≡◌, ℕ, ◌≤◌, max, true, false, List, [], ◌∷◌, ◌++◌, length, Some, refl, sym, ap, subst, ◌∙◌, arith}
use Rattle.rk_inv_base.proofs.Words.{All, drop, take, length-append, append-nil, All-head, All-tail, cond-false, false≢true, IsPlaced}
use Rattle.rk_inv_base.proofs.Words.{last_of, take-append-le, meets, Member, Range, Entry, lineage_of, Row, Log, with_entry, unmarked_from}
use Rattle.rk_inv_base.proofs.Words.{counting, counts, touches, log_material, named_by, is_joined_in, Written, applied_entries}
use Rattle.rk_inv_base.proofs.Words.{member_truth, member_rest, member_material, lineage_rest, rest_of, stored_of, MarkedFit, READ_BACKUP}
use Rattle.rk_inv_base.proofs.Words.{TellNoMore, marked_entries, member_marked, member_stored, stored_count, put, with_one_more, View}
use Rattle.rk_inv_base.proofs.Words.{truths, rests, LogsOf, truth_of}
use Rattle.rk_entry.specs.declared.entry.Entry.TheVariants as entries
use Rattle.rk_inv_base.proofs.Base.{put_by, truth_by, truth_is, applied_within, Extends, counting_extends, extends_behind, stored_push}
use Rattle.rk_inv_base.proofs.Base.{take_extends, tells_extended, material_outside, rest_inside, rest_outside, NeedNoMore, needed_grown}

-- an entry is of other ranges than this
pub record IsBeside (range : Range) (entry : Entry) : Type 0 where
  pub uncounted : counts range entry ≡ false
  pub untouched : touches range entry ≡ false

-- so it names no side segment for it, and is no Joined of it
pub names_beside : (range : Range) (entry : Entry) → touches range entry ≡ false → named_by range entry ≡ []
names_beside range (entries.Joined joined) beside = cond-false (meets joined.range range) joined.segments [] beside
names_beside range _ beside = refl

pub joins_beside : (range : Range) (entry : Entry) → touches range entry ≡ false → is_joined_in range entry ≡ false
joins_beside range (entries.Joined joined) beside = beside
joins_beside range _ beside = refl

-- of two members of a lineage the first one does not append the entry, or it is of another range
abbrev pub FirstIsBeside : ℕ → Entry → Range → List Member → Type 0
FirstIsBeside master entry range lineage =
    (first last : Member) (more : List Member) → lineage ≡ first ∷ last ∷ more → first.master ≡ master → IsBeside range entry

-- the logs, and what masters have written, with one more entry at one of them
abbrev pub logs_with : View → ℕ → Entry → ℕ → Log
logs_with v master entry = put v.logs master (with_entry (v.logs master) entry)

abbrev pub written_with : View → ℕ → Entry → ℕ → Written
written_with v master entry = put v.written master (with_one_more (v.written master) entry)

module _ (v : View) (master : ℕ) (entry : Entry) (sound : LogsOf v) where
  abbrev logs : ℕ → Log
  logs = logs_with v master entry

  abbrev written : ℕ → Written
  written = written_with v master entry

  -- ---- logs

  pub of_log : (P : Log → Type 0) (q : ℕ) → (q ≡ master → P (with_entry (v.logs q) entry)) → ((q ≡ master → ⊥) → P (v.logs q)) → P (logs q)
  of_log P q here was = put_by v.logs master (λ log. with_entry log entry) P q here was

  pub of_written : (P : Written → Type 0) (q : ℕ) → (q ≡ master → P (with_one_more (v.written q) entry)) → ((q ≡ master → ⊥) → P (v.written q)) → P (written q)
  of_written P q here was = put_by v.written master (λ w. with_one_more w entry) P q here was

  pub known_same : (q : ℕ) → (logs q).known ≡ (v.logs q).known
  known_same q = of_log (λ (log : Log). log.known ≡ (v.logs q).known) q (λ at. refl) (λ apart. refl)

  pub applied_same : (q : ℕ) → (written q).applied ≡ (v.written q).applied
  applied_same q = of_written (λ (w : Written). w.applied ≡ (v.written q).applied) q (λ at. refl) (λ apart. refl)

  pub longer : (q : ℕ) → length (v.written q).entries ≤ length (written q).entries
  longer q = grind (arith, of_written, length-append)

  -- what is applied is in the log, and so are the marked pieces
  pub within : (q : ℕ) → (v.written q).applied ≤ length (v.written q).entries
  within q = applied_within (v.logs q) (v.written q) _ (sound.each q)

  pub marked : (q : ℕ) → All (λ mark. mark.past ≤ length (v.written q).entries) (v.written q).marks
  marked q = (sound.each q).marked

  -- ---- what counts

  -- what is applied counts as before
  pub truth_same : (range : Range) (member : Member) → member_truth written range member ≡ member_truth v.written range member
  truth_same range member = grind (arith, of_written, log_material, applied_entries, member_truth, take-append-le, within)

  -- so does what a member has written, unless the member appends, and the entry is of the range
  pub material_same : (range : Range) (member : Member) → (member.master ≡ master → IsBeside range entry) → member_material written range member ≡ member_material v.written range member
  material_same range member beside =
      of_written
      (λ (w : Written). log_material range w.marks w.sides member.from w.entries ≡ member_material v.written range member) member.master
      (λ at.
      let w : Written = v.written member.master in
      material_outside range entry (beside at).uncounted w.marks w.sides member.from w.entries (names_beside range entry (beside at).untouched))
      (λ apart. refl)

  pub rest_same : (range : Range) (member : Member) → (member.master ≡ master → counts range entry ≡ false) → member_rest written range member ≡ member_rest v.written range member
  rest_same range member beside = grind (arith, of_written, counting, unmarked_from, max, member_rest, rest_outside)

  -- the truth of each row is as before, and the rest of each one for which the entry does not count
  pub truth_at : (x : Row) → truth_of v.base written x ≡ truths v x
  truth_at x =
      truth_is v.base written x.range (lineage_of x.phase)
      ∙ ap (λ (sure : Range → Member → List Entry). truth_by v.base sure x.range (lineage_of x.phase)) (λ j range member. truth_same range member j)
      ∙ sym (truth_is v.base v.written x.range (lineage_of x.phase))

  lineage_same : (range : Range) (members : List Member) → counts range entry ≡ false → lineage_rest written range members ≡ lineage_rest v.written range members
  lineage_same range [] beside = refl
  lineage_same range (member ∷ []) beside = rest_same range member (λ at. beside)
  lineage_same range (member ∷ next ∷ more) beside = lineage_same range (next ∷ more) beside

  pub rest_at : (x : Row) → counts x.range entry ≡ false → rest_of written x ≡ rests v x
  rest_at x beside = lineage_same x.range (lineage_of x.phase) beside

  -- the rest of a row whose lineage ends with the master has the entry at its end, if it counts
  pub lineage_grown : (range : Range) (members : List Member) (last : Member) → All (IsPlaced v.written) members → last_of members ≡ Some last → last.master ≡ master → counts range entry ≡ true → lineage_rest written range members ≡ lineage_rest v.written range members ++ entry ∷ []
  lineage_grown range [] last placed is here has = absurd (cc is)
  lineage_grown range (member ∷ []) last placed is here has =
      let same : member ≡ last = cc is in
      let from : member.from ≤ length (v.written member.master).entries = All-head (IsPlaced v.written) member [] placed in
      of_written
      (λ (w : Written). counting range (unmarked_from w.marks (max member.from w.applied) w.entries)
      ≡ member_rest v.written range member ++ entry ∷ [])
      member.master
      (λ _.
      let w : Written = v.written member.master in
      let fits = within member.master in
      rest_inside range entry has w.marks (max member.from w.applied) w.entries (marked member.master) (omega (arith, from, fits)))
      (λ apart. absurd (apart (ap (λ (m : Member). m.master) same ∙ here)))
  lineage_grown range (member ∷ next ∷ more) last placed is here has =
      lineage_grown range (next ∷ more) last (All-tail (IsPlaced v.written) member (next ∷ more) placed) is here has

  -- ---- what a dead member marked, if the master that appends lives

  module _ (lives : v.live master ≡ true) where
    pub dead_apart : (q : ℕ) → v.live q ≡ false → q ≡ master → ⊥
    dead_apart q dead at = false≢true (sym dead ∙ ap v.live at ∙ lives)

    -- no more is needed of a dead master
    pub needs_no_more : NeedNoMore v.written written v.live
    needs_no_more x lineage q dead = needed_grown v.written master entry marked x lineage q (dead_apart q dead)

    marked_dead : (range : Range) (member : Member) → v.live member.master ≡ false → member_marked written range member ≡ member_marked v.written range member
    marked_dead range member dead =
        of_written
        (λ (w : Written). counting range (marked_entries w.marks member.from (drop member.from w.entries)) ≡ member_marked v.written range member)
        member.master (λ at. absurd (dead_apart member.master dead at)) (λ apart. refl)

    material_dead : (range : Range) (member : Member) → v.live member.master ≡ false → member_material written range member ≡ member_material v.written range member
    material_dead range member dead = material_same range member (λ at. absurd (dead_apart member.master dead at))

    -- what a backup stores of a member only grows
    stored_after : (range : Range) (member : Member) → Extends (member_stored v.logs v.written v.stored range member) (member_stored logs written v.stored range member)
    stored_after range member =
        let q : ℕ = member.master in
        let count : Log → ℕ = λ (log : Log). stored_count log (stored_of v.stored q READ_BACKUP) in
        let counted : Log → Written → List Entry = λ (log : Log) (w : Written).
        counting range (unmarked_from w.marks member.from (take (count log) w.entries)) in
        let log : Log = v.logs q in
        let w : Written = v.written q in
        let Grown : Log → Written → Type 0 = λ (l : Log) (x : Written). Extends (counted log w) (counted l x) in
        of_log (λ (l : Log). Grown l (written q)) q
        (λ at.
        of_written (Grown (with_entry log entry)) q
        (λ _.
        counting_extends range w.marks member.from (take (count log) w.entries)
        (take (count (with_entry log entry)) (w.entries ++ entry ∷ []))
        (take_extends (count log) (count (with_entry log entry)) w.entries (entry ∷ [])
        (stored_push log entry (stored_of v.stored q READ_BACKUP))))
        (λ apart. absurd (apart at)))
        (λ apart. of_written (Grown log) q (λ at. absurd (apart at)) (λ _. record { more = []; parts = sym (append-nil (counted log w)) }))

    -- what dead members wrote for a rebuild records no more than before
    pub marked_on : (range : Range) (lineage : List Member) → FirstIsBeside master entry range lineage → MarkedFit v.logs v.written v.stored v.live range lineage → MarkedFit logs written v.stored v.live range lineage
    marked_on range [] first fit = tt
    marked_on range (only ∷ []) first fit = λ dead. rw (marked_dead range only dead, material_dead range only dead) (fit dead)
    marked_on range (one ∷ last ∷ more) first fit =
        let was : List Entry = member_stored v.logs v.written v.stored range last in
        let new : List Entry = member_stored logs written v.stored range last in
        let own : List Entry = member_material v.written range one in
        let material : member_material written range one ≡ own = material_same range one (first one last more refl) in (
          λ dead.
              subst (λ (list : List Entry). TellNoMore list (member_material written range one ++ new)) (sym (marked_dead range one dead))
              (rw material (tells_extended (member_marked v.written range one) (own ++ was) (own ++ new)
              (extends_behind own was new (stored_after range last)) (fit.0 dead))),
          λ dead.
              rw (marked_dead range last dead, material, material_dead range last dead) (fit.1 dead),
        )
