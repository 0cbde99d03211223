-- The law of copies: of what backups store, and are known to store, rows and messages speak only when the log of a dead master is read. So
-- a view stays sound when backups store more, and dead masters knew as much of it.
use Rattle.rk_inv_base.proofs.Words.{◌≡◌, ℕ, ◌≤◌, Bool, true, false, List, [], ◌∷◌, ◌++◌, length, map, sym, ap, ◌∙◌, subst, arith}
use Rattle.rk_inv_base.proofs.Words.{length-append, ◌==◌, not, nat_le, slice_index_or, take, All, Contains, append-nil, eq-eqb, le-leb}
use Rattle.rk_inv_base.proofs.Words.{leb-true, refl, Some, ◌<◌, All-cons, All-filter, All-head, All-nil, All-tail, false≢true}
use Rattle.rk_inv_base.proofs.Words.{filter_passes, list_any_at, Member, Node, Range, Segments, Entry, Phase, Rebuilding, Row, ends, Known}
use Rattle.rk_inv_base.proofs.Words.{Log, known_of, EntryEnd, Body, CopySegment, Gathered, is_member, member_material, IsFirstPart}
use Rattle.rk_inv_base.proofs.Words.{stored_of, CopyIn, IsGathered, IsReadPart, MarkedFit, NeededOf, READ_BACKUP, member_marked}
use Rattle.rk_inv_base.proofs.Words.{member_stored, stored_count, View, truths, LogsOf, SoundView, IsMaster, Message, get, Contains-get_or}
use Rattle.rk_inv_base.proofs.Words.{false_from_ne_true, prefix_len_weaker, AreGathered}
use Rattle.rk_message.specs.declared.message.Body.TheVariants as bodies
use Rattle.rk_outside.specs.Segments.{bytes_of as stored_bytes}
use Rattle.rk_inv_base.proofs.Base.{Extends, counting_extends, extends_behind, take_extends, tells_extended, first_part_more, IsRebuilderIn}
use Rattle.rk_inv_base.proofs.Base.{former_gone, gathered_by, IsRebuiltIn, SaysIn}

pub first_part_length : (bytes whole : List ℕ) → IsFirstPart bytes whole → length bytes ≤ length whole
first_part_length bytes whole front = rw front.parts (omega (arith, length-append bytes front.more))

-- a part that was read is one of what is stored then
pub part_stored : (Needed : EntryEnd → Type 0) (known : Known) (stored stored' : ℕ → List ℕ) (more : (segment : ℕ) → IsFirstPart (stored segment) (stored' segment)) (segment : ℕ) (bytes : List ℕ) → IsReadPart Needed known stored segment bytes → IsReadPart Needed known stored' segment bytes
part_stored Needed known stored stored' more segment bytes part =
    assumption (first_part_more bytes (stored segment) (stored' segment) part.front (more segment))

-- ---- who is read

-- what holds of the members of what is gathered
pub members_by : (P : Member → Type 0) (members : List Gathered) → All P (map (λ gathered. gathered.member) members) → All (λ gathered. P gathered.member) members
members_by P [] all = All-nil _
members_by P (gathered ∷ members) all =
    let others : List Member = map (λ g. g.member) members in
    All-cons (λ (g : Gathered). P g.member) gathered members (All-head P gathered.member others all)
    (members_by P members (All-tail P gathered.member others all))

-- each member of a lineage is one
pub each_member : (lineage : List Member) → All (λ member. is_member lineage member.master ≡ true) lineage
each_member lineage k d within = grind (arith, slice_index_or, list_any_at, eq-eqb)

-- no fewer first entries are stored if more is stored of each segment
pub count_more : (log : Log) (stored stored' : ℕ → List ℕ) → ((segment : ℕ) → IsFirstPart (stored segment) (stored' segment)) → stored_count log stored ≤ stored_count log stored'
count_more log stored stored' more = grind (arith, prefix_len_weaker, nat_le, length, ends, leb-true, first_part_length, le-leb)

-- ---- the law

-- logs may be others of the same entries, and backups may store other bytes, if the part of logs holds of them, backup 1 stores no less of
-- any log, and what a dead master knew of it stays
pub record MayCopy (v : View) (logs : ℕ → Log) (stored : ℕ → Segments) : Type 0 where
  pub fit : LogsOf (record v { logs = logs; stored = stored })
  pub backups : (q : ℕ) → length (logs q).known ≡ length (v.logs q).known
  pub entries : (q : ℕ) → (logs q).entries ≡ (v.logs q).entries
  pub more : (q segment : ℕ) → IsFirstPart (stored_of v.stored q READ_BACKUP segment) (stored_of stored q READ_BACKUP segment)
  pub known : (q : ℕ) → v.live q ≡ false → known_of (v.logs q) READ_BACKUP ≡ known_of (logs q) READ_BACKUP

module _ (v : View) (logs : ℕ → Log) (stored : ℕ → Segments) (sound : SoundView v) (may : MayCopy v logs stored) where
  abbrev now : View
  now = record v { logs = logs; stored = stored }

  -- what backup 1 stores of a member records no less
  stored_more : (range : Range) (member : Member) → Extends (member_stored v.logs v.written v.stored range member) (member_stored logs v.written stored range member)
  stored_more range member =
      let q : ℕ = member.master in
      let list : List Entry = (v.written q).entries in
      let few : ℕ = stored_count (v.logs q) (stored_of v.stored q READ_BACKUP) in
      let many : ℕ = stored_count (logs q) (stored_of stored q READ_BACKUP) in
      let rises : few ≤ many =
      rw (may.entries q) (count_more (v.logs q) (stored_of v.stored q READ_BACKUP) (stored_of stored q READ_BACKUP) (may.more q)) in
      counting_extends range (v.written q).marks member.from (take few list) (take many list)
      (subst (λ (all : List Entry). Extends (take few list) (take many all)) (append-nil list) (take_extends few many list [] rises))

  marked : (range : Range) (lineage : List Member) → MarkedFit v.logs v.written v.stored v.live range lineage → MarkedFit logs v.written stored v.live range lineage
  marked range (first ∷ last ∷ others) fit =
      let own : List Entry = member_material v.written range first in
      let few : List Entry = member_stored v.logs v.written v.stored range last in
      let many : List Entry = member_stored logs v.written stored range last in (
        λ dead.
            tells_extended (member_marked v.written range first) (own ++ few) (own ++ many)
            (extends_behind own few many (stored_more range last)) (fit.0 dead),
        fit.1,
      )
  marked range _ fit = fit

  -- a master that rebuilds a row reads dead masters alone
  abbrev IsRebuilderOf : View → Row → List Member → ℕ → Type 0
  IsRebuilderOf w row lineage to =
      IsRebuilderIn w.logs v.written w.stored row lineage to (truths v row) (v.handovers to row.tablet) (v.completions to row.tablet)
      (v.gathers to row.tablet) (v.merged to row.tablet) (v.records to)

  rebuilder : (row : Row) → Contains v.rows row → (lineage : List Member) (to : ℕ) → row.phase ≡ Rebuilding lineage to → IsRebuilderOf v row lineage to → IsRebuilderOf now row lineage to
  rebuilder row has lineage to is was =
      let away : Member → Bool = λ (member : Member). not (member.master == to) in
      let members : List Gathered = (v.gathers to row.tablet).members in
      let others : All (λ gathered. away gathered.member ≡ true) members =
      members_by (λ member. away member ≡ true) members
      (subst (All (λ (member : Member). away member ≡ true)) (sym was.gather.members_are) (filter_passes away lineage)) in
      let ours : All (λ gathered. is_member lineage gathered.member.master ≡ true) members =
      members_by (λ member. is_member lineage member.master ≡ true) members
      (subst (All (λ (member : Member). is_member lineage member.master ≡ true)) (sym was.gather.members_are)
      (All-filter away (λ (member : Member). is_member lineage member.master ≡ true) lineage (each_member lineage))) in
      let read : AreGathered (NeededOf row v.written lineage) (λ q. known_of (logs q) READ_BACKUP) (λ q. stored_of stored q READ_BACKUP) members = λ k d within.
      let gathered : Gathered = slice_index_or members k d in
      let q : ℕ = gathered.member.master in
      let dead : v.live q ≡ false =
      false_from_ne_true (v.live q)
      (λ lives.
      former_gone v sound.roles row has lineage to q is lives (λ own. false≢true (sym (ap not (eq-eqb q to own)) ∙ others k d within))
      (ours k d within)) in
      subst (λ (known : Known). IsGathered (NeededOf row v.written lineage q) known (stored_of stored q READ_BACKUP) gathered)
      (may.known q dead)
      (gathered_by (NeededOf row v.written lineage q) (NeededOf row v.written lineage q) (known_of (v.logs q) READ_BACKUP)
      (known_of (v.logs q) READ_BACKUP) (stored_of v.stored q READ_BACKUP) (stored_of stored q READ_BACKUP)
      (part_stored (NeededOf row v.written lineage q) (known_of (v.logs q) READ_BACKUP) (stored_of v.stored q READ_BACKUP)
      (stored_of stored q READ_BACKUP) (may.more q))
      (λ _ none. none) (λ _ its. its) gathered (was.read k d within)) in
      assumption

  rebuilt : (row : Row) → Contains v.rows row → (phase : Phase) → row.phase ≡ phase → IsRebuiltIn v row phase → IsRebuiltIn now row phase
  rebuilt row has (Rebuilding lineage to) is fit = (λ term. rebuilder row has lineage to is (fit.0 term), marked row.range lineage fit.1)
  rebuilt row has _ is fit = tt

  -- a Copy is of the log of a dead master
  copy_says : (row : Row) (phase : Phase) (copy : CopySegment) → CopyIn row phase v.logs v.written v.stored v.live copy → CopyIn row phase logs v.written stored v.live copy
  copy_says row (Rebuilding lineage to) copy says =
      let q : ℕ = copy.master in (
        says.0,
        subst
            (λ (known : Known).
            IsReadPart (NeededOf row v.written lineage q) known (stored_of stored q READ_BACKUP) copy.segment (stored_bytes copy.bytes))
            (may.known q says.0)
            (part_stored (NeededOf row v.written lineage q) (known_of (v.logs q) READ_BACKUP) (stored_of v.stored q READ_BACKUP)
            (stored_of stored q READ_BACKUP) (may.more q) copy.segment (stored_bytes copy.bytes) says.1),
      )
  copy_says row phase copy says = says

  says : (row : Row) (from to : Node) (body : Body) → SaysIn v row from to body → SaysIn now row from to body
  says row from to (bodies.Copy copy) said = λ is. copy_says row row.phase copy (said is)
  says row from to body said = said

  pub view_with_copies : SoundView now
  view_with_copies =
      let rebuilds : All (λ row. IsRebuiltIn now row row.phase) v.rows = λ k d within.
      rebuilt _ (Contains-get_or v.rows k d within) _ refl (sound.rebuilds.rebuilt k d within) in
      assumption (
        λ (q : ℕ) (there : IsMaster v.masters q). may.backups q ∙ sound.nodes.known q there,
        λ (n : ℕ) (m : Message) (there : get v.wire n ≡ Some m).
            λ (k : ℕ) (d : Row) (within : k < length v.rows). says _ m.from m.to m.body (sound.messages.of_rows n m there k d within),
      )
