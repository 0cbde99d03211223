-- What a living master may send on its turn for a tablet: it asks its source for what it lacks, reads the next segment of a rebuild, and
-- reports to the coordinator that it has joined or rebuilt the tablet.
use Rattle.std.proofs.Common.{arith, All, Contains, List, None, Some, [], ap, eq-eqb, false, filter, inl, inr, is_some, map, not}
use Rattle.std.proofs.Common.{option_map, refl, sym, true, ℕ, ◌<◌, ◌==◌, ◌∙◌, ◌∷◌, ◌≡◌, ◌≤◌}
use Rattle.rk_message.specs.declared.message.Body.TheVariants as bodies
use Rattle.rk_transfer.specs.declared.role.Role.TheVariants as roles
use Rattle.rk_types.specs.declared.node.Node.TheVariants as nodes
use Rattle.rk_inv_base.proofs.Words.{AfterMove, All-contains, All-head, All-tail, All-weaker, AskAgrees, Gathered, Handover, HandoverFits}
use Rattle.rk_inv_base.proofs.Words.{IsOf, MaySend, Member, MembersFit, Node, READ_BACKUP, Range, ReadIn, ReadSegment, Reading, Rebuilding}
use Rattle.rk_inv_base.proofs.Words.{Role, Row, SoundView, Tenure, Token, View, cases_Bool, is_absent, is_granted}
use Rattle.rk_inv_base.proofs.Words.{lineage_of, list_any_at, next_of, next_reading, next_segment, option_or, post_of, reading_of, row_of}
use Rattle.rk_inv_events.proofs.Words.{all_by, role_fits, row_in, row_rebuilt, by_found}
use Rattle.rk_inv_events.proofs.events.PostsOf.{gathering_row, Fits, former_member, joined_in, rebuilt_in, receiving_moves}
use Rattle.rk_inv_events.proofs.events.Coordinating.{tested}
use Rattle.rk_inv_events.proofs.events.Sending.{may_send}

-- what is read next is of one of the members
record IsOfMember (Q : Member → Type 0) (master : ℕ) : Type 0 where
  member : Member
  has : Q member
  master_is : member.master ≡ master

next_of_member : (Q : Member → Type 0) (range : Range) (members : List Gathered) (reading : Reading) → All Q (map (λ gathered. gathered.member) members)
    → next_of range members ≡ Some reading → IsOfMember Q reading.master
next_of_member Q range [] reading all is = absurd (cc is)
next_of_member Q range (gathered ∷ others) reading all is =
    by_found
    (λ segment. option_or (option_map (reading_of gathered) segment) (next_of range others) ≡ Some reading → IsOfMember Q reading.master)
    (next_segment range gathered)
    (λ none found. next_of_member Q range others reading (All-tail Q gathered.member (map (λ g. g.member) others) all) found)
    (λ segment at found.
    let same : reading_of gathered segment ≡ reading = cc found in
    record {
      member = gathered.member;
      has = All-head Q gathered.member (map (λ g. g.member) others) all;
      master_is = ap (λ (r : Reading). r.master) same;
    }) is

-- of a lineage, the members that are not this master
others_of : (Q : Member → Type 0) (master : ℕ) (lineage : List Member) → All (λ member. (member.master ≡ master → ⊥) → Q member) lineage
    → All Q (filter (λ member. not (member.master == master)) lineage)
others_of Q master lineage all =
    All-weaker (λ member. ((member.master ≡ master → ⊥) → Q member) × (not (member.master == master) ≡ true)) Q
    (λ member both. both.0 (λ same. absurd (cc (both.1, eq-eqb member.master master same))))
    (filter (λ member. not (member.master == master)) lineage)
    (tested (λ member. (member.master ≡ master → ⊥) → Q member) (λ member. not (member.master == master)) lineage all)

-- ---- a tablet of a living master

module _ (v : View) (sound : SoundView v) (master number : ℕ) (lives : v.live master ≡ true) where
  abbrev handover : Handover
  handover = v.handovers master number

  abbrev pub tenure : Tenure
  tenure = record { tablet = number; term = handover.term }

  -- the role fits its post beside the row of the tablet
  pub fits_as : (role : Role) → handover.role ≡ role → (row : Row) → Contains v.rows row → number ≡ row.tablet
      → Fits (post_of row.phase master) role row.term handover.term (v.written master).applied
  fits_as role is row stands same = grind (arith, post_of, role_fits)

  -- its term is at most that of the tablet's row
  pub within : (row : Row) → Contains v.rows row → row.tablet ≡ number → handover.term ≤ row.term
  within row stands = (All-contains (λ r. HandoverFits r number handover) v.rows row (sound.terms.kept master number) stands).within

  pub known : (role : Role) → handover.role ≡ role → is_absent role ≡ false → is_some (row_of v.rows number) ≡ true
  known role is present = sound.roles.known master number lives (ap is_absent is ∙ present)

  -- ---- a target pulls

  module _ (is : handover.role ≡ roles.Receiving) where
    abbrev source : Node
    source = nodes.Master (v.pullings master number).source

    -- what it asks for goes to its source
    asks : (row : Row) → Contains v.rows row → AskAgrees row v.handovers (lineage_of row.phase) master source tenure
    asks row stands = by_lineage (lineage_of row.phase) (row_in v sound row stands).receives.target
      where
        by_lineage : (lineage : List Member) → MembersFit row v.written v.handovers v.pullings v.records v.handed lineage
            → AskAgrees row v.handovers lineage master source tenure
        by_lineage (first ∷ last ∷ []) fit = λ own its.
            let granted : is_granted (v.handovers last.master row.tablet).role ≡ true =
            ap (λ (m : ℕ). is_granted (v.handovers m row.tablet).role) own
            ∙ ap (λ (n : ℕ). is_granted (v.handovers master n).role) (sym its.tablet) ∙ ap is_granted is in
            ap nodes.Master
            (ap (λ (n : ℕ). (v.pullings master n).source) its.tablet
            ∙ ap (λ (m : ℕ). (v.pullings m row.tablet).source) (sym own) ∙ (fit granted).from_source)
        by_lineage _ fit = tt

    -- and the row moves, if it keeps its term
    moves : (row : Row) → Contains v.rows row → AfterMove row tenure
    moves row stands its = receiving_moves master row.term handover.term (v.written master).applied its.term row.phase
        (fits_as roles.Receiving is row stands its.tablet)

    pub may_pull : (token : Token)
        → MaySend v (record { from = nodes.Master master; to = source; body = bodies.Pull (record { tenure = tenure; token = token }) })
    may_pull token = may_send v (nodes.Master master) source (bodies.Pull (record { tenure = tenure; token = token })) (λ row. refl)
        (known roles.Receiving is refl, tt)
        (λ row stands. (record { within = within row stands; below = tt }, (moves row stands, asks row stands))) (tt, tt, tt)

    pub may_want : (hashes : List ℕ)
        → MaySend v (record { from = nodes.Master master; to = source; body = bodies.Want (record { tenure = tenure; hashes = hashes }) })
    may_want hashes = may_send v (nodes.Master master) source (bodies.Want (record { tenure = tenure; hashes = hashes })) (λ row. refl)
        (known roles.Receiving is refl, tt)
        (λ row stands. (record { within = within row stands; below = tt }, (moves row stands, asks row stands))) (tt, tt, tt)

  -- ---- it has joined, or rebuilt the tablet

  -- a Joined of a target whose closing entry is applied
  pub may_tell_joined : (entry : ℕ) → handover.role ≡ roles.Joining (Some entry) → entry < (v.written master).applied
      → MaySend v (record { from = nodes.Master master; to = nodes.Coordinator; body = bodies.Joined tenure })
  may_tell_joined entry is closed = grind (arith, may_send, known, within, joined_in, fits_as)

  -- a Rebuilt of a master that merged, and whose closing entry is applied
  pub may_tell_rebuilt : (place entry : ℕ) → handover.role ≡ roles.Rebuilding place (Some entry) → entry < (v.written master).applied
      → MaySend v
      (record {
        from = nodes.Master master;
        to = nodes.Coordinator;
        body = bodies.Rebuilt
            (record { tenure = tenure; place = place; ends = v.merged master number });
      })
  may_tell_rebuilt place entry is closed = grind (arith, may_send, known, within, rebuilt_in, fits_as)

  -- ---- it reads on

  module _ (place : ℕ) (is : handover.role ≡ roles.Rebuilding place None) (reading : Reading)
      (next : next_reading (v.gathers master number) ≡ Some reading) where
    abbrev IsDead : Member → Type 0
    IsDead member = v.live member.master ≡ false

    -- a member of a row that this master rebuilds, but itself, is dead
    others_dead : (row : Row) → Contains v.rows row → (lineage : List Member) → row.phase ≡ Rebuilding lineage master
        → All (λ member. (member.master ≡ master → ⊥) → IsDead member) lineage
    others_dead row stands lineage phase_is = all_by (λ member. (member.master ≡ master → ⊥) → IsDead member) lineage
        (λ member at differs. elim (cases_Bool (v.live member.master)) [
          | inl live ↦
              absurd
              (former_member lineage master member.master row.term (v.handovers member.master row.tablet).term
              (v.written member.master).applied (v.handovers member.master row.tablet).role (λ same. differs (sym same))
              (list_any_at (λ (m : Member). m.master == member.master) lineage at.0 member at.1
              (ap (λ (m : Member). m.master == member.master) at.2 ∙ eq-eqb member.master member.master refl))
              (rw phase_is at (role_fits v sound row stands member.master (inl live))))
          | inr dead ↦ dead
        ])

    abbrev read : ReadSegment
    read = record { tenure = tenure; master = reading.master; segment = reading.segment }

    -- so what is read is of a dead master's log
    reads_in : (row : Row) → Contains v.rows row → IsOf row tenure → ReadIn row.phase v.live (nodes.Backup READ_BACKUP) read
    reads_in row stands its =
        let own =
        gathering_row master place row.term handover.term (v.written master).applied row.phase
        (fits_as (roles.Rebuilding place None) is row stands its.tablet) in
        let rebuilder =
        (rw own.phase_is at (row_rebuilt v sound row stands)).0 (ap (λ (n : ℕ). (v.handovers master n).term) (sym its.tablet) ∙ its.term) in
        let members : All IsDead (map (λ gathered. gathered.member) (v.gathers master row.tablet).members) =
        rw rebuilder.gather.members_are (others_of IsDead master own.lineage (others_dead row stands own.lineage own.phase_is)) in
        let found =
        next_of_member IsDead (v.gathers master row.tablet).range (v.gathers master row.tablet).members reading members
        (ap (λ (n : ℕ). next_reading (v.gathers master n)) (sym its.tablet) ∙ next) in
        rw own.phase_is (refl, ap v.live (sym found.master_is) ∙ found.has)

    -- a Read of the next segment
    pub may_read_segment : MaySend v (record { from = nodes.Master master; to = nodes.Backup READ_BACKUP; body = bodies.Read read })
    may_read_segment = may_send v (nodes.Master master) (nodes.Backup READ_BACKUP) (bodies.Read read) (λ row. refl)
        (known (roles.Rebuilding place None) is refl, tt)
        (λ row stands. (record { within = within row stands; below = tt }, λ its. reads_in row stands its)) (tt, tt, tt)
