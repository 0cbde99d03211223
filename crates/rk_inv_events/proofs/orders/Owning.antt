-- A sound lane stays sound when a living master takes an Own, a Release or a Close: it serves its tablet, gives it up, or closes it, if
-- the order still applies, and else stays as it is. First what the test of an order shows, and what a master may report when it takes one.
use Rattle.std.proofs.Common.{Contains, IfSome, List, None, Option, Some, ap, arith, eq-eqb, eqb-true, false, inl, ltb-true, nat_lt, not}
use Rattle.std.proofs.Common.{refl, subst, sym, true, unwrap_or, ℕ, ⊎_elim, ◌&&◌, ◌++◌, ◌<◌, ◌==◌, ◌∙◌, ◌≡◌, ◌⊎◌}
use Rattle.rk_message.specs.declared.message.Body.TheVariants as bodies
use Rattle.rk_transfer.specs.declared.role.Role.TheVariants as roles
use Rattle.rk_types.specs.declared.node.Node.TheVariants as nodes
use Rattle.rk_inv_base.proofs.Words.{All-contains, All-weaker, AreHandedOver, CloseFits, Ended, Handover, HasSource, IsAboveKept, IsKnown}
use Rattle.rk_inv_base.proofs.Words.{IsNext, IsOf, IsSound, IsStagedEnd, Master, MaySend, Member, Message, Node, Opening, OwnFits, Phase}
use Rattle.rk_inv_base.proofs.Words.{Range, ReadyIn, Rebuilding, ReleaseFits, Role, Row, SoundView, Tablet, Tenure, Transfer, TransferIn}
use Rattle.rk_inv_base.proofs.Words.{View, Worked, World, and_parts, changed, closed, closing, cond_both, ends_of, freezing, frozen, get}
use Rattle.rk_inv_base.proofs.Words.{handed_by, has_crashed, in_role, is_frozen, is_frozen_at, is_greater, is_opening, lineage_of, list_all}
use Rattle.rk_inv_base.proofs.Words.{master_at, meets, no_tablet, own_taken, owned, owning, post_of, release_taken, released, releasing}
use Rattle.rk_inv_base.proofs.Words.{rests, role_closed, sending, speaks, tablet_at, tablet_closed, tablet_in, target_post, to_master}
use Rattle.rk_inv_base.proofs.Words.{transfer, transferring, truths, view, with_handover, with_master, without_merged, worked_at}
use Rattle.rk_inv_base.proofs.rows.Apart.{same_number}
use Rattle.rk_inv_base.proofs.Headlines.{sound_closed, sound_owned, sound_released}
use Rattle.rk_inv_events.proofs.Words.{IsClosed, MayClose, all_by, all_in_map, as_closing, as_released, as_serving, by_found, is_above}
use Rattle.rk_inv_events.proofs.Words.{master_same, role_owned, role_released, row_in, row_said, sound_frozen, tablet_here, tablet_owned}
use Rattle.rk_inv_events.proofs.Words.{tablet_released}
use Rattle.rk_inv_events.proofs.events.Pairs.{all_pass}
use Rattle.rk_inv_events.proofs.events.Duties.{fits_as, known, within}
use Rattle.rk_inv_events.proofs.events.PostsOf.{Fits, beside, gives, has_post, invited}
use Rattle.rk_inv_events.proofs.events.Sending.{Hands, may_hand, may_send}
use Rattle.rk_inv_events.proofs.events.RowsApart.{HasRow, has_row}
use Rattle.rk_inv_events.proofs.events.Working.{let_through, put_again, sound_changed, sound_sending, sound_unchanged, stays, taken}
use Rattle.rk_inv_events.proofs.pulls.Sources.{frozen_is}
use Rattle.rk_inv_events.proofs.stored.StoredTaken.{freezes_as}
use Rattle.rk_inv_events.specs.orders.Orders.{IsOrdered, order_to}

-- ---- What follows from the test by which a master takes an order for a tablet anew: the order's term is above that of each tablet that
-- the master has whose range meets this one.

-- an order is above what a master keeps
pub record IsAboveAll (w : World) (master number term : ℕ) (range : Range) : Type 0 where
  pub greater : (tablet_in w master number).handover.term < term
  pub above : IsAboveKept (view w) master range term

module _ (w : World) (master number term : ℕ) (range : Range) where
  -- what a tablet that passes is
  abbrev Below : Tablet → Type 0
  Below tablet = meets tablet.handover.range range ≡ true → tablet.handover.term < term

  pub above_all : is_greater (master_at w master) number term range ≡ true → IsAboveAll w master number term range
  above_all test = record { greater = greater; above = λ other. go other (get (master_at w master).tablets other) refl }
    where
      parts : ((nat_lt (tablet_in w master number).handover.term term) ≡ true) × (list_all (is_above range term) (master_at w master).tablets ≡ true)
      parts = and_parts (nat_lt (tablet_in w master number).handover.term term) (list_all (is_above range term) (master_at w master).tablets) test

      greater : (tablet_in w master number).handover.term < term
      greater = ltb-true (tablet_in w master number).handover.term term parts.0

      go : (other : ℕ) (found : Option Tablet) → get (master_at w master).tablets other ≡ found → Below (unwrap_or found no_tablet)
      go other None is meeting = omega (arith, greater)
      go other (Some tablet) is meeting =
          (all_in_map Below (master_at w master).tablets other tablet is
          (All-weaker (λ (e : ℕ × Tablet). is_above range term e ≡ true) (λ (e : ℕ × Tablet). Below e.1)
          (λ e its met. ltb-true e.1.handover.term term (rw met at its))
          (master_at w master).tablets (all_pass (is_above range term) (master_at w master).tablets parts.1))) meeting

-- ---- What a living master may report when it takes an order: the place at which it waits for a tablet, and what the next owner of a
-- frozen tablet has to know.

-- ---- by the table of posts

-- who waits for a tablet of a row that opens, at the row's term, is its target
ready_in : (phase : Phase) (master term applied place : ℕ) (handover : Handover) → handover.role ≡ roles.Wanting place → handover.term ≡ term
    → Fits (post_of phase master) (roles.Wanting place) term handover.term applied → ReadyIn phase handover term master place
ready_in phase master term applied place handover role at = grind (arith, has_post, invited, beside, gives)

-- the source of a row that opens has its post, and answers for the tablet
source_speaks : (phase : Phase) (master term : ℕ) (handover : Handover) → is_opening phase ≡ true → HasSource phase master → speaks (post_of phase master) handover term ≡ true
source_speaks phase master term handover opens its = grind (arith, speaks, target_post, eq-eqb)

-- a row that is rebuilt does not open
opens_not : (phase : Phase) (lineage : List Member) (to : ℕ) → phase ≡ Rebuilding lineage to → is_opening phase ≡ true → ⊥
opens_not phase lineage to is opens = let no : false ≡ true = ap is_opening (sym is) ∙ opens in absurd (cc no)

module _ (v : View) (sound : SoundView v) (master number : ℕ) (lives : v.live master ≡ true) where
  abbrev handover : Handover
  handover = v.handovers master number

  abbrev tenure : Tenure
  tenure = record { tablet = number; term = handover.term }

  abbrev from : Node
  from = nodes.Master master

  -- a Ready of a master that waits for its grant
  pub may_tell_ready : (place : ℕ) → handover.role ≡ roles.Wanting place
      → MaySend v (record { from = from; to = nodes.Coordinator; body = bodies.Ready (record { tenure = tenure; place = place }) })
  may_tell_ready place is = grind (arith, may_send, known, within, ready_in, fits_as)

  -- what the next owner has to know
  abbrev told : Transfer
  told = record { tenure = tenure; floor = handover.counter; ends = ends_of (v.completions master number) }

  module _ (frozen : handover.role ≡ roles.Frozen) (asked : (row : Row) → Contains v.rows row → IsOf row tenure → HasSource row.phase master) where
    -- beside a row that opens at its term
    module _ (row : Row) (stands : Contains v.rows row) (opens : is_opening row.phase ≡ true) (its : IsOf row tenure) where
      speaks_there : speaks (post_of row.phase master) (v.handovers master row.tablet) row.term ≡ true
      speaks_there = source_speaks row.phase master row.term (v.handovers master row.tablet) opens (asked row stands its)

      floor_next : IsNext (truths v row ++ rests v row) handover.counter
      floor_next = rw its.tablet ((row_in v sound row stands).counters.counted master (inl lives) speaks_there)

      ends_known : (end : Ended) → IsKnown v.base v.journal end ⊎ IsStagedEnd v.rows (rests v) master number handover.term end → IsKnown v.base v.journal end
      ends_known end = ⊎_elim (λ (known : IsKnown v.base v.journal end). known)
          (λ (staged : IsStagedEnd v.rows (rests v) master number handover.term end).
          let same = same_number v.rows staged.row row sound.rows.apart staged.stands stands (staged.number ∙ its.tablet) in
          absurd
          (opens_not staged.row.phase (lineage_of staged.row.phase) master staged.rebuilt
          (ap (λ (r : Row). is_opening r.phase) same ∙ opens)))

      ends_handed : AreHandedOver v.base row.range v.journal (ends_of (v.completions master number))
      ends_handed = record {
        reached = rw its.tablet ((row_in v sound row stands).calls.answering master (inl lives) speaks_there);
        known =
            all_by (IsKnown v.base v.journal) (ends_of (v.completions master number)) (λ end there.
            ends_known end
            (All-contains (λ e. IsKnown v.base v.journal e ⊎ IsStagedEnd v.rows (rests v) master number handover.term e)
            (ends_of (v.completions master number)) end (sound.calls.known master number lives) there));
      }

    -- what is handed over for a row, only if that opens at the term
    hands_over : (row : Row) → Contains v.rows row → IfSome (handed_by row v.handovers (bodies.Transfer told)) (Hands v row)
    hands_over row stands = cond_both (is_opening row.phase && (number == row.tablet) && (handover.term == row.term))
        (Some (record { floor = told.floor; ends = told.ends })) None (λ found. IfSome found (Hands v row))
        (λ test.
        let parts = and_parts (is_opening row.phase && (number == row.tablet)) (handover.term == row.term) test in
        let both = and_parts (is_opening row.phase) (number == row.tablet) parts.0 in
        let its : IsOf row tenure = record { tablet = eqb-true number row.tablet both.1; term = eqb-true handover.term row.term parts.1 } in
        (floor_next row stands both.0 its, ends_handed row stands both.0 its)) (λ test. tt)

    says_in : (row : Row) → IsOf row tenure → (phase : Phase) → HasSource phase master → TransferIn phase (v.handovers master row.tablet) (v.completions master row.tablet) row.term master told
    says_in row its (Opening source sfrom target dfrom) source_is = (
      source_is,
      record {
        role_is = rw its.tablet at frozen;
        term_is = rw its.tablet at its.term;
        floor_is = ap (λ (n : ℕ). (v.handovers master n).counter) its.tablet;
        ends_are = ap (λ (n : ℕ). ends_of (v.completions master n)) its.tablet;
      },
    )
    says_in row its _ source_is = tt

    -- a Transfer of a frozen source that was asked to close at its term
    pub may_tell_transfer : MaySend v (record { from = from; to = nodes.Coordinator; body = bodies.Transfer told })
    may_tell_transfer = may_hand v from nodes.Coordinator (bodies.Transfer told) hands_over
        (known v sound master number lives roles.Frozen frozen refl, tt)
        (λ row stands. (
          record { within = within v sound master number lives row stands; below = tt },
          λ its. says_in row its row.phase (asked row stands its),
        )) (tt, tt, tt)

-- ---- A sound lane stays sound when a living master takes an Own: it serves its tablet if its closing entry is applied, and else stays
-- as it is. So it does at a Release: a frozen tablet is given up at its term, and else the master stays as it is. And at a Close: its
-- tablet closes if the order's term is greater, freezes if nothing of it is staged, and if it is frozen at that term, the master
-- reports what the next owner has to know.

-- what a handover is that a master may own, and what it becomes
record BecomesOwned (old : Handover) (term applied : ℕ) (new : Handover) : Type 0 where
  term_is : old.term ≡ term
  closed : IsClosed old.role applied
  new_is : new ≡ as_serving old

becomes_owned : (old new : Handover) (term applied : ℕ) → owned old term applied ≡ Some new → BecomesOwned old term applied new
becomes_owned old new term applied is = grind (arith, let_through, in_role, role_owned, closed, eqb-true, nat_lt, ltb-true, as_serving)

-- only a frozen role is released
role_frozen_by : (old new : Handover) (role : Role) → in_role old (role_released role) ≡ Some new → (role ≡ roles.Frozen) × (new ≡ as_released old)
role_frozen_by old new roles.Frozen is = (refl, let same : as_released old ≡ new = cc is in sym same)
role_frozen_by old new _ is = absurd (cc is)

-- a role that closes, and what its handover becomes
role_closes : (old new : Handover) (term : ℕ) (role : Role) → in_role (record old { term = term }) (role_closed role) ≡ Some new
    → (role_closed role ≡ Some roles.Closing) × (new ≡ as_closing term old)
role_closes old new term role is = grind (arith, as_closing)

-- a Transfer from a master with this number, at this term
abbrev transfer_from : ℕ → ℕ → ℕ → Tablet → Message
transfer_from sender number term tablet = record {
  from = nodes.Master sender;
  to = nodes.Coordinator;
  body = bodies.Transfer (record { tenure = record { tablet = number; term = term }; floor = tablet.handover.counter; ends = ends_of tablet.completions });
}

-- a tablet that closes freezes if nothing of it is staged
sound_freezing : (w : World) (master number : ℕ) (now : Master) → IsSound (with_master w master now) → has_crashed w master ≡ false
    → (tablet_at now number).handover.role ≡ roles.Closing
    → IsSound (with_master w master
    (freezing now number (tablet_at now number) (frozen (tablet_at now number).handover (tablet_at now number).handover.term)))
sound_freezing w master number now sound lives closing =
    let before : World = with_master w master now in
    subst IsSound
    (put_again w master now (λ m. freezing m number (tablet_at m number) (frozen (tablet_at m number).handover (tablet_at m number).handover.term)))
    (freezes_as before master number (λ (m : Master). IsSound (with_master before master m)) (ap not lives)
    (ap (λ (m : Master). (tablet_at m number).handover.role) (master_same w master now master refl) ∙ closing)
    (sound_unchanged before master sound) (λ may. sound_frozen before master number sound may))

module _ (w : World) (number master : ℕ) (tenure : Tenure) (sound : IsSound w) (lives : has_crashed w master ≡ false) where
  abbrev v : View
  v = view w

  abbrev own : Master
  own = master_at w master

  -- ---- an Own

  module _ (ordered : IsOrdered w number master (bodies.Own tenure)) where
    -- what becomes of the lane, if this is the tablet
    abbrev Owns : ℕ → Type 0
    Owns tablet = IsSound (worked_at w master 0 (own_taken own (record { tablet = tablet; term = tenure.term }))).world

    owns : (row : Row) → Contains v.rows row → tenure.tablet ≡ row.tablet → Owns row.tablet
    owns row stands same =
        let old : Handover = v.handovers master row.tablet in
        by_found (λ moved. IsSound (worked_at w master 0 (owning own row.tablet moved)).world) (owned old tenure.term own.applied)
        (λ none. stays w master 0 sound)
        (λ new is.
        let says : OwnFits row old (v.live master) master tenure =
        row_said v sound row stands number (order_to master (bodies.Own tenure)) ordered in
        let it = becomes_owned old new tenure.term own.applied is in
        rw it.new_is
        (sound_changed w master 0 (tablet_owned own row.tablet (as_serving old))
        (sound_owned w row master sound
        (record { lives = ap not lives; has_row = stands; owner = says.owner same (ap not lives) it.term_is; closed = it.closed }))))

    pub sound_own : IsSound (to_master w master (order_to master (bodies.Own tenure))).world
    sound_own =
        let its = has_row v.rows tenure.tablet (sound.cover.sent number (order_to master (bodies.Own tenure)) ordered) in
        taken w master (bodies.Own tenure) lives (rw its.tablet_is at (owns its.row its.stands (sym its.tablet_is)))

  -- ---- a Release

  module _ (ordered : IsOrdered w number master (bodies.Release tenure)) where
    abbrev Releases : ℕ → Type 0
    Releases tablet = IsSound (worked_at w master 0 (release_taken own (record { tablet = tablet; term = tenure.term }))).world

    releases : (row : Row) → Contains v.rows row → tenure.tablet ≡ row.tablet → Releases row.tablet
    releases row stands same =
        let old : Handover = v.handovers master row.tablet in
        by_found (λ moved. IsSound (worked_at w master 0 (releasing own row.tablet moved)).world) (released old tenure.term)
        (λ none. stays w master 0 sound)
        (λ new is.
        let says : ReleaseFits row old (v.live master) master tenure =
        row_said v sound row stands number (order_to master (bodies.Release tenure)) ordered in
        let held = let_through (old.term == tenure.term) (in_role old (role_released old.role)) new is in
        let term_is : old.term ≡ tenure.term = eqb-true old.term tenure.term held.0 in
        let frozen = role_frozen_by old new old.role held.1 in
        rw frozen.1
        (sound_changed w master 0 (tablet_released own row.tablet (as_released old))
        (sound_released w row master sound
        (record { lives = ap not lives; has_row = stands; frozen = frozen.0; outside = says.outside same (ap not lives) (omega (arith, term_is)) }))))

    pub sound_release : IsSound (to_master w master (order_to master (bodies.Release tenure))).world
    sound_release =
        let its = has_row v.rows tenure.tablet (sound.cover.sent number (order_to master (bodies.Release tenure)) ordered) in
        taken w master (bodies.Release tenure) lives (rw its.tablet_is at (releases its.row its.stands (sym its.tablet_is)))

  -- ---- a Close

  module _ (ordered : IsOrdered w number master (bodies.Close tenure)) where
    abbrev message : Message
    message = order_to master (bodies.Close tenure)

    says : (row : Row) → Contains v.rows row → CloseFits row (v.handovers master row.tablet) (v.live master) master tenure
    says row stands = row_said v sound row stands number message ordered

    -- ---- what it reports, once it is so

    module _ (now : Master) (sound_now : IsSound (with_master w master now)) where
      abbrev u : View
      u = view (with_master w master now)

      there : master_at (with_master w master now) master ≡ now
      there = master_same w master now master refl

      abbrev tablet : Tablet
      tablet = tablet_at now tenure.tablet

      tells : is_frozen_at tablet tenure.term ≡ true → MaySend u (transfer now tenure tablet)
      tells test =
          let parts = and_parts (is_frozen tablet.handover.role) (tablet.handover.term == tenure.term) test in
          let at : (u.handovers master tenure.tablet).term ≡ tenure.term =
          ap (λ (m : Master). (tablet_at m tenure.tablet).handover.term) there ∙ eqb-true tablet.handover.term tenure.term parts.1 in
          let sender : now.number ≡ master = ap (λ (m : Master). m.number) (sym there) ∙ sound_now.nodes.numbered master in
          subst (MaySend u) (λ i. transfer_from (sym sender i) tenure.tablet (at i) (tablet_at (there i) tenure.tablet))
          (may_tell_transfer u sound_now master tenure.tablet (ap not lives)
          (ap (λ (m : Master). (tablet_at m tenure.tablet).handover.role) there ∙ frozen_is tablet.handover.role parts.0)
          (λ row stands its. (says row stands).source (record { tablet = its.tablet; term = sym at ∙ its.term })))

      sound_transferring : IsSound (worked_at w master 0 (transferring now tenure)).world
      sound_transferring = cond_both (is_frozen_at tablet tenure.term) (sending now (transfer now tenure tablet)) (changed now)
          (λ (worked : Worked). IsSound (worked_at w master 0 worked).world)
          (λ test. sound_sending w master 0 now (transfer now tenure tablet) sound_now (tells test)) (λ test. sound_changed w master 0 now sound_now)

    -- ---- the tablet closes

    module _ (row : Row) (stands : Contains v.rows row) (same : tenure.tablet ≡ row.tablet) where
      abbrev old : Handover
      old = v.handovers master row.tablet

      -- the handover that it has then
      abbrev new : Handover
      new = as_closing tenure.term old

      abbrev closes_to : Master
      closes_to = tablet_closed own row.tablet new

      its_tablet : (tablet_at closes_to row.tablet).handover ≡ new
      its_tablet =
          ap (λ (t : Tablet). t.handover) (tablet_here own row.tablet (without_merged (with_handover (tablet_at own row.tablet) new)))

      sound_closes : IsSound (with_master w master (closing own row.tablet (closed old tenure.term)))
      sound_closes =
          by_found (λ moved. IsSound (with_master w master (closing own row.tablet moved))) (closed old tenure.term)
          (λ none. sound_unchanged w master sound)
          (λ moved is.
          let held = let_through (nat_lt old.term tenure.term) (in_role (record old { term = tenure.term }) (role_closed old.role)) moved is in
          let less : old.term < tenure.term = ltb-true old.term tenure.term held.0 in
          let role = role_closes old moved tenure.term old.role held.1 in
          let may : MayClose v row master tenure.term = record {
            lives = ap not lives;
            has_row = stands;
            greater = less;
            closes = role.0;
            may_follow = (says row stands).may_follow same (ap not lives) less;
          } in
          subst (λ (h : Handover). IsSound (with_master w master (closing own row.tablet (Some h)))) (sym role.1)
          (subst (λ (h : Handover). IsSound (with_master w master (freezing closes_to row.tablet (tablet_at closes_to row.tablet) (frozen h h.term)))) its_tablet
          (sound_freezing w master row.tablet closes_to (sound_closed w row master tenure.term sound may) lives
          (ap (λ (h : Handover). h.role) its_tablet))))

    pub sound_close : IsSound (to_master w master message).world
    sound_close =
        let its : HasRow v.rows tenure.tablet = has_row v.rows tenure.tablet (sound.cover.sent number message ordered) in
        taken w master (bodies.Close tenure) lives
        (sound_transferring (closing own tenure.tablet (closed (v.handovers master tenure.tablet) tenure.term))
        (subst (λ (n : ℕ). IsSound (with_master w master (closing own n (closed (v.handovers master n) tenure.term)))) its.tablet_is
        (sound_closes its.row its.stands (sym its.tablet_is))))
