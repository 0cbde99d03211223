-- A sound lane stays sound when a Pull or a Want reaches a master that lives: a frozen source answers with what it has, since what it has
-- applied is all that counts, and another master does nothing.
use Rattle.std.proofs.Common.{Contains, List, Some, [], ap, arith, cond, eq-eqb, false, flat_map, inl, is_some, lt-ltb, not, refl, subst}
use Rattle.std.proofs.Common.{sym, true, ℕ, ◌==◌, ◌∙◌, ◌∷◌, ◌≡◌}
use Rattle.rk_message.specs.declared.message.Body.TheVariants as bodies
use Rattle.rk_transfer.specs.declared.role.Role.TheVariants as roles
use Rattle.rk_types.specs.declared.node.Node.TheVariants as nodes
use Rattle.rk_inv_base.proofs.Words.{AfterMove, AskAgrees, BATCH_BYTES, Body, Got, GotAgrees, Handover, Held, Holds, IsSound, IsTableOf}
use Rattle.rk_inv_base.proofs.Words.{IsWithinTerm, MaySend, Member, Message, Phase, Post, Pull, Pulled, PulledAgrees, Range, Role, Row}
use Rattle.rk_inv_base.proofs.Words.{SoundView, Tenure, Token, View, Want, Worked, World, and_parts, as_entries, at_hash, batch_at, bond_of}
use Rattle.rk_inv_base.proofs.Words.{changed, cond_both, false≢true, filled, from_master, get, has_all_items, has_crashed, is_frozen}
use Rattle.rk_inv_base.proofs.Words.{is_frozen_at, is_member, lineage_of, master_at, member_truth, next_token, or_left, post_of, pull_taken}
use Rattle.rk_inv_base.proofs.Words.{row_of, scan_items, sending, tablet_in, to_master, view, want_taken, worked_at}
use Rattle.rk_inv_events.proofs.Words.{live_in, role_fits, row_in, row_ranged, row_said, truth_in}
use Rattle.rk_inv_events.proofs.events.PostsOf.{Fits, HasPost, beside, first_heir, gave, gives, has_post, invited, only_heir, outside}
use Rattle.rk_inv_events.proofs.events.Sending.{may_send}
use Rattle.rk_inv_events.proofs.events.Working.{reached, stays, stays_sending}
use Rattle.rk_inv_events.proofs.pulls.Targets.{records_scanned}

-- ---- the first of two members has all items of the tablet, while it lives and is frozen

module _ (first last : Member) (master : ℕ) (handover : Handover) (term applied : ℕ) (here : first.master ≡ master) where
  pub first_has_all : (phase : Phase) → lineage_of phase ≡ first ∷ last ∷ [] → Fits (post_of phase master) roles.Frozen term handover.term applied
      → has_all_items (post_of phase master) handover term ≡ true
  first_has_all phase = go (has_post phase master)
    where
      member : is_member (first ∷ last ∷ []) master ≡ true
      member = or_left (first.master == master) (is_member (last ∷ []) master) (eq-eqb first.master master here)

      go : {p : Phase} {post : Post} → HasPost master p post → lineage_of p ≡ first ∷ last ∷ [] → Fits post roles.Frozen term handover.term applied
          → has_all_items post handover term ≡ true
      go (gave sfrom target dfrom) is fits = refl
      go (first_heir one other more at) is fits = lt-ltb handover.term term fits
      go (gives sfrom target dfrom) is fits = absurd (cc is)
      go (invited source sfrom) is fits = absurd (cc is)
      go (only_heir only at) is fits = absurd (cc is)
      go (outside lineage none) is fits =
          absurd (false≢true (sym (none (rw is (omega arith))) ∙ ap (λ (l : List Member). is_member l master) is ∙ member))
      go (beside p none) is fits = absurd (false≢true (sym none ∙ ap (λ (l : List Member). is_member l master) is ∙ member))
      go _ is fits = absurd fits

-- ---- what was asked of a source

-- a target asked a master for what it has of a tablet, and its message is on the wire
pub record IsAsked (v : View) (asker master : ℕ) (tenure : Tenure) : Type 0 where
  covered : is_some (row_of v.rows tenure.tablet) ≡ true
  says :
      (row : Row) → Contains v.rows row
      → IsWithinTerm row tenure.tablet tenure.term
      × (AfterMove row tenure × AskAgrees row v.handovers (lineage_of row.phase) asker (nodes.Master master) tenure)

module _ (v : View) (sound : SoundView v) (number asker master : ℕ) where
  asked_by_pull : (pull : Pull) → get v.wire number ≡ Some (record { from = nodes.Master asker; to = nodes.Master master; body = bodies.Pull pull })
      → IsAsked v asker master pull.tenure
  asked_by_pull pull there =
      let message : Message = record { from = nodes.Master asker; to = nodes.Master master; body = bodies.Pull pull } in
      record {
        covered = sound.cover.sent number message there;
        says = λ row stands. (((row_in v sound row stands).terms number message there).within, row_said v sound row stands number message there);
      }

  asked_by_want : (want : Want) → get v.wire number ≡ Some (record { from = nodes.Master asker; to = nodes.Master master; body = bodies.Want want })
      → IsAsked v asker master want.tenure
  asked_by_want want there =
      let message : Message = record { from = nodes.Master asker; to = nodes.Master master; body = bodies.Want want } in
      record {
        covered = sound.cover.sent number message there;
        says = λ row stands. (((row_in v sound row stands).terms number message there).within, row_said v sound row stands number message there);
      }

-- ---- what it answers

module _ (v : View) (master : ℕ) (tenure : Tenure) where
  -- its live items of the tablet
  abbrev pub items : List Held
  items = live_in (v.handovers master tenure.tablet).range (v.records master)

  -- a batch of them
  abbrev pub batch_from : Token → Pulled
  batch_from token = record {
    tenure = tenure;
    token = token;
    next = next_token token BATCH_BYTES items;
    entries = as_entries (batch_at token BATCH_BYTES items);
  }

  -- those that have some hashes
  abbrev pub items_at : List ℕ → Got
  items_at hashes = record { tenure = tenure; hashes = hashes; entries = as_entries (flat_map (λ hash. at_hash hash items) hashes) }

module _ (v : View) (sound : SoundView v) (asker master : ℕ) (tenure : Tenure) (asked : IsAsked v asker master tenure) (lives : v.live master ≡ true) (frozen : (v.handovers master tenure.tablet).role ≡ roles.Frozen) where
  module _ (row : Row) (stands : Contains v.rows row) (its : tenure.tablet ≡ row.tablet) (source target : Member) (lineage_is : lineage_of row.phase ≡ source ∷ target ∷ []) (here : source.master ≡ master) where
    abbrev handover : Handover
    handover = v.handovers master row.tablet

    fits : Holds (bond_of (post_of row.phase master) roles.Frozen) row.term handover.term (v.written master).applied
    fits = rw (ap (λ (n : ℕ). (v.handovers master n).role) (sym its) ∙ frozen) at (role_fits v sound row stands master (inl lives))

    ranged : handover.range ≡ row.range
    ranged = row_ranged v sound row stands master (inl lives)
        (ap (λ (members : List Member). is_member members master) lineage_is
        ∙ or_left (source.master == master) (is_member (target ∷ []) master) (eq-eqb source.master master here))

    table : IsTableOf row.range (member_truth v.written row.range source) (v.records master)
    table = rw lineage_is at
        ((row_in v sound row stands).tables master lives
        (first_has_all source target master handover row.term (v.written master).applied here row.phase lineage_is fits))

    -- its live items are the scan of what counts for the row
    pub items_scanned : items v master tenure ≡ scan_items (member_truth v.written row.range source)
    items_scanned = ap (λ (n : ℕ). live_in (v.handovers master n).range (v.records master)) its
        ∙ ap (λ (range : Range). live_in range (v.records master)) ranged
        ∙ records_scanned row.range (member_truth v.written row.range source) (v.records master) (sound.records.ordered master)
        (truth_in v.written row.range source) table

  batch_agrees : (token : Token) (row : Row) → Contains v.rows row → (lineage : List Member) → lineage_of row.phase ≡ lineage → AskAgrees row v.handovers lineage asker (nodes.Master master) tenure
      → PulledAgrees row v.written v.handovers v.live lineage (nodes.Master master) asker (batch_from v master tenure token)
  batch_agrees token row stands (source ∷ target ∷ []) is agrees = λ at alive its.
      let sender = agrees at its in
      let here : master ≡ source.master = cc sender in
      let same = items_scanned row stands its.tablet source target is (sym here) in (
        record { sender = sender; items_are = ap (λ (list : List Held). as_entries (batch_at token BATCH_BYTES list)) same },
        ap (λ (list : List Held). next_token token BATCH_BYTES list) same,
      )
  batch_agrees token row stands _ is agrees = tt

  hashes_agree : (hashes : List ℕ) (row : Row) → Contains v.rows row → (lineage : List Member) → lineage_of row.phase ≡ lineage → AskAgrees row v.handovers lineage asker (nodes.Master master) tenure
      → GotAgrees row v.written v.handovers v.live lineage (nodes.Master master) asker (items_at v master tenure hashes)
  hashes_agree hashes row stands (source ∷ target ∷ []) is agrees = λ at alive its.
      let sender = agrees at its in
      let here : master ≡ source.master = cc sender in
      let same = items_scanned row stands its.tablet source target is (sym here) in
      record { sender = sender; items_are = ap (λ (list : List Held). as_entries (flat_map (λ hash. at_hash hash list) hashes)) same }
  hashes_agree hashes row stands _ is agrees = tt

  -- a Pulled
  may_give_batch : (token : Token)
      → MaySend v (record { from = nodes.Master master; to = nodes.Master asker; body = bodies.Pulled (batch_from v master tenure token) })
  may_give_batch token = may_send v (nodes.Master master) (nodes.Master asker) (bodies.Pulled (batch_from v master tenure token))
      (λ row. refl) (asked.covered, tt)
      (λ row stands.
      let its = asked.says row stands in
      (record { within = its.0; below = tt }, (its.1.0, batch_agrees token row stands (lineage_of row.phase) refl its.1.1))) (tt, tt, tt)

  -- a Got
  may_give_items : (hashes : List ℕ)
      → MaySend v (record { from = nodes.Master master; to = nodes.Master asker; body = bodies.Got (items_at v master tenure hashes) })
  may_give_items hashes = may_send v (nodes.Master master) (nodes.Master asker) (bodies.Got (items_at v master tenure hashes))
      (λ row. refl) (asked.covered, tt)
      (λ row stands.
      let its = asked.says row stands in
      (record { within = its.0; below = tt }, (its.1.0, hashes_agree hashes row stands (lineage_of row.phase) refl its.1.1))) (tt, tt, tt)

-- ---- the message

-- a role that the test says to be frozen is
pub frozen_is : (role : Role) → is_frozen role ≡ true → role ≡ roles.Frozen
frozen_is roles.Frozen holds = refl
frozen_is _ holds = absurd (cc holds)

-- a master that is asked answers if it is frozen at a term, and else does nothing
answers_frozen : (w : World) (asker source tablet term : ℕ) (body : Body) → IsSound w
    → filled w.ledger.journal [] (from_master (master_at w source) (nodes.Master asker) body)
    ≡ from_master (master_at w source) (nodes.Master asker) body
    → ((tablet_in w source tablet).handover.role ≡ roles.Frozen
    → MaySend (view w) (record { from = nodes.Master source; to = nodes.Master asker; body = body }))
    → IsSound (worked_at w source 0 (cond (is_frozen_at (tablet_in w source tablet) term)
    (sending (master_at w source) (from_master (master_at w source) (nodes.Master asker) body)) (changed (master_at w source)))).world
answers_frozen w asker source tablet term body sound as_is may =
    cond_both (is_frozen_at (tablet_in w source tablet) term)
    (sending (master_at w source) (from_master (master_at w source) (nodes.Master asker) body)) (changed (master_at w source))
    (λ (worked : Worked). IsSound (worked_at w source 0 worked).world)
    (λ frozen.
    let here : MaySend (view w) (from_master (master_at w source) (nodes.Master asker) body) =
    rw (sound.nodes.numbered source) (may (frozen_is (tablet_in w source tablet).handover.role (and_parts _ _ frozen).0)) in
    stays_sending w source 0 (from_master (master_at w source) (nodes.Master asker) body) sound (subst (MaySend (view w)) (sym as_is) here))
    (λ other. stays w source 0 sound)

pub sound_pull : (w : World) (number asker source : ℕ) (pull : Pull) → IsSound w → has_crashed w source ≡ false
    → get w.wire.messages number ≡ Some (record { from = nodes.Master asker; to = nodes.Master source; body = bodies.Pull pull })
    → IsSound (to_master w source (record { from = nodes.Master asker; to = nodes.Master source; body = bodies.Pull pull })).world
sound_pull w number asker source pull sound lives there =
    reached w source 0 (pull_taken (master_at w source) (nodes.Master asker) pull) lives
    (answers_frozen w asker source pull.tenure.tablet pull.tenure.term (bodies.Pulled (batch_from (view w) source pull.tenure pull.token)) sound refl
    (λ frozen.
    may_give_batch (view w) sound asker source pull.tenure (asked_by_pull (view w) sound number asker source pull there) (ap not lives) frozen pull.token))

pub sound_want : (w : World) (number asker source : ℕ) (want : Want) → IsSound w → has_crashed w source ≡ false
    → get w.wire.messages number ≡ Some (record { from = nodes.Master asker; to = nodes.Master source; body = bodies.Want want })
    → IsSound (to_master w source (record { from = nodes.Master asker; to = nodes.Master source; body = bodies.Want want })).world
sound_want w number asker source want sound lives there =
    reached w source 0 (want_taken (master_at w source) (nodes.Master asker) want) lives
    (answers_frozen w asker source want.tenure.tablet want.tenure.term (bodies.Got (items_at (view w) source want.tenure want.hashes)) sound refl
    (λ frozen.
    may_give_items (view w) sound asker source want.tenure (asked_by_want (view w) sound number asker source want there) (ap not lives) frozen want.hashes))
