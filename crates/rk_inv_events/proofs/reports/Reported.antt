-- A sound lane stays sound when the coordinator takes a Ready, a Transfer or a Joined. A report does nothing unless it speaks of a row at
-- that row's term.
use Rattle.std.proofs.Common.{arith, Bool, Contains, IfSome, List, None, Option, Some, [], ap, cond, eq-eqb, eqb-true, ne_eqb, refl, subst}
use Rattle.std.proofs.Common.{sym, true, ℕ, ◌&&◌, ◌==◌, ◌∙◌, ◌∷◌, ◌≡◌, ◌≢◌}
use Rattle.rk_message.specs.declared.message.Body.TheVariants as bodies
use Rattle.rk_types.specs.declared.node.Node.TheVariants as nodes
use Rattle.rk_inv_base.proofs.Words.{All-cons, All-contains, AreHandedOver, Body, Coordinated, Handed, HasSome, IsOf, IsSound, IsWellFormed}
use Rattle.rk_inv_base.proofs.Words.{JoinedIn, MaySend, Message, Moving, Opening, Owned, Phase, Ready, ReadyIn, ReadyTarget, Row}
use Rattle.rk_inv_base.proofs.Words.{SoundView, Tenure, Transfer, TransferIn, View, World, about, and_from, answered, at_term, changed_rows}
use Rattle.rk_inv_base.proofs.Words.{ends_of, get, is_noticed, is_opening, joined_in, number_of, own_to, place_noted, post_of, ready_in}
use Rattle.rk_inv_base.proofs.Words.{release_to, report, row_at, row_for, row_moved, row_of, row_owned, transfer_in, unanswered, view}
use Rattle.rk_inv_base.proofs.Words.{with_coordinator, with_ledger, with_rebuilt, with_sends, cond_both}
use Rattle.rk_inv_base.proofs.Headlines.{sound_noted}
use Rattle.rk_inv_base.proofs.rows.TurnedRows.{new_stands}
use Rattle.rk_inv_rows.proofs.Headlines.{sound_joined_taken, sound_moved}
use Rattle.rk_inv_events.proofs.Words.{IsWaitingFor, SaysIn, found_stands, role_fits, row_formed, row_in, row_owned_in, row_said, by_found}
use Rattle.rk_inv_events.proofs.Words.{either_way}
use Rattle.rk_inv_events.proofs.events.Coordinating.{rows_some}
use Rattle.rk_inv_events.proofs.events.CoordinatorTurn.{may_own, may_release}
use Rattle.rk_inv_events.proofs.events.Sending.{one_sent, sound_all_sent}

-- the world once the coordinator has done this
abbrev pub coordinated : World → Coordinated → World
coordinated w taken =
    (with_sends (with_ledger (with_coordinator w taken.coordinator) (with_rebuilt w.ledger taken.rebuilt)) taken.sends).world

-- a row is at the coordinator, at the term of a tenure of its tablet
pub record IsAbout (w : World) (tenure : Tenure) (row : Row) : Type 0 where
  pub stands : Contains w.coordinator.rows row
  pub its : IsOf row tenure
  pub found : row_of w.coordinator.rows row.tablet ≡ Some row

-- a report is taken soundly if what it says of its row, at that row's term, is
pub sound_about : (w : World) (sender : ℕ) (tenure : Tenure) (taken : Row → Coordinated) → IsSound w
    → ((row : Row) → IsAbout w tenure row → IsSound (coordinated w (taken row)))
    → IsSound (coordinated w (about w.coordinator taken (row_for w.coordinator sender tenure)))
sound_about w sender tenure taken sound by_row =
    let Takes : Option Row → Type 0 = λ row. IsSound (coordinated w (about w.coordinator taken row)) in
    either_way Takes (is_noticed w.coordinator sender) sound
    (by_found (λ found. Takes (at_term tenure found)) (row_of w.coordinator.rows tenure.tablet) (λ none. sound)
    (λ row is.
    cond_both (row.term == tenure.term) (Some row) None Takes
    (λ same.
    let number : row.tablet ≡ tenure.tablet = number_of w.coordinator.rows tenure.tablet row is in
    by_row row
    (record {
      stands = found_stands w.coordinator.rows tenure.tablet row is;
      its = record { tablet = sym number; term = sym (eqb-true row.term tenure.term same) };
      found = subst (λ (n : ℕ). row_of w.coordinator.rows n ≡ Some row) (sym number) is;
    })) (λ other. sound)))

-- a report counts only if it comes from the master that the row waits for
only_from : (w : World) (taken : Coordinated) (own : Bool) → IsSound w → IsSound (coordinated w taken)
    → IsSound (coordinated w (cond own taken (unanswered w.coordinator)))
only_from w taken own sound does = either_way (λ made. IsSound (coordinated w made)) own does sound

-- an owner is told once more
pub told_owner : (w : World) (row : Row) → IsSound w → Contains w.coordinator.rows row → (owner from : ℕ) → row.phase ≡ Owned owner from
    → (own : Bool)
    → IsSound (coordinated w (cond own (answered w.coordinator (own_to owner row ∷ [])) (unanswered w.coordinator)))
told_owner w row sound here owner from is own = only_from w (answered w.coordinator (own_to owner row ∷ [])) own sound
    (sound_all_sent w (own_to owner row ∷ []) sound (one_sent (view w) (own_to owner row) (may_own (view w) row sound here owner from is)))

-- a row that is at another phase is among the rows then
pub at_phase : (rows : List Row) (row : Row) (phase : Phase) → row_of rows row.tablet ≡ Some row
    → Contains (changed_rows rows row.tablet row.term phase) (row_at row row.term phase)
at_phase rows row phase found = rw found (new_stands rows row.tablet row (row_at row row.term phase) found)

-- ---- a target that reported its place

module _ (v : View) (row : Row) (sound : SoundView v) (stands : Contains v.rows row) (source sfrom target dfrom : ℕ) (is : row.phase ≡ Opening source sfrom target (Some dfrom)) where
  ready_post : post_of row.phase target ≡ ReadyTarget dfrom
  ready_post = grind (arith, post_of, ne_eqb, row_formed, eq-eqb)

  waits : IsWaitingFor v row target dfrom
  waits = grind (arith, role_fits, ready_post, row_in, at_term)

-- ---- reports

module _ (w : World) (number sender : ℕ) (sound : IsSound w) where
  abbrev from_sender : Body → Message
  from_sender body = record { from = nodes.Master sender; to = nodes.Coordinator; body = body }

  abbrev Stands : Body → Type 0
  Stands body = get w.wire.messages number ≡ Some (from_sender body)

  -- what a report says of a row
  says : (body : Body) → Stands body → (row : Row) → Contains w.coordinator.rows row
      → SaysIn (view w) row (nodes.Master sender) nodes.Coordinator body
  says body stands row there = row_said (view w) sound row there number (from_sender body) stands

  -- ---- a target is ready

  pub sound_ready : (ready : Ready) → Stands (bodies.Ready ready) → IsSound (coordinated w (report w.coordinator sender (bodies.Ready ready)))
  sound_ready ready stands = sound_about w sender ready.tenure (λ row. ready_in w.coordinator sender ready row row.phase) sound
      (λ row of. by_phase row of row.phase refl)
    where
      by_phase : (row : Row) → IsAbout w ready.tenure row → (phase : Phase) → row.phase ≡ phase
          → IsSound (coordinated w (ready_in w.coordinator sender ready row phase))
      by_phase row of (Opening source sfrom target None) is =
          only_from w (unanswered (place_noted w.coordinator row source sfrom target ready.place)) (sender == target) sound
          (sound_noted w row source sfrom target ready.place sound
          (record {
            has_row = of.stands;
            phase_is = is;
            waiting = record {
              role_is = ap (λ (m : ℕ). ((view w).handovers m row.tablet).role) its.0 ∙ its.1;
              term_is = ap (λ (m : ℕ). ((view w).handovers m row.tablet).term) its.0 ∙ its.2;
            };
          }))
        where
          its : ReadyIn (Opening source sfrom target None) ((view w).handovers sender row.tablet) row.term sender ready.place
          its =
              subst (λ (phase : Phase). ReadyIn phase ((view w).handovers sender row.tablet) row.term sender ready.place) is
              (says (bodies.Ready ready) stands row of.stands of.its)
      by_phase row of _ is = sound

  -- ---- a source reports what it hands over

  -- what a Transfer hands over for a row that opens
  handed_over : (transfer : Transfer) → Stands (bodies.Transfer transfer) → (row : Row) → Contains w.coordinator.rows row → IsOf row transfer.tenure
      → is_opening row.phase ≡ true → AreHandedOver (view w).base row.range (view w).journal transfer.ends
  handed_over transfer stands row there its opens =
      let given : Handed = record { floor = transfer.floor; ends = transfer.ends } in
      subst
      (λ (b : Bool). IfSome (cond b (Some given) None) (λ (h : Handed). AreHandedOver (view w).base row.range (view w).journal h.ends))
      (and_from (is_opening row.phase && (transfer.tenure.tablet == row.tablet)) (transfer.tenure.term == row.term)
      (and_from (is_opening row.phase) (transfer.tenure.tablet == row.tablet) opens (eq-eqb transfer.tenure.tablet row.tablet its.tablet))
      (eq-eqb transfer.tenure.term row.term its.term))
      ((row_in (view w) sound row there).calls.sent number (from_sender (bodies.Transfer transfer)) stands)

  module _ (formed : IsWellFormed w) where
    some : (row : Row) → Contains w.coordinator.rows row → HasSome row.range
    some row there = All-contains (λ (other : Row). HasSome other.range) w.coordinator.rows row (rows_some w formed) there

    pub sound_transfer : (transfer : Transfer) → Stands (bodies.Transfer transfer) → IsSound (coordinated w (report w.coordinator sender (bodies.Transfer transfer)))
    sound_transfer transfer stands = sound_about w sender transfer.tenure (λ row. transfer_in w.coordinator sender transfer row row.phase)
        sound (λ row of. by_phase row of row.phase refl)
      where
        by_phase : (row : Row) → IsAbout w transfer.tenure row → (phase : Phase) → row.phase ≡ phase
            → IsSound (coordinated w (transfer_in w.coordinator sender transfer row phase))
        by_phase row of (Opening source sfrom target (Some dfrom)) is =
            only_from w (unanswered (row_moved w.coordinator row source sfrom target dfrom given)) (sender == source) sound
            (sound_moved w row source sfrom target dfrom given sound (some row of.stands)
            (record {
              has_row = of.stands;
              phase_is = is;
              frozen = ap (λ (m : ℕ). ((view w).handovers m row.tablet).role) its.0 ∙ its.1.role_is;
              term_is = ap (λ (m : ℕ). ((view w).handovers m row.tablet).term) its.0 ∙ its.1.term_is;
              floor_is = its.1.floor_is ∙ ap (λ (m : ℕ). ((view w).handovers m row.tablet).counter) (sym its.0);
              ends_are = its.1.ends_are ∙ ap (λ (m : ℕ). ends_of ((view w).completions m row.tablet)) (sym its.0);
              known = (handed_over transfer stands row of.stands of.its (ap is_opening is)).known;
              waiting = waits (view w) row sound of.stands source sfrom target dfrom is;
            }))
          where
            given : Handed
            given = record { floor = transfer.floor; ends = transfer.ends }

            its : TransferIn (Opening source sfrom target (Some dfrom)) ((view w).handovers sender row.tablet) ((view w).completions sender row.tablet) row.term sender transfer
            its = rw is at (says (bodies.Transfer transfer) stands row of.stands of.its)
        by_phase row of _ is = sound

    -- ---- a target has joined

    pub sound_joined : (tenure : Tenure) → Stands (bodies.Joined tenure) → IsSound (coordinated w (report w.coordinator sender (bodies.Joined tenure)))
    sound_joined tenure stands = sound_about w sender tenure (λ row. joined_in w.coordinator sender row row.phase) sound
        (λ row of. by_phase row of row.phase refl)
      where
        by_phase : (row : Row) → IsAbout w tenure row → (phase : Phase) → row.phase ≡ phase
            → IsSound (coordinated w (joined_in w.coordinator sender row phase))
        by_phase row of (Owned owner from) is = told_owner w row sound of.stands owner from is (sender == owner)
        by_phase row of (Moving source sfrom target dfrom) is =
            let now = row_owned_in w row target dfrom in
            only_from w (answered (row_owned w.coordinator row target dfrom) (own_to target row ∷ release_to source row ∷ []))
            (sender == target) sound
            (sound_all_sent now (own_to target row ∷ release_to source row ∷ []) after
            (All-cons (MaySend (view now)) (own_to target row) (release_to source row ∷ []) (may_own (view now) owned after at target dfrom refl)
            (one_sent (view now) (release_to source row) (may_release (view now) owned after at target dfrom refl source (λ e. differ (sym e))))))
          where
            its : JoinedIn (Moving source sfrom target dfrom) ((view w).handovers sender row.tablet) ((view w).written sender).applied row.term sender
            its = rw is at (says (bodies.Joined tenure) stands row of.stands of.its)

            differ : source ≢ target
            differ = rw is at (row_formed (view w) sound row of.stands)

            after : IsSound (row_owned_in w row target dfrom)
            after = sound_joined_taken w row source sfrom target dfrom sound (some row of.stands)
                (record {
                  has_row = of.stands;
                  phase_is = is;
                  term_is = ap (λ (m : ℕ). ((view w).handovers m row.tablet).term) its.0 ∙ its.1;
                  joined = rw its.0 its.2;
                })

            owned : Row
            owned = row_at row row.term (Owned target dfrom)

            at : Contains (row_owned_in w row target dfrom).coordinator.rows owned
            at = at_phase w.coordinator.rows row (Owned target dfrom) of.found
        by_phase row of _ is = sound
