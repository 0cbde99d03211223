-- A sound lane stays sound when a Pulled reaches a target that lives: it replays the batch of its token and passes on, and behind the last
-- batch it seals what it copied.
use Rattle.std.proofs.Common.{Bool, List, Some, [], ap, arith, cond, eqb-true, false, inl, not, refl, subst, sym, true, ℕ, ◌%◌, ◌&&◌}
use Rattle.std.proofs.Common.{◌+◌, ◌<◌, ◌∙◌, ◌∷◌, ◌≡◌}
use Rattle.std.proofs.lemmas.Nat.{mod_below}
use Rattle.rk_message.specs.declared.message.Body.TheVariants as bodies
use Rattle.rk_transfer.specs.declared.role.Role.TheVariants as roles
use Rattle.rk_types.specs.declared.node.Node.TheVariants as nodes
use Rattle.rk_world.specs.Master.{with_item}
use Rattle.rk_inv_base.proofs.Words.{All-contains, BATCH_BYTES, Handover, HasSegmentLeft, Held, IsFormedRow, IsSound, IsWellFormed, Master}
use Rattle.rk_inv_base.proofs.Words.{Member, Pulled, PulledAgrees, Pulling, Range, Tablet, Token, View, World, and_parts, batch_at}
use Rattle.rk_inv_base.proofs.Words.{batch_taken, cases_eq, changed, cond_both, end, found, get, has_crashed, is_member, is_newer}
use Rattle.rk_inv_base.proofs.Words.{is_receiving_at, is_token, item_replayed, items_of, limits_of, log_in, master_at, meets, pulled_all}
use Rattle.rk_inv_base.proofs.Words.{pulled_taken, replay, replay_one, source_items, tablet_at, tablet_in, to_master, token_passed, view}
use Rattle.rk_inv_base.proofs.Words.{with_master, with_pulled, with_pulling, with_tablet, worked_at, Node, next_token}
use Rattle.rk_inv_events.proofs.Words.{MaySealThere, last_member, master_same, meets_itself, row_in, row_said, tablet_apart, tablet_here}
use Rattle.rk_inv_events.proofs.events.Working.{put_again, reached, sound_changed, stays}
use Rattle.rk_inv_wellformed.proofs.masters.Pulls.{items_again}
use Rattle.rk_inv_events.proofs.pulls.Targets.{receiving_is, IsTargetOf, as_target, of_target}
use Rattle.rk_inv_events.proofs.pulls.Passing.{sound_batch, sound_pulled_all}
use Rattle.rk_inv_events.specs.pulls.Moves.{MaySealBehind, batch_replayed}

-- tokens that the test says to be one are
token_is : (a b : Token) → is_token a b ≡ true → a ≡ b
token_is a b same = grind (arith, and_parts, eqb-true)

-- ---- what stays of a master that takes a batch

-- a master with the same log, and the same handovers and sealed segments of each tablet
pub record KeepsTablets (old new : Master) : Type 0 where
  pub log : new.log ≡ old.log
  pub handover : (r : ℕ) → (tablet_at new r).handover ≡ (tablet_at old r).handover
  pub sealed : (r : ℕ) → (tablet_at new r).pulling.sealed ≡ (tablet_at old r).pulling.sealed

keeps_then : (a b c : Master) → KeepsTablets a b → KeepsTablets b c → KeepsTablets a c
keeps_then a b c first later = grind arith

-- so is a master at which a tablet pulls so, with the sealed segments that it had
keeps_with : (m : Master) (number : ℕ) (pulling : Pulling) → pulling.sealed ≡ (tablet_at m number).pulling.sealed
    → KeepsTablets m (with_tablet m number (with_pulling (tablet_at m number) pulling))
keeps_with m number pulling same = grind (arith, cases_eq, tablet_here, tablet_apart, with_pulling, tablet_at)

keeps_itself : (m : Master) → KeepsTablets m m
keeps_itself m = record { log = refl; handover = λ r. refl; sealed = λ r. refl }

keeps_one : (number worker : ℕ) (m : Master) (item : Held) → KeepsTablets m (replay_one number worker m item)
keeps_one number worker m item =
    let with_it : KeepsTablets (with_item m item) (item_replayed number worker m item) =
    keeps_with (with_item m item) number (with_pulled (tablet_at m number).pulling worker item) refl in
    cond_both (is_newer item (found item.table item.key m.records)) (item_replayed number worker m item) m (KeepsTablets m)
    (λ newer. assumption with_it) (λ older. keeps_itself m)

pub keeps_all : (number worker : ℕ) (m : Master) (items : List Held) → KeepsTablets m (replay m number worker items)
keeps_all number worker m [] = keeps_itself m
keeps_all number worker m (item ∷ items) =
    let one = replay_one number worker m item in
    keeps_then m one (replay one number worker items) (keeps_one number worker m item) (keeps_all number worker one items)

-- ---- the message

-- a Pulled has the batch of its token that the source of its receiver has, and the next token there
pub pulled_are : (w : World) (number master : ℕ) (from : Node) (message : Pulled) (sound : IsSound w) (lives : has_crashed w master ≡ false)
    (receives : is_receiving_at (tablet_in w master message.tenure.tablet) message.tenure.term ≡ true)
    → get w.wire.messages number ≡ Some (record { from = from; to = nodes.Master master; body = bodies.Pulled message })
    → let its = as_target w sound master message.tenure lives receives in
    let items = source_items (view w) its.row its.source in
    (items_of message.entries ≡ batch_at message.token BATCH_BYTES items) × (message.next ≡ next_token message.token BATCH_BYTES items)
pulled_are w number master from message sound lives receives there =
    let v = view w in
    let its = as_target w sound master message.tenure lives receives in
    let agrees : PulledAgrees its.row v.written v.handovers v.live (its.source ∷ its.target ∷ []) from master message =
    rw its.pulls.lineage_is at (row_said v sound its.row its.pulls.has_row number _ there).1 in
    let said = agrees its.here (ap not lives) (of_target w sound master message.tenure lives receives) in
    (ap items_of said.0.items_are ∙ items_again (batch_at message.token BATCH_BYTES (source_items v its.row its.source)), said.1)

module _ (w : World) (number sender master : ℕ) (message : Pulled) (sound : IsSound w) (formed : IsWellFormed w) (lives : has_crashed w master ≡ false)
    (there : get w.wire.messages number ≡ Some (record { from = nodes.Master sender; to = nodes.Master master; body = bodies.Pulled message })) (may : message.next ≡ end → MaySealBehind w master message) where
  abbrev v : View
  v = view w

  abbrev own : Master
  own = master_at w master

  abbrev tablet : ℕ
  tablet = message.tenure.tablet

  abbrev kept : Tablet
  kept = tablet_in w master message.tenure.tablet

  -- the master once the batch is replayed, and once its token is passed
  abbrev replayed : Master
  replayed = batch_replayed own message

  abbrev passed : Master
  passed = token_passed replayed tablet message.next

  module _ (receives : is_receiving_at kept message.tenure.term ≡ true) (at_token : is_token message.token kept.pulling.token ≡ true) where
    role_is : kept.handover.role ≡ roles.Receiving
    role_is = receiving_is kept.handover.role (and_parts _ _ receives).0

    abbrev its : IsTargetOf v master tablet
    its = as_target w sound master message.tenure lives receives

    -- the lane is sound with the batch
    sound_taken : IsSound (with_master w master passed)
    sound_taken =
        let are = pulled_are w number master (nodes.Master sender) message sound lives receives there in
        let worker : ℕ = kept.pulling.batches % 4 in
        let few : worker < 4 = mod_below kept.pulling.batches 4 (omega arith) in
        let token : message.token ≡ (v.pullings its.target.master its.row.tablet).token =
        token_is message.token kept.pulling.token at_token ∙ (λ i. (v.pullings (sym its.here i) (sym its.number_is i)).token) in
        subst (λ (n : ℕ). IsSound (with_master w master (token_passed (replay own n worker (items_of message.entries)) n message.next))) its.number_is
        (subst (λ (q : ℕ). IsSound (with_master w q (token_passed (replay (master_at w q) its.row.tablet worker (items_of message.entries)) its.row.tablet message.next))) its.here
        (sound_batch w sound its.row its.source its.target its.pulls worker few message.token message.next
        (items_of message.entries) token are.0 are.1))

    -- the range of the tablet is that of its row, so it is not empty
    meets_own : meets kept.handover.range kept.handover.range ≡ true
    meets_own =
        let ranged : kept.handover.range ≡ its.row.range =
        ap (λ (n : ℕ). (v.handovers master n).range) (sym its.number_is)
        ∙ (row_in v sound its.row its.pulls.has_row).roles.ranged master (inl (ap not lives))
        (ap (λ (members : List Member). is_member members master) its.pulls.lineage_is
        ∙ last_member (its.source ∷ its.target ∷ []) its.target master refl its.here) in
        rw ranged
        (meets_itself its.row.range
        (All-contains (IsFormedRow (limits_of w)) v.rows its.row formed.coordinator.rows its.pulls.has_row).range.last.least_is)

    abbrev after : World
    after = with_master w master passed

    own_after : master_at after master ≡ passed
    own_after = master_same w master passed master refl

    -- what stays as it was
    keeps : KeepsTablets own passed
    keeps =
        keeps_then own replayed passed (keeps_all tablet (kept.pulling.batches % 4) own (items_of message.entries))
        (keeps_with replayed tablet (record (tablet_at replayed tablet).pulling { token = message.next; batches = (tablet_at replayed tablet).pulling.batches + 1 }) refl)

    handover_is : (tablet_in after master tablet).handover ≡ kept.handover
    handover_is = ap (λ (m : Master). (tablet_at m tablet).handover) own_after ∙ keeps.handover tablet

    log_is : log_in after master ≡ log_in w master
    log_is = ap (λ (m : Master). m.log) own_after ∙ keeps.log

    pulling_is : (tablet_in after master tablet).pulling ≡ record (tablet_at replayed tablet).pulling { token = message.next; batches = (tablet_at replayed tablet).pulling.batches + 1 }
    pulling_is =
        ap (λ (m : Master). (tablet_at m tablet).pulling) own_after
        ∙ ap (λ (t : Tablet). t.pulling)
        (tablet_here replayed tablet (with_pulling (tablet_at replayed tablet) (record (tablet_at replayed tablet).pulling { token = message.next; batches = (tablet_at replayed tablet).pulling.batches + 1 })))

    may_seal : message.next ≡ end → MaySealThere (view after) master tablet
    may_seal last = record {
      may = record {
        lives = ap not lives;
        room = rw (ap (λ (p : Pulling). p.sides) pulling_is) (rw log_is (may last).sides);
        receiving = ap (λ (h : Handover). h.role) handover_is ∙ role_is;
        pulled = ap (λ (p : Pulling). p.token) pulling_is ∙ last;
      };
      there = λ r. rw log_is (rw (ap (λ (m : Master). (tablet_at m r).pulling.sealed) own_after ∙ keeps.sealed r) ((may last).there r));
    }

    -- and behind the last batch it is sound with what is sealed
    sound_last : message.next ≡ end → IsSound (with_master w master (pulled_all passed tablet))
    sound_last last = subst IsSound (put_again w master passed (λ m. pulled_all m tablet))
        (sound_pulled_all after sound_taken master tablet (may_seal last) (subst HasSegmentLeft (sym log_is) (may last).room)
        (subst (λ (range : Range). meets range range ≡ true) (sym (ap (λ (h : Handover). h.range) handover_is)) meets_own))

    sound_batch_taken : IsSound (with_master w master (batch_taken own tablet message))
    sound_batch_taken = cond_both (is_token message.next end) (pulled_all passed tablet) passed (λ (m : Master). IsSound (with_master w master m))
        (λ last. sound_last (token_is message.next end last)) (λ more. sound_taken)

  pub sound_pulled : IsSound (to_master w master (record { from = nodes.Master sender; to = nodes.Master master; body = bodies.Pulled message })).world
  sound_pulled = reached w master 0 (pulled_taken own message) lives
      (go (is_receiving_at kept message.tenure.term) (is_token message.token kept.pulling.token) refl refl)
    where
      go : (receives at_token : Bool) → is_receiving_at kept message.tenure.term ≡ receives → is_token message.token kept.pulling.token ≡ at_token
          → IsSound (worked_at w master 0 (cond (receives && at_token) (changed (batch_taken own tablet message)) (changed own))).world
      go true true is at = sound_changed w master 0 (batch_taken own tablet message) (sound_batch_taken is at)
      go _ at_token is at = stays w master 0 sound
