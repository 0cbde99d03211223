-- What the orders of the coordinator for a migration come to: its target makes ready and says so, its source closes, or reports what it
-- hands over, and its target takes it over.
use Rattle.std.proofs.Common.{◌≡◌, ◌≢◌, ◌<◌, ◌≤◌, ◌==◌, ◌&&◌, ℕ, Bool, true, false, cond, not, nat_lt, List, [], ◌∷◌, ◌++◌, length, map}
use Rattle.std.proofs.Common.{All, Option, None, Some, refl, sym, ap, subst, ◌∙◌, append_assoc, inl, inr, ⊎_elim, arith, ◌⊎◌, Contains}
use Rattle.std.proofs.Common.{IfSome, unwrap_or, flat_map, eq-eqb, eqb-true, le-ltb, lt-ltb, ne_eqb}
use Rattle.rk_scripts.proofs.Words.{list_all, and_from, cases_eq, cases_lt, cond-false, cond-true, false≢true, or_left, or_right}
use Rattle.rk_scripts.proofs.Words.{All-append, All-cons, All-contains, All-head, All-nil, All-tail, IsInOrder, get_or, meets, Placed}
use Rattle.rk_scripts.proofs.Words.{Grant, Prepare, completions_from, Message, row_of, Phase, Opening, Moving, Row, closed, frozen, granted}
use Rattle.rk_scripts.proofs.Words.{in_role, role_closed, role_frozen, role_granted, Handover, Role, Coordinator, is_noticed}
use Rattle.rk_scripts.proofs.Words.{coordinator_step, coordinator_turn, carried_entry, close_taken, closing, grant_taken, granting}
use Rattle.rk_scripts.proofs.Words.{prepare_taken, preparing, ready, ready_again, transfer, Master, is_settled, new_master, tablet_at}
use Rattle.rk_scripts.proofs.Words.{with_appended, with_tablet, filled, is_frozen, is_frozen_at, Tablet, no_tablet, pulling_from}
use Rattle.rk_scripts.proofs.Words.{with_handover, without_merged, freezing, Worked, changed, sending, World, has_crashed, lives, master_at}
use Rattle.rk_scripts.proofs.Words.{tablet_in, Holds, bond_of, post_of, is_joining, is_target, is_on, All_pairs, IsGoodLane, Lasts}
use Rattle.rk_scripts.proofs.Words.{found_stands, Node, Body}
use Rattle.std.specs.List.{AllByRecursion}
use Rattle.rk_done.specs.Completions.{ends_of}
use Rattle.rk_tablet_map.specs.Rows.{IsTabletMap, Precedes, replaced}
use Rattle.rk_message.specs.declared.handover.Ready.{Ready}
use Rattle.rk_message.specs.declared.handover.Transfer.{Transfer}
use Rattle.rk_world.specs.Coordinator.{Handed, from_coordinator, row_tenure, with_phase}
use Rattle.rk_world.specs.CoordinatorStep.{Coordinated, about, place_noted, ready_in, report, row_moved, transfer_in, unanswered, row_duty}
use Rattle.rk_world.specs.CoordinatorStep.{row_for}
use Rattle.rk_world.specs.Handovers.{is_above, tablet_closed, transferring}
use Rattle.rk_sound.specs.Posts.{InvitedTarget, MovingTarget, OpeningSource, Post, target_post}
use Rattle.rk_sound.specs.Terms.{HandoverFits}
use Rattle.rk_inv_base.proofs.rows.RowAdded.{meets_turned}
use Rattle.rk_scripts.proofs.settle.ExchangeTasks.{Topic, close_topic, grant_topic, hand_topic, readiness}
use Rattle.rk_scripts.proofs.settle.Noticing.{one_of}
use Rattle.rk_scripts.proofs.settle.Patient.{at_put}
use Rattle.rk_scripts.proofs.settle.Pending.{AreOff, HasOne}

-- ---- the coordinator's turn

module _ (topic : Topic) (coordinator : Coordinator) (tablet : ℕ)
    (others : (row : Row) (phase : Phase) → (row.tablet ≡ tablet → ⊥) → AreOff topic (row_duty coordinator row phase)) where
  abbrev duty_of : Row → List Message
  duty_of row = row_duty coordinator row row.phase

  behind_off : (first : Row) (rows : List Row) → first.tablet ≡ tablet → AllByRecursion (Precedes first) rows → AreOff topic (flat_map duty_of rows)
  behind_off first [] is all = All-nil _
  behind_off first (row ∷ rows) is all =
      All-append (λ (m : Message). is_on topic m.body ≡ false) (duty_of row) (flat_map duty_of rows)
      (others row row.phase (λ same. omega (arith, same, is, all.0.smaller))) (behind_off first rows is all.1)

  one_in : (rows : List Row) (row : Row) (ours : Message) → IsTabletMap rows → row_of rows tablet ≡ Some row → row_duty coordinator row row.phase ≡ ours ∷ []
      → HasOne topic ours (flat_map duty_of rows)
  one_in [] row ours lies found duty = absurd (cc found)
  one_in (first ∷ rows) row ours lies found duty = go (first.tablet == tablet) refl found (one_in rows row ours lies.1)
    where
      go : (b : Bool) → (first.tablet == tablet) ≡ b → cond b (Some first) (row_of rows tablet) ≡ Some row
          → (row_of rows tablet ≡ Some row → row_duty coordinator row row.phase ≡ ours ∷ [] → HasOne topic ours (flat_map duty_of rows))
          → HasOne topic ours (duty_of first ++ flat_map duty_of rows)
      go true is here later =
          let same : first ≡ row = cc here in
          record {
            before = [];
            behind = flat_map duty_of rows;
            is = ap (λ (list : List Message). list ++ flat_map duty_of rows) (ap duty_of same ∙ duty);
            off_before = All-nil (λ (m : Message). is_on topic m.body ≡ false);
            off_behind = behind_off first rows (eqb-true first.tablet tablet is) lies.0;
          }
      go false is there later =
          let has = later there duty in
          record {
            before = duty_of first ++ has.before;
            behind = has.behind;
            is = ap (λ (list : List Message). duty_of first ++ list) has.is ∙ sym (append_assoc (duty_of first) has.before (ours ∷ has.behind));
            off_before = All-append (λ (m : Message). is_on topic m.body ≡ false) (duty_of first) has.before
                (others first first.phase (λ same. false≢true (sym is ∙ eq-eqb first.tablet tablet same))) has.off_before;
            off_behind = has.off_behind;
          }

-- nothing of other rows is on these topics
one_off : (topic : Topic) (message : Message) → is_on topic message.body ≡ false → AreOff topic (message ∷ [])
one_off topic message is = All-cons (λ (m : Message). is_on topic m.body ≡ false) message [] is (All-nil _)

ready_others : (coordinator : Coordinator) (tablet : ℕ) (row : Row) (phase : Phase) → (row.tablet ≡ tablet → ⊥) → AreOff (readiness tablet) (row_duty coordinator row phase)
ready_others coordinator tablet row phase apart = grind (arith, one_off, readiness, ne_eqb)

close_others : (coordinator : Coordinator) (tablet : ℕ) (row : Row) (phase : Phase) → (row.tablet ≡ tablet → ⊥) → AreOff (close_topic tablet) (row_duty coordinator row phase)
close_others coordinator tablet row phase apart = grind (arith, one_off, close_topic, ne_eqb)

hand_others : (coordinator : Coordinator) (tablet : ℕ) (row : Row) (phase : Phase) → (row.tablet ≡ tablet → ⊥) → AreOff (hand_topic tablet) (row_duty coordinator row phase)
hand_others coordinator tablet row phase apart = grind (arith, one_off, hand_topic, ne_eqb)

grant_others : (coordinator : Coordinator) (tablet : ℕ) (row : Row) (phase : Phase) → (row.tablet ≡ tablet → ⊥) → AreOff (grant_topic tablet) (row_duty coordinator row phase)
grant_others coordinator tablet row phase apart = grind (arith, one_off, grant_topic, ne_eqb)

-- ---- rows

pub replaced_found : (rows : List Row) (tablet : ℕ) (old new : Row) → row_of rows tablet ≡ Some old → new.tablet ≡ tablet → row_of (replaced tablet new rows) tablet ≡ Some new
replaced_found [] tablet old new found is = absurd (cc found)
replaced_found (first ∷ rows) tablet old new found is = go (first.tablet == tablet) refl found (λ later. replaced_found rows tablet old new later is)
  where
    go : (b : Bool) → (first.tablet == tablet) ≡ b → cond b (Some first) (row_of rows tablet) ≡ Some old
        → (row_of rows tablet ≡ Some old → row_of (replaced tablet new rows) tablet ≡ Some new)
        → row_of (cond b (new ∷ rows) (first ∷ replaced tablet new rows)) tablet ≡ Some new
    go true here found later = cond-true (new.tablet == tablet) (Some new) (row_of rows tablet) (eq-eqb new.tablet tablet is)
    go false here found later = cond-false (first.tablet == tablet) (Some first) (row_of (replaced tablet new rows) tablet) here ∙ later found

-- a row in another phase
pub phase_found : (coordinator : Coordinator) (row : Row) (phase : Phase) → row_of coordinator.rows row.tablet ≡ Some row
    → row_of (with_phase coordinator row phase).rows row.tablet ≡ Some (record row { phase = phase })
phase_found coordinator row phase found = grind (arith, row_of, replaced_found)

-- ---- handovers

freezing_term : (now : Master) (number : ℕ) (tablet : Tablet) (moved : Option Handover) (term : ℕ) → IfSome moved (λ handover. handover.term ≡ term)
    → (tablet_at now number).handover.term ≡ term → (tablet_at (freezing now number tablet moved) number).handover.term ≡ term
freezing_term now number tablet moved term moves is = grind (arith, is_settled, tablet_at, with_tablet, with_handover, at_put)

frozen_term : (handover : Handover) → IfSome (frozen handover handover.term) (λ it. it.term ≡ handover.term)
frozen_term handover = grind (arith, in_role, role_frozen)

closing_term : (master : Master) (number term : ℕ) (handover : Handover) → handover.term ≡ term → (tablet_at (closing master number (Some handover)) number).handover.term ≡ term
closing_term master number term handover is =
    let tablet : Tablet = without_merged (with_handover (tablet_at master number) handover) in
    let now : Master = tablet_closed master number handover in
    freezing_term now number (tablet_at now number) (frozen handover handover.term) term
    (subst (λ (t : ℕ). IfSome (frozen handover handover.term) (λ it. it.term ≡ t)) is (frozen_term handover))
    (ap (λ (it : Tablet). it.handover.term) (at_put master number tablet) ∙ is)

-- if each passes, all do
list_all_from : {X : Type 0} (test : X → Bool) (list : List X) → All (λ x. test x ≡ true) list → list_all test list ≡ true
list_all_from test [] all = refl
list_all_from test (x ∷ list) all =
    and_from (test x) (list_all test list) (All-head (λ y. test y ≡ true) x list all) (list_all_from test list (All-tail (λ y. test y ≡ true) x list all))

-- ---- a migration

module _ (masters lane : ℕ) (w : World) (good : IsGoodLane Lasts masters lane w) (row : Row) (found : row_of w.coordinator.rows row.tablet ≡ Some row) where
  stands : Contains w.coordinator.rows row
  stands = found_stands w.coordinator.rows row.tablet row found

  -- what a master has of a tablet
  abbrev kept_of : ℕ → ℕ → Handover
  kept_of m q = (tablet_in w m q).handover

  -- the tablets of a master are in order
  tablets_order : (m : ℕ) → IsInOrder (master_at w m).tablets
  tablets_order m = grind (arith, new_master)

  -- what a master has of this one
  abbrev pub kept : ℕ → Handover
  kept m = (tablet_in w m row.tablet).handover

  pub fitted : (m : ℕ) (post : Post) → has_crashed w m ≡ false → post_of row.phase m ≡ post → Holds (bond_of post (kept m).role) row.term (kept m).term (master_at w m).applied
  fitted m post living is = grind (arith, bond_of, master_at, lives, tablet_in, stands)

  source_post : (source sfrom target : ℕ) (dfrom : Option ℕ) → row.phase ≡ Opening source sfrom target dfrom → post_of row.phase source ≡ OpeningSource
  source_post source sfrom target dfrom is =
      ap (λ (p : Phase). post_of p source) is ∙ cond-true (source == source) OpeningSource _ (eq-eqb source source refl)

  pub invited_post : (source sfrom target : ℕ) (dfrom : Option ℕ) → row.phase ≡ Opening source sfrom target dfrom → post_of row.phase target ≡ target_post dfrom
  invited_post source sfrom target dfrom is = grind (arith, post_of, cond-false, ne_eqb, cond-true, eq-eqb, stands)

  pub moving_post : (source sfrom target dfrom : ℕ) → row.phase ≡ Moving source sfrom target dfrom → post_of row.phase target ≡ MovingTarget dfrom
  moving_post source sfrom target dfrom is = grind (arith, post_of, cond-false, ne_eqb, cond-true, eq-eqb, stands)

  lies : IsTabletMap w.coordinator.rows
  lies = good.sound.rows.apart

  own_number : (m : ℕ) → (master_at w m).number ≡ m
  own_number m = good.sound.nodes.numbered m

  -- a living master was not noticed dead
  unnoticed : (m : ℕ) → has_crashed w m ≡ false → is_noticed w.coordinator m ≡ false
  unnoticed m living = go (is_noticed w.coordinator m) refl
    where
      go : (b : Bool) → is_noticed w.coordinator m ≡ b → b ≡ false
      go false is = refl
      go true is = absurd (false≢true (sym living ∙ one_of (λ (k : ℕ). has_crashed w k ≡ true) w.coordinator.noticed m good.formed.noticed is))

  -- what a living master reports of the row is of the row
  row_told : (m : ℕ) → has_crashed w m ≡ false → row_for w.coordinator m (row_tenure row) ≡ Some row
  row_told m living = grind (arith, cond-false, is_noticed, row_of, unnoticed, cond-true, eq-eqb)

  -- ---- the target makes ready

  module _ (source sfrom target : ℕ) (is : row.phase ≡ Opening source sfrom target None) (living : has_crashed w target ≡ false) where
    abbrev prepare : Prepare
    prepare = record { tenure = row_tenure row; range = row.range }

    abbrev pub prepares : Message
    prepares = from_coordinator (Node.Master target) (Body.Prepare prepare)

    pub prepare_sent : HasOne (readiness row.tablet) prepares (coordinator_turn w.coordinator)
    prepare_sent = one_in (readiness row.tablet) w.coordinator row.tablet (ready_others w.coordinator row.tablet)
        w.coordinator.rows row prepares lies found (ap (row_duty w.coordinator row) is)

    pub prepare_on : is_on (readiness row.tablet) prepares.body ≡ true
    prepare_on = eq-eqb row.tablet row.tablet refl

    -- it says that it is ready, from some place on
    pub record IsReady (worked : Worked) : Type 0 where
      pub place : ℕ
      pub sends : worked.sends ≡ ready (master_at w target) (row_tenure row) place ∷ []

    above_each : (kept target).term < row.term → list_all (is_above row.range row.term) (master_at w target).tablets ≡ true
    above_each below = list_all_from (is_above row.range row.term) (master_at w target).tablets
        (All_pairs (λ (q : ℕ) (tablet : Tablet). is_above row.range row.term (q, tablet) ≡ true) (master_at w target).tablets (tablets_order target)
        (λ q tablet at. subst (λ (it : Tablet). is_above row.range row.term (q, it) ≡ true) (ap (λ (o : Option Tablet). unwrap_or o no_tablet) at) (each q)))
      where
        fits : (q : ℕ) → HandoverFits row q (kept_of target q)
        fits q = All-contains (λ (r : Row). HandoverFits r q (kept_of target q)) w.coordinator.rows row (good.sound.terms.kept target q) stands

        each : (q : ℕ) → is_above row.range row.term (q, tablet_in w target q) ≡ true
        each q = ⊎_elim
            (λ (same : q ≡ row.tablet).
            or_right (not (meets (kept_of target q).range row.range)) (nat_lt (kept_of target q).term row.term)
            (lt-ltb (kept_of target q).term row.term (subst (λ (k : ℕ). (kept_of target k).term < row.term) (sym same) below)))
            (λ (other : q ≡ row.tablet → ⊥). by other (meets (kept_of target q).range row.range) refl (meets row.range (kept_of target q).range) refl)
            (cases_eq q row.tablet)
          where
            by : (q ≡ row.tablet → ⊥) → (a : Bool) → meets (kept_of target q).range row.range ≡ a → (b : Bool) → meets row.range (kept_of target q).range ≡ b
                → is_above row.range row.term (q, tablet_in w target q) ≡ true
            by other false met b is = or_left (not (meets (kept_of target q).range row.range)) (nat_lt (kept_of target q).term row.term) (ap not met)
            by other true met false is = absurd (false≢true (sym (meets_turned row.range (kept_of target q).range is) ∙ met))
            by other true met true is =
                or_right (not (meets (kept_of target q).range row.range)) (nat_lt (kept_of target q).term row.term)
                (lt-ltb (kept_of target q).term row.term ((fits q).below (λ same. other (sym same)) is))

    greater_ready : (kept target).term < row.term → IsReady (prepare_taken (master_at w target) prepare)
    greater_ready below = subst (λ (b : Bool). IsReady (cond b (preparing (master_at w target) prepare)
        (ready_again (master_at w target) (row_tenure row) (kept target).role (kept target).term)))
        (sym (and_from (nat_lt (kept target).term row.term) (list_all (is_above row.range row.term) (master_at w target).tablets)
        (lt-ltb (kept target).term row.term below) (above_each below)))
        (record { place = length (master_at w target).log.entries; sends = refl })

    again_ready : (from : ℕ) → (kept target).role ≡ Role.Wanting from → (kept target).term ≡ row.term → IsReady (prepare_taken (master_at w target) prepare)
    again_ready from role_is same = subst
        (λ (b : Bool).
        IsReady (cond (b && list_all (is_above row.range row.term) (master_at w target).tablets) (preparing (master_at w target) prepare) (ready_again (master_at w target) (row_tenure row) (kept target).role (kept target).term)))
        (sym (le-ltb (kept target).term row.term (omega (arith, same))))
        (subst (λ (role : Role). IsReady (ready_again (master_at w target) (row_tenure row) role (kept target).term)) (sym role_is)
        (subst (λ (b : Bool). IsReady (cond b (sending (master_at w target) (ready (master_at w target) (row_tenure row) from)) (changed (master_at w target))))
        (sym (eq-eqb (kept target).term row.term same)) (record { place = from; sends = refl })))

    pub is_ready : IsReady (prepare_taken (master_at w target) prepare)
    is_ready = go (kept target).role refl (fitted target InvitedTarget living (invited_post source sfrom target None is))
      where
        go : (role : Role) → (kept target).role ≡ role → Holds (bond_of InvitedTarget role) row.term (kept target).term (master_at w target).applied
            → IsReady (prepare_taken (master_at w target) prepare)
        go Role.Absent at below = greater_ready below
        go Role.Frozen at below = greater_ready below
        go (Role.Wanting from) at within =
            ⊎_elim (λ (below : (kept target).term < row.term). greater_ready below)
            (λ (above : row.term ≤ (kept target).term). again_ready from at (omega (arith, within, above))) (cases_lt (kept target).term row.term)
        go _ at never = absurd never

    abbrev pub readies : Message
    readies = ready (master_at w target) (row_tenure row) is_ready.place

    pub ready_sent : (journal : List Placed)
        → HasOne (readiness row.tablet) readies (map (filled journal (prepare_taken (master_at w target) prepare).served) (prepare_taken (master_at w target) prepare).sends)
    ready_sent journal =
        subst (λ (list : List Message). HasOne (readiness row.tablet) readies (map (filled journal (prepare_taken (master_at w target) prepare).served) list)) (sym is_ready.sends)
        (record { before = []; behind = []; is = refl; off_before = All-nil _; off_behind = All-nil _ })

    pub ready_on : is_on (readiness row.tablet) readies.body ≡ true
    ready_on = eq-eqb row.tablet row.tablet refl

    -- and its place is noted
    pub ready_taken : coordinator_step w.coordinator readies ≡ unanswered (place_noted w.coordinator row source sfrom target is_ready.place)
    ready_taken =
        let message : Ready = record { tenure = row_tenure row; place = is_ready.place } in
        ap (λ (number : ℕ). report w.coordinator number (Body.Ready message)) (own_number target)
        ∙ (ap (about w.coordinator (λ (r : Row). ready_in w.coordinator target message r r.phase)) (row_told target living)
        ∙ (ap (ready_in w.coordinator target message row) is ∙ cond-true (target == target) _ (unanswered w.coordinator) (eq-eqb target target refl)))

    pub ready_row : row_of (coordinator_step w.coordinator readies).coordinator.rows row.tablet ≡ Some (record row { phase = Opening source sfrom target (Some is_ready.place) })
    ready_row = ap (λ (it : Coordinated). row_of it.coordinator.rows row.tablet) ready_taken
        ∙ phase_found w.coordinator row (Opening source sfrom target (Some is_ready.place)) found

    pub ready_silent : (coordinator_step w.coordinator readies).sends ≡ []
    ready_silent = ap (λ (it : Coordinated). it.sends) ready_taken

  -- ---- the source closes

  module _ (source sfrom target dfrom : ℕ) (is : row.phase ≡ Opening source sfrom target (Some dfrom)) (living : has_crashed w source ≡ false) where
    abbrev pub closes : Message
    closes = from_coordinator (Node.Master source) (Body.Close (row_tenure row))

    pub close_sent : HasOne (close_topic row.tablet) closes (coordinator_turn w.coordinator)
    close_sent = one_in (close_topic row.tablet) w.coordinator row.tablet (close_others w.coordinator row.tablet)
        w.coordinator.rows row closes lies found (ap (row_duty w.coordinator row) is)

    pub hand_sent : HasOne (hand_topic row.tablet) closes (coordinator_turn w.coordinator)
    hand_sent =
        one_in (hand_topic row.tablet) w.coordinator row.tablet (hand_others w.coordinator row.tablet) w.coordinator.rows row closes lies found
        (ap (row_duty w.coordinator row) is)

    pub close_on : is_on (close_topic row.tablet) closes.body ≡ true
    close_on = eq-eqb row.tablet row.tablet refl

    pub hand_on : is_on (hand_topic row.tablet) closes.body ≡ true
    hand_on = eq-eqb row.tablet row.tablet refl

    abbrev pub taken : Worked
    taken = close_taken (master_at w source) (row_tenure row)

    -- what comes of that is on another topic
    pub close_off : (journal : List Placed) → AreOff (close_topic row.tablet) (map (filled journal taken.served) taken.sends)
    close_off journal = go (is_frozen_at (tablet_at now row.tablet) row.term)
      where
        now : Master
        now = closing (master_at w source) row.tablet (closed (kept source) row.term)

        go : (b : Bool) → let it = cond b (sending now (transfer now (row_tenure row) (tablet_at now row.tablet))) (changed now) in AreOff (close_topic row.tablet) (map (filled journal it.served) it.sends)
        go true = one_off (close_topic row.tablet) _ refl
        go false = All-nil _

    -- it has the row's term then
    pub close_term : (tablet_at taken.master row.tablet).handover.term ≡ row.term
    close_term = go (is_frozen_at (tablet_at now row.tablet) row.term)
        (by (kept source).role refl (fitted source OpeningSource living (source_post source sfrom target (Some dfrom) is)))
      where
        now : Master
        now = closing (master_at w source) row.tablet (closed (kept source) row.term)

        go : (b : Bool) → (tablet_at now row.tablet).handover.term ≡ row.term
            → (tablet_at (cond b (sending now (transfer now (row_tenure row) (tablet_at now row.tablet))) (changed now)).master row.tablet).handover.term ≡ row.term
        go true same = same
        go false same = same

        stays : (kept source).term ≡ row.term → (tablet_at now row.tablet).handover.term ≡ row.term
        stays same = subst
            (λ (b : Bool).
            (tablet_at (closing (master_at w source) row.tablet (cond b (in_role (record (kept source) { term = row.term }) (role_closed (kept source).role)) None)) row.tablet).handover.term ≡ row.term)
            (sym (le-ltb (kept source).term row.term (omega (arith, same)))) same

        rises : (kept source).term < row.term → role_closed (kept source).role ≡ Some Role.Closing → (tablet_at now row.tablet).handover.term ≡ row.term
        rises below role_is = subst
            (λ (b : Bool).
            (tablet_at (closing (master_at w source) row.tablet (cond b (in_role (record (kept source) { term = row.term }) (role_closed (kept source).role)) None)) row.tablet).handover.term ≡ row.term)
            (sym (lt-ltb (kept source).term row.term below))
            (subst
            (λ (role : Option Role). (tablet_at (closing (master_at w source) row.tablet (in_role (record (kept source) { term = row.term }) role)) row.tablet).handover.term ≡ row.term)
            (sym role_is)
            (closing_term (master_at w source) row.tablet row.term (record (kept source) { term = row.term; role = Role.Closing }) refl))

        by : (role : Role) → (kept source).role ≡ role → Holds (bond_of OpeningSource role) row.term (kept source).term (master_at w source).applied
            → (tablet_at now row.tablet).handover.term ≡ row.term
        by Role.Serving at below = rises below (ap role_closed at)
        by (Role.Joining (Some entry)) at both = rises both.0 (ap role_closed at)
        by (Role.Rebuilding from (Some entry)) at both = rises both.0 (ap role_closed at)
        by Role.Closing at same = stays same
        by Role.Frozen at same = stays same
        by _ at never = absurd never

    -- one at the row's term closes or is frozen
    pub at_term_closes : (kept source).term ≡ row.term → ((kept source).role ≡ Role.Closing) ⊎ ((kept source).role ≡ Role.Frozen)
    at_term_closes same = by (kept source).role refl (fitted source OpeningSource living (source_post source sfrom target (Some dfrom) is))
      where
        by : (role : Role) → (kept source).role ≡ role → Holds (bond_of OpeningSource role) row.term (kept source).term (master_at w source).applied
            → ((kept source).role ≡ Role.Closing) ⊎ ((kept source).role ≡ Role.Frozen)
        by Role.Serving at below = absurd (omega (arith, below, same))
        by (Role.Joining (Some entry)) at both = absurd (omega (arith, both.0, same))
        by (Role.Rebuilding from (Some entry)) at both = absurd (omega (arith, both.0, same))
        by Role.Closing at it = inl at
        by Role.Frozen at it = inr at
        by _ at never = absurd never

    -- ---- a frozen source reports what it hands over

    module _ (at_term_is : (kept source).term ≡ row.term) (frozen_is : (kept source).role ≡ Role.Frozen) where
      abbrev pub hands_over : Message
      hands_over = transfer (master_at w source) (row_tenure row) (tablet_in w source row.tablet)

      hand_made : taken ≡ sending (master_at w source) hands_over
      hand_made = ap
          (λ (b : Bool).
          transferring (closing (master_at w source) row.tablet (cond b (in_role (record (kept source) { term = row.term }) (role_closed (kept source).role)) None)) (row_tenure row))
          (le-ltb (kept source).term row.term (omega (arith, at_term_is)))
          ∙ cond-true (is_frozen_at (tablet_in w source row.tablet) row.term) (sending (master_at w source) hands_over) (changed (master_at w source))
          (and_from (is_frozen (kept source).role) ((kept source).term == row.term) (ap is_frozen frozen_is) (eq-eqb (kept source).term row.term at_term_is))

      pub transfer_sent : (journal : List Placed) → HasOne (hand_topic row.tablet) hands_over (map (filled journal taken.served) taken.sends)
      transfer_sent journal =
          subst (λ (it : Worked). HasOne (hand_topic row.tablet) hands_over (map (filled journal it.served) it.sends)) (sym hand_made)
          (record { before = []; behind = []; is = refl; off_before = All-nil _; off_behind = All-nil _ })

      pub transfer_on : is_on (hand_topic row.tablet) hands_over.body ≡ true
      transfer_on = eq-eqb row.tablet row.tablet refl

      abbrev handed : Handed
      handed = record { floor = (kept source).counter; ends = ends_of (tablet_in w source row.tablet).completions }

      transfer_taken : coordinator_step w.coordinator hands_over ≡ unanswered (row_moved w.coordinator row source sfrom target dfrom handed)
      transfer_taken =
          let message : Transfer = record { tenure = row_tenure row; floor = (kept source).counter; ends = ends_of (tablet_in w source row.tablet).completions } in
          ap (λ (number : ℕ). report w.coordinator number (Body.Transfer message)) (own_number source)
          ∙ (ap (about w.coordinator (λ (r : Row). transfer_in w.coordinator source message r r.phase)) (row_told source living)
          ∙ (ap (transfer_in w.coordinator source message row) is ∙ cond-true (source == source) _ (unanswered w.coordinator) (eq-eqb source source refl)))

      pub transfer_row : row_of (coordinator_step w.coordinator hands_over).coordinator.rows row.tablet ≡ Some (record row { phase = Moving source sfrom target dfrom })
      transfer_row = ap (λ (it : Coordinated). row_of it.coordinator.rows row.tablet) transfer_taken
          ∙ phase_found w.coordinator row (Moving source sfrom target dfrom) found

      pub transfer_silent : (coordinator_step w.coordinator hands_over).sends ≡ []
      transfer_silent = ap (λ (it : Coordinated). it.sends) transfer_taken

  -- ---- the target is granted the tablet

  module _ (source sfrom target dfrom : ℕ) (is : row.phase ≡ Moving source sfrom target dfrom) (living : has_crashed w target ≡ false) where
    abbrev grant : Grant
    grant =
        let handed = get_or (record { floor = 1; ends = [] }) w.coordinator.handed row.tablet in
        record { tenure = row_tenure row; source = source; floor = handed.floor; ends = handed.ends }

    abbrev pub grants : Message
    grants = from_coordinator (Node.Master target) (Body.Grant grant)

    pub grant_sent : HasOne (grant_topic row.tablet) grants (coordinator_turn w.coordinator)
    grant_sent = one_in (grant_topic row.tablet) w.coordinator row.tablet (grant_others w.coordinator row.tablet)
        w.coordinator.rows row grants lies found (ap (row_duty w.coordinator row) is)

    pub grant_on : is_on (grant_topic row.tablet) grants.body ≡ true
    grant_on = eq-eqb row.tablet row.tablet refl

    abbrev pub granted_by : Worked
    granted_by = grant_taken (master_at w target) grant

    pub grant_off : (journal : List Placed) → AreOff (grant_topic row.tablet) (map (filled journal granted_by.served) granted_by.sends)
    grant_off journal = go (granted (kept target) row.term grant.floor)
      where
        go : (moved : Option Handover) → let it = granting (master_at w target) grant moved in AreOff (grant_topic row.tablet) (map (filled journal it.served) it.sends)
        go None = All-nil _
        go (Some handover) = All-nil _

    -- it pulls then, or has all
    pub record IsGranted (handover : Handover) : Type 0 where
      pub term : handover.term ≡ row.term
      pub role : is_target handover.role ≡ true

    pub is_granted : IsGranted (tablet_at granted_by.master row.tablet).handover
    is_granted = by (kept target).role refl (fitted target (MovingTarget dfrom) living (moving_post source sfrom target dfrom is))
      where
        stays : (role : Role) → (kept target).role ≡ role → role_granted role ≡ None → is_target role ≡ true → (kept target).term ≡ row.term
            → IsGranted (tablet_at granted_by.master row.tablet).handover
        stays role at none has same = subst
            (λ (moved : Option Handover). IsGranted (tablet_at (granting (master_at w target) grant moved).master row.tablet).handover)
            (sym
            (cond-true ((kept target).term == row.term) (in_role (record (kept target) { counter = grant.floor }) (role_granted (kept target).role)) None (eq-eqb (kept target).term row.term same)
            ∙ ap (in_role (record (kept target) { counter = grant.floor })) (ap role_granted at ∙ none)))
            (record { term = same; role = ap is_target at ∙ has })

        by : (role : Role) → (kept target).role ≡ role → Holds (bond_of (MovingTarget dfrom) role) row.term (kept target).term (master_at w target).applied
            → IsGranted (tablet_at granted_by.master row.tablet).handover
        by (Role.Wanting from) at both =
            let after : Handover = record (kept target) { counter = grant.floor; role = Role.Receiving } in
            subst
            (λ (moved : Option Handover). IsGranted (tablet_at (granting (master_at w target) grant moved).master row.tablet).handover)
            (sym
            (cond-true ((kept target).term == row.term) (in_role (record (kept target) { counter = grant.floor }) (role_granted (kept target).role)) None (eq-eqb (kept target).term row.term both.0)
            ∙ ap (λ (role : Role). in_role (record (kept target) { counter = grant.floor }) (role_granted role)) at))
            (subst (λ (it : Tablet). IsGranted it.handover)
            (sym
            (at_put (with_appended (master_at w target) (carried_entry after grant)) row.tablet
            (record (without_merged (tablet_in w target row.tablet)) { handover = after; completions = completions_from [] grant.ends; pulling = pulling_from grant.source })))
            (record { term = both.0; role = refl }))
        by Role.Receiving at same = stays Role.Receiving at refl refl same
        by (Role.Joining entry) at same = stays (Role.Joining entry) at refl refl same
        by _ at never = absurd never

    -- a target of a tablet that moves pulls or has all, or waits for its grant
    pub at_target : is_target (kept target).role ≡ true → ((kept target).role ≡ Role.Receiving) ⊎ (is_joining (kept target).role ≡ true)
    at_target has = by (kept target).role refl has
      where
        by : (role : Role) → (kept target).role ≡ role → is_target role ≡ true → ((kept target).role ≡ Role.Receiving) ⊎ (is_joining (kept target).role ≡ true)
        by Role.Receiving at it = inl at
        by (Role.Joining entry) at it = inr (ap is_joining at)
        by _ at never = absurd (false≢true never)
