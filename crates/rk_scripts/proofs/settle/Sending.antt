-- Who sends on its turn in a migration: a target that pulls, and a target that has all but is not done with its closing entry.
use Rattle.std.proofs.Common.{◌≡◌, ◌<◌, ◌≤◌, ◌+◌, ◌-◌, ◌==◌, ◌++◌, ℕ, Bool, true, false, cond, not, List, [], ◌∷◌, length, get_or, find}
use Rattle.std.proofs.Common.{map, All, Option, None, Some, is_some, refl, sym, ap, subst, ◌∙◌, ⊎_elim, arith, length-append, option_map}
use Rattle.std.proofs.Common.{nat_cmp}
use Rattle.rk_scripts.proofs.Words.{list_all, range_with_len, option_map_or, option_or, eq_by_cmp, false≢true, length-map}
use Rattle.rk_scripts.proofs.Words.{get_or-range_with_len, length-range_with_len, none-some, NumberMap, get, FIRST_SIDE_SEGMENT}
use Rattle.rk_scripts.proofs.Words.{NumberedBytes, Known, is_whole, is_side_stored, known_of, numbered, segment_of, segments, side_segments}
use Rattle.rk_scripts.proofs.Words.{cut, Message, Role, Gave, Master, duties, master_turn, tablet_duty, with_outstanding, refusal}
use Rattle.rk_scripts.proofs.Words.{where_true, filled, world_stepped, happened, ledger_after, stepped_by, Tablet, no_tablet}
use Rattle.rk_scripts.proofs.Words.{is_sealed_stored, World, has_crashed, master_at, tablet_in, StepError, sent_all, Node, Event}
use Rattle.std.proofs.lemmas.List.Folds.{length-flat_map-take}
use Rattle.rk_log.specs.Log.{missing, pending}
use Rattle.rk_log.specs.Piece.{PlacedBytes}
use Rattle.rk_world.specs.MasterTurn.{append_of, appends, pull_of, want_of}
use Rattle.rk_inv_lanes.proofs.applied.Logs.{fails_at}
use Rattle.rk_inv_base.proofs.logs.Segments.{numbered_at}
use Rattle.rk_scripts.proofs.settle.Exchanged.{Sends}

-- ---- a turn that sends

module _ (w : World) (m : ℕ) (living : has_crashed w m ≡ false) where
  -- a master that has something to send on its turn sends it
  pub turn_sends : 1 ≤ length (master_turn (master_at w m)).sends → Sends w (Node.Master m)
  turn_sends some fresh =
      let worked = master_turn (master_at w m) in
      let ledger = ledger_after w.ledger m 0 worked in
      let list = map (filled ledger.journal worked.served) worked.sends in
      let none : refusal w (Event.Turn (Node.Master m)) ≡ None =
      ap (λ (worn : Option ℕ). option_or (option_map StepError.Worn worn) (where_true (has_crashed w m) (StepError.Dead m))) fresh
      ∙ ap (λ (b : Bool). where_true b (StepError.Dead m)) living in
      let counted : w.wire.sent < (happened w (Event.Turn (Node.Master m)) (Gave None)).world.wire.sent =
      omega (arith, some, sent_all w.wire list, length-map worked.sends (filled ledger.journal worked.served)) in
      subst (λ (refused : Option StepError). w.wire.sent < (world_stepped w (stepped_by w (Event.Turn (Node.Master m)) (Gave None) refused)).wire.sent) (sym none)
      counted

-- ---- a target that pulls

duties_send : (list : NumberMap Tablet) (now : Master) (number : ℕ) (tablet : Tablet) → get list number ≡ Some tablet → tablet.handover.role ≡ Role.Receiving
    → 1 ≤ length (duties now list).sends
duties_send [] now number tablet found is = absurd (none-some tablet found)
duties_send (entry ∷ rest) now number tablet found is =
    let worked = tablet_duty now entry.0 entry.1 entry.1.handover.role in
    let later = duties worked.master rest in
    omega (
      arith,
      length-append worked.sends later.sends,
      go (eq_by_cmp nat_cmp number entry.0) found (λ behind. duties_send rest worked.master number tablet behind is),
    )
  where
    pulls : 1 ≤ length (tablet_duty now entry.0 entry.1 Role.Receiving).sends
    pulls =
        let it = with_outstanding entry.1 in
        omega (arith, length-append (want_of now entry.0 it it.pulling.hashes.outstanding) (pull_of now entry.0 it ∷ []))

    go : (b : Bool) → cond b (Some entry.1) (get rest number) ≡ Some tablet
        → (get rest number ≡ Some tablet → 1 ≤ length (duties (tablet_duty now entry.0 entry.1 entry.1.handover.role).master rest).sends)
        → 1 ≤ length (tablet_duty now entry.0 entry.1 entry.1.handover.role).sends + length (duties (tablet_duty now entry.0 entry.1 entry.1.handover.role).master rest).sends
    go true here later =
        let same : entry.1 ≡ tablet = cc here in
        let role_is = ap (λ (it : Tablet). it.handover.role) same ∙ is in
        omega (arith, subst (λ (role : Role). 1 ≤ length (tablet_duty now entry.0 entry.1 role).sends) (sym role_is) pulls)
    go false there later = omega (arith, later there)

pub receiving_sends : (w : World) (m number : ℕ) → has_crashed w m ≡ false → (tablet_in w m number).handover.role ≡ Role.Receiving → Sends w (Node.Master m)
receiving_sends w m number living is = grind (arith, turn_sends, length-append, master_at, duties, no_tablet, false≢true, duties_send)

-- ---- a target whose side segments are not all stored

-- a segment that is found, and passes, makes some one found
one_found : (test : NumberedBytes → Bool) (list : List NumberedBytes) (number : ℕ) (segment : NumberedBytes) → segment_of number list ≡ Some segment → test segment ≡ true
    → is_some (find test list) ≡ true
one_found test [] number segment found passes = absurd (none-some segment found)
one_found test (x ∷ list) number segment found passes = go (x.number == number) found (λ later. one_found test list number segment later passes)
  where
    by : (b : Bool) → is_some (find test list) ≡ true → is_some (cond b (Some x) (find test list)) ≡ true
    by true some = refl
    by false some = some

    go : (b : Bool) → cond b (Some x) (segment_of number list) ≡ Some segment → (segment_of number list ≡ Some segment → is_some (find test list) ≡ true)
        → is_some (cond (test x) (Some x) (find test list)) ≡ true
    go true here later =
        let same : x ≡ segment = cc here in
        subst (λ (b : Bool). is_some (cond b (Some x) (find test list)) ≡ true) (sym (ap test same ∙ passes)) refl
    go false there later = by (test x) (later there)

found_behind : (test : NumberedBytes → Bool) (list more : List NumberedBytes) → is_some (find test more) ≡ true → is_some (find test (list ++ more)) ≡ true
found_behind test [] more some = some
found_behind test (x ∷ list) more some = grind (arith, (found_behind test list more some))

-- a side segment that is there is found
there_found : (sides : List (List ℕ)) (first number : ℕ) → first ≤ number → number < first + length sides → is_some (segment_of number (numbered first sides)) ≡ true
there_found sides first number low high =
    ap (λ (found : Option NumberedBytes). is_some found) (numbered_at number first (number - first) sides (omega (arith, low)) (omega (arith, low, high)))

module _ (master : Master) (number : ℕ) (backed : 1 ≤ length master.log.known) where
  -- not stored, it is sent on
  side_sent : FIRST_SIDE_SEGMENT ≤ number → number < FIRST_SIDE_SEGMENT + length master.log.sides → is_side_stored master.log number ≡ false → 1 ≤ length (appends master)
  side_sent low high unstored =
      go (segment_of number (side_segments master.log)) refl (there_found master.log.sides FIRST_SIDE_SEGMENT number low high)
    where
      known : List Known
      known = master.log.known

      sent : ℕ → List Message
      sent backup = append_of master backup (pending master.log backup)

      one : (piece : Option PlacedBytes) (backup : ℕ) → is_some piece ≡ true → 1 ≤ length (append_of master backup piece)
      one None backup never = absurd (false≢true never)
      one (Some piece) backup some = omega arith

      still : (it : Option NumberedBytes) (k : Known) → is_some it ≡ true → is_some (option_map (missing k) it) ≡ true
      still None k never = never
      still (Some segment) k some = refl

      by : (segment : NumberedBytes) → segment_of number (side_segments master.log) ≡ Some segment → list_all (λ k. is_whole k segment) known ≡ false → 1 ≤ length (appends master)
      by segment found fails =
          let at = fails_at (λ k. is_whole k segment) known [] fails in
          let k : Known = get_or known at.place [] in
          let some : is_some (find (λ s. not (is_whole k s)) (segments master.log)) ≡ true =
          found_behind (λ s. not (is_whole k s)) (numbered 1 (cut master.log.entries)) (side_segments master.log)
          (one_found (λ s. not (is_whole k s)) (side_segments master.log) number segment found (ap not at.fails)) in
          let place_is : at.place + 1 - 1 ≡ at.place = omega arith in
          let known_is : known_of master.log (at.place + 1) ≡ k = ap (λ (n : ℕ). get_or known n []) place_is in
          let sends : is_some (pending master.log (at.place + 1)) ≡ true =
          subst (λ (it : Known). is_some (option_map (missing it) (find (λ s. not (is_whole it s)) (segments master.log))) ≡ true) (sym known_is)
          (still (find (λ s. not (is_whole k s)) (segments master.log)) k some) in
          let count : ℕ = length known in
          let is : get_or (range_with_len 1 count) at.place 0 ≡ at.place + 1 = omega (arith, get_or-range_with_len 1 count at.place 0 at.within) in
          omega (
            arith,
            length-flat_map-take sent (range_with_len 1 count) at.place 0 (omega (arith, at.within, length-range_with_len 1 count)),
            ap (λ (backup : ℕ). length (sent backup)) is,
            one (pending master.log (at.place + 1)) (at.place + 1) sends,
          )

      go : (it : Option NumberedBytes) → segment_of number (side_segments master.log) ≡ it → is_some it ≡ true → 1 ≤ length (appends master)
      go None is never = absurd (false≢true never)
      go (Some segment) is some =
          by segment is (ap (λ (o : Option NumberedBytes). option_map_or (λ it. list_all (λ k. is_whole k it) known) o false) (sym is) ∙ unstored)
      -- the first side segment that is not stored is sent on

sealed_sent : (master : Master) (sealed : List ℕ) → 1 ≤ length master.log.known → All (λ n. FIRST_SIDE_SEGMENT ≤ n) sealed
    → All (λ n. n < FIRST_SIDE_SEGMENT + length master.log.sides) sealed → list_all (is_side_stored master.log) sealed ≡ false → 1 ≤ length (appends master)
sealed_sent master sealed backed low high fails =
    let at = fails_at (is_side_stored master.log) sealed 0 fails in
    side_sent master (get_or sealed at.place 0) backed (low at.place 0 at.within) (high at.place 0 at.within) at.fails

pub waiting_sends : (w : World) (m number : ℕ) → has_crashed w m ≡ false → 1 ≤ length (master_at w m).log.known
    → All (λ n. FIRST_SIDE_SEGMENT ≤ n) (tablet_in w m number).pulling.sealed
    → All (λ n. n < FIRST_SIDE_SEGMENT + length (master_at w m).log.sides) (tablet_in w m number).pulling.sealed
    → is_sealed_stored (master_at w m) (tablet_in w m number) ≡ false → Sends w (Node.Master m)
waiting_sends w m number living backed low high fails = grind (arith, turn_sends, length-append, master_at, duties, sealed_sent, tablet_in)
