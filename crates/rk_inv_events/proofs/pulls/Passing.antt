-- What a target makes of a batch of its source: it replays the items and passes on to the next token; behind the last batch it seals what
-- it copied, and if it copied nothing it appends its closing entry at once.
use Rattle.std.proofs.Common.{arith, Contains, List, Option, Some, [], ap, fold, inl, inr, length, refl, subst, sym, true, ℕ, ◌++◌, ◌<◌}
use Rattle.std.proofs.Common.{◌∙◌, ◌≡◌}
use Rattle.rk_transfer.specs.declared.role.Role.TheVariants as roles
use Rattle.rk_inv_base.proofs.Words.{BATCH_BYTES, Contains-append_cases, Entry, HasSegmentLeft, Held, IsPulling, IsSound, Master, Member}
use Rattle.rk_inv_base.proofs.Words.{Range, Row, Tablet, Token, View, World, as_closed, batch_at, closing_appended, closing_entry}
use Rattle.rk_inv_base.proofs.Words.{is_side_stored, joined, joined_entry, joining_at, joining_by, log_in, master_at, meets, member_truth}
use Rattle.rk_inv_base.proofs.Words.{next_sides, next_token, passed, pulled_all, replay, sealed_sides, sealing, source_items, tablet_at}
use Rattle.rk_inv_base.proofs.Words.{tablet_in, token_passed, view, with_entry, with_handover, with_master, with_pulling, with_side_segment}
use Rattle.rk_inv_base.proofs.Words.{with_tablet}
use Rattle.rk_inv_base.proofs.Headlines.{sound_passed}
use Rattle.rk_inv_tablets.proofs.Headlines.{sound_sealed}
use Rattle.rk_inv_tablets.proofs.seal.Sealed.{sealed_is}
use Rattle.rk_inv_tablets.specs.seal.Small.{as_joining, as_sealed, side_lists_sealed_in, with_sides}
use Rattle.rk_inv_events.proofs.Words.{MaySealThere, law_passed, master_same, put_here, role_joined, sound_closing, tablet_here}
use Rattle.rk_inv_events.proofs.events.Pairs.{insert_twice}
use Rattle.rk_inv_events.proofs.events.Working.{moved_itself, put_again}
use Rattle.rk_inv_events.proofs.pulls.Targets.{batch_stands, found_in, found_there, passed_found, passed_stands, replayed_all, same_source}
use Rattle.rk_inv_events.proofs.pulls.Targets.{scan_in_order, still_pulls}

-- ---- a batch

module _ (w : World) (sound : IsSound w) (row : Row) (source target : Member) (pulls : IsPulling (view w) row source target) where
  abbrev all : List Held
  all = source_items (view w) row source

  -- a target takes the batch at its token
  pub sound_batch : (worker : ℕ) → worker < 4 → (token next : Token) (items : List Held) → token ≡ ((view w).pullings target.master row.tablet).token
      → items ≡ batch_at token BATCH_BYTES all → next ≡ next_token token BATCH_BYTES all
      → IsSound (with_master w target.master (token_passed (replay (master_at w target.master) row.tablet worker items) row.tablet next))
  sound_batch worker few token next items token_is items_are next_is =
      let now : Master = replay (master_at w target.master) row.tablet worker items in
      let truth : List Entry = member_truth (view w).written row.range source in
      let from_source : (x : Held) → Contains items x → Contains all x =
      λ x at. batch_stands truth token x (subst (λ (list : List Held). Contains list x) items_are at) in
      let done = replayed_all row source target worker few w items sound pulls from_source in
      let after : World = with_master w target.master now in
      let still = still_pulls w row source target items now done pulls in
      let same = same_source w row source target items now done in
      let behind : passed next all ≡ passed token all ++ items =
      ap (λ (t : Token). passed t all) next_is ∙ law_passed token BATCH_BYTES all (scan_in_order truth)
      ∙ ap (λ (list : List Held). passed token all ++ list) (sym items_are) in
      subst IsSound (put_again w target.master now (λ m. token_passed m row.tablet next))
      (sound_passed after row source target next done.sound
      (record {
        pulling = still;
        arrived = λ item at.
            found_there (view after) done.sound row source target still item
            (passed_stands (member_truth (view after).written row.range source) next item at)
            (found_in w row source target items now done item
            (elim
            (Contains-append_cases (passed token all) items item
            (subst (λ (list : List Held). Contains list item) (ap (passed next) same ∙ behind) at)) [
              | inl before ↦
                  done.still item
                  (passed_found (view w) sound row source target pulls item
                  (subst (λ (t : Token). Contains (passed t all) item) token_is before))
              | inr came ↦ done.found item came
            ]));
      }))

-- ---- behind the last one

module _ (w : World) (sound : IsSound w) (master number : ℕ) (may : MaySealThere (view w) master number) (room : HasSegmentLeft (log_in w master))
    (some : meets (tablet_in w master number).handover.range (tablet_in w master number).handover.range ≡ true) where
  abbrev own : Master
  own = master_at w master

  abbrev kept : Tablet
  kept = tablet_in w master number

  abbrev numbers : List ℕ
  numbers = next_sides own (length (sealed_sides kept.pulling.sides))

  -- the tablet with what is sealed, before it joins
  abbrev full : Tablet
  full = with_pulling kept (as_sealed numbers kept.pulling)

  abbrev cut : Master
  cut = sealing own number kept

  full_is : tablet_at cut number ≡ full
  full_is = tablet_here (fold with_side_segment own (sealed_sides kept.pulling.sides)) number full

  -- it joins, without its closing entry
  abbrev joining : Master
  joining = with_tablet cut number (with_handover full (as_joining kept.handover))

  abbrev waiting : World
  waiting = with_master w master joining

  waiting_is : side_lists_sealed_in w master number ≡ waiting
  waiting_is = ap (λ (t : Tablet). with_master w master (with_tablet cut number (with_handover t (as_joining kept.handover)))) full_is

  sound_waiting : IsSound waiting
  sound_waiting = subst IsSound waiting_is (sound_sealed w master number sound may)

  -- what is seen of the tablet then
  tablet_is : tablet_in waiting master number ≡ with_handover full (as_joining kept.handover)
  tablet_is = ap (λ (m : Master). tablet_at m number) (master_same w master joining master refl)
      ∙ tablet_here cut number (with_handover full (as_joining kept.handover))

  room_left : HasSegmentLeft (log_in waiting master)
  room_left =
      rw
      (ap (λ (v : View). v.logs master) (ap view (sym waiting_is) ∙ sealed_is w master number)
      ∙ put_here (view w).logs master (with_sides (log_in w master) (sealed_sides kept.pulling.sides)) master refl) room

  -- and if nothing was to be sealed, its closing entry is appended
  abbrev closes : Master → Master
  closes m = closing_appended m number (tablet_at m number) (as_closed (length m.log.entries) (tablet_at m number).handover)

  sound_closes : numbers ≡ [] → IsSound (with_master w master (closes joining))
  sound_closes none = subst IsSound (put_again w master joining closes)
      (sound_closing waiting master number sound_waiting
      (record {
        lives = may.may.lives;
        joining = ap (λ (t : Tablet). t.handover.role) tablet_is;
        room = room_left;
        stored = grind (arith, is_side_stored, log_in, tablet_is);
        some = subst (λ (range : Range). meets range range ≡ true) (sym (ap (λ (t : Tablet). t.handover.range) tablet_is)) some;
      }))

  closes_is : closes joining ≡ closing_appended cut number full (record kept.handover { role = roles.Joining (Some (length cut.log.entries)) })
  closes_is = grind (arith, with_handover, as_closed, closing_appended, tablet_here, with_entry, joined_entry, insert_twice)

  joins : (entry : Option ℕ) → joined kept.handover kept.handover.term entry ≡ Some (record kept.handover { role = roles.Joining entry })
  joins entry = moved_itself kept.handover.term kept.handover (role_joined entry kept.handover.role) (roles.Joining entry)
      (ap (role_joined entry) may.may.receiving)

  by_numbers : (list : List ℕ) → numbers ≡ list → IsSound (with_master w master (joining_by cut number full list))
  by_numbers list none = grind (arith, with_master, closing_entry, joins, closes_is, sound_closes, joining_at, sound_waiting)

  -- a target has pulled all
  pub sound_pulled_all : IsSound (with_master w master (pulled_all own number))
  sound_pulled_all = subst (λ (t : Tablet). IsSound (with_master w master (joining_by cut number t t.pulling.sealed))) (sym full_is)
      (by_numbers numbers refl)
