-- A living master at which something is staged sends on its turn, and so does one at which a call waits.
use Rattle.std.proofs.Common.{◌≡◌, ◌≢◌, ◌<◌, ◌≤◌, ◌==◌, ◌&&◌, ℕ, Bool, true, false, not, List, [], ◌∷◌, length, Option, None, Some, refl}
use Rattle.std.proofs.Common.{sym, ap, subst, ◌∙◌, arith, drop, slice_get, option_map, length-drop}
use Rattle.rk_scripts.proofs.Words.{list_any, option_or, false≢true, NumberMap, get, Call, LANES, Entry, Gave, lane_at, IsWellFormed}
use Rattle.rk_scripts.proofs.Words.{is_staged, staged, refusal, where_true, HasRoom, world_stepped, stepped_by, World, has_crashed}
use Rattle.rk_scripts.proofs.Words.{master_at, StepError, Course, AllCaughtUp, wire_counts, get_first, IsGoodLane, Lasts, Node, Event}
use Rattle.std.proofs.lemmas.Option.{slice_get_within}
use Rattle.rk_scripts.proofs.play.Reaching.{lane_good}
use Rattle.rk_scripts.proofs.settle.Exchanged.{Sends}
use Rattle.rk_scripts.proofs.settle.Reached.{reached_caught}
use Rattle.rk_scripts.proofs.settle.Setting.{IsSane, Setting, here}

-- if an entry is at a place past so many, those past them are some
pub past_some : (list : List Entry) (count place : ℕ) (entry : Entry) → count ≤ place → slice_get list place ≡ Some entry → drop count list ≢ []
past_some list count place entry behind stands none =
    omega (arith, behind, slice_get_within list place entry stands, length-drop count list, ap (λ (it : List Entry). length it) none)

module _ (w : World) (master : ℕ) (lives_there : has_crashed w master ≡ false) where
  -- something staged is sent
  pub staged_sends : IsWellFormed w → HasRoom w → AllCaughtUp w → staged (master_at w master) ≢ [] → Sends w (Node.Master master)
  staged_sends formed room caught some fresh =
      let none : refusal w (Event.Turn (Node.Master master)) ≡ None =
      ap (λ (worn : Option ℕ). option_or (option_map StepError.Worn worn) (where_true (has_crashed w master) (StepError.Dead master))) fresh
      ∙ ap (λ (b : Bool). where_true b (StepError.Dead master)) lives_there in
      subst (λ (refused : Option StepError). w.wire.sent < (world_stepped w (stepped_by w (Event.Turn (Node.Master master)) (Gave None) refused)).wire.sent) (sym none)
      (wire_counts w master (Gave None) formed room.bytes caught some)

  -- if a call waits something is staged
  pub call_staged : (masters lane client seq : ℕ) → IsGoodLane Lasts masters lane w → is_staged (master_at w master) client seq ≡ true → staged (master_at w master) ≢ []
  call_staged masters lane client seq good waits = go (master_at w master).calls refl waits
    where
      go : (calls : NumberMap Call) → (master_at w master).calls ≡ calls → list_any (λ entry. entry.1.client == client && (entry.1.seq == seq)) calls ≡ true → staged (master_at w master) ≢ []
      go [] is none = absurd (false≢true none)
      go (first ∷ calls) is some =
          let wait = good.sound.rest.waiting master (ap not lives_there) first.0 first.1 (ap (λ (it : NumberMap Call). get it first.0) is ∙ get_first first calls) in
          past_some (master_at w master).log.entries (master_at w master).applied first.0 wait.entry wait.behind wait.stands

module _ (s : Setting) (course : Course) (sane : IsSane s course) (lane : ℕ) (inside : lane < LANES) where
  -- a lane of a sane course is good
  pub good_at : IsGoodLane Lasts s.masters lane (lane_at course.cluster lane)
  good_at = lane_good s.masters s.backups course.cluster (here s course sane) lane inside

  -- a master of it sends what is staged
  pub master_sends : (master : ℕ) → has_crashed (lane_at course.cluster lane) master ≡ false → staged (master_at (lane_at course.cluster lane) master) ≢ []
      → Sends (lane_at course.cluster lane) (Node.Master master)
  master_sends master living some =
      staged_sends (lane_at course.cluster lane) master living good_at.formed good_at.room
      (reached_caught s.masters s.backups course.cluster (here s course sane) lane inside) some
