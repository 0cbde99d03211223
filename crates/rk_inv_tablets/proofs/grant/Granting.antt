-- A target is granted its tablet: what is known of its row, what changes at its master, and what stays as it was.
use Rattle.std.proofs.Common.{◌≡◌, ℕ, ◌≤◌, max, true, false, List, [], ◌∷◌, ◌++◌, length, refl, sym, ap, ◌∙◌, inl, arith, drop, All, ◌<◌}
use Rattle.std.proofs.Common.{eq-eqb, eqb-true, ne_eqb}
use Rattle.rk_inv_base.proofs.Words.{list_any, Member, Range, Entry, completions_from, Handover, Role, lineage_of, Row, with_entry, Grant}
use Rattle.rk_inv_base.proofs.Words.{no_gather, carried_entry, last_of, unmarked_from, touches, counting, counts, has_all, is_idle, Tablet}
use Rattle.rk_inv_base.proofs.Words.{pulling_from, Written, lineage_rest, member_rest, IsBare, wanted_place, with_one_more, View, rests}
use Rattle.rk_inv_base.proofs.Words.{SoundView, is_absent, stored_count, cases_Bool, cond-true, cond-false, Phase, Rebuilding, is_member}
use Rattle.rk_inv_base.proofs.Words.{is_opening, Post, bond_of, post_of, rebuilder_post, Holds, IsFormed}
use Rattle.rk_inv_tablets.proofs.Words.{put_by, put2_by, put2_here, put2_other, put_other, applied_within, last_member, rest_inside}
use Rattle.rk_inv_tablets.proofs.Words.{MayGrantFormed, as_granted, granted, row_in, SoundRow, logs_grown, none_stored, stored_push}
use Rattle.rk_inv_tablets.proofs.Words.{needed_grown, speaker_of, has_itself}
use Rattle.rk_inv_base.proofs.views.Turned.{IsTurned}
use Rattle.rk_inv_tablets.proofs.grow.Grown.{Growing}
use Rattle.rk_inv_tablets.proofs.grow.MoreLog.{more_itself, HasMore, more_one}
use Rattle.rk_inv_tablets.proofs.ready.Outside.{second_member, last_post}
use Rattle.rk_transfer.specs.declared.role.Role.TheVariants as roles
use Rattle.rk_transfer.specs.declared.role.Role.TheVariants as roles

-- a master is the second of two members of a lineage, and may take a grant: it is another one than the first, its post takes a target
-- that pulls, and it alone may speak for the row, which does not open; if it is to rebuild the row, it keeps a smaller term
pub record IsTaker (phase : Phase) (source master term own applied : ℕ) : Type 0 where
  pub apart : source ≡ master → ⊥
  pub fits : Holds (bond_of (post_of phase master) roles.Receiving) term own applied
  pub speaks : master ≡ speaker_of phase
  pub moved : is_opening phase ≡ false
  pub behind : (lineage : List Member) (to : ℕ) → phase ≡ Rebuilding lineage to → own < term

module _ (term own applied from : ℕ) where
  -- a master with this post waits for its grant, and with this one it may take it
  abbrev Waits : Post → Type 0
  Waits post = Holds (bond_of post (roles.Wanting from)) term own applied

  abbrev Takes : Post → Type 0
  Takes post = Holds (bond_of post roles.Receiving) term own applied

  of_rebuilding : (source target : Member) (to : ℕ) → IsFormed (Rebuilding (source ∷ target ∷ []) to) → Waits (post_of (Rebuilding (source ∷ target ∷ []) to) target.master) → IsTaker (Rebuilding (source ∷ target ∷ []) to) source.master target.master term own applied
  of_rebuilding source target to formed waits =
      grind (arith, is_member, rebuilder_post, last_post, post_of, cond-true, eqb-true, cond-false, second_member, cases_Bool)

-- a grant that the target of a row may take, in a sound view
pub record Granting (v : View) : Type 0 where
  pub row : Row
  pub source : Member
  pub target : Member
  pub grant : Grant
  pub sound : SoundView v
  pub may : MayGrantFormed v row source target grant

module _ (v : View) (a : Granting v) where
  -- the master of the target, and what it had of the tablet
  abbrev pub master : ℕ
  master = a.target.master

  abbrev pub old : Handover
  old = v.handovers a.target.master a.row.tablet

  -- the entry that carries what the source handed over
  abbrev pub entry : Entry
  entry = carried_entry (v.handovers a.target.master a.row.tablet) a.grant

  -- the view with the grant
  abbrev pub now : View
  now = granted v a.target.master a.row.tablet a.grant

  -- what the master has of the tablet now
  abbrev pub tablet : Tablet
  tablet = record {
    handover = as_granted a.grant.floor (v.handovers a.target.master a.row.tablet);
    completions = completions_from [] a.grant.ends;
    pulling = pulling_from a.grant.source;
    gather = no_gather;
    merged_ends = [];
  }

  -- ---- what is kept

  -- what holds of what is written with the entry, and of that as it was, holds of each; so it is of handovers
  pub of_written : (P : Written → Type 0) (q : ℕ) → (q ≡ master → P (with_one_more (v.written q) entry)) → ((q ≡ master → ⊥) → P (v.written q)) → P (now.written q)
  of_written P q here was = put_by v.written master (λ w. with_one_more w entry) P q here was

  pub of_handover : (P : Handover → Type 0) (q r : ℕ) → (q ≡ master → r ≡ a.row.tablet → P (as_granted a.grant.floor (v.handovers q r))) → ((q ≡ master → r ≡ a.row.tablet → ⊥) → P (v.handovers q r)) → P (now.handovers q r)
  of_handover P q r here was = put2_by v.handovers master a.row.tablet (as_granted a.grant.floor) P q r here was

  -- of the tablet the master has that, and all others have what they had
  pub turned : IsTurned v now master a.row.tablet tablet
  turned = grind (arith, put2_here, as_granted, completions_from, pulling_from, no_gather, put2_other)

  -- the master waits for it
  pub waits : (q r : ℕ) → q ≡ master → r ≡ a.row.tablet → (v.handovers q r).role ≡ roles.Wanting a.target.from
  waits q r at its = ap (λ (n : ℕ). (v.handovers n r).role) at ∙ ap (λ (n : ℕ). (v.handovers master n).role) its ∙ a.may.may.waiting

  -- what does not distinguish the old role and counter from the new ones is the same of each tablet
  pub seen_same : {X : Type 0} (f : Handover → X) → ((h : Handover) → h.role ≡ roles.Wanting a.target.from → f (as_granted a.grant.floor h) ≡ f h) → (q r : ℕ) → f (now.handovers q r) ≡ f (v.handovers q r)
  seen_same {X} f same q r =
      of_handover (λ (h : Handover). f h ≡ f (v.handovers q r)) q r (λ at its. same (v.handovers q r) (waits q r at its)) (λ apart. refl)

  -- so it is of what does not distinguish the two roles
  pub by_role : {X : Type 0} (f : Role → X) → f roles.Receiving ≡ f (roles.Wanting a.target.from) → (q r : ℕ) → f (now.handovers q r).role ≡ f (v.handovers q r).role
  by_role f same = seen_same (λ h. f h.role) (λ h is. same ∙ sym (ap f is))

  pub same_term : (q r : ℕ) → (now.handovers q r).term ≡ (v.handovers q r).term
  same_term = seen_same (λ h. h.term) (λ h is. refl)

  pub applied_same : (q : ℕ) → (now.written q).applied ≡ (v.written q).applied
  applied_same q = of_written (λ (w : Written). w.applied ≡ (v.written q).applied) q (λ at. refl) (λ apart. refl)

  -- ---- the row

  -- what is known of it
  pub row_was : SoundRow v a.row
  row_was = row_in v a.sound a.row a.may.may.has_row

  -- the master may take the grant
  pub taker : IsTaker a.row.phase a.source.master master a.row.term old.term (v.written master).applied
  taker = grind (arith, row_was, of_rebuilding, post_of, cond-false, ne_eqb, cond-true, eq-eqb)

  -- it keeps the row's range
  pub ranged : old.range ≡ a.row.range
  ranged = grind (arith, row_was, last_member, lineage_of, last_of)

  -- the target made ready, and has nothing of its row behind its place
  pub bare : IsBare old.range a.target.from (v.written master) (v.records master)
  bare = grind (arith, wanted_place)

  -- nor anything that is not applied
  pub settled : list_any (touches a.row.range) (drop (v.written master).applied (v.written master).entries) ≡ false
  settled = row_was.rest.idle master (inl a.may.may.lives) (ap is_idle a.may.may.waiting)

  -- ---- the log

  -- the entry is of the row's range
  pub inside : counts a.row.range entry ≡ true
  inside = ap (λ (range : Range). has_all range a.row.range) ranged ∙ has_itself a.row.range

  pub marked : (q : ℕ) → All (λ mark. mark.past ≤ length (v.written q).entries) (v.written q).marks
  marked q = (a.sound.logs.each q).marked

  -- the log grows by it
  abbrev pub grow : Growing v
  grow = record {
    row = a.row;
    master = master;
    logs = now.logs;
    written = now.written;
    sound = a.sound;
    has_row = a.may.may.has_row;
    ranges = a.may.ranges;
    lives = a.may.may.lives;
    present = ap is_absent a.may.may.waiting;
    ranged = ranged;
    logs_are = logs_grown v master entry a.may.may.room a.sound.logs (none_stored (v.logs master) entry refl);
    known = λ q. put_by v.logs master (λ log. with_entry log entry) (λ log. log.known ≡ (v.logs q).known) q (λ at. refl) (λ apart. refl);
    more = λ q.
        of_written (HasMore a.row (v.written q)) q
        (λ at. more_one a.row (v.written q) entry (applied_within (v.logs q) (v.written q) _ (a.sound.logs.each q)) ranged refl)
        (λ apart. more_itself a.row (v.written q));
    others = λ q apart. put_other v.written master (with_one_more (v.written master) entry) q apart;
    stored = λ q stored.
        put_by v.logs master (λ log. with_entry log entry) (λ log. stored_count (v.logs q) stored ≤ stored_count log stored) q
        (λ at. stored_push (v.logs q) entry stored) (λ apart. omega arith);
    needed = λ x has lineage q. needed_grown v.written master entry marked x lineage q;
  }

  -- the place of the target is one of its log
  pub target_placed : a.target.from ≤ length (v.written master).entries
  target_placed = grind (arith, row_was)

  target_grown : member_rest now.written a.row.range a.target ≡ member_rest v.written a.row.range a.target ++ entry ∷ []
  target_grown =
      let from : ℕ = a.target.from in
      of_written
      (λ (w : Written). counting a.row.range (unmarked_from w.marks (max from w.applied) w.entries)
      ≡ member_rest v.written a.row.range a.target ++ entry ∷ []) master
      (λ at.
      let w : Written = v.written master in
      rest_inside a.row.range entry inside w.marks (max from w.applied) w.entries (marked master)
      (omega (arith, target_placed, applied_within (v.logs master) (v.written master) _ (a.sound.logs.each master))))
      (λ apart. absurd (apart refl))

  -- the rest of the row has the entry at its end, and each other one is as it was
  pub rest_here : rests now a.row ≡ rests v a.row ++ entry ∷ []
  rest_here = grind (arith, lineage_rest, target_grown)
