-- A lane stays sound when a master crashes while another one lives: what is said of living masters is said of fewer, and what the dead
-- one had merged of a rebuild that was not taken records nothing new.
use Rattle.std.proofs.Common.{arith, ◌≡◌, ◌≤◌, ℕ, true, false, List, [], ◌∷◌, length, refl, sym, ap, ◌∙◌, ⊎_elim, inl, inr, All, Contains}
use Rattle.std.proofs.Common.{slice_index_or, ◌==◌, eq-eqb, ne_eqb, ◌<◌}
use Rattle.rk_inv_base.proofs.Words.{cases_Bool, cases_eq, false≢true, or_left, or_right, All-contains, All-weaker, Contains-get_or}
use Rattle.rk_inv_base.proofs.Words.{list_any-append, Member, Node, lineage_of, Phase, Rebuilding, Row, Body, Got, Pulled, ReadSegment}
use Rattle.rk_inv_base.proofs.Words.{LAST_MAIN_SEGMENT, is_member, World, has_crashed, lives, PulledAgrees, GotAgrees, ReadIn, MarkFits}
use Rattle.rk_inv_base.proofs.Words.{MarkedFit, AreApart, IsFormed, put, View, view, SoundView, false_from_ne_true, EachIn, SomeLives}
use Rattle.rk_inv_tablets.proofs.Words.{put_by, put_is, put_other, if_master, MayCrashFormed, CountsFor, SaysIn, IsRebuiltIn}
use Rattle.rk_world.specs.World.{with_crash}
use Rattle.rk_inv_tablets.specs.crash.Small.{crashed}
use Rattle.rk_inv_tablets.proofs.crash.MarksTold.{first_told, last_told, only_told, rebuilds_it}

module _ (v : View) (master : ℕ) (sound : SoundView v) (may : MayCrashFormed v master) where
  abbrev now : View
  now = crashed v master

  -- who lives now lived before, who was dead is so still, and what counts now counted
  lived : (q : ℕ) → now.live q ≡ true → v.live q ≡ true
  lived q = put_by v.live master (λ _. false) (λ b. b ≡ true → v.live q ≡ true) q (λ is e. absurd (false≢true e)) (λ apart e. e)

  dead_still : (q : ℕ) → v.live q ≡ false → now.live q ≡ false
  dead_still q dead = put_by v.live master (λ _. false) (λ b. b ≡ false) q (λ is. refl) (λ apart. dead)

  counted : (q : ℕ) (row : Row) → CountsFor now row q → CountsFor v row q
  counted q row = ⊎_elim (λ lives. inl (lived q lives)) (λ at. inr at)

  -- a row, by its place
  abbrev at : ℕ → Row → Row
  at k d = slice_index_or v.rows k d

  -- ---- messages

  pulled_on : (row : Row) (lineage : List Member) (from : Node) (q : ℕ) (pulled : Pulled) → PulledAgrees row v.written v.handovers v.live lineage from q pulled → PulledAgrees row v.written v.handovers now.live lineage from q pulled
  pulled_on row (source ∷ target ∷ []) from q pulled agrees = λ here lives is. agrees here (lived q lives) is
  pulled_on row _ from q pulled agrees = tt

  got_on : (row : Row) (lineage : List Member) (from : Node) (q : ℕ) (got : Got) → GotAgrees row v.written v.handovers v.live lineage from q got → GotAgrees row v.written v.handovers now.live lineage from q got
  got_on row (source ∷ target ∷ []) from q got agrees = λ here lives is. agrees here (lived q lives) is
  got_on row _ from q got agrees = tt

  read_on : (phase : Phase) (to : Node) (read : ReadSegment) → ReadIn phase v.live to read → ReadIn phase now.live to read
  read_on (Rebuilding lineage by) to read says = (says.0, dead_still read.master says.1)
  read_on _ to read says = tt

  -- what a message says of a row it says still
  says_on : (x : Row) (from to : Node) (body : Body) → SaysIn v x from to body → SaysIn now x from to body
  says_on x from to body says = grind (arith, if_master, lives, lived, pulled_on, lineage_of, got_on, read_on, dead_still)

  -- ---- rebuilds

  -- who is dead now was so, or is the master that crashes
  dead_or : {P : Type 0} (q : ℕ) → now.live q ≡ false → (v.live q ≡ false → P) → (v.live q ≡ true → q ≡ master → P) → P
  dead_or q dead was crashes = grind (arith, lives, false≢true, put_other, cases_eq, cases_Bool)

  -- what it has in marked pieces of a row records nothing new
  module _ (row : Row) (has : Contains v.rows row) where
    some : row.range.first ≤ row.range.last
    some = All-contains (λ (r : Row). r.range.first ≤ r.range.last) v.rows row may.ranges has

    few : (q : ℕ) → q ≡ master → All (λ gathered. length gathered.main ≤ LAST_MAIN_SEGMENT) (v.gathers q row.tablet).members
    few q at = rw at (may.gathered row.tablet)

    module _ (lineage : List Member) (to : ℕ) (is : row.phase ≡ Rebuilding lineage to) where
      -- a member that lived rebuilt the row
      by_it : (q : ℕ) → is_member lineage q ≡ true → v.live q ≡ true → row.phase ≡ Rebuilding lineage q
      by_it q member lives = is ∙ ap (Rebuilding lineage) (rebuilds_it v sound may.readable row has some lineage to q is member lives)

      -- so the other one was dead
      other_dead : (a b : ℕ) → (a ≡ b → ⊥) → is_member lineage a ≡ true → is_member lineage b ≡ true → v.live a ≡ true → v.live b ≡ false
      other_dead a b apart first second lives =
          false_from_ne_true (v.live b)
          (λ both. apart
          (sym (rebuilds_it v sound may.readable row has some lineage to a is first lives)
          ∙ rebuilds_it v sound may.readable row has some lineage to b is second both))

    marks_told : (lineage : List Member) (to : ℕ) → row.phase ≡ Rebuilding lineage to → AreApart lineage → MarkedFit v.logs v.written v.stored v.live row.range lineage → MarkedFit v.logs v.written v.stored now.live row.range lineage
    marks_told (only ∷ []) to is formed fit = λ dead.
        dead_or only.master dead fit
        (λ lives at.
        only_told v sound may.readable row has some only
        (by_it (only ∷ []) to is only.master (or_left (only.master == only.master) false (eq-eqb only.master only.master refl)) lives) lives)
    marks_told (first ∷ last ∷ []) to is formed fit =
        let both : List Member = first ∷ last ∷ [] in
        let is_first : is_member both first.master ≡ true =
        or_left (first.master == first.master) (is_member (last ∷ []) first.master) (eq-eqb first.master first.master refl) in
        let is_last : is_member both last.master ≡ true =
        or_right (first.master == last.master) (is_member (last ∷ []) last.master)
        (or_left (last.master == last.master) false (eq-eqb last.master last.master refl)) in (
          λ dead.
              dead_or first.master dead fit.0
              (λ lives at.
              first_told v sound may.readable row has some first last formed (by_it both to is first.master is_first lives) lives
              (other_dead both to is first.master last.master formed is_first is_last lives) (few first.master at)),
          λ dead.
              dead_or last.master dead fit.1
              (λ lives at.
              last_told v sound may.readable row has some first last formed (by_it both to is last.master is_last lives) lives
              (other_dead both to is last.master first.master (λ same. formed (sym same)) is_last is_first lives) (few last.master at)),
        )
    marks_told _ to is formed fit = absurd formed

  rebuilt_on : (x : Row) → Contains v.rows x → (phase : Phase) → x.phase ≡ phase → IsFormed phase → IsRebuiltIn v x phase → IsRebuiltIn now x phase
  rebuilt_on x has (Rebuilding lineage to) is formed was = (was.0, marks_told x has lineage to is formed was.1)
  rebuilt_on x has _ is formed was = tt

  pub view_crashed : SoundView now
  view_crashed =
      let left : (q : ℕ) → now.live q ≡ false → SomeLives v.masters now.live = λ q dead. record {
        master = may.may.other;
        there = may.may.there;
        lives = put_other v.live master false may.may.other may.may.another ∙ may.may.lives;
      } in
      let rebuilt : All (λ row. IsRebuiltIn now row row.phase) v.rows = λ k d within.
      rebuilt_on (at k d) (Contains-get_or v.rows k d within) (at k d).phase refl (sound.rows.formed k d within) (sound.rebuilds.rebuilt k d within) in
      let marks : (q : ℕ) → All (λ row. All (λ mark. mark.tablet ≡ row.tablet → MarkFits row q (v.handovers q row.tablet) (now.live q) (v.written q) mark) (v.written q).marks) v.rows = λ q k d within j m stands its.
      let fit = sound.rebuilds.marks q k d within j m stands its in
      assumption (λ (lives : now.live q ≡ true). fit.present (lived q lives)) in
      let says : EachIn (λ n m. All (λ row. SaysIn now row m.from m.to m.body) v.rows) v.wire = λ n m found k d within.
      says_on (at k d) m.from m.to m.body (sound.messages.of_rows n m found k d within) in
      assumption (
        All-weaker _ (λ q. now.live q ≡ false) dead_still v.noticed sound.nodes.crashed,
        λ (q k : ℕ) (d : Row) (within : k < length v.rows) (counts : CountsFor now (at k d) q).
            sound.roles.fitting q k d within (counted q (at k d) counts),
        λ (q k : ℕ) (d : Row) (within : k < length v.rows) (counts : CountsFor now (at k d) q).
            sound.roles.ranged q k d within (counted q (at k d) counts),
        λ (q k : ℕ) (d : Row) (within : k < length v.rows) (counts : CountsFor now (at k d) q).
            sound.calls.answering q k d within (counted q (at k d) counts),
        λ (q k : ℕ) (d : Row) (within : k < length v.rows) (counts : CountsFor now (at k d) q).
            sound.counters.counted q k d within (counted q (at k d) counts),
        λ (q k : ℕ) (d : Row) (within : k < length v.rows) (counts : CountsFor now (at k d) q).
            sound.rest.idle q k d within (counted q (at k d) counts),
        λ (q r : ℕ) (lives : now.live q ≡ true). sound.roles.known q r (lived q lives),
        λ (q r : ℕ) (lives : now.live q ≡ true). sound.calls.known q r (lived q lives),
        λ (q : ℕ) (lives : now.live q ≡ true). sound.rest.waiting q (lived q lives),
        λ (q : ℕ) (lives : now.live q ≡ true). sound.rest.are_last q (lived q lives),
        λ (q : ℕ) (lives : now.live q ≡ true). sound.rest.found q (lived q lives),
        λ (q : ℕ) (lives : now.live q ≡ true). sound.records.items q (lived q lives),
      )

-- a world in which a master crashes is seen so
live_now : (w : World) (master q : ℕ) → lives (with_crash w master) q ≡ put (lives w) master false q
live_now w master q = grind (arith, has_crashed, list_any-append, put_is, lives, or_right, or_left, eq-eqb, ne_eqb)

pub crash_seen : (w : World) (master : ℕ) → view (with_crash w master) ≡ crashed (view w) master
crash_seen w master i = record (view w) { live = λ q. live_now w master q i }
