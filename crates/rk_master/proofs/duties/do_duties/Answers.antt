use Rattle.rk_master.proofs.Words.{◌<◌, ◌≤◌, ℕ, List, length, ap, ◌∙◌, arith, Master, duties, behind, tablets_of, Row, master_of}
use Rattle.rk_master.proofs.Applying.{stands}
use Rattle.rk_master.proofs.TurnDuties.{duty_done, duties_done}
use Rattle.rk_master.proofs.duties.do_duties.Goals as goal

pub loop-at-preserved : goal.loop-at-preserved
loop-at-preserved c =
    let rows : List Row = c.loop-at.state.tablets.items in
    let at : ℕ = c.loop-at.at in
    let after : Master = master_of c.do_duty.new.state in
    let within : at < length rows = omega (arith, c.loop-at-test.true, c.loop-at.invariant.length_is) in
    let there = stands rows at within in
    record {
      state = c.in_ok-do_duty.ensures.state;
      length_is = c.in_ok-do_duty.ensures.length ∙ c.loop-at.invariant.length_is;
      rest =
          ap (λ (xs : List Row). behind c.do_duty.new.work (duties after (tablets_of xs))) c.in_ok-do_duty.ensures.behind
          ∙ duty_done c.loop-at.work c.do_duty.new.work (master_of c.loop-at.state) after rows at there.0 there.1 (c.in_ok-do_duty.ensures.ok there.0 there.1)
          ∙ c.loop-at.invariant.rest;
    }

pub returns-clause-ok : goal.returns-clause-ok
returns-clause-ok c =
    let rows : List Row = c.loop-at.state.tablets.items in
    let all : length rows ≤ c.loop-at.at = omega (arith, c.loop-at-test.false, c.loop-at.invariant.length_is) in
    duties_done c.loop-at.work (master_of c.loop-at.state) rows c.loop-at.at all ∙ c.loop-at.invariant.rest
