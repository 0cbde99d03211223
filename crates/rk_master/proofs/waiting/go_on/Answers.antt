use Rattle.rk_master.proofs.Words.{◌<◌, ℕ, List, length, ap, ◌∙◌, arith, all_going_on, Master, tablets_of, Row, master_of}
use Rattle.rk_master.proofs.Applying.{stands}
use Rattle.rk_master.proofs.GoingOn.{gone_on}
use Rattle.rk_master.proofs.waiting.go_on.Goals as goal

pub loop-at-preserved : goal.loop-at-preserved
loop-at-preserved c =
    let rows : List Row = c.loop-at.state.tablets.items in
    let at : ℕ = c.loop-at.at in
    let after : Master = master_of c.go_on_at.new.state in
    let within : at < length rows = omega (arith, c.loop-at-test.true, c.loop-at.invariant.length_is) in
    let there = stands rows at within in
    record {
      state = c.in_ok-go_on_at.ensures.state;
      length_is = c.in_ok-go_on_at.ensures.length ∙ c.loop-at.invariant.length_is;
      rest =
          ap (λ (xs : List Row). all_going_on after (tablets_of xs)) c.in_ok-go_on_at.ensures.behind
          ∙ gone_on (master_of c.loop-at.state) after rows at there.0 there.1 (c.in_ok-go_on_at.ensures.ok there.0 there.1)
          ∙ c.loop-at.invariant.rest;
    }
