use Rattle.rk_master.proofs.Words.{◌≡◌, ◌<◌, ◌≤◌, List, length, sym, ap, ◌∙◌, subst, arith, Entry, Log, Master, apply_entries, behind}
use Rattle.rk_master.proofs.Words.{master_of}
use Rattle.rk_log.specs.Log.{committed}
use Rattle.rk_master.proofs.Applying.{behind_changed, stands, none_held, applied_next}
use Rattle.rk_master.proofs.commit.apply_held.Goals as goal

pub held-preserved : goal.held-preserved
held-preserved c =
    let log : Log = c.held.state.log in
    let held : c.committed-held.result ≡ committed log = c.committed-held.ensures.held ∙ ap committed (sym c.held.invariant.log) in
    let within : c.committed-held.result ≤ length log.entries = subst (λ (l : Log). c.committed-held.result ≤ length l.entries) (sym c.held.invariant.log) c.committed-held.ensures.within in
    let before : c.held.state.applied < committed log = omega (arith, held, c.held-test.true) in
    let there = stands log.entries c.held.state.applied (omega (arith, within, c.held-test.true)) in
    record {
      state = c.in_ok-apply_next.ensures.state;
      log = c.in_ok-apply_next.ensures.log ∙ c.held.invariant.log;
      rest =
          applied_next c.held.work c.apply_next.new.work (master_of c.held.state) (master_of c.apply_next.new.state) there.0 before there.1
          (c.in_ok-apply_next.ensures.ok there.0 there.1) c.in_ok-apply_next.ensures.log c.in_ok-apply_next.ensures.applied
          ∙ c.held.invariant.rest;
    }

pub returns-clause-ok : goal.returns-clause-ok
returns-clause-ok c =
    let master : Master = master_of c.held.state in
    let held : c.committed-held.result ≡ committed master.log = c.committed-held.ensures.held ∙ ap committed (sym c.held.invariant.log) in
    behind_changed c.held.work master
    ∙ ap (λ (xs : List Entry). behind c.held.work (apply_entries master xs)) (sym (none_held master.log.entries (committed master.log) master.applied (omega (arith, held, c.held-test.false))))
    ∙ c.held.invariant.rest
