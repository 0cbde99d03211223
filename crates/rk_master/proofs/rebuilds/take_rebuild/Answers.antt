use Rattle.rk_master.proofs.Words.{◌≡◌, ◌<◌, true, List, ap, sym, ◌∙◌, subst, list_all, Handover, is_above, Master, tablet_at, Worked}
use Rattle.rk_master.proofs.Words.{tablet_in, tablets_of, Row, CanBeSpelled, master_of}
use Rattle.rk_master.proofs.Rebuilt.{rebuild_made}
use Rattle.rk_master.proofs.rebuilds.take_rebuild.Goals as goal

pub go_on-requires-clause-lawful : goal.go_on-requires-clause-lawful
go_on-requires-clause-lawful c =
    let master : Master = master_of c.args.state.now in
    let before : c.handover_of-before.result ≡ (tablet_at master c.args.rebuild.now.tenure.tablet).handover =
    c.handover_of-before.ensures ∙ ap (λ (held : List Row). (tablet_in held c.args.rebuild.now.tenure.tablet).handover) c.as_slice.ensures.value in
    let greater : (tablet_at master c.args.rebuild.now.tenure.tablet).handover.term < c.args.rebuild.now.tenure.term =
    subst (λ (h : Handover). h.term < c.args.rebuild.now.tenure.term) before c.if-tenure-before.false in
    let above : list_all (is_above c.args.rebuild.now.range c.args.rebuild.now.tenure.term) master.tablets ≡ true =
    ap (λ (held : List Row). list_all (is_above c.args.rebuild.now.range c.args.rebuild.now.tenure.term) (tablets_of held)) (sym c.as_slice-else-tenure-before.ensures.value)
    ∙ sym c.is_above_all.ensures ∙ c.if-not-is_above_all.false in
    subst (λ (worked : Worked). CanBeSpelled worked.master) (sym (rebuild_made master (master_of c.begin.new.state) c.args.rebuild.now c.in_ok-begin.ensures.ok greater above)) c.requires.lawful
