use Rattle.rk_master.proofs.Words.{◌≡◌, ◌<◌, true, List, length, ap, sym, ◌∙◌, subst, list_all, IfOk-weaker, Log, is_above, Master}
use Rattle.rk_master.proofs.Words.{tablet_at, Handover, tablet_in, tablets_of, worked_of, Row, master_of}
use Rattle.rk_world.specs.Handovers.{prepare_taken}
use Rattle.rk_master.proofs.Handovers.{prepare_made}
use Rattle.rk_master.proofs.orders.take_prepare.Goals as goal

pub returns-clause-ok : goal.returns-clause-ok
returns-clause-ok c =
    let master : Master = master_of c.args.state.now in
    let now : Master = master_of c.make_ready.new.state in
    let rows : List Row = c.args.state.now.tablets.items in
    let before : c.handover_of-before.result ≡ (tablet_at master c.args.prepare.tenure.tablet).handover =
    c.handover_of-before.ensures ∙ ap (λ (held : List Row). (tablet_in held c.args.prepare.tenure.tablet).handover) c.as_slice.ensures.value in
    let greater : (tablet_at master c.args.prepare.tenure.tablet).handover.term < c.args.prepare.tenure.term =
    subst (λ (h : Handover). h.term < c.args.prepare.tenure.term) before c.if-tenure-before.false in
    let above : list_all (is_above c.args.prepare.range c.args.prepare.tenure.term) master.tablets ≡ true =
    ap (λ (held : List Row). list_all (is_above c.args.prepare.range c.args.prepare.tenure.term) (tablets_of held)) (sym c.as_slice-else-tenure-before.ensures.value)
    ∙ sym c.is_above_all.ensures ∙ c.if-not-is_above_all.false in
    let place = c.length.ensures ∙ ap (λ (log : Log). length log.entries) c.in_ok-make_ready.ensures.log in
    IfOk-weaker c.tell_ready.result _ (λ work. worked_of now work ≡ prepare_taken master c.args.prepare)
    (λ work is. is master (sym c.in_ok-make_ready.ensures.number) ∙ prepare_made master now c.args.prepare c.length.result c.in_ok-make_ready.ensures.ok place greater above) c.tell_ready.ensures
