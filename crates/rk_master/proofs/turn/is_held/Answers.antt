use Rattle.rk_master.proofs.Words.{◌+◌, [], Option, sym, ap, ◌∙◌, Master, append_of, master_of}
use Rattle.rk_log.specs.Piece.{PlacedBytes}
use Rattle.rk_master.proofs.Appends.{all_behind, all_sent, sent_next}
use Rattle.rk_master.proofs.turn.is_held.Goals as goal

pub loop-before-preserved : goal.loop-before-preserved
loop-before-preserved c =
    let master : Master = master_of c.args.state.now in
    let none = ap (λ (piece : Option PlacedBytes). append_of master (c.loop-before.before + 1) piece) (c.holds_all.ensures c.if-not-holds_all.false) in
    sent_next master [] [] c.loop-before.before c.args.state.now.backups c.loop-before-test.true (sym none) ∙ c.loop-before.invariant

pub returns : goal.returns
returns c = λ _.
    let master : Master = master_of c.args.state.now in
    sym (all_sent master [] c.loop-before.before c.args.state.now.backups c.loop-before-test.false
    ∙ c.loop-before.invariant ∙ all_behind master c.args.state.now.backups c.requires.backups)
