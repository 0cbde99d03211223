use Rattle.rk_master.proofs.Words.{[], ◌∷◌, ◌++◌, Option, refl, sym, ap, ◌∙◌, append-nil, Message, Master, append_of, master_of}
use Rattle.rk_log.specs.Piece.{PlacedBytes}
use Rattle.rk_master.proofs.turn.send_to.Goals as goal

pub returns-in_default-clause-sends : goal.returns-in_default-clause-sends
returns-in_default-clause-sends c =
    let master : Master = master_of c.args.state.now in
    sym (append-nil c.args.work.now.sends.items)
    ∙ ap (λ (piece : Option PlacedBytes). c.args.work.now.sends.items ++ append_of master c.args.backup piece) (sym c.in_default.is ∙ c.pending.ensures)

pub returns-clause-sends : goal.returns-clause-sends
returns-clause-sends c =
    let master : Master = master_of c.args.state.now in
    c.in_ok-send.ensures.sends
    ∙ ap (λ (message : Message). c.args.work.now.sends.items ++ message ∷ []) (c.in_ok-append.ensures master refl)
    ∙ ap (λ (piece : Option PlacedBytes). c.args.work.now.sends.items ++ append_of master c.args.backup piece) (sym c.in-Some.is ∙ c.pending.ensures)
