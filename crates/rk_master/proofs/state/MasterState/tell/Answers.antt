use Rattle.rk_master.proofs.Words.{[], ◌∷◌, ◌++◌, refl, ◌∙◌, marks_of, master_of}
use Rattle.rk_master.proofs.state.MasterState.tell.Goals as goal

pub returns : goal.returns
returns c =
    let master = master_of c.args.self.now in
    let sends = c.in_ok-send.ensures.sends ∙ (λ i. c.nothing-work.ensures.sends i ++ c.answering.ensures master refl i ∷ []) in
    let served = c.in_ok-send.ensures.served ∙ c.nothing-work.ensures.served in
    let marked = c.in_ok-send.ensures.marked ∙ c.nothing-work.ensures.marked in
    λ i. record { master = master; sends = sends i; served = served i; marked = marks_of (marked i) }
