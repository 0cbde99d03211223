use Rattle.std.proofs.Common.{List, nat_lt, ap, ◌∙◌}
use Rattle.rk_types.specs.declared.history.Placed.{Placed}
use Rattle.rk_world.specs.Journal.{is_accepted}
use Rattle.rk_ledger.specs.declared.call_index.Noted.{Noted}
use Rattle.rk_ledger.specs.Noted.{is_accepted_of}
use Rattle.rk_ledger.proofs.Noted.{some_counted}
use Rattle.rk_ledger.proofs.journal.Journal.is_accepted.Goals as goal

pub returns : goal.returns
returns c =
    ap (λ (note : Noted). nat_lt 0 note.accepted) (c.get.ensures ∙ c.self.invariant.counted.index_is.noted_is c.args.client c.args.seq)
    ∙ some_counted (is_accepted_of c.args.client c.args.seq) c.self.inside.records.items
    ∙ ap (λ (records : List Placed). is_accepted records c.args.client c.args.seq) c.self.view_is
