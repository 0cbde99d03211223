use Rattle.std.proofs.Common.{List, is_some, ap, ◌∙◌}
use Rattle.rk_types.specs.declared.history.Placed.{Placed}
use Rattle.rk_world.specs.Journal.{has_record, is_of_mutation}
use Rattle.rk_ledger.specs.declared.call_index.Noted.{Noted}
use Rattle.rk_ledger.proofs.Positions.{some_position}
use Rattle.rk_ledger.proofs.journal.Journal.has_record.Goals as goal

pub returns : goal.returns
returns c =
    c.is_some.ensures
    ∙ ap (λ (note : Noted). is_some note.place) (c.get.ensures ∙ c.self.invariant.counted.index_is.noted_is c.args.client c.args.seq)
    ∙ some_position (is_of_mutation c.args.client c.args.seq) c.self.inside.records.items
    ∙ ap (λ (records : List Placed). has_record records c.args.client c.args.seq) c.self.view_is
