use Rattle.rk_bucket_table.proofs.Words.{length, sym, ap, ◌∙◌, Shown}
use Rattle.rk_bucket_table.proofs.Tables.{table_items}
use Rattle.rk_bucket_table.proofs.chains.Chains.len.Goals as goal

-- the items that there are lie each in a cell
pub returns : goal.returns
returns c =
    let table = c.self.invariant in
    let fields = c.self.inside in
    c.len.ensures
    ∙ sym (table.1.all)
    ∙ ap length (sym (table_items fields.per_bucket fields.heads.items fields.cells.slots table.0 table.1))
    ∙ ap (λ (s : Shown). length s.items) c.self.view_is
