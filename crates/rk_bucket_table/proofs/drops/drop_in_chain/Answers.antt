use Rattle.rk_bucket_table.proofs.Words.{◌≡◌, ◌<◌, length, refl, sym, ap, ◌∙◌, arith, chain}
use Rattle.rk_bucket_table.proofs.Dropping.{before_there, dropped_chain, dropping_first, dropping_kept, dropping_less, less_left, not_in_front, still_behind}
use Rattle.rk_bucket_table.proofs.Tables.{head_read}
use Rattle.rk_bucket_table.proofs.drops.drop_in_chain.Goals as goal

pub cells-init : goal.cells-init
cells-init c = record {
  state = λ chains table.
      dropping_first c.args.per_bucket c.args.heads.now.items c.args.cells.now.slots c.args.chain c.args.range.now chains c.index-at.result.now
      c.requires.within (head_read c.args.heads.now.items c.args.chain c.index-at.result.now c.requires.within c.index-at.ensures) table;
  capacity = refl;
}

pub cells-preserved-then-not-is_in : goal.cells-preserved-then-not-is_in
cells-preserved-then-not-is_in c = record {
  state = λ chains table.
      dropping_kept c.args.per_bucket c.cells.heads.items c.cells.cells.slots c.args.chain c.args.range.now chains c.cells.before c.cells.at
      (c.cells.invariant.state chains table) c.in-Some.cell.now c.in-Some.ensures (sym c.is_in.ensures ∙ c.if-not-is_in.true);
  capacity = c.cells.invariant.capacity;
}

pub cells-smaller-then-not-is_in : goal.cells-smaller-then-not-is_in
cells-smaller-then-not-is_in c =
    less_left c.args.per_bucket c.cells.heads.items c.cells.cells.slots c.args.chain c.args.range.now c.requires.table.0 c.cells.before c.cells.at
    (c.cells.invariant.state c.requires.table.0 c.requires.table.1) c.in-Some.cell.now c.in-Some.ensures

pub link-requires-clause-there : goal.link-requires-clause-there
link-requires-clause-there c =
    before_there c.args.per_bucket c.cells.heads.items c.cells.cells.slots c.args.chain c.args.range.now c.requires.table.0 c.cells.before c.cells.at
    (c.cells.invariant.state c.requires.table.0 c.requires.table.1) c.remove.new.self c.cells.at
    (not_in_front c.args.per_bucket c.cells.heads.items c.cells.cells.slots c.args.chain c.args.range.now c.requires.table.0 c.cells.before c.cells.at
    (c.cells.invariant.state c.requires.table.0 c.requires.table.1) c.in-Some.cell.now c.in-Some.ensures)
    c.remove.ensures.updates.others

pub link-requires-clause-within : goal.link-requires-clause-within
link-requires-clause-within c = (c.cells.invariant.state c.requires.table.0 c.requires.table.1).state.within

pub cells-preserved : goal.cells-preserved
cells-preserved c = record {
  state = λ chains table.
      dropping_less c.args.per_bucket c.cells.heads.items c.cells.cells.slots c.args.chain c.args.range.now chains c.cells.before c.cells.at
      (c.cells.invariant.state chains table) c.in-Some.cell.now c.in-Some.ensures (sym c.is_in.ensures ∙ c.if-not-is_in.false)
      c.remove.new.self.slots c.remove.ensures.updates.others c.remove.ensures.len
      c.link.new.heads.items c.link.new.cells.slots c.link.ensures.head c.link.ensures.behind c.link.ensures.taken;
  capacity = c.link.ensures.capacity ∙ c.remove.ensures.capacity ∙ c.cells.invariant.capacity;
}

pub cells-smaller : goal.cells-smaller
cells-smaller c =
    let chains = c.requires.table.0 in
    let now = c.cells.invariant.state chains c.requires.table.1 in
    let less : length (chain c.cells.cells.slots c.in-Some.cell.now.next) < length (chain c.cells.cells.slots c.cells.at) =
    less_left c.args.per_bucket c.cells.heads.items c.cells.cells.slots c.args.chain c.args.range.now chains c.cells.before c.cells.at
    now c.in-Some.cell.now c.in-Some.ensures in
    let is : chain c.link.new.cells.slots c.in-Some.cell.now.next ≡ chain c.cells.cells.slots c.in-Some.cell.now.next =
    still_behind c.args.per_bucket c.cells.heads.items c.cells.cells.slots c.args.chain c.args.range.now chains c.cells.before c.cells.at
    now c.in-Some.cell.now c.in-Some.ensures (sym c.is_in.ensures ∙ c.if-not-is_in.false)
    c.remove.new.self.slots c.remove.ensures.updates.others c.remove.ensures.len
    c.link.new.heads.items c.link.new.cells.slots c.link.ensures.head c.link.ensures.behind c.link.ensures.taken in
    omega (arith, less, ap length is)

pub returns-clause-dropped : goal.returns-clause-dropped
returns-clause-dropped c = λ chains table.
    dropped_chain c.args.per_bucket c.cells.heads.items c.cells.cells.slots c.args.chain c.args.range.now chains c.cells.before c.cells.at
    (c.cells.invariant.state chains table) c.in_default.ensures
