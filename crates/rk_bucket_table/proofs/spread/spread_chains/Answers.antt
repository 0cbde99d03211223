use Rattle.rk_bucket_table.proofs.Words.{◌≡◌, ◌<◌, ◌*◌, ◌++◌, ◌∷◌, [], ℕ, List, eqb, get_or, length, refl, sym, ap, ◌∙◌, subst, arith}
use Rattle.rk_bucket_table.proofs.Words.{append_assoc, length-append, item_hash, END, IsChain, chain_of, IsSought}
use Rattle.std.proofs.lemmas.List.{get_or_default}
use Rattle.rk_bucket_table.proofs.Spreading.{last_there, mine_ends, spreading_first, spreading_last, spreading_next}
use Rattle.rk_bucket_table.proofs.spread.spread_chains.Goals as goal

read : (heads : List ℕ) (number : ℕ) → number < length heads → get_or heads number 0 ≡ get_or heads number END
read heads number within = get_or_default heads number 0 END within

pub loop-chain-init : goal.loop-chain-init
loop-chain-init c = record {
  state = λ chains table. spreading_first c.args.per_bucket c.args.heads.now c.args.cells.now.slots chains table c.args.twice.now.items c.requires.none;
  capacity = refl;
  room = refl;
}

pub seek_other-spot-requires-clause-chain : goal.seek_other-spot-requires-clause-chain
seek_other-spot-requires-clause-chain c =
    subst (IsChain c.loop-chain.cells.slots) (sym (read c.args.heads.now c.loop-chain.chain (omega (arith, c.loop-chain-test.true))))
    (mine_ends c.args.per_bucket c.args.heads.now c.args.cells.now.slots c.requires.table.0 c.requires.table.1 c.loop-chain.chain c.loop-chain.twice.items c.loop-chain.cells.slots (omega (arith, c.loop-chain-test.true)) (c.loop-chain.invariant.state c.requires.table.0 c.requires.table.1))

pub seek_other-spot-requires-clause-free : goal.seek_other-spot-requires-clause-free
seek_other-spot-requires-clause-free c = (c.loop-chain.invariant.state c.requires.table.0 c.requires.table.1).free

pub push_reserved-requires : goal.push_reserved-requires
push_reserved-requires c =
    omega (arith, c.loop-chain-test.true, c.requires.room, c.loop-chain.invariant.room, (c.loop-chain.invariant.state c.requires.table.0 c.requires.table.1).heads_size, c.loop-chain.twice.ok.0)

pub link-requires-clause-within : goal.link-requires-clause-within
link-requires-clause-within c =
    omega (
      arith,
      (c.loop-chain.invariant.state c.requires.table.0 c.requires.table.1).heads_size,
      ap length c.push_reserved-in-loop-chain.ensures.items,
      ap length c.push_reserved.ensures.items,
      length-append c.push_reserved.new.self.items (c.seek_other-spot.result.at ∷ []),
      length-append c.loop-chain.twice.items ((get_or c.args.heads.now c.loop-chain.chain 0) ∷ []),
    )

pub link-requires-clause-there : goal.link-requires-clause-there
link-requires-clause-there c = last_there c.loop-chain.cells (get_or c.args.heads.now c.loop-chain.chain 0) (λ item. eqb (chain_of (2 * c.args.per_bucket) (item_hash item)) (2 * c.loop-chain.chain)) c.seek_other-spot.result.before c.seek_other-spot.result.at c.seek_other-spot.ensures

pub loop-chain-preserved : goal.loop-chain-preserved
loop-chain-preserved c = record {
  state = λ chains table.
      spreading_next c.args.per_bucket c.args.heads.now c.args.cells.now.slots chains table c.loop-chain.chain c.loop-chain.twice.items c.loop-chain.cells.slots (omega (arith, c.loop-chain-test.true))
      (c.loop-chain.invariant.state chains table) c.seek_other-spot.result.before c.seek_other-spot.result.at
      (subst (λ (k : ℕ). IsSought c.loop-chain.cells.slots k (λ item. eqb (chain_of (2 * c.args.per_bucket) (item_hash item)) (2 * c.loop-chain.chain)) c.seek_other-spot.result.before c.seek_other-spot.result.at) (read c.args.heads.now c.loop-chain.chain (omega (arith, c.loop-chain-test.true))) c.seek_other-spot.ensures)
      c.push_reserved-in-loop-chain.new.self.items (c.push_reserved-in-loop-chain.ensures.items ∙ ap (λ (l : List ℕ). l ++ c.seek_other-spot.result.at ∷ []) c.push_reserved.ensures.items
      ∙ append_assoc c.loop-chain.twice.items (get_or c.args.heads.now c.loop-chain.chain 0 ∷ []) (c.seek_other-spot.result.at ∷ [])
      ∙ ap (λ (k : ℕ). c.loop-chain.twice.items ++ k ∷ c.seek_other-spot.result.at ∷ []) (read c.args.heads.now c.loop-chain.chain (omega (arith, c.loop-chain-test.true))))
      c.link.new.heads.items c.link.new.cells.slots c.link.ensures.head c.link.ensures.behind c.link.ensures.taken;
  capacity = c.link.ensures.capacity ∙ c.loop-chain.invariant.capacity;
  room =
      c.link.ensures.room ∙ c.push_reserved-in-loop-chain.ensures.capacity ∙ c.push_reserved.ensures.capacity ∙ c.loop-chain.invariant.room;
}

pub returns-clause-spread : goal.returns-clause-spread
returns-clause-spread c = λ chains table.
    spreading_last c.args.per_bucket c.args.heads.now c.args.cells.now.slots chains table c.loop-chain.chain c.loop-chain.twice.items c.loop-chain.cells.slots
    (omega (arith, c.loop-chain-test.false, c.loop-chain.auto.chain-end)) c.requires.few (c.loop-chain.invariant.state chains table)
