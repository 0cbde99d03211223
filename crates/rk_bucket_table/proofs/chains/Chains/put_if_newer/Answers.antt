use Rattle.rk_bucket_table.proofs.Words.{◌≡◌, sym, ap, ◌∙◌, arith, hash_of, found, chain_of, joined, place_seen, Shown}
use Rattle.rk_table.specs.Items.{is_newer, with_newer}
use Rattle.rk_bucket_table.proofs.Lookups.{head_ends}
use Rattle.rk_bucket_table.proofs.Numbers.{hash_below}
use Rattle.rk_bucket_table.proofs.Puts.{HasItems, added_code, newer_added, replaced_code, shown_items}
use Rattle.rk_bucket_table.proofs.Tables.{table_items}
use Rattle.rk_bucket_table.proofs.chains.Chains.put_if_newer.Goals as goal
use Rattle.rk_bucket_table.proofs.chains.Chains.put_if_newer.Goals.{After-link, After-replace_older}

pub seek-spot-requires-clause-chain : goal.seek-spot-requires-clause-chain
seek-spot-requires-clause-chain c =
    let fields = c.self.inside in
    head_ends fields.per_bucket fields.heads.items fields.cells.slots c.self.invariant.0 c.self.invariant.1
    (hash_of c.new-item.result.key) c.chain_number-chain.result (hash_below c.new-item.result.key)
    (c.chain_number-chain.ensures ∙ ap (chain_of fields.per_bucket) c.hash.ensures) c.index.result.now c.index.ensures

-- an item is in the place of an older one, or nothing changed
replaced : (c : After-replace_older)
    → HasItems c.self.inside.per_bucket c.self.inside.heads.items c.replace_older.new.cells.slots (with_newer c.new-item.result (joined c.self.invariant.0))
    × (c.replace_older.result ≡ is_newer c.new-item.result (found c.new-item.result.table c.new-item.result.key (joined c.self.invariant.0)))
replaced c =
    let fields = c.self.inside in
    replaced_code fields.per_bucket fields.heads.items fields.cells.slots c.self.invariant c.new-item.result
    (place_seen c.place.result) c.place.ensures c.chain_number-chain.result (c.chain_number-chain.ensures ∙ ap (chain_of fields.per_bucket) c.hash.ensures)
    c.index.result.now c.index.ensures c.seek-spot.result.before c.seek-spot.result.at c.seek-spot.ensures
    (sym c.has_key_of.ensures ∙ c.if-has_key_of.true) c.replace_older.result c.replace_older.new.cells.slots
    c.replace_older.ensures.older c.replace_older.ensures.kept c.replace_older.ensures.put c.replace_older.ensures.taken

pub invariant_of-self : goal.invariant_of-self
invariant_of-self c = let now = replaced c in (now.0.chains, now.0.table)

pub returns-then-has_key_of-clause-answer : goal.returns-then-has_key_of-clause-answer
returns-then-has_key_of-clause-answer c =
    let fields = c.self.inside in
    let shown : joined c.self.invariant.0 ≡ c.args.self.now.items =
    (sym (table_items fields.per_bucket fields.heads.items fields.cells.slots c.self.invariant.0 c.self.invariant.1)
    ∙ ap (λ (s : Shown). s.items) c.self.view_is) in
    (replaced c).1
    ∙ (λ i. is_newer (c.new-item.ensures i) (found (c.new-item.ensures i).table (c.new-item.ensures i).key (shown i)))

pub returns-then-has_key_of-clause-put : goal.returns-then-has_key_of-clause-put
returns-then-has_key_of-clause-put c =
    let fields = c.self.inside in
    let shown : joined c.self.invariant.0 ≡ c.args.self.now.items =
    (sym (table_items fields.per_bucket fields.heads.items fields.cells.slots c.self.invariant.0 c.self.invariant.1)
    ∙ ap (λ (s : Shown). s.items) c.self.view_is) in
    shown_items fields.per_bucket fields.heads.items c.replace_older.new.cells.slots (with_newer c.new-item.result (joined c.self.invariant.0)) (replaced c).0
    ∙ (λ i. with_newer (c.new-item.ensures i) (shown i))

pub returns-then-has_key_of-clause-room : goal.returns-then-has_key_of-clause-room
returns-then-has_key_of-clause-room c =
    omega (arith, ap (λ (s : Shown). s.spare) c.self.view_is, c.replace_older.ensures.capacity, c.replace_older.ensures.taken)

-- a cell was added
added : (c : After-link)
    → HasItems c.self.inside.per_bucket c.link.new.heads.items c.link.new.cells.slots (with_newer c.new-item.result (joined c.self.invariant.0))
added c =
    let fields = c.self.inside in
    added_code fields.per_bucket fields.heads.items fields.cells.slots c.self.invariant c.new-item.result
    (place_seen c.place.result) c.place.ensures c.chain_number-chain.result (c.chain_number-chain.ensures ∙ ap (chain_of fields.per_bucket) c.hash.ensures)
    c.index.result.now c.index.ensures c.seek-spot.result.before c.seek-spot.result.at c.seek-spot.ensures
    (sym c.has_key_of.ensures ∙ c.if-has_key_of.false) c.insert_reserved-added.result c.insert_reserved-added.new.self.slots
    c.insert_reserved-added.ensures.was_vacant c.insert_reserved-added.ensures.updates.changed c.insert_reserved-added.ensures.updates.others
    (omega (arith, c.capacity-room.ensures.value, c.insert_reserved-added.ensures.key_in_range, c.insert_reserved-added.ensures.capacity, c.capacity-room.type_inv))
    c.insert_reserved-added.ensures.len c.link.new.heads.items c.link.new.cells.slots c.link.ensures.head c.link.ensures.behind c.link.ensures.taken

pub invariant_of-self-2 : goal.invariant_of-self-2
invariant_of-self-2 c = let now = added c in (now.chains, now.table)

pub returns-clause-answer : goal.returns-clause-answer
returns-clause-answer c =
    let fields = c.self.inside in
    let shown : joined c.self.invariant.0 ≡ c.args.self.now.items =
    (sym (table_items fields.per_bucket fields.heads.items fields.cells.slots c.self.invariant.0 c.self.invariant.1)
    ∙ ap (λ (s : Shown). s.items) c.self.view_is) in
    newer_added fields.per_bucket fields.heads.items fields.cells.slots c.self.invariant c.new-item.result
    (place_seen c.place.result) c.place.ensures c.chain_number-chain.result (c.chain_number-chain.ensures ∙ ap (chain_of fields.per_bucket) c.hash.ensures)
    c.index.result.now c.index.ensures c.seek-spot.result.before c.seek-spot.result.at c.seek-spot.ensures
    (sym c.has_key_of.ensures ∙ c.if-has_key_of.false)
    ∙ (λ i. is_newer (c.new-item.ensures i) (found (c.new-item.ensures i).table (c.new-item.ensures i).key (shown i)))

pub returns-clause-put : goal.returns-clause-put
returns-clause-put c =
    let fields = c.self.inside in
    let shown : joined c.self.invariant.0 ≡ c.args.self.now.items =
    (sym (table_items fields.per_bucket fields.heads.items fields.cells.slots c.self.invariant.0 c.self.invariant.1)
    ∙ ap (λ (s : Shown). s.items) c.self.view_is) in
    shown_items fields.per_bucket c.link.new.heads.items c.link.new.cells.slots (with_newer c.new-item.result (joined c.self.invariant.0)) (added c)
    ∙ (λ i. with_newer (c.new-item.ensures i) (shown i))

pub returns-clause-room : goal.returns-clause-room
returns-clause-room c =
    omega (
      arith,
      ap (λ (s : Shown). s.spare) c.self.view_is,
      c.link.ensures.capacity,
      c.link.ensures.taken,
      c.insert_reserved-added.ensures.len,
      c.insert_reserved-added.ensures.capacity,
    )
