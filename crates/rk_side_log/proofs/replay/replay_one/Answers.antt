use Rattle.rk_side_log.proofs.Words.{◌≡◌, ◌∙◌, ◌≤◌, ◌++◌, ◌∷◌, [], ℕ, Some, None, length, true, sym, ap, subst, arith, cond-true}
use Rattle.rk_side_log.proofs.Words.{spelled_of, Held, IsLawfulHeld, spelled, held_spelled, found, is_newer, segments_of}
use Rattle.rk_entry.specs.declared.entry.Entry.TheVariants as entries
use Rattle.rk_side_log.specs.Side.{with_last}
use Rattle.rk_side_log.proofs.Filled.{bytes_most, item_is}
use Rattle.rk_side_log.proofs.replay.replay_one.Goals as goal

pub put-requires : goal.put-requires
put-requires g c =
    let bytes : c.as_slice.result.now ≡ spelled (entries.Held c.args.item) = c.as_slice.ensures.value ∙ c.spell-item.ensures.bytes in
    subst (λ (x : Held). IsLawfulHeld x × ((c.as_slice.result.now ≡ spelled (entries.Held x)) × (segments_of (c.args.side.now.items ++ x ∷ []) ≤ c.args.side.now.made)))
    (sym (item_is c.args.item c.as_slice.result.now c.requires.lawful bytes)) (c.requires.lawful, (bytes, c.requires.room))

pub overflow_cast-result : goal.overflow_cast-result
overflow_cast-result g c =
    let bytes : c.as_slice.result.now ≡ spelled (entries.Held c.args.item) = c.as_slice.ensures.value ∙ c.spell-item.ensures.bytes in
    omega (arith, bytes_most c.args.item c.as_slice.result.now c.requires.lawful bytes, c.as_slice.ensures.len, c.len.ensures)

-- the item is newer
newer : (g : _) (c : goal.After-len g) → is_newer c.args.item (found c.args.item.table c.args.item.key (g.T.RecordTable.items c.args.table.now)) ≡ true
newer g c =
    ap (λ (x : Held). is_newer x (found x.table x.key (g.T.RecordTable.items c.args.table.now))) (sym c.spell-item.ensures.item)
    ∙ sym c.put_if_newer.ensures.answer ∙ c.if-not-put_if_newer.false

pub returns-clause-side : goal.returns-clause-side
returns-clause-side g c =
    let bytes : c.as_slice.result.now ≡ spelled (entries.Held c.args.item) = c.as_slice.ensures.value ∙ c.spell-item.ensures.bytes in
    c.put.ensures ∙ ap (λ (x : Held). with_last c.args.side.now x) (item_is c.args.item c.as_slice.result.now c.requires.lawful bytes)
    ∙ sym (cond-true (is_newer c.args.item (found c.args.item.table c.args.item.key (g.T.RecordTable.items c.args.table.now))) _ _ (newer g c))

pub returns-clause-bytes : goal.returns-clause-bytes
returns-clause-bytes g c =
    let bytes : c.as_slice.result.now ≡ spelled (entries.Held c.args.item) = c.as_slice.ensures.value ∙ c.spell-item.ensures.bytes in
    let size : c.len.result ≡ spelled_of c.args.item =
    c.len.ensures ∙ sym c.as_slice.ensures.len ∙ ap length bytes ∙ sym (held_spelled c.args.item) in
    ap (λ (n : ℕ). Some n) size
    ∙ sym (cond-true (is_newer c.args.item (found c.args.item.table c.args.item.key (g.T.RecordTable.items c.args.table.now))) (Some (spelled_of c.args.item)) None (newer g c))
