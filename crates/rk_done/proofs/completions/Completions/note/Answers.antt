use Rattle.std.proofs.Common.{◌≡◌, ◌<◌, ◌-◌, true, false, sym, ◌∙◌, subst, arith, is_ok, set, vec_len, vec_capacity}
use Rattle.std.proofs.lemmas.Bool.{lt-ltb, le-ltb}
use Rattle.rk_types.specs.NumberMap.{IsInOrder, get, insert}
use Rattle.rk_types.proofs.NumberMaps.{in_order_insert}
use Rattle.rk_done.specs.Completions.{is_later}
use Rattle.rk_types.proofs.Places.{get_at, get_between, insert_at_place, insert_between}
use Rattle.rk_done.proofs.Noted.{noted_later, noted_older}
use Rattle.rk_done.proofs.completions.Completions.note.Goals as goal

-- the list with the completion at the client's place changed is the map with the completion
replaced : (c : goal.After-self-1) → insert c.self.inside.completions.items c.args.ended.client (record { seq = c.args.ended.seq; end = c.args.ended.end }) ≡ set c.self.inside.completions.items c.in-Ok.at (c.index_mut.result.now.0, record { seq = c.args.ended.seq; end = c.args.ended.end })
replaced c =
    let put_there = insert_at_place c.args.ended.client (record { seq = c.args.ended.seq; end = c.args.ended.end }) c.self.inside.completions.items c.in-Ok.at c.index_mut.result.now c.self.invariant (rw c.as_slice.ensures.value at c.in-Ok.ensures.found) in
    rw (← c.index_mut.ensures.value) at put_there

-- so is the list with the entry inserted between the parts, since there is room
inserted : (c : goal.After-insert) → insert c.self.inside.completions.items c.args.ended.client (record { seq = c.args.ended.seq; end = c.args.ended.end }) ≡ c.insert.new.self.items
inserted c =
    let room : 0 < vec_capacity c.self.inside.completions - vec_len c.self.inside.completions = rw (← c.self.view_is) at c.requires in
    let stored : is_ok c.insert.result ≡ true = c.insert.ensures.succeeds (omega arith) in
    insert_between c.args.ended.client _ c.self.inside.completions.items c.in-Err.at (rw c.as_slice.ensures.value at c.in-Err.ensures.absent) ∙ sym (rw stored at c.insert.ensures.items)

pub invariant_of-self : goal.invariant_of-self
invariant_of-self c = subst IsInOrder (replaced c) (in_order_insert c.self.inside.completions.items c.args.ended.client (record { seq = c.args.ended.seq; end = c.args.ended.end }) c.self.invariant)

pub invariant_of-self-in-Err : goal.invariant_of-self-in-Err
invariant_of-self-in-Err c = subst IsInOrder (inserted c) (in_order_insert c.self.inside.completions.items c.args.ended.client (record { seq = c.args.ended.seq; end = c.args.ended.end }) c.self.invariant)

-- the end is later than the one at the client's place
pub returns-then-index-ended-clause-completions : goal.returns-then-index-ended-clause-completions
returns-then-index-ended-clause-completions c =
    let last = get_at c.args.ended.client c.self.inside.completions.items c.in-Ok.at c.index.result.now c.self.invariant (rw c.as_slice.ensures.value at c.in-Ok.ensures.found) in
    let later : is_later (get c.self.inside.completions.items c.args.ended.client) c.args.ended.seq ≡ true = rw (last, ← c.index.ensures) (lt-ltb _ _ c.if-index-ended.true) in
    rw (← c.self.view_is) (sym (replaced c) ∙ sym (noted_later c.self.inside.completions.items c.args.ended later))

-- the end is no later than the one at the client's place
pub returns-else-index-ended-clause-completions : goal.returns-else-index-ended-clause-completions
returns-else-index-ended-clause-completions c =
    let last = get_at c.args.ended.client c.self.inside.completions.items c.in-Ok.at c.index.result.now c.self.invariant (rw c.as_slice.ensures.value at c.in-Ok.ensures.found) in
    let older : is_later (get c.self.inside.completions.items c.args.ended.client) c.args.ended.seq ≡ false = rw (last, ← c.index.ensures) (le-ltb _ _ c.if-index-ended.false) in
    rw (← c.self.view_is) (sym (noted_older c.self.inside.completions.items c.args.ended older))

-- the client had no completion
pub returns-in-Err-clause-completions : goal.returns-in-Err-clause-completions
returns-in-Err-clause-completions c =
    let none = get_between c.args.ended.client c.self.inside.completions.items c.in-Err.at (rw c.as_slice.ensures.value at c.in-Err.ensures.absent) in
    let later : is_later (get c.self.inside.completions.items c.args.ended.client) c.args.ended.seq ≡ true = rw none in
    rw (← c.self.view_is) (sym (inserted c) ∙ sym (noted_later c.self.inside.completions.items c.args.ended later))
