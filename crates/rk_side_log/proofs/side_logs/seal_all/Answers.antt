use Rattle.rk_side_log.proofs.Words.{◌≡◌, ◌∙◌, ◌++◌, ℕ, List, get_or, length, map, replicate, vec_len, vec_capacity, sym, ap, subst, arith}
use Rattle.rk_side_log.proofs.Words.{All, IsLawfulHeld, cut_items, Side, no_side, bytes_in, spelled_items}
use Rattle.std.proofs.lemmas.List.{take_all}
use Rattle.std.proofs.lemmas.List.Elements.{All-more}
use Rattle.rk_side_log.proofs.Sealing.{drop_more_set, room_more, same_there, sealed_more, take_more_none}
use Rattle.rk_side_log.proofs.side_logs.seal_all.Goals as goal

pub loop-side-preserved : goal.loop-side-preserved
loop-side-preserved c =
    let i = c.loop-side.side-index in
    let d = c.side-item.result in
    let there : get_or c.loop-side.sides i d ≡ get_or c.args.sides.now i d = same_there c.args.sides.now c.loop-side.sides i d c.loop-side.invariant.2 in
    let bytes : bytes_in c.seal_into.new.sealed.items ≡ bytes_in c.loop-side.sealed.items ++ map spelled_items (cut_items (get_or c.args.sides.now i d).items) =
    c.seal_into.ensures.bytes ∙ ap (λ (s : Side). bytes_in c.loop-side.sealed.items ++ map spelled_items (cut_items s.items)) there in (
      sealed_more c.args.sides.now i d (bytes_in c.args.sealed.now.items) (bytes_in c.loop-side.sealed.items) (bytes_in c.seal_into.new.sealed.items)
          c.loop-side-test.true c.loop-side.invariant.0 bytes,
      room_more c.args.sides.now i d (vec_len c.loop-side.sealed) (vec_len c.seal_into.new.sealed) (vec_capacity c.loop-side.sealed) (vec_capacity c.seal_into.new.sealed)
          c.loop-side-test.true c.loop-side.invariant.1 (omega (arith, c.seal_into.ensures.few, ap (λ (s : Side). s.made) there)) c.seal_into.ensures.room,
      drop_more_set c.args.sides.now c.loop-side.sides i c.seal_into.new.self c.loop-side.invariant.2,
      take_more_none c.loop-side.sides i c.seal_into.new.self (omega (arith, c.loop-side-test.true, c.loop-side.auto.sides)) c.loop-side.invariant.3 c.seal_into.ensures.empty,
      All-more (λ (s : Side). All IsLawfulHeld s.items) c.args.sides.now i d c.loop-side-test.true c.loop-side.invariant.4
          (subst (λ (s : Side). All IsLawfulHeld s.items) there c.seal_into.ensures.lawful),
    )

pub returns-clause-empty : goal.returns-clause-empty
returns-clause-empty c =
    let all : c.loop-side.side-index ≡ length c.args.sides.now = omega (arith, c.loop-side.auto.side-index-end, c.loop-side-test.false) in
    sym (take_all c.loop-side.side-index c.loop-side.sides (omega (arith, c.loop-side.auto.sides))) ∙ c.loop-side.invariant.3 ∙ ap (λ (n : ℕ). replicate n no_side) all

pub returns-clause-lawful : goal.returns-clause-lawful
returns-clause-lawful c =
    subst (λ (l : List Side). All (λ (s : Side). All IsLawfulHeld s.items) l)
    (take_all c.loop-side.side-index c.args.sides.now (omega (arith, c.loop-side.auto.side-index-end, c.loop-side-test.false))) c.loop-side.invariant.4
