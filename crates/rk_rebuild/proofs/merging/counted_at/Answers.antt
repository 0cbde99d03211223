use Rattle.rk_rebuild.proofs.Words.{◌≡◌, List, [], Option, drop, sym, ap, ◌∙◌, flat_map, Bor, Entry, counted_of, ReadLog, lent, gathered_at}
use Rattle.rk_rebuild.proofs.Words.{gathered_of}
use Rattle.std.proofs.lemmas.List.{drop-map}
use Rattle.std.proofs.lemmas.Result.{IfOk-weaker}
use Rattle.rk_types.specs.NumberMap.{get_or}
use Rattle.rk_world.specs.Material.{material_of}
use Rattle.rk_rebuild.proofs.merging.counted_at.Goals as goal

pub returns : goal.returns
returns c =
    let log : ReadLog = c.in-Some.log.now in
    let range = c.args.range.now in
    let member = c.args.member.now in
    let entries : lent c.behind.result.now ≡ drop member.from (flat_map (λ entries. entries) log.main) =
    ap lent c.behind.ensures
    ∙ sym (drop-map (λ (entry : Bor Entry). entry.now) member.from c.as_slice-2.result.now)
    ∙ ap (λ (es : List (Bor Entry)). drop member.from (lent es)) c.as_slice-2.ensures.value
    ∙ ap (drop member.from) (c.in_ok-entries.ensures ∙ ap (flat_map (λ entries. entries)) c.as_slice.ensures) in
    IfOk-weaker c.counted_entries.result _ (λ entries. lent entries.items ≡ counted_of range (gathered_at c.args.logs.now member))
    (λ counted are.
    are ∙ ap (material_of range (λ segment. get_or [] log.sides segment)) entries
    ∙ ap (λ (o : Option ReadLog). counted_of range (gathered_of o member)) c.in-Some.ensures)
    c.counted_entries.ensures
