use Rattle.rk_rebuild.proofs.Words.{◌≡◌, Bool, cond, List, drop, sym, ap, ◌∙◌, flat_map, eq-eqb, Bor, Entry, named, Reader, lent}
use Rattle.std.proofs.lemmas.List.{drop-map}
use Rattle.rk_rebuild.proofs.reading.one_passed.Goals as goal

pub returns : goal.returns
returns c = λ log its main_is.
    let reader : Reader = c.args.reader.now in
    let entries : List (Bor Entry) = c.args.entries.now in
    let known : c.in_ok-named.field-0 ≡ named c.args.range.now (drop reader.member.from (flat_map (λ segment. segment) log.main)) =
    c.in_ok-named.ensures
    ∙ ap (λ (es : List (Bor Entry)). named c.args.range.now (lent es)) c.behind.ensures
    ∙ ap (named c.args.range.now) (sym (drop-map (λ (entry : Bor Entry). entry.now) reader.member.from entries))
    ∙ ap (λ (es : List Entry). named c.args.range.now (drop reader.member.from es)) (sym main_is) in
    let now : Reader = record reader { named = named c.args.range.now (drop reader.member.from (flat_map (λ segment. segment) log.main)); done = 0 } in
    (λ i. record reader { named = known i; done = 0 })
    ∙ sym (ap (λ (b : Bool). cond b now reader) (eq-eqb reader.member.master log.master (c.if-reader-master.false ∙ sym its)))
