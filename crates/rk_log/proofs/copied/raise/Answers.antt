use Rattle.std.proofs.Common.{◌≡◌, ◌∙◌, ◌-◌, ℕ, List, [], max, get_or, set, refl, sym, ap, arith}
use Rattle.std.proofs.Math.Seq.{map-set_same}
use Rattle.std.proofs.lemmas.List.{map-set, get_or-map}
use Rattle.rk_log.specs.declared.copied.Copied.{Copied}
use Rattle.rk_log.specs.Parts.{lengths_in}
use Rattle.rk_log.proofs.Lookups.{with_length_at}
use Rattle.rk_log.proofs.copied.raise.Goals as goal

pub returns-then-at-segments-clause-bytes : goal.returns-then-at-segments-clause-bytes
returns-then-at-segments-clause-bytes c =
    map-set_same (λ (k : Copied). k.segment.bytes) c.args.segments.now (c.args.number - c.args.first) _ c.index-segments-at.result refl

pub returns-then-at-segments-clause-known : goal.returns-then-at-segments-clause-known
returns-then-at-segments-clause-known c =
    let lengths : get_or (lengths_in c.args.segments.now) (c.args.number - c.args.first) [] ≡ (get_or c.args.segments.now (c.args.number - c.args.first) c.index-segments-at.result).known =
    get_or-map (λ (k : Copied). k.known) c.args.segments.now (c.args.number - c.args.first) c.index-segments-at.result [] c.if-at-segments.true in
    map-set (λ (k : Copied). k.known) c.args.segments.now (c.args.number - c.args.first) _
    ∙ ap
    (λ (m : ℕ). set (lengths_in c.args.segments.now) (c.args.number - c.args.first) (set (get_or c.args.segments.now (c.args.number - c.args.first) c.index-segments-at.result).known c.args.backup m))
    c.max.ensures
    ∙ ap
    (λ (l : List ℕ). set (lengths_in c.args.segments.now) (c.args.number - c.args.first) (set l c.args.backup (max (get_or l c.args.backup 0) c.args.length)))
    (sym lengths)
    ∙ sym (with_length_at c.args.first c.args.number c.args.backup c.args.length (c.args.number - c.args.first) (lengths_in c.args.segments.now) (omega arith))
