use Rattle.std.proofs.Common.{◌≡◌, ◌<◌, ◌≤◌, ◌+◌, ◌∙◌, ℕ, List, [], length, get_or, Some, sym, ap, arith}
use Rattle.std.proofs.lemmas.Bool.{ltb-true, ltb-false}
use Rattle.std.proofs.lemmas.List.{length-map, get_or-map}
use Rattle.std.proofs.lemmas.Option.{slice_get-get_or, slice_get_past}
use Rattle.std.specs.Prelude.{slice_get}
use Rattle.std.specs.Option.{option_map}
use Rattle.rk_log.specs.declared.copied.Copied.{Copied}
use Rattle.rk_log.specs.Parts.{piece_at, lacking_at}
use Rattle.rk_log.proofs.piece.pending_in.Goals as goal

pub missing-requires-clause-within : goal.missing-requires-clause-within
missing-requires-clause-within c =
    let at = c.lacking_from-at.result in
    let there : at < length c.args.segments.now = ltb-true at (length c.args.segments.now) (sym c.in-Some.ensures.lookup.0) in
    let known = c.requires.within at (omega (arith, length-map c.args.segments.now (λ (k : Copied). k.known))) in
    let here : c.in-Some.copied.now ≡ get_or c.args.segments.now at c.in-Some.copied.now = c.in-Some.ensures.lookup.1 in
    omega (
      arith,
      known.within c.args.backup,
      ap (λ (l : List ℕ). get_or l c.args.backup 0) (get_or-map (λ (k : Copied). k.known) c.args.segments.now at c.in-Some.copied.now [] there),
      ap length (get_or-map (λ (k : Copied). k.segment.bytes) c.args.segments.now at c.in-Some.copied.now [] there),
      ap (λ (k : Copied). get_or k.known c.args.backup 0) here,
      ap (λ (k : Copied). length k.segment.bytes) here,
    )

pub returns-in-Some : goal.returns-in-Some
returns-in-Some c =
    let at = c.lacking_from-at.result in
    let there : at < length c.args.segments.now = ltb-true at (length c.args.segments.now) (sym c.in-Some.ensures.lookup.0) in
    let found : slice_get c.args.segments.now at ≡ Some c.in-Some.copied.now =
    slice_get-get_or c.args.segments.now at c.in-Some.copied.now there ∙ ap (λ (k : Copied). Some k) (sym c.in-Some.ensures.lookup.1) in
    ap (λ (p : _). Some p) c.missing.ensures
    ∙ ap (option_map (piece_at c.args.backup (c.args.first + at))) (sym found)
    ∙ ap (lacking_at c.args.backup c.args.first c.args.segments.now) c.lacking_from-at.ensures

pub returns-in-None : goal.returns-in-None
returns-in-None c =
    let at = c.lacking_from-at.result in
    let past : length c.args.segments.now ≤ at = ltb-false at (length c.args.segments.now) (sym c.in-None.ensures.lookup.0) in
    ap (option_map (piece_at c.args.backup (c.args.first + at))) (sym (slice_get_past c.args.segments.now at past))
    ∙ ap (lacking_at c.args.backup c.args.first c.args.segments.now) c.lacking_from-at.ensures
