-- The lines of lanes, with one more lane behind them.
use Rattle.std.proofs.Common.{◌≡◌, ℕ, ◌+◌, ◌<◌, List, [], ◌∷◌, ◌++◌, length, map, take, get_or, sym, ap, ◌∙◌, arith}
use Rattle.std.proofs.lemmas.List.{append-nil, append_assoc, length-map, length-take, take_more, map-append}
use denote.Ref.{Bor}
use Rattle.rk_tablet_map.specs.declared.phase.Phase.{Phase}
use Rattle.rk_lines.specs.Tablets.{lane_line, lane_lines}

lane_lines-append : (tablet lane : ℕ) (phases : List Phase) (last : Phase)
    → lane_lines tablet lane (phases ++ last ∷ []) ≡ lane_lines tablet lane phases ++ lane_line tablet (lane + length phases) last
lane_lines-append tablet lane [] last = grind (arith, append-nil)
lane_lines-append tablet lane (phase ∷ phases) last =
    let place : (lane + 1) + length phases ≡ lane + length (phase ∷ phases) = omega arith in
    ap (λ rest. lane_line tablet lane phase ++ rest) (lane_lines-append tablet (lane + 1) phases last)
    ∙ sym (append_assoc (lane_line tablet lane phase) (lane_lines tablet (lane + 1) phases) (lane_line tablet ((lane + 1) + length phases) last))
    ∙ ap (λ n. (lane_line tablet lane phase ++ lane_lines tablet (lane + 1) phases) ++ lane_line tablet n last) place

-- phases that are lent
abbrev lent_phases : List (Bor Phase) → List Phase
lent_phases lent = map (λ phase. phase.now) lent

-- one lane more
pub lane_lines-more : (tablet lane : ℕ) (lent : List (Bor Phase)) (d : Bor Phase) → lane < length lent
    → lane_lines tablet 0 (lent_phases (take (lane + 1) lent))
    ≡ lane_lines tablet 0 (lent_phases (take lane lent)) ++ lane_line tablet lane (get_or lent lane d).now
lane_lines-more tablet lane lent d within =
    let before : List (Bor Phase) = take lane lent in
    let last : Bor Phase = get_or lent lane d in
    let count : 0 + length (lent_phases before) ≡ lane = omega (arith, length-map before (λ phase. phase.now), length-take lane lent, within) in
    ap (λ (phases : List (Bor Phase)). lane_lines tablet 0 (lent_phases phases)) (take_more lent lane d within)
    ∙ ap (lane_lines tablet 0) (map-append (λ (phase : Bor Phase). phase.now) before (last ∷ []))
    ∙ lane_lines-append tablet 0 (lent_phases before) last.now
    ∙ ap (λ n. lane_lines tablet 0 (lent_phases before) ++ lane_line tablet n last.now) count
