-- What the ledgers of lanes in code have is what those of the cluster that they represent have.
use Rattle.rk_conclude.proofs.Words.{arith, ◌≡◌, ℕ, List, [], ◌∷◌, Option, map, refl, sym, ap, ◌∙◌, sum_by, Segments, Ledger, World}
use Rattle.rk_conclude.proofs.Words.{LaneState, AreWorlds}
use Rattle.std.proofs.Common.{◌+◌}
use Rattle.std.proofs.lemmas.List.Sums.{sum_by-cons}

module _ {R : Type 0} (segments : R → Option Segments) where
  pub same_in_each : {A : Type 0} (look : Ledger → A) (lanes : List (LaneState R)) (worlds : List World) → AreWorlds segments lanes worlds
      → map (λ (w : World). look w.ledger) worlds ≡ map (λ (lane : LaneState R). look lane.ledger) lanes
  same_in_each look [] [] are = refl
  same_in_each look [] (w ∷ worlds) are = absurd are
  same_in_each look (lane ∷ lanes) [] are = absurd are
  same_in_each look (lane ∷ lanes) (w ∷ worlds) are =
      grind (arith, w.ledger, lane.ledger, are.0.is, are.1, (same_in_each look lanes worlds are.1))

  pub same_sum : (look : Ledger → ℕ) (lanes : List (LaneState R)) (worlds : List World) → AreWorlds segments lanes worlds
      → sum_by (λ (w : World). look w.ledger) worlds ≡ sum_by (λ (lane : LaneState R). look lane.ledger) lanes
  same_sum look [] [] are = refl
  same_sum look [] (w ∷ worlds) are = absurd are
  same_sum look (lane ∷ lanes) [] are = absurd are
  same_sum look (lane ∷ lanes) (w ∷ worlds) are =
      let here : look w.ledger ≡ look lane.ledger = ap (λ (w : World). look w.ledger) are.0.is in
      let rest = same_sum look lanes worlds are.1 in
      sum_by-cons (λ (w : World). look w.ledger) w worlds ∙ (λ i. here i + rest i) ∙ sym (sum_by-cons (λ (lane : LaneState R). look lane.ledger) lane lanes)
