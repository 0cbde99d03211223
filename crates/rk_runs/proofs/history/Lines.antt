-- The lines of a merged history are the records of the journals that are in it.
use Rattle.std.proofs.Common.{◌≡◌, ℕ, Bool, true, List, refl, sym, subst, ◌==◌, filter, Contains, eq-eqb, eqb-true}
use Rattle.rk_inv_base.proofs.Words.{Placed, journal_of, Line}
use Rattle.rk_model.specs.Merged.{IsMergedFrom, is_kept}
use Rattle.rk_inv_base.proofs.pulls.Joining.{kept_stands, stands_kept}
pub use Rattle.rk_inv_base.proofs.views.Among.{mapped_from as unmapped}
use Rattle.rk_inv_lanes.proofs.Below.{mapped}

module _ (journals : List (List Placed)) (history : List Line) (from : IsMergedFrom journals history) where
  -- a line is of a record that is in the journal of its lane, and that the history has
  pub line_stands : (line : Line) → Contains history line → Contains (journal_of journals line.lane) line.placed × (is_kept line.placed ≡ true)
  line_stands line stands =
      let here : Line → Bool = λ (l : Line). l.lane == line.lane in
      let kept = stands_kept here history line stands (eq-eqb line.lane line.lane refl) in
      kept_stands is_kept (journal_of journals line.lane) line.placed
      (subst (λ (records : List Placed). Contains records line.placed) (from.complete line.lane)
      (mapped (λ (l : Line). l.placed) (filter here history) line kept))

  -- a record that is in a journal, and that the history has, has its line
  pub stands_line : (lane : ℕ) (placed : Placed) → Contains (journal_of journals lane) placed → is_kept placed ≡ true → Contains history (record { lane = lane; placed = placed })
  stands_line lane placed stands kept =
      let here : Line → Bool = λ (l : Line). l.lane == lane in
      let found = unmapped (λ (l : Line). l.placed) (filter here history) placed
      (subst (λ (records : List Placed). Contains records placed) (sym (from.complete lane))
      (stands_kept is_kept (journal_of journals lane) placed stands kept)) in
      let its = kept_stands here history found.0 found.1 in
      let at_lane : found.0.lane ≡ lane = eqb-true found.0.lane lane its.1 in
      subst (Contains history) (λ i. record { lane = at_lane i; placed = found.2 i }) its.0
