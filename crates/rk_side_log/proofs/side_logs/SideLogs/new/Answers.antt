use Rattle.rk_side_log.proofs.Words.{◌∙◌, ◌∷◌, [], sym, ap, arith, Side, unsealed_in}
use Rattle.rk_side_log.proofs.Sides.{unsealed_none}
use Rattle.rk_side_log.proofs.side_logs.SideLogs.new.Goals as goal

pub invariant_of-result : goal.invariant_of-result
invariant_of-result c = record {
  bytes_are =
      sym unsealed_none ∙ (λ i. unsealed_in ((sym c.new.ensures i).items ∷ (sym c.new-2.ensures i).items ∷ (sym c.new-3.ensures i).items ∷ (sym c.new-4.ensures i).items ∷ []));
  none_sealed = c.new-5.ensures.items;
  room =
      omega (
        arith,
        ap (λ (s : Side). s.made) c.new.ensures,
        ap (λ (s : Side). s.made) c.new-2.ensures,
        ap (λ (s : Side). s.made) c.new-3.ensures,
        ap (λ (s : Side). s.made) c.new-4.ensures,
      );
}
