-- What targets have sealed stays there at a master's turn.
use Rattle.std.proofs.Common.{ℕ, [], ◌∷◌}
use Rattle.rk_inv_base.proofs.Words.{All-head, All-tail, NumberMap, Master, duties, master_turn, tablet_duty, with_outstanding, Tablet}
use Rattle.rk_inv_tablets.proofs.steady.Sealed.{AreSealedUnder, IsSealedUnder, Seals, seals_with_tablet}
use Rattle.rk_inv_wellformed.proofs.masters.Turns.{duty_is}

module _ (count : ℕ) where
  duties_seal : (tablets : NumberMap Tablet) (master : Master) → Seals count master → AreSealedUnder count tablets → Seals count (duties master tablets).master
  duties_seal [] master seals each = seals
  duties_seal ((number, tablet) ∷ others) master seals each =
      duties_seal others (tablet_duty master number tablet tablet.handover.role).master
      (duty_is (Seals count) master number tablet tablet.handover.role seals
      (seals_with_tablet count master number (with_outstanding tablet) seals
      (All-head (λ (entry : ℕ × Tablet). IsSealedUnder count entry.1) (number, tablet) others each)))
      (All-tail (λ (entry : ℕ × Tablet). IsSealedUnder count entry.1) (number, tablet) others each)

  pub turn_seals : (master : Master) → Seals count master → Seals count (master_turn master).master
  turn_seals master seals = duties_seal master.tablets master seals seals.1
