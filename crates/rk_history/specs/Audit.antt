-- Which receipt is the first that the journals do not bear out.
use Rattle.std.specs.Prelude.{◌≡◌, true, List, take, slice_get, All, Some}
use Rattle.rk_types.specs.declared.history.Placed.{Placed}
use Rattle.rk_types.specs.declared.history.Receipt.{Receipt}
use Rattle.rk_model.specs.Ordered.{IsRecorded}
use Rattle.rk_history.specs.declared.auditing.Disagree.{Disagree}

-- the record that a receipt describes
abbrev pub told_record : Receipt → Placed
told_record receipt =
    record { call = receipt.call; outcome = receipt.outcome; stamp = receipt.stamp; accepted = true }

-- the receipts before this one are recorded, and this one is not
pub record IsFirstWrong (journals : List (List Placed)) (receipts : List Receipt) (disagree : Disagree) : Type 0 where
  pub receipt : Receipt
  pub there : slice_get receipts disagree.index ≡ Some receipt
  pub before : All (IsRecorded journals) (take disagree.index receipts)
  pub wrong : IsRecorded journals receipt → ⊥
  pub lane : disagree.lane ≡ receipt.lane
  pub place : disagree.place ≡ receipt.place
