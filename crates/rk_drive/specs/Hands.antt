-- What the workers of a drive need for what they do: the passes with which they give and take parcels, and their numbers.
use Rattle.std.specs.Prelude.{ℕ, ◌<◌, ⊤}
use Rattle.rk_dispatch.specs.Queue.{IsOf, ParcelPass, account_of}
use Rattle.rk_dispatch.specs.declared.parcels.Parcels.{Parcels}
use Rattle.rk_drive.specs.declared.turning.TheConstants.{TURNERS}
use Rattle.rk_drive.specs.declared.workers.Duty.{Duty}
use Rattle.rk_drive.specs.declared.workers.Duty.TheVariants as duties

-- a pass of a queue, with which parcels may be given and taken
pub record IsHand (parcels : Parcels) (pass : ParcelPass) : Type 0 where
  pub of_queue : IsOf parcels pass
  pub part : 0 < (account_of pass).parts

-- what a worker needs for its duty: a pass with which it may give or take, and a number of a worker that takes turns
abbrev pub IsDuty : Parcels → Duty → Type 0
IsDuty parcels (duties.Turns pass first) = IsHand parcels pass × (first < TURNERS)
IsDuty parcels (duties.Replays pass) = IsHand parcels pass
IsDuty parcels duties.Conduct = ⊤
