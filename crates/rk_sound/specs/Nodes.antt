-- Nodes: who is there. Each master has its own number, there is at least one backup, and each master knows of all; no row names
-- a master that is not there, and some master is left. The steps that send, that apply and that notice a crash need it.
use Rattle.std.specs.Prelude.{◌≡◌, ◌≤◌, ℕ, Bool, true, false, List, length, All}
use Rattle.rk_log.specs.Log.{Log}
use Rattle.rk_tablet_map.specs.declared.row.Row.{Row}
use Rattle.rk_world.specs.Notices.{names}
use Rattle.rk_world.specs.Premises.{IsMaster}

-- a master of the lane lives
pub record SomeLives (count : ℕ) (live : ℕ → Bool) : Type 0 where
  pub master : ℕ
  pub there : IsMaster count master
  pub lives : live master ≡ true

-- the masters, with their numbers and logs; of them there are so many, with so many backups
pub record Nodes (numbers : ℕ → ℕ) (logs : ℕ → Log) (count backups : ℕ) (rows : List Row) (noticed : List ℕ) (live : ℕ → Bool) : Type 0 where
  -- each master has its own number
  pub numbered : (master : ℕ) → numbers master ≡ master
  -- there is a backup, and each master knows of all of them
  pub backed : 1 ≤ backups
  pub known : (master : ℕ) → IsMaster count master → length (logs master).known ≡ backups
  -- each master that a row names is there
  pub named : (master : ℕ) → All (λ row. names row.phase master ≡ true → IsMaster count master) rows
  -- each master that was noticed dead has crashed
  pub crashed : All (λ master. live master ≡ false) noticed
  -- if one has crashed, another one is left
  pub left : (master : ℕ) → live master ≡ false → SomeLives count live
