-- What is logged in a lane, and that masters have records of nothing else.
use Rattle.std.specs.Prelude.{ℕ, List, ◌++◌, All, Contains}
use Rattle.std.specs.List.{flat_map}
use Rattle.rk_types.specs.declared.held.Held.{Held}
use Rattle.rk_table.specs.Order.{IsInScanOrder}
use Rattle.rk_world.specs.Ends.{items_of}
use Rattle.rk_world.specs.Master.{Master}
use Rattle.rk_world.specs.World.{World, master_at}

-- the items of a master's log: those of its entries, and those of its side segments
abbrev pub logged_by : Master → List Held
logged_by master = items_of master.log.entries ++ flat_map (λ items. items) master.sides

-- an item is logged in a lane: it is in the log of some master, which may have crashed
pub record IsLogged (w : World) (item : Held) : Type 0 where
  pub master : ℕ
  pub stands : Contains (logged_by (master_at w master)) item

-- a master has records of such items alone, and no key twice
pub record HasRecordsOf (Logged : Held → Type 0) (master : Master) : Type 0 where
  pub ordered : IsInScanOrder master.records
  pub logged : All Logged master.records

-- each master of a lane, crashed ones too, has records of what is logged there
abbrev pub AreLogged : World → Type 0
AreLogged w = (master : ℕ) → HasRecordsOf (IsLogged w) (master_at w master)
