-- What the state of a master in code represents.
use Rattle.std.specs.Prelude.{◌≡◌, ◌≤◌, length}
use Rattle.rk_bucket_table.specs.Tables.{items_of as records_of}
use Rattle.rk_world.specs.Master.{Master}
use Rattle.rk_staged.specs.Kept.{AreStagedFrom}
use Rattle.rk_master.specs.Parts.{AreTablets, tablets_of}
use Rattle.rk_master.specs.Sides.{AreSpelled, items_of_sides}
use Rattle.rk_master.specs.declared.state.MasterState.{MasterState}

-- the master; the items of its side segments are those that their bytes spell
abbrev pub master_of : MasterState → Master
master_of state = record {
  number = state.number;
  log = state.log;
  sides = items_of_sides state.log.sides;
  applied = state.applied;
  calls = state.calls;
  records = records_of state.records;
  tablets = tablets_of state.tablets.items;
}

-- no more is applied than there is, the others are staged, the backups are counted, the side segments spell
-- items, and the tablets are lawful
pub record IsState (state : MasterState) : Type 0 where
  pub within : state.applied ≤ length state.log.entries
  pub staged : AreStagedFrom state.applied state.staged state.log.entries
  pub backups : length state.log.known ≡ state.backups
  pub sides : AreSpelled state.log.sides
  pub tablets : AreTablets state.tablets.items
