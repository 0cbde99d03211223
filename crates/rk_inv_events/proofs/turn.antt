pub mod MasterTurn
