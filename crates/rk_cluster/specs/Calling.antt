-- A client that asks its next call.
use Rattle.std.specs.Prelude.{◌≡◌, ℕ, List, None, Some}
use Rattle.rk_types.specs.NumberMap.{NumberMap, get, insert}
use Rattle.rk_types.specs.declared.call.Op.{Op}
use Rattle.rk_world.specs.Client.{Session, with_next_call}

-- a client that has no outstanding call asked its next one
pub record IsAsked (old new : NumberMap Session) (client table : ℕ) (key : List ℕ) (op : Op) : Type 0 where
  pub session : Session
  pub found : get old client ≡ Some session
  pub free : session.outstanding ≡ None
  pub asked : new ≡ insert old client (with_next_call session table key op)
