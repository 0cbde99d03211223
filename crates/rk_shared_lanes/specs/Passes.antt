-- What a client carries from lane to lane, and what is so of it.
use Rattle.std.specs.Prelude.{◌≡◌, ◌+◌, ◌&&◌, ℕ, All, Bool, IfSome, true, false, not, if◌then◌else◌, is_some, length}
use Rattle.rk_types.specs.declared.call.Call.{Call}
use Rattle.rk_world.specs.Calls.{fits, is_asked_here}
use Rattle.rk_world.specs.Client.{Session}
use Rattle.rk_world.specs.Premises.{MayAct}
use Rattle.rk_world.specs.World.{World}
use Rattle.rk_laws_lanes.specs.Below.{waiting}
use Rattle.rk_laws_lanes.specs.gathered.Gathered.{IsOrderly}
use Rattle.rk_shared_lanes.specs.Kept.{IsPart}

-- what contracts see of a pass: its session, and whether the outstanding call was counted as asked
pub record PassState : Type 0 where
  pub session : Session
  pub counted : Bool

-- one if it is so
abbrev pub one_if : Bool → ℕ
one_if true = 1
one_if false = 0

-- each call of a session, also the outstanding one, is a call that clients make
pub record MakesOnly (makes : Call → Type 0) (session : Session) : Type 0 where
  pub answered : All (λ receipt. makes receipt.call) session.receipts
  pub outstanding : IfSome session.outstanding makes

-- a session that may act in lanes with so many masters, and has a receipt for each of its calls but an outstanding one: a share has how
-- many receipts it got, and another one how many calls were asked, the outstanding one too if it was counted. If what is taken for granted
-- of replicas holds, the session is orderly, and its calls are such as clients make
pub record IsPass (tells : Type 0) (masters : ℕ) (makes : Call → Type 0) (pass : PassState) (got made : ℕ × ℕ) : Type 0 where
  pub may : MayAct masters pass.session
  pub last_is : pass.session.last ≡ length pass.session.receipts + waiting pass.session.outstanding
  pub got_is : IsPart got (length pass.session.receipts)
  pub made_is : IsPart made (length pass.session.receipts + one_if pass.counted)
  pub pending : pass.counted ≡ true → is_some pass.session.outstanding ≡ true
  pub orderly : tells → IsOrderly pass.session.client pass.session
  pub calls : tells → MakesOnly makes pass.session

-- a pass may ask its call in a lane: its session fits there, and has counted the call exactly if the lane was asked it
pub record Suits (w : World) (pass : PassState) : Type 0 where
  pub fits : fits w pass.session ≡ true
  pub counted : is_asked_here w pass.session ≡ pass.counted

-- whether it may
abbrev pub suits : World → PassState → Bool
suits w pass = fits w pass.session && (if is_asked_here w pass.session then pass.counted else not pass.counted)
