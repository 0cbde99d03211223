-- What the turns of the coordinator and of masters leave as it was: the rows, who has crashed, and what is staged at each master. A turn
-- sends something, or leaves the wire as it was.
use Rattle.std.proofs.Common.{◌≡◌, ◌<◌, ℕ, Bool, true, false, cond, nat_lt, [], ◌∷◌, refl, ◌∙◌, arith, ◌⊎◌}
use Rattle.rk_scripts.proofs.Words.{cases_eq, NumberMap, get_other, get_same, Node, Role, Traffic, next_reading, Master, new_master, staged}
use Rattle.rk_scripts.proofs.Words.{duties, master_turn, tablet_duty, turned, Tablet, Worked, changed, World, master_at, with_master}
use Rattle.rk_scripts.proofs.Words.{sent_all, with_outstanding, with_tablet}

-- ---- a master's turn

-- a master later has the same log, and has applied as much
record KeepsLog (before after : Master) : Type 0 where
  log : after.log ≡ before.log
  applied : after.applied ≡ before.applied

keeps_itself : (master : Master) → KeepsLog master master
keeps_itself master = record { log = refl; applied = refl }

keeps_on : (a b c : Master) → KeepsLog a b → KeepsLog b c → KeepsLog a c
keeps_on a b c first second = record { log = second.log ∙ first.log; applied = second.applied ∙ first.applied }

pub either_is : (P : Master → Type 0) (test : Bool) (one other : Worked) → P one.master → P other.master → P (cond test one other).master
either_is P true one other first second = first
either_is P false one other first second = second

-- a duty changes nothing, or asks for what is wanted first
pub duty_is : (P : Master → Type 0) (now : Master) (n : ℕ) (tablet : Tablet) (role : Role) → P now → P (with_tablet now n (with_outstanding tablet)) → P (tablet_duty now n tablet role).master
duty_is P now n tablet role same asks = grind (arith, either_is, nat_lt, changed, next_reading)

duties_keep : (tablets : NumberMap Tablet) (master : Master) → KeepsLog master (duties master tablets).master
duties_keep [] master = keeps_itself master
duties_keep ((number, tablet) ∷ others) master =
    let now : Master = (tablet_duty master number tablet tablet.handover.role).master in
    keeps_on master now (duties now others).master
    (duty_is (KeepsLog master) master number tablet tablet.handover.role (keeps_itself master) (record { log = refl; applied = refl }))
    (duties_keep others now)

-- what is staged stays so
turn_stages : (master : Master) → staged (master_turn master).master ≡ staged master
turn_stages master = grind (arith, duties_keep, duties)

-- ---- what is sent

-- a wire is as it was, or more was sent on it
abbrev pub SendsOrNot : Traffic → Traffic → Type 0
SendsOrNot before after = (after ≡ before) ⊎ (before.sent < after.sent)

-- ---- a lane

-- a lane after a turn: its rows, who has crashed and what is staged are as they were
pub record IsTurned (w now : World) : Type 0 where
  pub coordinator : now.coordinator ≡ w.coordinator
  pub crashed : now.crashed ≡ w.crashed
  pub staged_is : (master : ℕ) → staged (master_at now master) ≡ staged (master_at w master)
  pub wire : SendsOrNot w.wire now.wire

module _ (w : World) where
  -- one master is replaced by another at which the same is staged
  staged_there : (number : ℕ) (now : Master) → staged now ≡ staged (master_at w number) → (master : ℕ)
      → staged (master_at (with_master w number now) master) ≡ staged (master_at w master)
  staged_there number now same master = grind (arith, staged, new_master, get_same, master_at, get_other, cases_eq)

  pub turn_turned : (node : Node) → IsTurned w (turned w node).world
  turn_turned node =
      grind (arith, turn_stages, staged_there, sent_all)
