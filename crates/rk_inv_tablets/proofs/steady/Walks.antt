-- What each event and each client keeps of a lane's masters and backups, if each of the parts keeps it.
use Rattle.std.proofs.Common.{arith, ◌+◌, ℕ, Option, None, Some}
use Rattle.rk_inv_base.proofs.Words.{NumberMap, insert, Call, Node, Range, Segments, row_of, Phase, Row, Message, Called, accept, accept_by}
use Rattle.rk_inv_base.proofs.Words.{ask, ask_by, asking, asking_by, fits_with, is_asked_here, taking, untouched, Session, session_turn}
use Rattle.rk_inv_base.proofs.Words.{is_added, with_client, Master, master_step, master_turn, accept_refusal, ask_refusal, world_visited}
use Rattle.rk_inv_base.proofs.Words.{owner_split, row_split, with_split, happened, sent_again, turned, with_added, World, has_crashed}
use Rattle.rk_inv_base.proofs.Words.{master_at, with_ledger, with_master, Event}
use Rattle.rk_types.specs.declared.node.Node.TheVariants as nodes

-- something of a lane's masters and of how many backups there are and what they store
abbrev pub Part : Type 1
Part = NumberMap Master → ℕ → NumberMap Segments → Type 0

-- a world has it
abbrev pub Has : Part → World → Type 0
Has P w = P w.masters w.backup_count w.backups

-- each change of a master and of a backup keeps it
pub record IsKept (P : Part) (w : World) : Type 0 where
  pub now : Has P w
  pub steps : (master : ℕ) (message : Message) → Has P (with_master w master (master_step (master_at w master) message).master)
  pub turns : (master : ℕ) → Has P (with_master w master (master_turn (master_at w master)).master)
  pub adds : (master tablet : ℕ) (range : Range) → Has P (with_master w master (with_added (master_at w master) tablet range))
  pub splits : (master tablet at new term : ℕ) → Has P (with_master w master (with_split (master_at w master) tablet at new term))
  pub stores : (backup : ℕ) (segments : Segments) → P w.masters w.backup_count (insert w.backups backup segments)

-- ---- events

module _ (P : Part) (w : World) (kept : IsKept P w) where
  turned_keeps : (node : Node) → Has P (turned w node).world
  turned_keeps (nodes.Master master) = kept.turns master
  turned_keeps _ = kept.now

  sent_keeps : (found : Option Message) → Has P (sent_again w found).world
  sent_keeps None = kept.now
  sent_keeps (Some message) = kept.now

  owner_keeps : (tablet at new term : ℕ) (phase : Phase) → Has P (owner_split w tablet phase at new term)
  owner_keeps tablet at new term phase = grind (arith, has_crashed, with_master, with_split, master_at)

  split_keeps : (found : Option Row) (at new : ℕ) → Has P (row_split w found at new)
  split_keeps None at new = kept.now
  split_keeps (Some row) at new = owner_keeps row.tablet at new (row.term + 1) row.phase

  -- each event keeps it
  pub event_keeps : (event : Event) (called : Called) → Has P (happened w event called).world
  event_keeps event called = grind (arith, turned_keeps, sent_keeps, split_keeps, row_of, is_added, with_ledger, with_client)

-- ---- clients

module _ (P : Part) (w : World) (now : Has P w) where
  asking_keeps : (session : Session) (call : Option Call) → Has P (asking w session call).world
  asking_keeps session call = grind (arith, fits_with, asking_by, session_turn, untouched)

  -- a client's turn keeps it
  pub ask_keeps : (session : Session) → Has P (world_visited w (ask w session))
  ask_keeps session = grind (arith, ask_refusal, world_visited, ask_by, asking_keeps)

  -- and so does an answer
  pub accept_keeps : (number : ℕ) (session : Session) → Has P (world_visited w (accept w number session))
  accept_keeps number session = grind (arith, accept_refusal, world_visited, accept_by, is_asked_here, taking, untouched)
