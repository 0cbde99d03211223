-- What keeps to limits keeps to wider ones: a greater greatest number, and more clients.
use Rattle.std.proofs.Common.{◌≡◌, ◌≤◌, ◌+◌, ℕ, List, All, refl, subst, arith, length, flat_map}
use Rattle.rk_inv_wellformed.proofs.Words.{All-weaker, each_weaker, Call, Ended, Held, Node, Entry, ends_of, Row, Traffic, Body, Message}
use Rattle.rk_inv_wellformed.proofs.Words.{Coordinator, IsFormedCall, IsFormedCoordinator, IsFormedLedger, IsFormedMaster, IsFormedRow}
use Rattle.rk_inv_wellformed.proofs.Words.{IsFormedTablet, IsFormedWire, named_in, Ledger, IsClient, IsFormedBody, IsFormedEnd}
use Rattle.rk_inv_wellformed.proofs.Words.{IsFormedEntry, IsFormedHeld, IsFormedMessage, IsFormedNumber, IsThere, Limits, Master, IsMaster}
use Rattle.rk_inv_wellformed.proofs.Words.{Tablet, Base, Handed, IsFormedHanded, is_receiving}

-- limits are as wide as others: the masters and backups are the same, the greatest number is no smaller, and no client is missing
pub record IsMore (a b : Limits) : Type 0 where
  pub masters : a.masters ≡ b.masters
  pub backups : a.backups ≡ b.backups
  pub top : a.top ≤ b.top
  pub clients : (client : ℕ) → IsClient a client → IsClient b client

-- limits are as wide as themselves
pub more_self : (limits : Limits) → IsMore limits limits
more_self limits = record { masters = refl; backups = refl; top = omega arith; clients = λ client is. is }

-- limits whose greatest number is one more: a counter that rises, or a floor that is merged, may be that
abbrev pub raised : Limits → Limits
raised limits = record limits { top = limits.top + 1 }

pub more_raised : (limits : Limits) → IsMore limits (raised limits)
more_raised limits = record { masters = refl; backups = refl; top = omega arith; clients = λ client is. is }

module _ (a b : Limits) (more : IsMore a b) where
  -- ---- what limits are made of

  pub more_master_number : (master : ℕ) → IsMaster a.masters master → IsMaster b.masters master
  more_master_number master there = subst (λ (count : ℕ). IsMaster count master) more.masters there

  below_top : (n : ℕ) → n ≤ a.top → n ≤ b.top
  below_top n within = omega (arith, more.top)

  pub more_there : (node : Node) → IsThere a node → IsThere b node
  more_there node there = grind (arith, more_master_number)

  pub more_number : {n : ℕ} → IsFormedNumber a n → IsFormedNumber b n
  more_number {n} formed = assumption (below_top n formed.last)

  -- ---- ends and entries

  pub more_all_ends : (list : List Ended) → All (IsFormedEnd a) list → All (IsFormedEnd b) list
  more_all_ends list all = grind (arith, below_top)

  pub more_held : (held : Held) → IsFormedHeld a held → IsFormedHeld b held
  more_held held formed = assumption (below_top _ formed.version, more.clients held.client formed.client)

  pub more_all_held : (list : List Held) → All (IsFormedHeld a) list → All (IsFormedHeld b) list
  more_all_held list all = All-weaker (IsFormedHeld a) (IsFormedHeld b) more_held list all

  pub more_entries : (list : List Entry) → All (IsFormedEntry a) list → All (IsFormedEntry b) list
  more_entries list all = grind (arith, more_held, below_top, more_all_ends)

  -- ---- messages

  pub more_body : (from : Node) (body : Body) → IsFormedBody a from body → IsFormedBody b from body
  more_body from body formed =
      grind arith

  pub more_message : (message : Message) → IsFormedMessage a message → IsFormedMessage b message
  more_message message formed = grind (arith, more_there, more_body)

  pub more_messages : (list : List Message) → All (IsFormedMessage a) list → All (IsFormedMessage b) list
  more_messages list all = All-weaker (IsFormedMessage a) (IsFormedMessage b) more_message list all

  -- ---- masters

  pub more_tablet : (number : ℕ) (tablet : Tablet) → IsFormedTablet a number tablet → IsFormedTablet b number tablet
  more_tablet number tablet formed =
      grind (arith, is_receiving, more_master_number, more_number, more_all_ends, ends_of, more_all_held, more_entries, each_weaker)

  pub more_call : (count place : ℕ) (call : Call) → IsFormedCall a count place call → IsFormedCall b count place call
  more_call count place call formed = assumption (more.clients call.client formed.client)

  pub more_master : {number : ℕ} {master : Master} → IsFormedMaster a number master → IsFormedMaster b number master
  more_master {master} formed =
      assumption (
        subst (λ (count : ℕ). length master.log.known ≡ count) more.backups formed.known,
        more_entries master.log.entries formed.written,
        more_all_held (flat_map (λ items. items) master.sides) formed.items,
        more_all_held master.records formed.records,
        each_weaker (IsFormedCall a (length master.log.entries)) (IsFormedCall b (length master.log.entries)) master.calls (more_call (length master.log.entries)) formed.calls,
        each_weaker (IsFormedTablet a) (IsFormedTablet b) master.tablets more_tablet formed.tablets,
      )

  -- ---- the coordinator

  pub more_row : (row : Row) → IsFormedRow a row → IsFormedRow b row
  more_row row formed = grind (arith, named_in, more_master_number, row.phase, formed.named)

  pub more_handed : {handed : Handed} → IsFormedHanded a handed → IsFormedHanded b handed
  more_handed formed = grind (arith, more_number, more_all_ends, formed.floor, formed.told)

  pub more_coordinator : {coordinator : Coordinator} → IsFormedCoordinator a coordinator → IsFormedCoordinator b coordinator
  more_coordinator {coordinator} formed = assumption (
    All-weaker (IsFormedRow a) (IsFormedRow b) more_row coordinator.rows formed.rows,
    All-weaker (IsMaster a.masters) (IsMaster b.masters) more_master_number coordinator.noticed formed.noticed,
    each_weaker (λ tablet handed. IsFormedHanded a handed) (λ tablet handed. IsFormedHanded b handed) coordinator.handed
        (λ tablet handed. more_handed) formed.handed,
  )

  -- ---- beside the nodes

  pub more_ledger : {base : Base} {lane : ℕ} {ledger : Ledger} → IsFormedLedger a base lane ledger → IsFormedLedger b base lane ledger
  more_ledger {ledger = ledger} formed = grind (arith, each_weaker, more_message)

  pub more_wire : {wire : Traffic} → IsFormedWire a wire → IsFormedWire b wire
  more_wire {wire} formed = grind (arith, each_weaker, more_message)
