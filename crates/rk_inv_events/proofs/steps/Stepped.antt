-- A sound lane stays sound at each event that may happen there: a delivery, by who receives the message, living or crashed, and any other
-- event.
use Rattle.std.proofs.Common.{Bool, None, Option, Some, arith, cond, false, refl, subst, sym, true, ℕ, ◌&&◌, ◌≡◌, inl, inr}
use Rattle.rk_message.specs.declared.message.Body.TheVariants as bodies
use Rattle.rk_types.specs.declared.node.Node.TheVariants as nodes
use Rattle.rk_world.specs.declared.error.StepError.TheVariants as errors
use Rattle.rk_world.specs.declared.event.Event.TheVariants as events
use Rattle.rk_inv_base.proofs.Words.{Body, Called, Event, Gave, HasRoom, IsSound, IsWellFormed, Master, Message, Node, Pulled, Request}
use Rattle.rk_inv_base.proofs.Words.{Stepped, World, batch_taken, cases_Bool, changed, delivered, delivered_to, get, happened, has_crashed}
use Rattle.rk_inv_base.proofs.Words.{is_receiving_at, is_token, losing, master_at, pulled_taken, tablet_in, to_backup, to_coordinator}
use Rattle.rk_inv_base.proofs.Words.{to_master, view, worked_at}
use Rattle.rk_inv_base.proofs.Headlines.{sound_forgotten}
use Rattle.rk_inv_wellformed.proofs.lanes.Events.{does_not_hold, has_no_fault}
use Rattle.rk_inv_wellformed.proofs.lanes.Whole.{formed_event}
use Rattle.rk_inv_events.proofs.Words.{AreSealedThere, told_for, told_to}
use Rattle.rk_inv_events.proofs.copies.Gathers as copies
use Rattle.rk_inv_events.proofs.events.Clients.{sound_added, sound_again}
use Rattle.rk_inv_events.proofs.events.Coordinating.{sound_event_split, sound_noticed, sound_tablet_added, sound_tablet_migrated}
use Rattle.rk_inv_events.proofs.events.CoordinatorTurn.{sound_coordinator_turn}
use Rattle.rk_inv_events.proofs.events.Crashing.{segments_left, sound_crash}
use Rattle.rk_inv_events.proofs.events.Sending.{sound_question}
use Rattle.rk_inv_events.proofs.events.Storing.{sound_to_backup}
use Rattle.rk_inv_events.proofs.events.Working.{reached, stays}
use Rattle.rk_inv_events.proofs.orders.Granting.{sound_grant}
use Rattle.rk_inv_events.proofs.orders.Owning.{sound_close, sound_own, sound_release}
use Rattle.rk_inv_events.proofs.orders.Preparing.{sound_prepare}
use Rattle.rk_inv_events.proofs.orders.Rebuilding.{sound_rebuild}
use Rattle.rk_inv_events.proofs.pulls.Targets.{sound_got}
use Rattle.rk_inv_events.proofs.pulls.Batches.{sound_pulled}
use Rattle.rk_inv_events.proofs.pulls.Sources.{sound_pull, sound_want}
use Rattle.rk_inv_events.proofs.rebuilt.Told.{sound_rebuilt_delivered}
use Rattle.rk_inv_events.proofs.reports.Reported.{sound_joined, sound_ready, sound_transfer}
use Rattle.rk_inv_events.proofs.steps.SealedBehind.{may_seal_behind}
use Rattle.rk_inv_events.proofs.stored.StoredTaken as stored
use Rattle.rk_inv_events.proofs.turn.MasterTurn.{sound_master_turn}
use Rattle.rk_inv_events.proofs.write.Taken as requests
use Rattle.rk_inv_events.specs.steps.Steps.{MayStep}

-- ---- a master receives a message

-- a message to a master
abbrev pub to_one : Node → ℕ → Body → Message
to_one from master body = record { from = from; to = nodes.Master master; body = body }

module _ (w : World) (number master : ℕ) (sound : IsSound w) (formed : IsWellFormed w) (room : HasRoom w) (there : AreSealedThere (view w) master) where
  abbrev own : Master
  own = master_at w master

  -- what is so of the lane once the master took a message
  abbrev After : (World → Type 0) → Node → Body → Type 0
  After P from body = P (to_master w master (to_one from master body)).world

  abbrev StandsFrom : Node → Body → Type 0
  StandsFrom from body = get w.wire.messages number ≡ Some (to_one from master body)

  -- ---- a client's

  requested : (client : ℕ) (request : Request) → StandsFrom (nodes.Client client) (bodies.Request request) → After IsSound (nodes.Client client) (bodies.Request request)
  requested client request sent = subst (λ (o : Option Message). IsSound (delivered w o (Gave None)).world) sent
      (requests.sound_delivered w number master client request sound formed sent (Gave None) room)

  module _ (lives : has_crashed w master ≡ false) where
    -- the master does nothing
    nothing : IsSound (cond (has_crashed w master) (losing w) (worked_at w master 0 (changed own))).world
    nothing = reached w master 0 (changed own) lives (stays w master 0 sound)

    of_client : (client : ℕ) (body : Body) → StandsFrom (nodes.Client client) body → After IsSound (nodes.Client client) body
    of_client client (bodies.Request request) sent = requested client request sent
    of_client client _ sent = nothing

    -- ---- orders

    ordered : (body : Body) → StandsFrom nodes.Coordinator body → After HasRoom nodes.Coordinator body → After IsSound nodes.Coordinator body
    ordered (bodies.Own tenure) sent fits = sound_own w number master tenure sound lives sent
    ordered (bodies.Release tenure) sent fits = sound_release w number master tenure sound lives sent
    ordered (bodies.Prepare prepare) sent fits = sound_prepare w number master prepare sound lives sent
    ordered (bodies.Close tenure) sent fits = sound_close w number master tenure sound lives sent
    ordered (bodies.Grant grant) sent fits = sound_grant w number master grant sound formed lives (segments_left w formed room master) sent
    ordered (bodies.Rebuild rebuild) sent fits = sound_rebuild w number master rebuild sound formed lives sent room fits
    ordered _ sent fits = nothing

    -- ---- what masters pull of each other

    module _ (sender : ℕ) (pulled : Pulled) where
      abbrev takes : Bool
      takes = is_receiving_at (tablet_in w master pulled.tenure.tablet) pulled.tenure.term && is_token pulled.token
          (tablet_in w master pulled.tenure.tablet).pulling.token

      abbrev taking : (World → Type 0) → Bool → Type 0
      taking P test = P (worked_at w master 0 (cond test (changed (batch_taken own pulled.tenure.tablet pulled)) (changed own))).world

      -- so it is of the lane once the batch is taken
      once_taken : (P : World → Type 0) → takes ≡ true → After P (nodes.Master sender) (bodies.Pulled pulled) → taking P true
      once_taken P is holds = subst (taking P) is
          (subst (λ (crashed : Bool). P (cond crashed (losing w) (worked_at w master 0 (pulled_taken own pulled))).world) lives holds)

      of_pulled : StandsFrom (nodes.Master sender) (bodies.Pulled pulled) → After IsWellFormed (nodes.Master sender) (bodies.Pulled pulled)
          → After HasRoom (nodes.Master sender) (bodies.Pulled pulled) → After IsSound (nodes.Master sender) (bodies.Pulled pulled)
      of_pulled sent after fits = elim (cases_Bool takes) [
        | inl is ↦
            sound_pulled w number sender master pulled sound formed lives sent
            (may_seal_behind w master pulled formed room there (once_taken IsWellFormed is after) (once_taken HasRoom is fits))
        | inr is ↦ reached w master 0 (pulled_taken own pulled) lives (subst (taking IsSound) (sym is) (stays w master 0 sound))
      ]

    of_peer : (sender : ℕ) (body : Body) → StandsFrom (nodes.Master sender) body → After IsWellFormed (nodes.Master sender) body → After HasRoom (nodes.Master sender) body
        → After IsSound (nodes.Master sender) body
    of_peer sender (bodies.Pull pull) sent after fits = sound_pull w number sender master pull sound lives sent
    of_peer sender (bodies.Want want) sent after fits = sound_want w number sender master want sound lives sent
    of_peer sender (bodies.Got message) sent after fits = sound_got w number sender master message sound lives sent
    of_peer sender (bodies.Pulled pulled) sent after fits = of_pulled sender pulled sent after fits
    of_peer sender _ sent after fits = nothing

    -- ---- a backup's

    of_backup : (backup : ℕ) (body : Body) → StandsFrom (nodes.Backup backup) body → After HasRoom (nodes.Backup backup) body → After IsSound (nodes.Backup backup) body
    of_backup backup (bodies.Stored told) sent fits = subst (λ (o : Option Message). IsSound (delivered w o (Gave None)).world) sent
        (stored.sound_delivered w formed room number master backup told (Gave None) sound sent)
    of_backup backup (bodies.Copy copy) sent fits = copies.sound_taken w number backup master copy sound formed room sent fits
    of_backup backup _ sent fits = nothing

    -- ---- any

    living : (from : Node) (body : Body) → StandsFrom from body → After IsWellFormed from body → After HasRoom from body → After IsSound from body
    living (nodes.Client client) body sent after fits = of_client client body sent
    living nodes.Coordinator body sent after fits = ordered body sent fits
    living (nodes.Master sender) body sent after fits = of_peer sender body sent after fits
    living (nodes.Backup backup) body sent after fits = of_backup backup body sent fits

  pub sound_to_master : (from : Node) (body : Body) → get w.wire.messages number ≡ Some (to_one from master body)
      → IsWellFormed (to_master w master (to_one from master body)).world → HasRoom (to_master w master (to_one from master body)).world
      → IsSound (to_master w master (to_one from master body)).world
  sound_to_master from body sent after fits = elim (cases_Bool (has_crashed w master)) [
    | inl crashed ↦ rw crashed sound
    | inr lives ↦ living lives from body sent after fits
  ]

-- ---- the coordinator receives one

-- a message to the coordinator
abbrev pub to_desk : Node → Body → Message
to_desk from body = record { from = from; to = nodes.Coordinator; body = body }

module _ (w : World) (number : ℕ) (sound : IsSound w) (formed : IsWellFormed w) (room : HasRoom w) where
  of_master : (master : ℕ) (body : Body) → get w.wire.messages number ≡ Some (to_desk (nodes.Master master) body) → IsSound (to_coordinator w (to_desk (nodes.Master master) body)).world
  of_master master (bodies.Ready ready) sent = sound_ready w number master sound ready sent
  of_master master (bodies.Transfer transfer) sent = sound_transfer w number master sound formed transfer sent
  of_master master (bodies.Joined tenure) sent = sound_joined w number master sound formed tenure sent
  of_master master (bodies.Rebuilt rebuilt) sent = subst (λ (o : Option Message). IsSound (delivered w o (Gave None)).world) sent
      (sound_rebuilt_delivered w number master rebuilt (Gave None) sound formed room sent)
  of_master master _ sent = sound

  pub sound_to_coordinator : (from : Node) (body : Body) → get w.wire.messages number ≡ Some (to_desk from body) → IsSound (to_coordinator w (to_desk from body)).world
  sound_to_coordinator (nodes.Client client) body sent = sound_question w client body sound
  sound_to_coordinator (nodes.Master master) body sent = of_master master body sent
  sound_to_coordinator _ body sent = sound

-- ---- a delivery

module _ (w : World) (number : ℕ) (called : Called) (sound : IsSound w) (may : MayStep w (events.Deliver number) called) where
  abbrev arrived : Node → Node → Body → Stepped
  arrived from to body = delivered_to w (record { from = from; to = to; body = body }) to called

  by_receiver : (from to : Node) (body : Body) → get w.wire.messages number ≡ Some (record { from = from; to = to; body = body })
      → IsWellFormed (arrived from to body).world → HasRoom (arrived from to body).world
      → called ≡ told_to w (record { from = from; to = to; body = body }) to may.told.fault → IsSound (arrived from to body).world
  by_receiver from (nodes.Client client) body sent after fits told = sound
  by_receiver from nodes.Coordinator body sent after fits told = sound_to_coordinator w number sound may.formed may.room from body sent
  by_receiver from (nodes.Master master) body sent after fits told =
      sound_to_master w number master sound may.formed may.room (may.steady.sealed master) from body sent after fits
  by_receiver from (nodes.Backup backup) body sent after fits told =
      subst (λ (c : Called). IsSound (to_backup w backup from body c).world) (sym told)
      (sound_to_backup w number backup sound may.formed may.steady.tell from body may.told.fault sent)

  after : IsWellFormed (delivered w (get w.wire.messages number) called).world
  after = formed_event w (events.Deliver number) called may.may may.comes may.calm may.none may.room may.fits may.formed

  by_message : (found : Option Message) → get w.wire.messages number ≡ found → IsWellFormed (delivered w found called).world → HasRoom (delivered w found called).world
      → called ≡ told_for w found may.told.fault → IsSound (delivered w found called).world
  by_message None sent then fits told = sound
  by_message (Some message) sent then fits told = by_receiver message.from message.to message.body sent then fits told

  pub sound_delivered : IsSound (happened w (events.Deliver number) called).world
  sound_delivered = by_message (get w.wire.messages number) refl after may.fits may.told.told

-- ---- an event

pub sound_event : (w : World) (event : Event) (called : Called) → IsSound w → MayStep w event called → IsSound (happened w event called).world
sound_event w (events.AddTablet tablet range master) called sound may = grind (arith, sound_tablet_added, may.formed, may.may, may.none)
sound_event w (events.AddClient client) called sound may = sound_added w client sound
sound_event w (events.Deliver number) called sound may = sound_delivered w number called sound may
sound_event w (events.Forget number) called sound may = sound_forgotten w number sound
sound_event w (events.Turn nodes.Coordinator) called sound may = sound_coordinator_turn w sound
sound_event w (events.Turn (nodes.Master master)) called sound may =
    let few = segments_left w may.formed may.room master in
    sound_master_turn w master sound may.formed
    (does_not_hold (has_crashed w master) (errors.Dead master) (has_no_fault w (events.Turn (nodes.Master master)) may.none))
    (omega (arith, few))
sound_event w (events.Again client) called sound may = sound_again w client sound
sound_event w (events.Migrate tablet to) called sound may = sound_tablet_migrated w tablet to sound may.may may.none
sound_event w (events.Split tablet at new) called sound may = sound_event_split w tablet at new sound may.none
sound_event w (events.Crash master) called sound may = sound_crash w may.formed may.room master sound may.calm
sound_event w (events.Notice master) called sound may = sound_noticed w master sound may.formed
sound_event w _ called sound may = sound
