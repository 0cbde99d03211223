-- The whole invariant: each part, of the data of a view that it names.
use Rattle.std.specs.Prelude.{List}
use Rattle.rk_entry.specs.declared.entry.Entry.{Entry}
use Rattle.rk_tablet_map.specs.declared.row.Row.{Row}
use Rattle.rk_world.specs.World.{World, written_in, standing, bytes_of_logs}
use Rattle.rk_sound.specs.View.{View, view, truths, rests}
use Rattle.rk_sound.specs.Nodes.{Nodes}
use Rattle.rk_sound.specs.Rows.{Rows}
use Rattle.rk_sound.specs.Terms.{Terms}
use Rattle.rk_sound.specs.Cover.{Cover}
use Rattle.rk_sound.specs.Roles.{Roles}
use Rattle.rk_sound.specs.Logs.{Logs}
use Rattle.rk_sound.specs.Truth.{Truth}
use Rattle.rk_sound.specs.Order.{Order}
use Rattle.rk_sound.specs.Calls.{Calls}
use Rattle.rk_sound.specs.Counters.{Counters}
use Rattle.rk_sound.specs.Rest.{Rest}
use Rattle.rk_sound.specs.Tables.{Tables}
use Rattle.rk_sound.specs.Receives.{Receives}
use Rattle.rk_sound.specs.Rebuilds.{Rebuilds}
use Rattle.rk_sound.specs.Messages.{Messages}
use Rattle.rk_sound.specs.Asked.{Asked}
use Rattle.rk_sound.specs.Room.{Room}

-- ---- each part, of a view

abbrev pub NodesOf : View → Type 0
NodesOf v = Nodes v.numbers v.logs v.masters v.backups v.rows v.noticed v.live

abbrev pub RowsOf : View → Type 0
RowsOf v = Rows v.rows v.written v.journal

abbrev pub TermsOf : View → Type 0
TermsOf v = Terms v.rows v.handovers v.wire

abbrev pub CoverOf : View → Type 0
CoverOf v = Cover v.rows v.written v.handovers v.records v.wire

abbrev pub RolesOf : View → Type 0
RolesOf v = Roles v.rows v.handovers v.written v.live

abbrev pub LogsOf : View → Type 0
LogsOf v = Logs v.logs v.written v.stored v.wire

abbrev pub TruthOf : View → (Row → List Entry) → Type 0
TruthOf v truths = Truth v.base v.rows truths v.journal v.asked

abbrev pub OrderOf : View → (Row → List Entry) → (Row → List Entry) → Type 0
OrderOf v truths rests = Order v.rows truths rests

abbrev pub CallsOf : View → (Row → List Entry) → (Row → List Entry) → Type 0
CallsOf v truths rests = Calls v.base v.rows truths rests v.written v.handovers v.completions v.live v.handed v.journal v.wire

abbrev pub CountersOf : View → (Row → List Entry) → (Row → List Entry) → Type 0
CountersOf v truths rests = Counters v.base v.rows truths rests v.written v.handovers v.live v.handed v.journal v.wire

abbrev pub RestOf : View → (Row → List Entry) → (Row → List Entry) → Type 0
RestOf v truths rests = Rest v.base v.rows truths rests v.written v.handovers v.calls v.live v.journal v.asked

abbrev pub TablesOf : View → Type 0
TablesOf v = Tables v.rows v.written v.handovers v.records v.live

abbrev pub ReceivesOf : View → Type 0
ReceivesOf v = Receives v.rows v.written v.handovers v.completions v.pullings v.records v.handed

abbrev pub RebuildsOf : View → (Row → List Entry) → Type 0
RebuildsOf v truths = Rebuilds v.rows truths v.logs v.written v.stored v.handovers v.completions v.gathers v.merged v.records v.live

abbrev pub MessagesOf : View → Type 0
MessagesOf v = Messages v.rows v.logs v.written v.stored v.handovers v.completions v.merged v.live v.handed v.journal v.wire

abbrev pub AskedOf : View → Type 0
AskedOf v = Asked v.base v.lane v.asked v.requests v.journal v.wire

-- ---- all parts

-- each part holds of a view, with these truths and these rests of its rows
pub record SoundParts (v : View) (truths rests : Row → List Entry) : Type 0 where
  pub nodes : NodesOf v
  pub rows : RowsOf v
  pub terms : TermsOf v
  pub cover : CoverOf v
  pub roles : RolesOf v
  pub logs : LogsOf v
  pub truth : TruthOf v truths
  pub order : OrderOf v truths rests
  pub calls : CallsOf v truths rests
  pub counters : CountersOf v truths rests
  pub rest : RestOf v truths rests
  pub records : TablesOf v
  pub receives : ReceivesOf v
  pub rebuilds : RebuildsOf v truths
  pub messages : MessagesOf v
  pub asked : AskedOf v

-- a view is sound: each part holds, with the truths and the rests of its rows
abbrev pub SoundView : View → Type 0
SoundView v = SoundParts v (truths v) (rests v)

-- a lane is sound: its view is
abbrev pub IsSound : World → Type 0
IsSound w = SoundView (view w)

-- the numbers of a lane have room
abbrev pub HasRoom : World → Type 0
HasRoom w =
    Room (standing w) (written_in w) w.coordinator.handed w.wire.messages w.ledger.requests w.top (bytes_of_logs w)
