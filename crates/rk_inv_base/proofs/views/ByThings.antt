-- The invariant by its sixteen parts, and by the things that it speaks of: a view that has the one has the other.
use Rattle.rk_inv_base.proofs.Words.{CoverOf, Message, Some, SoundTablet, SoundThings, SoundView, View, get, tablet_seen, ◌≡◌, ℕ}
use Rattle.rk_inv_base.proofs.views.ByRows.{each_row, view_by_rows}
use Rattle.rk_inv_base.proofs.wire.Wire.{each_may_be_sent}

-- each tablet of a master of a sound view
pub tablet_of : (v : View) → SoundView v → (q tablet : ℕ) → SoundTablet v q tablet (tablet_seen v q tablet)
tablet_of v sound q tablet = record {
  terms = search (sound.terms.kept, sound.terms.begun, sound.terms.apart);
  cover = search (sound.cover.unknown, sound.cover.ranges);
  roles = sound.roles.known q tablet;
  calls = sound.calls.known q tablet;
  receives = sound.receives.bare q tablet;
}

pub things_of_parts : (v : View) → SoundView v → SoundThings v
things_of_parts v sound = record {
  rows = each_row v sound;
  masters = λ q. record {
    tablets = tablet_of v sound q;
    nodes = search (sound.nodes.numbered, sound.nodes.known, sound.nodes.left);
    cover = search (sound.cover.marks, sound.cover.entries, sound.cover.sides, sound.cover.items, sound.cover.wholes);
    logs = sound.logs.each q;
    rest = search (sound.rest.waiting, sound.rest.are_last, sound.rest.found);
    tables = sound.records.ordered q;
  };
  messages = each_may_be_sent v sound;
  clients = λ client. record { last = sound.asked.last client; again = sound.asked.again client };
  journal = assumption;
  apart = sound.rows.apart;
  backed = sound.nodes.backed;
  crashed = sound.nodes.crashed;
}

pub parts_of_things : (v : View) → SoundThings v → SoundView v
parts_of_things v things =
    let of = things.masters in
    let says = things.messages in
    let cover : CoverOf v = record {
      unknown = λ q tablet. ((of q).tablets tablet).cover.unknown;
      marks = λ q. (of q).cover.marks;
      ranges = λ q tablet. ((of q).tablets tablet).cover.ranges;
      entries = λ q. (of q).cover.entries;
      sides = λ q. (of q).cover.sides;
      items = λ q. (of q).cover.items;
      wholes = λ q. (of q).cover.wholes;
      sent = λ n message there. (says n message there).cover.0;
      ordered = λ n message there. (says n message there).cover.1;
    } in
    view_by_rows v (assumption (
      things,
      cover,
      λ (q : ℕ). (of q).nodes.numbered,
      λ (q : ℕ). (of q).nodes.known,
      λ (q : ℕ). (of q).nodes.left,
      λ (q tablet : ℕ). ((of q).tablets tablet).terms.kept,
      λ (q tablet : ℕ). ((of q).tablets tablet).terms.begun,
      λ (q tablet : ℕ). ((of q).tablets tablet).terms.apart,
      λ (q tablet : ℕ). ((of q).tablets tablet).roles,
      λ (q : ℕ). (of q).logs,
      λ (q tablet : ℕ). ((of q).tablets tablet).calls,
      λ (q : ℕ). (of q).rest.waiting,
      λ (q : ℕ). (of q).rest.are_last,
      λ (q : ℕ). (of q).rest.found,
      λ (q : ℕ). (of q).tables,
      λ (q tablet : ℕ). ((of q).tablets tablet).receives,
      λ (n : ℕ) (m : Message) (there : get v.wire n ≡ Some m). (says n m there).logs,
      λ (n : ℕ) (m : Message) (there : get v.wire n ≡ Some m). (says n m there).replies,
      λ (n : ℕ) (m : Message) (there : get v.wire n ≡ Some m). (says n m there).asked,
      λ (client : ℕ). (things.clients client).last,
      λ (client : ℕ). (things.clients client).again,
    )) things.rows
