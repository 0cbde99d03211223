use Rattle.rk_master.proofs.Words.{◌≡◌, List, Option, sym, ap, ◌∙◌, Handover, Master, Tablet, changed, tablet_of, Row, master_of}
use Rattle.rk_transfer.specs.Handover.{owned}
use Rattle.rk_transfer.specs.declared.role.Role.TheVariants as roles
use Rattle.rk_master.proofs.Closable.{closable_in, lawful_read}
use Rattle.rk_master.proofs.Handovers.{has_moved, not_moved, stays_so, owned_role, with_rows, tablet_read, same_set, own_failed, own_made}
use Rattle.rk_master.proofs.orders.own.Goals as goal

pub returns-then-not-own-clause-ok : goal.returns-then-not-own-clause-ok
returns-then-not-own-clause-ok c =
    let master : Master = master_of c.args.state.now in
    let rows : List Row = c.args.state.now.tablets.items in
    let read : Row = c.index_mut.result.now in
    let moved : Option Handover = owned read.1.handover c.args.tenure.term c.args.state.now.applied in
    let failed = sym c.own.ensures.answer ∙ c.if-not-own.true in
    let same = stays_so moved read.1.handover c.own.new.self failed c.own.ensures.after in
    let tablet = tablet_read rows c.args.tenure.tablet c.args.at read c.requires.state.tablets.order c.requires.place c.index_mut.ensures.value in
    ap (λ (held : List Row). changed (with_rows master held)) (same_set rows c.args.at read c.own.new.self same c.index_mut.ensures.value)
    ∙ own_failed master c.args.tenure (tablet_of read.1) tablet (not_moved moved failed)

pub returns-clause-state : goal.returns-clause-state
returns-clause-state c =
    let read : Row = c.index_mut.result.now in
    let handover : Handover = c.own.new.self in
    let moved = has_moved (owned read.1.handover c.args.tenure.term c.args.state.now.applied) read.1.handover handover (sym c.own.ensures.answer ∙ c.if-not-own.false) c.own.ensures.after in
    let role : c.pull_from.new.self.handover.role ≡ roles.Serving = ap (λ (t : Tablet). t.handover.role) c.pull_from.ensures ∙ owned_role read.1.handover handover c.args.tenure.term c.args.state.now.applied moved in
    record {
      within = c.requires.state.within;
      staged = c.requires.state.staged;
      backups = c.requires.state.backups;
      tablets = lawful_read c.args.state.now.tablets.items c.args.at read c.pull_from.new.self c.requires.place.within c.index_mut.ensures.value c.requires.state.tablets
          (closable_in (tablet_of c.pull_from.new.self) roles.Serving role (λ it. tt));
      sides = c.requires.state.sides;
    }

pub returns-clause-ok : goal.returns-clause-ok
returns-clause-ok c =
    let master : Master = master_of c.args.state.now in
    let rows : List Row = c.args.state.now.tablets.items in
    let read : Row = c.index_mut.result.now in
    let handover : Handover = c.own.new.self in
    let moved = has_moved (owned read.1.handover c.args.tenure.term c.args.state.now.applied) read.1.handover handover (sym c.own.ensures.answer ∙ c.if-not-own.false) c.own.ensures.after in
    own_made master rows c.args.at read handover c.pull_from.new.self c.args.tenure c.requires.state.tablets.order c.requires.place c.index_mut.ensures.value moved c.pull_from.ensures
