use Rattle.std.proofs.Common.{◌≡◌, ◌+◌, ◌-◌, ◌<◌, ◌≤◌, ◌∙◌, ℕ, List, length, set, drop, sym, ap, subst, arith}
use Rattle.std.specs.List.{prefix_len}
use Rattle.std.specs.Vec.{with_items}
use Rattle.rk_entry.specs.declared.lists.TheConstants.{FIRST_SIDE_SEGMENT}
use Rattle.rk_log.specs.declared.copied.Copied.{Copied}
use Rattle.rk_log.specs.declared.copied.TheConstants.{FIRST_SEGMENT}
use Rattle.rk_log.specs.Stored.{spelled_in}
use Rattle.rk_log.specs.Parts.{Parts, bytes_in, parts_of, log_of, lengths_in, bytes_among, is_held_at, AreWithin, IsCursor, cursor_at, IsCounted}
use Rattle.rk_log.proofs.Grown.{Raised, raised, raised_count}
use Rattle.rk_log.proofs.Consistency.{places_within, count_within, told_in, cursor_raised, consistent_told}
use Rattle.rk_log.proofs.Views.{backup_at}
use Rattle.rk_log.proofs.Changes.{size_told, told_shown, told_enough}
use Rattle.rk_log.proofs.log.MasterLog.stored.Goals as goal
use Rattle.rk_log.proofs.log.MasterLog.stored.Goals.{After-bytes, After-raise, After-raise-2, After-held_from-self-inside}

-- the backup has a place
within : (c : After-bytes) → c.args.backup - 1 < length c.self.inside.cursors.items
within c = backup_at (parts_of c.self.inside) c.args.self.now c.args.backup c.self.view_is c.requires

-- the main segments once it reported the length
main_raised : (c : After-raise)
    → Raised FIRST_SEGMENT c.args.segment (c.args.backup - 1) c.args.length c.self.inside.main.items (with_items c.self.inside.main c.raise.new.segments).items
main_raised c =
    raised FIRST_SEGMENT c.args.segment (c.args.backup - 1) c.args.length c.self.inside.main c.as_mut_slice.result.now c.raise.new.segments
    c.as_mut_slice.ensures.value (c.raise.auto.segments ∙ c.as_mut_slice.ensures.len) c.raise.ensures.bytes c.raise.ensures.known

-- and the side segments
sides_raised : (c : After-raise-2)
    → Raised FIRST_SIDE_SEGMENT c.args.segment (c.args.backup - 1) c.args.length c.self.inside.sides.items (with_items c.self.inside.sides c.raise-2.new.segments).items
sides_raised c =
    raised FIRST_SIDE_SEGMENT c.args.segment (c.args.backup - 1) c.args.length c.self.inside.sides c.as_mut_slice-2.result.now c.raise-2.new.segments
    c.as_mut_slice-2.ensures.value (c.raise-2.auto.segments ∙ c.as_mut_slice-2.ensures.len) c.raise-2.ensures.bytes c.raise-2.ensures.known

pub raise-requires : goal.raise-requires
raise-requires c = omega (arith, within (goal.at.raise-requires c).After-bytes, c.self.invariant.consistent.last_backup)

pub raise-requires-2 : goal.raise-requires-2
raise-requires-2 c = omega (arith, within (goal.at.raise-requires-2 c).After-bytes, c.self.invariant.consistent.last_backup)

pub index-requires : goal.index-requires
index-requires c = omega (arith, within (goal.at.index-requires c).After-bytes, c.self.inside.cursors.ok.0)

pub advanced-requires-clause-backup : goal.advanced-requires-clause-backup
advanced-requires-clause-backup c = omega (arith, within (goal.at.advanced-requires-clause-backup c).After-bytes, c.self.invariant.consistent.last_backup)

pub advanced-requires-clause-cursor : goal.advanced-requires-clause-cursor
advanced-requires-clause-cursor c =
    let cursor : IsCursor (c.args.backup - 1) c.self.inside.main.items c.self.inside.sides.items c.index.result.now =
    subst (IsCursor (c.args.backup - 1) c.self.inside.main.items c.self.inside.sides.items) (sym c.index.ensures)
    (c.self.invariant.consistent.cursors_are (c.args.backup - 1) c.index.result.now (within (goal.at.advanced-requires-clause-cursor c).After-bytes)) in
    subst (λ (m : List Copied). IsCursor (c.args.backup - 1) m c.as_slice-2.result.now c.index.result.now) (sym c.as_slice.ensures.value)
    (subst (λ (s : List Copied). IsCursor (c.args.backup - 1) (with_items c.self.inside.main c.raise.new.segments).items s c.index.result.now) (sym c.as_slice-2.ensures.value)
    (cursor_raised c.self.inside.main.items (with_items c.self.inside.main c.raise.new.segments).items c.self.inside.sides.items (with_items c.self.inside.sides c.raise-2.new.segments).items
    c.args.segment (c.args.backup - 1) c.args.length (c.args.backup - 1) c.index.result.now (main_raised (goal.at.advanced-requires-clause-cursor c).After-raise) (sides_raised (goal.at.advanced-requires-clause-cursor c).After-raise-2) cursor))

pub index_mut-requires : goal.index_mut-requires
index_mut-requires c = omega (arith, within (goal.at.index_mut-requires c).After-bytes, c.self.inside.cursors.ok.0)

pub held_from-self-inside-requires-clause-within : goal.held_from-self-inside-requires-clause-within
held_from-self-inside-requires-clause-within c =
    let count : length c.self.inside.main.items ≡ length c.as_slice-4.result.now =
    sym (ap length c.as_slice-4.ensures.value
    ∙ raised_count FIRST_SEGMENT c.args.segment (c.args.backup - 1) c.args.length c.self.inside.main.items (with_items c.self.inside.main c.raise.new.segments).items (main_raised (goal.at.held_from-self-inside-requires-clause-within c).After-raise)) in
    subst (AreWithin (length c.as_slice-4.result.now)) (sym c.as_slice-3.ensures.value)
    (subst (λ (n : ℕ). AreWithin n c.self.inside.ends.items) count
    (places_within (parts_of c.self.inside) c.self.invariant.consistent))

pub held_from-self-inside-requires-clause-from : goal.held_from-self-inside-requires-clause-from
held_from-self-inside-requires-clause-from c =
    omega (
      arith,
      count_within (parts_of c.self.inside) c.self.invariant.consistent,
      ap length c.as_slice-3.ensures.value,
    )

-- it reported no more than there is
enough : (c : After-bytes) → c.args.length ≤ length c.bytes.result.now → c.args.length ≤ length (bytes_among c.args.segment c.self.inside.main.items c.self.inside.sides.items)
enough c le =
    told_enough (parts_of c.self.inside)
    c.args.self.now c.args.segment c.args.length c.self.invariant.consistent c.self.view_is (omega (arith, le, ap length c.bytes.ensures.bytes))

-- the parts once the length is reported
parts_now : (c : After-held_from-self-inside) → bytes_in (with_items c.self.inside.main c.raise.new.segments).items ≡ bytes_in c.self.inside.main.items
    → told_in (parts_of c.self.inside) (with_items c.self.inside.main c.raise.new.segments).items (with_items c.self.inside.sides c.raise-2.new.segments).items (c.args.backup - 1) c.advanced.result
    ≡ record {
      entries = spelled_in (bytes_in (with_items c.self.inside.main c.raise.new.segments).items);
      ends = c.self.inside.ends.items;
      committed = c.held_from-self-inside.result;
      main = (with_items c.self.inside.main c.raise.new.segments).items;
      sides = (with_items c.self.inside.sides c.raise-2.new.segments).items;
      cursors = set c.self.inside.cursors.items (c.args.backup - 1) c.advanced.result;
    }
parts_now c same =
    let held : c.held_from-self-inside.result
    ≡ c.self.inside.committed + prefix_len (is_held_at (length c.self.inside.cursors.items) (lengths_in (with_items c.self.inside.main c.raise.new.segments).items)) (drop c.self.inside.committed c.self.inside.ends.items) =
    c.held_from-self-inside.ensures
    ∙ (λ i. c.self.inside.committed + prefix_len (is_held_at ((c.len-backups.ensures ∙ c.self.inside.cursors.ok.0) i) (lengths_in (c.as_slice-4.ensures.value i))) (drop c.self.inside.committed (c.as_slice-3.ensures.value i))) in
    λ i. record {
      entries = spelled_in (sym same i);
      ends = c.self.inside.ends.items;
      committed = sym held i;
      main = (with_items c.self.inside.main c.raise.new.segments).items;
      sides = (with_items c.self.inside.sides c.raise-2.new.segments).items;
      cursors = set c.self.inside.cursors.items (c.args.backup - 1) c.advanced.result;
    }

pub invariant_of-self : goal.invariant_of-self
invariant_of-self c =
    let furthest : c.advanced.result ≡ cursor_at (c.args.backup - 1) (with_items c.self.inside.main c.raise.new.segments).items (with_items c.self.inside.sides c.raise-2.new.segments).items =
    c.advanced.ensures ∙ (λ i. cursor_at (c.args.backup - 1) (c.as_slice.ensures.value i) (c.as_slice-2.ensures.value i)) in
    let sides = sides_raised (goal.at.invariant_of-self c).After-raise-2 in
    subst (λ (parts : Parts). IsCounted parts c.self.inside.size) (parts_now (goal.at.invariant_of-self c).After-held_from-self-inside (main_raised (goal.at.invariant_of-self c).After-raise).bytes) (record {
      consistent =
          consistent_told (parts_of c.self.inside) (with_items c.self.inside.main c.raise.new.segments).items (with_items c.self.inside.sides c.raise-2.new.segments).items
          c.args.segment (c.args.backup - 1) c.args.length c.advanced.result c.self.invariant.consistent (within (goal.at.invariant_of-self c).After-bytes)
          (main_raised (goal.at.invariant_of-self c).After-raise) sides (enough (goal.at.invariant_of-self c).After-bytes (omega arith)) furthest;
      size_is =
          size_told (parts_of c.self.inside) (with_items c.self.inside.main c.raise.new.segments).items (with_items c.self.inside.sides c.raise-2.new.segments).items
          (c.args.backup - 1) c.advanced.result c.self.inside.size c.self.invariant.size_is sides.bytes;
    })

pub returns-clause-ok : goal.returns-clause-ok
returns-clause-ok c =
    sym (ap log_of (parts_now (goal.at.returns-clause-ok c).After-held_from-self-inside (main_raised (goal.at.returns-clause-ok c).After-raise).bytes))
    ∙ told_shown (parts_of c.self.inside) (with_items c.self.inside.main c.raise.new.segments).items (with_items c.self.inside.sides c.raise-2.new.segments).items
    c.args.self.now c.args.segment c.args.backup c.args.length c.advanced.result c.self.invariant.consistent c.self.view_is (within (goal.at.returns-clause-ok c).After-bytes)
    (main_raised (goal.at.returns-clause-ok c).After-raise) (sides_raised (goal.at.returns-clause-ok c).After-raise-2) (enough (goal.at.returns-clause-ok c).After-bytes (omega arith))
