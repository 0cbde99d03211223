use Rattle.std.proofs.Common.{◌≡◌, ◌+◌, ◌-◌, ◌∙◌, List, length, drop, Option, Some, None, sym, ap, subst, arith}
use Rattle.std.specs.List.{prefix_len}
use Rattle.std.specs.Option.{option_or}
use Rattle.rk_entry.specs.declared.lists.TheConstants.{FIRST_SIDE_SEGMENT}
use Rattle.rk_log.specs.declared.copied.Copied.{Copied}
use Rattle.rk_log.specs.declared.copied.TheConstants.{FIRST_SEGMENT}
use Rattle.rk_log.specs.Piece.{PlacedBytes}
use Rattle.rk_log.specs.Log.{pending}
use Rattle.rk_log.specs.Parts.{parts_of, bytes_in, lengths_in, is_whole_at, AreKnown, lacking_at, IsCursor}
use Rattle.rk_log.proofs.Views.{backup_at, pending_is}
use Rattle.rk_log.proofs.log.MasterLog.pending.Goals as goal

pub index-cursor-requires : goal.index-cursor-requires
index-cursor-requires c =
    omega (arith, backup_at (parts_of c.self.inside) c.args.self.now c.args.backup c.self.view_is c.requires, c.self.inside.cursors.ok.0)

pub pending_in-requires-clause-backup : goal.pending_in-requires-clause-backup
pending_in-requires-clause-backup c =
    omega (arith, backup_at (parts_of c.self.inside) c.args.self.now c.args.backup c.self.view_is c.requires, c.self.invariant.consistent.last_backup)

pub pending_in-requires-clause-within : goal.pending_in-requires-clause-within
pending_in-requires-clause-within c =
    subst (λ (m : List Copied). AreKnown (bytes_in m) (lengths_in m)) (sym c.as_slice-main.ensures.value) c.self.invariant.consistent.main_known

pub pending_in-requires-2-clause-backup : goal.pending_in-requires-2-clause-backup
pending_in-requires-2-clause-backup c =
    omega (arith, backup_at (parts_of c.self.inside) c.args.self.now c.args.backup c.self.view_is c.requires, c.self.invariant.consistent.last_backup)

pub returns-in-Some : goal.returns-in-Some
returns-in-Some c =
    let within = backup_at (parts_of c.self.inside) c.args.self.now c.args.backup c.self.view_is c.requires in
    let cursor : IsCursor (c.args.backup - 1) c.self.inside.main.items c.self.inside.sides.items c.index-cursor.result.now =
    subst (IsCursor (c.args.backup - 1) c.self.inside.main.items c.self.inside.sides.items) (sym c.index-cursor.ensures) (c.self.invariant.consistent.cursors_are (c.args.backup - 1) c.index-cursor.result.now within) in
    let first : lacking_at (c.args.backup - 1) FIRST_SEGMENT c.self.inside.main.items (c.index-cursor.result.now.main + prefix_len (is_whole_at (c.args.backup - 1)) (drop c.index-cursor.result.now.main c.self.inside.main.items)) ≡ Some c.in-Some.piece =
    ap (λ (m : List Copied). lacking_at (c.args.backup - 1) FIRST_SEGMENT m (c.index-cursor.result.now.main + prefix_len (is_whole_at (c.args.backup - 1)) (drop c.index-cursor.result.now.main m))) (sym c.as_slice-main.ensures.value)
    ∙ sym c.pending_in.ensures ∙ c.in-Some.is in
    sym (
    pending_is (parts_of c.self.inside) c.args.self.now c.args.backup c.index-cursor.result.now c.self.invariant.consistent c.self.view_is c.requires cursor
    ∙ ap (λ (o : Option PlacedBytes). option_or o (lacking_at (c.args.backup - 1) FIRST_SIDE_SEGMENT c.self.inside.sides.items (c.index-cursor.result.now.sides + prefix_len (is_whole_at (c.args.backup - 1)) (drop c.index-cursor.result.now.sides c.self.inside.sides.items)))) first
    )

pub pending_in-requires-2-clause-from : goal.pending_in-requires-2-clause-from
pending_in-requires-2-clause-from c =
    let within = backup_at (parts_of c.self.inside) c.args.self.now c.args.backup c.self.view_is c.requires in
    let cursor : IsCursor (c.args.backup - 1) c.self.inside.main.items c.self.inside.sides.items c.index-cursor.result.now =
    subst (IsCursor (c.args.backup - 1) c.self.inside.main.items c.self.inside.sides.items) (sym c.index-cursor.ensures) (c.self.invariant.consistent.cursors_are (c.args.backup - 1) c.index-cursor.result.now within) in
    omega (arith, cursor.sides_within, ap length c.as_slice-sides.ensures.value)

pub pending_in-requires-2-clause-within : goal.pending_in-requires-2-clause-within
pending_in-requires-2-clause-within c =
    subst (λ (s : List Copied). AreKnown (bytes_in s) (lengths_in s)) (sym c.as_slice-sides.ensures.value) c.self.invariant.consistent.sides_known

pub returns : goal.returns
returns c =
    let within = backup_at (parts_of c.self.inside) c.args.self.now c.args.backup c.self.view_is c.requires in
    let cursor : IsCursor (c.args.backup - 1) c.self.inside.main.items c.self.inside.sides.items c.index-cursor.result.now =
    subst (IsCursor (c.args.backup - 1) c.self.inside.main.items c.self.inside.sides.items) (sym c.index-cursor.ensures) (c.self.invariant.consistent.cursors_are (c.args.backup - 1) c.index-cursor.result.now within) in
    let first : lacking_at (c.args.backup - 1) FIRST_SEGMENT c.self.inside.main.items (c.index-cursor.result.now.main + prefix_len (is_whole_at (c.args.backup - 1)) (drop c.index-cursor.result.now.main c.self.inside.main.items)) ≡ None =
    ap (λ (m : List Copied). lacking_at (c.args.backup - 1) FIRST_SEGMENT m (c.index-cursor.result.now.main + prefix_len (is_whole_at (c.args.backup - 1)) (drop c.index-cursor.result.now.main m))) (sym c.as_slice-main.ensures.value)
    ∙ sym c.pending_in.ensures ∙ c.in_default.is in
    let all : lacking_at (c.args.backup - 1) FIRST_SIDE_SEGMENT c.as_slice-sides.result.now (c.index-cursor.result.now.sides + prefix_len (is_whole_at (c.args.backup - 1)) (drop c.index-cursor.result.now.sides c.as_slice-sides.result.now)) ≡ pending c.args.self.now c.args.backup =
    ap (λ (s : List Copied). lacking_at (c.args.backup - 1) FIRST_SIDE_SEGMENT s (c.index-cursor.result.now.sides + prefix_len (is_whole_at (c.args.backup - 1)) (drop c.index-cursor.result.now.sides s))) c.as_slice-sides.ensures.value
    ∙ sym (
    pending_is (parts_of c.self.inside) c.args.self.now c.args.backup c.index-cursor.result.now c.self.invariant.consistent c.self.view_is c.requires cursor
    ∙ ap (λ (o : Option PlacedBytes). option_or o (lacking_at (c.args.backup - 1) FIRST_SIDE_SEGMENT c.self.inside.sides.items (c.index-cursor.result.now.sides + prefix_len (is_whole_at (c.args.backup - 1)) (drop c.index-cursor.result.now.sides c.self.inside.sides.items)))) first
    ) in
    c.pending_in-2.ensures ∙ all
