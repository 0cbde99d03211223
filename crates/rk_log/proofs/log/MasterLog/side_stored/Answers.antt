use Rattle.std.proofs.Common.{◌≡◌, ◌∙◌, leb, length, take, Some, None, sym, ap}
use Rattle.std.specs.List.{list_all}
use Rattle.rk_entry.specs.declared.lists.TheConstants.{FIRST_SIDE_SEGMENT}
use Rattle.rk_log.specs.Log.{Log, is_side_stored}
use Rattle.rk_log.specs.Parts.{parts_of, copied_of}
use Rattle.rk_log.proofs.Views.{side_stored_is}
use Rattle.rk_log.proofs.log.MasterLog.side_stored.Goals as goal

pub returns-in-Some : goal.returns-in-Some
returns-in-Some c =
    let found : copied_of FIRST_SIDE_SEGMENT c.args.segment c.self.inside.sides.items ≡ Some c.in-Some.copied.now =
    ap (copied_of FIRST_SIDE_SEGMENT c.args.segment) (sym c.as_slice.ensures.value) ∙ sym c.in-Some.ensures in
    let count : c.len.result ≡ length c.self.inside.cursors.items = c.len.ensures ∙ c.self.inside.cursors.ok.0 in
    c.is_held_to.ensures
    ∙ (λ i. list_all (leb (c.length.ensures.length i)) (take (count i) c.in-Some.copied.now.known))
    ∙ sym (side_stored_is (parts_of c.self.inside) c.args.segment (Some c.in-Some.copied.now) c.self.invariant.consistent found)
    ∙ ap (λ (log : Log). is_side_stored log c.args.segment) c.self.view_is

pub returns-in-None : goal.returns-in-None
returns-in-None c =
    let found : copied_of FIRST_SIDE_SEGMENT c.args.segment c.self.inside.sides.items ≡ None =
    ap (copied_of FIRST_SIDE_SEGMENT c.args.segment) (sym c.as_slice.ensures.value) ∙ sym c.in-None.ensures in
    sym (side_stored_is (parts_of c.self.inside) c.args.segment None c.self.invariant.consistent found)
    ∙ ap (λ (log : Log). is_side_stored log c.args.segment) c.self.view_is
