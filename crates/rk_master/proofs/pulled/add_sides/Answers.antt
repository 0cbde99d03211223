use Rattle.rk_master.proofs.Words.{◌≡◌, ◌+◌, List, [], ◌∷◌, ◌++◌, length, sym, ap, ◌∙◌, subst, w32, All, range_with_len, into_iter_items}
use Rattle.rk_master.proofs.Words.{IsNumber, FIRST_SIDE_SEGMENT, bytes_in, with_sides}
use Rattle.std.proofs.lemmas.List.Elements.{All-append, All-cons, All-nil}
use Rattle.rk_segment.specs.declared.segment.Segment.{Segment}
use Rattle.rk_master.proofs.Sides.{number_added, side_added}
use Rattle.rk_master.proofs.pulled.add_sides.Goals as goal

pub loop-segment-preserved : goal.loop-segment-preserved
loop-segment-preserved c =
    let number = c.in_ok-add_side.field-0 in
    let rest : List Segment = into_iter_items c.next.new.self in
    let added = c.in_ok-add_side.ensures.log in
    let first : into_iter_items c.loop-segment.segment-iterator ≡ c.in-Some.segment ∷ rest = c.in-Some.ensures.steps.0 in
    record {
      log = side_added c.loop-segment.log c.add_side.new.log c.in-Some.segment.bytes (bytes_in rest) added
          ∙ ap (λ (left : List Segment). with_sides c.loop-segment.log (bytes_in left)) (sym first)
          ∙ c.loop-segment.invariant.log;
      numbers = number_added c.loop-segment.log c.add_side.new.log c.in-Some.segment.bytes c.loop-segment.numbers c.push.new.self FIRST_SIDE_SEGMENT number (length rest)
          added c.in_ok-add_side.ensures.number c.in_ok-push.ensures.ok
          ∙ ap (λ (left : List Segment). c.loop-segment.numbers ++ range_with_len (FIRST_SIDE_SEGMENT + length c.loop-segment.log.sides) (length left)) (sym first)
          ∙ c.loop-segment.invariant.numbers;
      each = subst (All (IsNumber w32 FIRST_SIDE_SEGMENT)) (sym c.in_ok-push.ensures.ok)
          (All-append (IsNumber w32 FIRST_SIDE_SEGMENT) c.loop-segment.numbers (number ∷ []) c.loop-segment.invariant.each
          (All-cons (IsNumber w32 FIRST_SIDE_SEGMENT) number [] c.in_ok-add_side.ensures.lawful (All-nil (IsNumber w32 FIRST_SIDE_SEGMENT))));
    }
