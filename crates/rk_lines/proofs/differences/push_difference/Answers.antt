use Rattle.std.proofs.Common.{◌≡◌, ℕ, List, subst}
use Rattle.std.specs.Prelude.{◌++◌, codes}
use Rattle.std.specs.Option.{option_copied}
use Rattle.rk_lines.specs.Differences.{answer_text, kept_text, place_text}
use Rattle.rk_lines.proofs.Pieces.{one_more}
use Rattle.rk_lines.proofs.differences.push_difference.Goals as goal

pub returns : goal.returns
returns c =
    let place : List ℕ = place_text c.args.receipt.now.lane c.args.receipt.now.place in
    let receipt : List ℕ = place ++ codes " receipt " in
    let answer : List ℕ = receipt ++ answer_text c.args.receipt.now.stamp c.args.receipt.now.call c.args.receipt.now.outcome in
    let kept : List ℕ = answer ++ codes " kept " in
    let record_is : List ℕ = kept_text (option_copied c.args.kept) in
    let placed =
    subst (λ (lane : ℕ). c.push_place.new.text.items ≡ c.args.text.now.items ++ place_text lane c.args.receipt.now.place) c.from.ensures c.in_ok-push_place.ensures in
    let one = one_more c.args.text.now.items place (codes " receipt ") c.push_place.new.text.items _ placed c.in_ok-extend_from_slice.ensures.items in
    let two = one_more c.args.text.now.items receipt _ c.extend_from_slice.new.self.items _ one c.in_ok-push_answer.ensures in
    let three = one_more c.args.text.now.items answer (codes " kept ") c.push_answer.new.text.items _ two c.in_ok-extend_from_slice-2.ensures.items in
    let four = one_more c.args.text.now.items kept record_is c.extend_from_slice-2.new.self.items _ three c.in_ok-push_kept.ensures in
    one_more c.args.text.now.items (kept ++ record_is) (codes "\n") c.push_kept.new.text.items _ four c.in_ok-push.ensures.items
