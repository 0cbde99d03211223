use Rattle.rk_rebuild.proofs.Words.{◌≤◌, length, not, ap, arith, position_or_len, is_unread}
use Rattle.std.proofs.Common.{length-drop}
use Rattle.std.proofs.lemmas.List.Sums.{prefix_len-le-length}
use Rattle.rk_rebuild.proofs.reading.advance_one.Goals as goal

pub overflow_add-reader : goal.overflow_add-reader
overflow_add-reader c =
    let left = c.left_of.result.now in
    let unread = is_unread c.args.log.now.sides in
    let most : position_or_len unread left ≤ length left = prefix_len-le-length (λ segment. not (unread segment)) left in
    omega (arith, most, c.read_first-passed.ensures, ap length c.left_of.ensures, length-drop c.args.reader.now.done c.as_slice.result.now, c.as_slice.type_inv.0)
