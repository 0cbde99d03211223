use Rattle.std.specs.Prelude.{◌++◌, codes, decimal}
use Rattle.rk_lines.proofs.Pieces.{one_more}
use Rattle.rk_lines.proofs.differences.push_place.Goals as goal

pub returns : goal.returns
returns c =
    one_more c.args.text.now.items (codes "audit differs " ++ decimal c.args.lane) (codes " " ++ decimal c.args.place) c.push_numbered.new.text.items _
    (one_more c.args.text.now.items (codes "audit differs ") (decimal c.args.lane) c.extend_from_slice.new.self.items _
    c.in_ok-extend_from_slice.ensures.items c.in_ok-push_numbered.ensures) c.in_ok-push_numbered-2.ensures
