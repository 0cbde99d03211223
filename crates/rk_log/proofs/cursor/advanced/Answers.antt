use Rattle.std.proofs.Common.{◌≡◌, ◌∙◌, sym, arith}
use Rattle.std.specs.Prelude.{min}
use Rattle.std.specs.List.{prefix_len}
use Rattle.rk_log.specs.Parts.{is_whole_at}
use Rattle.rk_log.proofs.Prefixes.{pass_then}
use Rattle.rk_log.proofs.cursor.advanced.Goals as goal

pub returns : goal.returns
returns c =
    let main : c.lacking_from.result ≡ prefix_len (is_whole_at c.args.backup) c.args.main.now =
    c.lacking_from.ensures ∙ sym (pass_then (is_whole_at c.args.backup) c.args.main.now c.args.cursor.main (omega (arith, c.requires.cursor.main_last)) c.requires.cursor.main_whole) in
    let sides : c.lacking_from-2.result ≡ prefix_len (is_whole_at c.args.backup) c.args.sides.now =
    c.lacking_from-2.ensures ∙ sym (pass_then (is_whole_at c.args.backup) c.args.sides.now c.args.cursor.sides c.requires.cursor.sides_within c.requires.cursor.sides_whole) in
    λ i. record { main = (c.min.ensures ∙ (λ j. min (main j) (c.saturating_sub.ensures j))) i; sides = sides i }
