-- What is left of the reversed commands is what is behind the first ones.
use Rattle.std.proofs.Common.{◌≡◌, ◌++◌, ◌-◌, ℕ, List, drop, length, reverse, take, sym, ap, ◌∙◌}
use Rattle.std.proofs.lemmas.List.{length-drop, length-reverse, reverse-append, reverse-reverse, take-append-drop}
use Rattle.std.proofs.Math.Seq.{take-append_seam}
use Rattle.rk_play.proofs.coming.Coming.behind.Goals as goal

left_behind : {X : Type 0} (count : ℕ) (xs : List X) → reverse (take (length xs - count) (reverse xs)) ≡ drop count xs
left_behind {X} count xs =
    let back : List X = reverse (drop count xs) in
    ap reverse
    (ap (λ (it : List X). take (length xs - count) it) (ap reverse (sym (take-append-drop count xs)) ∙ reverse-append (take count xs) (drop count xs))
    ∙ ap (λ (n : ℕ). take n (back ++ reverse (take count xs))) (sym (length-reverse (drop count xs) ∙ length-drop count xs))
    ∙ take-append_seam back (reverse (take count xs)))
    ∙ reverse-reverse (drop count xs)

pub returns : goal.returns
returns c = rw c.truncate.ensures.items (rw c.reverse.ensures.items (rw (c.len.ensures ∙ c.args.commands.ok.0) (left_behind c.args.count c.args.commands.items)))
