-- Texts that are added one after the other.
use Rattle.std.proofs.Common.{◌≡◌, ℕ, List, ◌++◌, ap, ◌∙◌}
use Rattle.std.proofs.lemmas.List.{append_assoc}

-- what is there after one more addition
pub one_more : (text so_far more before after : List ℕ) → before ≡ text ++ so_far → after ≡ before ++ more → after ≡ text ++ (so_far ++ more)
one_more text so_far more before after is adds = adds ∙ ap (λ (l : List ℕ). l ++ more) is ∙ append_assoc text so_far more
