-- Walks that pick items: what one more item adds.
use Rattle.rk_bucket_table.proofs.Words.{◌≡◌, ℕ, Bool, true, false, List, [], ◌∷◌, ◌++◌, length, take, ap, ◌∙◌, arith, length-take, Held}
use Rattle.rk_bucket_table.proofs.Words.{filter_kept, filter_left_out}
use Rattle.std.specs.List.{filter}
use Rattle.std.proofs.lemmas.List.{take-append-le}

module _ (picks : Held → Bool) (item : Held) (items rest : List Held) (parts : items ≡ item ∷ rest) where
  pub picked_first : picks item ≡ true → filter picks items ≡ item ∷ filter picks rest
  picked_first picked = ap (filter picks) parts ∙ filter_kept picks item rest picked

  pub picked_later : picks item ≡ false → filter picks items ≡ filter picks rest
  picked_later left_out = ap (filter picks) parts ∙ filter_left_out picks item rest left_out

-- what was there at the start is still in front
pub front_stays : (start into pushed more : List Held) (n : ℕ) → n ≡ length start → pushed ≡ into ++ more → take n into ≡ start
    → take n pushed ≡ start
front_stays start into pushed more n size is before = grind (arith, length-take, take-append-le)
