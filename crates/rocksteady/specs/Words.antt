-- The words that a run of the program is given, and what they ask for.
use Rattle.std.specs.Prelude.{◌≡◌, ℕ, Bool, false, List, [], ◌∷◌, drop, Result, Ok, Err, IsErr, bytes_eq, codes}
use Rattle.std.specs.Vec.Iter.{into_iter_items}
use Rattle.std.specs.declared.vec.IntoIter.{IntoIter}
use Rattle.rk_drive.specs.Words.{plan_in}

-- the words after the first, which is the name of the program; none if one of the words is not text
abbrev pub words_after : {Word Alloc E : Type 0} → Result (IntoIter Word Alloc) E → List Word
words_after (Ok words) = drop 1 (into_iter_items words)
words_after (Err e) = []

-- whether the words after the program's name are those of a play
abbrev pub is_play : List (List ℕ) → Bool
is_play (word ∷ []) = bytes_eq word (codes "play")
is_play _ = false

-- the words are none of the forms of the program: neither a play nor a drive
pub record IsNoForm (words : List (List ℕ)) : Type 0 where
  pub no_play : is_play words ≡ false
  pub no_drive : IsErr (plan_in words)
