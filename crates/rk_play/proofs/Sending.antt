-- Pieces of text of which some were put into a sink, and the others are held back.
use Rattle.rk_play.proofs.Words.{◌≡◌, ℕ, Bool, true, false, List, [], ◌∷◌, ◌++◌, drop, length, take, sym, ap, subst, ◌∙◌, arith}
use Rattle.rk_play.proofs.Words.{length-append, append-nil, append_assoc, Result, Ok, Err, concat, Appends, Appends-nil, take-append-drop}
use Rattle.rk_play.proofs.Words.{take-append-le, concat-append, take-length, AppendsPart, IsSent, Spills}
use Rattle.std.specs.Prelude.{Option, OnErr, OnOk, is_err}
use Rattle.std.proofs.KnownBytes.{Appends-trans}
use Rattle.std.proofs.lemmas.List.{drop-append-le}
use Rattle.std.proofs.Math.Seq.{drop-length}
use Rattle.rk_outside.proofs.PartLemmas.{AppendsPart-after}

-- what holds if a call went well, and if it failed
pub where_ok : {T E : Type 0} (result : Result T E) (P : Type 0) → OnOk result P → is_err result ≡ false → P
where_ok (Ok value) P holds fine = holds
where_ok (Err error) P holds fine = absurd (cc fine)

pub where_err : {T E : Type 0} (result : Result T E) (P : Type 0) → OnErr result P → is_err result ≡ true → P
where_err (Ok value) P holds fails = absurd (cc fails)
where_err (Err error) P holds fails = holds

-- what was put, and what is held back, is what was written
pub sent_whole : (pieces : List (List ℕ)) (sent : ℕ) → concat (take sent pieces) ++ concat (drop sent pieces) ≡ concat pieces
sent_whole pieces sent = sym (concat-append (take sent pieces) (drop sent pieces)) ∙ ap concat (take-append-drop sent pieces)

pub sent_none : (old : Option (List ℕ)) (held : List ℕ) → held ≡ [] → IsSent old old [] held
sent_none old held none = record { sent = 0; few = omega arith; written = Appends-nil old; rest = none }

-- one more piece is held back
pub sent_piece : (old now : Option (List ℕ)) (pieces : List (List ℕ)) (held next text : List ℕ) → next ≡ held ++ text → IsSent old now pieces held
    → IsSent old now (pieces ++ text ∷ []) next
sent_piece old now pieces held next text added is = grind (arith, length-append, take-append-le, drop-append-le, concat-append, append-nil)

-- what is held back still is, or all of it was put
pub sent_spilled : (old mid new : Option (List ℕ)) (pieces : List (List ℕ)) (held next : List ℕ) (few : Bool) → Spills few mid new held next → IsSent old mid pieces held
    → IsSent old new pieces next
sent_spilled old mid new pieces held next true kept is = grind (arith, is.sent, is.few, is.written, kept.0, kept.1, is.rest)
sent_spilled old mid new pieces held next false put is = record {
  sent = length pieces;
  few = omega arith;
  written =
      subst (λ (text : List ℕ). Appends old new text) (sent_whole pieces is.sent ∙ ap concat (sym (take-length pieces)))
      (Appends-trans old mid new (concat (take is.sent pieces)) (concat (drop is.sent pieces)) is.written
      (subst (λ (text : List ℕ). Appends mid new text) is.rest put.0));
  rest = put.1 ∙ ap concat (sym (drop-length pieces));
}

-- what was put, what is held back, and what comes behind them
sent_and_more : (old now : Option (List ℕ)) (pieces : List (List ℕ)) (held more : List ℕ) (is : IsSent old now pieces held)
    → concat (take is.sent pieces) ++ (held ++ more) ≡ concat pieces ++ more
sent_and_more old now pieces held more is =
    ap (λ (rest : List ℕ). concat (take is.sent pieces) ++ (rest ++ more)) is.rest
    ∙ sym (append_assoc (concat (take is.sent pieces)) (concat (drop is.sent pieces)) more)
    ∙ ap (λ (text : List ℕ). text ++ more) (sent_whole pieces is.sent)

-- what was held back was put, and more
pub sent_rest : (old mid new : Option (List ℕ)) (pieces : List (List ℕ)) (held more : List ℕ) → IsSent old mid pieces held → Appends mid new (held ++ more)
    → Appends old new (concat pieces ++ more)
sent_rest old mid new pieces held more is put =
    subst (λ (text : List ℕ). Appends old new text) (sent_and_more old mid pieces held more is)
    (Appends-trans old mid new (concat (take is.sent pieces)) (held ++ more) is.written put)

-- or a part of that
pub sent_part : (old mid new : Option (List ℕ)) (pieces : List (List ℕ)) (held more : List ℕ) → IsSent old mid pieces held → AppendsPart mid new (held ++ more)
    → AppendsPart old new (concat pieces ++ more)
sent_part old mid new pieces held more is part =
    subst (λ (text : List ℕ). AppendsPart old new text) (sent_and_more old mid pieces held more is)
    (AppendsPart-after old mid new (concat (take is.sent pieces)) (held ++ more) is.written part)

-- a part of what was held back alone
pub sent_failed : (old mid new : Option (List ℕ)) (pieces : List (List ℕ)) (held : List ℕ) → IsSent old mid pieces held → AppendsPart mid new held
    → AppendsPart old new (concat pieces)
sent_failed old mid new pieces held is part =
    subst (λ (text : List ℕ). AppendsPart old new text) (append-nil (concat pieces))
    (sent_part old mid new pieces held [] is (subst (λ (text : List ℕ). AppendsPart mid new text) (sym (append-nil held)) part))
