-- The first receipt of some sessions that no record bears out.
use Rattle.rk_conclude.proofs.Words.{◌≡◌, ℕ, List, [], ◌∷◌, ◌++◌, All, Bor, Option, Some, None, slice_get, take, sym, ap, subst, ◌∙◌}
use Rattle.rk_conclude.proofs.Words.{append_assoc, append-nil, option_copied, IsItemAt, NumberMap, Placed, Receipt, IsRecorded, Session}
use Rattle.rk_conclude.proofs.Words.{receipts_in, Audits}
use Rattle.std.proofs.Common.{zero, suc, drop}
use Rattle.std.proofs.lemmas.List.Elements.{All-append}
use Rattle.std.proofs.lemmas.Option.{slice_get-get_or, slice_get_past}
use Rattle.rk_history.specs.Audit.{IsFirstWrong as IsWrongAt}
use Rattle.rk_history.specs.declared.auditing.Disagree.{Disagree}
use Rattle.rk_conclude.specs.Reports.{IsFirstWrong}

-- what is lent of a list at a place is what is there
pub lent_at : {X : Type 0} (xs : List X) (place : ℕ) (lent : Option (Bor X)) → IsItemAt xs place lent → option_copied lent ≡ slice_get xs place
lent_at xs place None got = sym (slice_get_past xs place got.3)
lent_at xs place (Some x) got = ap Some got.1 ∙ sym (slice_get-get_or xs place x.now got.3.0)

-- a list is what comes before a place, what is there, and what comes behind it
cut_at : {X : Type 0} (xs : List X) (place : ℕ) (x : X) → slice_get xs place ≡ Some x → xs ≡ take place xs ++ x ∷ drop (suc place) xs
cut_at [] place x there = absurd (cc there)
cut_at (y ∷ ys) zero x there = let same : y ≡ x = cc there in ap (λ first. first ∷ ys) same
cut_at (y ∷ ys) (suc place) x there = ap (λ rest. y ∷ rest) (cut_at ys place x there)

-- receipts before others, of which one is the first that is wrong, with more behind them
joined : (before front rest later : List Receipt) (wrong : Receipt) → before ++ ((front ++ wrong ∷ rest) ++ later) ≡ (before ++ front) ++ wrong ∷ (rest ++ later)
joined before front rest later wrong =
    ap (λ list. before ++ list) (append_assoc front (wrong ∷ rest) later) ∙ sym (append_assoc before front (wrong ∷ (rest ++ later)))

module _ (journals : List (List Placed)) (all before : List Receipt) (recorded : All (IsRecorded journals) before) where
  -- it is the first of all
  pub found_wrong : (receipts later : List Receipt) (disagree : Disagree) (lent : Option (Bor Receipt)) → before ++ (receipts ++ later) ≡ all
      → IsWrongAt journals receipts disagree → IsItemAt receipts disagree.index lent → Audits journals all (option_copied lent)
  found_wrong receipts later disagree lent whole wrong got =
      let front = take disagree.index receipts in
      let rest = drop (suc disagree.index) receipts in
      let is : option_copied lent ≡ Some wrong.receipt = lent_at receipts disagree.index lent got ∙ wrong.there in
      let first : IsFirstWrong journals all wrong.receipt = record {
        before = before ++ front;
        after = rest ++ later;
        whole =
            sym whole ∙ ap (λ list. before ++ (list ++ later)) (cut_at receipts disagree.index wrong.receipt wrong.there)
            ∙ joined before front rest later wrong.receipt;
        recorded = All-append (IsRecorded journals) before front recorded wrong.before;
        is = wrong.wrong;
      } in
      subst (Audits journals all) (sym is) first

  -- one more session's receipts are recorded
  pub more_recorded : (receipts later : List Receipt) → before ++ (receipts ++ later) ≡ all → All (IsRecorded journals) receipts
      → (more : List Receipt) × (more ++ later ≡ all) × All (IsRecorded journals) more
  more_recorded receipts later whole each =
      (before ++ receipts, append_assoc before receipts later ∙ whole, All-append (IsRecorded journals) before receipts recorded each)

  -- all are
  pub all_recorded : before ++ [] ≡ all → All (IsRecorded journals) all
  all_recorded whole = subst (All (IsRecorded journals)) (sym (append-nil before) ∙ whole) recorded

-- the receipts of the sessions that are left, those of the next one first
pub receipts_next : (receipts : List Receipt) (entry : ℕ × Session) (rest later : NumberMap Session) → rest ≡ entry ∷ later → entry.1.receipts ≡ receipts
    → receipts ++ receipts_in later ≡ receipts_in rest
receipts_next receipts entry rest later is same = ap (λ (list : List Receipt). list ++ receipts_in later) (sym same) ∙ ap receipts_in (sym is)
