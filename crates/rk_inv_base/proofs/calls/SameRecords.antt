-- Journals whose records are the same but for whether they are accepted, if accepted ones stay so: they leave the same map, are as
-- lawful, and give the same ends.
use Rattle.rk_inv_base.proofs.Words.{arith, ◌≡◌, ℕ, zero, suc, ◌<◌, true, eqb, List, [], ◌∷◌, ◌++◌, Some, refl, sym, ap, ◌∙◌, subst, ⊎_elim}
use Rattle.rk_inv_base.proofs.Words.{inl, inr, ◌⊎◌, slice_get, slice_set, All, All-head, All-tail, All-cons, ⊤, Call, Ended, Placed}
use Rattle.rk_inv_base.proofs.Words.{IsLegal, Map, map_after, map_with, Allowed, IsRisingAbove, is_mutation, outcome_of, as_accepted}
use Rattle.rk_inv_base.proofs.Words.{has_record, IsReached, IsRecordOf}

-- a record is another one but for whether it is accepted, and is accepted if that is
pub record IsSameRecord (old new : Placed) : Type 0 where
  pub call : new.call ≡ old.call
  pub outcome : new.outcome ≡ old.outcome
  pub stamp : new.stamp ≡ old.stamp
  pub kept : old.accepted ≡ true → new.accepted ≡ true

-- so are the records of two journals, one by one
abbrev pub AreSameRecords : List Placed → List Placed → Type 0
AreSameRecords [] [] = ⊤
AreSameRecords [] (new ∷ news) = ⊥
AreSameRecords (old ∷ olds) [] = ⊥
AreSameRecords (old ∷ olds) (new ∷ news) = IsSameRecord old new × AreSameRecords olds news

pub record_itself : (placed : Placed) → IsSameRecord placed placed
record_itself placed = record { call = refl; outcome = refl; stamp = refl; kept = λ accepted. accepted }

pub records_themselves : (journal : List Placed) → AreSameRecords journal journal
records_themselves [] = tt
records_themselves (placed ∷ journal) = (record_itself placed, records_themselves journal)

-- with more behind them
pub records_behind : (olds news more : List Placed) → AreSameRecords olds news → AreSameRecords (olds ++ more) (news ++ more)
records_behind [] [] more same = records_themselves more
records_behind (old ∷ olds) (new ∷ news) more same = (same.0, records_behind olds news more same.1)
records_behind _ _ more same = absurd same

-- ---- one record is accepted

-- the records are the same
pub accepted_same : (journal : List Placed) (place : ℕ) (placed : Placed) → slice_get journal place ≡ Some placed → AreSameRecords journal (slice_set journal place (as_accepted placed))
accepted_same [] place placed stands = absurd (cc stands)
accepted_same (first ∷ journal) zero placed stands = grind (arith, records_themselves)
accepted_same (first ∷ journal) (suc place) placed stands = (record_itself first, accepted_same journal place placed stands)

-- each of them is the accepted one, or was there
pub accepted_cases : (journal : List Placed) (place : ℕ) (placed : Placed) (i : ℕ) (found : Placed) → slice_get (slice_set journal place (as_accepted placed)) i ≡ Some found → ((i ≡ place) × (as_accepted placed ≡ found)) ⊎ (slice_get journal i ≡ Some found)
accepted_cases (first ∷ journal) zero placed zero found stands = inl (refl, cc stands)
accepted_cases (first ∷ journal) (suc place) placed (suc i) found stands =
    ⊎_elim (λ here. inl (ap suc here.0, here.1)) (λ there. inr there) (accepted_cases journal place placed i found stands)
accepted_cases _ _ placed _ found stands = inr stands

-- ---- what is the same of the journals

pub map_with_same : (start : Map) (old new : Placed) → IsSameRecord old new → ◌≡◌ {A = Map} (map_with start new) (map_with start old)
map_with_same start old new same =
    λ i. map_with start (record { call = same.call i; outcome = same.outcome i; stamp = new.stamp; accepted = new.accepted })

-- the map that they leave
pub map_after_same : (start : Map) (olds news : List Placed) → AreSameRecords olds news → ◌≡◌ {A = Map} (map_after start news) (map_after start olds)
map_after_same start [] [] same = refl
map_after_same start (old ∷ olds) (new ∷ news) same =
    ap (λ (m : Map). map_after m news) (map_with_same start old new same.0) ∙ map_after_same (map_with start old) olds news same.1
map_after_same start _ _ same = absurd same

-- whether they are lawful
pub legal_same : (start : Map) (olds news : List Placed) → AreSameRecords olds news → IsLegal start olds → IsLegal start news
legal_same start [] [] same legal = tt
legal_same start (old ∷ olds) (new ∷ news) same legal = (
  rw same.0.outcome (subst (λ (c : Call). Allowed (start c.table c.key) c.op old.outcome) (sym same.0.call) legal.0),
  legal_same (map_with start new) olds news same.1
      (subst (λ (m : Map). IsLegal m olds) (sym (map_with_same start old new same.0)) legal.1),
)
legal_same start _ _ same legal = absurd same

-- whether their stamps rise
pub rising_same : (stamp : ℕ) (olds news : List Placed) → AreSameRecords olds news → IsRisingAbove stamp olds → IsRisingAbove stamp news
rising_same stamp [] [] same rising = tt
rising_same stamp (old ∷ olds) (new ∷ news) same rising = (
  subst (λ (n : ℕ). stamp < n) (sym same.0.stamp) rising.0,
  rising_same new.stamp olds news same.1 (subst (λ (n : ℕ). IsRisingAbove n olds) (sym same.0.stamp) rising.1),
)
rising_same stamp _ _ same rising = absurd same

-- whether they have the record of a mutation
pub has_record_same : (olds news : List Placed) (client seq : ℕ) → AreSameRecords olds news → has_record news client seq ≡ has_record olds client seq
has_record_same [] [] client seq same = refl
has_record_same (old ∷ olds) (new ∷ news) client seq same =
    grind (arith, is_mutation, eqb, same.0.call, same.1, (has_record_same olds news client seq same.1))
has_record_same _ _ client seq same = absurd same

-- what holds of each record
pub all_records_same : (P : Placed → Type 0) → ((old new : Placed) → IsSameRecord old new → P old → P new) → (olds news : List Placed) → AreSameRecords olds news → All P olds → All P news
all_records_same P gives [] [] same all = all
all_records_same P gives (old ∷ olds) (new ∷ news) same all =
    All-cons P new news (gives old new same.0 (All-head P old olds all)) (all_records_same P gives olds news same.1 (All-tail P old olds all))
all_records_same P gives _ _ same all = absurd same

-- the record at a place is the same as one was there
pub record_before : (olds news : List Placed) (i : ℕ) (new : Placed) → AreSameRecords olds news → slice_get news i ≡ Some new → (old : Placed) × (slice_get olds i ≡ Some old) × IsSameRecord old new
record_before [] [] i new same stands = absurd (cc stands)
record_before (o ∷ olds) (n ∷ news) zero new same stands = grind (arith, same.0)
record_before (o ∷ olds) (n ∷ news) (suc i) new same stands = record_before olds news i new same.1 stands
record_before _ _ i new same stands = absurd same

-- and a record that was there is the same as the record there now
pub record_after : (olds news : List Placed) (i : ℕ) (old : Placed) → AreSameRecords olds news → slice_get olds i ≡ Some old → (new : Placed) × (slice_get news i ≡ Some new) × IsSameRecord old new
record_after [] [] i old same stands = absurd (cc stands)
record_after (o ∷ olds) (n ∷ news) zero old same stands = grind (arith, same.0)
record_after (o ∷ olds) (n ∷ news) (suc i) old same stands = record_after olds news i old same.1 stands
record_after _ _ i old same stands = absurd same

-- ---- ends

pub reached_same : (ends : List Ended) (old new : Placed) → IsSameRecord old new → IsReached ends old → IsReached ends new
reached_same ends old new same reached = grind (arith, outcome_of, reached.end, reached.stands, reached.reaches)

-- it is the end of the same record
pub record_of_same : (end : Ended) (old new : Placed) → IsSameRecord old new → IsRecordOf end old → IsRecordOf end new
record_of_same end old new same fits = grind (arith, is_mutation)
