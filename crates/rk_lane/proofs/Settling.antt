-- How a master's work is settled.
use Rattle.rk_lane.proofs.Words.{◌≡◌, ℕ, Bool, true, false, eqb, ◌&&◌, not, List, [], ◌∷◌, length, take, Option, Some, None, is_some, refl}
use Rattle.rk_lane.proofs.Words.{append-nil, arith, last_stamp, StepError, Seen, Work, with_journal, IsCutBack, IsFinished, IsRaised}
use Rattle.rk_lane.proofs.Words.{IsSettled, IsUnsettled, ledger_worked, sends_worked, Parts}
use Rattle.std.proofs.Common.{eqb-true}
use Rattle.std.proofs.lemmas.Bool.{false≢true}
use Rattle.rk_world.specs.declared.error.StepError.TheVariants as errors
use Rattle.rk_lane.specs.Working.{is_nothing}
use Rattle.rk_lane.proofs.Journals.{cut_to, grown_by_served}

-- if its records are taken away again, it is as it was but for marks
pub unsettled_by : (old new : Parts) (seen : ℕ) (work : Work) (records : ℕ) → records ≡ length old.ledger.journal
    → new.ledger ≡ with_journal (ledger_worked old.ledger seen work) (take records (ledger_worked old.ledger seen work).journal)
    → new.number ≡ old.number → new.backups ≡ old.backups → new.masters ≡ old.masters → IsUnsettled old new errors.NoMemory
unsettled_by old new seen work records count is number backups masters = grind (arith, ledger_worked, cut_to, grown_by_served, old.ledger)

-- it is settled once it is sent
pub settled_from : (old raised new : Parts) (number seen : ℕ) (work : Work) (shown : Seen)
    → IsRaised (record old { ledger = ledger_worked old.ledger seen work }) number raised
    → IsFinished raised (sends_worked old.ledger seen work) new shown → IsSettled old number seen work new shown
settled_from old raised new number seen work shown rise finished = grind (arith, last_stamp, ledger_worked, sends_worked)

-- and unsettled if it is cut back
pub unsettled_from : (old raised new : Parts) (number seen : ℕ) (work : Work) (records : ℕ) (error : StepError) → records ≡ length old.ledger.journal
    → IsRaised (record old { ledger = ledger_worked old.ledger seen work }) number raised
    → IsCutBack raised records new error → IsUnsettled old new error
unsettled_from old raised new number seen work records error count rise is_cut = grind (arith, unsettled_by)

-- a list of no things
none_in : {A : Type 0} (list : List A) → eqb (length list) 0 ≡ true → list ≡ []
none_in [] none = refl
none_in (one ∷ more) none = let is : length (one ∷ more) ≡ 0 = eqb-true (length (one ∷ more)) 0 none in absurd (omega (arith, is))

-- two tests that hold together
both_hold : (a b : Bool) → a && b ≡ true → (a ≡ true) × (b ≡ true)
both_hold true b hold = (refl, hold)
both_hold false b hold = absurd (false≢true hold)

-- what is not there
none_there : {A : Type 0} (it : Option A) → not (is_some it) ≡ true → it ≡ None
none_there None none = refl
none_there (Some it) none = absurd (false≢true none)

-- it is settled once the greatest number rose
pub settled_by_nothing : (old new : Parts) (number seen : ℕ) (work : Work) → is_nothing work ≡ true → IsRaised old number new
    → IsSettled old number seen work new (record { first = 0; sent = 0; lost = false; taken = None })
settled_by_nothing old new number seen work nothing rise =
    grind (arith, none_in, append-nil)
