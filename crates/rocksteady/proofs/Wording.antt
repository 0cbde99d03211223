-- What words ask for: a play, a drive or neither, and never two of these.
use Rattle.std.proofs.Common.{◌≡◌, ℕ, List, [], ◌∷◌, true, false, refl, subst, sym}
use Rattle.std.specs.Prelude.{Result, Ok, Err, IfOk, IsErr}
use Rattle.rk_script.specs.declared.code.Code.{Code}
use Rattle.rk_drive.specs.Words.{plan_in}
use Rattle.rk_drive.specs.declared.plan.Plan.{Plan}
use Rattle.rocksteady.specs.Words.{IsNoForm, is_play}

-- the words of a play name no plan
pub of_no_plan : (words : List (List ℕ)) (P : Plan → Type 0) → is_play words ≡ true → IfOk (plan_in words) P
of_no_plan [] P play = absurd (cc play)
of_no_plan (word ∷ []) P play = tt
of_no_plan (word ∷ other ∷ words) P play = absurd (cc play)

-- this is so of the plan that words name
pub of_plan : (words : List (List ℕ)) (P : Plan → Type 0) (plan : Plan) → plan_in words ≡ Ok plan → P plan → IfOk (plan_in words) P
of_plan words P plan named holds = subst (λ (it : Result Plan Code). IfOk it P) (sym named) holds

-- words that name no plan say nothing of one
pub of_refused : (words : List (List ℕ)) (P : Plan → Type 0) (code : Code) → plan_in words ≡ Err code → IfOk (plan_in words) P
of_refused words P code refused = subst (λ (it : Result Plan Code). IfOk it P) (sym refused) tt

-- the words of a play are a form
pub play_is_form : (words : List (List ℕ)) → is_play words ≡ true → IsNoForm words → ⊥
play_is_form words play none = cc (play, none.no_play)

-- and so are words that name a plan
pub drive_is_form : (words : List (List ℕ)) (plan : Plan) → plan_in words ≡ Ok plan → IsNoForm words → ⊥
drive_is_form words plan named none = cc (subst (λ (it : Result Plan Code). IsErr it) named none.no_drive)

-- other words are none
pub is_no_form : (words : List (List ℕ)) (code : Code) → is_play words ≡ false → plan_in words ≡ Err code → IsNoForm words
is_no_form words code play refused =
    record { no_play = play; no_drive = subst (λ (it : Result Plan Code). IsErr it) (sym refused) refl }
