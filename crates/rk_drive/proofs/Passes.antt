-- The clients of passes, place by place.
use Rattle.std.proofs.Common.{◌≡◌, ◌<◌, ℕ, zero, suc, List, [], ◌∷◌, get_or, length, map, refl, set, sym, ap, ◌∙◌, arith}
use Rattle.rk_shared_lanes.specs.Passes.{PassState}
use Rattle.rk_drive.specs.Workers.{clients_in}

abbrev pub client_of : PassState → ℕ
client_of pass = pass.session.client

clients_are : (passes : List PassState) → clients_in passes ≡ map client_of passes
clients_are [] = refl
clients_are (pass ∷ passes) = ap (λ (rest : List ℕ). client_of pass ∷ rest) (clients_are passes)

client_read : (passes : List PassState) (at : ℕ) (d : PassState) → get_or (map client_of passes) at (client_of d) ≡ client_of (get_or passes at d)
client_read [] at d = refl
client_read (pass ∷ passes) zero d = refl
client_read (pass ∷ passes) (suc at) d = client_read passes at d

-- passes of the same clients have the same one at each place
pub same_client : (xs ys : List PassState) (at : ℕ) (d : PassState) → clients_in xs ≡ clients_in ys → client_of (get_or xs at d) ≡ client_of (get_or ys at d)
same_client xs ys at d same =
    sym (client_read xs at d) ∙ ap (λ (clients : List ℕ). get_or clients at (client_of d)) (sym (clients_are xs) ∙ same ∙ clients_are ys) ∙ client_read ys at d

-- as many passes with the same client at each place are of the same clients
pub all_same : (xs ys : List PassState) → length ys ≡ length xs
    → ((at : ℕ) (d : PassState) → at < length xs → client_of (get_or ys at d) ≡ client_of (get_or xs at d)) → clients_in ys ≡ clients_in xs
all_same [] [] long each = refl
all_same [] (y ∷ ys) long each = absurd (omega (arith, long))
all_same (x ∷ xs) [] long each = absurd (omega (arith, long))
all_same (x ∷ xs) (y ∷ ys) long each =
    let head = each 0 x (omega arith) in
    let tail = all_same xs ys (omega (arith, long)) (λ at d inside. each (suc at) d (omega (arith, inside))) in
    (λ i. head i ∷ tail i)

-- one pass in the place of another one of its client
pub one_set : (xs : List PassState) (at : ℕ) (x pass : PassState) → at < length xs → x ≡ get_or xs at x → client_of pass ≡ client_of x → clients_in (set xs at pass) ≡ clients_in xs
one_set [] at x pass inside is same = absurd (omega (arith, inside))
one_set (y ∷ ys) zero x pass inside is same = ap (λ (client : ℕ). client ∷ clients_in ys) (same ∙ ap client_of is)
one_set (y ∷ ys) (suc at) x pass inside is same = ap (λ (rest : List ℕ). client_of y ∷ rest) (one_set ys at x pass (omega (arith, inside)) is same)
