-- The first words of a line decide what it says: a command has seven at most.
use Rattle.std.proofs.Common.{◌≡◌, ℕ, ◌≤◌, Bool, true, false, cond, List, [], ◌∷◌, length, take, refl, arith}
use Rattle.std.specs.Prelude.{Result, Ok, Err, bytes_eq, codes}
use Rattle.std.proofs.lemmas.Bool.Decides.{nat_tests}
use Rattle.rk_script.specs.declared.code.Code.{Code}
use Rattle.rk_script.specs.declared.code.Code.TheVariants.{WordCount}
use Rattle.rk_script.specs.declared.line.TheConstants.{MOST_WORDS}
use Rattle.rk_script.specs.declared.names.Keyword.{Keyword}
use Rattle.rk_script.specs.declared.names.Operation.{Operation}
use Rattle.rk_script.specs.Names.{keyword_of, operation_of}
use Rattle.rk_script.specs.Commands.{advance_of, after, call_of, call_with, command_of, plain_command}
use Rattle.rk_script.specs.Lines.{said_in}

-- three words are too many after the name of a plain command
pub plain_command-many : (keyword : Keyword) (a b c : List ℕ) (more : List (List ℕ)) → plain_command keyword (a ∷ b ∷ c ∷ more) ≡ Err WordCount
plain_command-many keyword a b c more = grind arith

pub call_with-many : (operation : Operation) (client table key : List ℕ) (words : List (List ℕ)) → 3 ≤ length words → call_with operation client (table ∷ key ∷ words) ≡ Err WordCount
call_with-many operation client table key words many = grind (arith, nat_tests)

-- what leads to the same is the same
pub after-same : {A B : Type 0} (said : Result A Code) (f g : A → Result B Code) → ((a : A) → f a ≡ g a) → after said f ≡ after said g
after-same (Ok a) f g same = same a
after-same (Err code) f g same = refl

pub cond-same : {A : Type 0} (test : Bool) (a b c d : A) → a ≡ b → c ≡ d → cond test a c ≡ cond test b d
cond-same true a b c d left right = left
cond-same false a b c d left right = right

-- what follows seven words after the name makes no difference
pub command_of-many : (name a b c d e f g : List ℕ) (more : List (List ℕ)) → command_of name (a ∷ b ∷ c ∷ d ∷ e ∷ f ∷ g ∷ []) ≡ command_of name (a ∷ b ∷ c ∷ d ∷ e ∷ f ∷ g ∷ more)
command_of-many name a b c d e f g more =
    let long : List (List ℕ) = a ∷ b ∷ c ∷ d ∷ e ∷ f ∷ g ∷ more in
    let short : List (List ℕ) = a ∷ b ∷ c ∷ d ∷ e ∷ f ∷ g ∷ [] in
    let calls : call_of short ≡ call_of long =
    after-same (operation_of b) (λ (o : Operation). call_with o a (c ∷ d ∷ e ∷ f ∷ g ∷ []))
    (λ (o : Operation). call_with o a (c ∷ d ∷ e ∷ f ∷ g ∷ more))
    (λ (o : Operation). rw (call_with-many o a c d (e ∷ f ∷ g ∷ []) (omega arith), call_with-many o a c d (e ∷ f ∷ g ∷ more) (omega arith)) refl)
    in
    let plain : after (keyword_of name) (λ (k : Keyword). plain_command k short) ≡ after (keyword_of name) (λ (k : Keyword). plain_command k long) =
    after-same (keyword_of name) (λ (k : Keyword). plain_command k short) (λ (k : Keyword). plain_command k long)
    (λ (k : Keyword). rw (plain_command-many k a b c (d ∷ e ∷ f ∷ g ∷ []), plain_command-many k a b c (d ∷ e ∷ f ∷ g ∷ more)) refl)
    in
    cond-same (bytes_eq name (codes "call")) (call_of short) (call_of long)
    (cond (bytes_eq name (codes "advance")) (advance_of short) (after (keyword_of name) (λ (k : Keyword). plain_command k short)))
    (cond (bytes_eq name (codes "advance")) (advance_of long) (after (keyword_of name) (λ (k : Keyword). plain_command k long))) calls
    (cond-same (bytes_eq name (codes "advance")) (advance_of short) (advance_of long)
    (after (keyword_of name) (λ (k : Keyword). plain_command k short)) (after (keyword_of name) (λ (k : Keyword). plain_command k long)) refl plain)

-- the first words of a line say what all of them say
pub said_in-take : (line : List ℕ) (words : List (List ℕ)) → said_in line (take MOST_WORDS words) ≡ said_in line words
said_in-take line words = grind (arith, command_of-many)
