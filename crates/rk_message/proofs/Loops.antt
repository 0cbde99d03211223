-- Reading and writing a list, one element after the other as a loop does.
use Rattle.std.proofs.Common.{◌≡◌, ℕ, suc, ◌-◌, ◌+◌, ◌≤◌, ◌<◌, List, [], ◌∷◌, ◌++◌, length, take, get_or, Result, Ok, Err, refl, sym, ap, ◌∙◌, arith, append_assoc}
use Rattle.std.specs.List.{sum_by, flat_map}
use Rattle.std.specs.Global.{Vec}
use Rattle.std.proofs.Math.Seq.{take-suc}
use Rattle.std.proofs.lemmas.List.{append-nil}
use Rattle.std.proofs.lemmas.List.Sums.{sum_by_more, sum_by_more_le}
use Rattle.std.proofs.lemmas.Grind.{flat_map-append}
use Rattle.rk_entry.specs.declared.error.DecodeError.{DecodeError}
use Rattle.rk_entry.specs.declared.error.DecodeError.TheVariants.{Cut, Bad, NoMemory}
use Rattle.rk_entry.specs.Steps.{◌>>=◌, Fails}
use Rattle.rk_entry.specs.Numbers.{HasRoom, Gains}
use Rattle.rk_message.specs.Fields.{read_list, elements_bytes}

-- elements that were read before, in front of those that are read
abbrev pub behind : {A : Type 0} → List A → Result (List A × List ℕ) DecodeError → Result (List A × List ℕ) DecodeError
behind before read = read >>= λ x. Ok (before ++ x.0, x.1)

-- one element more is in front of the others
behind_one : {A : Type 0} (before : List A) (x : A) (read : Result (List A × List ℕ) DecodeError)
    → behind before (read >>= λ others. Ok (x ∷ others.0, others.1)) ≡ behind (before ++ x ∷ []) read
behind_one before x (Ok others) = ap (λ l. Ok (l, others.1)) (sym (append_assoc before (x ∷ []) others.0))
behind_one before x (Err e) = refl

-- after one more element, what is still to be read completes the same whole
pub list_goes_on : {A : Type 0} (read : List ℕ → Result (A × List ℕ) DecodeError) (count i : ℕ) (before : List A) (bytes : List ℕ) (x : A) (after : List ℕ) (whole : Result (List A × List ℕ) DecodeError)
    → i < count → read bytes ≡ Ok (x, after) → behind before (read_list read (count - i) bytes) ≡ whole
    → behind (before ++ x ∷ []) (read_list read (count - (i + 1)) after) ≡ whole
unfolding read_list
list_goes_on read count i before bytes x after whole more is so_far =
    let k : count - i ≡ suc (count - (i + 1)) = omega arith in
    let one : behind before (read_list read (count - i) bytes) ≡ behind before (read_list read (count - (i + 1)) after >>= λ others. Ok (x ∷ others.0, others.1)) = rw (k, is) refl in
    sym (behind_one before x (read_list read (count - (i + 1)) after)) ∙ sym one ∙ so_far

-- a fault of one element is the fault of the whole
pub list_fails : {A : Type 0} (read : List ℕ → Result (A × List ℕ) DecodeError) (fault : DecodeError) (count i : ℕ) (before : List A) (bytes : List ℕ) (whole : Result (List A × List ℕ) DecodeError)
    → i < count → Fails fault (read bytes) → behind before (read_list read (count - i) bytes) ≡ whole → Fails fault whole
unfolding read_list
list_fails read Cut count i before bytes whole more failed so_far =
    let k : count - i ≡ suc (count - (i + 1)) = omega arith in
    let one : behind before (read_list read (count - i) bytes) ≡ Err Cut = rw (k, failed) refl in
    sym so_far ∙ one
list_fails read (Bad code) count i before bytes whole more failed so_far =
    let k : count - i ≡ suc (count - (i + 1)) = omega arith in
    let one : behind before (read_list read (count - i) bytes) ≡ Err (Bad code) = rw (k, failed) refl in
    sym so_far ∙ one
list_fails read NoMemory count i before bytes whole more failed so_far = tt

-- if no element is left to be read, those that were read are the whole
pub list_done : {A : Type 0} (read : List ℕ → Result (A × List ℕ) DecodeError) (count i : ℕ) (before : List A) (bytes : List ℕ) (whole : Result (List A × List ℕ) DecodeError)
    → count ≤ i → behind before (read_list read (count - i) bytes) ≡ whole → whole ≡ Ok (before, bytes)
unfolding read_list
list_done read count i before bytes whole none so_far =
    let k : count - i ≡ 0 = omega arith in
    let one : behind before (read_list read (count - i) bytes) ≡ Ok (before ++ [], bytes) = rw k refl in
    sym so_far ∙ one ∙ ap (λ l. Ok (l, bytes)) (append-nil before)

-- there is room for the next element
pub element_room : {A : Type 0} (bytes : A → List ℕ) (count : A → ℕ) (xs : List A) (i : ℕ) (x : A) (old now : Vec ℕ)
    → i < length xs → x ≡ get_or xs i x → HasRoom old (sum_by count xs) → Gains old now (elements_bytes bytes (take i xs)) (sum_by count (take i xs)) → HasRoom now (count x)
element_room bytes count xs i x old now more is room so_far =
    omega (arith, room, so_far.longer, so_far.capacity, sum_by_more_le count xs i x more, ap count is)

-- after the next element, one element more is at the end
pub element_gains : {A : Type 0} (bytes : A → List ℕ) (count : A → ℕ) (xs : List A) (i : ℕ) (x : A) (old now after : Vec ℕ)
    → i < length xs → x ≡ get_or xs i x → Gains old now (elements_bytes bytes (take i xs)) (sum_by count (take i xs)) → Gains now after (bytes x) (count x)
    → Gains old after (elements_bytes bytes (take (i + 1) xs)) (sum_by count (take (i + 1) xs))
unfolding elements_bytes
element_gains bytes count xs i x old now after more is so_far one =
    let next : i + 1 ≡ suc i = omega arith in
    let one_more : take (i + 1) xs ≡ take i xs ++ x ∷ [] =
    ap (λ (n : ℕ). take n xs) next ∙ take-suc xs i x more ∙ ap (λ (y : _). take i xs ++ y ∷ []) (sym is) in
    let spelled : flat_map bytes (take (i + 1) xs) ≡ flat_map bytes (take i xs) ++ bytes x =
    ap (flat_map bytes) one_more ∙ flat_map-append bytes (take i xs) (x ∷ []) ∙ ap (λ t. flat_map bytes (take i xs) ++ t) (append-nil (bytes x)) in
    record {
      bytes = one.bytes ∙ ap (λ t. t ++ bytes x) so_far.bytes ∙ append_assoc old.items (flat_map bytes (take i xs)) (bytes x) ∙ ap (λ t. old.items ++ t) (sym spelled);
      longer = omega (arith, one.longer, so_far.longer, sum_by_more count xs i x more, ap count is);
      capacity = omega (arith, one.capacity, so_far.capacity);
    }
