-- What is pulled goes on when hashes are resolved, once all items of the source that have them have arrived.
use Rattle.rk_inv_base.proofs.Words.{◌≡◌, ℕ, Bool, true, false, cond, List, [], ◌∷◌, ◌++◌, eqb, ◌⊎◌, refl, ap, sym, subst, ◌∙◌, ⊎_elim, inl}
use Rattle.rk_inv_base.proofs.Words.{inr, Contains, flat_map, eq-eqb, eqb-true, Contains-append_left, Contains-append_right}
use Rattle.rk_inv_base.proofs.Words.{list_any-append, bytes_eq-Decides, Held, Member, at_hash, Row, Hashes, contains, got, is_batch}
use Rattle.rk_inv_base.proofs.Words.{is_receiving, GoesOn, source_items, View, or_cases, item_hash, MayResolve, resolving}
use Rattle.rk_inv_base.proofs.calls.Records.{filter_stands}

-- the outstanding batch is just what is given, if the test says so
pub batch_is : (outstanding given : List ℕ) → is_batch outstanding given ≡ true → outstanding ≡ given
batch_is [] given same = absurd (cc)
batch_is (hash ∷ more) given same = let decides = bytes_eq-Decides (hash ∷ more) given in decides.0 same

-- a hash that is resolved now was so, or is one of those that came
pub resolved_cases : (hashes : Hashes) (given : List ℕ) (hash : ℕ) → contains (got hashes given).resolved hash ≡ true → (contains hashes.resolved hash ≡ true) ⊎ (contains given hash ≡ true)
resolved_cases hashes given hash = go (is_batch hashes.outstanding given) refl
  where
    go : (b : Bool) → is_batch hashes.outstanding given ≡ b → contains (cond b (record { resolved = hashes.resolved ++ hashes.outstanding; outstanding = []; wanted = hashes.wanted }) hashes).resolved hash ≡ true → (contains hashes.resolved hash ≡ true) ⊎ (contains given hash ≡ true)
    go false other has = inl has
    go true same has =
        ⊎_elim (λ (before : contains hashes.resolved hash ≡ true). inl before)
        (λ (came : contains hashes.outstanding hash ≡ true).
        inr (subst (λ (batch : List ℕ). contains batch hash ≡ true) (batch_is hashes.outstanding given same) came))
        (or_cases (contains hashes.resolved hash) (contains hashes.outstanding hash)
        (sym (list_any-append (λ (h : ℕ). eqb h hash) hashes.resolved hashes.outstanding) ∙ has))

-- an item is among those that have given hashes, if its own is one of these
pub of_hashes : (items : List Held) (given : List ℕ) (item : Held) → Contains items item → contains given (item_hash item) ≡ true → Contains (flat_map (λ hash. at_hash hash items) given) item
of_hashes items [] item stands has = absurd (cc)
of_hashes items (hash ∷ more) item stands has =
    ⊎_elim
    (λ (same : eqb hash (item_hash item) ≡ true).
    Contains-append_left (at_hash hash items) (flat_map (λ hash. at_hash hash items) more) item
    (filter_stands (λ (other : Held). eqb (item_hash other) hash) items item stands
    (eq-eqb (item_hash item) hash (sym (eqb-true hash (item_hash item) same)))))
    (λ (later : contains more (item_hash item) ≡ true).
    Contains-append_right (at_hash hash items) (flat_map (λ hash. at_hash hash items) more) item
    (of_hashes items more item stands later))
    (or_cases (eqb hash (item_hash item)) (contains more (item_hash item)) has)

pub goes_on : (v : View) (row : Row) (source target : Member) (hashes : List ℕ) → MayResolve v row source target hashes → GoesOn v row source target (resolving hashes (v.pullings target.master row.tablet))
goes_on v row source target hashes may = record {
  at_end = λ joins had. had.at_end;
  arrived = λ item stands arrives.
      ⊎_elim (λ passed. inl (λ receives. inl passed))
      (λ resolved.
      ⊎_elim (λ before. inl (λ receives. inr before))
      (λ came. inr (may.arrived item (of_hashes (source_items v row source) hashes item stands came)))
      (resolved_cases (v.pullings target.master row.tablet).hashes hashes (item_hash item) resolved))
      (arrives (ap is_receiving may.pulling.receiving));
}
