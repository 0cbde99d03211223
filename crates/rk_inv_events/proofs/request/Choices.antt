-- What a master found, by what it chose to do with a call.
use Rattle.std.proofs.Common.{arith}
use Rattle.std.proofs.Common.{Bool, None, Option, Some, ap, cond, false, is_some, not, refl, subst, sym, true, ℕ, ◌&&◌, ◌==◌, ◌∙◌, ◌≡◌}
use Rattle.rk_done.specs.declared.completion.Look.{Look}
use Rattle.rk_done.specs.declared.completion.Look.TheVariants as looks
use Rattle.rk_types.specs.declared.call.Op.TheVariants as ops
use Rattle.rk_world.specs.Requests.{choice_at, mutation_choice, read_of}
use Rattle.rk_inv_base.proofs.Words.{Call, Choice, End, Held, Ignores, Master, Op, Outcome, Reads, Redirects, Refuses, Repeats, Tablet}
use Rattle.rk_inv_base.proofs.Words.{Wants, Writes, choice_of, cond_both, fresh_choice, hash_of, is_known, is_mutation, look, needs_state}
use Rattle.rk_inv_base.proofs.Words.{operation, record_of, serving, state_of, version_of, ⊤, and_parts}
use Rattle.rk_inv_events.proofs.Words.{is_staged, not-false, not-true}
use Rattle.rk_inv_events.specs.answer.Small.{StagesNothing}

-- a call that ended is repeated: a tablet serves it whose completions have the end
pub record IsRepeated (master : Master) (call : Call) (end : End) : Type 0 where
  pub number : ℕ
  pub tablet : Tablet
  pub serves : serving master call.table call.key ≡ Some (number, tablet)
  pub mutation : is_mutation call.op ≡ true
  pub same : look tablet.completions call.client call.seq ≡ looks.Same end

-- a call is fresh: a tablet serves it, and if it is a mutation it has not ended there and is not staged
pub record IsFresh (master : Master) (call : Call) (choice : Choice) : Type 0 where
  pub number : ℕ
  pub tablet : Tablet
  pub serves : serving master call.table call.key ≡ Some (number, tablet)
  pub new : is_mutation call.op ≡ true → look tablet.completions call.client call.seq ≡ looks.New
  pub unstaged : is_mutation call.op ≡ true → is_staged master call.client call.seq ≡ false
  pub choice_is : fresh_choice number tablet call (state_of master call) ≡ choice

-- choices that are made for a fresh call alone
abbrev pub IsOfFresh : Choice → Type 0
IsOfFresh Redirects = ⊥
IsOfFresh (Repeats end) = ⊥
IsOfFresh Ignores = ⊥
IsOfFresh choice = ⊤

-- ---- a fresh call

-- what is done with a fresh call: what is lacking of its key is wanted, a get of which all is known returns what was found, and a mutation
-- is staged
data FreshIs (number : ℕ) (tablet : Tablet) (call : Call) (state : Option Held) : Choice → Type 0 where
  wants : needs_state call.op ≡ true → is_known tablet (hash_of call.key) state ≡ false → FreshIs number tablet call state (Wants number)
  finds :
      call.op ≡ ops.Get → is_known tablet (hash_of call.key) state ≡ true
      → FreshIs number tablet call state (Reads (read_of (record_of state)))
  stages : (choice : Choice) → is_mutation call.op ≡ true → (StagesNothing choice → ⊥) → FreshIs number tablet call state choice

module _ (number : ℕ) (tablet : Tablet) (call : Call) (state : Option Held) where
  abbrev Is : Choice → Type 0
  Is = FreshIs number tablet call state

  fresh_is : Is (fresh_choice number tablet call state)
  fresh_is = cond_both (needs_state call.op && not (is_known tablet (hash_of call.key) state)) (Wants number)
      (operation number call.op (record_of state)) Is
      (λ lacks.
      let parts = and_parts (needs_state call.op) (not (is_known tablet (hash_of call.key) state)) lacks in
      wants parts.0 (not-true (is_known tablet (hash_of call.key) state) parts.1)) (by_op call.op refl)
    where
      by_op : (op : Op) → call.op ≡ op → (needs_state op && not (is_known tablet (hash_of call.key) state)) ≡ false
          → Is (operation number op (record_of state))
      by_op ops.Get is has = finds is (not-false (is_known tablet (hash_of call.key) state) has)
      by_op (ops.Put value) is has = stages (Writes number) (ap is_mutation is) (λ none. none)
      by_op (ops.CondPut expected value) is has =
          cond_both (expected == version_of (record_of state)) (Writes number) (Refuses (version_of (record_of state)) false) Is
          (λ same. stages (Writes number) (ap is_mutation is) (λ none. none))
          (λ other. stages (Refuses (version_of (record_of state)) false) (ap is_mutation is) (λ none. none))
      by_op ops.Delete is has = cond_both (is_some (record_of state)) (Writes number) (Refuses 0 true) Is
          (λ there. stages (Writes number) (ap is_mutation is) (λ none. none))
          (λ gone. stages (Refuses 0 true) (ap is_mutation is) (λ none. none))

  -- it is a choice of fresh calls
  is_of_fresh : IsOfFresh (fresh_choice number tablet call state)
  is_of_fresh = grind (arith, fresh_is)

  -- what a call that is put off lacks
  pub record IsUnknown (other : ℕ) : Type 0 where
    pub same : number ≡ other
    pub needs : needs_state call.op ≡ true
    pub unknown : is_known tablet (hash_of call.key) state ≡ false

  pub put_off : (other : ℕ) → fresh_choice number tablet call state ≡ Wants other → IsUnknown other
  put_off other = grind (arith, fresh_is)

  -- a get of which all is known returns what was found
  pub record IsRead (outcome : Outcome) : Type 0 where
    pub op_is : call.op ≡ ops.Get
    pub known : is_known tablet (hash_of call.key) state ≡ true
    pub outcome_is : outcome ≡ read_of (record_of state)

  pub reads : (outcome : Outcome) → fresh_choice number tablet call state ≡ Reads outcome → IsRead outcome
  reads outcome = grind (arith, fresh_is, record_of)

  -- only a mutation is staged
  pub staging_mutates : (choice : Choice) → fresh_choice number tablet call state ≡ choice → (StagesNothing choice → ⊥) → is_mutation call.op ≡ true
  staging_mutates choice = grind (arith, fresh_is, is_mutation)

-- ---- what was chosen

-- a call that a master chose to do something with
data Chose (master : Master) (call : Call) : Choice → Type 0 where
  redirects : serving master call.table call.key ≡ None → Chose master call Redirects
  ignores : Chose master call Ignores
  repeated : (end : End) → IsRepeated master call end → Chose master call (Repeats end)
  as_fresh : (choice : Choice) → IsFresh master call choice → Chose master call choice

chose : (master : Master) (call : Call) → Chose master call (choice_of master call)
chose master call = at (serving master call.table call.key) refl
  where
    unstaged : (number : ℕ) (tablet : Tablet) → serving master call.table call.key ≡ Some (number, tablet)
        → look tablet.completions call.client call.seq ≡ looks.New
        → (b : Bool) → is_staged master call.client call.seq ≡ b
        → Chose master call (cond b Ignores (fresh_choice number tablet call (state_of master call)))
    unstaged number tablet serves new true staged = ignores
    unstaged number tablet serves new false staged =
        as_fresh (fresh_choice number tablet call (state_of master call))
        (record {
          number = number;
          tablet = tablet;
          serves = serves;
          new = λ mutates. new;
          unstaged = λ mutates. staged;
          choice_is = refl;
        })

    by : (number : ℕ) (tablet : Tablet) → serving master call.table call.key ≡ Some (number, tablet)
        → (mutates : Bool) → is_mutation call.op ≡ mutates
        → (known : Look) → look tablet.completions call.client call.seq ≡ known
        → Chose master call (cond mutates (mutation_choice master number tablet call known) (fresh_choice number tablet call (state_of master call)))
    by number tablet serves false reads known looked =
        as_fresh (fresh_choice number tablet call (state_of master call))
        (record {
          number = number;
          tablet = tablet;
          serves = serves;
          new = λ mutates. absurd (cc (reads, mutates));
          unstaged = λ mutates. absurd (cc (reads, mutates));
          choice_is = refl;
        })
    by number tablet serves true mutates looks.New looked =
        unstaged number tablet serves looked (is_staged master call.client call.seq) refl
    by number tablet serves true mutates (looks.Same end) looked =
        repeated end (record { number = number; tablet = tablet; serves = serves; mutation = mutates; same = looked })
    by number tablet serves true mutates (looks.Old seq) looked = ignores

    at : (found : Option (ℕ × Tablet)) → serving master call.table call.key ≡ found → Chose master call (choice_at master call found)
    at None serves = redirects serves
    at (Some (number, tablet)) serves =
        by number tablet serves (is_mutation call.op) refl (look tablet.completions call.client call.seq) refl

pub repeats : (master : Master) (call : Call) (end : End) → choice_of master call ≡ Repeats end → IsRepeated master call end
repeats master call end = go (chose master call)
  where
    go : {choice : Choice} → Chose master call choice → choice ≡ Repeats end → IsRepeated master call end
    go (redirects none) is = absurd (cc is)
    go ignores is = absurd (cc is)
    go (repeated other its) is = let same : other ≡ end = cc is in subst (IsRepeated master call) same its
    go (as_fresh choice its) is = absurd (subst IsOfFresh (its.choice_is ∙ is) (is_of_fresh its.number its.tablet call (state_of master call)))

pub fresh : (master : Master) (call : Call) (choice : Choice) → IsOfFresh choice → choice_of master call ≡ choice → IsFresh master call choice
fresh master call choice of_fresh = go (chose master call)
  where
    go : {made : Choice} → Chose master call made → made ≡ choice → IsFresh master call choice
    go (redirects none) is = absurd (subst IsOfFresh (sym is) of_fresh)
    go ignores is = absurd (subst IsOfFresh (sym is) of_fresh)
    go (repeated end its) is = absurd (subst IsOfFresh (sym is) of_fresh)
    go (as_fresh made its) is = subst (IsFresh master call) is its

-- a call is redirected if no tablet serves its key
pub redirected : (master : Master) (call : Call) → choice_of master call ≡ Redirects → serving master call.table call.key ≡ None
redirected master call = grind (arith, chose, serving, is_of_fresh, state_of)
