-- What a master chooses for a call can be carried out.
use Rattle.rk_master.proofs.Words.{arith, ◌≡◌, ℕ, Bool, true, false, cond, eqb, List, [], ◌∷◌, Option, Some, None, refl, sym, ap, ◌∙◌}
use Rattle.rk_master.proofs.Words.{IsSome, find, nat_cmp, is_eq, unsigned_tied, false≢true, eq-eqb, NumberMap, get, Call, Held, Tablet}
use Rattle.rk_master.proofs.Words.{Master, serves_key, choice_of, fresh_choice, IsFit}
use Rattle.rk_types.specs.declared.call.Op.{Op}
use Rattle.rk_done.specs.Completions.{look}
use Rattle.rk_done.specs.declared.completion.Look.{Look}
use Rattle.rk_model.specs.Merged.{is_mutation}
use Rattle.rk_world.specs.Master.{serving}
use Rattle.rk_world.specs.Requests.{choice_at, mutation_choice, operation, state_of}

-- the tablet that serves a key is there
found_there : (tablets : NumberMap Tablet) (table : ℕ) (key : List ℕ) (number : ℕ) (tablet : Tablet)
    → find (λ entry. serves_key table key entry.1) tablets ≡ Some (number, tablet) → IsSome (get tablets number)
found_there [] table key number tablet found = cc found
found_there (entry ∷ tablets) table key number tablet found =
    go (serves_key table key entry.1) (is_eq (nat_cmp number entry.0)) refl (found_there tablets table key number tablet) found
  where
    go : (b same : Bool) → is_eq (nat_cmp number entry.0) ≡ same
        → (find (λ other. serves_key table key other.1) tablets ≡ Some (number, tablet) → IsSome (get tablets number))
        → cond b (Some entry) (find (λ other. serves_key table key other.1) tablets) ≡ Some (number, tablet)
        → IsSome (cond same (Some entry.1) (get tablets number))
    go b true is later at = refl
    go true false other later at =
        let first : entry ≡ (number, tablet) = cc at in
        let named : number ≡ entry.0 = sym (ap (λ (e : ℕ × Tablet). e.0) first) in
        absurd (false≢true (sym other ∙ unsigned_tied number entry.0 ∙ eq-eqb number entry.0 named))
    go false false other later at = later at

-- what an operation does at a tablet that is there
operation_fits : (tablets : NumberMap Tablet) (number : ℕ) (op : Op) (live : Option (ℕ × List ℕ)) → IsSome (get tablets number)
    → IsFit tablets (operation number op live)
operation_fits tablets number op live there = grind (arith, eqb, false≢true)

-- what is done with a call that has not ended and is not staged
fresh_fits : (tablets : NumberMap Tablet) (number : ℕ) (tablet : Tablet) (call : Call) (state : Option Held) → IsSome (get tablets number)
    → IsFit tablets (fresh_choice number tablet call state)
fresh_fits tablets number tablet call state there = grind (arith, operation_fits)

-- what is done with a mutation
mutation_fits : (master : Master) (number : ℕ) (tablet : Tablet) (call : Call) (known : Look) → IsSome (get master.tablets number)
    → IsFit master.tablets (mutation_choice master number tablet call known)
mutation_fits master number tablet call known there = grind (arith, fresh_choice, fresh_fits)

-- what a master does with a call
pub choice_fits : (master : Master) (call : Call) → IsFit master.tablets (choice_of master call)
choice_fits master call = at (serving master call.table call.key) refl
  where
    at : (o : Option (ℕ × Tablet)) → serving master call.table call.key ≡ o → IsFit master.tablets (choice_at master call o)
    at None is = tt
    at (Some (number, tablet)) is = go (is_mutation call.op)
      where
        there : IsSome (get master.tablets number)
        there = found_there master.tablets call.table call.key number tablet is

        go : (b : Bool) → IsFit master.tablets (cond b (mutation_choice master number tablet call (look tablet.completions call.client call.seq)) (fresh_choice number tablet call (state_of master call)))
        go true = mutation_fits master number tablet call (look tablet.completions call.client call.seq) there
        go false = fresh_fits master.tablets number tablet call (state_of master call) there
