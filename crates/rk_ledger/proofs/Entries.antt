-- What clients asked, by the entries that are kept of them.
use Rattle.std.proofs.Common.{arith, ◌≡◌, ℕ, Bool, true, false, cond, eqb, T, ◌&&◌, [], ◌∷◌, Option, Some, None, is_some, refl, ap, ◌∙◌}
use Rattle.std.proofs.Common.{⊎_elim}
use Rattle.std.specs.Option.{option_map}
use Rattle.std.specs.Ordering.{nat_cmp, is_lt, is_eq}
use Rattle.std.specs.FinMap.Entries.{below_all}
use Rattle.std.proofs.lemmas.Bool.{cases_eq, cond-true, cond-false, eq-eqb, ne_eqb}
use Rattle.rk_types.specs.NumberMap.{NumberMap, IsInOrder, get, get_or, insert}
use Rattle.rk_types.proofs.NumberMaps.{get_insert, in_order_changed, in_order_insert, same_map, same_number}
use Rattle.rk_message.specs.declared.message.Message.{Message}
use Rattle.rk_world.specs.declared.ledger.LastCall.{LastCall}
use Rattle.rk_ledger.specs.declared.asked.Asked.{Asked}
use Rattle.rk_types.proofs.Places.{first, second, get_below, insert_same}
use Rattle.rk_ledger.specs.Clients.{asked_here, last_calls_of, requests_of, with_added, with_last, with_request, with_request_of}

-- the last call that an entry records
abbrev pub last_in : Asked → Option LastCall
last_in asked = asked.last

-- the request that an entry records, if there is one
abbrev pub request_in : Option Asked → Option Message
request_in None = None
request_in (Some asked) = asked.request

-- two facts that a test joins
both : (a b : Bool) → T a → T b → T (a && b)
both true b p q = q
both false b p q = absurd p

-- ---- last calls

-- what is found of a client
pub get_last : (entries : NumberMap Asked) (client : ℕ) → get (last_calls_of entries) client ≡ option_map last_in (get entries client)
get_last [] client = refl
get_last (entry ∷ entries) client = grind (arith, entry.0, entry.1.last, entry.1, (get_last entries client))

-- a client has a last call if it has an entry
pub same_added : (entries : NumberMap Asked) (client : ℕ) → is_some (get (last_calls_of entries) client) ≡ is_some (get entries client)
same_added entries client = grind (arith, get_last)

-- an entry is put under a client
pub insert_last : (entries : NumberMap Asked) (client : ℕ) (asked : Asked) → last_calls_of (insert entries client asked) ≡ insert (last_calls_of entries) client asked.last
insert_last [] client asked = refl
insert_last (entry ∷ entries) client asked = grind (arith, entry.0, asked.last, entry.1.last, (insert_last entries client asked))

-- ---- last requests

-- a client below all is below those that have a request
below_requests : (client : ℕ) (entries : NumberMap Asked) → T (below_all nat_cmp client entries) → T (below_all nat_cmp client (requests_of entries))
below_requests client [] below = tt
below_requests client (entry ∷ entries) below = go entry.1.request (first _ _ below) (below_requests client entries (second _ _ below))
  where
    go : (o : Option Message) → T (is_lt (nat_cmp client entry.0)) → T (below_all nat_cmp client (requests_of entries))
        → T (below_all nat_cmp client (with_request_of entry.0 o (requests_of entries)))
    go None less rest = rest
    go (Some request) less rest = both _ _ less rest

-- the requests are in rising order of their clients
pub requests_order : (entries : NumberMap Asked) → IsInOrder entries → IsInOrder (requests_of entries)
requests_order [] order = tt
requests_order (entry ∷ entries) order = go entry.1.request (below_requests entry.0 entries (first _ _ order)) (requests_order entries (second _ _ order))
  where
    go : (o : Option Message) → T (below_all nat_cmp entry.0 (requests_of entries)) → IsInOrder (requests_of entries)
        → IsInOrder (with_request_of entry.0 o (requests_of entries))
    go None below rest = rest
    go (Some request) below rest = both _ _ below rest

-- what is found of a client
pub get_request : (entries : NumberMap Asked) → IsInOrder entries → (client : ℕ) → get (requests_of entries) client ≡ request_in (get entries client)
get_request [] order client = refl
get_request (entry ∷ entries) order client =
    go (is_eq (nat_cmp client entry.0)) refl entry.1.request (get_request entries (second _ _ order) client) (λ is. gone (same_number client entry.0 is))
    ∙ told (is_eq (nat_cmp client entry.0))
  where
    gone : client ≡ entry.0 → get entries client ≡ None
    gone is = ap (get entries) is ∙ get_below entries entry.0 (first _ _ order)

    go : (b : Bool) → is_eq (nat_cmp client entry.0) ≡ b → (o : Option Message) → get (requests_of entries) client ≡ request_in (get entries client)
        → (is_eq (nat_cmp client entry.0) ≡ true → get entries client ≡ None)
        → get (with_request_of entry.0 o (requests_of entries)) client ≡ cond b o (request_in (get entries client))
    go true is None rest none = rest ∙ ap request_in (none is)
    go false is None rest none = rest
    go true is (Some request) rest none = ap (λ (b : Bool). cond b (Some request) (get (requests_of entries) client)) is
    go false is (Some request) rest none = ap (λ (b : Bool). cond b (Some request) (get (requests_of entries) client)) is ∙ rest

    told : (b : Bool) → cond b entry.1.request (request_in (get entries client)) ≡ request_in (cond b (Some entry.1) (get entries client))
    told true = refl
    told false = refl

-- the requests once an entry was put under a client
requests_after : (entries : NumberMap Asked) (client : ℕ) (asked : Asked) → IsInOrder entries
    → (q : ℕ) → get (requests_of (insert entries client asked)) q ≡ cond (eqb q client) asked.request (get (requests_of entries) q)
requests_after entries client asked order q = grind (arith, get_request, in_order_insert, get_insert, eqb)

-- another request
pub insert_request : (entries : NumberMap Asked) (client : ℕ) (asked : Asked) (request : Message) → IsInOrder entries → asked.request ≡ Some request
    → requests_of (insert entries client asked) ≡ insert (requests_of entries) client request
insert_request entries client asked request order is =
    grind (arith, same_map, requests_order, in_order_insert, requests_after, eqb, get_insert)

-- the same request
pub keep_request : (entries : NumberMap Asked) (client : ℕ) (asked : Asked) → IsInOrder entries → asked.request ≡ request_in (get entries client)
    → requests_of (insert entries client asked) ≡ requests_of entries
keep_request entries client asked order is =
    grind (
      arith,
      same_map,
      requests_order,
      in_order_insert,
      requests_after,
      get_request,
      eqb,
      cond-true,
      eq-eqb,
      cond-false,
      ne_eqb,
      cases_eq,
      asked.request,
    )

-- ---- what is recorded of a client

-- the last call that an entry records, if there is one
abbrev pub last_call_in : Option Asked → Option LastCall
last_call_in None = None
last_call_in (Some asked) = asked.last

-- the last call of a client
pub last_call_is : (entries : NumberMap Asked) (client : ℕ) → get_or None (last_calls_of entries) client ≡ last_call_in (get entries client)
last_call_is entries client = grind (arith, get_last)

-- ---- one client is changed

module _ (entries : NumberMap Asked) (client : ℕ) (asked : Asked) (order : IsInOrder entries) where
  -- it has another last call
  pub asked_put : (last : LastCall) → asked.last ≡ Some last → asked.request ≡ request_in (get entries client)
      → asked_here (insert entries client asked) ≡ with_last (asked_here entries) client last
  asked_put last is kept = grind (arith, insert_last, keep_request)

  -- it has another last request
  pub request_put : (old : Asked) (request : Message) → get entries client ≡ Some old → asked.last ≡ old.last → asked.request ≡ Some request
      → asked_here (insert entries client asked) ≡ with_request (asked_here entries) client request
  request_put old request there kept is = grind (arith, insert_last, insert_same, in_order_changed, get_last, insert_request)

  -- it is new, and asked nothing
  pub added_put : get entries client ≡ None → asked.last ≡ None → asked.request ≡ None
      → asked_here (insert entries client asked) ≡ with_added (asked_here entries) client
  added_put new last request = grind (arith, insert_last, keep_request)
