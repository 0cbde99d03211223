-- A source that answers pulls and a target that replays what it pulled stay well formed, and what the source sends is.
use Rattle.std.proofs.Common.{◌≡◌, ◌≤◌, ◌<◌, ◌-◌, ◌^◌, ℕ, nat_le, List, [], ◌∷◌, ◌++◌, All, length, refl, ap, subst, sym, arith}
use Rattle.std.proofs.Common.{length-append, w64, flat_map}
use Rattle.rk_inv_wellformed.proofs.Words.{All-append, All-cons, All-drop, All-filter, All-head, All-nil, All-tail, AllByRecursion}
use Rattle.rk_inv_wellformed.proofs.Words.{spelled_of, Held, Token, Node, IsLawfulEntry, IsNumber, IsInScanOrder, IsLawfulToken, Message}
use Rattle.rk_inv_wellformed.proofs.Words.{Pull, Want, items_of, IsFormedMaster, IsFormedHeld, IsFormedMessage, IsFormedTenure, IsThere}
use Rattle.rk_inv_wellformed.proofs.Words.{Limits, Master, tablet_at, as_entries, IsMaster, Tablet, from_master, Body, cond_both, last_or}
use Rattle.rk_inv_wellformed.proofs.Words.{order_live, at_hash, is_live_in, item_bucket, batch_at, batch_of, left, next_token, passed}
use Rattle.rk_inv_wellformed.proofs.Words.{rest_at, token_before}
use Rattle.rk_table.proofs.InOrder.{bucket_below_end, rises_in_order}
use Rattle.rk_table.proofs.Tokens.{passed_and_left}
use Rattle.rk_pull.specs.declared.batches.TheConstants.{BATCH_BYTES}
use Rattle.rk_world.specs.Pulls as pulling
use Rattle.rk_inv_wellformed.proofs.masters.Work.{formed_from, tenure_fits, AreLimits, HasLogRoom, IsFormedWork, formed_changed}
use Rattle.rk_inv_wellformed.proofs.masters.Work.{formed_sending}
use Rattle.rk_inv_wellformed.proofs.maps.{all_each, all_flat, either_way, filter_few}

-- ---- lists

-- the items of entries that are items
pub items_again : (items : List Held) → items_of (as_entries items) ≡ items
items_again [] = refl
items_again (item ∷ items) = ap (λ (rest : List Held). item ∷ rest) (items_again items)

-- lawful items are lawful entries
lawful_entries : (limits : Limits) (items : List Held) → All (IsFormedHeld limits) items → AllByRecursion IsLawfulEntry (as_entries items)
lawful_entries limits [] all = tt
lawful_entries limits (item ∷ items) all =
    ((All-head (IsFormedHeld limits) item items all).lawful, lawful_entries limits items (All-tail (IsFormedHeld limits) item items all))

-- ---- batches

-- a batch has items of the list
each_batch : (P : Held → Type 0) (limit : ℕ) (items : List Held) → All P items → All P (batch_of limit items)
each_batch P limit [] all = All-nil P
each_batch P limit (item ∷ items) all = All-cons P item _ (All-head P item items all)
    (either_way (All P) (nat_le limit (spelled_of item)) (All-nil P) (each_batch P (limit - spelled_of item) items (All-tail P item items all)))

batch_few : (limit : ℕ) (items : List Held) → length (batch_of limit items) ≤ length items
batch_few limit [] = omega arith
batch_few limit (item ∷ items) = grind (arith, either_way, nat_le, spelled_of, (batch_few (limit - spelled_of item) items))

-- what is left at a token are items of the list
each_left : (P : Held → Type 0) (token : Token) (items : List Held) → All P items → All P (left token items)
each_left P token items all =
    All-append P _ _ (All-drop P token.skip _ (All-filter _ P items all)) (All-filter _ P items all)

token_fits : (rest done : List Held) → length done < 2 ^ 30 → IsLawfulToken (token_before rest done)
token_fits rest done few = grind (arith, last_or, bucket_below_end, filter_few, item_bucket)

-- the token that a scan answers can be spelled
next_fits : (token : Token) (limit : ℕ) (items : List Held) → IsInScanOrder items → length items < 2 ^ 30 → IsLawfulToken (next_token token limit items)
next_fits token limit items order few =
    token_fits (rest_at token limit items) (passed token items ++ batch_at token limit items)
    (omega (arith, batch_few limit (left token items), length-append {A = Held}, ap (λ (l : List Held). length l) (passed_and_left token items (rises_in_order items order))))

-- ---- what a source answers

-- the live items of a range are well formed
each_live : {limits : Limits} {number : ℕ} {master : Master} (tablet : Tablet) → IsFormedMaster limits number master → All (IsFormedHeld limits) (pulling.scan_of master tablet)
each_live {limits} {master} tablet formed =
    All-filter (is_live_in tablet.handover.range) (IsFormedHeld limits) master.records formed.records

module _ (limits : Limits) (number : ℕ) (master : Master) (sender : Node) (pull : Pull) where
  -- the live items that are pulled
  abbrev scan : List Held
  scan = pulling.scan_of master (tablet_at master pull.tenure.tablet)

  -- the batch that is answered
  abbrev answer : Message
  answer =
      from_master master sender (Body.Pulled (record {
        tenure = pull.tenure;
        token = pull.token;
        next = next_token pull.token BATCH_BYTES scan;
        entries = as_entries (batch_at pull.token BATCH_BYTES scan);
      }))

  each_scanned : IsFormedMaster limits number master → All (IsFormedHeld limits) (batch_at pull.token BATCH_BYTES scan)
  each_scanned formed = each_batch (IsFormedHeld limits) BATCH_BYTES _
      (each_left (IsFormedHeld limits) pull.token _ (each_live (tablet_at master pull.tenure.tablet) formed))

  few_scanned : HasLogRoom master → length scan < 2 ^ 30
  few_scanned fits =
      omega (arith, fits.room.records, filter_few (is_live_in (tablet_at master pull.tenure.tablet).handover.range) master.records)

  answer_is_formed : AreLimits limits → IsMaster limits.masters number → IsThere limits sender → IsLawfulToken pull.token → IsFormedTenure limits pull.tenure → IsFormedMaster limits number master → HasLogRoom master → IsFormedMessage limits answer
  answer_is_formed are there sender_there token tenure formed room =
      formed_from limits master sender _ there formed.number_is sender_there
      (assumption (
        tenure_fits are tenure,
        next_fits pull.token BATCH_BYTES _
            (order_live (tablet_at master pull.tenure.tablet).handover.range master.records formed.scanned) (few_scanned room),
        lawful_entries limits _ (each_scanned formed),
      ))
      (tenure, subst (All (IsFormedHeld limits)) (sym (items_again _)) (each_scanned formed))

  -- a source that takes a Pull
  pub formed_pull : AreLimits limits → IsMaster limits.masters number → IsThere limits sender → IsLawfulToken pull.token → IsFormedTenure limits pull.tenure → IsFormedMaster limits number master → HasLogRoom master → IsFormedWork limits number 1 (pulling.pull_taken master sender pull)
  formed_pull are there sender_there token tenure formed room = cond_both _ _ _ (IsFormedWork limits number 1)
      (λ frozen. formed_sending formed (answer_is_formed are there sender_there token tenure formed room)) (λ other. formed_changed formed)

module _ (limits : Limits) (number : ℕ) (master : Master) (sender : Node) (want : Want) where
  -- the live items with a hash
  abbrev found : ℕ → List Held
  found hash = at_hash hash (pulling.scan_of master (tablet_at master want.tenure.tablet))

  each_found : IsFormedMaster limits number master → All (IsFormedHeld limits) (flat_map found want.hashes)
  each_found formed = all_flat (IsFormedHeld limits) found want.hashes
      (all_each (λ hash. All (IsFormedHeld limits) (found hash)) want.hashes
      (λ hash. All-filter _ (IsFormedHeld limits) _ (each_live (tablet_at master want.tenure.tablet) formed)))

  -- a source that takes a Want
  pub formed_want : AreLimits limits → IsMaster limits.masters number → IsThere limits sender → AllByRecursion (IsNumber w64 0) want.hashes → IsFormedTenure limits want.tenure → IsFormedMaster limits number master → IsFormedWork limits number 1 (pulling.want_taken master sender want)
  formed_want are there sender_there hashes tenure formed = cond_both _ _ _ (IsFormedWork limits number 1)
      (λ frozen. formed_sending formed (formed_from limits master sender _ there formed.number_is sender_there
      (assumption (tenure_fits are tenure, lawful_entries limits _ (each_found formed)))
      (tenure, subst (All (IsFormedHeld limits)) (sym (items_again _)) (each_found formed))))
      (λ other. formed_changed formed)
