-- A lane stays sound when a client whose last call, if any, is older and accepted asks a call: nothing of the client is staged then.
use Rattle.rk_inv_base.proofs.Words.{◌≡◌, ℕ, ◌<◌, true, List, [], ◌∷◌, ◌++◌, Option, Some, refl, sym, ◌∙◌, subst, inr, arith, IfSome}
use Rattle.rk_inv_base.proofs.Words.{unwrap_or, All, length, All-head, All-tail, All-weaker, list_any_at, get_other, get_same, Call, Range}
use Rattle.rk_inv_base.proofs.Words.{live_after, Entry, Row, Request, base_map, item_end, items_of, refusal_end, Ledger, asked_by}
use Rattle.rk_inv_base.proofs.Words.{with_asked, call_of, World, LastCall, IsAccepted, IsLastCall, RequestFits, WasAsked, IsEntryOf, IsLast}
use Rattle.rk_inv_base.proofs.Words.{IsLastAsked, IsRest, IsStaged, Waits, call_ends, record_of_last, records_of, put, View, view, truths}
use Rattle.rk_inv_base.proofs.Words.{rests, AskedOf, RestOf, SoundView, TruthOf, Message, get, MayAsk, call_asked, call_asked_in}
use Rattle.rk_entry.specs.declared.entry.Entry.TheVariants as entries
use Rattle.rk_inv_base.proofs.Base.{of_waiting, all_in, put_by, put_is, put_other, row_in}
use Rattle.rk_inv_base.proofs.calls.OtherJournals.{is_request_by, request_says_by}

module _ (v : View) (client : ℕ) (last : LastCall) (sound : SoundView v) (may : MayAsk v client last) where
  abbrev now : View
  now = call_asked v client last

  -- what holds of the new call, and of what other clients asked, holds of what each client asked
  of_client : (P : Option LastCall → Type 0) (c : ℕ) → (c ≡ client → P (Some last)) → ((c ≡ client → ⊥) → P (v.asked c)) → P (now.asked c)
  of_client P c here apart = put_by v.asked client (λ _. Some last) P c here apart

  -- a call is older than the new one, and accepted
  abbrev IsOlder : Call → Type 0
  IsOlder call = (call.seq < last.call.seq) × IsAccepted v.journal call

  -- so is the last call that the client asked
  before : (c : ℕ) → c ≡ client → IfSome (v.asked c) (λ old. IsOlder old.call)
  before c is = subst (λ (n : ℕ). IfSome (v.asked n) (λ old. IsOlder old.call)) (sym is) may.accepted

  older : (c : ℕ) (call : Call) → c ≡ client → WasAsked (v.asked c) v.journal call → IsOlder call
  older c call is was = grind (arith, before)

  -- what was asked is not the new call
  another : (c : ℕ) (call : Call) → c ≡ client → WasAsked (v.asked c) v.journal call → last.call ≡ call → ⊥
  another c call is was same = grind (arith, older)

  -- and was asked still
  still_asked : (c : ℕ) (call : Call) → WasAsked (v.asked c) v.journal call → WasAsked (now.asked c) v.journal call
  still_asked c call was = of_client (λ old. WasAsked old v.journal call) c (λ is. inr (older c call is was)) (λ apart. was)

  truth : TruthOf now (truths v)
  truth = grind (arith, all_in, of_client, another)

  -- nothing of the client is staged, since its last call has its record
  unstaged : (c seq table : ℕ) (key : List ℕ) → IsLastAsked v.asked v.journal c seq table key → c ≡ client → ⊥
  unstaged c seq table key staged is =
      grind (arith, list_any_at)

  -- so what is staged is of the last call of its client as before
  same_asked : (c seq table : ℕ) (key : List ℕ) → IsLastAsked v.asked v.journal c seq table key → now.asked c ≡ v.asked c
  same_asked c seq table key staged = put_other v.asked client (Some last) c (unstaged c seq table key staged)

  still_last : (c seq table : ℕ) (key : List ℕ) → IsLastAsked v.asked v.journal c seq table key → IsLastAsked now.asked v.journal c seq table key
  still_last c seq table key staged = grind (arith, same_asked)

  still_staged : (entry : Entry) → IsStaged v.base v.asked v.journal entry → IsStaged v.base now.asked v.journal entry
  unfolding still_last
  still_staged (entries.Held held) = λ staged.
      record { last = still_last held.client held.seq held.table held.key staged.last; leaves = staged.leaves }
  still_staged (entries.Refused refused) = still_last refused.client refused.seq refused.table refused.key
  still_staged (entries.Carried carried) = λ staged. staged
  still_staged (entries.Joined joined) = λ staged. staged

  -- the records that staged calls will make
  records_same : (list : List Entry) → All (IsStaged v.base v.asked v.journal) list → records_of now.asked (call_ends list) ≡ records_of v.asked (call_ends list)
  records_same [] staged = refl
  records_same (entries.Held held ∷ list) staged =
      let first = All-head (IsStaged v.base v.asked v.journal) (entries.Held held) list staged in
      let later = All-tail (IsStaged v.base v.asked v.journal) (entries.Held held) list staged in
      λ i.
      record_of_last (item_end held) (same_asked held.client held.seq held.table held.key first.last i) ++ records_same list later i
  records_same (entries.Refused refused ∷ list) staged =
      let first = All-head (IsStaged v.base v.asked v.journal) (entries.Refused refused) list staged in
      let later = All-tail (IsStaged v.base v.asked v.journal) (entries.Refused refused) list staged in
      λ i.
      record_of_last (refusal_end refused) (same_asked refused.client refused.seq refused.table refused.key first i)
      ++ records_same list later i
  records_same (entries.Carried carried ∷ list) staged =
      records_same list (All-tail (IsStaged v.base v.asked v.journal) (entries.Carried carried) list staged)
  records_same (entries.Joined joined ∷ list) staged =
      records_same list (All-tail (IsStaged v.base v.asked v.journal) (entries.Joined joined) list staged)

  goes_on : (range : Range) (sure left : List Entry) → IsRest v.base range sure left v.journal v.asked → IsRest v.base range sure left v.journal now.asked
  goes_on range sure left old =
      grind (arith, records_same, base_map, items_of, live_after, still_staged, old.staged, old.legal, old.live, old.one)

  -- no call of the client waits
  entry_apart : (call : Call) (entry : Entry) → IsEntryOf call entry → IsStaged v.base v.asked v.journal entry → call.client ≡ client → ⊥
  entry_apart call (entries.Held held) own staged is =
      unstaged held.client held.seq held.table held.key staged.last (sym own.client_is ∙ is)
  entry_apart call (entries.Refused refused) own staged is =
      unstaged refused.client refused.seq refused.table refused.key staged (sym own.client_is ∙ is)
  entry_apart call _ own staged is = own

  none_waits : (q place : ℕ) (call : Call) → Waits v.rows (v.handovers q) (v.written q) q place call → call.client ≡ client → ⊥
  none_waits q place call waits is =
      let of_row =
      (row_in v sound waits.row waits.has_row).rest.goes_on in
      entry_apart call waits.entry waits.own
      (of_waiting (IsStaged v.base v.asked v.journal) v.rows (v.handovers q) v.written q place call waits of_row.staged) is

  rest : RestOf now (truths v) (rests v)
  rest =
      assumption (
        λ (k : ℕ) (d : Row) (within : k < length v.rows). goes_on _ _ _ (sound.rest.goes_on k d within),
        λ (q : ℕ) (lives : v.live q ≡ true) (place : ℕ) (call : Call) (found : get (v.calls q) place ≡ Some call).
            of_client (λ old. IsLast old call) call.client
            (λ is. absurd (none_waits q place call (sound.rest.waiting q lives place call found) is))
            (λ apart. sound.rest.are_last q lives place call found),
      )

  -- requests are of calls that were asked
  request_fits : (c : ℕ) (request : Request) → RequestFits v.asked v.journal c request → RequestFits now.asked v.journal c request
  request_fits c request fits = grind (arith, still_asked, call_of, of_client, another)

  asked : AskedOf now
  asked =
      assumption (
        λ (c : ℕ).
            of_client (λ old. IfSome old (IsLastCall v.base v.lane c)) c
            (λ is. record { own = may.own ∙ sym is; here = may.here; after = may.after }) (λ apart. sound.asked.last c),
        All-weaker _ (λ placed. WasAsked (now.asked placed.call.client) v.journal placed.call)
            (λ placed. still_asked placed.call.client placed.call) v.journal sound.asked.recorded,
        λ (n : ℕ) (m : Message) (found : get v.wire n ≡ Some m).
            request_says_by v.asked now.asked v.journal v.journal request_fits m.from m.body (sound.asked.sent n m found),
        λ (c : ℕ) (m : Message) (found : get v.requests c ≡ Some m).
            is_request_by v.asked now.asked v.journal v.journal request_fits c m.from m.body (sound.asked.again c m found),
      )

  pub view_asked : SoundView now
  view_asked = assumption (truth, rest, asked)

-- a ledger in which a client asked a call has that call, and what other clients asked
pub asked_put : (ledger : Ledger) (client : ℕ) (last : LastCall) (q : ℕ) → asked_by (with_asked ledger client last) q ≡ put (asked_by ledger) client (Some last) q
asked_put ledger client last q = grind (arith, put_is, asked_by, with_asked, unwrap_or, get_same, get_other)

pub view_is : (w : World) (client : ℕ) (last : LastCall) → view (call_asked_in w client last) ≡ call_asked (view w) client last
view_is w client last i = record (view w) { asked = λ q. asked_put w.ledger client last q i }
