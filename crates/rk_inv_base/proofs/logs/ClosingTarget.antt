-- A target that joins stays a target of its row with the entry that closes its joining.
use Rattle.rk_inv_base.proofs.Words.{◌≡◌, ℕ, ◌≤◌, true, List, [], ◌∷◌, ◌++◌, length, filter, Option, Some, None, sym, ap, ◌∙◌, subst, arith}
use Rattle.rk_inv_base.proofs.Words.{slice_get, drop, cond-true, drop-append-le, take-append-le, All-nil, filter-append, meets, Held}
use Rattle.rk_inv_base.proofs.Words.{Member, Entry, Handover, Role, Row, Handed, items_of, touches, is_joined_in, joined_from, Pulling}
use Rattle.rk_inv_base.proofs.Words.{Written, applied_entries, HasArrived, HasClosing, IsReceived, IsTarget, before_closing, beginning_of}
use Rattle.rk_inv_base.proofs.Words.{closing_joined, copied_items, entries_from, is_joining, joined_place, scan_items, as_closed}
use Rattle.rk_inv_base.proofs.Words.{with_one_more, slice_get_end, take_all}
use Rattle.rk_transfer.specs.declared.role.Role.TheVariants as roles
use Rattle.rk_inv_base.proofs.Base.{AreBelow, own_push}

module _ (place : ℕ) (old : Handover) (sealed : List ℕ) where
  abbrev closing : Entry
  closing = closing_joined old sealed

  -- the target itself has its closing entry
  pub target_here : (x : Row) (source target : Member) (h : Handover) (w : Written) → h.role ≡ roles.Joining None → meets h.range x.range ≡ true → place ≡ length w.entries → target.from ≤ length w.entries → w.applied ≤ length w.entries → (truth material : List Entry) (pulling : Pulling) (handed : Option Handed) (table : List Held)
      → closing ≡ closing_joined h pulling.sealed
      → IsTarget x.range source.master truth material target.from w h pulling handed table → IsTarget x.range source.master truth material target.from (with_one_more w closing) (as_closed place h) pulling handed table
  target_here x source target h w joining met end from fits truth material pulling handed table is was = record {
    from_source = was.from_source;
    workers = was.workers;
    pulled = λ _. was.pulled (ap is_joining joining);
    received =
        subst
        (λ (sure : List Entry). IsReceived (HasArrived (roles.Joining (Some place)) pulling (scan_items truth)) x.range (scan_items truth)
        (items_of (entries_from x.range target.from sure)) (copied_items (roles.Joining (Some place)) pulling w.sides) table)
        (sym (take-append-le w.applied w.entries (closing ∷ []) fits))
        (subst
        (λ (role : Role). IsReceived (HasArrived role pulling (scan_items truth)) x.range (scan_items truth)
        (items_of (entries_from x.range target.from (applied_entries w))) (copied_items role pulling w.sides) table) joining was.received);
    above =
        own_push x.range target.from w.entries closing from (AreBelow (items_of material)) was.above
        (λ inside. All-nil (AreBelow (items_of material)));
    told = grind (arith, beginning_of, take-append-le, take_all, before_closing, joined_place, was.told, target.from, w.entries);
    early = grind (arith, touches, take-append-le, x.range, w.applied, target.from, w.entries, was.early);
    closing =
        let none : joined_from x.range target.from w.entries ≡ [] =
        subst (λ (role : Role). HasClosing (joined_place role) (closing_joined h pulling.sealed) x.range target.from w.entries) joining was.closing in
        subst (λ (e : Entry). HasClosing (Some place) e x.range target.from (w.entries ++ closing ∷ [])) is (record {
          stands = ap (slice_get (w.entries ++ closing ∷ [])) end ∙ slice_get_end w.entries closing;
          alone =
              ap (filter (is_joined_in x.range)) (drop-append-le target.from w.entries (closing ∷ []) from)
              ∙ filter-append (is_joined_in x.range) (drop target.from w.entries) (closing ∷ [])
              ∙ ap (λ (list : List Entry). list ++ filter (is_joined_in x.range) (closing ∷ [])) none
              ∙ cond-true (is_joined_in x.range closing) (closing ∷ []) []
              (ap (λ (e : Entry). is_joined_in x.range e) is ∙ met);
          behind = omega (arith, end, from);
        });
  }
