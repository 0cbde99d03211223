-- Laws of the part Cover: what a message that is sent, tablets that look the same, and a staged write keep of it.
use Rattle.rk_inv_base.proofs.Words.{arith, sym, subst, ◌≡◌, ℕ, true, List, All, is_some, Contains, flat_map, list_any_at, NumberMap, has}
use Rattle.rk_inv_base.proofs.Words.{Held, Handover, row_of, is_covered, Row, Message, Written, Mark, IsItemWithin, IsEntryWithin}
use Rattle.rk_inv_base.proofs.Words.{IsOfWholeRows, Cover}
use Rattle.rk_inv_base.proofs.views.Seen.{LooksAs}

-- each tablet looks as before
pub cover_looks : (rows : List Row) (written : ℕ → Written) (handovers handovers' : ℕ → ℕ → Handover) (records : ℕ → List Held) (wire : NumberMap Message) → Cover rows written handovers records wire → ((q r : ℕ) → LooksAs (handovers q r) (handovers' q r)) → Cover rows written handovers' records wire
cover_looks rows written handovers handovers' records wire old looks = grind (arith, row_of)

-- a hash of a row is covered
pub covered_by : (rows : List Row) (row : Row) (table hash : ℕ) → Contains rows row → has row.range table hash ≡ true → is_covered rows table hash ≡ true
covered_by rows row table hash stands here = grind (arith, list_any_at, has)

-- each master has written the same marks and side items, and entries that lie in rows and are of whole ones
pub cover_written : (rows : List Row) (written written' : ℕ → Written) (handovers : ℕ → ℕ → Handover) (records : ℕ → List Held) (wire : NumberMap Message) → Cover rows written handovers records wire → ((q : ℕ) → (written' q).marks ≡ (written q).marks) → ((q : ℕ) → (written' q).sides ≡ (written q).sides) → ((q : ℕ) → All (IsEntryWithin rows) (written' q).entries) → ((q : ℕ) → All (IsOfWholeRows rows) (written' q).entries) → Cover rows written' handovers records wire
cover_written rows written written' handovers records wire old marks sides new wholes =
    assumption (
      λ (q : ℕ). subst (λ (ms : List Mark). All (λ mark. is_some (row_of rows mark.tablet) ≡ true) ms) (sym (marks q)) (old.marks q),
      λ (q : ℕ). subst (λ (lists : List (List Held)). All (IsItemWithin rows) (flat_map (λ items. items) lists)) (sym (sides q)) (old.sides q),
    )
