-- The lines at worked examples.
use Rattle.std.proofs.Common.{◌≡◌, ℕ, List, [], ◌∷◌, ◌++◌, true, refl}
use Rattle.std.specs.Prelude.{Option, Some, None, codes, replicate}
use Rattle.std.specs.Fmt.{digits}
use Rattle.rk_types.specs.declared.call.Op.{Op}
use Rattle.rk_types.specs.declared.call.Op.TheVariants.{Get, Put, CondPut, Delete}
use Rattle.rk_types.specs.declared.call.Outcome.{Outcome}
use Rattle.rk_types.specs.declared.call.Outcome.TheVariants.{Found, Absent, Written, Deleted, Mismatch}
use Rattle.rk_types.specs.declared.held.Held.{Held}
use Rattle.rk_types.specs.declared.node.Said.TheVariants.{Reply, Moved, NotYet}
use Rattle.rk_tablet_map.specs.declared.phase.Phase.TheVariants as is
use Rattle.rk_model.specs.declared.line.Line.{Line}
use Rattle.rk_lines.specs.Lines.{refused_line, said_lines}
use Rattle.rk_lines.specs.Tablets.{tablet_lines}
use Rattle.rk_lines.specs.Records.{record_lines}
use Rattle.rk_lines.specs.History.{history_lines}

-- what clients say
pub said_lines-replies : said_lines (Reply 1 2 (Found 1 (codes "x")) ∷ Reply 1 3 Absent ∷ Reply 2 1 (Mismatch 0) ∷ []) ≡ codes "reply 1 2 found 1 x\nreply 1 3 absent\nreply 2 1 mismatch 0\n"
unfolding digits
said_lines-replies = refl

pub said_lines-again : said_lines (Moved 1 2 16 ∷ NotYet 1 2 (codes "a") ∷ []) ≡ codes "again 1 2 moved 16\nagain 1 2 notyet a\n"
unfolding digits
said_lines-again = refl

-- an empty value is left out, and the blank with it
pub said_lines-empty : said_lines (Reply 1 2 (Found 12 []) ∷ []) ≡ codes "reply 1 2 found 12\n"
unfolding digits
said_lines-empty = refl

-- a tablet that is the same in all lanes has one line, whatever its places
pub tablet_lines-owned : tablet_lines 1 (is.Owned 2 0 ∷ is.Owned 2 9 ∷ replicate 6 (is.Owned 2 0)) ≡ codes "tablet 1 owned 2\n"
unfolding digits
tablet_lines-owned = refl

pub tablet_lines-opening : tablet_lines 3 (is.Opening 1 5 2 None ∷ is.Opening 1 6 2 (Some 7) ∷ []) ≡ codes "tablet 3 opening 1 2\n"
unfolding digits
tablet_lines-opening = refl

-- and else one for each lane
pub tablet_lines-lanes :
    tablet_lines 1 (replicate 2 (is.Moving 1 0 2 0) ++ is.Owned 2 0 ∷ is.Rebuilding [] 3 ∷ replicate 4 (is.Moving 1 0 2 0))
    ≡ codes "tablet 1 lane 0 moving 1 2\ntablet 1 lane 1 moving 1 2\ntablet 1 lane 2 owned 2\ntablet 1 lane 3 rebuilding 3\ntablet 1 lane 4 moving 1 2\ntablet 1 lane 5 moving 1 2\ntablet 1 lane 6 moving 1 2\ntablet 1 lane 7 moving 1 2\n"
unfolding digits
tablet_lines-lanes = refl

-- an item of a table
abbrev item : List ℕ → ℕ → Option (List ℕ) → Held
item key version value = record { table = 1; version = version; client = 1; seq = 1; key = key; value = value }

-- records are shown by key, and a tombstone is none
pub record_lines-by_key :
    record_lines (item (codes "b") 12 (Some (codes "x")) ∷ item (codes "ab") 2 (Some []) ∷ item (codes "c") 3 None ∷ item (codes "a") 1 (Some (codes "x")) ∷ [])
    ≡ codes "record a 1 x\nrecord ab 2\nrecord b 12 x\n"
unfolding digits
record_lines-by_key = refl

-- a record of lane 4 of the key `a`
abbrev entry : ℕ → Op → Outcome → Line
entry seq op outcome = record {
  lane = 4;
  placed = record {
    call = record { client = 1; seq = seq; table = 1; key = codes "a"; op = op };
    outcome = outcome;
    stamp = seq;
    accepted = true;
  };
}

-- what is asked, and what it gave
pub history_lines-each :
    history_lines (entry 1 (Put (codes "x")) (Written 1) ∷ entry 2 (CondPut 0 []) (Mismatch 1) ∷ entry 3 Get (Found 1 (codes "x")) ∷ entry 4 Delete (Deleted 2) ∷ [])
    ≡ codes "entry 1 4 1 1 put 1 a x gives written 1\nentry 2 4 1 2 cput 1 a 0 gives mismatch 1\nentry 3 4 1 3 get 1 a gives found 1 x\nentry 4 4 1 4 del 1 a gives deleted 2\n"
unfolding digits
history_lines-each = refl

-- a script that is too long is refused at no line
pub refused_line-length : refused_line 0 20 ≡ codes "refused 0 20\n"
unfolding digits
refused_line-length = refl
