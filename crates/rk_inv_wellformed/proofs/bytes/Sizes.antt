-- How great a log is: it has no more entries than bytes.
use Rattle.std.proofs.Common.{◌≡◌, ◌≤◌, ◌<◌, ◌^◌, ℕ, List, [], ◌∷◌, length, ap, sym, ◌∙◌, arith, w64, sum_by}
use Rattle.rk_inv_wellformed.proofs.Words.{sum_by-cons, IsNumber, spelled, Entry, cut, Master, log_bytes, MOST_BYTES, spelled_some}
use Rattle.std.proofs.lemmas.List.Concat.{concat_is, length-flat_map}
use Rattle.rk_entry.specs.Entries.{spelled_all}
use Rattle.rk_log.proofs.CutLaws.{cut_whole}

-- the bytes of the main segments are those of the entries
pub bytes_spelled : (entries : List Entry) → sum_by (λ (b : List ℕ). length b) (cut entries) ≡ sum_by (λ (e : Entry). length (spelled e)) entries
unfolding spelled_all
bytes_spelled entries = sym (length-flat_map (λ (b : List ℕ). b) (cut entries))
    ∙ ap (λ (b : List ℕ). length b) (sym (concat_is (cut entries)) ∙ cut_whole entries) ∙ length-flat_map spelled entries

-- each entry has a byte
count_spelled : (entries : List Entry) → length entries ≤ sum_by (λ (e : Entry). length (spelled e)) entries
count_spelled [] = omega arith
count_spelled (entry ∷ entries) =
    omega (arith, count_spelled entries, spelled_some entry, sum_by-cons (λ (e : Entry). length (spelled e)) entry entries)

-- a master has no more entries than bytes
pub entries_few : (master : Master) → length master.log.entries ≤ log_bytes master
entries_few master = omega (arith, count_spelled master.log.entries, bytes_spelled master.log.entries)

-- the side segments of a master have no more bytes than all
pub side_bytes : (master : Master) → sum_by (λ (b : List ℕ). length b) master.log.sides ≤ log_bytes master
side_bytes master = omega arith

-- fewer than this can be spelled
pub below_fits : (count bytes : ℕ) → count ≤ bytes → bytes < 2 ^ 30 → IsNumber w64 0 count
below_fits count bytes few room = omega arith

-- so each place of its log can be spelled
pub place_fits : (master : Master) → log_bytes master < MOST_BYTES → IsNumber w64 0 (length master.log.entries)
place_fits master room = below_fits (length master.log.entries) (log_bytes master) (entries_few master) room
