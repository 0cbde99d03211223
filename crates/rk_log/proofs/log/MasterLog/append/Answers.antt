use Rattle.std.proofs.Common.{◌≡◌, ◌+◌, ◌++◌, ◌∷◌, ◌∙◌, ℕ, List, [], true, cond, length, sym, ap, subst, arith}
use Rattle.std.specs.Prelude.{is_ok}
use Rattle.std.proofs.lemmas.Bool.{cond-true}
use Rattle.rk_entry.specs.Spelling.{spelled}
use Rattle.rk_log.specs.declared.copied.Copied.{Copied}
use Rattle.rk_log.specs.Cut.{end_of, has_room, with_bytes}
use Rattle.rk_log.specs.Log.{segment_bytes}
use Rattle.rk_log.specs.Parts.{Parts, parts_of, bytes_in, lengths_in, none_known, log_of, IsConsistent, IsCounted}
use Rattle.rk_log.specs.Stored.{spelled_in}
use Rattle.rk_log.proofs.CutLaws.{cut_again}
use Rattle.rk_log.proofs.Consistency.{with_entry_in, consistent_entry}
use Rattle.rk_log.proofs.Views.{entries_count}
use Rattle.rk_log.proofs.Changes.{size_entry, main_few, put_few, entry_shown}
use Rattle.rk_log.proofs.log.MasterLog.append.Goals as goal

pub end_of-requires-clause-few : goal.end_of-requires-clause-few
end_of-requires-clause-few c =
    let few = main_few (parts_of c.self.inside) c.args.self.now c.self.invariant.consistent c.self.view_is c.requires.room in
    omega (arith, few, put_few c.self.inside.main.items c.put_bytes.new.main.items _ c.in_ok-put_bytes.ensures.known, ap length c.as_slice-2.ensures.value)

-- the bytes that were put are those of the entry
spelling : (c : goal.After-self-1) → c.as_slice.result.now ≡ spelled c.args.entry.now
spelling c = c.as_slice.ensures.value ∙ c.in_ok-encode.ensures.ok ∙ ap (λ (l : List ℕ). l ++ spelled c.args.entry.now) c.clear.ensures.items

-- the parts stay consistent with it
consistent_now : (c : goal.After-self-1) → IsConsistent (with_entry_in (parts_of c.self.inside) c.put_bytes.new.main.items c.args.entry.now)
consistent_now c =
    consistent_entry (parts_of c.self.inside) c.put_bytes.new.main.items c.args.entry.now c.self.invariant.consistent
    (c.in_ok-put_bytes.ensures.bytes ∙ ap (with_bytes (bytes_in c.self.inside.main.items)) (spelling c))
    (subst
    (λ (l : List ℕ). lengths_in c.put_bytes.new.main.items ≡ cond (has_room (bytes_in c.self.inside.main.items) l) (lengths_in c.self.inside.main.items) (lengths_in c.self.inside.main.items ++ none_known ∷ []))
    (spelling c) c.in_ok-put_bytes.ensures.known)
    (main_few (parts_of c.self.inside) c.args.self.now c.self.invariant.consistent c.self.view_is c.requires.room) c.requires.fits c.requires.lawful

-- the segments spell it behind the others
entries_now : (c : goal.After-self-1) → spelled_in (bytes_in c.put_bytes.new.main.items) ≡ spelled_in (bytes_in c.self.inside.main.items) ++ c.args.entry.now ∷ []
entries_now c =
    let now = consistent_now c in
    ap spelled_in now.cut_is ∙ cut_again (spelled_in (bytes_in c.self.inside.main.items) ++ c.args.entry.now ∷ []) now.lawful

-- and its end
ends_now : (c : goal.After-self-1) → c.push.new.self.items ≡ c.self.inside.ends.items ++ end_of (bytes_in c.put_bytes.new.main.items) ∷ []
ends_now c =
    let stored : is_ok c.push.result ≡ true = c.push.ensures.succeeds (omega (arith, c.in_ok-reserve.ensures.ok)) in
    c.push.ensures.items ∙ cond-true (is_ok c.push.result) _ _ stored
    ∙ (λ i. c.reserve.ensures.items i ++ (c.end_of.ensures ∙ ap (λ (m : List Copied). end_of (bytes_in m)) c.as_slice-2.ensures.value) i ∷ [])

-- the parts with it
parts_now : (c : goal.After-self-1)
    → with_entry_in (parts_of c.self.inside) c.put_bytes.new.main.items c.args.entry.now
    ≡ record {
      entries = spelled_in (bytes_in c.put_bytes.new.main.items);
      ends = c.push.new.self.items;
      committed = c.self.inside.committed;
      main = c.put_bytes.new.main.items;
      sides = c.self.inside.sides.items;
      cursors = c.self.inside.cursors.items;
    }
parts_now c = λ i. record (with_entry_in (parts_of c.self.inside) c.put_bytes.new.main.items c.args.entry.now) { entries = sym (entries_now c) i; ends = sym (ends_now c) i }

-- its bytes are counted
size_now : (c : goal.After-self-1) → c.self.inside.size + c.len-count.result ≡ segment_bytes (log_of (with_entry_in (parts_of c.self.inside) c.put_bytes.new.main.items c.args.entry.now))
size_now c =
    let count : c.len-count.result ≡ length (spelled c.args.entry.now) = c.len-count.ensures ∙ c.encode.new.into.ok.0 ∙ ap length (c.in_ok-encode.ensures.ok ∙ ap (λ (l : List ℕ). l ++ spelled c.args.entry.now) c.clear.ensures.items) in
    size_entry (parts_of c.self.inside) c.put_bytes.new.main.items c.args.entry.now c.self.inside.size c.len-count.result c.self.invariant.size_is count

pub invariant_of-self-2 : goal.invariant_of-self-2
invariant_of-self-2 c =
    subst (λ (parts : Parts). IsCounted parts (c.self.inside.size + c.len-count.result)) (parts_now c) (record { consistent = consistent_now c; size_is = size_now c })

pub returns-clause-ok : goal.returns-clause-ok
returns-clause-ok c =
    sym (ap log_of (parts_now c))
    ∙ entry_shown (parts_of c.self.inside) c.put_bytes.new.main.items _ c.args.entry.now c.args.self.now c.self.view_is c.in_ok-put_bytes.ensures.known

pub returns-clause-place : goal.returns-clause-place
returns-clause-place c =
    omega (
      arith,
      c.len-place.ensures,
      c.reserve.new.self.ok.0,
      ap length c.reserve.ensures.items,
      entries_count (parts_of c.self.inside) c.args.self.now c.self.invariant.consistent c.self.view_is,
    )
