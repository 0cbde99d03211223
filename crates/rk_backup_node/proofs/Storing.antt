-- What a backup stores after an append is what the definitions say, by what the call of the replica came to.
use Rattle.std.proofs.Common.{◌≡◌, ℕ, ◌+◌, ◌-◌, Bool, true, false, ◌&&◌, cond, eqb, List, [], ◌∷◌, ◌++◌, Option, Some, None, Ok, Err, length, length-append, take, refl, sym, ap, ◌∙◌, arith, inl, inr}
use Rattle.std.specs.Prelude.{Result, IfSome}
use Rattle.std.proofs.Math.Seq.{take-append_seam}
use Rattle.std.proofs.lemmas.Bool.{eq-eqb, eqb-true, false≢true}
use Rattle.rk_outside.specs.declared.replica.Lost.{Lost}
use Rattle.rk_outside.specs.declared.replica.Lost.TheVariants.{Failed as failed, NoMemory}
use Rattle.rk_outside.specs.Segments.{ChangesAt, Segments, WhereTold, bytes_of, lengths_of, with_part}
use Rattle.rk_backup.specs.Accepts.{Accepts, added}
use Rattle.rk_message.specs.declared.replication.Append.{Append}
use Rattle.rk_world.specs.Backup.{append_taken, with_stored}
use Rattle.rk_backup_node.specs.Called.{append_called}

-- segments of which one changed are the old ones with that one
changed : (master segment : ℕ) (value : Option (List ℕ)) (old new : Segments) → ChangesAt master segment value old new → new ≡ with_stored old master segment value
changed master segment value old new change = λ i m s. at m s i
  where
    at : (m s : ℕ) → new m s ≡ with_stored old master segment value m s
    at m s = go (eqb m master) (eqb s segment) refl refl
      where
        go : (a b : Bool) → eqb m master ≡ a → eqb s segment ≡ b → new m s ≡ cond (a && b) value (old m s)
        go true true same_master same_segment =
            ap (λ (n : ℕ). new n s) (eqb-true m master same_master) ∙ ap (new master) (eqb-true s segment same_segment) ∙ change.here
        go true false same_master other = change.others m s (inr (λ is. false≢true (sym other ∙ eq-eqb s segment is)))
        go false b other any = change.others m s (inl (λ is. false≢true (sym other ∙ eq-eqb m master is)))

-- a part of some bytes makes a segment longer by as many
part_length : (stored : Option (List ℕ)) (bytes : List ℕ) → length (bytes_of (with_part stored bytes)) ≡ length (bytes_of stored) + length bytes
part_length stored [] = omega arith
part_length stored (byte ∷ bytes) = length-append (bytes_of stored) (byte ∷ bytes)

-- taking as many elements as a first part has gives that part
front_taken : (front back : List ℕ) (count : ℕ) → count ≡ length front → take count (front ++ back) ≡ front
front_taken front back count is = ap (λ (n : ℕ). take n (front ++ back)) is ∙ take-append_seam front back

module _ (master : ℕ) (append : Append) where
  -- reported segments after an append
  stored_is : {T : Type 0} (result : Result T Lost) (before after : ℕ) (old new : Segments) → before ≡ lengths_of old master append.segment → after ≡ lengths_of new master append.segment → Accepts result master append.segment append.at append.bytes old new → new ≡ append_taken old master append (append_called result before after)
  stored_is (Ok answer) before after old new was is accepts =
      changed master append.segment _ old new accepts
  stored_is (Err failed) before after old new was is leaves =
      let more : List ℕ = added append.at append.bytes (bytes_of (old master append.segment)) in
      let count : after - before ≡ length leaves.front =
      omega (arith, was, is, ap (λ (o : Option (List ℕ)). length (bytes_of o)) leaves.change.here, part_length (old master append.segment) leaves.front) in
      changed master append.segment _ old new leaves.change
      ∙ ap (λ (bytes : List ℕ). with_stored old master append.segment (with_part (old master append.segment) bytes))
      (sym (ap (take (after - before)) leaves.parts ∙ front_taken leaves.front leaves.back (after - before) count))
  stored_is (Err NoMemory) before after old new was is same =
      let none : after - before ≡ 0 =
      omega (arith, was, is, ap (λ (o : Option (List ℕ)). length (bytes_of o)) (same master append.segment)) in
      changed master append.segment (old master append.segment) old new
      (record { here = same master append.segment; others = λ m s apart. same m s })
      ∙ ap (λ (n : ℕ). with_stored old master append.segment
      (with_part (old master append.segment) (take n (added append.at append.bytes (bytes_of (old master append.segment)))))) (sym none)

  -- the same, if they are reported
  pub stored_told : {T : Type 0} (result : Result T Lost) (before after : ℕ) (old new : Option Segments) → IfSome old (λ told. before ≡ lengths_of told master append.segment) → IfSome new (λ told. after ≡ lengths_of told master append.segment) → WhereTold (Accepts result master append.segment append.at append.bytes) old new → WhereTold (λ old new. new ≡ append_taken old master append (append_called result before after)) old new
  stored_told result before after None new was is accepts = tt
  stored_told result before after (Some old) None was is accepts = accepts
  stored_told result before after (Some old) (Some new) was is accepts = stored_is result before after old new was is accepts
