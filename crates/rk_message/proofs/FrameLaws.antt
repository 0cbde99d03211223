-- A message that is read is spelled so, and a lawful message that is spelled so is read, whatever follows it.
use Rattle.std.proofs.Common.{◌≡◌, ℕ, ◌+◌, ◌-◌, ◌^◌, ◌<◌, ◌≤◌, Bool, true, false, cond, eqb, leb, List, [], ◌∷◌, ◌++◌, length, drop, Some, Result, Ok, refl, sym, ap, subst, ◌∙◌, append_assoc, arith, length-append}
use Rattle.std.specs.Prelude.{◌&&◌, not}
use Rattle.std.specs.Int.{w8, w32, is_in_range}
use Rattle.std.specs.List.{find}
use Rattle.std.specs.Option.{ok_or}
use Rattle.std.proofs.lemmas.Bool.{eqb-true}
use Rattle.std.proofs.lemmas.Bool.Decides.{nat_tests}
use Rattle.std.proofs.lemmas.List.{drop_at}
use Rattle.rk_entry.specs.declared.error.DecodeError.{DecodeError}
use Rattle.rk_entry.specs.declared.error.DecodeError.TheVariants.{Bad}
use Rattle.rk_entry.specs.declared.error.TheConstants.{BAD_KIND, BAD_BODY_LENGTH}
use Rattle.rk_entry.specs.declared.kind.TheConstants.{END_BYTES, LONGEST_BODY}
use Rattle.rk_entry.specs.Numbers.{number_bytes, IsNumber, read_number}
use Rattle.rk_entry.proofs.Counts.{length-number_bytes}
use Rattle.rk_entry.proofs.NumberLaws.{wide8, wide32}
use Rattle.rk_entry.proofs.TextLaws.{in_range_is, is_in_range_of}
use Rattle.rk_entry.proofs.FieldLaws.{ok_or_ok}
use Rattle.rk_entry.proofs.EntryLaws.{list_length}
use Rattle.rk_entry.proofs.Tools.{IsBytes, bind_ok, unless_ok, ok_is, Takes, takes_both, takes_weaker}
use Rattle.rk_message.specs.declared.message.Message.{Message}
use Rattle.rk_message.specs.declared.message.Body.{Body}
use Rattle.rk_message.specs.declared.message.Body.TheVariants as bodies
use Rattle.rk_message.specs.declared.kind.Kind.{Kind}
use Rattle.rk_message.specs.declared.kind.Kind.TheVariants.{Request, Reply, Lookup, Located, Append, Stored, Prepare, Ready, Close, Transfer, Grant, Pull, Pulled, Want, Got, Joined, Own, Release, Rebuild, Read, Copy, Rebuilt}
use Rattle.rk_message.specs.declared.kind.TheConstants.{KINDS}
use Rattle.rk_message.specs.declared.fields.TheConstants.{NODES_BYTES, TENURE_BYTES}
use Rattle.rk_message.specs.declared.calls.TheConstants.{LOOKUP_BYTES, LOCATED_BYTES}
use Rattle.rk_message.specs.declared.replication.TheConstants.{APPEND_BYTES, STORED_BYTES}
use Rattle.rk_message.specs.declared.handover.TheConstants.{PREPARE_BYTES, READY_BYTES, TRANSFER_BYTES, GRANT_BYTES}
use Rattle.rk_message.specs.declared.pulling.TheConstants.{PULL_BYTES, HASH_BYTES, WANT_BYTES}
use Rattle.rk_message.specs.declared.rebuilding.TheConstants.{MEMBER_BYTES, REBUILD_BYTES, READ_SEGMENT_BYTES, COPY_BYTES, REBUILT_BYTES}
use Rattle.rk_message.specs.Kinds.{kind_of, kind_number, kind_numbered}
use Rattle.rk_message.specs.Fields.{node_bytes, read_node}
use Rattle.rk_message.specs.Frames.{fields_bytes, fields_count, IsLawfulBody, is_size, read_as, read_fields, body_bytes, frame_bytes, frame_len, IsLawfulMessage, read_kind, is_body_length, read_size, read_frame, StandsFirst}
use Rattle.rk_message.proofs.Codecs.{IsCodec}
use Rattle.rk_message.proofs.FieldLaws.{number_codec, node_codec, tenure_codec}
use Rattle.rk_message.proofs.CallLaws.{request_codec, reply_codec, lookup_codec, located_codec, request_size, reply_size}
use Rattle.rk_message.proofs.ReplicationLaws.{append_codec, stored_codec}
use Rattle.rk_message.proofs.HandoverLaws.{prepare_codec, ready_codec, transfer_codec, grant_codec}
use Rattle.rk_message.proofs.PullingLaws.{pull_codec, pulled_codec, pulled_size, want_codec, got_codec, got_size}
use Rattle.rk_message.proofs.RebuildingLaws.{rebuild_codec, read_segment_codec, copy_codec, rebuilt_codec}

-- ---- fields

-- what is known of a body once its kind and how many bytes its fields take are
pub record IsBody (kind : Kind) (size : ℕ) (body : Body) : Type 0 where
  pub kind_is : kind_of body ≡ kind
  pub lawful : IsLawfulBody body
  pub size_is : size ≡ fields_count body

-- fields that take always as many bytes
fixed : {A : Type 0} {bytes : A → List ℕ} {P : A → Type 0} {read : List ℕ → Result (A × List ℕ) DecodeError} (size count : ℕ)
    → IsCodec bytes (λ x. count) P read → size ≡ count → IsCodec bytes (λ x. count) (λ x. P x × (size ≡ count)) read
fixed size count codec is = record {
  takes = λ from x e. takes_weaker (λ h. (h, is)) (codec.takes from x e);
  again = λ x rest h. codec.again x rest h.0;
  counted = codec.counted;
}

-- a body that is made of what was read
made_takes : {A : Type 0} {bytes : A → List ℕ} {count : A → ℕ} {P : A → Type 0} {read : List ℕ → Result (A × List ℕ) DecodeError} (make : A → Body) (kind : Kind) (size : ℕ)
    → ((x : A) → fields_bytes (make x) ≡ bytes x) → ((x : A) → P x → IsBody kind size (make x)) → IsCodec bytes count P read
    → (from : List ℕ) (y : Body × List ℕ) → read_as make (read from) ≡ Ok y → Takes from (fields_bytes y.0) y.1 (IsBody kind size y.0)
made_takes {read = read} make kind size spells told codec from y e =
    let x = bind_ok (read from) e in
    subst (λ (z : Body × List ℕ). Takes from (fields_bytes z.0) z.1 (IsBody kind size z.0)) (ok_is (make x.0.0, x.0.1) y x.2)
    (subst (λ (t : List ℕ). Takes from t x.0.1 (IsBody kind size (make x.0.0))) (sym (spells x.0.0))
    (takes_weaker (told x.0.0) (codec.takes from x.0 x.1)))

-- the fields that are read are lawful and spelled so
fields_take : (kind : Kind) (size : ℕ) (from : List ℕ) (y : Body × List ℕ) → size < 256 ^ 4 → read_fields kind size from ≡ Ok y → is_size kind size ≡ true → Takes from (fields_bytes y.0) y.1 (IsBody kind size y.0)
unfolding read_fields is_size
fields_take Request size from y small e fits = made_takes bodies.Request Request size (λ x. refl) (λ x h. record { kind_is = refl; lawful = h.0; size_is = h.1 }) (request_codec size) from y e
fields_take Reply size from y small e fits = made_takes bodies.Reply Reply size (λ x. refl) (λ x h. record { kind_is = refl; lawful = h.0; size_is = h.1 }) (reply_codec size) from y e
fields_take Lookup size from y small e fits = made_takes bodies.Lookup Lookup size (λ x. refl) (λ x h. record { kind_is = refl; lawful = h.0; size_is = h.1 }) (fixed size LOOKUP_BYTES lookup_codec (eqb-true size LOOKUP_BYTES fits)) from y e
fields_take Located size from y small e fits = made_takes bodies.Located Located size (λ x. refl) (λ x h. record { kind_is = refl; lawful = h.0; size_is = h.1 }) (fixed size LOCATED_BYTES located_codec (eqb-true size LOCATED_BYTES fits)) from y e
fields_take Append size from y small e fits = made_takes bodies.Append Append size (λ x. refl) (λ x h. record { kind_is = refl; lawful = h.0; size_is = h.1 }) (append_codec size small) from y e
fields_take Stored size from y small e fits = made_takes bodies.Stored Stored size (λ x. refl) (λ x h. record { kind_is = refl; lawful = h.0; size_is = h.1 }) (fixed size STORED_BYTES stored_codec (eqb-true size STORED_BYTES fits)) from y e
fields_take Prepare size from y small e fits = made_takes bodies.Prepare Prepare size (λ x. refl) (λ x h. record { kind_is = refl; lawful = h.0; size_is = h.1 }) (fixed size PREPARE_BYTES prepare_codec (eqb-true size PREPARE_BYTES fits)) from y e
fields_take Ready size from y small e fits = made_takes bodies.Ready Ready size (λ x. refl) (λ x h. record { kind_is = refl; lawful = h.0; size_is = h.1 }) (fixed size READY_BYTES ready_codec (eqb-true size READY_BYTES fits)) from y e
fields_take Close size from y small e fits = made_takes bodies.Close Close size (λ x. refl) (λ x h. record { kind_is = refl; lawful = h.0; size_is = h.1 }) (fixed size TENURE_BYTES tenure_codec (eqb-true size TENURE_BYTES fits)) from y e
fields_take Transfer size from y small e fits = made_takes bodies.Transfer Transfer size (λ x. refl) (λ x h. record { kind_is = refl; lawful = h.0; size_is = h.1 }) (transfer_codec size small) from y e
fields_take Grant size from y small e fits = made_takes bodies.Grant Grant size (λ x. refl) (λ x h. record { kind_is = refl; lawful = h.0; size_is = h.1 }) (grant_codec size small) from y e
fields_take Pull size from y small e fits = made_takes bodies.Pull Pull size (λ x. refl) (λ x h. record { kind_is = refl; lawful = h.0; size_is = h.1 }) (fixed size PULL_BYTES pull_codec (eqb-true size PULL_BYTES fits)) from y e
fields_take Pulled size from y small e fits = made_takes bodies.Pulled Pulled size (λ x. refl) (λ x h. record { kind_is = refl; lawful = h.0; size_is = h.1 }) (pulled_codec size small) from y e
fields_take Want size from y small e fits = made_takes bodies.Want Want size (λ x. refl) (λ x h. record { kind_is = refl; lawful = h.0; size_is = h.1 }) (want_codec size small) from y e
fields_take Got size from y small e fits = made_takes bodies.Got Got size (λ x. refl) (λ x h. record { kind_is = refl; lawful = h.0; size_is = h.1 }) (got_codec size small) from y e
fields_take Joined size from y small e fits = made_takes bodies.Joined Joined size (λ x. refl) (λ x h. record { kind_is = refl; lawful = h.0; size_is = h.1 }) (fixed size TENURE_BYTES tenure_codec (eqb-true size TENURE_BYTES fits)) from y e
fields_take Own size from y small e fits = made_takes bodies.Own Own size (λ x. refl) (λ x h. record { kind_is = refl; lawful = h.0; size_is = h.1 }) (fixed size TENURE_BYTES tenure_codec (eqb-true size TENURE_BYTES fits)) from y e
fields_take Release size from y small e fits = made_takes bodies.Release Release size (λ x. refl) (λ x h. record { kind_is = refl; lawful = h.0; size_is = h.1 }) (fixed size TENURE_BYTES tenure_codec (eqb-true size TENURE_BYTES fits)) from y e
fields_take Rebuild size from y small e fits = made_takes bodies.Rebuild Rebuild size (λ x. refl) (λ x h. record { kind_is = refl; lawful = h.0; size_is = h.1 }) (rebuild_codec size small) from y e
fields_take Read size from y small e fits = made_takes bodies.Read Read size (λ x. refl) (λ x h. record { kind_is = refl; lawful = h.0; size_is = h.1 }) (fixed size READ_SEGMENT_BYTES read_segment_codec (eqb-true size READ_SEGMENT_BYTES fits)) from y e
fields_take Copy size from y small e fits = made_takes bodies.Copy Copy size (λ x. refl) (λ x h. record { kind_is = refl; lawful = h.0; size_is = h.1 }) (copy_codec size small) from y e
fields_take Rebuilt size from y small e fits = made_takes bodies.Rebuilt Rebuilt size (λ x. refl) (λ x h. record { kind_is = refl; lawful = h.0; size_is = h.1 }) (rebuilt_codec size small) from y e

-- the fields of a lawful message that are spelled are read
fields_again : (body : Body) (size : ℕ) (rest : List ℕ) → size < 256 ^ 4 → IsLawfulBody body → size ≡ fields_count body → read_fields (kind_of body) size (fields_bytes body ++ rest) ≡ Ok (body, rest)
unfolding read_fields
fields_again (bodies.Request body) size rest small h is = rw ((request_codec size).again body rest (h, is)) refl
fields_again (bodies.Reply body) size rest small h is = rw ((reply_codec size).again body rest (h, is)) refl
fields_again (bodies.Lookup body) size rest small h is = rw (lookup_codec.again body rest h) refl
fields_again (bodies.Located body) size rest small h is = rw (located_codec.again body rest h) refl
fields_again (bodies.Append body) size rest small h is = rw ((append_codec size small).again body rest (h, is)) refl
fields_again (bodies.Stored body) size rest small h is = rw (stored_codec.again body rest h) refl
fields_again (bodies.Prepare body) size rest small h is = rw (prepare_codec.again body rest h) refl
fields_again (bodies.Ready body) size rest small h is = rw (ready_codec.again body rest h) refl
fields_again (bodies.Close body) size rest small h is = rw (tenure_codec.again body rest h) refl
fields_again (bodies.Transfer body) size rest small h is = rw ((transfer_codec size small).again body rest (h, is)) refl
fields_again (bodies.Grant body) size rest small h is = rw ((grant_codec size small).again body rest (h, is)) refl
fields_again (bodies.Pull body) size rest small h is = rw (pull_codec.again body rest h) refl
fields_again (bodies.Pulled body) size rest small h is = rw ((pulled_codec size small).again body rest (h, is)) refl
fields_again (bodies.Want body) size rest small h is = rw ((want_codec size small).again body rest (h, is)) refl
fields_again (bodies.Got body) size rest small h is = rw ((got_codec size small).again body rest (h, is)) refl
fields_again (bodies.Joined body) size rest small h is = rw (tenure_codec.again body rest h) refl
fields_again (bodies.Own body) size rest small h is = rw (tenure_codec.again body rest h) refl
fields_again (bodies.Release body) size rest small h is = rw (tenure_codec.again body rest h) refl
fields_again (bodies.Rebuild body) size rest small h is = rw ((rebuild_codec size small).again body rest (h, is)) refl
fields_again (bodies.Read body) size rest small h is = rw (read_segment_codec.again body rest h) refl
fields_again (bodies.Copy body) size rest small h is = rw ((copy_codec size small).again body rest (h, is)) refl
fields_again (bodies.Rebuilt body) size rest small h is = rw ((rebuilt_codec size small).again body rest (h, is)) refl

-- the fields take as many bytes as are counted
pub length-fields_bytes : (body : Body) → length (fields_bytes body) ≡ fields_count body
length-fields_bytes (bodies.Request body) = (request_codec 0).counted body
length-fields_bytes (bodies.Reply body) = (reply_codec 0).counted body
length-fields_bytes (bodies.Lookup body) = lookup_codec.counted body
length-fields_bytes (bodies.Located body) = located_codec.counted body
length-fields_bytes (bodies.Append body) = (append_codec 0 (omega arith)).counted body
length-fields_bytes (bodies.Stored body) = stored_codec.counted body
length-fields_bytes (bodies.Prepare body) = prepare_codec.counted body
length-fields_bytes (bodies.Ready body) = ready_codec.counted body
length-fields_bytes (bodies.Close body) = tenure_codec.counted body
length-fields_bytes (bodies.Transfer body) = (transfer_codec 0 (omega arith)).counted body
length-fields_bytes (bodies.Grant body) = (grant_codec 0 (omega arith)).counted body
length-fields_bytes (bodies.Pull body) = pull_codec.counted body
length-fields_bytes (bodies.Pulled body) = (pulled_codec 0 (omega arith)).counted body
length-fields_bytes (bodies.Want body) = (want_codec 0 (omega arith)).counted body
length-fields_bytes (bodies.Got body) = (got_codec 0 (omega arith)).counted body
length-fields_bytes (bodies.Joined body) = tenure_codec.counted body
length-fields_bytes (bodies.Own body) = tenure_codec.counted body
length-fields_bytes (bodies.Release body) = tenure_codec.counted body
length-fields_bytes (bodies.Rebuild body) = (rebuild_codec 0 (omega arith)).counted body
length-fields_bytes (bodies.Read body) = read_segment_codec.counted body
length-fields_bytes (bodies.Copy body) = (copy_codec 0 (omega arith)).counted body
length-fields_bytes (bodies.Rebuilt body) = (rebuilt_codec 0 (omega arith)).counted body

-- a number that is at least another is found so
at_least : (least n : ℕ) → least ≤ n → leb least n ≡ true
at_least least n some = grind (arith, nat_tests)

-- the fields of a lawful message take as many bytes as its kind allows
lawful_size : (body : Body) → IsLawfulBody body → fields_count body ≤ LONGEST_BODY → is_size (kind_of body) (fields_count body) ≡ true
unfolding is_size
lawful_size (bodies.Request body) h within = request_size body h
lawful_size (bodies.Reply body) h within = reply_size body h
lawful_size (bodies.Lookup body) h within = refl
lawful_size (bodies.Located body) h within = refl
lawful_size (bodies.Append body) h within = at_least APPEND_BYTES (fields_count (bodies.Append body)) (omega arith)
lawful_size (bodies.Stored body) h within = refl
lawful_size (bodies.Prepare body) h within = refl
lawful_size (bodies.Ready body) h within = refl
lawful_size (bodies.Close body) h within = refl
lawful_size (bodies.Transfer body) h within = list_length TRANSFER_BYTES END_BYTES LONGEST_BODY (length body.ends) (fields_count (bodies.Transfer body)) (omega arith) refl within
lawful_size (bodies.Grant body) h within = list_length GRANT_BYTES END_BYTES LONGEST_BODY (length body.ends) (fields_count (bodies.Grant body)) (omega arith) refl within
lawful_size (bodies.Pull body) h within = refl
lawful_size (bodies.Pulled body) h within = pulled_size body h
lawful_size (bodies.Want body) h within = list_length WANT_BYTES HASH_BYTES LONGEST_BODY (length body.hashes) (fields_count (bodies.Want body)) (omega arith) refl within
lawful_size (bodies.Got body) h within = got_size body h within
lawful_size (bodies.Joined body) h within = refl
lawful_size (bodies.Own body) h within = refl
lawful_size (bodies.Release body) h within = refl
lawful_size (bodies.Rebuild body) h within = list_length REBUILD_BYTES MEMBER_BYTES LONGEST_BODY (length body.lineage) (fields_count (bodies.Rebuild body)) (omega arith) refl within
lawful_size (bodies.Read body) h within = refl
lawful_size (bodies.Copy body) h within = at_least COPY_BYTES (fields_count (bodies.Copy body)) (omega arith)
lawful_size (bodies.Rebuilt body) h within = list_length REBUILT_BYTES END_BYTES LONGEST_BODY (length body.ends) (fields_count (bodies.Rebuilt body)) (omega arith) refl within

-- ---- the head

-- what a search finds passes its test
found_passes : (test : Kind → Bool) (all : List Kind) (kind : Kind) → find test all ≡ Some kind → test kind ≡ true
found_passes test [] kind found = absurd (cc)
found_passes test (first ∷ others) kind found = go (test first) refl found (found_passes test others kind)
  where
    go : (passes : Bool) → test first ≡ passes → cond passes (Some first) (find test others) ≡ Some kind → (find test others ≡ Some kind → test kind ≡ true) → test kind ≡ true
    go true is found later = let same : first ≡ kind = cc in subst (λ (k : Kind). test k ≡ true) same is
    go false is found later = later found

-- a kind that is read is spelled by its number
kind_takes : (bytes : List ℕ) (x : Kind × List ℕ) → read_kind bytes ≡ Ok x → Takes bytes (number_bytes w8 (kind_number x.0)) x.1 (IsNumber w8 0 (kind_number x.0))
unfolding read_kind
kind_takes bytes x e =
    let a = bind_ok (read_number w8 bytes) e in
    let b = bind_ok (ok_or (kind_numbered a.0.0) (Bad BAD_KIND)) a.2 in
    let found = ok_or_ok (kind_numbered a.0.0) (Bad BAD_KIND) b.0 b.1 in
    let number : kind_number b.0 ≡ a.0.0 = eqb-true (kind_number b.0) a.0.0 (found_passes (λ kind. eqb (kind_number kind) a.0.0) KINDS b.0 found) in
    subst (λ (y : Kind × List ℕ). Takes bytes (number_bytes w8 (kind_number y.0)) y.1 (IsNumber w8 0 (kind_number y.0))) (ok_is (b.0, a.0.1) x b.2)
    (subst (λ (n : ℕ). Takes bytes (number_bytes w8 n) a.0.1 (IsNumber w8 0 n)) (sym number) ((number_codec w8 wide8).takes bytes a.0 a.1))

-- the number of a kind is a byte, by which the kind is found
kind_found : (kind : Kind) → (kind_number kind < 256) × (kind_numbered (kind_number kind) ≡ Some kind)
kind_found kind = grind arith

-- a kind that is spelled is read
kind_again : (kind : Kind) (rest : List ℕ) → read_kind (number_bytes w8 (kind_number kind) ++ rest) ≡ Ok (kind, rest)
unfolding read_kind
kind_again kind rest =
    let found = kind_found kind in
    let fits : IsNumber w8 0 (kind_number kind) = record { least_is = omega arith; fits = omega (arith, found.0) } in
    rw ((number_codec w8 wide8).again (kind_number kind) rest fits, found.1) refl

-- if two tests hold together, each holds
both_true : (a b : Bool) → not (a && b) ≡ false → (not a ≡ false) × (b ≡ true)
both_true a b e = grind arith

-- what is known of how many bytes the fields take, from the length of the body
record IsSize (kind : Kind) (size : ℕ) : Type 0 where
  allowed : is_size kind size ≡ true
  within : NODES_BYTES + size ≤ LONGEST_BODY

-- a length of a body that is read is lawful and spelled so
size_takes : (kind : Kind) (bytes : List ℕ) (x : ℕ × List ℕ) → read_size kind bytes ≡ Ok x → IsSize kind x.0 × Takes bytes (number_bytes w32 (NODES_BYTES + x.0)) x.1 (IsNumber w32 0 (NODES_BYTES + x.0))
unfolding read_size
size_takes kind bytes x e =
    let a = bind_ok (read_number w32 bytes) e in
    let read : ℕ × List ℕ = (a.0.0 - NODES_BYTES, a.0.1) in
    let g = unless_ok (not (is_body_length kind a.0.0)) BAD_BODY_LENGTH a.2 in
    let both = both_true (is_in_range NODES_BYTES LONGEST_BODY a.0.0) (is_size kind (a.0.0 - NODES_BYTES)) g.0 in
    let range = in_range_is NODES_BYTES LONGEST_BODY a.0.0 both.0 in
    let whole : a.0.0 ≡ NODES_BYTES + (a.0.0 - NODES_BYTES) = omega (arith, range.0) in
    subst (λ (y : ℕ × List ℕ). IsSize kind y.0 × Takes bytes (number_bytes w32 (NODES_BYTES + y.0)) y.1 (IsNumber w32 0 (NODES_BYTES + y.0))) g.1 (
      record { allowed = both.1; within = omega (arith, range.0, range.1) },
      subst (λ (n : ℕ). Takes bytes (number_bytes w32 n) a.0.1 (IsNumber w32 0 n)) whole ((number_codec w32 wide32).takes bytes a.0 a.1),
    )

-- a lawful length of a body that is spelled is read
size_again : (kind : Kind) (size : ℕ) (rest : List ℕ) → IsSize kind size → read_size kind (number_bytes w32 (NODES_BYTES + size) ++ rest) ≡ Ok (size, rest)
unfolding read_size
size_again kind size rest h =
    let fits : IsNumber w32 0 (NODES_BYTES + size) = record { least_is = omega arith; fits = omega (arith, h.within) } in
    let back : NODES_BYTES + size - NODES_BYTES ≡ size = omega arith in
    let range : is_in_range NODES_BYTES LONGEST_BODY (NODES_BYTES + size) ≡ true = is_in_range_of NODES_BYTES LONGEST_BODY (NODES_BYTES + size) (omega arith) h.within in
    rw ((number_codec w32 wide32).again (NODES_BYTES + size) rest fits, range, back, h.allowed) refl

-- ---- whole frames

-- the parts that were read are the spelling
frame_text : (message : Message) (kind : Kind) (size : ℕ) → IsBody kind size message.body
    → number_bytes w8 (kind_number kind) ++ (number_bytes w32 (NODES_BYTES + size) ++ (node_bytes message.from ++ (node_bytes message.to ++ fields_bytes message.body))) ≡ frame_bytes message
unfolding frame_bytes body_bytes
frame_text message kind size of =
    ap (λ (k : Kind). number_bytes w8 (kind_number k) ++ (number_bytes w32 (NODES_BYTES + size) ++ (node_bytes message.from ++ (node_bytes message.to ++ fields_bytes message.body)))) (sym of.kind_is)
    ∙ ap (λ (n : ℕ). number_bytes w8 (kind_number (kind_of message.body)) ++ (number_bytes w32 (NODES_BYTES + n) ++ (node_bytes message.from ++ (node_bytes message.to ++ fields_bytes message.body)))) of.size_is

-- a message that is read is lawful and spelled so
pub frame_takes : (bytes : List ℕ) (x : Message × List ℕ) → read_frame bytes ≡ Ok x → Takes bytes (frame_bytes x.0) x.1 (IsLawfulMessage x.0)
unfolding read_frame
frame_takes bytes x e =
    let k = bind_ok (read_kind bytes) e in
    let s = bind_ok (read_size k.0.0 k.0.1) k.2 in
    let f = bind_ok (read_node s.0.1) s.2 in
    let t = bind_ok (read_node f.0.1) f.2 in
    let b = bind_ok (read_fields k.0.0 s.0.0 t.0.1) t.2 in
    let size = size_takes k.0.0 k.0.1 s.0 s.1 in
    let small : s.0.0 < 256 ^ 4 = omega (arith, size.0.within) in
    let message : Message = record { from = f.0.0; to = t.0.0; body = b.0.0 } in
    let all =
    takes_both (kind_takes bytes k.0 k.1) (takes_both size.1
    (takes_both (node_codec.takes s.0.1 f.0 f.1) (takes_both (node_codec.takes f.0.1 t.0 t.1) (fields_take k.0.0 s.0.0 t.0.1 b.0 small b.1 size.0.allowed)))) in
    subst (λ (y : Message × List ℕ). Takes bytes (frame_bytes y.0) y.1 (IsLawfulMessage y.0)) (ok_is (message, b.0.1) x b.2) (record {
      front = all.front;
      split = all.split;
      spelled = λ fits.
          let a = all.spelled fits in
          let of : IsBody k.0.0 s.0.0 b.0.0 = a.2.1.1.1.1 in (
            a.0 ∙ frame_text message k.0.0 s.0.0 of,
            a.1,
            record { from = a.2.1.1.0; to = a.2.1.1.1.0; body = of.lawful; within = subst (λ (n : ℕ). NODES_BYTES + n ≤ LONGEST_BODY) of.size_is size.0.within },
          );
    })

-- a lawful message that is spelled is read, whatever follows it
pub frame_again : (message : Message) (rest : List ℕ) → IsLawfulMessage message → read_frame (frame_bytes message ++ rest) ≡ Ok (message, rest)
unfolding read_frame frame_bytes body_bytes
frame_again message rest h =
    let size = fields_count message.body in
    let kind = number_bytes w8 (kind_number (kind_of message.body)) in
    let body = number_bytes w32 (NODES_BYTES + size) in
    let from = node_bytes message.from in
    let to = node_bytes message.to in
    let fields = fields_bytes message.body in
    let small : size < 256 ^ 4 = omega (arith, h.within) in
    let is_lawful : IsSize (kind_of message.body) size = record { allowed = lawful_size message.body h.body (omega (arith, h.within)); within = h.within } in
    rw (
      append_assoc kind (body ++ (from ++ (to ++ fields))) rest,
      append_assoc body (from ++ (to ++ fields)) rest,
      append_assoc from (to ++ fields) rest,
      append_assoc to fields rest,
      kind_again (kind_of message.body) (body ++ (from ++ (to ++ (fields ++ rest)))),
      size_again (kind_of message.body) size (from ++ (to ++ (fields ++ rest))) is_lawful,
      node_codec.again message.from (to ++ (fields ++ rest)) h.from,
      node_codec.again message.to (fields ++ rest) h.to,
      fields_again message.body size rest small h.body refl,
    ) refl

-- the spelling of a message takes as many bytes as are counted
pub length-frame_bytes : (message : Message) → length (frame_bytes message) ≡ frame_len message
unfolding frame_bytes body_bytes
length-frame_bytes message =
    let size = fields_count message.body in
    omega (
      arith,
      length-append (number_bytes w8 (kind_number (kind_of message.body))) (number_bytes w32 (NODES_BYTES + size) ++ (node_bytes message.from ++ (node_bytes message.to ++ fields_bytes message.body))),
      length-append (number_bytes w32 (NODES_BYTES + size)) (node_bytes message.from ++ (node_bytes message.to ++ fields_bytes message.body)),
      length-append (node_bytes message.from) (node_bytes message.to ++ fields_bytes message.body),
      length-append (node_bytes message.to) (fields_bytes message.body),
      length-number_bytes w8 (kind_number (kind_of message.body)),
      length-number_bytes w32 (NODES_BYTES + size),
      node_codec.counted message.from,
      node_codec.counted message.to,
      length-fields_bytes message.body,
    )

-- the same bytes spell one message, with the same bytes after it
pub one_framed : (a b : Message) (x y : List ℕ) → IsLawfulMessage a → IsLawfulMessage b → frame_bytes a ++ x ≡ frame_bytes b ++ y → (a ≡ b) × (x ≡ y)
one_framed a b x y ha hb same =
    let read = ok_is (a, x) (b, y) (sym (frame_again a x ha) ∙ ap read_frame same ∙ frame_again b y hb) in
    (ap (λ (z : Message × List ℕ). z.0) read, ap (λ (z : Message × List ℕ). z.1) read)

-- what was read comes before the rest, which is no longer than the bytes
pub frame_shorter : (bytes : List ℕ) (message : Message) (rest : List ℕ) → read_frame bytes ≡ Ok (message, rest) → length rest ≤ length bytes
frame_shorter bytes message rest read =
    let taken = frame_takes bytes (message, rest) read in
    omega (arith, ap length taken.split, length-append taken.front rest)

-- the rest of what was read, as what is left after so many bytes
pub rest_after : (bytes : List ℕ) (message : Message) (rest : List ℕ) → read_frame bytes ≡ Ok (message, rest) → drop (length bytes - length rest) bytes ≡ rest
rest_after bytes message rest read =
    let taken = frame_takes bytes (message, rest) read in
    let k : length (taken.front ++ rest) - length rest ≡ length taken.front = omega (arith, length-append taken.front rest) in
    rw (taken.split, k) (drop_at taken.front rest (length taken.front) refl)

-- a message that is read comes first in the bytes
pub stands_first : (bytes : List ℕ) (message : Message) (rest : List ℕ) → IsBytes bytes → read_frame bytes ≡ Ok (message, rest) → StandsFirst bytes message (length bytes - length rest)
stands_first bytes message rest fits read =
    let taken = frame_takes bytes (message, rest) read in
    let facts = taken.spelled fits in
    let parts : bytes ≡ frame_bytes message ++ rest = taken.split ∙ ap (λ (t : List ℕ). t ++ rest) facts.0 in
    record {
      lawful = facts.2;
      count_is = omega (arith, ap length parts, length-append (frame_bytes message) rest);
      bytes_are = parts ∙ ap (λ (t : List ℕ). frame_bytes message ++ t) (sym (rest_after bytes message rest read));
    }
