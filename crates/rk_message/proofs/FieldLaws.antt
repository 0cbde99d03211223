-- The laws of the fields of frames.
use Rattle.std.proofs.Common.{◌≡◌, ℕ, ◌^◌, ◌<◌, ◌≤◌, Bool, true, false, eqb, ltb, List, ◌++◌, Some, Ok, refl, ap, subst, ◌∙◌, append_assoc, arith, length-append}
use Rattle.std.specs.Prelude.{◌&&◌, not}
use Rattle.std.specs.Option.{ok_or}
use Rattle.std.proofs.lemmas.Bool.{eqb-true, ltb-true}
use Rattle.std.proofs.lemmas.Bool.Decides.{nat_tests}
use Rattle.rk_types.specs.declared.node.Node.{Node}
use Rattle.rk_entry.specs.declared.error.DecodeError.TheVariants.{Bad}
use Rattle.rk_entry.specs.declared.error.TheConstants.{BAD_NUMBER}
use Rattle.rk_entry.specs.Steps.{unless}
use Rattle.std.specs.Int.{Width, w8, w16, w32, w64, byte_len, is_in_range}
use Rattle.rk_entry.specs.Numbers.{number_bytes, IsNumber, read_number}
use Rattle.rk_entry.specs.Ends.{range_bytes}
use Rattle.rk_entry.proofs.Counts.{length-number_bytes}
use Rattle.rk_entry.proofs.TextLaws.{is_in_range_of}
use Rattle.rk_entry.proofs.NumberLaws.{IsWide, wide8, wide16, wide32, wide64, number_takes, number_again}
use Rattle.rk_entry.proofs.EndLaws.{chosen}
use Rattle.rk_entry.proofs.FieldLaws.{ok_or_ok}
use Rattle.rk_entry.proofs.Tools.{bind_ok, unless_ok, ok_is, Takes, takes_both, takes_weaker}
use Rattle.rk_message.specs.Fields.{node_kind, node_number, node_bytes, IsLawfulNode, node_of, read_node, tenure_bytes, IsLawfulTenure, read_tenure, token_bytes, IsLawfulToken, read_token, IsAnyRange, read_any_range}
use Rattle.rk_message.specs.declared.fields.TheConstants.{CLIENT, BACKUP, NODE_BYTES, TENURE_BYTES, TOKEN_BYTES, RANGE_BYTES}
use Rattle.rk_message.proofs.Codecs.{IsCodec, fields2, codec_as, fields3}

-- any number of a width
pub number_codec : (w : Width) → IsWide w → IsCodec (number_bytes w) (λ n. byte_len w) (IsNumber w 0) (read_number w)
number_codec w wide = record {
  takes = λ bytes x e. takes_weaker (λ (fits : x.0 < 256 ^ byte_len w). record { least_is = omega arith; fits = fits }) (number_takes w wide bytes x e);
  again = λ n rest h. number_again w wide n rest h.fits;
  counted = length-number_bytes w;
}

-- any range
pub range_codec : IsCodec range_bytes (λ range. RANGE_BYTES) IsAnyRange read_any_range
unfolding range_bytes read_any_range
range_codec =
    codec_as (λ range. refl) (λ range h. record { table = h.0; first = h.1; last = h.2 }) (λ range h. (h.table, h.first, h.last))
    (fields3 (λ p. record { table = p.0; first = p.1; last = p.2 }) (λ y. (y.table, y.first, y.last)) (λ p. refl) (λ y. refl)
    (number_codec w64 wide64) (number_codec w64 wide64) (number_codec w64 wide64))

-- a tenure
pub tenure_codec : IsCodec tenure_bytes (λ tenure. TENURE_BYTES) IsLawfulTenure read_tenure
unfolding tenure_bytes read_tenure
tenure_codec = fields2 (λ p. record { tablet = p.0; term = p.1 }) (λ y. (y.tablet, y.term)) (λ p. refl) (λ y. refl) (number_codec w32 wide32) (number_codec w64 wide64)

-- a token
pub token_codec : IsCodec token_bytes (λ token. TOKEN_BYTES) IsLawfulToken read_token
unfolding token_bytes read_token
token_codec = fields2 (λ p. record { bucket = p.0; skip = p.1 }) (λ y. (y.bucket, y.skip)) (λ p. refl) (λ y. refl) (number_codec w16 wide16) (number_codec w32 wide32)

-- ---- nodes

-- what is known of a node with this kind and number
record IsNode (kind number : ℕ) (node : Node) : Type 0 where
  kind_is : kind ≡ node_kind node
  number_is : number ≡ node_number node
  lawful : IsLawfulNode node

-- if two tests hold together, each holds
both_true : (a b : Bool) → (a && b) ≡ true → (a ≡ true) × (b ≡ true)
both_true true b e = (refl, e)
both_true false b e = absurd cc

-- the node of a kind with a number has them
node_is : (kind number : ℕ) (node : Node) → IsNumber w32 0 number → node_of kind number ≡ Some node → IsNode kind number node
node_is kind number node fits e = grind (arith, chosen, eqb, eqb-true, both_true, ltb, ltb-true)

-- a node that is read is lawful and spelled so
node_takes : (bytes : List ℕ) (x : Node × List ℕ) → read_node bytes ≡ Ok x → Takes bytes (node_bytes x.0) x.1 (IsLawfulNode x.0)
unfolding read_node node_bytes
node_takes bytes x e =
    let a = bind_ok (read_number w8 bytes) e in
    let k = bind_ok (unless (not (is_in_range CLIENT BACKUP a.0.0)) BAD_NUMBER a.0) a.2 in
    let g = unless_ok (not (is_in_range CLIENT BACKUP a.0.0)) BAD_NUMBER k.1 in
    let n = bind_ok (read_number w32 k.0.1) k.2 in
    let o = bind_ok (ok_or (node_of k.0.0 n.0.0) (Bad BAD_NUMBER)) n.2 in
    let kind : Takes bytes (number_bytes w8 k.0.0) k.0.1 (IsNumber w8 0 k.0.0) =
    subst (λ (y : ℕ × List ℕ). Takes bytes (number_bytes w8 y.0) y.1 (IsNumber w8 0 y.0)) g.1 ((number_codec w8 wide8).takes bytes a.0 a.1) in
    let both = takes_both kind ((number_codec w32 wide32).takes k.0.1 n.0 n.1) in
    subst (λ (y : Node × List ℕ). Takes bytes (number_bytes w8 (node_kind y.0) ++ number_bytes w32 (node_number y.0)) y.1 (IsLawfulNode y.0)) (ok_is (o.0, n.0.1) x o.2) (record {
      front = both.front;
      split = both.split;
      spelled = λ fits.
          let s = both.spelled fits in
          let is = node_is k.0.0 n.0.0 o.0 s.2.1 (ok_or_ok (node_of k.0.0 n.0.0) (Bad BAD_NUMBER) o.0 o.1) in (
            s.0 ∙ ap (λ (m : ℕ). number_bytes w8 m ++ number_bytes w32 n.0.0) is.kind_is ∙ ap (λ (m : ℕ). number_bytes w8 (node_kind o.0) ++ number_bytes w32 m) is.number_is,
            s.1,
            is.lawful,
          );
    })

-- the kind of a node is one of those that there are
node_kind_within : (node : Node) → (CLIENT ≤ node_kind node) × (node_kind node ≤ BACKUP)
node_kind_within node = grind arith

-- the number of a lawful node has four bytes
node_number_fits : (node : Node) → IsLawfulNode node → IsNumber w32 0 (node_number node)
node_number_fits node h = grind arith

-- a node has its kind and its number
node_back : (node : Node) → IsLawfulNode node → node_of (node_kind node) (node_number node) ≡ Some node
node_back node h = grind (arith, ltb, nat_tests)

-- a lawful node that is spelled is read
node_again : (node : Node) (rest : List ℕ) → IsLawfulNode node → read_node (node_bytes node ++ rest) ≡ Ok (node, rest)
unfolding read_node node_bytes
node_again node rest h =
    let kind = number_bytes w8 (node_kind node) in
    let number = number_bytes w32 (node_number node) in
    let within = node_kind_within node in
    let small : IsNumber w8 0 (node_kind node) = record { least_is = omega arith; fits = omega (arith, within.1) } in
    rw (
      append_assoc kind number rest,
      (number_codec w8 wide8).again (node_kind node) (number ++ rest) small,
      is_in_range_of CLIENT BACKUP (node_kind node) within.0 within.1,
      (number_codec w32 wide32).again (node_number node) rest (node_number_fits node h),
      node_back node h,
    ) refl

-- a node
pub node_codec : IsCodec node_bytes (λ node. NODE_BYTES) IsLawfulNode read_node
unfolding node_bytes
node_codec = record {
  takes = node_takes;
  again = node_again;
  counted = λ node.
      omega (
        arith,
        length-append (number_bytes w8 (node_kind node)) (number_bytes w32 (node_number node)),
        length-number_bytes w8 (node_kind node),
        length-number_bytes w32 (node_number node),
      );
}
