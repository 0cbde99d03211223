use Rattle.std.proofs.Common.{◌≡◌, ◌+◌, ◌<◌, ◌≤◌, ◌^◌, ◌∙◌, ℕ, Option, Some, length, sym, ap, subst, arith}
use Rattle.std.specs.Option.{SomeIff}
use Rattle.rk_entry.specs.declared.lists.TheConstants.{FIRST_SIDE_SEGMENT}
use Rattle.rk_segment.specs.Segment.{NumberedBytes}
use Rattle.rk_log.specs.Stored.{spelled_in}
use Rattle.rk_log.specs.Parts.{Parts, bytes_in, parts_of, log_of, IsCounted}
use Rattle.rk_log.proofs.Consistency.{with_side_in, consistent_side}
use Rattle.rk_log.proofs.Changes.{size_side, side_shown}
use Rattle.rk_log.proofs.log.MasterLog.add_side.Goals as goal

-- a number is left for the segment
few : (c : goal.After-self-1) → FIRST_SIDE_SEGMENT + (length c.self.inside.sides.items + 1) ≤ 2 ^ 32
few c =
    let there : SomeIff (Some c.in_ok-number.number) (FIRST_SIDE_SEGMENT + c.len.result < 2 ^ 32) (FIRST_SIDE_SEGMENT + c.len.result) =
    subst (λ (o : Option ℕ). SomeIff o (FIRST_SIDE_SEGMENT + c.len.result < 2 ^ 32) (FIRST_SIDE_SEGMENT + c.len.result)) c.in_ok-number.ensures.ok_part c.checked_add.ensures in
    omega (arith, there.0, c.len.ensures, c.self.inside.sides.ok.0)

-- the parts with it
parts_now : (c : goal.After-self-1)
    → with_side_in (parts_of c.self.inside) c.new.result
    ≡ record {
      entries = spelled_in (bytes_in c.self.inside.main.items);
      ends = c.self.inside.ends.items;
      committed = c.self.inside.committed;
      main = c.self.inside.main.items;
      sides = c.push.new.self.items;
      cursors = c.self.inside.cursors.items;
    }
parts_now c = λ i. record (parts_of c.self.inside) { sides = sym c.in_ok-push.ensures.items i }

-- its bytes
bytes_are : (c : goal.After-self-1) → c.new.result.segment.bytes ≡ c.args.segment.bytes
bytes_are c = ap (λ (s : NumberedBytes). s.bytes) c.new.ensures.segment

pub invariant_of-self-2 : goal.invariant_of-self-2
invariant_of-self-2 c =
    subst (λ (parts : Parts). IsCounted parts (c.self.inside.size + c.length-count.result)) (parts_now c) (record {
      consistent = consistent_side (parts_of c.self.inside) c.new.result c.self.invariant.consistent c.new.ensures.known (few c);
      size_is =
          size_side (parts_of c.self.inside) c.new.result c.args.segment.bytes c.self.inside.size c.length-count.result c.self.invariant.size_is (bytes_are c) c.length-count.ensures.length;
    })

pub returns-clause-ok : goal.returns-clause-ok
returns-clause-ok c =
    sym (ap log_of (parts_now c)) ∙ side_shown (parts_of c.self.inside) c.new.result c.args.segment.bytes c.args.self.now c.self.view_is (bytes_are c) c.new.ensures.known
