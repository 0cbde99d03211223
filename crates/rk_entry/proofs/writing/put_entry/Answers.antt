use Rattle.std.proofs.Common.{◌≡◌, rules, ◌∙◌, drop, refl, sym, ap, arith, false, true}
use Rattle.rk_entry.specs.Kinds.{kind_of, is_marked}
use Rattle.rk_entry.specs.Spelling.{mark_of, mark_count}
use Rattle.rk_entry.proofs.Sizes.{spelled_count, marked_whole, unmarked_whole}
use Rattle.rk_entry.proofs.writing.put_entry.Goals as goal

pub returns-then-is_marked : goal.returns-then-is_marked
returns-then-is_marked c =
    let marked : is_marked (kind_of c.args.entry.now) ≡ true = sym (ap is_marked c.kind.ensures) ∙ sym c.is_marked.ensures ∙ c.if-is_marked.true in
    let mark : mark_count (kind_of c.args.entry.now) ≡ 1 = rw marked refl in
    record {
      bytes = c.put_u8.ensures.bytes ∙ marked_whole c.args.entry.now c.args.into.now.items c.put_front.new.into.items c.len-start.result c.mark_of-mark.result marked (search rules)
          c.put_front.ensures.bytes
          (c.mark_of-mark.ensures ∙ ap mark_of (c.split_at.ensures.back ∙ ap (λ items. drop c.len-start.result items) c.deref.ensures.value));
      longer = omega (arith, mark, spelled_count c.args.entry.now, c.put_u8.ensures.longer, c.put_front.ensures.longer);
      capacity = omega (arith, c.put_u8.ensures.capacity, c.put_front.ensures.capacity);
    }

pub returns-else-is_marked : goal.returns-else-is_marked
returns-else-is_marked c =
    let unmarked : is_marked (kind_of c.args.entry.now) ≡ false = sym (ap is_marked c.kind.ensures) ∙ sym c.is_marked.ensures ∙ c.if-is_marked.false in
    let mark : mark_count (kind_of c.args.entry.now) ≡ 0 = rw unmarked refl in
    record {
      bytes = unmarked_whole c.args.entry.now c.args.into.now.items c.put_front.new.into.items unmarked c.put_front.ensures.bytes;
      longer = omega (arith, mark, spelled_count c.args.entry.now, c.put_front.ensures.longer);
      capacity = c.put_front.ensures.capacity;
    }
