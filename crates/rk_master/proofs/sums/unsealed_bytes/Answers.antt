use Rattle.rk_master.proofs.Words.{◌≡◌, ℕ, ◌+◌, ◌-◌, ◌^◌, List, drop, min, sym, ap, ◌∙◌, arith, tablet_of, Row}
use Rattle.rk_world.specs.Master.{unsealed_bytes}
use Rattle.rk_master.proofs.Unsealed.{stopped_last, stopped_next, unsealed_next, unsealed_none, unsealed_of}
use Rattle.rk_master.proofs.sums.unsealed_bytes.Goals as goal

-- where the sum stops
abbrev MOST : ℕ
MOST = 2 ^ 64 - 1

pub loop-entry-preserved : goal.loop-entry-preserved
loop-entry-preserved c =
    let rows : List Row = c.args.tablets.now in
    let i : ℕ = c.loop-entry.entry-index in
    let so_far : ℕ = c.loop-entry.bytes in
    let read : Row = c.entry-item.result in
    let left : ℕ = unsealed_of (drop (i + 1) rows) in
    let next : unsealed_of (drop i rows) ≡ unsealed_bytes (tablet_of read.1) + left =
    unsealed_next rows i read c.loop-entry-test.true ∙ ap (λ (r : Row). unsealed_bytes (tablet_of r.1) + left) (sym c.entry-item.is) in
    let added : c.saturating_add-bytes.result ≡ min (so_far + unsealed_bytes (tablet_of read.1)) MOST =
    c.saturating_add-bytes.ensures ∙ ap (λ (n : ℕ). min (so_far + n) MOST) c.bytes.ensures in
    record {
      within = omega (arith, c.saturating_add-bytes.type_inv);
      total =
          ap (λ (n : ℕ). min (n + left) MOST) added
          ∙ stopped_next so_far (unsealed_bytes (tablet_of read.1)) left MOST
          ∙ ap (λ (n : ℕ). min (so_far + n) MOST) (sym next)
          ∙ c.loop-entry.invariant.total;
    }

pub returns : goal.returns
returns c =
    let rows : List Row = c.args.tablets.now in
    stopped_last c.loop-entry.bytes (unsealed_of (drop c.loop-entry.entry-index rows)) (unsealed_of rows) MOST c.loop-entry.invariant.within
    (unsealed_none rows c.loop-entry.entry-index c.loop-entry-test.false) c.loop-entry.invariant.total
