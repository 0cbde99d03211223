use Rattle.rk_master.proofs.Words.{◌≡◌, List, drop, sym, ap, ◌∙◌, subst, IfOk-weaker, NumberMap, Range, Entry, Log, Tablet, tablet_of}
use Rattle.rk_master.proofs.Words.{own_counted}
use denote.Ref.{Bor}
use Rattle.rk_rebuild.specs.Lent.{lent}
use Rattle.rk_world.specs.Material.{named}
use Rattle.rk_tablet.specs.Rebuilding.{merged_with}
use Rattle.rk_master.specs.Rebuilding.{AreRead}
use Rattle.rk_master.proofs.OwnEntries.{own_counts}
use Rattle.rk_master.proofs.own_entries.merged.Goals as goal

pub returns : goal.returns
returns c =
    let log : Log = c.args.log.now in
    let tablet : Tablet = tablet_of c.args.tablet.now in
    let range : Range = tablet.handover.range in
    let own : List Entry = lent c.as_slice-4.result.now in
    let sides : NumberMap (List Entry) = c.in_ok-sides.sides in
    let entries : own ≡ drop c.args.from log.entries = ap lent c.as_slice-4.ensures.value ∙ c.in_ok-own.ensures ∙ c.as_slice.ensures.value ∙ c.in_ok-entries.ensures in
    let numbers = c.as_slice-3.ensures ∙ c.in_ok-numbers.ensures
    ∙ ap (λ (es : List (Bor Entry)). named range (lent es)) (c.as_slice-2.ensures.value ∙ sym c.as_slice-4.ensures.value) in
    let are : AreRead sides log.sides (named range own) = subst (AreRead sides log.sides) numbers c.in_ok-sides.ensures in
    let counted = ap lent c.as_slice-5.ensures.value ∙ c.in_ok-counted.ensures ∙ own_counts range sides log c.args.from own c.requires entries are in
    IfOk-weaker c.merge.result _ (λ merged. merged ≡ merged_with tablet (own_counted log range c.args.from))
    (λ merged is. is ∙ ap (merged_with tablet) counted) c.merge.ensures
