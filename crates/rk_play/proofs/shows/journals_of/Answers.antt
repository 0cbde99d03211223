use Rattle.rk_play.proofs.Words.{◌≡◌, ◌∷◌, ◌++◌, [], Bor, map, All, List, sym, ap, subst, ◌∙◌, arith, map_push, Placed, IsRisingAbove}
use Rattle.rk_play.proofs.Words.{journals_of, World, there_read}
use Rattle.std.proofs.lemmas.Grind.{common_steps}
use Rattle.std.proofs.lemmas.List.Elements.{All-push}
use Rattle.rk_play.proofs.Gathered.{each_grow, gathered_all, gathered_next}
use Rattle.rk_play.proofs.shows.journals_of.Goals as goal

abbrev look : World → List Placed
look w = w.ledger.journal

abbrev more : List (List Placed) → List Placed → List (List Placed)
more all one = all ++ one ∷ []

pub loop-lane-preserved : goal.loop-lane-preserved
loop-lane-preserved g c =
    let there = there_read c.args.lanes.now c.loop-lane.lane-index c.lane-item.result c.loop-lane-test.true c.lane-item.is in
    let before : List (List Placed) = journals_of c.loop-lane.journals.items in
    let grown : journals_of c.push.new.self.items ≡ before ++ c.journal.result.now ∷ [] =
    ap journals_of c.in_ok-push.ensures.items ∙ map_push (λ (journal : Bor (List Placed)). journal.now) c.loop-lane.journals.items c.journal.result in (
      gathered_next g.R.Replica.segments c.args.lanes.now look (map look) more (each_grow look) c.loop-lane.lane-index c.lane-item.result
          before (journals_of c.push.new.self.items) c.loop-lane-test.true there
          (λ w of. ap (λ (w : World). more before (look w)) of.is ∙ ap (more before) (sym c.journal.ensures.value) ∙ sym grown)
          c.loop-lane.invariant.0,
      grind (arith, common_steps, c.in_ok-push.ensures.items, c.loop-lane.invariant.1),
      subst (λ (all : List (List Placed)). All (IsRisingAbove 0) all) (sym grown)
          (All-push (IsRisingAbove 0) before c.journal.result.now c.loop-lane.invariant.2
          (subst (IsRisingAbove 0) (sym c.journal.ensures.value) c.journal.ensures.rising)),
    )

pub returns-clause-journals : goal.returns-clause-journals
returns-clause-journals g c =
    gathered_all g.R.Replica.segments c.args.lanes.now look (map look) more (each_grow look) c.loop-lane.lane-index
    (journals_of c.loop-lane.journals.items) (omega (arith, c.loop-lane-test.false)) c.loop-lane.invariant.0
