use Rattle.rk_cluster.proofs.Words.{◌≡◌, ℕ, ◌+◌, List, [], not, Option, IfSome, sym, ap, subst, ◌∙◌, arith, IsFormedWithRoom, has_crashed}
use Rattle.rk_cluster.proofs.Words.{Running, world_with, live_in}
use Rattle.rk_cluster.proofs.Takers.{IsCollecting, collected, collecting_none, collecting_one, where_running}
use Rattle.rk_cluster.proofs.turning.live_in.Goals as goal

pub loop-index-init : goal.loop-index-init
loop-index-init g c =
    let at = c.args.at.now in
    subst (λ (found : List ℕ). IsCollecting at c.args.masters found 0) (sym c.new-live.ensures.items)
    (collecting_none at c.args.masters
    (λ running runs. subst (λ (o : Option Running). IfSome o (λ running. IsFormedWithRoom (world_with at running []))) runs c.spent.ensures.formed)
    (λ running runs. subst (λ (o : Option Running). IfSome o (λ running. running.coordinator.masters ≡ at.masters)) runs c.spent.ensures.masters ∙ c.requires))

pub loop-index-preserved : goal.loop-index-preserved
loop-index-preserved g c =
    collecting_one c.args.at.now c.args.masters c.loop-index.live.items c.push_where.new.items.items c.loop-index.index (not c.crashed.result) c.loop-index-test.true
    (λ running runs.
    ap not
    (subst (λ (o : Option Running). IfSome o (λ running. c.crashed.result ≡ has_crashed (world_with c.args.at.now running []) (c.loop-index.index + 1))) runs c.crashed.ensures))
    c.in_ok-push_where.ensures c.loop-index.invariant

pub returns-clause-live : goal.returns-clause-live
returns-clause-live g c =
    where_running (λ running. c.loop-index.live.items ≡ live_in c.args.at.now running) c.args.at.now.running
    (collected c.args.at.now c.args.masters c.loop-index.live.items c.loop-index.index (omega (arith, c.loop-index-test.false)) c.loop-index.invariant)
