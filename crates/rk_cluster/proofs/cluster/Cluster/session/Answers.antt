use Rattle.rk_cluster.proofs.Words.{◌≡◌, ℕ, Option, None, Some, IfSome, refl, ◌∙◌, ap, subst, sym, get, get_tree, Session, MayAct}
use Rattle.rk_cluster.proofs.Words.{masters_of, ClusterState}
use Rattle.rk_cluster.proofs.Counting.{masters_are}
use Rattle.rk_cluster.proofs.cluster.Cluster.session.Goals as goal

-- what is so of each thing that may be there
if_found : {X : Type 0} (Holds : X → Type 0) (found : Option X) → ((thing : X) → found ≡ Some thing → Holds thing) → IfSome found Holds
if_found Holds None gives = tt
if_found Holds (Some thing) gives = gives thing refl

pub returns-clause-session : goal.returns-clause-session
returns-clause-session g c =
    c.get.ensures.value ∙ sym (get_tree c.self.inside.sessions c.args.client) ∙ ap (λ (state : ClusterState g.row.R.Denot). get state.sessions c.args.client) c.self.view_is

pub returns-clause-acts : goal.returns-clause-acts
returns-clause-acts g c =
    let now = masters_of c.args.self.now in
    let many : c.self.inside.masters ≡ now =
    sym (masters_are c.self.inside.masters c.self.inside.lanes.items c.self.invariant.lanes c.self.invariant.count)
    ∙ ap (λ (state : ClusterState g.row.R.Denot). masters_of state) c.self.view_is in
    subst (λ (found : Option Session). IfSome found (MayAct now)) (sym (c.get.ensures.value ∙ sym (get_tree c.self.inside.sessions c.args.client)))
    (if_found (MayAct now) (get c.self.inside.sessions.entries c.args.client)
    (λ session found. subst (λ (count : ℕ). MayAct count session) many (c.self.invariant.sessions c.args.client session found)))
