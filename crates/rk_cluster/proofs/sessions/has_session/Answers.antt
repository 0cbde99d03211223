use Rattle.rk_cluster.proofs.Words.{Option, is_some, ap, sym, ◌∙◌, Session, get_tree}
use Rattle.rk_cluster.proofs.sessions.has_session.Goals as goal

pub returns : goal.returns
returns c = c.contains_key.ensures ∙ ap (λ (o : Option Session). is_some o) (sym (get_tree c.args.sessions.now c.args.client))
