use Rattle.rk_cluster.proofs.Words.{◌-◌, ◌^◌, ℕ, List, map, min, sum, sym, ap, ◌∙◌, Session, calls_of}
use Rattle.std.specs.Map.{values_of}
use Rattle.std.specs.Map.Iter.{deref}
use Rattle.std.proofs.lemmas.Map.Iter.{iter_end}
use Rattle.std.proofs.lemmas.Simd.{map-map}
use Rattle.rk_cluster.proofs.looks.calls_asked.Goals as goal

pub returns : goal.returns
returns c =
    let all = iter_end deref (values_of c.args.sessions.now.entries) c.loop-session.yielded c.into_iter-session-iterator.result c.loop-session.session-iterator c.next.new.self c.next.result (cc) c.loop-session.yielded_by c.in-None.is c.next.ensures.steps in
    let seen = sym (map-map calls_of deref c.loop-session.yielded) ∙ ap (λ (sessions : List Session). map calls_of sessions) all.0 ∙ map-map calls_of (λ (entry : ℕ × Session). entry.1) c.args.sessions.now.entries in
    c.loop-session.invariant ∙ ap (λ (calls : List ℕ). min (sum calls) (2 ^ 64 - 1)) seen
