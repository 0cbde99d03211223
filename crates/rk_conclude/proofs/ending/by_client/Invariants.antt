use Rattle.rk_conclude.proofs.Words.{◌≡◌, fold, into_iter_items, by_client, with_session}
use Rattle.rk_conclude.proofs.ending.by_client.Given as goal

-- the sessions so far are in the map: with those that are left it becomes the whole
abbrev pub invariant-loop-session : goal.invariant-loop-session
invariant-loop-session l = fold with_session l.map.entries (into_iter_items l.session-iterator) ≡ by_client l.fn.sessions.items
