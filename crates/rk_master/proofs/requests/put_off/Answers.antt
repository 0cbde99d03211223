use Rattle.rk_master.proofs.Words.{List, subst, sym, IsSome, get, Row}
use Rattle.rk_master.proofs.requests.put_off.Goals as goal

pub want-requires-clause-there : goal.want-requires-clause-there
want-requires-clause-there c =
    subst (λ (lent : List Row). IsSome (get lent c.args.number)) (sym c.as_mut_slice.ensures.value) c.requires.there
