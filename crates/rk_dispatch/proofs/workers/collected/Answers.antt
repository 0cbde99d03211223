use Rattle.std.proofs.Common.{◌≡◌, ◌++◌, [], List, take, subst, arith}
use Rattle.rk_types.specs.declared.node.Parcel.{Parcel}
use Rattle.rk_dispatch.specs.declared.account.Account.{Account}
use Rattle.rk_dispatch.specs.Balance.{AreSame, account, joined}
use Rattle.rk_dispatch.specs.Queue.{account_of}
use Rattle.rk_dispatch.proofs.Balances.{all_taken}
use Rattle.rk_dispatch.proofs.workers.collected.Goals as goal

-- the account of four passes and the first one, which takes the takers' in before the givers'
abbrev joined_all : List Parcel → List Parcel → List Parcel → List Parcel → Account
joined_all given more taken others =
    joined (joined (joined (joined (account 1020 [] []) (account 1 [] taken)) (account 1 [] others)) (account 1 given [])) (account 1 more [])

pub returns : goal.returns
returns g c =
    let first = c.args.first.now in
    let second = c.args.second.now in
    let m = c.args.given.0.count in
    let n = c.args.given.1.count in
    let taken = c.args.taken.0.parcels.items in
    let others = c.args.taken.1.parcels.items in
    let balance = c.left-left.ensures.balance in
    let whole : account_of c.all_joined-pass.result ≡ joined_all (take m first) (take n second) taken others =
    cc (
      c.all_joined-pass.ensures.all,
      c.requires.pass.1,
      c.requires.given.0.1,
      c.requires.given.1.1,
      c.requires.taken.0.1,
      c.requires.taken.1.1,
    ) in
    all_taken first second taken others balance.0 m n (omega arith) (omega arith) (omega (arith, balance.1))
    (subst (λ (a : Account). AreSame a.given (a.taken ++ balance.0)) whole balance.2)
