-- If a row is added for a master that served nothing of it, nothing was said of it.
use Rattle.rk_inv_base.proofs.Words.{◌≡◌, ℕ, true, false, List, [], ◌∷◌, refl, arith, IfSome, is_some, Contains, false≢true, ⊤}
use Rattle.rk_inv_base.proofs.Words.{meets, Node, Range, row_of, Row, Tenure, Body, new_row, IfMaster, range_in, tenure_in, View, added}
use Rattle.rk_types.specs.declared.node.Node.TheVariants as nodes
use Rattle.rk_message.specs.declared.message.Body.TheVariants as bodies
use Rattle.rk_inv_base.proofs.Base.{SaysIn, by_master}

module _ (v : View) (tablet : ℕ) (range : Range) (master : ℕ) (unsaid : (tenure : Tenure) → is_some (row_of v.rows tenure.tablet) ≡ true → tenure.tablet ≡ tablet → ⊥) where
  if_any : (to : Node) (P : ℕ → Type 0) → ((q : ℕ) → P q) → IfMaster to P
  if_any (nodes.Master q) P all = all q
  if_any _ P all = tt

  some_row : (rows : List Row) (n : ℕ) → is_some (row_of rows n) ≡ true → (x : Row) × Contains rows x
  some_row [] n known = absurd (cc known)
  some_row (x ∷ rows) n known = (x, (0, omega arith, refl))

  -- what is said of another row shows that a report comes from a master
  pub says_new : (from to : Node) (body : Body) → IfSome (tenure_in body) (λ tenure. is_some (row_of v.rows tenure.tablet) ≡ true) → IfSome (range_in body) (λ r. meets range r ≡ false) → ((x : Row) → Contains v.rows x → SaysIn v x from to body) → SaysIn (added v tablet range master) (new_row tablet range master) from to body
  says_new from to (bodies.Prepare prepare) known away was = grind (arith, if_any, meets, false≢true, prepare.tenure, prepare.range)
  says_new from to (bodies.Ready ready) known away was =
      let x = some_row v.rows ready.tenure.tablet known in
      by_master from _ _ (λ q said is. absurd (unsaid ready.tenure known is.tablet)) (was x.0 x.1)
  says_new from to (bodies.Close tenure) known away was = grind (arith, if_any)
  says_new from to (bodies.Transfer transfer) known away was =
      let x = some_row v.rows transfer.tenure.tablet known in
      by_master from _ _ (λ q said is. absurd (unsaid transfer.tenure known is.tablet)) (was x.0 x.1)
  says_new from to (bodies.Grant grant) known away was = grind (arith, if_any, grant.tenure)
  says_new from to (bodies.Pull pull) known away was =
      let x = some_row v.rows pull.tenure.tablet known in
      (λ is. absurd (unsaid pull.tenure known is.tablet), by_master from _ (λ q. ⊤) (λ q said. tt) ((was x.0 x.1).1))
  says_new from to (bodies.Pulled pulled) known away was = (λ is. absurd (unsaid pulled.tenure known is.tablet), if_any to (λ q. ⊤) (λ q. tt))
  says_new from to (bodies.Want want) known away was =
      let x = some_row v.rows want.tenure.tablet known in
      (λ is. absurd (unsaid want.tenure known is.tablet), by_master from _ (λ q. ⊤) (λ q said. tt) ((was x.0 x.1).1))
  says_new from to (bodies.Got got) known away was = (λ is. absurd (unsaid got.tenure known is.tablet), if_any to (λ q. ⊤) (λ q. tt))
  says_new from to (bodies.Joined tenure) known away was =
      let x = some_row v.rows tenure.tablet known in
      by_master from _ _ (λ q said is. absurd (unsaid tenure known is.tablet)) (was x.0 x.1)
  says_new from to (bodies.Own tenure) known away was = grind (arith, if_any)
  says_new from to (bodies.Release tenure) known away was = grind (arith, if_any)
  says_new from to (bodies.Rebuild rebuild) known away was = grind (arith, if_any, rebuild.tenure)
  says_new from to (bodies.Read read) known away was = λ is. absurd (unsaid read.tenure known is.tablet)
  says_new from to (bodies.Copy copy) known away was = λ is. absurd (unsaid copy.tenure known is.tablet)
  says_new from to (bodies.Rebuilt rebuilt) known away was =
      let x = some_row v.rows rebuilt.tenure.tablet known in
      by_master from _ _ (λ q said is. absurd (unsaid rebuilt.tenure known is.tablet)) (was x.0 x.1)
  says_new from to _ known away was = tt
