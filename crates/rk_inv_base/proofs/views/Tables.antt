-- Laws of the part Tables: what a staged write keeps of it.
use Rattle.rk_inv_base.proofs.Words.{arith, ◌≡◌, ℕ, nat_lt, Handover, Post, has_all_items}

-- whether a table has all of a tablet is seen from its post and its term
pub all_items_same : (post : Post) (a b : Handover) (term : ℕ) → a.term ≡ b.term → has_all_items post a term ≡ has_all_items post b term
all_items_same post a b term same = grind (arith, nat_lt)
