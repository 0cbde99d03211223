-- The targets and rebuilds of a view whose row is split, and what its messages say.
use Rattle.std.proofs.Common.{◌≡◌, ℕ, ◌+◌, ◌≤◌, ◌<◌, true, [], ◌∷◌, eqb, sym, ap, ◌∙◌, ⊎_elim, arith, inl, inr, IfSome, All, ne_eqb}
use Rattle.rk_inv_base.proofs.Words.{cases_eq, cond_both, get, meets, Node, Range, Handover, row_of, Owned, Row, Grant, Prepare, Tenure}
use Rattle.rk_inv_base.proofs.Words.{Body, Rebuild, is_member, Mark, is_wanting, AsksFor, IsOnlyRebuilder, IsOwner, SaysOf, PrepareFits}
use Rattle.rk_inv_base.proofs.Words.{CloseFits, GrantAgrees, OwnFits, ReleaseFits, RebuildFits, IsOf, Bystander, Owner, tenure_in, View}
use Rattle.rk_inv_rows.proofs.Words.{all_by, by_master, if_master, IsHalf}
use Rattle.rk_inv_rows.proofs.split.Splitting.{split_row, Splitting, Halved, row, unknown_new, at_most_row, low_half_of, high_half_of}
use Rattle.rk_inv_rows.proofs.split.Splitting.{Serves, IsOfHalves, post_now, half_met, no_owner, new_apart, by}
use Rattle.rk_message.specs.declared.message.Body.TheVariants as bodies

module _ (v : View) (cut : Splitting v) (after : Halved v cut) where
  open cut use {tablet, range, term, owner, from, at, new, sound, has_row}
  open after use {handovers', completions', pullings', gathers', merged', completions_away, pullings_away, gathers_away, merged_away}

  -- neither half has a mark
  pub no_mark : (Q : Mark → Type 0) (q n : ℕ) → IsOfHalves v cut n → All (λ mark. mark.tablet ≡ n → Q mark) (v.written q).marks
  no_mark Q q n its = grind (arith, all_by, row, split_row, unknown_new, row_of)

  -- ---- messages

  abbrev pub SaysNow : Row → Node → Node → Body → Type 0
  SaysNow x = SaysOf x v.logs v.written v.stored handovers' completions' merged' v.live v.handed

  abbrev pub SaysBefore : Row → Node → Node → Body → Type 0
  SaysBefore x = SaysOf x v.logs v.written v.stored v.handovers v.completions v.merged v.live v.handed

  -- a half by its number and its range
  module _ (n : ℕ) (r : Range) (is_half : IsHalf range r) (which : IsOfHalves v cut n) where
    abbrev half : Row
    half = record { tablet = n; range = r; term = term + 1; phase = Owned owner from }

    -- what speaks of the half's number spoke of the row, at most at its term
    abbrev pub SpokeOf : Tenure → Type 0
    SpokeOf tenure = tenure.tablet ≡ n → (tenure.tablet ≡ tablet) × (n ≡ tablet) × (tenure.term ≤ term)

    gone : (tenure : Tenure) → SpokeOf tenure → IsOf half tenure → ⊥
    gone tenure spoke is = let few = (spoke is.tablet).2 in let at_it = is.term in omega (arith, few, at_it)

    rises : (q : ℕ) → n ≡ tablet → (v.handovers q tablet).term ≤ (handovers' q n).term
    rises q its =
        by v cut after (λ h. (v.handovers q tablet).term ≤ h.term) q n
        (λ _. let same = ap (λ (m : ℕ). (v.handovers q m).term) its in omega (arith, same))
        (λ _ _. let few = at_most_row v cut q in omega (arith, few)) (λ _ too. absurd (new_apart v cut (sym too ∙ its)))

    kept_old : (q : ℕ) → n ≡ tablet → (handovers' q n).term ≤ term → handovers' q n ≡ v.handovers q tablet
    kept_old q its =
        by v cut after (λ h. h.term ≤ term → h ≡ v.handovers q tablet) q n (λ _ few. ap (v.handovers q) its) (λ _ _ few. absurd (omega (arith, few)))
        (λ _ too few. absurd (new_apart v cut (sym too ∙ its)))

    no_heir : (q own t : ℕ) → IsOnlyRebuilder (post_now v cut q) → ⊥
    no_heir q own t = cond_both (eqb owner q) (Owner from) Bystander (λ post. IsOnlyRebuilder post → ⊥) (λ e it. it) (λ e it. it)

    owner_still : (q own t t' : ℕ) → IsOwner (post_now v cut q) own t → IsOwner (post_now v cut q) own t'
    owner_still q own t t' =
        cond_both (eqb owner q) (Owner from) Bystander (λ post. IsOwner post own t → IsOwner post own t') (λ e it. tt) (λ e it. absurd it)

    only_owner : (q : ℕ) → is_member (record { master = owner; from = from } ∷ []) q ≡ true → owner ≡ q
    only_owner q inside =
        ⊎_elim (λ (same : owner ≡ q). same) (λ (apart : owner ≡ q → ⊥). absurd (no_owner v cut q (ne_eqb owner q apart) inside)) (cases_eq owner q)

    -- a living owner has the half
    at_half : (P : Handover → Type 0) (q : ℕ) → Serves v cut q → (n ≡ tablet → P (low_half_of v cut q)) → (n ≡ new → P (high_half_of v cut q)) → P (handovers' q n)
    at_half P q serves first second =
        by v cut after P q n (λ unlike. absurd (⊎_elim (unlike serves).0 (unlike serves).1 which)) (λ _ its. first its) (λ _ its. second its)

    prepare_half : (q : ℕ) (prepare : Prepare) → SpokeOf prepare.tenure → PrepareFits (row v cut) (v.handovers q tablet) (v.live q) q prepare → PrepareFits half (handovers' q n) (v.live q) q prepare
    prepare_half q prepare spoke fits = record {
      range = λ is. absurd (gone prepare.tenure spoke is);
      invited = λ is. absurd (gone prepare.tenure spoke is);
      members = λ asks lives inside.
          let asked : AsksFor prepare (row v cut) =
          ⊎_elim (λ (e : prepare.tenure.tablet ≡ n). inl (spoke e).0) (λ (met : meets r prepare.range ≡ true). inr (half_met v cut r prepare.range is_half met)) asks in
          let was = fits.members asked lives inside in
          let few = at_most_row v cut q in
          at_half (λ h. prepare.tenure.term ≤ h.term) q (lives, sym (only_owner q inside)) (λ _. omega (arith, was, few)) (λ _. omega (arith, was, few));
    }

    close_half : (q : ℕ) (tenure : Tenure) → SpokeOf tenure → CloseFits (row v cut) (v.handovers q tablet) (v.live q) q tenure → CloseFits half (handovers' q n) (v.live q) q tenure
    close_half q tenure spoke fits = record {
      source = λ is. absurd (gone tenure spoke is);
      may_follow = λ its lives less.
          let of = spoke its in
          let few = of.2 in
          let same = kept_old q of.1 (omega (arith, less, few)) in
          let follows = fits.may_follow of.0 lives (rw (← same) less) in
          absurd (⊎_elim (λ (now : (tenure.term ≡ term) × ⊥). now.1)
          (λ (heir : (tenure.term < term) × IsOnlyRebuilder (post_now v cut q)). no_heir q 0 0 heir.1) follows);
    }

    own_half : (q : ℕ) (tenure : Tenure) → SpokeOf tenure → OwnFits (row v cut) (v.handovers q tablet) (v.live q) q tenure → OwnFits half (handovers' q n) (v.live q) q tenure
    own_half q tenure spoke fits = record {
      owned = λ is. absurd (gone tenure spoke is);
      reached = λ its lives.
          let of = spoke its in let was = fits.reached of.0 lives in let more = rises q of.1 in omega (arith, was, more);
      owner = λ its lives is.
          let of = spoke its in
          let few = of.2 in
          let same = kept_old q of.1 (omega (arith, is, few)) in
          rw same
          (owner_still q (v.handovers q tablet).term term (term + 1) (fits.owner of.0 lives (sym (ap (λ (h : Handover). h.term) same) ∙ is)));
    }

    release_half : (q : ℕ) (tenure : Tenure) → SpokeOf tenure → ReleaseFits (row v cut) (v.handovers q tablet) (v.live q) q tenure → ReleaseFits half (handovers' q n) (v.live q) q tenure
    release_half q tenure spoke fits = record {
      owned = λ is. absurd (gone tenure spoke is);
      outside = λ its lives less.
          let of = spoke its in
          let few = of.2 in
          let same = kept_old q of.1 (omega (arith, less, few)) in
          fits.outside of.0 lives (rw (← same) less);
    }

    rebuild_half : (q : ℕ) (rebuild : Rebuild) → SpokeOf rebuild.tenure → RebuildFits (row v cut) (v.handovers q tablet) (v.live q) q rebuild → RebuildFits half (handovers' q n) (v.live q) q rebuild
    rebuild_half q rebuild spoke fits = record {
      range = λ is. absurd (gone rebuild.tenure spoke is);
      lineage = λ is. absurd (gone rebuild.tenure spoke is);
      ordered = λ its lives less.
          let of = spoke its in
          let few = of.2 in
          let same = kept_old q of.1 (omega (arith, less, few)) in
          let ordered = fits.ordered of.0 lives (rw (← same) less) in
          absurd (ordered.1);
    }

    grant_half : (q : ℕ) (grant : Grant) → SpokeOf grant.tenure → GrantAgrees (row v cut) (v.handovers q tablet) (v.live q) (get v.handed tablet) q grant → GrantAgrees half (handovers' q n) (v.live q) (get v.handed n) q grant
    grant_half q grant spoke fits = record {
      reached = λ its lives.
          let of = spoke its in let was = fits.reached of.0 lives in let more = rises q of.1 in omega (arith, was, more);
      told = λ its lives is wants.
          let of = spoke its in
          let few = of.2 in
          let same = kept_old q of.1 (omega (arith, is, few)) in
          fits.told of.0 lives (is ∙ ap (λ (h : Handover). h.term) same) (sym (ap (λ (h : Handover). is_wanting h.role) same) ∙ wants);
    }

    pub says_half : (src to : Node) (body : Body) → IfSome (tenure_in body) SpokeOf → SaysBefore (row v cut) src to body → SaysNow half src to body
    says_half src to (bodies.Prepare prepare) spoke says = if_master to _ _ (λ q. prepare_half q prepare spoke) says
    says_half src to (bodies.Ready ready) spoke says = by_master src _ _ (λ q said is. absurd (gone ready.tenure spoke is)) says
    says_half src to (bodies.Close tenure) spoke says = if_master to _ _ (λ q. close_half q tenure spoke) says
    says_half src to (bodies.Transfer transfer) spoke says = by_master src _ _ (λ q said is. absurd (gone transfer.tenure spoke is)) says
    says_half src to (bodies.Grant grant) spoke says = (
      λ is. tt,
      if_master to _ _ (λ q. grant_half q grant spoke) says.1,
    )
    says_half src to (bodies.Pull pull) spoke says = (λ is. tt, by_master src _ _ (λ q said. tt) says.1)
    says_half src to (bodies.Pulled pulled) spoke says = (λ is. tt, if_master to _ _ (λ q said. tt) says.1)
    says_half src to (bodies.Want want) spoke says = (λ is. tt, by_master src _ _ (λ q said. tt) says.1)
    says_half src to (bodies.Got got) spoke says = (λ is. tt, if_master to _ _ (λ q said. tt) says.1)
    says_half src to (bodies.Joined tenure) spoke says = by_master src _ _ (λ q said is. absurd (gone tenure spoke is)) says
    says_half src to (bodies.Own tenure) spoke says = if_master to _ _ (λ q. own_half q tenure spoke) says
    says_half src to (bodies.Release tenure) spoke says = if_master to _ _ (λ q. release_half q tenure spoke) says
    says_half src to (bodies.Rebuild rebuild) spoke says = if_master to _ _ (λ q. rebuild_half q rebuild spoke) says
    says_half src to (bodies.Read read) spoke says = λ is. tt
    says_half src to (bodies.Copy copy) spoke says = λ is. tt
    says_half src to (bodies.Rebuilt rebuilt) spoke says = by_master src _ _ (λ q said is. absurd (gone rebuilt.tenure spoke is)) says
    says_half src to _ spoke says = tt
