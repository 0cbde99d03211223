-- A view stays sound when what is pulled of a tablet goes on: no more of the source's items count as arrived than have arrived. The
-- token, the count of batches and the hashes may change; the items that were pulled stay.
use Rattle.rk_inv_base.proofs.Words.{arith, ◌≡◌, ℕ, [], ◌∷◌, sym, ap, ◌∙◌, subst, ⊎_elim, inl, inr, get, Token, Member, passed, lineage_of}
use Rattle.rk_inv_base.proofs.Words.{Row, Hashes, contains, Pulling, GoesOn, IsPulling, source_items, View, SoundView, item_hash, MayGoOn}
use Rattle.rk_inv_base.proofs.Words.{gone_on, pulled, List, refl, cond_both, false≢true, wanting, batched_by, is_receiving, is_joining}
use Rattle.rk_inv_base.proofs.Words.{MayPass, passing}
use Rattle.rk_inv_base.proofs.Base.{same_number, put2_by, IsTargetIn}
use Rattle.rk_inv_base.proofs.views.WithRecords.{view_with_pullings}

module _ (v : View) (token : Pulling → Token) (batches : Pulling → ℕ) (hashes : Pulling → Hashes) (row : Row) (source target : Member) where
  -- what was pulled, and what is pulled now
  abbrev old : Pulling
  old = v.pullings target.master row.tablet

  abbrev new : Pulling
  new = gone_on token batches hashes old

  abbrev IsTargetWith : Pulling → Type 0
  IsTargetWith pulling =
      IsTargetIn v.written row source target (v.handovers target.master row.tablet) pulling (get v.handed row.tablet)
      (v.records target.master)

  -- a target goes on
  target_goes_on : GoesOn v row source target new → IsTargetWith old → IsTargetWith new
  target_goes_on goes was = record {
    from_source = was.from_source;
    workers = was.workers;
    pulled = λ joins. let had = was.pulled joins in record { at_end = goes.at_end joins had; sealed = had.sealed };
    received = record {
      within = was.received.within;
      copied = λ item stands arrived.
          ⊎_elim (λ before. was.received.copied item stands before) (λ there. there.copied) (goes.arrived item stands arrived);
      come = was.received.come;
      found = λ item come.
          ⊎_elim (λ own. was.received.found item (inl own))
          (λ of_source.
          ⊎_elim (λ before. was.received.found item (inr (of_source.0, before))) (λ there. there.found)
          (goes.arrived item of_source.0 of_source.1))
          come;
    };
    above = was.above;
    told = was.told;
    early = was.early;
    closing = was.closing;
  }

module _ (v : View) (master number : ℕ) (token : Pulling → Token) (batches : Pulling → ℕ) (hashes : Pulling → Hashes) (sound : SoundView v) (may : MayGoOn v master number (gone_on token batches hashes)) where
  abbrev change : Pulling → Pulling
  change = gone_on token batches hashes

  abbrev now : View
  now = pulled v master number change

  pub view_goes_on : SoundView now
  view_goes_on =
      view_with_pullings v now.pullings sound
      (λ row has source target is granted was.
      put2_by v.pullings master number change (IsTargetWith v token batches hashes row source target) target.master row.tablet
      (λ at its. target_goes_on v token batches hashes row source target (may row source target has at its is) was)
      (λ apart. was))

-- if neither the token changes nor what was resolved, no more counts as arrived
pub none_arrives : (v : View) (master number : ℕ) (batches : Pulling → ℕ) (hashes : Pulling → Hashes) → ((p : Pulling) → (hashes p).resolved ≡ p.hashes.resolved) → MayGoOn v master number (gone_on (λ p. p.token) batches hashes)
none_arrives v master number batches hashes same row source target has at its is = grind (arith, passed, source_items, contains, item_hash)

-- a change that goes on for one row goes on for each, since no other row has the number
pub of_one_row : (v : View) (row : Row) (source target : Member) (change : Pulling → Pulling) → SoundView v → IsPulling v row source target → GoesOn v row source target (change (v.pullings target.master row.tablet)) → MayGoOn v target.master row.tablet change
of_one_row v row source target change sound pulls goes other first last has at its is =
    let same : other ≡ row = same_number v.rows other row sound.rows.apart has pulls.has_row its in
    let members : source ∷ target ∷ [] ≡ first ∷ last ∷ [] = sym pulls.lineage_is ∙ ap (λ (r : Row). lineage_of r.phase) (sym same) ∙ is in
    let source_is : source ≡ first = cc in
    let target_is : target ≡ last = cc in
    rw same (subst (λ (m : Member). GoesOn v row m last (change (v.pullings last.master row.tablet))) source_is
    (subst (λ (m : Member). GoesOn v row source m (change (v.pullings m.master row.tablet))) target_is goes))

-- a hash that is wanted resolves none
pub wanting_resolves : (hashes : Hashes) (hash : ℕ) → (wanting hashes hash).resolved ≡ hashes.resolved
wanting_resolves hashes hash = grind (arith, cond_both)

-- nor does a batch that is asked for
pub batch_resolves : (hashes : Hashes) (batch : List ℕ) → (batched_by hashes batch).resolved ≡ hashes.resolved
batch_resolves hashes [] = refl
batch_resolves hashes (hash ∷ more) = refl

-- what is pulled goes on by a token that the target may pass on to
pub passes_on : (v : View) (row : Row) (source target : Member) (next : Token) → MayPass v row source target next → GoesOn v row source target (passing next (v.pullings target.master row.tablet))
passes_on v row source target next may = grind (arith, false≢true, is_joining, is_receiving)
