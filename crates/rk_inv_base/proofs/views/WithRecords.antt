-- The law of records: a view stays sound with other records of masters, and with other things that they pulled and gathered, if these fit
-- as before whoever has all of a tablet, a target, a master that made ready, and a master that rebuilds.
use Rattle.rk_inv_base.proofs.Words.{◌≡◌, ℕ, true, List, [], ◌∷◌, refl, All, Contains, Gather, get, Held, Member, IsInScanOrder, lineage_of}
use Rattle.rk_inv_base.proofs.Words.{Phase, Rebuilding, Row, Pulling, IsItemWithin, post_of, MembersFit, is_granted, HasItems}
use Rattle.rk_inv_base.proofs.Words.{has_all_items, View, truths, SoundView, Contains-get_or}
use Rattle.rk_inv_base.proofs.Base.{IsBareOf, IsTargetIn, IsRebuilderIn, IsRebuiltIn}

-- a target of a row, by what it pulls and its records in a view
abbrev pub IsTargetOf : View → View → Row → Member → Member → Type 0
IsTargetOf v now row source target =
    IsTargetIn v.written row source target (v.handovers target.master row.tablet) (now.pullings target.master row.tablet)
    (get v.handed row.tablet) (now.records target.master)

-- a master that rebuilds a row, by what it gathered, and by its records
abbrev pub RebuildsBy : View → Row → List Member → ℕ → Gather → List Held → Type 0
RebuildsBy v row lineage to gather records =
    IsRebuilderIn v.logs v.written v.stored row lineage to (truths v row) (v.handovers to row.tablet) (v.completions to row.tablet)
    gather (v.merged to row.tablet) records

abbrev pub RebuildsWith : View → Row → List Member → ℕ → List Held → Type 0
RebuildsWith v row lineage to records = RebuildsBy v row lineage to (v.gathers to row.tablet) records

-- what masters keep beside their logs may be replaced if it goes on to fit each row
pub record MayKeep (v : View) (records : ℕ → List Held) (pullings : ℕ → ℕ → Pulling) (gathers : ℕ → ℕ → Gather) : Type 0 where
  pub within : (q : ℕ) → All (IsItemWithin v.rows) (records q)
  pub ordered : (q : ℕ) → IsInScanOrder (records q)
  pub items :
      (q : ℕ) → v.live q ≡ true → (row : Row) → Contains v.rows row
      → has_all_items (post_of row.phase q) (v.handovers q row.tablet) row.term ≡ true
      → HasItems row v.written (v.records q) → HasItems row v.written (records q)
  pub targets :
      (row : Row) → Contains v.rows row → (source target : Member) → lineage_of row.phase ≡ source ∷ target ∷ []
      → is_granted (v.handovers target.master row.tablet).role ≡ true → IsTargetOf v v row source target
      → IsTargetOf v (record v { records = records; pullings = pullings }) row source target
  pub bare :
      (q number : ℕ) → IsBareOf (v.handovers q number) (v.written q) (v.records q)
      → IsBareOf (v.handovers q number) (v.written q) (records q)
  pub rebuilders :
      (row : Row) → Contains v.rows row → (lineage : List Member) (to : ℕ) → row.phase ≡ Rebuilding lineage to
      → (v.handovers to row.tablet).term ≡ row.term → RebuildsWith v row lineage to (v.records to)
      → RebuildsBy v row lineage to (gathers to row.tablet) (records to)

module _ (v : View) (records : ℕ → List Held) (pullings : ℕ → ℕ → Pulling) (gathers : ℕ → ℕ → Gather) (sound : SoundView v) (may : MayKeep v records pullings gathers) where
  abbrev now : View
  now = record v { records = records; pullings = pullings; gathers = gathers }

  members : (row : Row) → Contains v.rows row → (lineage : List Member) → lineage_of row.phase ≡ lineage → MembersFit row v.written v.handovers v.pullings v.records v.handed lineage → MembersFit row v.written v.handovers pullings records v.handed lineage
  members row has (source ∷ target ∷ []) is fit = λ granted. may.targets row has source target is granted (fit granted)
  members row has _ is fit = tt

  rebuilt : (row : Row) → Contains v.rows row → (phase : Phase) → row.phase ≡ phase → IsRebuiltIn v row phase → IsRebuiltIn now row phase
  rebuilt row has (Rebuilding lineage to) is fit = (λ term. may.rebuilders row has lineage to is term (fit.0 term), fit.1)
  rebuilt row has _ is fit = tt

  pub view_with_kept : SoundView now
  view_with_kept =
      let items : (q : ℕ) → v.live q ≡ true → All (λ row. has_all_items (post_of row.phase q) (v.handovers q row.tablet) row.term ≡ true → HasItems row v.written (records q)) v.rows = λ q lives k d within all.
      may.items q lives _ (Contains-get_or v.rows k d within) all (sound.records.items q lives k d within all) in
      let targets : All (λ row. MembersFit row v.written v.handovers pullings records v.handed (lineage_of row.phase)) v.rows = λ k d within.
      members _ (Contains-get_or v.rows k d within) _ refl (sound.receives.targets k d within) in
      let rebuilds : All (λ row. IsRebuiltIn now row row.phase) v.rows = λ k d within.
      rebuilt _ (Contains-get_or v.rows k d within) _ refl (sound.rebuilds.rebuilt k d within) in
      assumption (λ (q number : ℕ). may.bare q number (sound.receives.bare q number))

-- if nothing else changes, only targets see what is pulled
pub view_with_pullings : (v : View) (pullings : ℕ → ℕ → Pulling) → SoundView v → ((row : Row) → Contains v.rows row → (source target : Member) → lineage_of row.phase ≡ source ∷ target ∷ [] → is_granted (v.handovers target.master row.tablet).role ≡ true → IsTargetOf v v row source target → IsTargetOf v (record v { pullings = pullings }) row source target) → SoundView (record v { pullings = pullings })
view_with_pullings v pullings sound targets = view_with_kept v v.records pullings v.gathers sound (assumption)

-- and only those who rebuild see what is gathered
pub view_with_gathers : (v : View) (gathers : ℕ → ℕ → Gather) → SoundView v → ((row : Row) → Contains v.rows row → (lineage : List Member) (to : ℕ) → row.phase ≡ Rebuilding lineage to → (v.handovers to row.tablet).term ≡ row.term → RebuildsWith v row lineage to (v.records to) → RebuildsBy v row lineage to (gathers to row.tablet) (v.records to)) → SoundView (record v { gathers = gathers })
view_with_gathers v gathers sound rebuilders = view_with_kept v v.records v.pullings gathers sound (assumption)
