-- If a living master serves a tablet, the row of that tablet ends its lineage with it, and has the range that is served: it is the only
-- member and has all items, or it was granted the tablet by the first of two. So calls for a key of the range are answered by it.
use Rattle.std.proofs.Common.{arith, List, Option, Some, [], ap, inl, inr, lt-ltb, refl, true, unwrap_or, ℕ, ◌∙◌, ◌∷◌, ◌≡◌, ◌⊎◌}
use Rattle.rk_tablet_map.specs.Phase.{member as member_at}
use Rattle.rk_inv_base.proofs.Words.{Handover, IsFormed, IsInOrder, IsMaster, IsWellFormed, LastRebuilder, Member, MovingTarget}
use Rattle.rk_inv_base.proofs.Words.{OnlyRebuilder, OpeningSource, Owner, Phase, Post, Role, Tablet, World, and_parts, get, has_all_items}
use Rattle.rk_inv_base.proofs.Words.{has_key, is_granted, is_serving, last_of, lineage_of, master_at, no_tablet, post_of, IsSound, lives}
use Rattle.rk_inv_base.proofs.Words.{serving, tablet_in, view}
use Rattle.rk_inv_events.proofs.Words.{IsServed, SoundRow, find_is_got, last_member, master_of, present, row_in, serves_key, find_passes}
use Rattle.rk_inv_events.proofs.events.PostsOf.{Fits, HasPost, Serves, gives, has_post, last_heir, only_heir, owns, serves_in, takes}
use Rattle.rk_inv_events.proofs.events.RowsApart.{has_row}

-- a lineage ends with this master
pub record EndsWith (lineage : List Member) (master : ℕ) : Type 0 where
  pub last : Member
  pub is_last : last_of lineage ≡ Some last
  pub here : last.master ≡ master

-- the master of a post is the only one of a lineage, and has all items
pub record HasAll (lineage : List Member) (post : Post) (handover : Handover) (term : ℕ) : Type 0 where
  pub only : Member
  pub lineage_is : lineage ≡ only ∷ []
  pub all : has_all_items post handover term ≡ true

-- a master is the second one of a lineage, and was granted the tablet
pub record WasGranted (lineage : List Member) (master : ℕ) (role : Role) : Type 0 where
  pub first : Member
  pub last : Member
  pub lineage_is : lineage ≡ first ∷ last ∷ []
  pub here : last.master ≡ master
  pub granted : is_granted role ≡ true

module _ (handover : Handover) (term applied : ℕ) (serves : is_serving handover.role ≡ true) where
  -- a master serves in a post, with these members
  abbrev ServesAs : List Member → ℕ → Post → Type 0
  ServesAs lineage master post = EndsWith lineage master × (HasAll lineage post handover term ⊎ WasGranted lineage master handover.role)

  pub serves_as : (phase : Phase) (master : ℕ) → IsFormed phase → Fits (post_of phase master) handover.role term handover.term applied
      → ServesAs (lineage_of phase) master (post_of phase master)
  serves_as phase master formed fits =
      go (has_post phase master) formed (serves_in (post_of phase master) handover.role term handover.term applied fits serves)
    where
      alone : (only : Member) (post : Post) → only.master ≡ master → has_all_items post handover term ≡ true → ServesAs (only ∷ []) master post
      alone only post here all = (record { last = only; is_last = refl; here = here }, inl (record { only = only; lineage_is = refl; all = all }))

      second : (first last : Member) (post : Post) → last.master ≡ master → is_granted handover.role ≡ true → ServesAs (first ∷ last ∷ []) master post
      second first last post here granted = (
        record { last = last; is_last = refl; here = here },
        inr (record { first = first; last = last; lineage_is = refl; here = here; granted = granted }),
      )

      go : {p : Phase} {post : Post} → HasPost master p post → IsFormed p → Serves post handover.role term handover.term
          → ServesAs (lineage_of p) master post
      go (owns from) formed its = alone (member_at master from) (Owner from) refl refl
      go (gives sfrom target dfrom) formed its = alone (member_at master sfrom) OpeningSource refl refl
      go (takes source sfrom dfrom) formed its = second (member_at source sfrom) (member_at master dfrom) (MovingTarget dfrom) refl its
      go (only_heir only here) formed its = alone only (OnlyRebuilder only.from) here (lt-ltb handover.term term its)
      go (last_heir first last [] here) formed its = second first last (LastRebuilder last.from) here its.0
      go (last_heir first last (other ∷ more) here) formed its = absurd formed
      go _ formed its = absurd its

-- a living master serves a key by the tablet of this number: calls for it are answered there, and the tablet's completions are in order
pub record IsServedAt (w : World) (master table : ℕ) (key : List ℕ) (number : ℕ) (tablet : Tablet) : Type 0 where
  pub served : IsServed w.coordinator.rows ((view w).handovers master) ((view w).live master) master table key
  pub number_is : served.row.tablet ≡ number
  pub tablet_is : tablet_in w master served.row.tablet ≡ tablet
  pub order : IsInOrder tablet.completions

pub served_at : (w : World) (master table : ℕ) (key : List ℕ) (number : ℕ) (tablet : Tablet) → IsSound w → IsWellFormed w
    → IsMaster w.coordinator.masters master → lives w master ≡ true → serving (master_at w master) table key ≡ Some (number, tablet)
    → IsServedAt w master table key number tablet
served_at w master table key number tablet sound formed there alive found =
    let v = view w in
    let own = master_of w master there formed in
    let got : get (master_at w master).tablets number ≡ Some tablet =
    find_is_got (λ entry. serves_key table key entry.1) (master_at w master).tablets (number, tablet) own.tablets_order found in
    let passes : serves_key table key tablet ≡ true =
    find_passes (λ entry. serves_key table key entry.1) (master_at w master).tablets (number, tablet) found in
    let parts = and_parts (is_serving tablet.handover.role) (has_key tablet.handover.range table key) passes in
    let is : tablet_in w master number ≡ tablet = ap (λ (o : Option Tablet). unwrap_or o no_tablet) got in
    let its =
    has_row v.rows number
    (sound.roles.known master number alive
    (present (v.handovers master number).role (ap (λ (t : Tablet). is_serving t.handover.role) is ∙ parts.0))) in
    let row : SoundRow v its.row = row_in v sound its.row its.stands in
    let here : tablet_in w master its.row.tablet ≡ tablet = ap (tablet_in w master) its.tablet_is ∙ is in
    let serves : is_serving (v.handovers master its.row.tablet).role ≡ true =
    ap (λ (t : Tablet). is_serving t.handover.role) here ∙ parts.0 in
    let ends : EndsWith (lineage_of its.row.phase) master =
    (serves_as (v.handovers master its.row.tablet) its.row.term (v.written master).applied serves its.row.phase master row.rows.formed
    (row.roles.fitting master (inl alive))).0 in
    let range = row.roles.ranged master (inl alive) (last_member (lineage_of its.row.phase) ends.last master ends.is_last ends.here) in
    record {
      served = record {
        lives = alive;
        row = its.row;
        has_row = its.stands;
        in_row = grind (arith, has_key, parts.1);
        last = ends.last;
        is_last = ends.is_last;
        here = ends.here;
        serves = serves;
      };
      number_is = its.tablet_is;
      tablet_is = here;
      order = (own.tablets number tablet got).order;
    }
