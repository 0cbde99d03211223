-- What the coordinator makes of its rows: a row that moves comes to be owned by nothing but the Joined of its target.
use Rattle.std.proofs.Common.{arith, ◌≡◌, ◌==◌, ℕ, Bool, true, false, cond, eqb, List, [], ◌∷◌, Option, Some, None, ◌⊎◌, ◌++◌, refl, sym}
use Rattle.std.proofs.Common.{ap, subst, ◌∙◌, ⊎_elim, inl, inr, fold, IfSome, All, Contains, eq-eqb, eqb-true}
use Rattle.rk_inv_base.proofs.Words.{cases_Bool, cond_both, false≢true, All-contains, All-map, Member, number_of, IsTabletMap, changed_rows}
use Rattle.rk_inv_base.proofs.Words.{replaced, row_of, Phase, Moving, Owned, Rebuilding, Row, Ready, Tenure, Transfer, Body}
use Rattle.rk_inv_base.proofs.Words.{Rebuilt, Coordinator, is_noticed, row_tenure, Coordinated, about, answered, at_term, joined_in, own_to}
use Rattle.rk_inv_base.proofs.Words.{place_noted, question, ready_in, rebuilt_in, release_to, report, row_for, row_moved, row_owned}
use Rattle.rk_inv_base.proofs.Words.{transfer_in, unanswered, notice_one, phase_noticed, row_noticed, row_at}
use Rattle.rk_inv_rows.proofs.Words.{turned, same_number, all_by, found_stands, stood}
use Rattle.rk_message.specs.declared.message.Body.TheVariants as bodies

-- whether a phase is that of a row that is owned
abbrev pub is_owned : Phase → Bool
is_owned (Owned owner from) = true
is_owned phase = false

-- the row of a tablet is not owned
abbrev pub IsUnowned : ℕ → Row → Type 0
IsUnowned tablet row = row.tablet ≡ tablet → is_owned row.phase ≡ false

-- no row of a tablet is owned
abbrev pub AreUnowned : ℕ → List Row → Type 0
AreUnowned tablet rows = All (IsUnowned tablet) rows

-- ---- a row is at another phase

pub unowned_changed : (tablet : ℕ) (rows : List Row) (number term : ℕ) (phase : Phase) → AreUnowned tablet rows
    → (number ≡ tablet → is_owned phase ≡ false) → AreUnowned tablet (changed_rows rows number term phase)
unowned_changed tablet rows number term phase all new = go (row_of rows number) refl
  where
    go : (it : Option Row) → row_of rows number ≡ it → AreUnowned tablet (turned it rows number term phase)
    go None is = all
    go (Some old) is =
        all_by _ (replaced number (row_at old term phase) rows)
        (λ x at.
        ⊎_elim
        (λ (e : x ≡ row_at old term phase).
        subst (IsUnowned tablet) (sym e) (λ same. new (sym (number_of rows number old is) ∙ same)))
        (λ (before : Contains rows x). All-contains (IsUnowned tablet) rows x all before)
        (stood rows number (row_at old term phase) x at))

-- ---- a crash is noticed

-- no row is owned by that
noticed_phase : (coordinator : Coordinator) (dead : ℕ) (phase : Phase) → IfSome (phase_noticed coordinator dead phase) (λ new. is_owned new ≡ false)
noticed_phase coordinator dead phase = grind (arith, cond_both)

noticed_row : (tablet : ℕ) (row : Row) (new : Option Phase) → IfSome new (λ phase. is_owned phase ≡ false) → IsUnowned tablet row
    → IsUnowned tablet (row_noticed row new)
noticed_row tablet row None new was = was
noticed_row tablet row (Some phase) new was = λ same. new

unowned_noticed : (tablet : ℕ) (coordinator : Coordinator) (dead : ℕ) → AreUnowned tablet coordinator.rows → AreUnowned tablet (notice_one coordinator dead).rows
unowned_noticed tablet coordinator dead all =
    let marked : Coordinator = record coordinator { noticed = coordinator.noticed ++ dead ∷ [] } in
    All-map (IsUnowned tablet) (λ (r : Row). row_noticed r (phase_noticed marked dead r.phase)) coordinator.rows
    (all_by (λ (r : Row). IsUnowned tablet (row_noticed r (phase_noticed marked dead r.phase))) coordinator.rows
    (λ r at.
    noticed_row tablet r (phase_noticed marked dead r.phase) (noticed_phase marked dead r.phase)
    (All-contains (IsUnowned tablet) coordinator.rows r all at)))

pub unowned_all_noticed : (tablet : ℕ) (coordinator : Coordinator) (order : List ℕ) → AreUnowned tablet coordinator.rows
    → AreUnowned tablet (fold notice_one coordinator order).rows
unowned_all_noticed tablet coordinator [] all = all
unowned_all_noticed tablet coordinator (dead ∷ order) all =
    unowned_all_noticed tablet (notice_one coordinator dead) order (unowned_noticed tablet coordinator dead all)

-- ---- the coordinator takes a message

module _ (coordinator : Coordinator) (row : Row) (source target : Member) (apart : IsTabletMap coordinator.rows) (found : row_of coordinator.rows row.tablet ≡ Some row) (moving : row.phase ≡ Moving source.master source.from target.master target.from) where
  -- a row of its number is the row
  is_row : (r : Row) → Contains coordinator.rows r → r.tablet ≡ row.tablet → r ≡ row
  is_row r at same = same_number coordinator.rows r row apart at (found_stands coordinator.rows row.tablet row found) same

  phase_of : (r : Row) → Contains coordinator.rows r → r.tablet ≡ row.tablet → r.phase ≡ Moving source.master source.from target.master target.from
  phase_of r at same = ap (λ (x : Row). x.phase) (is_row r at same) ∙ moving

  pub unowned : AreUnowned row.tablet coordinator.rows
  unowned = all_by (IsUnowned row.tablet) coordinator.rows (λ r at same. ap is_owned (phase_of r at same))

  -- what a master sent is the target's Joined, of the row's term, and the target was not noticed dead
  pub record IsJoined (sender : ℕ) (body : Body) : Type 0 where
    pub sender_is : sender ≡ target.master
    pub body_is : body ≡ bodies.Joined (row_tenure row)
    pub heard : is_noticed coordinator target.master ≡ false

  abbrev Stays : Coordinated → Type 0
  Stays made = AreUnowned row.tablet made.coordinator.rows

  at_phase : (r : Row) (phase : Phase) → is_owned phase ≡ false → AreUnowned row.tablet (changed_rows coordinator.rows r.tablet r.term phase)
  at_phase r phase free = unowned_changed row.tablet coordinator.rows r.tablet r.term phase unowned (λ same. free)

  ready_stays : (sender : ℕ) (ready : Ready) (r : Row) (phase : Phase) → Stays (ready_in coordinator sender ready r phase)
  ready_stays sender ready r phase = grind (arith, cond_both, unanswered, place_noted, at_phase, unowned)

  transfer_stays : (sender : ℕ) (transfer : Transfer) (r : Row) (phase : Phase) → Stays (transfer_in coordinator sender transfer r phase)
  transfer_stays sender transfer r phase = grind (arith, cond_both, unanswered, row_moved, at_phase, unowned)

  rebuilt_stays : (sender : ℕ) (rebuilt : Rebuilt) (r : Row) → Contains coordinator.rows r → (phase : Phase) → r.phase ≡ phase → Stays (rebuilt_in coordinator sender rebuilt r phase)
  rebuilt_stays sender rebuilt r at (Rebuilding lineage to) is =
      cond_both (sender == to)
      (record { coordinator = row_owned coordinator r to rebuilt.place; sends = own_to to r ∷ []; rebuilt = Some rebuilt }) (unanswered coordinator) Stays
      (λ e.
      unowned_changed row.tablet coordinator.rows r.tablet r.term (Owned to rebuilt.place) unowned
      (λ same.
      let moves : Rebuilding lineage to ≡ Moving source.master source.from target.master target.from = sym is ∙ phase_of r at same in
      absurd (cc moves)))
      (λ e. unowned)
  rebuilt_stays sender rebuilt r at (Owned owner from) is = grind (arith, cond_both, answered, own_to, unanswered, unowned)
  rebuilt_stays sender rebuilt r at _ is = unowned

  -- what was reported of a row at its term
  record IsAbout (sender : ℕ) (tenure : Tenure) (r : Row) : Type 0 where
    pub stands : Contains coordinator.rows r
    pub tablet_is : r.tablet ≡ tenure.tablet
    pub term_is : r.term ≡ tenure.term
    pub heard : is_noticed coordinator sender ≡ false

  about_row : (sender : ℕ) (tenure : Tenure) (taken : Row → Coordinated) (Takes : Type 0) → ((r : Row) → IsAbout sender tenure r → Stays (taken r) ⊎ Takes)
      → Stays (about coordinator taken (row_for coordinator sender tenure)) ⊎ Takes
  about_row sender tenure taken Takes each = go (is_noticed coordinator sender) (row_of coordinator.rows tenure.tablet) refl refl
    where
      by_term : (r : Row) → row_of coordinator.rows tenure.tablet ≡ Some r → is_noticed coordinator sender ≡ false → (same : Bool) → (r.term == tenure.term) ≡ same
          → Stays (about coordinator taken (cond same (Some r) None)) ⊎ Takes
      by_term r its heard true same =
          each r (record {
            stands = found_stands coordinator.rows tenure.tablet r its;
            tablet_is = number_of coordinator.rows tenure.tablet r its;
            term_is = eqb-true r.term tenure.term same;
            heard = heard;
          })
      by_term r its heard false same = inl unowned

      go : (noticed : Bool) (it : Option Row) → is_noticed coordinator sender ≡ noticed → row_of coordinator.rows tenure.tablet ≡ it
          → Stays (about coordinator taken (cond noticed None (at_term tenure it))) ⊎ Takes
      go false (Some r) heard its = by_term r its heard (r.term == tenure.term) refl
      go _ _ heard its = inl unowned

  -- a Joined that makes a moving row owned is the one of the row, or the row is another
  joined_moving : (sender : ℕ) (tenure : Tenure) (r : Row) → IsAbout sender tenure r → (giver gfrom taker tfrom : ℕ) → r.phase ≡ Moving giver gfrom taker tfrom → sender ≡ taker
      → AreUnowned row.tablet (changed_rows coordinator.rows r.tablet r.term (Owned taker tfrom)) ⊎ IsJoined sender (bodies.Joined tenure)
  joined_moving sender tenure r its giver gfrom taker tfrom is by =
      ⊎_elim
      (λ (e : eqb r.tablet row.tablet ≡ true).
      let same : r.tablet ≡ row.tablet = eqb-true r.tablet row.tablet e in
      let phases : Moving giver gfrom taker tfrom ≡ Moving source.master source.from target.master target.from = sym is ∙ phase_of r its.stands same in
      let takes : taker ≡ target.master = cc phases in
      let number : tenure.tablet ≡ row.tablet = sym its.tablet_is ∙ same in
      let term : tenure.term ≡ row.term = sym its.term_is ∙ ap (λ (x : Row). x.term) (is_row r its.stands same) in
      inr (record {
        sender_is = by ∙ takes;
        body_is = λ i. bodies.Joined (record { tablet = number i; term = term i });
        heard = rw (← (by ∙ takes)) its.heard;
      }))
      (λ (e : eqb r.tablet row.tablet ≡ false).
      inl
      (unowned_changed row.tablet coordinator.rows r.tablet r.term (Owned taker tfrom) unowned
      (λ same. absurd (false≢true (sym e ∙ eq-eqb r.tablet row.tablet same)))))
      (cases_Bool (eqb r.tablet row.tablet))

  joined_stays : (sender : ℕ) (tenure : Tenure) (r : Row) → IsAbout sender tenure r → (phase : Phase) → r.phase ≡ phase
      → Stays (joined_in coordinator sender r phase) ⊎ IsJoined sender (bodies.Joined tenure)
  joined_stays sender tenure r its (Moving giver gfrom taker tfrom) is =
      cond_both (sender == taker) (answered (row_owned coordinator r taker tfrom) (own_to taker r ∷ release_to giver r ∷ [])) (unanswered coordinator)
      (λ made. Stays made ⊎ IsJoined sender (bodies.Joined tenure)) (λ e. joined_moving sender tenure r its giver gfrom taker tfrom is (eqb-true sender taker e))
      (λ e. inl unowned)
  joined_stays sender tenure r its (Owned owner from) is = grind (arith, cond_both, answered, own_to, unanswered, unowned)
  joined_stays sender tenure r its _ is = inl unowned

  -- what a master sent
  pub reported : (sender : ℕ) (body : Body) → Stays (report coordinator sender body) ⊎ IsJoined sender body
  reported sender (bodies.Ready ready) =
      about_row sender ready.tenure (λ r. ready_in coordinator sender ready r r.phase) _ (λ r its. inl (ready_stays sender ready r r.phase))
  reported sender (bodies.Transfer transfer) =
      about_row sender transfer.tenure (λ r. transfer_in coordinator sender transfer r r.phase) _
      (λ r its. inl (transfer_stays sender transfer r r.phase))
  reported sender (bodies.Joined tenure) = search (about_row, joined_in, joined_stays)
  reported sender (bodies.Rebuilt rebuilt) =
      about_row sender rebuilt.tenure (λ r. rebuilt_in coordinator sender rebuilt r r.phase) _
      (λ r its. inl (rebuilt_stays sender rebuilt r its.stands r.phase refl))
  reported sender body = inl unowned

  -- what a client sent
  pub asked : (client : ℕ) (body : Body) → Stays (question coordinator client body)
  asked client (bodies.Lookup lookup) = unowned
  asked client body = unowned
