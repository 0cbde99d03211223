-- The items among entries, one entry after the other, and the set of their versions.
use Rattle.rk_rebuild.proofs.Words.{arith, ◌≡◌, ℕ, ◌+◌, ◌<◌, true, eqb, List, [], ◌∷◌, ◌++◌, take, length, get_or, refl, sym, ap, ◌∙◌}
use Rattle.rk_rebuild.proofs.Words.{flat_map, list_any, Bor, Held, Entry, lent, HasVersions}
use Rattle.std.specs.BTreeSet.{BTreeSet, Updates}
use Rattle.std.specs.BTreeMap.{is_at}
use Rattle.std.proofs.lemmas.List.{append-nil, take_more}
use Rattle.std.proofs.lemmas.List.Concat.{flat_map-append}
use Rattle.std.proofs.lemmas.List.Folds.{list_any-append}
use Rattle.std.proofs.lemmas.Map.Text.{is_eq-slice_cmp}
use Rattle.rk_rebuild.specs.Versions.{Version, version_cmp}

-- ---- items of entries

-- what entries give, with one more entry
pub given_taken : {X Y : Type 0} (f : X → List Y) (xs : List X) (i : ℕ) (x : X) → i < length xs → x ≡ get_or xs i x
    → flat_map f (take (i + 1) xs) ≡ flat_map f (take i xs) ++ f x
given_taken {X} f xs i x within is =
    ap (flat_map f) (take_more xs i x within ∙ ap (λ (y : X). take i xs ++ y ∷ []) (sym is))
    ∙ flat_map-append f (take i xs) (x ∷ [])
    ∙ ap (λ ys. flat_map f (take i xs) ++ ys) (append-nil (f x))

-- what lent entries give
lent_given : {Y : Type 0} (f : Entry → List Y) (entries : List (Bor Entry)) → flat_map f (lent entries) ≡ flat_map (λ (entry : Bor Entry). f entry.now) entries
lent_given f [] = refl
lent_given f (entry ∷ entries) = ap (λ ys. f entry.now ++ ys) (lent_given f entries)

-- with one more of them
pub lent_taken : {Y : Type 0} (f : Entry → List Y) (entries : List (Bor Entry)) (i : ℕ) (entry : Bor Entry) → i < length entries → entry ≡ get_or entries i entry
    → flat_map f (lent (take (i + 1) entries)) ≡ flat_map f (lent (take i entries)) ++ f entry.now
lent_taken f entries i entry within is =
    lent_given f (take (i + 1) entries)
    ∙ given_taken (λ (it : Bor Entry). f it.now) entries i entry within is
    ∙ ap (λ ys. ys ++ f entry.now) (sym (lent_given f (take i entries)))

-- ---- versions

-- the version of an item; where its key is stored does not matter
abbrev pub version_of : Held → Version
version_of item = (item.table, record { ref_ptr = (0, 0); now = item.key }, item.version)

-- a set with one more version
pub version_noted : (old new : BTreeSet Version) (items : List Held) (item : Held)
    → Updates version_cmp old new (version_of item) true → HasVersions old items → HasVersions new (items ++ item ∷ [])
version_noted old new items item updates were q = grind (arith, list_any-append, eqb, is_eq-slice_cmp, updates.0, q.0, q.1.now, q.2)

-- a set without versions is that of no items
pub no_versions : (set : BTreeSet Version) → set.keys ≡ [] → HasVersions set []
no_versions set empty version = ap (list_any (is_at (version_cmp version))) empty
