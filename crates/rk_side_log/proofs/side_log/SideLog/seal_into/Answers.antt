use Rattle.rk_side_log.proofs.Words.{◌≡◌, ◌∙◌, ◌++◌, ℕ, List, take, map, sym, ap, subst, All, is_ok, cond-true, map-append, IsLawfulHeld}
use Rattle.rk_side_log.proofs.Words.{NumberedBytes, cut_items, Side, bytes_in, items_read, spelled_items}
use Rattle.std.proofs.lemmas.List.{take-map}
use Rattle.rk_side_log.proofs.Cutting.{spelled_cut}
use Rattle.rk_side_log.proofs.Filled.{take-filled}
use Rattle.rk_side_log.proofs.side_log.SideLog.seal_into.Goals as goal

pub returns-clause-bytes : goal.returns-clause-bytes
returns-clause-bytes c =
    let bytes : List (List ℕ) = bytes_in c.self.inside.segments.items in
    let moved : c.append.new.self.items ≡ c.args.sealed.now.items ++ take c.self.inside.used c.self.inside.segments.items =
    c.append.ensures.items ∙ cond-true (is_ok c.append.result) _ _ (ap is_ok c.unwrap.ensures)
    ∙ ap (λ (l : List NumberedBytes). c.args.sealed.now.items ++ l) c.truncate.ensures.items in
    let front : bytes_in (take c.self.inside.used c.self.inside.segments.items) ≡ map spelled_items (cut_items c.args.self.now.items) =
    sym (take-map (λ (s : NumberedBytes). s.bytes) c.self.inside.used c.self.inside.segments.items)
    ∙ take-filled bytes c.self.inside.used (items_read bytes) c.self.invariant
    ∙ sym (spelled_cut (items_read bytes)) ∙ ap (λ (s : Side). map spelled_items (cut_items s.items)) c.self.view_is in
    ap bytes_in moved ∙ map-append (λ (s : NumberedBytes). s.bytes) c.args.sealed.now.items (take c.self.inside.used c.self.inside.segments.items)
    ∙ ap (λ (l : List (List ℕ)). bytes_in c.args.sealed.now.items ++ l) front

pub returns-clause-lawful : goal.returns-clause-lawful
returns-clause-lawful c = subst (λ (s : Side). All IsLawfulHeld s.items) c.self.view_is c.self.invariant.lawful
