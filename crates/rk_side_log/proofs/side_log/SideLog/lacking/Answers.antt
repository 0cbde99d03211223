use Rattle.rk_side_log.proofs.Words.{◌≡◌, ◌∙◌, ◌++◌, ℕ, List, length, take, ap, arith, Held, NumberedBytes, cut, as_entries, Side, begun}
use Rattle.rk_side_log.proofs.Words.{room_in, segments_of, bytes_in, items_read}
use Rattle.rk_side_log.proofs.Begun.{segments-append}
use Rattle.rk_side_log.proofs.Filled.{segments_cut, take-filled}
use Rattle.rk_side_log.proofs.side_log.SideLog.lacking.Goals as goal

pub returns : goal.returns
returns c =
    let bytes : List (List ℕ) = bytes_in c.self.inside.segments.items in
    let items : items_read bytes ≡ c.args.self.now.items = ap (λ (s : Side). s.items) c.self.view_is in
    let made : length c.self.inside.segments.items ≡ c.args.self.now.made = ap (λ (s : Side). s.made) c.self.view_is in
    let front : take c.self.inside.used (bytes_in c.as_slice.result.now) ≡ cut (as_entries (items_read bytes)) =
    ap (λ (l : List NumberedBytes). take c.self.inside.used (bytes_in l)) c.as_slice.ensures.value ∙ take-filled bytes c.self.inside.used (items_read bytes) c.self.invariant in
    let room : c.room_behind.result ≡ room_in (cut (as_entries (items_read bytes))) = c.room_behind.ensures ∙ ap room_in front in
    let more : c.begun_by-more.result ≡ begun (room_in (cut (as_entries (items_read bytes)))) c.args.items.now =
    c.begun_by-more.ensures.count ∙ ap (λ (n : ℕ). begun n c.args.items.now) room in
    let all : segments_of (items_read bytes ++ c.args.items.now) ≡ segments_of (c.args.self.now.items ++ c.args.items.now) =
    ap (λ (l : List Held). segments_of (l ++ c.args.items.now)) items in
    omega (arith, all, segments-append (items_read bytes) c.args.items.now, segments_cut (items_read bytes), c.self.invariant.used_is, more, made, c.len.ensures)
