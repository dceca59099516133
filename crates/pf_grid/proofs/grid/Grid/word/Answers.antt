use Rattle.std.proofs.Common.{◌≡◌, ℕ, ◌∙◌, ◌&&◌, ◌+◌, ◌*◌, ◌/◌, ◌%◌, ◌<◌, ap, sym, arith, inl, inr, nat_eq, nat_lt, get_or, List, length}
use Rattle.std.specs.Int.{bit_at}
use Rattle.std.proofs.lemmas.Bool.{cases_lt, lt-ltb, le-ltb}
use Rattle.pf_grid.specs.Internal.Words.{bit, held, row_words, turned}
use Rattle.pf_grid.specs.GridPositions.{has}
use Rattle.std.proofs.lemmas.List.{get_or_default}
use Rattle.pf_grid.proofs.WordLemmas.{row_in}
use Rattle.pf_grid.proofs.CellLemmas.{view_has, has_beyond}
use Rattle.pf_grid.proofs.grid.Grid.word.Goals as goal

-- the bit i of the word at this place
at_place : (words : List ℕ) (per place i y : ℕ) → i < 64 → nat_eq (bit_at (get_or words (y * per + place) 0) i) 1 ≡ bit words per (place * 64 + i) y
at_place words per place i y h =
    let e : place ≡ (place * 64 + i) / 64 = omega arith in
    let f : i ≡ (place * 64 + i) % 64 = omega arith in
    (λ j. nat_eq (bit_at (get_or words (y * per + e j) 0) (f j)) 1)

pub returns-then-y-self : goal.returns-then-y-self
returns-then-y-self g c = λ i h.
    let s = c.self.inside in
    let now = c.args.self.now in
    let x : ℕ = c.args.place * 64 + i in
    let wide = ap (λ t. t.width) c.self.view_is in
    let row : c.args.y < s.height = c.if-y-self.true in
    let short : (c.args.place * 64 + i) / 64 < row_words s.width = omega (arith, c.row_words-per_row.ensures, c.if-place-per_row.true) in
    let k : ℕ = c.args.y * c.row_words-per_row.result + c.args.place in
    let there : c.args.y * c.row_words-per_row.result + c.args.place < length s.words.items = omega (arith, row_in c.row_words-per_row.result s.height c.args.y row, ap (λ n. n * s.height) c.row_words-per_row.ensures, c.if-place-per_row.true) in
    let v = c.index.result.now in
    let bits =
    ap (λ v. nat_eq (bit_at v i) 1) (c.index.ensures ∙ get_or_default s.words.items k _ 0 there ∙ ap (λ n. get_or s.words.items (c.args.y * n + c.args.place) 0) c.row_words-per_row.ensures)
    ∙ at_place s.words.items (row_words s.width) c.args.place i c.args.y h in
    c.trimmed.ensures i h
    ∙ ap (λ t. nat_lt (c.args.place * 64 + i) s.width && t) (c.turned_if-bits.ensures i h ∙ ap (turned s.inverted) bits)
    ∙ elim (cases_lt (c.args.place * 64 + i) s.width) as (λ _. (nat_lt (c.args.place * 64 + i) s.width && held s.words.items (row_words s.width) s.inverted (c.args.place * 64 + i) c.args.y) ≡ has now (c.args.place * 64 + i) c.args.y) [
      | inl p ↦ ap (λ t. t && held s.words.items (row_words s.width) s.inverted (c.args.place * 64 + i) c.args.y) (lt-ltb (c.args.place * 64 + i) s.width p) ∙ view_has now _ _ _ _ c.self.view_is (c.args.place * 64 + i) c.args.y p row
      | inr p ↦ ap (λ t. t && held s.words.items (row_words s.width) s.inverted (c.args.place * 64 + i) c.args.y) (le-ltb (c.args.place * 64 + i) s.width p) ∙ sym (has_beyond now (c.args.place * 64 + i) c.args.y (omega (arith, wide)))
    ]
