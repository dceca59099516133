use Rattle.std.proofs.Common.{◌≡◌, ℕ, ◌∙◌, ◌/◌, ◌<◌, ap, sym, arith, false, inl, inr, Bool, List}
use Rattle.std.proofs.lemmas.Bool.{cases_lt}
use Rattle.pf_grid.specs.Internal.Words.{held, row_words}
use Rattle.pf_grid.specs.GridPositions.{Positions, grid_of, has}
use Rattle.pf_grid.proofs.CellLemmas.{view_has, has_beyond}
use Rattle.pf_grid.proofs.grid.Grid.next_in_row.Goals as goal

-- what the words of a row say of a grid
module _ (now : Positions) (words ws : List ℕ) (w h per : ℕ) (d inverted : Bool) (view : grid_of w h d (held words (row_words w) inverted) ≡ now) (same : ws ≡ words) (is : per ≡ row_words now.width) (y : ℕ) (low : y < now.height) where
  wide : w ≡ now.width
  wide = ap (λ t. t.width) view

  seen : (i : ℕ) → i < w → held ws per inverted i y ≡ has now i y
  seen i p =
      ap (λ n. held ws n inverted i y) (is ∙ ap row_words (sym wide)) ∙ ap (λ l. held l (row_words w) inverted i y) same
      ∙ view_has now w h d (held words (row_words w) inverted) view i y p (omega (arith, low, ap (λ t. t.height) view))

  -- no vertex at a position at which nothing is held
  none_at : (j : ℕ) → (j / 64 < per → held ws per inverted j y ≡ false) → has now j y ≡ false
  none_at j free = elim (cases_lt j w) as (λ _. has now j y ≡ false) [
    | inl p ↦ sym (seen j p) ∙ free (omega (arith, is, wide))
    | inr p ↦ has_beyond now j y (omega (arith, wide))
  ]

pub returns-in_err-found : goal.returns-in_err-found
returns-in_err-found g c =
    let s = c.self.inside in
    let is = c.row_words-per_row.ensures ∙ ap row_words c.width.ensures.width in
    rw c.from_residual.ensures
    (λ i p. none_at c.args.self.now s.words.items c.as_slice.result.now s.width s.height c.row_words-per_row.result s.diagonal s.inverted c.self.view_is c.as_slice.ensures.value is c.args.y c.requires i (c.in_err-found.ensures i p))

pub returns-then-found-self : goal.returns-then-found-self
returns-then-found-self g c =
    let s = c.self.inside in
    let now = c.args.self.now in
    let is = c.row_words-per_row.ensures ∙ ap row_words c.width.ensures.width in
    let some = c.in_ok-found.ensures in (
      some.0,
      omega (arith, c.if-found-self.true, c.width.type_inv, c.width.ensures.width, ap (λ t. t.width) c.self.view_is),
      sym (seen now s.words.items c.as_slice.result.now s.width s.height c.row_words-per_row.result s.diagonal s.inverted c.self.view_is c.as_slice.ensures.value is c.args.y c.requires c.in_ok-found.found c.if-found-self.true) ∙ some.2,
      λ j p q. none_at now s.words.items c.as_slice.result.now s.width s.height c.row_words-per_row.result s.diagonal s.inverted c.self.view_is c.as_slice.ensures.value is c.args.y c.requires j (λ k. some.3 j p q),
    )

pub returns-else-found-self : goal.returns-else-found-self
returns-else-found-self g c = λ i p.
    let s = c.self.inside in
    let now = c.args.self.now in
    let is = c.row_words-per_row.ensures ∙ ap row_words c.width.ensures.width in
    elim (cases_lt i s.width) as (λ _. has now i c.args.y ≡ false) [
      | inl q ↦ none_at now s.words.items c.as_slice.result.now s.width s.height c.row_words-per_row.result s.diagonal s.inverted c.self.view_is c.as_slice.ensures.value is c.args.y c.requires i (λ k. c.in_ok-found.ensures.3 i p (omega arith))
      | inr q ↦ has_beyond now i c.args.y (omega (arith, q, ap (λ t. t.width) c.self.view_is))
    ]
