use Rattle.std.proofs.Common.{◌≡◌, ℕ, ◌+◌, ◌<◌, ◌∙◌, ap, subst, arith, length, not, cond, true, false, Bool}
use Rattle.std.specs.Prelude.{if◌then◌else◌}
use Rattle.std.specs.List.{count_by}
use Rattle.std.specs.Vec.{with_items}
use Rattle.std.proofs.lemmas.List.{with_items_is}
use Rattle.std.proofs.lemmas.List.Sums.{count_by-le-length}
use Rattle.pf_grid.specs.Internal.Words.{held, row_words, turned}
use Rattle.pf_grid.specs.GridPositions.{Positions, cells_of, grid_of, has, is_position}
use Rattle.pf_grid.proofs.CellLemmas.{changed_view, length-cells_of, view_has}
use Rattle.pf_grid.proofs.CountLemmas.{count_turned}
use Rattle.pf_grid.proofs.WordLemmas.{flipped_held, same_coordinates, turned_to}
use Rattle.pf_grid.proofs.grid.Grid.flip.Goals as goal

-- a grid whose test is turned at one position, at which it was not as it should be
module _ (now : Positions) (w h : ℕ) (d : Bool) (f n : ℕ → ℕ → Bool) (view : grid_of w h d f ≡ now) (at : ℕ × ℕ) (v : Bool)
    (inside : (at.0 < now.width) × (at.1 < now.height)) (other : has now at.0 at.1 ≡ not v)
    (turns : (x y : ℕ) → x < w → y < h → n x y ≡ turned (is_position at x y) (f x y)) where
  column : at.0 < w
  column = omega (arith, inside.0, ap (λ t. t.width) view)

  row : at.1 < h
  row = omega (arith, inside.1, ap (λ t. t.height) view)

  more : count_by (λ c. c) (cells_of w h n) + cond (not v) 1 0 ≡ count_by (λ c. c) (cells_of w h f) + cond v 1 0
  more = count_turned w h f n at.0 at.1 column row turns v (view_has now w h d f view at.0 at.1 column row ∙ other)

  one_more : v ≡ true → count_by (λ c. c) (cells_of w h n) ≡ count_by (λ c. c) (cells_of w h f) + 1
  one_more e = let m = subst (λ (b : Bool). count_by (λ c. c) (cells_of w h n) + cond (not b) 1 0 ≡ count_by (λ c. c) (cells_of w h f) + cond b 1 0) e more in omega (arith, m)

  one_less : v ≡ false → count_by (λ c. c) (cells_of w h n) + 1 ≡ count_by (λ c. c) (cells_of w h f)
  one_less e = let m = subst (λ (b : Bool). count_by (λ c. c) (cells_of w h n) + cond (not b) 1 0 ≡ count_by (λ c. c) (cells_of w h f) + cond b 1 0) e more in omega (arith, m)

  set_to : (x y : ℕ) → x < w → y < h → n x y ≡ (if is_position at x y then v else has now x y)
  set_to x y p q =
      turns x y p q ∙ ap (turned (is_position at x y)) (view_has now w h d f view x y p q)
      ∙ turned_to (is_position at x y) (has now x y) v (λ e. let is = same_coordinates at x y e in (λ i. has now (is.0 i) (is.1 i)) ∙ other)

pub overflow_add-self : goal.overflow_add-self
overflow_add-self g c =
    let s = c.self.inside in
    let at = c.args.position in
    let f = held s.words.items (row_words s.width) s.inverted in
    let n = held (with_items s.words c.turn_bit.new.words).items (row_words s.width) s.inverted in
    let turns = flipped_held s.words c.as_mut_slice.result.now c.turn_bit.new.words s.width s.height c.row_words-per_row.result s.inverted at (c.turn_bit.auto.words ∙ c.as_mut_slice.ensures.len) c.as_mut_slice.ensures.value c.row_words-per_row.ensures c.turn_bit.ensures.bits in
    let more = one_more c.args.self.now s.width s.height s.diagonal f n c.self.view_is at c.args.present c.requires.inside c.requires.other turns c.if-present.true in
    omega (arith, more, c.self.invariant.counted, c.self.invariant.fits, count_by-le-length (λ (b : Bool). b) (cells_of s.width s.height n), length-cells_of s.width s.height n)

pub invariant_of-self : goal.invariant_of-self
invariant_of-self g c =
    let s = c.self.inside in
    let at = c.args.position in
    let f = held s.words.items (row_words s.width) s.inverted in
    let n = held (with_items s.words c.turn_bit.new.words).items (row_words s.width) s.inverted in
    let len = c.turn_bit.auto.words ∙ c.as_mut_slice.ensures.len in
    let turns = flipped_held s.words c.as_mut_slice.result.now c.turn_bit.new.words s.width s.height c.row_words-per_row.result s.inverted at len c.as_mut_slice.ensures.value c.row_words-per_row.ensures c.turn_bit.ensures.bits in
    let more = one_more c.args.self.now s.width s.height s.diagonal f n c.self.view_is at c.args.present c.requires.inside c.requires.other turns c.if-present.true in
    record {
      sized = ap length (with_items_is s.words c.turn_bit.new.words len) ∙ c.turn_bit.auto.words ∙ ap length c.as_mut_slice.ensures.value ∙ c.self.invariant.sized;
      fits = c.self.invariant.fits;
      counted = omega (arith, more, c.self.invariant.counted);
    }

pub overflow_sub-self : goal.overflow_sub-self
overflow_sub-self g c =
    let s = c.self.inside in
    let at = c.args.position in
    let f = held s.words.items (row_words s.width) s.inverted in
    let n = held (with_items s.words c.turn_bit.new.words).items (row_words s.width) s.inverted in
    let turns = flipped_held s.words c.as_mut_slice.result.now c.turn_bit.new.words s.width s.height c.row_words-per_row.result s.inverted at (c.turn_bit.auto.words ∙ c.as_mut_slice.ensures.len) c.as_mut_slice.ensures.value c.row_words-per_row.ensures c.turn_bit.ensures.bits in
    let less = one_less c.args.self.now s.width s.height s.diagonal f n c.self.view_is at c.args.present c.requires.inside c.requires.other turns c.if-present.false in
    omega (arith, less, c.self.invariant.counted)

pub invariant_of-self-else-present : goal.invariant_of-self-else-present
invariant_of-self-else-present g c =
    let s = c.self.inside in
    let at = c.args.position in
    let f = held s.words.items (row_words s.width) s.inverted in
    let n = held (with_items s.words c.turn_bit.new.words).items (row_words s.width) s.inverted in
    let len = c.turn_bit.auto.words ∙ c.as_mut_slice.ensures.len in
    let turns = flipped_held s.words c.as_mut_slice.result.now c.turn_bit.new.words s.width s.height c.row_words-per_row.result s.inverted at len c.as_mut_slice.ensures.value c.row_words-per_row.ensures c.turn_bit.ensures.bits in
    let less = one_less c.args.self.now s.width s.height s.diagonal f n c.self.view_is at c.args.present c.requires.inside c.requires.other turns c.if-present.false in
    record {
      sized = ap length (with_items_is s.words c.turn_bit.new.words len) ∙ c.turn_bit.auto.words ∙ ap length c.as_mut_slice.ensures.value ∙ c.self.invariant.sized;
      fits = c.self.invariant.fits;
      counted = omega (arith, less, c.self.invariant.counted);
    }

pub returns-then-present : goal.returns-then-present
returns-then-present g c =
    let s = c.self.inside in
    let at = c.args.position in
    let now = c.args.self.now in
    let f = held s.words.items (row_words s.width) s.inverted in
    let n = held (with_items s.words c.turn_bit.new.words).items (row_words s.width) s.inverted in
    let turns = flipped_held s.words c.as_mut_slice.result.now c.turn_bit.new.words s.width s.height c.row_words-per_row.result s.inverted at (c.turn_bit.auto.words ∙ c.as_mut_slice.ensures.len) c.as_mut_slice.ensures.value c.row_words-per_row.ensures c.turn_bit.ensures.bits in
    changed_view now s.width s.height s.diagonal f c.self.view_is n (λ x y. if is_position at x y then c.args.present else has now x y)
    (set_to now s.width s.height s.diagonal f n c.self.view_is at c.args.present c.requires.inside c.requires.other turns)

pub returns-else-present : goal.returns-else-present
returns-else-present g c =
    let s = c.self.inside in
    let at = c.args.position in
    let now = c.args.self.now in
    let f = held s.words.items (row_words s.width) s.inverted in
    let n = held (with_items s.words c.turn_bit.new.words).items (row_words s.width) s.inverted in
    let turns = flipped_held s.words c.as_mut_slice.result.now c.turn_bit.new.words s.width s.height c.row_words-per_row.result s.inverted at (c.turn_bit.auto.words ∙ c.as_mut_slice.ensures.len) c.as_mut_slice.ensures.value c.row_words-per_row.ensures c.turn_bit.ensures.bits in
    changed_view now s.width s.height s.diagonal f c.self.view_is n (λ x y. if is_position at x y then c.args.present else has now x y)
    (set_to now s.width s.height s.diagonal f n c.self.view_is at c.args.present c.requires.inside c.requires.other turns)
