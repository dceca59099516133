use Rattle.std.proofs.Common.{◌∙◌, not, ap, arith}
use Rattle.std.specs.List.{count_by}
use Rattle.pf_grid.specs.Internal.Words.{bit, held, row_words}
use Rattle.pf_grid.proofs.CellLemmas.{changed_view, same_cells, view_has}
use Rattle.pf_grid.proofs.CountLemmas.{count_not}
use Rattle.pf_grid.proofs.WordLemmas.{turned_not}
use Rattle.pf_grid.proofs.grid.Grid.invert.Goals as goal

pub overflow_sub-self : goal.overflow_sub-self
overflow_sub-self g c =
    let s = c.self.inside in
    omega (arith, c.self.invariant.counted, count_not s.width s.height (held s.words.items (row_words s.width) s.inverted))

pub invariant_of-self : goal.invariant_of-self
invariant_of-self g c =
    let s = c.self.inside in
    let f = held s.words.items (row_words s.width) s.inverted in
    let others = ap (λ cs. count_by (λ t. t) cs) (same_cells s.width s.height (held s.words.items (row_words s.width) (not s.inverted)) (λ x y. not (f x y)) (λ x y p q. turned_not s.inverted (bit s.words.items (row_words s.width) x y))) in
    record {
      sized = c.self.invariant.sized;
      fits = c.self.invariant.fits;
      counted = omega (arith, c.self.invariant.counted, count_not s.width s.height f, others);
    }

pub returns : goal.returns
returns g c =
    let s = c.self.inside in
    changed_view c.args.self.now _ _ _ _ c.self.view_is _ _ (λ x y p q.
    turned_not s.inverted (bit s.words.items (row_words s.width) x y) ∙ ap not (view_has c.args.self.now _ _ _ _ c.self.view_is x y p q))
