use Rattle.std.proofs.Common.{◌≡◌, ℕ, ◌+◌, ◌*◌, ◌∙◌, arith, rules}
use Rattle.std.proofs.lemmas.List.{get_or_default}
use Rattle.pf_matrix.specs.Tables.{value_at}
use Rattle.pf_matrix.proofs.CallLemmas.{callable_at_positions, given_at_positions}
use Rattle.pf_matrix.proofs.TableLemmas.{place_in}
use Rattle.test_grids_and_trees.proofs.matrix.callers.copied_board.Goals as goal

pub from_fn-requires-clause-callable : goal.from_fn-requires-clause-callable
from_fn-requires-clause-callable g c = callable_at_positions _ _ _ (λ p y f k. search rules) (λ r k a b. search rules)

pub returns : goal.returns
returns g c =
    let m = c.args.board.now in
    let copy = c.in_ok-copy.ensures in
    let given = given_at_positions (λ (p : ℕ × ℕ) (y : ℕ). y ≡ value_at m p.0 p.1 y) copy.values (λ p y f k. search rules) in
    record {
      rows = copy.rows ∙ c.rows.ensures.rows;
      columns = copy.columns ∙ c.columns.ensures.columns;
      values = λ r k d p q.
          let inside = place_in m c.rows.ensures.matrix r k p q in
          rw copy.columns (given r k d (omega (arith, c.rows.ensures.rows)) (omega (arith, c.columns.ensures.columns)) ∙ get_or_default m.values (r * m.columns + k) _ d inside);
      matrix = copy.matrix;
    }
