use Rattle.std.proofs.Common.{◌≤◌, ◌*◌, ◌∙◌, ap, sym, false, arith, length}
use Rattle.std.specs.List.{count_by}
use Rattle.std.proofs.Math.Nat.{mul-le-mul_right}
use Rattle.std.proofs.lemmas.List.{length-replicate}
use Rattle.pf_grid.specs.Internal.Words.{row_words}
use Rattle.pf_grid.proofs.CellLemmas.{same_cells, same_grids}
use Rattle.pf_grid.proofs.CountLemmas.{count_all}
use Rattle.pf_grid.proofs.WordLemmas.{no_bits}
use Rattle.pf_grid.proofs.grid.Grid.new.Goals as goal

pub overflow_mul-row_words : goal.overflow_mul-row_words
overflow_mul-row_words g c =
    let few : c.row_words.result ≤ c.args.width = omega (arith, c.row_words.ensures) in
    omega (arith, mul-le-mul_right c.args.height few, c.requires)

pub invariant_of-result : goal.invariant_of-result
invariant_of-result g c =
    let w = c.args.width in
    let h = c.args.height in
    let zeros = c.in_ok-words.ensures.items_if_clones_equal (λ y e. e) in
    record {
      sized = ap length zeros ∙ length-replicate _ 0 ∙ ap (λ n. n * h) c.row_words.ensures;
      fits = c.requires;
      counted = sym (ap (λ cs. count_by (λ t. t) cs) (same_cells w h _ (λ x y. false) (λ x y p q. no_bits _ _ (row_words w) x y zeros)) ∙ count_all false w h);
    }

pub returns-clause-made : goal.returns-clause-made
returns-clause-made g c =
    let zeros = c.in_ok-words.ensures.items_if_clones_equal (λ y e. e) in
    same_grids c.args.width c.args.height false _ (λ x y. false) (λ x y p q. no_bits _ _ (row_words c.args.width) x y zeros)
