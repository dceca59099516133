use Rattle.std.proofs.Common.{◌∙◌, sym, ap}
use Rattle.pf_grid.specs.Internal.Words.{bit, row_words, turned}
use Rattle.pf_grid.proofs.CellLemmas.{has_from_view}
use Rattle.pf_grid.proofs.WordLemmas.{turned_other}
use Rattle.pf_grid.proofs.grid.Grid.has_vertex.Goals as goal

pub returns-then-is_inside : goal.returns-then-is_inside
returns-then-is_inside g c =
    let p = c.args.position in
    let s = c.self.inside in
    let within = c.is_inside.ensures.0 c.if-is_inside.true in
    turned_other c.bit_of.result s.inverted
    ∙ ap (turned s.inverted) (c.bit_of.ensures
    ∙ ap (λ n. bit c.as_slice.result.now n p.0 p.1) c.row_words.ensures
    ∙ ap (λ ws. bit ws (row_words s.width) p.0 p.1) c.as_slice.ensures.value)
    ∙ sym (has_from_view c.args.self.now _ _ _ _ c.self.view_is p.0 p.1 within.0 within.1)
