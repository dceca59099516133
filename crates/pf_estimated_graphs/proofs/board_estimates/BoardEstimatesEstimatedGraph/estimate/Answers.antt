use Rattle.std.proofs.Common.{ℕ, ◌<◌, ◌^◌, sym, subst, length, mod-lt}
use Rattle.std.specs.Option.{SomeIff}
use Rattle.pf_boards.proofs.BoardLemmas.{row_inside, some_column}
use Rattle.pf_boards.specs.Boards.{position_at}
use Rattle.pf_estimated_graphs.proofs.BoardEstimateLemmas.{fewer_steps, least_from_zero}
use Rattle.pf_estimated_graphs.proofs.board_estimates.BoardEstimatesEstimatedGraph.estimate.Goals as goal

pub count_steps-requires : goal.count_steps-requires
count_steps-requires g c =
    let board = c.self.inside.board.now in
    let from = c.in-Some-Some.ensures in
    let to = subst (λ o. SomeIff o (c.self.inside.goal < length board.cells) (position_at board c.self.inside.goal)) c.in-Some-Some.is-1 c.self.invariant.1 in
    let sized = c.self.invariant.0.board.sized in
    let inside : ((position_at board c.self.inside.goal).0 < board.rows) × ((position_at board c.self.inside.goal).1 < board.columns) = (row_inside board.rows board.columns (length board.cells) c.self.inside.goal sized to.0, mod-lt c.self.inside.goal (some_column board.rows board.columns (length board.cells) c.self.inside.goal sized to.0)) in
    fewer_steps board.rows board.columns (length board.cells) (2 ^ 64) c.in-Some-Some.from c.in-Some-Some.to sized c.self.invariant.2 (from.row, from.column)
    (subst (λ (p : ℕ × ℕ). (p.0 < board.rows) × (p.1 < board.columns)) (sym to.1) inside)

pub capped_product-requires : goal.capped_product-requires
capped_product-requires g c = record { from_zero = least_from_zero g.C.Number.value c.self.inside.board.now.cells c.self.inside.least c.self.invariant.0.board.from_zero c.self.invariant.0.least; nothing = c.self.invariant.3 }
