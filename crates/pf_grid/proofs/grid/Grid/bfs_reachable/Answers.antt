use Rattle.std.proofs.Common.{ap, sym, refl, ◌∙◌, true≢false}
use Rattle.std.proofs.lemmas.Result.{IfOk-from_err, IfOk-weaker}
use Rattle.pf_base.proofs.Outcomes.{refused_by}
use Rattle.pf_matrix.specs.Positions.{positions}
use Rattle.pf_matrix.proofs.FloodLemmas.{given_on}
use Rattle.pf_grid.proofs.FloodLemmas.{callable_on}
use Rattle.pf_grid.proofs.grid.Grid.bfs_reachable.Goals as goal

pub from_fn-requires-clause-callable : goal.from_fn-requires-clause-callable
from_fn-requires-clause-callable g c = callable_on (sym c.self.view_is) c.requires

pub returns-in_default : goal.returns-in_default
returns-in_default g c = record { alone = tt; reached = tt; refused = refl }

pub returns-clause-reached : goal.returns-clause-reached
returns-clause-reached g c =
    let m = c.in-Ok.free in
    let sizes = c.in-Ok.ensures in
    let rows = sizes.rows ∙ ap (λ t. t.width) c.self.view_is in
    let columns = sizes.columns ∙ ap (λ t. t.height) c.self.view_is in
    IfOk-weaker c.flood.result _ _
    (λ reached flood _. (m.values, given_on (ap (λ t. positions t.width t.height) c.self.view_is) sizes.values, rw (rows, columns) at flood)) c.flood.ensures.reached

pub returns-clause-refused : goal.returns-clause-refused
returns-clause-refused g c = c.flood.ensures.refused

pub returns-in_err-set_of_one-clause-alone : goal.returns-in_err-set_of_one-clause-alone
returns-in_err-set_of_one-clause-alone g c = IfOk-from_err _ _ c.from_residual.ensures.0

pub returns-in_err-set_of_one-clause-reached : goal.returns-in_err-set_of_one-clause-reached
returns-in_err-set_of_one-clause-reached g c = IfOk-from_err _ _ c.from_residual.ensures.0

pub returns-in_err-set_of_one-clause-refused : goal.returns-in_err-set_of_one-clause-refused
returns-in_err-set_of_one-clause-refused g c = refused_by _ c.from_residual.result c.from_residual.ensures.1

pub returns-then-not-has_vertex-clause-alone : goal.returns-then-not-has_vertex-clause-alone
returns-then-not-has_vertex-clause-alone g c = λ _. c.in_ok-set_of_one.ensures

pub returns-then-not-has_vertex-clause-reached : goal.returns-then-not-has_vertex-clause-reached
returns-then-not-has_vertex-clause-reached g c = λ h. absurd (true≢false (sym h ∙ sym c.has_vertex.ensures ∙ c.if-not-has_vertex.true))

pub from_fn-requires-clause-fits : goal.from_fn-requires-clause-fits
from_fn-requires-clause-fits g c = c.self.invariant.fits

pub flood-requires-clause-sizes : goal.flood-requires-clause-sizes
flood-requires-clause-sizes g c = (c.in-Ok.ensures.rows ∙ ap (λ t. t.width) c.self.view_is, c.in-Ok.ensures.columns ∙ ap (λ t. t.height) c.self.view_is)

pub returns-clause-alone : goal.returns-clause-alone
returns-clause-alone g c = IfOk-weaker c.flood.result _ _ (λ reached flood h. absurd (true≢false (sym c.if-not-has_vertex.false ∙ c.has_vertex.ensures ∙ h))) c.flood.ensures.reached
