use Rattle.std.proofs.Common.{◌≡◌, ap, sym, ◌∙◌}
use Rattle.std.proofs.lemmas.Result.{IfOk-from_err, IfOk-weaker}
use Rattle.pf_matrix.specs.Positions.{positions_of}
use Rattle.pf_matrix.specs.declared.error.MatrixFormatError.TheVariants.{OutOfMemory}
use Rattle.pf_matrix.proofs.FloodLemmas.{callable_on, given_on}
use Rattle.pf_base.proofs.Outcomes.{refused_as}
use Rattle.pf_matrix.proofs.matrix.Matrix.bfs_reachable.Goals as goal

pub from_fn-requires : goal.from_fn-requires
from_fn-requires g c = record {
  fits = c.self.invariant.fits;
  filled = c.self.invariant.filled;
  callable = callable_on (sym (ap positions_of c.self.view_is)) c.requires;
}

pub returns-in_err-free : goal.returns-in_err-free
returns-in_err-free g c = record {
  reached = IfOk-from_err _ _ c.from_residual.ensures.0;
  refused = refused_as (λ e. e ≡ OutOfMemory) c.from_residual.result c.in_err-free.field-0.0 c.from_residual.ensures.1 c.in_err-free.ensures.refused;
}

pub returns : goal.returns
returns g c =
    let m = c.in_ok-free.free in
    let sizes = c.in_ok-free.ensures in
    let rows = sizes.rows ∙ ap (λ t. t.rows) c.self.view_is in
    let columns = sizes.columns ∙ ap (λ t. t.columns) c.self.view_is in
    record {
      reached = IfOk-weaker c.flood.result _ _
          (λ reached flood. (m.values, given_on (ap positions_of c.self.view_is) sizes.values, rw (rows, columns) at flood)) c.flood.ensures.reached;
      refused = c.flood.ensures.refused;
    }
