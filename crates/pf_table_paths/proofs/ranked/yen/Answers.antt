use Rattle.std.proofs.Common.{inl}
use Rattle.std.proofs.lemmas.Result.{IfOk-from_err}
use Rattle.pf_base.proofs.Outcomes.{no_overflow, refused_as}
use Rattle.pf_table_paths.proofs.ranked.yen.Goals as goal

pub k_cheapest_of-requires-clause-graph : goal.k_cheapest_of-requires-clause-graph
k_cheapest_of-requires-clause-graph g c = (_, _, _, c.in_ok-walk.ensures.graph)

pub returns-in_err-walk : goal.returns-in_err-walk
returns-in_err-walk g c =
    let over = no_overflow c.from_residual.result c.in_err-walk.field-0.0 c.from_residual.ensures.1 c.in_err-walk.ensures.refused in
    record {
      cheapest = IfOk-from_err _ _ c.from_residual.ensures.0;
      overflow = λ e. absurd (over e);
      first_overflow = λ e _. absurd (over e);
      some_asked = λ e. absurd (over e);
      errors = refused_as _ c.from_residual.result c.in_err-walk.field-0.0 c.from_residual.ensures.1 (inl c.in_err-walk.ensures.refused);
    }

pub returns : goal.returns
returns g c =
    let e = c.k_cheapest_of.ensures in
    let w = c.in_ok-walk.ensures.graph in
    record { cheapest = e.cheapest _ _ _ w; overflow = e.overflow _ _ _ w; first_overflow = e.first_overflow _ _ _ w; some_asked = e.some_asked; errors = e.errors }
