use Rattle.std.proofs.Common.{List, ℕ, ℤ, Err, refl, ap, subst, nat_eq}
use Rattle.std.specs.Cmp.{nat_eq_equiv}
use Rattle.std.proofs.lemmas.Result.{IfOk-from_err}
use Rattle.pf_base.specs.Answers.{ListsEdges}
use Rattle.pf_base.proofs.Callers.{ListsEdges-refl, nat_refl, nat_same}
use Rattle.pf_base.proofs.Outcomes.{ok_is_no_error, overflow_kept, refused_as}
use Rattle.pf_search.proofs.AllLemmas.{all_of_partial}
use Rattle.pf_tables.specs.Graphs.{graph_of}
use Rattle.pf_table_searches.proofs.parents.dijkstra_all.Goals as goal

pub returns : goal.returns
returns g c =
    let edges = graph_of g.C.Number.value (g.G.Graph.size c.args.graph.now) (g.G.Graph.places c.args.graph.now) in
    record {
      cheapest = all_of_partial nat_eq nat_eq_equiv g.C.Number.value edges c.args.from (λ x y w e. subst (λ (zs : List (ℕ × ℤ)). ListsEdges nat_eq (λ (z : ℤ). z) (edges x) zs) (nat_same edges x y e) (ListsEdges-refl nat_eq nat_refl (edges x))) _ c.in_ok-parents.field-0-1 c.in_ok-parents.ensures.partial;
      overflow = λ e. absurd (ok_is_no_error _ _ _ refl e);
      errors = tt;
    }

pub returns-in_err-parents : goal.returns-in_err-parents
returns-in_err-parents g c = record {
  cheapest = IfOk-from_err _ _ c.from_residual.ensures.0;
  overflow = λ e. c.in_err-parents.ensures.overflow (ap Err (overflow_kept c.from_residual.result c.in_err-parents.field-0.0 c.from_residual.ensures.1 e));
  errors = refused_as _ c.from_residual.result c.in_err-parents.field-0.0 c.from_residual.ensures.1 c.in_err-parents.ensures.errors;
}
