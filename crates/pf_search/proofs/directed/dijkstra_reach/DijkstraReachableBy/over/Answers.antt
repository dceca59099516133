use Rattle.std.proofs.Common.{◌∙◌, refl, false, [], ◌∷◌}
use Rattle.pf_core.specs.declared.labels.Label.{Label}
use Rattle.pf_core.specs.Nodes.{NodeGraph, StandsFor, IsStep}
use Rattle.pf_discovery.proofs.SourceLemmas.{Explores-edges}
use Rattle.pf_core.proofs.SearchLemmas.{start_alone}
use Rattle.std.proofs.lemmas.Result.{IfOk-from_err}
use Rattle.pf_search.proofs.GivenLemmas.{none_given, one_distinct, one_begins}
use Rattle.pf_base.proofs.Outcomes.{refused_as}
use Rattle.pf_search.proofs.directed.dijkstra_reach.DijkstraReachableBy.over.Goals as goal

pub returns-clause-begins : goal.returns-clause-begins
returns-clause-begins g c =
    let b = c.in_ok-search.ensures in
    (none_given (g.M.Numbering.keys c.args.nodes) c.in_ok-search.search.labels.items (b.wide ∙ c.len.ensures.len) b.none, refl, refl)

pub returns-clause-graph : goal.returns-clause-graph
returns-clause-graph g c = λ start same edges a h.
    let eq = g.N.PartialEq.eq in
    let laws = g.met.N.Eq.laws in
    let keys = g.M.Numbering.keys c.args.nodes in
    let b = c.in_ok-search.ensures in
    let first : Label g.row.C.Denot = record { cost = g.C.Zero.zero; parent = 0; depth = 0; settled = false } in
    let graph : NodeGraph g.row.N.Denot = record { starts = start ∷ []; edges = edges } in
    let begins = one_begins eq laws keys start c.requires.one same in
    let here : (x : g.row.N.Denot) × StandsFor eq keys 0 x = (start, (begins start).1 (laws.refl start)) in
    record {
      explored = Explores-edges eq laws g.F.EdgeFunction.answers graph keys _ (one_distinct eq laws keys c.requires.one) same (g.met.F.EdgeFunction.alike_law c.args.successors (start ∷ []) edges a) a;
      costs = h;
      begins = begins;
      wide = b.wide ∙ c.len.ensures.len;
      search = start_alone 0 g.C.Number.value (IsStep eq graph) (StandsFor eq keys) here c.in_ok-search.search.labels.items first b.first b.only refl refl (g.met.C.Zero.zero_law g.met.C.Integral.exact_law);
      given = refl;
    }

pub returns-in_err-search : goal.returns-in_err-search
returns-in_err-search g c = record {
  begins = IfOk-from_err _ _ c.from_residual.ensures.0;
  graph = λ _ _. IfOk-from_err _ _ c.from_residual.ensures.0;
  refused = refused_as _ c.from_residual.result c.in_err-search.field-0.0 c.from_residual.ensures.1 c.in_err-search.ensures.refused;
}
