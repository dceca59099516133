use Rattle.std.proofs.Common.{◌∷◌, [], ◌∙◌, ◌++◌, ap}
use Rattle.std.specs.Prelude.{reverse}
use Rattle.pf_base.specs.Regions.{along_successors}
use Rattle.pf_search.proofs.directed.dfs.dfs_over.Goals as goal

pub path_to_first-requires-clause-graph : goal.path_to_first-requires-clause-graph
path_to_first-requires-clause-graph g c =
    let next = c.requires.graph.0 in
    let test = c.requires.graph.1 in
    let s = c.requires.graph.2 in
    let starts = c.args.start ∷ [] in (
      next,
      c.args.start,
      test,
      record {
        unvisited = ap g.M.Numbering.keys (c.in_ok-begin.ensures.visited ∙ c.new-descent.ensures.visited) ∙ c.requires.empty;
        unbegun = c.in_ok-begin.ensures.path ∙ c.new-descent.ensures.path;
        waits = ap reverse (c.in_ok-begin.ensures.waits ∙ ap (λ l. l ++ record { node = c.args.start; depth = 0 } ∷ []) c.new-descent.ensures.waiting);
        alike = g.met.F.SuccessorFunction.alike_law c.args.successors starts next s.successors_answered;
        answered = s.successors_answered;
        tested = s.test_answered;
        tests_alike = g.met.T.NodeTest.alike_law c.args.success (along_successors starts next) test s.test_answered;
      },
    )

pub returns-clause-first : goal.returns-clause-first
returns-clause-first g c = λ next test s.
    let starts = c.args.start ∷ [] in
    c.path_to_first.ensures.first next c.args.start test (record {
      unvisited = ap g.M.Numbering.keys (c.in_ok-begin.ensures.visited ∙ c.new-descent.ensures.visited) ∙ c.requires.empty;
      unbegun = c.in_ok-begin.ensures.path ∙ c.new-descent.ensures.path;
      waits = ap reverse (c.in_ok-begin.ensures.waits ∙ ap (λ l. l ++ record { node = c.args.start; depth = 0 } ∷ []) c.new-descent.ensures.waiting);
      alike = g.met.F.SuccessorFunction.alike_law c.args.successors starts next s.successors_answered;
      answered = s.successors_answered;
      tested = s.test_answered;
      tests_alike = g.met.T.NodeTest.alike_law c.args.success (along_successors starts next) test s.test_answered;
    })
