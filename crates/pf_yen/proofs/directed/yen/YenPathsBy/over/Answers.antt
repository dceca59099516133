use Rattle.std.proofs.Common.{rules, refl, ap, List, ◌∷◌, []}
use Rattle.pf_yen.specs.declared.candidate.Candidate.{Candidate}
use Rattle.pf_yen.specs.Internal.Candidates.{waiting_plans}
use Rattle.pf_yen.proofs.WalkLemmas.{alone, new_walk}
use Rattle.pf_yen.proofs.directed.yen.YenPathsBy.over.Goals as goal

pub returns-clause-graph : goal.returns-clause-graph
returns-clause-graph g c = λ start has edges test s.
    let one = c.requires.one in
    let found = alone g.met.N.Eq.laws (g.M.Numbering.keys c.args.nodes) start one has in
    let none = ap (λ (h : List (Candidate g.row.C.Denot g.row.A.Denot)). waiting_plans h) {y = []} (search rules) in
    new_walk g.met.N.Eq.laws _ found.0 found.1 one found.2 c.new.ensures refl (c.nothing.ensures, none, refl, refl) refl refl (g.met.F.EdgeFunction.alike_law c.args.successors (start ∷ []) edges s.edges_answered) s
