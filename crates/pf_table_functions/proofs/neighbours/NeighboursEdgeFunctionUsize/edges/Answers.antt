use Rattle.std.proofs.Common.{rules}
use Rattle.std.proofs.lemmas.Iterator.Consumers.{YieldsList-from_first}
use Rattle.pf_base.proofs.Sources.{gives_chain}
use Rattle.pf_table_functions.proofs.EdgeLemmas.{gives_edges}
use Rattle.pf_table_functions.proofs.neighbours.NeighboursEdgeFunctionUsize.edges.Goals as goal

pub returns-clause-listed : goal.returns-clause-listed
returns-clause-listed g c = λ starts edges w same.
    let table = c.args.self.now in
    gives_edges g.C.Number.value (g.G.Graph.size table) (g.G.Graph.places table) same (gives_chain (λ it b. (tt, tt, YieldsList-from_first (λ e. e) (λ es. es) _ (search rules))))
