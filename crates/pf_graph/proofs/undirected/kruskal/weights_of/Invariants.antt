use Rattle.std.proofs.Common.{◌≡◌, ℕ, take}
use Rattle.std.specs.Prelude.{map}
use Rattle.pf_graph.specs.declared.undirected.weighed.Weighed.{Weighed}
use Rattle.pf_graph.proofs.undirected.kruskal.weights_of.Given as goal

-- the weights of the edges so far
abbrev pub invariant-loop-numbered : goal.invariant-loop-numbered
invariant-loop-numbered g l = l.weights.items ≡ map (λ (e : ℕ × ℕ × Weighed g.row.N.Denot g.row.C.Denot g.row.C.Denot). e.2.weight) (take l.numbered-index l.chosen)
