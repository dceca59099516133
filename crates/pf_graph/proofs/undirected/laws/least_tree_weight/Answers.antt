use Rattle.std.proofs.Common.{sym, ◌∙◌}
use Rattle.std.proofs.lemmas.Option.{same_Some}
use Rattle.pf_graph.proofs.Spanning.TreeLawLemmas.{least_tree}
use Rattle.pf_graph.proofs.undirected.laws.least_tree_weight.Goals as goal

pub returns : goal.returns
returns g c edges tree other start grows forest least written = least_tree g.met.N.Eq.laws edges tree start written grows g.C.Number.value (λ x y. same_Some _ _ (sym (g.met.C.Ord.matches_partial_cmp x y) ∙ g.met.C.Number.order_law x y g.met.C.Integral.exact_law)) other forest least
