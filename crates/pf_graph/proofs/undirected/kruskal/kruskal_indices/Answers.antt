use Rattle.std.proofs.Common.{rules, ℕ, subst, sym, refl, inl, nat_eq}
use Rattle.std.specs.List.Sorted.{IsSorted}
use Rattle.pf_graph.specs.Spanning.{IsForest, IsLeastUnderEveryBound, AreChosenFrom}
use Rattle.pf_graph.proofs.undirected.kruskal.kruskal_indices.Goals as goal

pub returns-then-not-are_below-clause-refused : goal.returns-then-not-are_below-clause-refused
returns-then-not-are_below-clause-refused g c = inl (refl, search rules)

pub returns : goal.returns
returns g c = record {
  forest = subst (IsForest nat_eq) (sym c.into_iter.ensures.rest) c.in_ok-chosen.ensures.forest;
  least = subst (λ xs. IsLeastUnderEveryBound nat_eq g.C.Ord.cmp c.args.edges.now xs) (sym c.into_iter.ensures.rest) c.in_ok-chosen.ensures.least;
  as_written = subst (λ xs. AreChosenFrom g.C.Clone.is_clone c.args.edges.now xs) (sym c.into_iter.ensures.rest) c.in_ok-chosen.ensures.as_written;
  sorted = subst (λ xs. IsSorted (λ (e f : ℕ × ℕ × g.row.C.Denot). g.C.Ord.cmp e.2 f.2) xs) (sym c.into_iter.ensures.rest) c.in_ok-chosen.ensures.sorted;
  known = c.are_below.ensures.0 c.if-not-are_below.false;
  refused = tt;
}
