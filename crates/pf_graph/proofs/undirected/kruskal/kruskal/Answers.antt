use Rattle.std.proofs.Common.{ℕ, sym, subst, rules, nat_eq}
use Rattle.std.specs.Prelude.{All, Contains, map}
use Rattle.std.specs.List.Sorted.{IsSorted}
use Rattle.pf_graph.specs.EdgesByReference.{shown}
use Rattle.pf_graph.specs.declared.undirected.weighed.Weighed.{Weighed}
use Rattle.pf_graph.specs.Spanning.{IsForest, IsLeastUnderEveryBound, AreChosenFrom, AreBelow}
use Rattle.pf_graph.proofs.Spanning.PlacedLemmas.{placed-same}
use Rattle.pf_graph.proofs.Spanning.NameLemmas.{numbered_below, written_forest, written_least, written_given, written_sorted}
use Rattle.pf_graph.proofs.undirected.kruskal.kruskal.Given.{Over}
use Rattle.pf_base.proofs.Outcomes.{if_refused, refused_as}
use Rattle.pf_graph.proofs.undirected.kruskal.kruskal.Goals as goal
use Rattle.pf_graph.proofs.undirected.kruskal.kruskal.Goals.{After-into_iter}

pub spanning_forest-requires : goal.spanning_forest-requires
spanning_forest-requires g c =
    let n = c.in_ok-numbered.ensures.numbered in
    record { fit = c.in_ok-numbered.ensures.few; below = subst (λ xs. AreBelow c.in_ok-numbered.numbered.count xs) (sym (placed-same c.in_ok-numbered.numbered.edges.items)) (numbered_below n.0 c.args.edges.now c.in_ok-numbered.numbered.edges.items n.2 c.in_ok-numbered.numbered.count n.1) }

weights-cloned : (g : Over) (c : After-into_iter g) → All (λ (e : ℕ × ℕ × Weighed g.row.N.Denot g.row.C.Denot g.row.C.Denot). g.C.Clone.is_clone e.2.edge.now.2 e.2.weight) c.in_ok-numbered.numbered.edges.items
weights-cloned g c = λ k d inside. let r = c.in_ok-numbered.ensures.weighed k d inside in let e = r.shows in let p = r.says.met in search rules

given : (g : Over) (c : After-into_iter g) (e : ℕ × ℕ × Weighed g.row.N.Denot g.row.C.Denot g.row.C.Denot) → Contains c.in_ok-chosen.chosen.items e → Contains c.in_ok-numbered.numbered.edges.items e
given g c e h = subst (λ xs. Contains xs e) (placed-same c.in_ok-numbered.numbered.edges.items) (c.in_ok-chosen.ensures.given e h)

least : (g : Over) (c : After-into_iter g) → IsLeastUnderEveryBound nat_eq (λ (v w : Weighed g.row.N.Denot g.row.C.Denot g.row.C.Denot). g.C.Ord.cmp v.weight w.weight) c.in_ok-numbered.numbered.edges.items c.in_ok-chosen.chosen.items
least g c = subst (λ xs. IsLeastUnderEveryBound nat_eq (λ (v w : Weighed g.row.N.Denot g.row.C.Denot g.row.C.Denot). g.C.Ord.cmp v.weight w.weight) xs c.in_ok-chosen.chosen.items) (placed-same c.in_ok-numbered.numbered.edges.items) c.in_ok-chosen.ensures.least

pub returns : goal.returns
returns g c = record {
  forest =
      let n = c.in_ok-numbered.ensures.numbered in
      subst (λ xs. IsForest g.N.PartialEq.eq (map shown xs)) (sym c.into_iter.ensures.rest)
      (written_forest g.met.N.Eq.laws n.0 c.args.edges.now c.in_ok-numbered.numbered.edges.items n.2 c.in_ok-chosen.chosen.items (map shown c.in_ok-written.written.items) c.in_ok-written.ensures.written (given g c) c.in_ok-chosen.ensures.forest);
  least =
      let n = c.in_ok-numbered.ensures.numbered in
      subst (λ xs. IsLeastUnderEveryBound g.N.PartialEq.eq g.C.Ord.cmp c.args.edges.now (map shown xs)) (sym c.into_iter.ensures.rest)
      (written_least g.met.N.Eq.laws n.0 c.args.edges.now c.in_ok-numbered.numbered.edges.items n.2 c.in_ok-chosen.chosen.items (map shown c.in_ok-written.written.items) c.in_ok-written.ensures.written (given g c) g.C.Clone.is_clone (weights-cloned g c) g.met.C.Ord.total g.met.C.Ord.matches_eq c.requires.clones (least g c));
  as_written =
      let n = c.in_ok-numbered.ensures.numbered in
      subst (λ xs. AreChosenFrom g.C.Clone.is_clone c.args.edges.now (map shown xs)) (sym c.into_iter.ensures.rest)
      (written_given g.met.N.Eq.laws n.0 c.args.edges.now c.in_ok-numbered.numbered.edges.items n.2 c.in_ok-chosen.chosen.items (map shown c.in_ok-written.written.items) c.in_ok-written.ensures.written (given g c) g.C.Clone.is_clone (weights-cloned g c));
  sorted =
      subst (λ xs. IsSorted (λ (e f : g.row.N.Denot × g.row.N.Denot × g.row.C.Denot). g.C.Ord.cmp e.2 f.2) (map shown xs)) (sym c.into_iter.ensures.rest)
      (written_sorted g.C.Ord.cmp c.in_ok-chosen.chosen.items (map shown c.in_ok-written.written.items) c.in_ok-written.ensures.written c.in_ok-chosen.ensures.sorted);
  refused = tt;
}

pub returns-in_err-numbered : goal.returns-in_err-numbered
returns-in_err-numbered g c = record {
  forest = if_refused _ c.from_residual.result _ c.from_residual.ensures.1;
  least = if_refused _ c.from_residual.result _ c.from_residual.ensures.1;
  as_written = if_refused _ c.from_residual.result _ c.from_residual.ensures.1;
  sorted = if_refused _ c.from_residual.result _ c.from_residual.ensures.1;
  refused = refused_as _ c.from_residual.result _ c.from_residual.ensures.1 c.in_err-numbered.ensures.refused;
}

pub returns-in_err-chosen : goal.returns-in_err-chosen
returns-in_err-chosen g c = record {
  forest = if_refused _ c.from_residual-in_err-chosen.result _ c.from_residual-in_err-chosen.ensures.1;
  least = if_refused _ c.from_residual-in_err-chosen.result _ c.from_residual-in_err-chosen.ensures.1;
  as_written = if_refused _ c.from_residual-in_err-chosen.result _ c.from_residual-in_err-chosen.ensures.1;
  sorted = if_refused _ c.from_residual-in_err-chosen.result _ c.from_residual-in_err-chosen.ensures.1;
  refused = refused_as _ c.from_residual-in_err-chosen.result _ c.from_residual-in_err-chosen.ensures.1 c.in_err-chosen.ensures.refused;
}

pub returns-in_err-written : goal.returns-in_err-written
returns-in_err-written g c = record {
  forest = if_refused _ c.from_residual-in_err-written.result _ c.from_residual-in_err-written.ensures.1;
  least = if_refused _ c.from_residual-in_err-written.result _ c.from_residual-in_err-written.ensures.1;
  as_written = if_refused _ c.from_residual-in_err-written.result _ c.from_residual-in_err-written.ensures.1;
  sorted = if_refused _ c.from_residual-in_err-written.result _ c.from_residual-in_err-written.ensures.1;
  refused = refused_as _ c.from_residual-in_err-written.result _ c.from_residual-in_err-written.ensures.1 c.in_err-written.ensures.refused;
}
