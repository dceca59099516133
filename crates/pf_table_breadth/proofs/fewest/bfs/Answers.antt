use Rattle.std.proofs.Common.{◌∙◌, sym, rules, arith, [], ◌∷◌, ℕ, ℤ, List, Option, Bool, ap, nat_eq}
use Rattle.std.proofs.lemmas.Cmp.{nat_eq_equiv}
use Rattle.std.proofs.lemmas.Result.{IfOk-from_err}
use Rattle.pf_core.specs.Nodes.{TestedGraph}
use Rattle.pf_core.specs.NodeLaws.{StandsFor-one}
use Rattle.pf_core.specs.Hops.{unit_edges}
use Rattle.pf_core.proofs.WalkLemmas.{no_walk, best_answer}
use Rattle.pf_core.proofs.UnitLemmas.{is_hop, no_next_walk, fewest_of_best, begins_all}
use Rattle.pf_tables.specs.Graphs.{successors_of}
use Rattle.pf_base.proofs.Outcomes.{refused_as}
use Rattle.pf_tables.proofs.Alone.{no_way_alone, fewest_alone}
use Rattle.pf_table_breadth.proofs.ExploreLemmas.{units_listed, successors_outside, starts_below, explored_first}
use borrow.Author.Tests.{eqb-true}
use Rattle.pf_table_breadth.proofs.fewest.bfs.Goals as goal
use Rattle.pf_tables.proofs.GraphLemmas.{nat_alike}

-- the graph of the table with the cost 1 at each edge, searched from one node
abbrev searched : {C : Type 0} → (C → ℤ) → ℕ → (ℕ → List (Option (ℕ × C))) → ℕ → (ℕ → Bool) → TestedGraph ℕ
searched value size places from passes = record { graph = record { starts = from ∷ []; edges = unit_edges (successors_of value size places) }; test = passes }

pub returns-then-not-is_goal : goal.returns-then-not-is_goal
returns-then-not-is_goal g c = record {
  best = let next = successors_of g.C.Number.value (g.G.Graph.size c.args.graph.now) (g.G.Graph.places c.args.graph.now) in
      let outside = successors_outside g.C.Number.value (g.G.Graph.size c.args.graph.now) (g.G.Graph.places c.args.graph.now) c.args.from (omega (arith, c.if-from-len.true, c.len.ensures)) in
      no_way_alone nat_eq_equiv c.args.from (g.T.Goals.passes c.args.goals) (λ a e. ap (g.T.Goals.passes c.args.goals) (eqb-true c.args.from a e)) next outside (sym c.is_goal.ensures ∙ c.if-not-is_goal.true);
  errors = tt;
}

pub returns-in_err-path : goal.returns-in_err-path
returns-in_err-path g c =
    let r = c.from_residual in
    record {
      best = IfOk-from_err _ _ r.ensures.0;
      errors = refused_as _ r.result _ r.ensures.1 c.in_err-path.ensures.refused;
    }

pub returns-then-from-len : goal.returns-then-from-len
returns-then-from-len g c = record {
  best = let next = successors_of g.C.Number.value (g.G.Graph.size c.args.graph.now) (g.G.Graph.places c.args.graph.now) in
      let outside = successors_outside g.C.Number.value (g.G.Graph.size c.args.graph.now) (g.G.Graph.places c.args.graph.now) c.args.from (omega (arith, c.if-from-len.true, c.len.ensures)) in
      rw c.in_ok-path.ensures.one (fewest_alone nat_eq_equiv c.args.from (g.T.Goals.passes c.args.goals) (λ a e. ap (g.T.Goals.passes c.args.goals) (eqb-true c.args.from a e)) next outside (search rules));
  errors = tt;
}

pub returns-in_err-numbering : goal.returns-in_err-numbering
returns-in_err-numbering g c =
    let r = c.from_residual-in_err-numbering in
    record {
      best = IfOk-from_err _ _ r.ensures.0;
      errors = refused_as _ r.result _ r.ensures.1 c.in_err-numbering.ensures.refused;
    }

pub fewest_edges_path-requires-clause-graph : goal.fewest_edges_path-requires-clause-graph
fewest_edges_path-requires-clause-graph g c =
    let size = g.G.Graph.size c.args.graph.now in
    let places = g.G.Graph.places c.args.graph.now in
    let n = c.in_ok-numbering in
    let h = searched g.C.Number.value size places c.args.from (g.T.Goals.passes c.args.goals) in
    (h, explored_first c.args.from n.numbering.order.items n.ensures.one size places h.test h.graph.edges n.numbering.numbers.items _ (units_listed g.C.Number.value size places) n.ensures.index n.ensures.wide c.len-2.ensures)

pub fewest_edges_path-requires-clause-begins : goal.fewest_edges_path-requires-clause-begins
fewest_edges_path-requires-clause-begins g c = λ k l. begins_all nat_eq nat_eq_equiv c.in_ok-numbering.numbering.order.items k l

pub returns-in_err-fewest_edges_path : goal.returns-in_err-fewest_edges_path
returns-in_err-fewest_edges_path g c =
    let r = c.from_residual-in_err-fewest_edges_path in
    record {
      best = IfOk-from_err _ _ r.ensures.0;
      errors = search rules;
    }

pub returns-in-None : goal.returns-in-None
returns-in-None g c = record {
  best = let size = g.G.Graph.size c.args.graph.now in
      let places = g.G.Graph.places c.args.graph.now in
      let next = successors_of g.C.Number.value size places in
      let n = c.in_ok-numbering in
      let h = searched g.C.Number.value size places c.args.from (g.T.Goals.passes c.args.goals) in
      let x = explored_first c.args.from n.numbering.order.items n.ensures.one size places h.test h.graph.edges n.numbering.numbers.items _ (units_listed g.C.Number.value size places) n.ensures.index n.ensures.wide c.len-2.ensures in
      let begins = starts_below c.args.from n.numbering.order.items n.ensures.one in
      let b = rw c.in-None.is at (c.in_ok-fewest_edges_path.ensures.best h x (is_hop nat_eq h.graph.starts next)) in
      no_next_walk nat_eq next h.graph.starts h.test (no_walk nat_eq nat_eq_equiv h.graph (nat_alike h.graph.edges h.graph.starts) _ (λ s. (begins s).1) (λ s. (begins s).0) h.test b);
  errors = tt;
}

pub clones_at-requires-clause-inside : goal.clones_at-requires-clause-inside
clones_at-requires-clause-inside g c = λ k m. rw c.deref.ensures.value ((rw c.in-Some.is at c.in_ok-fewest_edges_path.ensures.inside) k (rw c.deref-in-Some.ensures.value at m))

pub returns-in_err-path-in-Some : goal.returns-in_err-path-in-Some
returns-in_err-path-in-Some g c =
    let r = c.from_residual-in_err-path-in-Some in
    record {
      best = IfOk-from_err _ _ r.ensures.0;
      errors = refused_as _ r.result _ r.ensures.1 c.in_err-path-in-Some.ensures.refused;
    }

pub returns : goal.returns
returns g c = record {
  best = let size = g.G.Graph.size c.args.graph.now in
      let places = g.G.Graph.places c.args.graph.now in
      let next = successors_of g.C.Number.value size places in
      let n = c.in_ok-numbering in
      let h = searched g.C.Number.value size places c.args.from (g.T.Goals.passes c.args.goals) in
      let x = explored_first c.args.from n.numbering.order.items n.ensures.one size places h.test h.graph.edges n.numbering.numbers.items _ (units_listed g.C.Number.value size places) n.ensures.index n.ensures.wide c.len-2.ensures in
      let begins = starts_below c.args.from n.numbering.order.items n.ensures.one in
      let keys = c.fewest_edges_path.new.graph.numbering.order.items in
      let y = c.in_ok-fewest_edges_path.ensures.graph h x in
      let b = rw c.in-Some.is at (c.in_ok-fewest_edges_path.ensures.best h x (is_hop nat_eq h.graph.starts next)) in
      let path = c.in_ok-path-in-Some.path.items in
      fewest_of_best nat_eq next h.graph.starts h.test path b.0
      (best_answer nat_eq nat_eq_equiv h.graph (nat_alike h.graph.edges h.graph.starts) _ (λ s. (begins s).1) (λ s. (begins s).0) h.test (λ a z i e. ap h.test (eqb-true a z e)) keys (StandsFor-one nat_eq nat_eq_equiv keys y.0.distinct) c.in-Some.numbers.items path b.0 b.1
      (rw (c.deref.ensures.value, c.deref-in-Some.ensures.value) at c.in_ok-path-in-Some.ensures.nodes));
  errors = tt;
}
