use Rattle.std.proofs.Common.{◌∙◌, sym, rules, ◌≡◌, ◌<◌, arith, ℕ, ℤ, pos, List, [], ◌∷◌, Option, Bool, ap, refl, inl}
use Rattle.std.proofs.lemmas.Cmp.{nat_eq_equiv}
use Rattle.std.proofs.lemmas.Result.{IfOk-from_err}
use Rattle.pf_core.specs.Nodes.{TestedGraph}
use Rattle.pf_tables.specs.Graphs.{graph_of}
use Rattle.pf_base.proofs.Outcomes.{no_overflow, ok_not_err, refused_as}
use Rattle.pf_tables.proofs.Alone.{no_walk_alone, cheapest_alone}
use Rattle.pf_tables.proofs.GraphLemmas.{edge_from_zero, edges_outside, edges_within}
use Rattle.pf_tables.proofs.OwnLemmas.{own_answer, own_cost_overflows}
use borrow.Author.Tests.{eqb-true}
use Rattle.pf_tables.proofs.cheapest.dijkstra.Goals as goal
use Rattle.pf_tables.specs.Internal.OwnNumbers.{IsTable}

-- the graph of the table, which is the one that is searched
abbrev searched : {C : Type 0} → (C → ℤ) → ℕ → (ℕ → List (Option (ℕ × C))) → ℕ → (ℕ → Bool) → TestedGraph ℕ
searched value size places from passes = record { graph = record { starts = from ∷ []; edges = graph_of value size places }; test = passes }

is_table : {C : Type 0} (value : C → ℤ) (size : ℕ) (places : ℕ → List (Option (ℕ × C))) (from : ℕ) (passes : ℕ → Bool) → IsTable value size places passes (searched value size places from passes)
is_table value size places from passes = record { listed = λ n h. edges_within value size places n h; tested = λ n. refl }

pub returns-then-not-is_goal : goal.returns-then-not-is_goal
returns-then-not-is_goal g c = record {
  best = let edges = graph_of g.C.Number.value (g.G.Graph.size c.args.graph.now) (g.G.Graph.places c.args.graph.now) in
      let outside = edges_outside g.C.Number.value (g.G.Graph.size c.args.graph.now) (g.G.Graph.places c.args.graph.now) c.args.from (omega (arith, c.if-from-len.true, c.len.ensures)) in
      no_walk_alone nat_eq_equiv c.args.from (g.T.Goals.passes c.args.goals) (λ a e. ap (g.T.Goals.passes c.args.goals) (eqb-true c.args.from a e)) edges outside (sym c.is_goal.ensures ∙ c.if-not-is_goal.true);
  overflow = λ e. absurd (ok_not_err e);
  errors = tt;
}

pub returns-in_err-path : goal.returns-in_err-path
returns-in_err-path g c =
    let r = c.from_residual in
    record {
      best = IfOk-from_err _ _ r.ensures.0;
      overflow = λ e. absurd (no_overflow r.result _ r.ensures.1 c.in_err-path.ensures.refused e);
      errors = refused_as _ r.result _ r.ensures.1 (inl c.in_err-path.ensures.refused);
    }

pub returns-then-from-len : goal.returns-then-from-len
returns-then-from-len g c = record {
  best = let edges = graph_of g.C.Number.value (g.G.Graph.size c.args.graph.now) (g.G.Graph.places c.args.graph.now) in
      let outside = edges_outside g.C.Number.value (g.G.Graph.size c.args.graph.now) (g.G.Graph.places c.args.graph.now) c.args.from (omega (arith, c.if-from-len.true, c.len.ensures)) in
      let zero : g.C.Number.value c.zero.result ≡ pos 0 = search rules in
      rw (c.in_ok-path.ensures.one, zero) (cheapest_alone nat_eq_equiv c.args.from (g.T.Goals.passes c.args.goals) (λ a e. ap (g.T.Goals.passes c.args.goals) (eqb-true c.args.from a e)) edges outside (search rules));
  overflow = λ e. absurd (ok_not_err e);
  errors = tt;
}

pub cheapest_path-requires-clause-graph : goal.cheapest_path-requires-clause-graph
cheapest_path-requires-clause-graph g c =
    let value = g.C.Number.value in
    let size = g.G.Graph.size c.args.graph.now in
    let places = g.G.Graph.places c.args.graph.now in
    let passes = g.T.Goals.passes c.args.goals in
    (searched value size places c.args.from passes, is_table value size places c.args.from passes)

pub returns-clause-best : goal.returns-clause-best
returns-clause-best g c =
    let value = g.C.Number.value in
    let size = g.G.Graph.size c.args.graph.now in
    let places = g.G.Graph.places c.args.graph.now in
    let passes = g.T.Goals.passes c.args.goals in
    let inside : c.args.from < size = omega (arith, c.if-from-len.false, c.len.ensures) in
    own_answer (graph_of value size places) c.args.from size inside passes _ (λ v. v.items) value c.cheapest_path.result c.cheapest_path.ensures.inside
    (c.cheapest_path.ensures.best (searched value size places c.args.from passes) (is_table value size places c.args.from passes) (record { non_negative = λ a z b s. edge_from_zero value size places c.known.ensures a b z s }))

pub returns-clause-overflow : goal.returns-clause-overflow
returns-clause-overflow g c = λ e.
    let value = g.C.Number.value in
    let size = g.G.Graph.size c.args.graph.now in
    let places = g.G.Graph.places c.args.graph.now in
    let passes = g.T.Goals.passes c.args.goals in
    let inside : c.args.from < size = omega (arith, c.if-from-len.false, c.len.ensures) in
    own_cost_overflows (graph_of value size places) c.args.from size inside passes _ g.C.Number.fits
    (c.cheapest_path.ensures.overflow (searched value size places c.args.from passes) (is_table value size places c.args.from passes) (record { non_negative = λ a z b s. edge_from_zero value size places c.known.ensures a b z s }) e)
