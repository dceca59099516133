use Rattle.std.proofs.Common.{◌≡◌, ◌<◌, ◌≤◌, ◌∙◌, sym, subst, ℕ, arith, length, ap, Some, List, inl, inr}
use Rattle.std.specs.Prelude.{Contains}
use Rattle.std.proofs.lemmas.List.{length-replicate}
use Rattle.std.proofs.lemmas.Result.{IfOk-from_err}
use Rattle.pf_base.specs.declared.error.PathError.TheVariants.{OutOfMemory}
use Rattle.pf_core.specs.Labels.{by_depth}
use Rattle.pf_base.proofs.Outcomes.{refused_as, refused_by}
use Rattle.pf_discovery.specs.Loops.{Closes, IsBestNumberedLoop}
use Rattle.pf_core.specs.Numbered.{Grows, StandsBelow}
use Rattle.pf_base.proofs.ListLemmas.{Contains-append_one}
use Rattle.pf_core.proofs.SearchLemmas.{Grows-trans}
use Rattle.pf_discovery.proofs.LoopLemmas.{property_nowhere, property_turned, none_closes, best_loop}
use Rattle.pf_core.specs.Breadth.{below}
use Rattle.pf_core.proofs.HopLemmas.{breadth_start, breadth_done, hop_tree_start, hop_search_start, none_settled, hop_least, hop_positive, roots_below, reached_from, started, visit_left}
use Rattle.pf_core.proofs.PathLemmas.{tree_climbs}
use Rattle.pf_core.proofs.HopTurns.{IsHopTurn, settled_fit, hop_turn}
use Rattle.pf_discovery.proofs.bfs_loop.fewest_edges_loop.Goals as goal

pub fill-requires : goal.fill-requires
fill-requires g c = omega (arith, ap length c.new-labels.ensures.items)

pub returns-in_err-fill : goal.returns-in_err-fill
returns-in_err-fill g c = record {
  graph = λ h x. x;
  inside = IfOk-from_err c.from_residual.result _ c.from_residual.ensures.0;
  best = λ h x p. IfOk-from_err c.from_residual.result _ c.from_residual.ensures.0;
  errors = refused_as (λ e. e ≡ OutOfMemory) c.from_residual.result c.in_err-fill.field-0.0 c.from_residual.ensures.1 c.in_err-fill.ensures.refused;
}

pub nodes-init : goal.nodes-init
nodes-init g c =
    let e = started c.new-labels.result.items c.fill.new.labels.items c.node_count-starts.result _ c.first.result c.new-labels.ensures.items c.in_ok-fill.ensures.filled c.first.ensures c.node_count-starts.ensures in
    let len : length c.fill.new.labels.items ≡ g.G.NumberedGraph.node_count c.args.graph.now = ap length e ∙ length-replicate _ (Some (reached_from 0 0)) in
    record {
      first = c.node_count-starts.ensures;
      len = len;
      few = omega (arith, len, c.node_count-starts.ensures, c.in_ok-fill.ensures.few);
      breadth = breadth_start _ c.fill.new.labels.items e len;
      tree = hop_tree_start _ c.fill.new.labels.items e len;
      grown = record { more = omega arith; stays = λ k x h. h; back = λ k x i h. h };
      explored = λ h x. x;
      search = λ h x p. hop_search_start (g.G.NumberedGraph.step h) _ (g.G.NumberedGraph.stands c.args.graph.now) c.fill.new.labels.items e len c.requires.begins;
      failed = λ h x k m y at t here. absurd (none_settled (g.G.NumberedGraph.step h) _ (g.G.NumberedGraph.stands c.args.graph.now) c.fill.new.labels.items e len k m at t);
    }

pub expand-requires-clause-inside : goal.expand-requires-clause-inside
expand-requires-clause-inside g c = omega (arith, c.nodes-test.true, c.len.ensures, c.nodes.invariant.len)

pub expand-requires-clause-graph : goal.expand-requires-clause-graph
expand-requires-clause-graph g c = let r = c.requires.graph in (r.0, c.nodes.invariant.explored r.0 r.1)

pub returns-in_err-expand : goal.returns-in_err-expand
returns-in_err-expand g c = record {
  graph = λ h x. c.in_err-expand.ensures.graph h (c.nodes.invariant.explored h x);
  inside = IfOk-from_err c.from_residual-in_err-expand.result _ c.from_residual-in_err-expand.ensures.0;
  best = λ h x p. IfOk-from_err c.from_residual-in_err-expand.result _ c.from_residual-in_err-expand.ensures.0;
  errors = refused_as (λ e. e ≡ OutOfMemory) c.from_residual-in_err-expand.result c.in_err-expand.field-0.0 c.from_residual-in_err-expand.ensures.1 c.in_err-expand.ensures.refused.0;
}

pub path_to-requires : goal.path_to-requires
path_to-requires g c = rw c.deref-in-Some.ensures.value (tree_climbs _ c.nodes.invariant.tree c.nodes.node (c.nodes.invariant.breadth.full c.nodes.node (omega (arith, c.nodes-test.true, c.len.ensures))))

pub returns-in_err-numbers : goal.returns-in_err-numbers
returns-in_err-numbers g c = record {
  graph = λ h x. c.in_ok-expand.ensures.graph h (c.nodes.invariant.explored h x);
  inside = IfOk-from_err c.from_residual-in_err-numbers.result _ c.from_residual-in_err-numbers.ensures.0;
  best = λ h x p. IfOk-from_err c.from_residual-in_err-numbers.result _ c.from_residual-in_err-numbers.ensures.0;
  errors = refused_as (λ e. e ≡ OutOfMemory) c.from_residual-in_err-numbers.result c.in_err-numbers.field-0.0 c.from_residual-in_err-numbers.ensures.1 c.in_err-numbers.ensures.refused;
}

pub returns-in_err-push : goal.returns-in_err-push
returns-in_err-push g c = record {
  graph = λ h x. c.in_ok-expand.ensures.graph h (c.nodes.invariant.explored h x);
  inside = IfOk-from_err c.from_residual-in_err-push.result _ c.from_residual-in_err-push.ensures.0;
  best = λ h x p. IfOk-from_err c.from_residual-in_err-push.result _ c.from_residual-in_err-push.ensures.0;
  errors = refused_by (λ e. e ≡ OutOfMemory) c.from_residual-in_err-push.result c.from_residual-in_err-push.ensures.1;
}

pub returns-in-Some : goal.returns-in-Some
returns-in-Some g c = record {
  graph = λ h x. c.in_ok-expand.ensures.graph h (c.nodes.invariant.explored h x);
  inside = λ k h.
      let v = c.nodes.invariant in
      let start = rw c.in-Some.is at c.first_below.ensures in
      let more = c.in_ok-expand.ensures.grows.more in
      elim (Contains-append_one c.in_ok-numbers.numbers.items c.in-Some.start k (subst (λ (xs : List ℕ). Contains xs k) c.in_ok-push.ensures.items h)) as (λ _. k < g.G.NumberedGraph.node_count c.expand.new.self) [
        | inl b ↦ let low = subst (λ (n : ℕ). k < n) (ap length c.deref-in-Some.ensures.value ∙ v.len) (c.in_ok-numbers.ensures.inside k b) in omega (arith, low, more)
        | inr e ↦ let low = start.0 in omega (arith, low, e, v.first, v.grown.more, more)
      ];
  best = λ h x p.
      let v = c.nodes.invariant in
      let step = g.G.NumberedGraph.step h in
      let l = v.breadth.full c.nodes.node (omega (arith, c.nodes-test.true, c.len.ensures)) in
      let row = c.in_ok-expand.ensures.listed in
      let start = rw c.in-Some.is at c.first_below.ensures in
      let found = g.G.NumberedGraph.node_count c.args.graph.now in
      let has : Contains row.0 (c.in-Some.start, start.1.0) = subst (λ (xs : List (ℕ × g.row.C.Denot)). Contains xs (c.in-Some.start, start.1.0)) (c.deref.ensures.value ∙ row.1) start.1.1 in
      subst (IsBestNumberedLoop step (StandsBelow found (g.G.NumberedGraph.stands c.args.graph.now)) (g.G.NumberedGraph.stands c.expand.new.self)) (sym c.in_ok-push.ensures.items)
      (best_loop by_depth step (hop_positive step p) found _ _ (g.G.NumberedGraph.stands c.args.graph.now) (g.G.NumberedGraph.stands c.nodes.graph) (g.G.NumberedGraph.stands c.expand.new.self) v.grown c.in_ok-expand.ensures.grows c.nodes.labels.items (v.search h x p) v.tree (v.failed h x)
      c.nodes.node l.0 (hop_least c.nodes.node c.nodes.labels.items v.breadth l.0 l.1) g.C.Number.value row.0 (row.4 h (v.explored h x)) c.in-Some.start (subst (λ (n : ℕ). c.in-Some.start < n) v.first start.0) start.1.0 has
      c.in_ok-numbers.numbers.items (rw c.deref-in-Some.ensures.value at c.in_ok-numbers.ensures.chain));
  errors = tt;
}

pub settle-depth-requires : goal.settle-depth-requires
settle-depth-requires g c = c.nodes.invariant.breadth.full c.nodes.node (omega (arith, c.nodes-test.true, c.len.ensures))

pub behind-requires : goal.behind-requires
behind-requires g c = omega (arith, c.nodes-test.true, c.len.ensures, c.nodes.invariant.few)

pub fill-requires-in-nodes : goal.fill-requires-in-nodes
fill-requires-in-nodes g c =
    let v = c.nodes.invariant in
    settled_fit c.nodes.node c.nodes.labels.items c.settle-depth.new.labels.items c.settle-depth.result c.node_count.result (g.G.NumberedGraph.node_count c.nodes.graph) (g.G.NumberedGraph.node_count c.expand.new.self)
    v.breadth (omega (arith, c.nodes-test.true, c.len.ensures)) v.len c.settle-depth.ensures c.node_count.ensures c.in_ok-expand.ensures.grows.more

pub returns-in_err-fill-2 : goal.returns-in_err-fill-2
returns-in_err-fill-2 g c = record {
  graph = λ h x. c.in_ok-expand.ensures.graph h (c.nodes.invariant.explored h x);
  inside = IfOk-from_err c.from_residual-in_err-fill-2.result _ c.from_residual-in_err-fill-2.ensures.0;
  best = λ h x p. IfOk-from_err c.from_residual-in_err-fill-2.result _ c.from_residual-in_err-fill-2.ensures.0;
  errors = refused_as (λ e. e ≡ OutOfMemory) c.from_residual-in_err-fill-2.result c.in_err-fill-2.field-0.0 c.from_residual-in_err-fill-2.ensures.1 c.in_err-fill-2.ensures.refused;
}

pub overflow_add-node : goal.overflow_add-node
overflow_add-node g c = omega (arith, c.nodes-test.true, c.len.ensures, c.nodes.invariant.few)

pub nodes-smaller : goal.nodes-smaller
nodes-smaller g c = visit_left c.nodes.node c.nodes.labels.items (omega (arith, c.nodes-test.true, c.len.ensures)) c.nodes.invariant.few

pub nodes-preserved : goal.nodes-preserved
nodes-preserved g c =
    let v = c.nodes.invariant in
    let inside : c.nodes.node < length c.nodes.labels.items = omega (arith, c.nodes-test.true, c.len.ensures) in
    let labels = c.nodes.labels.items in
    let labels3 = c.fill-in-nodes.new.labels.items in
    let start = g.G.NumberedGraph.node_count c.args.graph.now in
    let before = g.G.NumberedGraph.node_count c.nodes.graph in
    let found = g.G.NumberedGraph.node_count c.expand.new.self in
    let first = g.G.NumberedGraph.stands c.args.graph.now in
    let stands = g.G.NumberedGraph.stands c.nodes.graph in
    let stands3 = g.G.NumberedGraph.stands c.expand.new.self in
    let row = c.in_ok-expand.ensures.listed in
    let grown = c.in_ok-expand.ensures.grows in
    let all : Grows start found first stands3 = Grows-trans _ _ _ _ _ _ v.grown grown in
    let far = rw c.in_default.is at c.first_below.ensures in
    record {
      first = v.first;
      len = t.len;
      few = t.few;
      breadth = t.breadth;
      tree = t.tree;
      explored = λ h x. c.in_ok-expand.ensures.graph h (v.explored h x);
      grown = all;
      search = λ h x p. t.search (g.G.NumberedGraph.step h) (below start) p before stands stands3 grown v.len (v.search h x p) g.C.Number.value (row.4 h (v.explored h x)) row.2;
      failed = λ h x.
          property_turned (Closes (g.G.NumberedGraph.step h) (StandsBelow start first)) before found stands stands3 grown labels labels3 (omega (arith, v.len)) c.nodes.node (subst (λ (n : ℕ). c.nodes.node < n) v.len inside) t.from
          (λ y k. none_closes g.C.Number.value (g.G.NumberedGraph.step h) start found first stands3 all y row.0 (row.4 h (v.explored h x) y k)
          (λ j d has. subst (λ (n : ℕ). n ≤ j) v.first (far j d (subst (λ (xs : List (ℕ × g.row.C.Denot)). Contains xs (j, d)) (sym (c.deref.ensures.value ∙ row.1)) has))))
          (v.failed h x);
    }
  where
    t : IsHopTurn g.G.NumberedGraph.Node c.nodes.node c.in_ok-expand.ensures.listed.0 c.nodes.labels.items c.fill-in-nodes.new.labels.items (g.G.NumberedGraph.node_count c.expand.new.self)
    t =
        let v = c.nodes.invariant in
        let row = c.in_ok-expand.ensures.listed in
        hop_turn c.nodes.node c.nodes.labels.items c.settle-depth.new.labels.items c.settle-depth.result c.node_count.result (g.G.NumberedGraph.node_count c.nodes.graph) (g.G.NumberedGraph.node_count c.expand.new.self)
        v.breadth (omega (arith, c.nodes-test.true, c.len.ensures)) v.len c.settle-depth.ensures c.node_count.ensures c.in_ok-expand.ensures.grows.more
        g.G.NumberedGraph.Node c.fill-in-nodes.new.labels.items c.behind.result c.behind.ensures c.in_ok-fill-2.ensures.filled c.in_ok-fill-2.ensures.few v.tree row.0 row.3

pub returns : goal.returns
returns g c = record {
  graph = λ h x. c.nodes.invariant.explored h x;
  inside = tt;
  best = λ h x p s is.
      let v = c.nodes.invariant in
      let root = roots_below _ _ _ _ v.grown in
      property_nowhere by_depth (g.G.NumberedGraph.step h) (below (g.G.NumberedGraph.node_count c.args.graph.now)) (hop_positive (g.G.NumberedGraph.step h) p) _ _ (v.search h x p)
      (Closes (g.G.NumberedGraph.step h) (StandsBelow (g.G.NumberedGraph.node_count c.args.graph.now) (g.G.NumberedGraph.stands c.args.graph.now))) (v.failed h x)
      (breadth_done c.nodes.node _ v.breadth (omega (arith, c.nodes-test.false, c.len.ensures))) s ((root s).1 is);
  errors = tt;
}
