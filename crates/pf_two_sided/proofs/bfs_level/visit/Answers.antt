use Rattle.std.proofs.Common.{ℕ, ◌<◌, ◌≤◌, ◌≡◌, ◌∙◌, arith, length, refl, subst}
use Rattle.std.specs.Prelude.{Contains}
use Rattle.pf_base.specs.declared.error.PathError.TheVariants.{OutOfMemory}
use Rattle.pf_base.proofs.Outcomes.{on_refused, refused_as}
use Rattle.pf_core.proofs.HopLemmas.{breadth_turn, hop_tree, hop_turned, hop_len, resized}
use Rattle.pf_core.proofs.WaveLemmas.{layered_turn, turned_len}
use Rattle.pf_two_sided.proofs.bfs_level.visit.Goals as goal

pub expand-requires-clause-inside : goal.expand-requires-clause-inside
expand-requires-clause-inside g c = subst (λ (n : ℕ). c.args.wave.now.next < n) c.requires.wave.len c.requires.left

pub expand-requires-clause-graph : goal.expand-requires-clause-graph
expand-requires-clause-graph g c = c.requires.graph

pub returns-in_err-expand : goal.returns-in_err-expand
returns-in_err-expand g c = record {
  graph = c.in_err-expand.ensures.graph;
  grows = c.in_err-expand.ensures.grows;
  other = c.in_err-expand.ensures.other;
  wave = on_refused _ c.from_residual.result c.in_err-expand.field-0.0 c.from_residual.ensures.1;
  next = on_refused _ c.from_residual.result c.in_err-expand.field-0.0 c.from_residual.ensures.1;
  layered = on_refused _ c.from_residual.result c.in_err-expand.field-0.0 c.from_residual.ensures.1;
  search = on_refused _ c.from_residual.result c.in_err-expand.field-0.0 c.from_residual.ensures.1;
  errors = refused_as (λ e. e ≡ OutOfMemory) c.from_residual.result c.in_err-expand.field-0.0 c.from_residual.ensures.1 c.in_err-expand.ensures.refused;
}

pub settle-depth-requires : goal.settle-depth-requires
settle-depth-requires g c = c.requires.wave.breadth.full c.args.wave.now.next c.requires.left

pub behind-requires : goal.behind-requires
behind-requires g c = omega (arith, c.requires.left, c.requires.wave.len, c.requires.wave.few)

pub fill-requires : goal.fill-requires
fill-requires g c =
    let w = c.requires.wave in
    let l = w.breadth.full c.args.wave.now.next c.requires.left in
    let s = c.settle-depth.ensures l.0 l.1 in
    omega (arith, hop_len c.args.wave.now.next l.0 c.args.wave.now.labels.items c.settle-depth.new.labels.items w.breadth l.1 s.1, w.len, c.in_ok-expand.ensures.grows.more, c.node_count.ensures)

pub returns-in_err-fill : goal.returns-in_err-fill
returns-in_err-fill g c = record {
  graph = c.in_ok-expand.ensures.graph;
  grows = c.in_ok-expand.ensures.grows;
  other = c.in_ok-expand.ensures.other;
  wave = on_refused _ c.from_residual-in_err-fill.result c.in_err-fill.field-0.0 c.from_residual-in_err-fill.ensures.1;
  next = on_refused _ c.from_residual-in_err-fill.result c.in_err-fill.field-0.0 c.from_residual-in_err-fill.ensures.1;
  layered = on_refused _ c.from_residual-in_err-fill.result c.in_err-fill.field-0.0 c.from_residual-in_err-fill.ensures.1;
  search = on_refused _ c.from_residual-in_err-fill.result c.in_err-fill.field-0.0 c.from_residual-in_err-fill.ensures.1;
  errors = refused_as (λ e. e ≡ OutOfMemory) c.from_residual-in_err-fill.result c.in_err-fill.field-0.0 c.from_residual-in_err-fill.ensures.1 c.in_err-fill.ensures.refused;
}

pub overflow_add-wave : goal.overflow_add-wave
overflow_add-wave g c = omega (arith, c.requires.left, c.requires.wave.len, c.requires.wave.few)

pub returns : goal.returns
returns g c =
    let w = c.requires.wave in
    let n = c.args.wave.now.next in
    record {
      graph = c.in_ok-expand.ensures.graph;
      grows = c.in_ok-expand.ensures.grows;
      other = c.in_ok-expand.ensures.other;
      wave =
          let labels = c.args.wave.now.labels.items in
          let labels1 = c.settle-depth.new.labels.items in
          let labels3 = c.fill.new.labels.items in
          let l = w.breadth.full n c.requires.left in
          let s = c.settle-depth.ensures l.0 l.1 in
          let e3 = resized labels1 labels3 _ n l.0.depth c.settle-depth.result c.behind.result c.in_ok-fill.ensures.filled c.behind.ensures s.0 in
          let len3 : length labels3 ≡ g.G.TwoSidedGraph.node_count c.expand.new.self c.args.side = turned_len n l.0 labels labels1 labels3 w.breadth l.1 s.1 _ e3 c.node_count.result refl (omega (arith, w.len, c.in_ok-expand.ensures.grows.more, c.node_count.ensures)) ∙ c.node_count.ensures in
          let row = c.in_ok-expand.ensures.listed in
          let fresh : (k : ℕ) → length labels ≤ k → k < g.G.TwoSidedGraph.node_count c.expand.new.self c.args.side → (d : g.row.C.Denot) × Contains row.0 (k, d) = λ k le lt. row.2 k (omega (arith, le, w.len)) lt in
          record {
            len = len3;
            few = omega (arith, c.node_count.ensures, c.in_ok-fill.ensures.few);
            breadth = breadth_turn n l.0 labels labels1 labels3 w.breadth l.1 s.1 _ e3;
            tree = hop_tree n l.0 labels labels1 labels3 w.breadth l.1 s.1 _ e3 row.0 _ len3 fresh w.tree;
          };
      next = refl;
      layered =
          let l = w.breadth.full n c.requires.left in
          let s = c.settle-depth.ensures l.0 l.1 in
          layered_turn n l.0 c.args.wave.now.labels.items c.settle-depth.new.labels.items c.fill.new.labels.items w.breadth l.1 s.1 _
          (resized c.settle-depth.new.labels.items c.fill.new.labels.items _ n l.0.depth c.settle-depth.result c.behind.result c.in_ok-fill.ensures.filled c.behind.ensures s.0);
      search = λ h x hop root search.
          let w = c.requires.wave in
          let n = c.args.wave.now.next in
          let labels = c.args.wave.now.labels.items in
          let labels1 = c.settle-depth.new.labels.items in
          let labels3 = c.fill.new.labels.items in
          let l = w.breadth.full n c.requires.left in
          let s = c.settle-depth.ensures l.0 l.1 in
          let e3 = resized labels1 labels3 _ n l.0.depth c.settle-depth.result c.behind.result c.in_ok-fill.ensures.filled c.behind.ensures s.0 in
          let len3 : length labels3 ≡ g.G.TwoSidedGraph.node_count c.expand.new.self c.args.side = turned_len n l.0 labels labels1 labels3 w.breadth l.1 s.1 _ e3 c.node_count.result refl (omega (arith, w.len, c.in_ok-expand.ensures.grows.more, c.node_count.ensures)) ∙ c.node_count.ensures in
          let row = c.in_ok-expand.ensures.listed in
          let fresh : (k : ℕ) → length labels ≤ k → k < g.G.TwoSidedGraph.node_count c.expand.new.self c.args.side → (d : g.row.C.Denot) × Contains row.0 (k, d) = λ k le lt. row.2 k (omega (arith, le, w.len)) lt in
          hop_turned n l.0 labels labels1 labels3 w.breadth l.1 s.1 _ e3 row.0 _ len3 fresh (g.G.TwoSidedGraph.step h c.args.side) root hop _ search w.tree
          _ _ c.in_ok-expand.ensures.grows w.len g.C.Number.value (λ y k. row.3 h x y k) row.1;
      errors = tt;
    }
