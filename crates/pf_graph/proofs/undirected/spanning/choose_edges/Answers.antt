use Rattle.std.proofs.Common.{◌≤◌, ℕ, ◌≡◌, arith, nat_eq, sym, ◌∙◌, subst, length, ◌∷◌, ◌++◌, [], vec_len}
use Rattle.std.specs.Prelude.{Contains, map}
use Rattle.std.proofs.lemmas.List.{map-id}
use Rattle.std.proofs.lemmas.Iterator.Adapters.{YieldsList-from_vec}
use Rattle.std.proofs.lemmas.Iterator.Consumers.{YieldsList-so_far, YieldsList-turn, YieldsList-end}
use Rattle.pf_graph.proofs.Spanning.KruskalLemmas.{Grown, Grown-start, Grown-take, Grown-skip}
use Rattle.pf_graph.proofs.Spanning.PlacedLemmas.{placed-below, placed-as, placed-heavy}
use Rattle.pf_graph.specs.Spanning.{IsLeastUnderEveryBound}
use Rattle.pf_graph.specs.Internal.Spanning.SpanningSteps.{placed}
use Rattle.std.proofs.lemmas.Result.{IfOk-from_err}
use Rattle.pf_base.proofs.Outcomes.{refused_by}
use Rattle.pf_graph.proofs.undirected.spanning.choose_edges.Goals as goal

pub edges-init : goal.edges-init
edges-init g c = record {
  sound = c.requires.sound;
  grown =
      let parents = map g.V.VertexNumber.stands_for c.args.parents.now in
      subst (λ xs. Grown g.C.Ord.cmp [] xs parents) (sym c.in_ok-chosen.ensures.items) (Grown-start g.C.Ord.cmp parents c.requires.singletons);
}

pub unite-requires-clause-inside : goal.unite-requires-clause-inside
unite-requires-clause-inside g c =
    let vertex = g.V.VertexNumber.stands_for in
    let len : vec_len c.args.sorted ≡ length c.args.sorted.items = c.args.sorted.ok.0 in
    let road = YieldsList-from_vec c.args.sorted.items c.into_iter-edge-iterator.ensures.into_iter_gives.0 (c.into_iter-edge-iterator.ensures.into_iter_gives.1 ∙ len) in
    let t = YieldsList-turn road c.edges.yielded c.edges.edge-iterator c.edges.yielded_by c.next.result c.next.new.self c.in-Some.edge c.in-Some.is c.next.ensures.steps in
    let low = placed-below vertex (length c.args.parents.now) c.args.sorted.items c.requires.below (length c.edges.yielded) c.in-Some.edge t.0 t.1 in
    (omega (arith, low.0, c.vertex-one.ensures, c.edges.auto.parents), omega (arith, low.1, c.vertex-other.ensures, c.edges.auto.parents))

pub edges-preserved : goal.edges-preserved
edges-preserved g c =
    let vertex = g.V.VertexNumber.stands_for in
    let len : vec_len c.args.sorted ≡ length c.args.sorted.items = c.args.sorted.ok.0 in
    let road = YieldsList-from_vec c.args.sorted.items c.into_iter-edge-iterator.ensures.into_iter_gives.0 (c.into_iter-edge-iterator.ensures.into_iter_gives.1 ∙ len) in
    let t = YieldsList-turn road c.edges.yielded c.edges.edge-iterator c.edges.yielded_by c.next.result c.next.new.self c.in-Some.edge c.in-Some.is c.next.ensures.steps in
    let so_far = sym (map-id c.edges.yielded) ∙ YieldsList-so_far road c.edges.yielded c.edges.edge-iterator c.edges.yielded_by in
    let i = c.edges.invariant.grown in
    let u = c.if-unite.ensures.labels i.label i.labels in
    let e = c.in-Some.edge in
    let taken : ℕ × ℕ × g.row.C.Denot = (c.vertex-one.result, c.vertex-other.result, e.2) in
    let more = placed-as vertex c.edges.yielded e c.vertex-one.result c.vertex-other.result c.vertex-one.ensures c.vertex-other.ensures in
    let up = λ (d : ℕ × ℕ × g.row.C.Denot) (h : Contains (placed vertex c.edges.yielded) d). placed-heavy vertex g.C.Ord.cmp g.met.C.Ord.total c.args.sorted.items c.requires.sorted (length c.edges.yielded) e t.0 t.1 d (subst (λ xs. Contains (placed vertex xs) d) so_far h) in
    record {
      sound = c.unite.ensures.sound;
      grown = subst (λ xs. Grown g.C.Ord.cmp xs c.edges.chosen.items (map vertex c.unite.new.parents)) (sym more)
          (Grown-skip g.C.Ord.cmp g.met.C.Ord.total (placed vertex c.edges.yielded) c.edges.chosen.items (map vertex c.edges.parents) (map vertex c.unite.new.parents) taken i up u.0 u.1 u.2.0 u.2.1);
    }

pub edges-preserved-in-Continue-branch-2 : goal.edges-preserved-in-Continue-branch-2
edges-preserved-in-Continue-branch-2 g c =
    let vertex = g.V.VertexNumber.stands_for in
    let len : vec_len c.args.sorted ≡ length c.args.sorted.items = c.args.sorted.ok.0 in
    let road = YieldsList-from_vec c.args.sorted.items c.into_iter-edge-iterator.ensures.into_iter_gives.0 (c.into_iter-edge-iterator.ensures.into_iter_gives.1 ∙ len) in
    let t = YieldsList-turn road c.edges.yielded c.edges.edge-iterator c.edges.yielded_by c.next.result c.next.new.self c.in-Some.edge c.in-Some.is c.next.ensures.steps in
    let so_far = sym (map-id c.edges.yielded) ∙ YieldsList-so_far road c.edges.yielded c.edges.edge-iterator c.edges.yielded_by in
    let i = c.edges.invariant.grown in
    let u = c.if-unite.ensures.labels i.label i.labels in
    let e = c.in-Some.edge in
    let taken : ℕ × ℕ × g.row.C.Denot = (c.vertex-one.result, c.vertex-other.result, e.2) in
    let more = placed-as vertex c.edges.yielded e c.vertex-one.result c.vertex-other.result c.vertex-one.ensures c.vertex-other.ensures in
    let up = λ (d : ℕ × ℕ × g.row.C.Denot) (h : Contains (placed vertex c.edges.yielded) d). placed-heavy vertex g.C.Ord.cmp g.met.C.Ord.total c.args.sorted.items c.requires.sorted (length c.edges.yielded) e t.0 t.1 d (subst (λ xs. Contains (placed vertex xs) d) so_far h) in
    record {
      sound = c.unite.ensures.sound;
      grown = subst (λ xs. Grown g.C.Ord.cmp xs c.push.new.self.items (map vertex c.unite.new.parents)) (sym more)
          (subst (λ xs. Grown g.C.Ord.cmp (placed vertex c.edges.yielded ++ taken ∷ []) xs (map vertex c.unite.new.parents)) (sym c.in_ok-push.ensures.items)
          (Grown-take g.C.Ord.cmp g.met.C.Ord.total (placed vertex c.edges.yielded) c.edges.chosen.items (map vertex c.edges.parents) (map vertex c.unite.new.parents) taken i up u.0 u.1 u.2.0 u.2.1));
    }

pub returns-clause-given : goal.returns-clause-given
returns-clause-given g c = λ e h.
    let len : vec_len c.args.sorted ≡ length c.args.sorted.items = c.args.sorted.ok.0 in
    let road = YieldsList-from_vec c.args.sorted.items c.into_iter-edge-iterator.ensures.into_iter_gives.0 (c.into_iter-edge-iterator.ensures.into_iter_gives.1 ∙ len) in
    let all = YieldsList-end road c.edges.yielded c.edges.edge-iterator c.edges.yielded_by c.next.result c.next.new.self c.in-None.is c.next.ensures.steps in
    subst (λ xs. Contains (placed g.V.VertexNumber.stands_for xs) e) (sym (map-id c.edges.yielded) ∙ all.0) (c.edges.invariant.grown.from e h)

pub returns-clause-least : goal.returns-clause-least
returns-clause-least g c =
    let len : vec_len c.args.sorted ≡ length c.args.sorted.items = c.args.sorted.ok.0 in
    let road = YieldsList-from_vec c.args.sorted.items c.into_iter-edge-iterator.ensures.into_iter_gives.0 (c.into_iter-edge-iterator.ensures.into_iter_gives.1 ∙ len) in
    let all = YieldsList-end road c.edges.yielded c.edges.edge-iterator c.edges.yielded_by c.next.result c.next.new.self c.in-None.is c.next.ensures.steps in
    subst (λ xs. IsLeastUnderEveryBound nat_eq g.C.Ord.cmp (placed g.V.VertexNumber.stands_for xs) c.edges.chosen.items) (sym (map-id c.edges.yielded) ∙ all.0)
    (record { joins = c.edges.invariant.grown.least })

pub unite-requires-clause-sound : goal.unite-requires-clause-sound
unite-requires-clause-sound g c = c.edges.invariant.sound

pub returns-clause-forest : goal.returns-clause-forest
returns-clause-forest g c = c.edges.invariant.grown.forest

pub returns-clause-sorted : goal.returns-clause-sorted
returns-clause-sorted g c = c.edges.invariant.grown.sorted

pub returns-in_err-push : goal.returns-in_err-push
returns-in_err-push g c = record {
  forest = IfOk-from_err _ _ c.from_residual-in_err-push.ensures.0;
  least = IfOk-from_err _ _ c.from_residual-in_err-push.ensures.0;
  given = IfOk-from_err _ _ c.from_residual-in_err-push.ensures.0;
  sorted = IfOk-from_err _ _ c.from_residual-in_err-push.ensures.0;
  refused = refused_by _ c.from_residual-in_err-push.result c.from_residual-in_err-push.ensures.1;
}

pub returns-in_err-chosen : goal.returns-in_err-chosen
returns-in_err-chosen g c = record {
  forest = IfOk-from_err _ _ c.from_residual.ensures.0;
  least = IfOk-from_err _ _ c.from_residual.ensures.0;
  given = IfOk-from_err _ _ c.from_residual.ensures.0;
  sorted = IfOk-from_err _ _ c.from_residual.ensures.0;
  refused = refused_by _ c.from_residual.result c.from_residual.ensures.1;
}

pub unite-requires-clause-fit : goal.unite-requires-clause-fit
unite-requires-clause-fit g c = subst (λ (n : ℕ). n ≤ g.V.VertexNumber.bound) (sym c.edges.auto.parents) c.requires.fit

pub edges-smaller : goal.edges-smaller
edges-smaller g c = (c.in-Some.ensures.goes.on c.edges.iterator.1).2

pub edges-smaller-in-Continue-branch-2 : goal.edges-smaller-in-Continue-branch-2
edges-smaller-in-Continue-branch-2 g c = (c.in-Some.ensures.goes.on c.edges.iterator.1).2

pub returns-clause-refused : goal.returns-clause-refused
returns-clause-refused g c = tt
