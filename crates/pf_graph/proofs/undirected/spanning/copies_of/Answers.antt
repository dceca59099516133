use Rattle.std.proofs.Common.{ℕ, ◌<◌, ◌≡◌, List, [], length, get_or, arith, sym, subst, ap, ◌∙◌, take, take_all, ◌+◌}
use Rattle.pf_graph.specs.Internal.Spanning.SpanningSteps.{HoldsCopies, placed}
use Rattle.pf_graph.proofs.Spanning.CopyLemmas.{HoldsCopies-more}
use Rattle.pf_graph.proofs.Spanning.PlacedLemmas.{place, placed-push}
use Rattle.std.proofs.lemmas.Result.{IfOk-from_err}
use Rattle.pf_base.proofs.Outcomes.{refused_by}
use Rattle.pf_graph.specs.Spanning.{AreBelow}
use borrow.Author.Count.{falls}
use Rattle.pf_graph.proofs.undirected.spanning.copies_of.Goals as goal

-- both numbers of an edge are below the bound
below_both : {C : Type 0} (n i : ℕ) (edges : List (ℕ × ℕ × C)) (e : ℕ × ℕ × C) → AreBelow n edges → i < length edges → e ≡ get_or edges i e → (e.0 < n) × (e.1 < n)
below_both n i edges e below more is = subst (λ d. (d.0 < n) × (d.1 < n)) (sym is) (below i e more)

none_copied : {N C : Type 0} (is_clone : C → C → Type 0) → HoldsCopies {N = N} is_clone [] []
none_copied is_clone = record {
  from = λ e h. absurd (not-lt-zero h.0 h.1);
  all = λ e h. absurd (not-lt-zero h.0 h.1);
}
  where
    not-lt-zero : (k : ℕ) → k < 0 → ⊥
    not-lt-zero k h = omega arith

pub loop-edge-preserved : goal.loop-edge-preserved
loop-edge-preserved g c =
    let is_clone = g.C.Clone.is_clone in
    let vertex = g.V.VertexNumber.stands_for in
    let e = c.edge-item.result in
    let made : g.row.V.Denot × g.row.V.Denot × g.row.C.Denot = (c.of.result, c.of-in-loop-edge.result, c.in_ok-clone.field-0) in
    subst (λ xs. HoldsCopies is_clone (take (c.loop-edge.edge-index + 1) c.args.edges.now) xs) (sym (ap (placed vertex) c.in_ok-push.ensures.items ∙ placed-push vertex c.loop-edge.copies.items made))
    (HoldsCopies-more is_clone c.args.edges.now (placed vertex c.loop-edge.copies.items) c.loop-edge.edge-index e (place vertex made) c.loop-edge-test.true c.edge-item.is (sym c.of.ensures) (sym c.of-in-loop-edge.ensures) c.in_ok-clone.ensures.cases c.loop-edge.invariant)

pub returns : goal.returns
returns g c = record {
  copies = subst (λ xs. HoldsCopies g.C.Clone.is_clone xs (placed g.V.VertexNumber.stands_for c.loop-edge.copies.items)) (take_all c.loop-edge.edge-index c.args.edges.now c.loop-edge-test.false) c.loop-edge.invariant;
  refused = tt;
}

pub returns-in_err-copies-clause-copies : goal.returns-in_err-copies-clause-copies
returns-in_err-copies-clause-copies g c = IfOk-from_err _ _ c.from_residual.ensures.0

pub returns-in_err-copies-clause-refused : goal.returns-in_err-copies-clause-refused
returns-in_err-copies-clause-refused g c = refused_by _ c.from_residual.result c.from_residual.ensures.1

pub loop-edge-init : goal.loop-edge-init
loop-edge-init g c = subst (λ xs. HoldsCopies g.C.Clone.is_clone [] (placed g.V.VertexNumber.stands_for xs)) (sym c.in_ok-copies.ensures.items) (none_copied g.C.Clone.is_clone)

pub bounds-edges-edge-index : goal.bounds-edges-edge-index
bounds-edges-edge-index g c = c.loop-edge-test.true

pub of-requires : goal.of-requires
of-requires g c = (below_both g.V.VertexNumber.bound c.loop-edge.edge-index c.args.edges.now c.edge-item.result c.requires.fit c.loop-edge-test.true c.edge-item.is).0

pub of-requires-in-loop-edge : goal.of-requires-in-loop-edge
of-requires-in-loop-edge g c = (below_both g.V.VertexNumber.bound c.loop-edge.edge-index c.args.edges.now c.edge-item.result c.requires.fit c.loop-edge-test.true c.edge-item.is).1

pub returns-in_err-clone-clause-copies : goal.returns-in_err-clone-clause-copies
returns-in_err-clone-clause-copies g c = IfOk-from_err _ _ c.from_residual-in_err-clone.ensures.0

pub returns-in_err-clone-clause-refused : goal.returns-in_err-clone-clause-refused
returns-in_err-clone-clause-refused g c = refused_by _ c.from_residual-in_err-clone.result c.from_residual-in_err-clone.ensures.1

pub returns-in_err-push-clause-copies : goal.returns-in_err-push-clause-copies
returns-in_err-push-clause-copies g c = IfOk-from_err _ _ c.from_residual-in_err-push.ensures.0

pub returns-in_err-push-clause-refused : goal.returns-in_err-push-clause-refused
returns-in_err-push-clause-refused g c = refused_by _ c.from_residual-in_err-push.result c.from_residual-in_err-push.ensures.1

pub loop-edge-smaller : goal.loop-edge-smaller
loop-edge-smaller g c = falls (length c.args.edges.now) c.loop-edge.edge-index c.loop-edge-test.true
