use Rattle.std.proofs.Common.{arith, ◌≡◌, [], ◌∷◌, ◌++◌, refl, sym, subst, ap, take, take_all, ◌∙◌, ◌+◌}
use Rattle.std.specs.Prelude.{map, slice_get}
use Rattle.std.proofs.lemmas.List.{map-append, take_more}
use Rattle.std.proofs.lemmas.List.Elements.{All-nil, All-push, All-same}
use Rattle.pf_graph.specs.Internal.NumberedEdges.{IsNumbered, IsWeighed}
use Rattle.pf_graph.proofs.NumberLemmas.{IsNumbered-none, IsNumbered-more}
use Rattle.std.proofs.lemmas.Result.{IfOk-from_err}
use Rattle.pf_base.proofs.Outcomes.{on_refused, refused_as, refused_by}
use Rattle.pf_graph.proofs.undirected.numbered.number_into.Goals as goal

pub loop-edge-init : goal.loop-edge-init
loop-edge-init g c = record {
  numbered =
      let e : c.args.nodes.now.keys ≡ [] = c.requires.none.0 in
      subst (λ ns. IsNumbered g.N.PartialEq.eq ns [] c.args.numbered.now.items) (sym e) (subst (λ xs. IsNumbered g.N.PartialEq.eq [] [] xs) (sym c.requires.none.1) (IsNumbered-none g.N.PartialEq.eq));
  in_order = ap (map (λ e. e.2.edge.now)) c.requires.none.1;
  weighed = All-same (IsWeighed g.F.Fn c.args.weigh.now) _ _ c.requires.none.1 (All-nil (IsWeighed g.F.Fn c.args.weigh.now));
}

pub loop-edge-preserved : goal.loop-edge-preserved
loop-edge-preserved g c =
    let laws = g.met.N.Eq.laws in
    let from = c.in_ok-from.ensures.stored in
    let to = c.in_ok-to.ensures.stored in
    let one = c.in_ok-one.ensures.same in
    let other = c.in_ok-other.ensures.same in
    record {
      numbered = subst (λ xs. IsNumbered g.N.PartialEq.eq c.insert_full-in-loop-edge.new.self.keys (take (c.loop-edge.edge-index + 1) c.args.edges.now) xs) (sym c.in_ok-push.ensures.items)
          (IsNumbered-more laws c.loop-edge.nodes.keys c.insert_full.new.self.keys c.insert_full-in-loop-edge.new.self.keys c.args.edges.now c.loop-edge.numbered.items c.loop-edge.edge-index _ _ _ c.loop-edge-test.true c.edge-item.is
          c.in_ok-from.ensures.keys c.in_ok-to.ensures.keys
          (from.0, ap (slice_get c.insert_full.new.self.keys) one ∙ from.1, laws.symm _ _ ∙ from.2) (to.0, ap (slice_get c.insert_full-in-loop-edge.new.self.keys) other ∙ to.1, laws.symm _ _ ∙ to.2) c.insert_full-in-loop-edge.ensures.unique c.loop-edge.invariant.numbered);
      in_order = ap (map (λ e. e.2.edge.now)) c.in_ok-push.ensures.items
          ∙ map-append (λ e. e.2.edge.now) c.loop-edge.numbered.items _
          ∙ ap (λ xs. xs ++ c.edge-item.result ∷ []) c.loop-edge.invariant.in_order
          ∙ sym (take_more c.args.edges.now c.loop-edge.edge-index c.edge-item.result c.loop-edge-test.true ∙ ap (λ x. take c.loop-edge.edge-index c.args.edges.now ++ x ∷ []) (sym c.edge-item.is));
      weighed = All-same (IsWeighed g.F.Fn c.args.weigh.now) _ _ c.in_ok-push.ensures.items (All-push (IsWeighed g.F.Fn c.args.weigh.now) c.loop-edge.numbered.items _ c.loop-edge.invariant.weighed (record { shown = _; shows = refl; says = record { met = c.in_ok-weight.ensures } }));
    }

pub returns : goal.returns
returns g c = record {
  numbered = subst (λ xs. IsNumbered g.N.PartialEq.eq c.loop-edge.nodes.keys xs c.loop-edge.numbered.items) (take_all c.loop-edge.edge-index c.args.edges.now c.loop-edge-test.false) c.loop-edge.invariant.numbered;
  in_order = c.loop-edge.invariant.in_order ∙ take_all c.loop-edge.edge-index c.args.edges.now c.loop-edge-test.false;
  weighed = c.loop-edge.invariant.weighed;
  refused = tt;
}

pub returns-in_err-from : goal.returns-in_err-from
returns-in_err-from g c = record {
  numbered = IfOk-from_err _ _ c.from_residual.ensures.0;
  in_order = IfOk-from_err _ _ c.from_residual.ensures.0;
  weighed = IfOk-from_err _ _ c.from_residual.ensures.0;
  refused = refused_by _ c.from_residual.result c.from_residual.ensures.1;
}

pub returns-in_err-to : goal.returns-in_err-to
returns-in_err-to g c = record {
  numbered = IfOk-from_err _ _ c.from_residual-in_err-to.ensures.0;
  in_order = IfOk-from_err _ _ c.from_residual-in_err-to.ensures.0;
  weighed = IfOk-from_err _ _ c.from_residual-in_err-to.ensures.0;
  refused = refused_by _ c.from_residual-in_err-to.result c.from_residual-in_err-to.ensures.1;
}

pub returns-in_err-weight : goal.returns-in_err-weight
returns-in_err-weight g c = record {
  numbered = IfOk-from_err _ _ c.from_residual-in_err-weight.ensures.0;
  in_order = IfOk-from_err _ _ c.from_residual-in_err-weight.ensures.0;
  weighed = IfOk-from_err _ _ c.from_residual-in_err-weight.ensures.0;
  refused = refused_by _ c.from_residual-in_err-weight.result c.from_residual-in_err-weight.ensures.1;
}

pub returns-in_err-push : goal.returns-in_err-push
returns-in_err-push g c = record {
  numbered = IfOk-from_err _ _ c.from_residual-in_err-push.ensures.0;
  in_order = IfOk-from_err _ _ c.from_residual-in_err-push.ensures.0;
  weighed = IfOk-from_err _ _ c.from_residual-in_err-push.ensures.0;
  refused = refused_by _ c.from_residual-in_err-push.result c.from_residual-in_err-push.ensures.1;
}

pub loop-edge-smaller : goal.loop-edge-smaller
loop-edge-smaller g c = omega (arith, c.loop-edge-test.true)

pub bounds-edges-edge-index : goal.bounds-edges-edge-index
bounds-edges-edge-index g c = c.loop-edge-test.true

pub narrowed-requires : goal.narrowed-requires
narrowed-requires g c = tt

pub narrowed-requires-in-loop-edge : goal.narrowed-requires-in-loop-edge
narrowed-requires-in-loop-edge g c = tt

pub returns-in_err-one : goal.returns-in_err-one
returns-in_err-one g c = record {
  numbered = on_refused _ c.from_residual-in_err-one.result _ c.from_residual-in_err-one.ensures.1;
  in_order = on_refused _ c.from_residual-in_err-one.result _ c.from_residual-in_err-one.ensures.1;
  weighed = on_refused _ c.from_residual-in_err-one.result _ c.from_residual-in_err-one.ensures.1;
  refused = refused_as _ c.from_residual-in_err-one.result _ c.from_residual-in_err-one.ensures.1 c.in_err-one.ensures.refused;
}

pub returns-in_err-other : goal.returns-in_err-other
returns-in_err-other g c = record {
  numbered = on_refused _ c.from_residual-in_err-other.result _ c.from_residual-in_err-other.ensures.1;
  in_order = on_refused _ c.from_residual-in_err-other.result _ c.from_residual-in_err-other.ensures.1;
  weighed = on_refused _ c.from_residual-in_err-other.result _ c.from_residual-in_err-other.ensures.1;
  refused = refused_as _ c.from_residual-in_err-other.result _ c.from_residual-in_err-other.ensures.1 c.in_err-other.ensures.refused;
}
