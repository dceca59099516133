use Rattle.std.proofs.Common.{◌≡◌, ◌<◌, ◌∙◌, sym, ap, subst, arith, ℕ, length, true, false, Some, None}
use Rattle.std.specs.Prelude.{Contains, map, slice_get}
use Rattle.std.proofs.lemmas.List.{length-replicate}
use Rattle.std.proofs.lemmas.Result.{IfOk-weaker}
use Rattle.pf_graph.specs.EdgesByReference.{shown}
use Rattle.pf_graph.specs.Internal.Spanning.Frontier.{IsMarked}
use Rattle.pf_graph.specs.GrownTree.{GrowsByLeast, IsLeastAround}
use Rattle.pf_graph.specs.Spanning.{IsForest}
use Rattle.pf_base.proofs.ListLemmas.{none_in}
use Rattle.pf_graph.proofs.Spanning.ForestLemmas.{IsForest-nil}
use Rattle.pf_graph.proofs.Spanning.NameLemmas.{numbered_below}
use Rattle.pf_graph.proofs.Spanning.ChainLemmas.{RunsAsWritten-numbered, numbered_long}
use Rattle.pf_graph.proofs.Spanning.PrimLemmas.{no_mark, no_start, first_is, start_is, first_stands, first_inside}
use Rattle.pf_graph.proofs.Spanning.TreeLemmas.{grown_forest, grown_least}
use Rattle.pf_base.proofs.Outcomes.{if_refused, refused_as}
use Rattle.pf_graph.proofs.undirected.prim.prim.Goals as goal

pub returns-in_default : goal.returns-in_default
returns-in_default g c = record {
  none = λ _. c.new.ensures.items;
  grown = λ start s.
      let none = subst (λ es. slice_get es 0 ≡ None) c.deref.ensures.value (sym c.in_default.ensures.value) in
      absurd (no_start c.args.edges.now c.in_ok-numbered.numbered.edges.items c.in_ok-numbered.ensures.in_order none start s);
  forest = subst (IsForest g.N.PartialEq.eq) (sym (ap (map shown) c.new.ensures.items)) IsForest-nil;
  least = λ start s.
      let none = subst (λ es. slice_get es 0 ≡ None) c.deref.ensures.value (sym c.in_default.ensures.value) in
      absurd (no_start c.args.edges.now c.in_ok-numbered.numbered.edges.items c.in_ok-numbered.ensures.in_order none start s);
  as_written = record { as_written = λ e h. absurd (omega (arith, (subst (λ es. Contains es e) (ap (map shown) c.new.ensures.items) h).1)) };
  refused = tt;
}

pub chains_of-requires : goal.chains_of-requires
chains_of-requires g c =
    let n = c.in_ok-numbered.ensures.numbered in
    let numbered = c.in_ok-numbered.numbered.edges.items in
    record {
      len = numbered_long c.args.edges.now numbered c.in_ok-numbered.ensures.in_order;
      below = numbered_below n.0 c.args.edges.now numbered n.2 c.in_ok-numbered.numbered.count n.1;
    }

pub grow-requires-clause-inside : goal.grow-requires-clause-inside
grow-requires-clause-inside g c =
    let n = c.in_ok-numbered.ensures.numbered in
    let first = c.in-Some.first.now in
    let at = subst (λ es. slice_get es 0 ≡ Some first) c.deref.ensures.value (sym c.in-Some.ensures.value) in
    subst (λ (i : ℕ). first.0 < i) (n.1 ∙ sym c.in_ok-chains.ensures.len) (first_inside c.args.edges.now c.in_ok-numbered.numbered.edges.items c.in_ok-numbered.ensures.in_order n.0 n.2 first at)

pub grow-requires-clause-len : goal.grow-requires-clause-len
grow-requires-clause-len g c =
    let marks = c.deref_mut.ensures.value ∙ c.in_ok-covered.ensures.items in
    ap length marks ∙ length-replicate c.in_ok-numbered.numbered.count false ∙ sym c.in_ok-chains.ensures.len

pub grow-requires-clause-none : goal.grow-requires-clause-none
grow-requires-clause-none g c =
    let marks = c.deref_mut.ensures.value ∙ c.in_ok-covered.ensures.items in
    λ k m. no_mark c.in_ok-numbered.numbered.count k (subst (λ bs. IsMarked true bs k) marks m)

pub returns : goal.returns
returns g c =
    let edges = c.args.edges.now in
    let numbered = c.in_ok-numbered.numbered.edges.items in
    let in_order = c.in_ok-numbered.ensures.in_order in
    let n = c.in_ok-numbered.ensures.numbered in
    let first = c.in-Some.first.now in
    let at = subst (λ es. slice_get es 0 ≡ Some first) c.deref.ensures.value (sym c.in-Some.ensures.value) in
    let runs = RunsAsWritten-numbered edges numbered in_order n.0 c.in_ok-chains.chains n.2 c.in_ok-chains.ensures.edges c.in_ok-chains.ensures.ends (c.in_ok-chains.ensures.len ∙ sym n.1) in
    let stands = first_stands edges numbered in_order n.0 n.2 first at in
    record {
      none = λ none.
          let first = c.in-Some.first.now in
          let at = subst (λ es. slice_get es 0 ≡ Some first) c.deref.ensures.value (sym c.in-Some.ensures.value) in
          absurd (none_in 0 first.2.edge.now (subst (λ es. slice_get es 0 ≡ Some first.2.edge.now) none (first_is c.args.edges.now c.in_ok-numbered.numbered.edges.items c.in_ok-numbered.ensures.in_order first at)));
      grown = IfOk-weaker c.grow.result _ _ (λ tree p. let q = p n.0 edges first.2.edge.now.0 runs stands in λ start s. subst (λ z. GrowsByLeast g.N.PartialEq.eq g.N.Ord.cmp g.C.Ord.cmp edges z (map shown tree.items)) (start_is edges numbered in_order first at start s) q.0) c.grow.ensures.grown;
      forest = IfOk-weaker c.grow.result _ _ (λ tree p. let q = p n.0 edges first.2.edge.now.0 runs stands in grown_forest g.met.N.Eq.laws first.2.edge.now.0 g.met.C.Ord.total edges g.met.C.Ord.matches_eq c.requires.clones (map shown tree.items) q.0 q.1) c.grow.ensures.grown;
      least = IfOk-weaker c.grow.result _ _ (λ tree p. let q = p n.0 edges first.2.edge.now.0 runs stands in λ start s. subst (λ z. IsLeastAround g.N.PartialEq.eq g.C.Ord.cmp edges z (map shown tree.items)) (start_is edges numbered in_order first at start s) (grown_least g.met.N.Eq.laws first.2.edge.now.0 g.met.C.Ord.total edges g.met.C.Ord.matches_eq c.requires.clones (map shown tree.items) q.0 q.1)) c.grow.ensures.grown;
      as_written = IfOk-weaker c.grow.result _ _ (λ tree p. let q = p n.0 edges first.2.edge.now.0 runs stands in q.1) c.grow.ensures.grown;
      refused = c.grow.ensures.refused;
    }

pub returns-in_err-numbered : goal.returns-in_err-numbered
returns-in_err-numbered g c = record {
  none = λ _. if_refused _ c.from_residual.result _ c.from_residual.ensures.1;
  grown = if_refused _ c.from_residual.result _ c.from_residual.ensures.1;
  forest = if_refused _ c.from_residual.result _ c.from_residual.ensures.1;
  least = if_refused _ c.from_residual.result _ c.from_residual.ensures.1;
  as_written = if_refused _ c.from_residual.result _ c.from_residual.ensures.1;
  refused = refused_as _ c.from_residual.result _ c.from_residual.ensures.1 c.in_err-numbered.ensures.refused;
}

pub returns-in_err-chains : goal.returns-in_err-chains
returns-in_err-chains g c = record {
  none = λ _. if_refused _ c.from_residual-in_err-chains.result _ c.from_residual-in_err-chains.ensures.1;
  grown = if_refused _ c.from_residual-in_err-chains.result _ c.from_residual-in_err-chains.ensures.1;
  forest = if_refused _ c.from_residual-in_err-chains.result _ c.from_residual-in_err-chains.ensures.1;
  least = if_refused _ c.from_residual-in_err-chains.result _ c.from_residual-in_err-chains.ensures.1;
  as_written = if_refused _ c.from_residual-in_err-chains.result _ c.from_residual-in_err-chains.ensures.1;
  refused = refused_as _ c.from_residual-in_err-chains.result _ c.from_residual-in_err-chains.ensures.1 c.in_err-chains.ensures.refused;
}

pub returns-in_err-covered : goal.returns-in_err-covered
returns-in_err-covered g c = record {
  none = λ _. if_refused _ c.from_residual-in_err-covered.result _ c.from_residual-in_err-covered.ensures.1;
  grown = if_refused _ c.from_residual-in_err-covered.result _ c.from_residual-in_err-covered.ensures.1;
  forest = if_refused _ c.from_residual-in_err-covered.result _ c.from_residual-in_err-covered.ensures.1;
  least = if_refused _ c.from_residual-in_err-covered.result _ c.from_residual-in_err-covered.ensures.1;
  as_written = if_refused _ c.from_residual-in_err-covered.result _ c.from_residual-in_err-covered.ensures.1;
  refused = refused_as _ c.from_residual-in_err-covered.result _ c.from_residual-in_err-covered.ensures.1 c.in_err-covered.ensures.refused;
}
