use Rattle.std.proofs.Common.{arith, refl}
use Rattle.std.proofs.lemmas.Result.{IfOk-from_err}
use Rattle.pf_core.proofs.SearchLemmas.{Grows-trans}
use Rattle.pf_orders.proofs.ComponentPaths.{path_new, closing_new, numbered_all}
use Rattle.pf_base.proofs.Outcomes.{refused_as}
use Rattle.pf_orders.proofs.component_search.strong_components.Goals as goal

pub returns-in_err-search : goal.returns-in_err-search
returns-in_err-search g c =
    let r = c.from_residual in
    record {
      grows = record { more = omega arith; stays = λ k x h. h; back = λ k x i h. h };
      graph = λ h x. x;
      numbered = IfOk-from_err _ _ r.ensures.0;
      refused = refused_as _ r.result _ r.ensures.1 c.in_err-search.ensures.refused;
    }

pub turns-init : goal.turns-init
turns-init g c =
    let e = c.in_ok-search.ensures in
    let p = rw c.node_count.ensures at e.placed in
    record {
      grown = record { more = omega arith; stays = λ k x h. h; back = λ k x i h. h };
      explored = λ h x. x;
      placed = p;
      path = λ h x. rw (e.path, e.segments) (path_new (g.G.NumberedGraph.step h) (g.G.NumberedGraph.stands c.args.graph.now) c.in_ok-search.search.places.items c.in_ok-search.search.waiting.items (λ i k a. c.requires.begins k (p.waits i k a)));
      closing = λ h x. rw e.components (closing_new (g.G.NumberedGraph.step h) (g.G.NumberedGraph.stands c.args.graph.now));
    }

pub turn-requires-clause-graph : goal.turn-requires-clause-graph
turn-requires-clause-graph g c = let r = c.requires.graph in (r.0, c.turns.invariant.explored r.0 r.1)

pub turn-requires-clause-placed : goal.turn-requires-clause-placed
turn-requires-clause-placed g c = c.turns.invariant.placed

pub returns-in_err-turn : goal.returns-in_err-turn
returns-in_err-turn g c =
    let r = c.from_residual-in_err-turn in
    record {
      grows = Grows-trans _ _ _ _ _ _ c.turns.invariant.grown c.in_err-turn.ensures.grows;
      graph = λ h x. c.in_err-turn.ensures.graph h (c.turns.invariant.explored h x);
      numbered = IfOk-from_err _ _ r.ensures.0;
      refused = refused_as _ r.result _ r.ensures.1 c.in_err-turn.ensures.refused;
    }

pub returns-then-not-branch : goal.returns-then-not-branch
returns-then-not-branch g c = record {
  grows = Grows-trans _ _ _ _ _ _ c.turns.invariant.grown c.in_ok-turn.ensures.grows;
  graph = λ h x. c.in_ok-turn.ensures.graph h (c.turns.invariant.explored h x);
  numbered = λ h x.
      let v = c.turns.invariant in
      let e = c.in_ok-turn.ensures in
      let done = e.ended c.if-not-branch.true in
      numbered_all _ _ _ _ _ _ _ _ e.placed done.0 done.1 (e.closing h (v.explored h x) (v.path h x) (v.closing h x));
  refused = tt;
}

pub turns-preserved : goal.turns-preserved
turns-preserved g c =
    let v = c.turns.invariant in
    let e = c.in_ok-turn.ensures in
    record {
      grown = Grows-trans _ _ _ _ _ _ v.grown e.grows;
      explored = λ h x. e.graph h (v.explored h x);
      placed = e.placed;
      path = λ h x. e.path h (v.explored h x) (v.path h x);
      closing = λ h x. e.closing h (v.explored h x) (v.path h x) (v.closing h x);
    }

pub returns : goal.returns
returns g c = record {
  grows = c.turns.invariant.grown;
  graph = c.turns.invariant.explored;
  numbered = tt;
  refused = refl;
}
