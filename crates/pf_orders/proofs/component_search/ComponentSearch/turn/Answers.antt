use Rattle.std.proofs.Common.{◌≡◌, ◌∙◌, ◌-◌, ℕ, [], None, slice_get, length, arith, sym, subst, ap}
use Rattle.std.proofs.lemmas.Bool.{true≢false}
use Rattle.std.proofs.lemmas.Result.{IfOk-from_err}
use Rattle.std.proofs.lemmas.Option.{slice_get_within}
use Rattle.pf_orders.specs.declared.component_search.Place.TheVariants.{New, Open, Closed}
use Rattle.pf_orders.specs.StrongComponents.{lists_of}
use Rattle.pf_orders.specs.Internal.ComponentSearch.{IsAt}
use Rattle.pf_orders.proofs.ComponentLists.{ends_at, at_ends, none_left, popped, last_waits}
use Rattle.pf_orders.proofs.ComponentPlaces.{none_open}
use Rattle.pf_orders.proofs.TurnLemmas.{read_place, placed_closed, path_closed, closing_closed, last_inside, placed_passed, path_passed, placed_joined, path_joined, placed_visited, path_visited, closed_grows, list_linked, list_complete}
use Rattle.pf_base.proofs.Outcomes.{on_failed, refused_as}
use Rattle.pf_core.proofs.SearchLemmas.{Grows-refl}
use Rattle.pf_orders.proofs.component_search.ComponentSearch.turn.Goals as goal

pub close-requires-clause-inside : goal.close-requires-clause-inside
close-requires-clause-inside g c = λ p k a. slice_get_within c.args.self.now.places.items k (Open p) (c.requires.placed.placed p k a)

pub close-requires-clause-begins : goal.close-requires-clause-begins
close-requires-clause-begins g c =
    let s = c.in-Some.ensures.spent in
    let l = c.requires.placed.inside _ s.0 s.1.1 in
    omega (arith, l.0, s.2)

pub returns-in_err-close : goal.returns-in_err-close
returns-in_err-close g c =
    let r = c.from_residual in
    record {
      grows = Grows-refl _ _;
      graph = λ h x. x;
      placed = on_failed _ _ r.ensures.0;
      path = on_failed _ _ r.ensures.0;
      closing = on_failed _ _ r.ensures.0;
      ended = IfOk-from_err _ _ r.ensures.0;
      refused = refused_as _ r.result _ r.ensures.1 c.in_err-close.ensures.refused;
    }

pub returns-in-Some : goal.returns-in-Some
returns-in-Some g c =
    let s = c.in-Some.ensures.spent in
    let e = c.in_ok-close.ensures in
    record {
      grows = Grows-refl _ _;
      graph = λ h x. x;
      placed = placed_closed _ _ _ _ _ _ c.requires.placed _ s.0 s.1 s.2 _ e.places _ _ _ _ e.waiting e.path e.segments e.components;
      path = λ h x o. path_closed _ _ _ _ _ _ c.requires.placed _ s.0 s.1 s.2 _ e.places _ _ _ [] _ _ o s.3 e.waiting e.path e.segments;
      closing = λ h x o k. closing_closed _ _ _ _ _ _ c.requires.placed _ s.0 s.1 s.2 _ e.places [] [] [] _ _ _ o s.3 e.components k;
      ended = λ e. absurd (true≢false e);
      refused = tt;
    }

pub returns-in_default-copied : goal.returns-in_default-copied
returns-in_default-copied g c = record {
  grows = Grows-refl _ _;
  graph = λ h x. x;
  placed =
      c.requires.placed;
  path = λ h x o. o;
  closing = λ h x o k. k;
  ended = λ _.
      let none : slice_get c.args.self.now.waiting.items (length c.args.self.now.waiting.items - 1) ≡ None = cc in
      let w : c.args.self.now.waiting.items ≡ [] = none_left c.args.self.now.waiting.items none in
      (none_open _ _ _ _ _ _ c.requires.placed w c.in_default.ensures.left, w);
  refused = tt;
}

pub index-requires : goal.index-requires
index-requires g c =
    let last : IsAt c.args.self.now.waiting.items (length c.args.self.now.waiting.items - 1) c.in-Some-copied.number = last_waits _ _ _ _ c.deref.ensures.value (c.copied.ensures ∙ c.last.ensures.value) c.in-Some-copied.is in
    let below = c.requires.placed.waits _ _ last in
    omega (arith, below, c.requires.placed.long, c.args.self.now.places.ok)

pub expand-requires-clause-inside : goal.expand-requires-clause-inside
expand-requires-clause-inside g c =
    let last : IsAt c.args.self.now.waiting.items (length c.args.self.now.waiting.items - 1) c.in-Some-copied.number = last_waits _ _ _ _ c.deref.ensures.value (c.copied.ensures ∙ c.last.ensures.value) c.in-Some-copied.is in
    let below = c.requires.placed.waits _ _ last in
    below

pub expand-requires-clause-graph : goal.expand-requires-clause-graph
expand-requires-clause-graph g c = c.requires.graph

pub visit-requires-clause-inside : goal.visit-requires-clause-inside
visit-requires-clause-inside g c =
    let last : IsAt c.args.self.now.waiting.items (length c.args.self.now.waiting.items - 1) c.in-Some-copied.number = last_waits _ _ _ _ c.deref.ensures.value (c.copied.ensures ∙ c.last.ensures.value) c.in-Some-copied.is in
    last_inside _ _ _ _ _ _ c.requires.placed _ last

pub visit-requires-clause-found : goal.visit-requires-clause-found
visit-requires-clause-found g c = omega (arith, c.requires.placed.long, c.node_count.ensures, c.in_ok-expand-in-New.ensures.grows.more)

pub returns-in_err-expand-in-New : goal.returns-in_err-expand-in-New
returns-in_err-expand-in-New g c =
    let r = c.from_residual-in_err-expand-in-New in
    record {
      grows = c.in_err-expand-in-New.ensures.grows;
      graph = c.in_err-expand-in-New.ensures.graph;
      placed = on_failed _ _ r.ensures.0;
      path = on_failed _ _ r.ensures.0;
      closing = on_failed _ _ r.ensures.0;
      ended = IfOk-from_err _ _ r.ensures.0;
      refused = refused_as _ r.result _ r.ensures.1 c.in_err-expand-in-New.ensures.refused.0;
    }

pub returns-in_err-visit-in-New : goal.returns-in_err-visit-in-New
returns-in_err-visit-in-New g c =
    let r = c.from_residual-in_err-visit-in-New in
    record {
      grows = c.in_ok-expand-in-New.ensures.grows;
      graph = c.in_ok-expand-in-New.ensures.graph;
      placed = on_failed _ _ r.ensures.0;
      path = on_failed _ _ r.ensures.0;
      closing = on_failed _ _ r.ensures.0;
      ended = IfOk-from_err _ _ r.ensures.0;
      refused = refused_as _ r.result _ r.ensures.1 c.in_err-visit-in-New.ensures.refused;
    }

pub returns-in_ok-visit-in-New : goal.returns-in_ok-visit-in-New
returns-in_ok-visit-in-New g c =
    let p = c.requires.placed in
    let last : IsAt c.args.self.now.waiting.items (length c.args.self.now.waiting.items - 1) c.in-Some-copied.number = last_waits _ _ _ _ c.deref.ensures.value (c.copied.ensures ∙ c.last.ensures.value) c.in-Some-copied.is in
    let below = p.waits _ _ last in
    let new : IsAt c.args.self.now.places.items c.in-Some-copied.number New = read_place _ _ _ c.index.result.now New p.long below c.index.ensures c.in-New.is in
    let l = c.in_ok-expand-in-New.ensures.listed in
    let e = c.in_ok-visit-in-New.ensures in
    let grows = c.in_ok-expand-in-New.ensures.grows in
    record {
      grows = grows;
      graph = c.in_ok-expand-in-New.ensures.graph;
      placed = placed_visited _ _ _ _ _ _ p _ last new c.in_default.ensures.left _ _ c.node_count.ensures c.expand.new.row.items _ _ _ _ e.places e.path e.waiting e.segments _ (ap lists_of e.components) grows.more
          (λ i j a. let q = ends_at l.0 i j (subst (λ xs. IsAt xs i j) l.1 a) in l.2 j q.0 q.1)
          (λ j low high. let q = l.3 j low high in subst (λ xs. (i : ℕ) × IsAt xs i j) (sym l.1) (at_ends l.0 j q.0 q.1));
      path = λ h x o.
          let named = o.named _ _ last in
          let step = g.G.NumberedGraph.step h in
          path_visited _ _ _ _ _ _ p _ last new c.in_default.ensures.left _ _ c.node_count.ensures c.expand.new.row.items _ _ _ _ e.places e.path e.waiting e.segments step _ _ grows o
          (list_linked _ step _ _ _ _ grows _ below named l.0 c.expand.new.row.items l.1 (l.4 h x))
          (list_complete _ step _ _ _ _ grows _ below named l.0 c.expand.new.row.items l.1 (l.4 h x));
      closing = λ h x o k. closed_grows _ _ _ _ _ _ p _ _ _ _ grows _ (ap lists_of e.components) k;
      ended = λ e. absurd (true≢false e);
      refused = tt;
    }

pub returns-in-Open : goal.returns-in-Open
returns-in-Open g c =
    let p = c.requires.placed in
    let last : IsAt c.args.self.now.waiting.items (length c.args.self.now.waiting.items - 1) c.in-Some-copied.number = last_waits _ _ _ _ c.deref.ensures.value (c.copied.ensures ∙ c.last.ensures.value) c.in-Some-copied.is in
    let here : IsAt c.args.self.now.places.items c.in-Some-copied.number (Open c.in-Open.place) = read_place _ _ _ c.index.result.now (Open c.in-Open.place) p.long (p.waits _ _ last) c.index.ensures c.in-Open.is in
    let rest = popped _ _ _ _ c.pop.ensures.rest c.deref.ensures.len c.deref.ensures.value in
    record {
      grows = Grows-refl _ _;
      graph = λ h x. x;
      placed = placed_joined _ _ _ _ _ _ p _ last _ rest _ here c.in_default.ensures.left _ c.join_segments.ensures;
      path = λ h x o. path_joined _ _ _ _ _ _ p _ last _ rest _ here c.in_default.ensures.left _ c.join_segments.ensures _ _ o;
      closing = λ h x o k. k;
      ended = λ e. absurd (true≢false e);
      refused = tt;
    }

pub returns-in-Closed : goal.returns-in-Closed
returns-in-Closed g c =
    let p = c.requires.placed in
    let last : IsAt c.args.self.now.waiting.items (length c.args.self.now.waiting.items - 1) c.in-Some-copied.number = last_waits _ _ _ _ c.deref.ensures.value (c.copied.ensures ∙ c.last.ensures.value) c.in-Some-copied.is in
    let closed : IsAt c.args.self.now.places.items c.in-Some-copied.number Closed = read_place _ _ _ c.index.result.now Closed p.long (p.waits _ _ last) c.index.ensures c.in-Closed.is in
    let rest = popped _ _ _ _ c.pop-in-Closed.ensures.rest c.deref.ensures.len c.deref.ensures.value in
    record {
      grows = Grows-refl _ _;
      graph = λ h x. x;
      placed = placed_passed _ _ _ _ _ _ p _ last _ rest closed c.in_default.ensures.left;
      path = λ h x o. path_passed _ _ _ _ _ _ p _ last _ rest _ _ o closed;
      closing = λ h x o k. k;
      ended = λ e. absurd (true≢false e);
      refused = tt;
    }
