use Rattle.std.proofs.Common.{rules, ◌≡◌, pos, true, Err, ap, inl}
use Rattle.std.proofs.lemmas.Result.{IfOk-from_err}
use Rattle.pf_base.specs.NodeRefs.{nodes_of}
use Rattle.pf_edge_lists.specs.EdgeLists.{edges_from}
use Rattle.pf_base.proofs.Outcomes.{error_of, no_overflow, ok_not_err, refused_as}
use Rattle.pf_tables.proofs.Alone.{no_walk_alone, cheapest_alone, no_other, an_other}
use Rattle.pf_edge_lists.proofs.NamedGraph.{cheapest_inside, cheapest_named, no_edges_from, no_walk_named, no_walk_to, past_named}
use Rattle.pf_edge_lists.proofs.edge_list.EdgeList.dijkstra.Goals as goal

pub returns-then-ne : goal.returns-then-ne
returns-then-ne g c = record {
  best = let laws = g.met.N.Eq.laws in
      let other = an_other _ _ c.ne.ensures c.if-ne.true in
      no_walk_alone laws c.args.from.now (λ x. g.N.PartialEq.eq x c.args.to.now) (λ a e. laws.congr c.args.from.now a c.args.to.now e)
      (edges_from g.N.PartialEq.eq g.C.Number.value c.args.self.now) (λ a e. no_edges_from laws g.C.Number.value c.args.self.now c.args.from.now c.in_default.ensures a e) other;
  overflow = λ e. absurd (ok_not_err e);
  errors = tt;
}

pub returns-in_err-path : goal.returns-in_err-path
returns-in_err-path g c =
    let r = c.from_residual in
    record {
      best = IfOk-from_err _ _ r.ensures.0;
      overflow = λ e. absurd (no_overflow r.result _ r.ensures.1 c.in_err-path.ensures.refused e);
      errors = refused_as _ r.result _ r.ensures.1 (inl c.in_err-path.ensures.refused);
    }

pub returns-in_default : goal.returns-in_default
returns-in_default g c = record {
  best = let laws = g.met.N.Eq.laws in
      let same : g.N.PartialEq.eq c.args.from.now c.args.to.now ≡ true = no_other _ _ c.ne.ensures c.if-ne.false in
      let zero : g.C.Number.value c.zero.result ≡ pos 0 = search rules in
      rw (c.in_ok-path.ensures.one, zero)
      (cheapest_alone laws c.args.from.now (λ x. g.N.PartialEq.eq x c.args.to.now) (λ a e. laws.congr c.args.from.now a c.args.to.now e)
      (edges_from g.N.PartialEq.eq g.C.Number.value c.args.self.now) (λ a e. no_edges_from laws g.C.Number.value c.args.self.now c.args.from.now c.in_default.ensures a e) same);
  overflow = λ e. absurd (ok_not_err e);
  errors = tt;
}

pub returns-in_default-number_of : goal.returns-in_default-number_of
returns-in_default-number_of g c = record {
  best = no_walk_to g.met.N.Eq.laws g.C.Number.value c.args.self.now c.in-Some.start c.args.from.now c.in-Some.ensures c.args.to.now c.in_default-number_of.ensures;
  overflow = λ e. absurd (ok_not_err e);
  errors = tt;
}

pub returns-in_err-dijkstra : goal.returns-in_err-dijkstra
returns-in_err-dijkstra g c =
    let r = c.from_residual-in_err-dijkstra in
    record {
      best = IfOk-from_err _ _ r.ensures.0;
      overflow =
          λ e.
          let f = error_of r.result _ _ r.ensures.1 e in
          past_named g.met.N.Eq.laws g.C.Number.value c.args.self.now c.in-Some.start c.args.from.now c.in-Some.ensures c.in-Some-number_of.goal c.args.to.now c.in-Some-number_of.ensures g.C.Number.fits (c.in_err-dijkstra.ensures.overflow (ap Err f));
      errors = refused_as _ r.result _ r.ensures.1 c.in_err-dijkstra.ensures.errors;
    }

pub returns-in-None : goal.returns-in-None
returns-in-None g c = record {
  best = let none = rw c.in-None.is at c.in_ok-dijkstra.ensures.best in
      no_walk_named g.met.N.Eq.laws g.C.Number.value c.args.self.now c.in-Some.start c.args.from.now c.in-Some.ensures c.in-Some-number_of.goal c.args.to.now c.in-Some-number_of.ensures none;
  overflow = λ e. absurd (ok_not_err e);
  errors = tt;
}

pub names_along-requires : goal.names_along-requires
names_along-requires g c =
    let best = rw c.in-Some-2.is at c.in_ok-dijkstra.ensures.best in
    rw c.deref.ensures.value (cheapest_inside g.met.N.Eq.laws g.C.Number.value c.args.self.now c.in-Some.start c.args.from.now c.in-Some.ensures c.in-Some-number_of.goal c.args.to.now c.in-Some-number_of.ensures _ _ best)

pub returns-in_err-path-in-Some-2 : goal.returns-in_err-path-in-Some-2
returns-in_err-path-in-Some-2 g c =
    let r = c.from_residual-in_err-path-in-Some-2 in
    record {
      best = IfOk-from_err _ _ r.ensures.0;
      overflow = λ e. absurd (no_overflow r.result _ r.ensures.1 c.in_err-path-in-Some-2.ensures.refused e);
      errors = refused_as _ r.result _ r.ensures.1 (inl c.in_err-path-in-Some-2.ensures.refused);
    }

pub returns-in_ok-path-in-Some-2 : goal.returns-in_ok-path-in-Some-2
returns-in_ok-path-in-Some-2 g c = record {
  best = let best = rw c.in-Some-2.is at c.in_ok-dijkstra.ensures.best in
      cheapest_named g.met.N.Eq.laws g.C.Number.value c.args.self.now c.in-Some.start c.args.from.now c.in-Some.ensures c.in-Some-number_of.goal c.args.to.now c.in-Some-number_of.ensures _ (nodes_of c.in_ok-path-in-Some-2.path.items) _ best
      (rw c.deref.ensures.value at c.in_ok-path-in-Some-2.ensures.names);
  overflow = λ e. absurd (ok_not_err e);
  errors = tt;
}
