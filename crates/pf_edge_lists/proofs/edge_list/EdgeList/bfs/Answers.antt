use Rattle.std.proofs.lemmas.Result.{IfOk-from_err}
use Rattle.pf_base.specs.NodeRefs.{nodes_of}
use Rattle.pf_edge_lists.specs.EdgeLists.{targets_from}
use Rattle.pf_base.proofs.Outcomes.{refused_as}
use Rattle.pf_tables.proofs.Alone.{fewest_alone, no_way_alone, no_other, an_other}
use Rattle.pf_edge_lists.proofs.NamedGraph.{fewest_inside, fewest_named, no_targets_from, no_way_named, no_way_to}
use Rattle.pf_edge_lists.proofs.edge_list.EdgeList.bfs.Goals as goal

pub returns-then-ne : goal.returns-then-ne
returns-then-ne g c = record {
  best = let laws = g.met.N.Eq.laws in
      let other = an_other _ _ c.ne.ensures c.if-ne.true in
      no_way_alone laws c.args.from.now (λ x. g.N.PartialEq.eq x c.args.to.now) (λ a e. laws.congr c.args.from.now a c.args.to.now e)
      (targets_from g.N.PartialEq.eq c.args.self.now) (λ a e. no_targets_from laws g.C.Number.value c.args.self.now c.args.from.now c.in_default.ensures a e) other;
  errors = tt;
}

pub returns-in_err-path : goal.returns-in_err-path
returns-in_err-path g c =
    let r = c.from_residual in
    record {
      best = IfOk-from_err _ _ r.ensures.0;
      errors = refused_as _ r.result _ r.ensures.1 c.in_err-path.ensures.refused;
    }

pub returns-in_default-number_of : goal.returns-in_default-number_of
returns-in_default-number_of g c = record {
  best = no_way_to g.met.N.Eq.laws g.C.Number.value c.args.self.now c.in-Some.start c.args.from.now c.in-Some.ensures c.args.to.now c.in_default-number_of.ensures;
  errors = tt;
}

pub returns-in_err-bfs : goal.returns-in_err-bfs
returns-in_err-bfs g c =
    let r = c.from_residual-in_err-bfs in
    record {
      best = IfOk-from_err _ _ r.ensures.0;
      errors = refused_as _ r.result _ r.ensures.1 c.in_err-bfs.ensures.errors;
    }

pub returns-in-None : goal.returns-in-None
returns-in-None g c = record {
  best = let none = rw c.in-None.is at c.in_ok-bfs.ensures.best in
      no_way_named g.met.N.Eq.laws g.C.Number.value c.args.self.now c.in-Some.start c.args.from.now c.in-Some.ensures c.in-Some-number_of.goal c.args.to.now c.in-Some-number_of.ensures none;
  errors = tt;
}

pub names_along-requires : goal.names_along-requires
names_along-requires g c =
    let best = rw c.in-Some-2.is at c.in_ok-bfs.ensures.best in
    rw c.deref.ensures.value (fewest_inside g.met.N.Eq.laws g.C.Number.value c.args.self.now c.in-Some.start c.args.from.now c.in-Some.ensures c.in-Some-number_of.goal c.args.to.now c.in-Some-number_of.ensures _ best)

pub returns-in_err-path-in-Some-2 : goal.returns-in_err-path-in-Some-2
returns-in_err-path-in-Some-2 g c =
    let r = c.from_residual-in_err-path-in-Some-2 in
    record {
      best = IfOk-from_err _ _ r.ensures.0;
      errors = refused_as _ r.result _ r.ensures.1 c.in_err-path-in-Some-2.ensures.refused;
    }

pub returns-in_ok-path-in-Some-2 : goal.returns-in_ok-path-in-Some-2
returns-in_ok-path-in-Some-2 g c = record {
  best = let best = rw c.in-Some-2.is at c.in_ok-bfs.ensures.best in
      fewest_named g.met.N.Eq.laws g.C.Number.value c.args.self.now c.in-Some.start c.args.from.now c.in-Some.ensures c.in-Some-number_of.goal c.args.to.now c.in-Some-number_of.ensures _ (nodes_of c.in_ok-path-in-Some-2.path.items) best
      (rw c.deref.ensures.value at c.in_ok-path-in-Some-2.ensures.names);
  errors = tt;
}

pub returns-in_default : goal.returns-in_default
returns-in_default g c = record {
  errors = tt;
  best =
      let laws = g.met.N.Eq.laws in
      let same = no_other _ _ c.ne.ensures c.if-ne.false in
      rw c.in_ok-path.ensures.one
      (fewest_alone laws c.args.from.now (λ x. g.N.PartialEq.eq x c.args.to.now) (λ a e. laws.congr c.args.from.now a c.args.to.now e)
      (targets_from g.N.PartialEq.eq c.args.self.now) (λ a e. no_targets_from laws g.C.Number.value c.args.self.now c.args.from.now c.in_default.ensures a e) same);
}
