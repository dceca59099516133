use Rattle.std.proofs.Common.{◌≡◌, refl, true}
use Rattle.pf_base.proofs.Outcomes.{on_any, on_err}
use Rattle.pf_core.specs.Nodes.{TestedGraph}
use Rattle.pf_yen.specs.Internal.PathPlans.{path_plans}
use Rattle.pf_yen.proofs.WalkLemmas.{graph_of, learned_on, begun_known, given_known, not_ended_given, not_ended_new}
use Rattle.pf_yen.proofs.directed.yen.YenPathsBy.explore_graph.Goals as goal

pub explore-requires : goal.explore-requires
explore-requires g c =
    let r = c.requires.walk in
    let v = rw (← c.self.view_is) at r.3 in
    record { graph = (record { graph = graph_of r.1 r.0; test = r.2 }, (v.explored, v.tested)) }

pub returns-clause-walk : goal.returns-clause-walk
returns-clause-walk g c = λ edges start test w.
    let v = rw (← c.self.view_is) at w in
    let e = c.explore.ensures in
    let t = c.explore.new.graph in
    let asked : TestedGraph g.row.N.Denot = record { graph = graph_of start edges; test = test } in
    learned_on v g.met.N.Eq.laws (g.M.Numbering.keys t.discovery.nodes) c.explore.new.adjacency t.discovery.source.function t.success e.grows (e.graph asked (v.explored, v.tested)) (e.learned asked (v.explored, v.tested) v.planned.learned) c.if-self-2.false

pub returns-then-self : goal.returns-then-self
returns-then-self g c =
    let inside = c.self.inside in
    let same = c.note_remaining.ensures.same in
    let more = not_ended_given (path_plans (g.M.Numbering.keys inside.graph.discovery.nodes) c.note_remaining.new.self inside.plans) c.if-self.true in
    record {
      walk = λ edges start test w. rw same (rw (← c.self.view_is) at w);
      adjacency = λ edges start test w. let v = rw (← c.self.view_is) at w in on_any c.note_remaining.result (rw same (given_known v g.met.N.Eq.laws c.if-self.true));
      ended = λ e. absurd (not_ended_given (path_plans (g.M.Numbering.keys inside.graph.discovery.nodes) inside.adjacency inside.plans) c.if-self.true (rw (← c.self.view_is) at e));
      «open» = on_err c.note_remaining.result more;
      given = rw (← c.self.view_is) refl;
      same = rw (← c.self.view_is) refl;
      bar = rw (← c.self.view_is) refl;
      refused = c.note_remaining.ensures.refused;
    }

pub returns-then-self-2 : goal.returns-then-self-2
returns-then-self-2 g c =
    let begun : c.args.self.now.plans.has_begun ≡ true = rw (← c.self.view_is) c.if-self-2.true in
    record {
      walk = λ edges start test w. w;
      adjacency = λ edges start test w. begun_known w g.met.N.Eq.laws begun;
      ended = λ e. e;
      «open» = tt;
      given = refl;
      same = refl;
      bar = refl;
      refused = tt;
    }

pub returns-clause-ended : goal.returns-clause-ended
returns-clause-ended g c =
    let inside = c.self.inside in
    λ e. absurd (not_ended_new (path_plans (g.M.Numbering.keys inside.graph.discovery.nodes) inside.adjacency inside.plans) c.if-self-2.false (rw (← c.self.view_is) at e))

pub returns-clause-open : goal.returns-clause-open
returns-clause-open g c = on_err c.explore.result (not_ended_new (path_plans (g.M.Numbering.keys c.explore.new.graph.discovery.nodes) c.explore.new.adjacency c.self.inside.plans) c.if-self-2.false)

pub returns-clause-given : goal.returns-clause-given
returns-clause-given g c = rw (← c.self.view_is) refl

pub returns-clause-same : goal.returns-clause-same
returns-clause-same g c = rw (← c.self.view_is) refl

pub returns-clause-bar : goal.returns-clause-bar
returns-clause-bar g c = rw (← c.self.view_is) refl

pub returns-clause-refused : goal.returns-clause-refused
returns-clause-refused g c = c.explore.ensures.refused
