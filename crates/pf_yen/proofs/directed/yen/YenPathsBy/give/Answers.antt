use Rattle.std.proofs.Common.{◌≡◌, ap, refl, inl, Some, None, Option}
use Rattle.pf_yen.specs.declared.candidate.Candidate.{Candidate}
use Rattle.pf_yen.specs.Internal.Classes.{plan_of}
use Rattle.pf_yen.specs.Internal.Candidates.{chosen_plan}
use Rattle.pf_yen.specs.Internal.PathPlans.{path_plans}
use Rattle.pf_yen.specs.Walk.{IsEnded}
use Rattle.pf_yen.proofs.WalkLemmas.{ended_by, none_left, path_inside, gives, turn_refused, not_ended_chosen}
use Rattle.pf_yen.proofs.directed.yen.YenPathsBy.give.Goals as goal

pub returns-in_default-clause-steps : goal.returns-in_default-clause-steps
returns-in_default-clause-steps g c = λ edges start test w.
    let v = rw (← c.self.view_is) at w in
    let r = rw (← c.self.view_is) at c.requires.ready in
    let n = rw (← c.self.view_is) at c.requires.none in
    let e : c.self.inside.plans.chosen ≡ None = c.in_default.is in
    let f = ap (λ (o : Option (Candidate g.row.C.Denot g.row.A.Denot)). chosen_plan o) e in
    rw (← c.self.view_is) (v, (none_left v g.met.N.Eq.laws r.0 r.1 f (n f), refl, ended_by _ _ _ _ r.0 r.1 f (n f)))

pub nodes_at-requires-clause-inside : goal.nodes_at-requires-clause-inside
nodes_at-requires-clause-inside g c =
    let w = c.requires.walk in
    let v = rw (← c.self.view_is) at w.3 in
    let r = rw (← c.self.view_is) at c.requires.ready in
    let e : c.self.inside.plans.chosen ≡ Some c.in-Some.chosen = c.in-Some.is in
    let f = ap (λ (o : Option (Candidate g.row.C.Denot g.row.A.Denot)). chosen_plan o) e in
    rw c.deref.ensures.value (path_inside v g.met.N.Eq.laws r.0 r.1 (plan_of c.in-Some.chosen) f)

pub returns-clause-steps : goal.returns-clause-steps
returns-clause-steps g c = λ edges start test w.
    let v = rw (← c.self.view_is) at w in
    let r = rw (← c.self.view_is) at c.requires.ready in
    let e : c.self.inside.plans.chosen ≡ Some c.in-Some.chosen = c.in-Some.is in
    let f = ap (λ (o : Option (Candidate g.row.C.Denot g.row.A.Denot)). chosen_plan o) e in
    let free = rw (← c.self.view_is) at c.requires.free in
    let q = gives v g.met.N.Eq.laws r.0 r.1 (plan_of c.in-Some.chosen) f free c.in_ok-path.path.items (rw c.deref.ensures.value at c.in_ok-path.ensures.nodes) in
    rw (← c.self.view_is, c.and.ensures) (q.1, (q.0, refl))

pub nodes_at-requires-clause-clones : goal.nodes_at-requires-clause-clones
nodes_at-requires-clause-clones g c = c.requires.clones

pub returns-in_err-path : goal.returns-in_err-path
returns-in_err-path g c =
    let e : c.self.inside.plans.chosen ≡ Some c.in-Some.chosen = c.in-Some.is in
    let f = ap (λ (o : Option (Candidate g.row.C.Denot g.row.A.Denot)). chosen_plan o) e in
    let more : ¬ (IsEnded c.args.self.now) = rw (← c.self.view_is) (not_ended_chosen (path_plans (g.M.Numbering.keys c.self.inside.graph.discovery.nodes) c.self.inside.adjacency c.self.inside.plans) (plan_of c.in-Some.chosen) f) in
    record {
      steps = λ edges start test w. (w, turn_refused w c.args.self.now c.from_residual.result c.in_err-path.field-0.0 c.from_residual.ensures.1 (inl c.in_err-path.ensures.refused) refl more more);
      same = refl;
      bar = refl;
    }

pub returns-in_default-clause-same : goal.returns-in_default-clause-same
returns-in_default-clause-same g c = refl

pub returns-in_default-clause-bar : goal.returns-in_default-clause-bar
returns-in_default-clause-bar g c = refl

pub invariant_of-self : goal.invariant_of-self
invariant_of-self g c = c.self.invariant

pub returns-clause-same : goal.returns-clause-same
returns-clause-same g c = rw (← c.self.view_is) refl

pub returns-clause-bar : goal.returns-clause-bar
returns-clause-bar g c = rw (← c.self.view_is) refl
