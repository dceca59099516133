use Rattle.std.proofs.Common.{rules, ◌≡◌, sym, subst, Bor, take_all}
use Rattle.pf_base.specs.Walks.{HasNode}
use Rattle.pf_base.proofs.Asking.{Answers-takes, Answers-gives, Answers-on, Gives-ends, Gives-drains}
use Rattle.pf_components.specs.Internal.Around.{AreGroupsAround}
use Rattle.pf_components.proofs.AroundLemmas.{group_made, groups_more, node_at}
use Rattle.std.proofs.lemmas.Result.{IfOk-from_err}
use Rattle.pf_base.proofs.Outcomes.{if_refused, refused_as, refused_by}
use Rattle.pf_components.proofs.around.groups_around.Goals as goal

pub adjacent-items-requires : goal.adjacent-items-requires
adjacent-items-requires g c =
    let r = c.requires.graph in
    let now = c.loop-start.invariant.answers r.0 r.1 in
    let here = node_at g.N.PartialEq.eq g.met.N.Eq.laws c.args.starts.now c.loop-start.start-index c.start-item.result c.loop-start-test.true c.start-item.is in
    let may : (p : Bor g.row.N.Denot) → p.now ≡ c.start-item.result → g.FN.FnMut.pre c.loop-start.adjacent (p, tt) = λ p e. Answers-takes _ _ _ now.answers p (subst (HasNode g.N.PartialEq.eq c.args.starts.now) (sym e) here) in
    search (rules, may)

pub group_around-requires : goal.group_around-requires
group_around-requires g c =
    let r = c.requires.graph in
    let now = c.loop-start.invariant.answers r.0 r.1 in
    let here = node_at g.N.PartialEq.eq g.met.N.Eq.laws c.args.starts.now c.loop-start.start-index c.start-item.result c.loop-start-test.true c.start-item.is in
    record { ends = Gives-ends _ _ _ _ _ _ (Answers-gives _ _ _ now.answers _ here c.adjacent-items.result c.adjacent-items.new.self c.adjacent-items.ensures) }

pub loop-start-preserved : goal.loop-start-preserved
loop-start-preserved g c =
    let here = node_at g.N.PartialEq.eq g.met.N.Eq.laws c.args.starts.now c.loop-start.start-index c.start-item.result c.loop-start-test.true c.start-item.is in
    let made = c.in_ok-group_around.ensures.members in
    record {
      answers = λ next a.
          let now = c.loop-start.invariant.answers next a in
          record { alike = a.alike; answers = Answers-on _ _ _ now.answers _ here c.adjacent-items.result c.adjacent-items.new.self c.adjacent-items.ensures };
      groups = λ next a.
          let now = c.loop-start.invariant.answers next a in
          let gives = Answers-gives _ _ _ now.answers _ here c.adjacent-items.result c.adjacent-items.new.self c.adjacent-items.ensures in
          subst (AreGroupsAround g.N.PartialEq.eq next _) (sym c.in_ok-push.ensures.items)
          (groups_more g.N.PartialEq.eq next c.args.starts.now c.loop-start.groups.items c.loop-start.start-index c.start-item.result _ c.loop-start-test.true c.start-item.is
          (c.loop-start.invariant.groups next a)
          (group_made g.N.PartialEq.eq g.met.N.Eq.laws next c.start-item.result made.2 made.1 c.in_ok-group_around.field-0 made.6 (c.requires.clones _ _ made.5) (Gives-drains _ _ _ _ _ _ gives made.0 made.1 made.3 made.4)));
    }

pub returns : goal.returns
returns g c = record {
  groups = λ next a.
      subst (λ xs. AreGroupsAround g.N.PartialEq.eq next xs c.loop-start.groups.items) (take_all c.loop-start.start-index c.args.starts.now c.loop-start-test.false) (c.loop-start.invariant.groups next a);
  refused = tt;
}

pub returns-in_err-groups : goal.returns-in_err-groups
returns-in_err-groups g c = record {
  groups = IfOk-from_err _ _ c.from_residual.ensures.0;
  refused = refused_by _ c.from_residual.result c.from_residual.ensures.1;
}

pub returns-in_err-group_around : goal.returns-in_err-group_around
returns-in_err-group_around g c = record {
  groups = if_refused _ c.from_residual-in_err-group_around.result _ c.from_residual-in_err-group_around.ensures.1;
  refused = refused_as _ c.from_residual-in_err-group_around.result _ c.from_residual-in_err-group_around.ensures.1 c.in_err-group_around.ensures.refused;
}

pub returns-in_err-push : goal.returns-in_err-push
returns-in_err-push g c = record {
  groups = IfOk-from_err _ _ c.from_residual-in_err-push.ensures.0;
  refused = refused_by _ c.from_residual-in_err-push.result c.from_residual-in_err-push.ensures.1;
}
