use Rattle.std.proofs.Common.{sym, subst, ◌∙◌, ap, ℕ, length, take, take_all, ◌+◌, arith, length-append}
use Rattle.pf_components.specs.Internal.DisjointSets.{IsIdOf, Identifies}
use Rattle.pf_components.proofs.DisjointSetLemmas.{Identifies-more}
use Rattle.std.proofs.lemmas.Result.{IfOk-from_err}
use Rattle.pf_base.proofs.Outcomes.{refused_by}
use Rattle.pf_components.proofs.disjoint_sets.identify.Goals as goal

pub loop-group-preserved : goal.loop-group-preserved
loop-group-preserved g c =
    let i = c.loop-group.invariant in
    record {
      sound = c.identifier-id.ensures.sound;
      len = ap length c.in_ok-push.ensures.items ∙ omega (arith, length-append {A = ℕ}, i.len);
      labels = λ label l.
          let before = i.labels label l in
          let after = c.identifier-id.ensures.labels label before.0 in
          let is = subst (λ ms. IsIdOf label (length c.args.groups.now) c.loop-group.group ms c.identifier-id.result) c.deref.ensures.value (subst (λ (n : ℕ). IsIdOf label n c.loop-group.group c.deref.result.now c.identifier-id.result) (c.loop-group.auto.parents ∙ c.requires.len) after.1) in (
            after.0,
            subst (λ xs. Identifies label (length c.args.groups.now) (take (c.loop-group.group + 1) c.args.groups.now) xs) (sym c.in_ok-push.ensures.items)
                (Identifies-more label (length c.args.groups.now) c.args.groups.now c.loop-group.ids.items c.loop-group.group c.index-groups-group.result c.identifier-id.result c.loop-group-test.true c.index-groups-group.is i.len is before.1),
          );
    }

pub returns-clause-identified : goal.returns-clause-identified
returns-clause-identified g c = λ label l.
    subst (λ gs. Identifies label (length c.args.groups.now) gs c.loop-group.ids.items) (take_all c.loop-group.group c.args.groups.now c.loop-group-test.false) (c.loop-group.invariant.labels label l).1

pub returns-in_err-ids : goal.returns-in_err-ids
returns-in_err-ids g c = record {
  len = IfOk-from_err _ _ c.from_residual.ensures.0;
  identified = IfOk-from_err _ _ c.from_residual.ensures.0;
  refused = refused_by _ c.from_residual.result c.from_residual.ensures.1;
}

pub returns-in_err-push : goal.returns-in_err-push
returns-in_err-push g c = record {
  len = IfOk-from_err _ _ c.from_residual-in_err-push.ensures.0;
  identified = IfOk-from_err _ _ c.from_residual-in_err-push.ensures.0;
  refused = refused_by _ c.from_residual-in_err-push.result c.from_residual-in_err-push.ensures.1;
}
