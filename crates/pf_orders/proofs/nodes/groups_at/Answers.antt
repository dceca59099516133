use Rattle.std.proofs.Common.{refl, arith, take_all, ◌≡◌, ◌+◌, ◌++◌, ◌∷◌, [], ◌∙◌, ap, take, slice_get, Some, subst, sym}
use Rattle.std.specs.List.{AllZip}
use Rattle.std.proofs.lemmas.List.{take_more}
use Rattle.std.proofs.lemmas.Result.{IfOk-from_err}
use Rattle.pf_base.proofs.ListLemmas.{at_place, AllZip-append}
use Rattle.pf_orders.specs.Internal.Rounds.{AreNodesAt}
use Rattle.pf_base.proofs.Outcomes.{refused_as}
use Rattle.pf_orders.proofs.nodes.groups_at.Goals as goal

pub returns-in_err-answer : goal.returns-in_err-answer
returns-in_err-answer g c =
    let r = c.from_residual in
    record {
      nodes = IfOk-from_err _ _ r.ensures.0;
      refused = refused_as _ r.result _ r.ensures.1 refl;
    }

pub groups-init : goal.groups-init
groups-init g c = rw c.in_ok-answer.ensures.items tt

pub clones_at-requires-clause-inside : goal.clones_at-requires-clause-inside
clones_at-requires-clause-inside g c = λ k h.
    let at : slice_get c.args.groups.now c.groups.group-index ≡ Some c.group-item.result = at_place c.args.groups.now c.groups.group-index _ _ c.groups-test.true (sym c.group-item.is) in
    c.requires.inside c.groups.group-index k c.group-item.result at (rw c.deref.ensures.value at h)

pub returns-in_err-members : goal.returns-in_err-members
returns-in_err-members g c =
    let r = c.from_residual-in_err-members in
    record {
      nodes = IfOk-from_err _ _ r.ensures.0;
      refused = refused_as _ r.result _ r.ensures.1 c.in_err-members.ensures.refused;
    }

pub returns-in_err-push : goal.returns-in_err-push
returns-in_err-push g c =
    let r = c.from_residual-in_err-push in
    record {
      nodes = IfOk-from_err _ _ r.ensures.0;
      refused = refused_as _ r.result _ r.ensures.1 refl;
    }

pub groups-preserved : goal.groups-preserved
groups-preserved g c =
    let eq = g.N.PartialEq.eq in
    let keys = c.args.nodes.now in
    let groups = c.args.groups.now in
    let i = c.groups.group-index in
    let group = c.group-item.result in
    let e : c.push.new.self.items ≡ c.groups.answer.items ++ c.in_ok-members.members ∷ [] = c.in_ok-push.ensures.items in
    let here : AreNodesAt eq keys group c.in_ok-members.members = rw c.deref.ensures.value at c.in_ok-members.ensures.nodes in
    let all = AllZip-append (AreNodesAt eq keys) (take i groups) c.groups.answer.items group c.in_ok-members.members c.groups.invariant here in
    let one : take (i + 1) groups ≡ take i groups ++ group ∷ [] = take_more groups i group c.groups-test.true ∙ ap (λ y. take i groups ++ y ∷ []) (sym c.group-item.is) in
    subst (λ gs. AllZip (AreNodesAt eq keys) gs c.push.new.self.items) (sym one) (subst (λ hs. AllZip (AreNodesAt eq keys) (take i groups ++ group ∷ []) hs) (sym e) all)

pub returns : goal.returns
returns g c = record {
  nodes = subst (λ gs. AllZip (AreNodesAt g.N.PartialEq.eq c.args.nodes.now) gs c.groups.answer.items) (take_all c.groups.group-index c.args.groups.now (omega (arith, c.groups-test.false))) c.groups.invariant;
  refused = tt;
}
