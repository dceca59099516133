use Rattle.std.proofs.Common.{refl, arith, ℕ}
use Rattle.std.specs.Prelude.{Vec}
use Rattle.std.proofs.lemmas.List.{map-append, length-map, take_all}
use Rattle.std.proofs.lemmas.Result.{IfOk-from_err}
use Rattle.pf_orders.specs.StrongComponents.{lists_of}
use Rattle.pf_orders.proofs.ComponentLists.{contained_at, zip_one_more, list_at}
use Rattle.pf_base.proofs.Outcomes.{refused_as}
use Rattle.pf_orders.proofs.discovered.components_at.Goals as goal

pub returns-in_err-answer : goal.returns-in_err-answer
returns-in_err-answer g c =
    let r = c.from_residual in
    record {
      nodes = IfOk-from_err _ _ r.ensures.0;
      refused = refused_as _ r.result _ r.ensures.1 refl;
    }

pub components-init : goal.components-init
components-init g c = rw c.in_ok-answer.ensures.items tt

pub clones_at-requires-clause-inside : goal.clones_at-requires-clause-inside
clones_at-requires-clause-inside g c = λ k h.
    let i = c.components.component-index in
    let at = list_at c.args.components.now i c.component-item.result c.components-test.true c.component-item.is in
    let p = contained_at c.component-item.result.items k (rw c.deref.ensures.value at h) in
    c.requires.inside i k (c.component-item.result.items, p.0, at, p.1)

pub returns-in_err-clones : goal.returns-in_err-clones
returns-in_err-clones g c =
    let r = c.from_residual-in_err-clones in
    record {
      nodes = IfOk-from_err _ _ r.ensures.0;
      refused = refused_as _ r.result _ r.ensures.1 c.in_err-clones.ensures.refused;
    }

pub returns-in_err-push : goal.returns-in_err-push
returns-in_err-push g c =
    let r = c.from_residual-in_err-push in
    record {
      nodes = IfOk-from_err _ _ r.ensures.0;
      refused = refused_as _ r.result _ r.ensures.1 refl;
    }

pub components-preserved : goal.components-preserved
components-preserved g c =
    let i = c.components.component-index in
    let at = list_at c.args.components.now i c.component-item.result c.components-test.true c.component-item.is in
    rw c.in_ok-push.ensures.items (rw map-append (zip_one_more _ (lists_of c.args.components.now) i c.component-item.result.items (lists_of c.components.answer.items) c.in_ok-clones.clones.items at c.components.invariant (rw c.deref.ensures.value at c.in_ok-clones.ensures.nodes)))

pub clones_at-requires-clause-clones : goal.clones_at-requires-clause-clones
clones_at-requires-clause-clones g c = c.requires.clones

pub returns : goal.returns
returns g c =
    let all = length-map c.args.components.now (λ (v : Vec ℕ g.row.A.Denot). v.items) in
    record {
      nodes = rw (take_all c.components.component-index (lists_of c.args.components.now) (omega (arith, all, c.components-test.false))) at c.components.invariant;
      refused = tt;
    }
