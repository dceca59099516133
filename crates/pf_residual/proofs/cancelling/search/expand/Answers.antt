use Rattle.std.proofs.Common.{rules, ◌≤◌, arith, get_or, length, sym, subst}
use Rattle.std.proofs.lemmas.List.{take_all}
use Rattle.std.proofs.lemmas.Option.{slice_get-get_or}
use Rattle.pf_residual.specs.Internal.Cancelling.{Has}
use Rattle.pf_residual.proofs.SearchLemmas.{extends_same, extends_then, leads_more}
use Rattle.std.proofs.lemmas.Result.{IfOk-from_err}
use Rattle.pf_base.proofs.Outcomes.{refused_as}
use Rattle.pf_residual.proofs.cancelling.search.expand.Goals as goal

pub follow-requires-clause-start : goal.follow-requires-clause-start
follow-requires-clause-start g c = (c.requires.start.0, c.arcs.invariant.reached c.requires.start.0 c.requires.start.1)

pub follow-requires-clause-arc : goal.follow-requires-clause-arc
follow-requires-clause-arc g c =
    let row = c.args.row.now in
    let i = c.arcs.number-index in
    let e = c.requires.row.2 (get_or row i 0) (i, slice_get-get_or row i 0 c.arcs-test.true) in
    (c.requires.row.0, e.0, c.arcs.invariant.extends.step c.args.at c.requires.row.0 c.requires.row.1, e.1, e.2)

pub follow-requires-clause-inside : goal.follow-requires-clause-inside
follow-requires-clause-inside g c = λ k e h.
    let l = c.requires.inside k e h in
    let wide = c.arcs.invariant.extends.wide in
    let a = l.0 in
    let b = l.1 in
    (omega (arith, a, wide), omega (arith, b, wide))

pub arcs-init : goal.arcs-init
arcs-init g c = record {
  reached = λ start h. h;
  extends = extends_same c.args.reached.now.steps.items c.args.reached.now.places.items;
  leads = λ k e h at carries. search rules;
}

pub arcs-preserved : goal.arcs-preserved
arcs-preserved g c =
    let v = c.arcs.invariant in
    let new = c.follow.new.reached in
    let e = c.in_ok-follow.ensures in
    record {
      reached = λ start h. e.reached start (v.reached start h);
      extends = extends_then c.args.reached.now.steps.items c.args.reached.now.places.items c.arcs.reached.steps.items c.arcs.reached.places.items new.steps.items new.places.items v.extends e.extends;
      leads = leads_more g.C.Number.value c.args.ends.now c.args.amounts.now c.args.row.now c.arcs.number-index c.arcs.reached.steps.items c.arcs.reached.places.items new.steps.items new.places.items c.arcs-test.true e.extends e.placed v.leads;
    }

pub returns-clause-expanded : goal.returns-clause-expanded
returns-clause-expanded g c =
    let all : length c.args.row.now ≤ c.arcs.number-index = omega arith in
    λ k e h. c.arcs.invariant.leads k e (subst (λ ks. Has ks k) (sym (take_all c.arcs.number-index c.args.row.now all)) h)

pub returns-in_err-follow : goal.returns-in_err-follow
returns-in_err-follow g c = record {
  reached = IfOk-from_err _ _ c.from_residual.ensures.0;
  extends = IfOk-from_err _ _ c.from_residual.ensures.0;
  expanded = IfOk-from_err _ _ c.from_residual.ensures.0;
  refused = refused_as _ c.from_residual.result _ c.from_residual.ensures.1 c.in_err-follow.ensures.refused;
}
