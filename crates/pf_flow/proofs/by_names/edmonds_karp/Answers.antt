use Rattle.std.proofs.Common.{inl, subst}
use Rattle.std.specs.Prelude.{List, IfErr, IfOk, OnOk}
use Rattle.std.proofs.lemmas.Result.{IfOk-from_err}
use Rattle.pf_residual.specs.NamedNetworks.{GivenEdges, IsAnsweredFor, IsKnown, IsRefusedFor}
use Rattle.pf_base.proofs.Outcomes.{refused_as}
use Rattle.pf_flow.proofs.by_names.edmonds_karp.Goals as goal

pub returns : goal.returns
returns g c =
    let eq = g.N.PartialEq.eq in
    let result = c.flows_among.result in
    let said = c.flows_among.ensures in
    let names = c.in_ok-names.ensures.names in
    let source = c.args.source.now in
    let sink = c.args.sink.now in
    let given : List g.row.N.Denot → GivenEdges g.row.N.Denot g.row.C.Denot = λ ks. record {
      eq = eq;
      value = g.C.Number.value;
      fits = g.C.Number.fits;
      names = ks;
      Edges = g.row.IC-IntoIter.Denot;
      becomes = g.IC.IntoIterator.into_iter_gives c.args.capacities;
      steps = g.IC.IntoIter.Iterator.next_gives;
    } in
    record {
      source = subst (λ ks. OnOk result (IsKnown eq ks source)) names said.source;
      sink = subst (λ ks. OnOk result (IsKnown eq ks sink)) names said.sink;
      answer = subst (λ ks. IfOk result (IsAnsweredFor (given ks) source sink)) names said.answer;
      refused = subst (λ ks. IfErr result (IsRefusedFor (given ks) source sink)) names said.refused;
    }

pub returns-in_err-names : goal.returns-in_err-names
returns-in_err-names g c = record {
  source = IfOk-from_err _ _ c.from_residual.ensures.0;
  sink = IfOk-from_err _ _ c.from_residual.ensures.0;
  answer = IfOk-from_err _ _ c.from_residual.ensures.0;
  refused = refused_as _ c.from_residual.result _ c.from_residual.ensures.1 (inl c.in_err-names.ensures.refused);
}
