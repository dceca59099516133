use Rattle.std.proofs.Common.{◌∙◌, inl, sym, subst, length}
use Rattle.std.proofs.lemmas.Result.{IfOk-from_err}
use Rattle.pf_residual.specs.Internal.HeldEdges.{RunBelow, IsNamedAnswer}
use Rattle.pf_residual.proofs.FillLemmas.{network_of_unused}
use Rattle.pf_base.proofs.Outcomes.{refused_as}
use Rattle.pf_residual.proofs.NamedLemmas.{answer_of, cut_inside, err_gives, flows_inside, ok_gives}
use Rattle.pf_flow.proofs.by_names.flows_of.Goals as goal

pub augment-requires : goal.augment-requires
augment-requires g c = network_of_unused c.in_ok-put_edges.ensures.unused

pub name_answer-requires-clause-flows : goal.name_answer-requires-clause-flows
name_answer-requires-clause-flows g c =
    let shape = c.in_ok-put_edges.ensures.shape in
    let kept = c.augment.ensures.kept.shape in
    let flows = c.in_ok-answer.ensures.answer.flows (kept.details ∙ shape.details ∙ c.requires.details) in
    let vertices = kept.vertices ∙ shape.vertices ∙ c.requires.vertices in
    subst (λ ks. RunBelow (length ks) c.in_ok-answer.answer.0.items) (sym c.as_slice.ensures.keys)
    (flows_inside c.args.names.now.keys (g.EK.FlowStore.network c.augment.new.self) g.C.Number.value vertices c.in_ok-answer.answer.0.items flows)

pub name_answer-requires-clause-cut : goal.name_answer-requires-clause-cut
name_answer-requires-clause-cut g c =
    let shape = c.in_ok-put_edges.ensures.shape in
    let kept = c.augment.ensures.kept.shape in
    let a = c.in_ok-answer.ensures.answer in
    let cut = a.cut_edges (kept.details ∙ shape.details ∙ c.requires.details) in
    let vertices = kept.vertices ∙ shape.vertices ∙ c.requires.vertices in
    subst (λ ks. RunBelow (length ks) c.in_ok-answer.answer.2.items) (sym c.as_slice.ensures.keys)
    (cut_inside c.args.names.now.keys (g.EK.FlowStore.network c.augment.new.self) g.C.Number.value vertices c.in_ok-answer.answer.2.items cut (λ q. (a.idle q).2))

pub returns : goal.returns
returns g c = record {
  answer =
      ok_gives c.name_answer.result c.name_answer.ensures.named (λ named n source sink fresh.
      let keys = c.args.names.now.keys in
      let p = c.in_ok-put_edges.ensures.held in
      let a = c.in_ok-answer.ensures in
      let numbered = c.in_ok-answer.answer in (
        p.0,
        p.1,
        p.2,
        p.3,
        p.4.accepted,
        (
          g.EK.FlowStore.network c.augment.new.self,
          answer_of g.N.PartialEq.eq g.C.Number.value keys g.C.Number.fits source sink fresh c.in_ok-put_edges.ensures.shape c.augment.ensures.kept p.1 numbered named
              p.4.capacities c.augment.ensures.network a.cut a.answer (subst (λ ks. IsNamedAnswer ks numbered named) c.as_slice.ensures.keys n),
        ),
      ));
  refused = err_gives c.name_answer.result c.name_answer.ensures.refused (λ e why. inl why);
}

pub returns-in_err-put_edges : goal.returns-in_err-put_edges
returns-in_err-put_edges g c = record {
  answer = IfOk-from_err _ _ c.from_residual.ensures.0;
  refused = refused_as _ c.from_residual.result _ c.from_residual.ensures.1 c.in_err-put_edges.ensures.refused;
}

pub returns-in_err-answer : goal.returns-in_err-answer
returns-in_err-answer g c = record {
  answer = IfOk-from_err _ _ c.from_residual-in_err-answer.ensures.0;
  refused = refused_as _ c.from_residual-in_err-answer.result _ c.from_residual-in_err-answer.ensures.1 (inl c.in_err-answer.ensures.refused);
}
