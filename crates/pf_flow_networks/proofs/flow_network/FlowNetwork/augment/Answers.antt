use Rattle.std.proofs.Common.{◌∙◌, length, sym, subst}
use Rattle.pf_residual.specs.Internal.HeldEdges.{RunBelow}
use Rattle.pf_residual.proofs.NamedLemmas.{cut_inside, flows_inside}
use Rattle.pf_flow_networks.proofs.flow_network.FlowNetwork.augment.Goals as goal

pub name_answer-requires-clause-flows : goal.name_answer-requires-clause-flows
name_answer-requires-clause-flows g c =
    let whole = c.args.self.now.whole in
    let shape = c.augment.ensures.kept.shape in
    subst (λ ks. RunBelow (length ks) c.in_ok-answer.answer.0.items) (sym c.as_slice.ensures.keys)
    (flows_inside c.args.self.now.names.keys (g.S.FlowStore.network c.augment.new.self) g.C.Number.value (shape.vertices ∙ whole.vertices) c.in_ok-answer.answer.0.items (c.in_ok-answer.ensures.answer.flows (shape.details ∙ whole.details)))

pub name_answer-requires-clause-cut : goal.name_answer-requires-clause-cut
name_answer-requires-clause-cut g c =
    let whole = c.args.self.now.whole in
    let shape = c.augment.ensures.kept.shape in
    let a = c.in_ok-answer.ensures.answer in
    subst (λ ks. RunBelow (length ks) c.in_ok-answer.answer.2.items) (sym c.as_slice.ensures.keys)
    (cut_inside c.args.self.now.names.keys (g.S.FlowStore.network c.augment.new.self) g.C.Number.value (shape.vertices ∙ whole.vertices) c.in_ok-answer.answer.2.items (a.cut_edges (shape.details ∙ whole.details)) (λ q. (a.idle q).2))
