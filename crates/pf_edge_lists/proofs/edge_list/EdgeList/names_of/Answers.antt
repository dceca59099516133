use Rattle.std.proofs.Common.{◌<◌, ◌∙◌, ap, sym, subst, length, true≢false}
use Rattle.std.proofs.lemmas.List.{length-map}
use Rattle.std.proofs.lemmas.List.Elements.{All-contains}
use Rattle.std.proofs.lemmas.Result.{IfOk-from_err}
use Rattle.std.specs.Prelude.{All}
use Rattle.pf_base.proofs.Outcomes.{refused_as}
use Rattle.pf_edge_lists.specs.EdgeLists.{names_of}
use Rattle.pf_edge_lists.proofs.edge_list.EdgeList.names_of.Goals as goal

pub names_along-requires : goal.names_along-requires
names_along-requires g c = λ k h.
    let long = c.len.ensures.len ∙ sym (length-map c.self.inside.names.keys _) ∙ ap length c.self.invariant.named ∙ ap (λ es. length (names_of g.N.PartialEq.eq es)) c.self.view_is in
    subst (λ n. k < n) long (All-contains (λ n. n < c.len.result) c.args.nodes.now k (c.are_below.ensures.0 c.if-not-are_below.false) h)

pub returns-then-not-are_below-clause-names : goal.returns-then-not-are_below-clause-names
returns-then-not-are_below-clause-names g c = λ h.
    let long = c.len.ensures.len ∙ sym (length-map c.self.inside.names.keys _) ∙ ap length c.self.invariant.named ∙ ap (λ es. length (names_of g.N.PartialEq.eq es)) c.self.view_is in
    true≢false (sym (c.are_below.ensures.1 (subst (λ n. All (λ node. node < n) c.args.nodes.now) (sym long) h)) ∙ c.if-not-are_below.true)

pub returns-in_err-names-clause-names : goal.returns-in_err-names-clause-names
returns-in_err-names-clause-names g c = IfOk-from_err _ _ c.from_residual.ensures.0

pub returns-in_err-names-clause-refused : goal.returns-in_err-names-clause-refused
returns-in_err-names-clause-refused g c = refused_as _ c.from_residual.result _ c.from_residual.ensures.1 c.in_err-names.ensures.refused

pub returns-clause-names : goal.returns-clause-names
returns-clause-names g c = c.in_ok-names.ensures.names
