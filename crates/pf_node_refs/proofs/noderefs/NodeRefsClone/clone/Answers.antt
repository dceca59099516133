use Rattle.std.proofs.Common.{◌≡◌, sym, ◌∙◌, ap, subst}
use Rattle.std.specs.Prelude.{Result, Ok, Err, IsErr, MatchResult}
use Rattle.std.proofs.lemmas.Bool.{false≢true}
use Rattle.std.proofs.lemmas.List.Elements.{same_from_all_zip}
use Rattle.pf_base.specs.Walks.{NoRepeats}
use Rattle.pf_base.specs.NodeRefs.{nodes_of}
use Rattle.pf_node_refs.proofs.noderefs.NodeRefsClone.clone.Goals as goal

at_err : {T E : Type 0} (P : T → Type 0) (Q : E → Type 0) (r : Result T E) → IsErr r → ((e : E) → Q e) → MatchResult r P Q
at_err P Q (Ok x) h f = absurd (false≢true h)
at_err P Q (Err e) h f = f e

pub returns-in_err-nodes : goal.returns-in_err-nodes
returns-in_err-nodes g c = record { cases = at_err _ _ c.from_residual.result c.from_residual.ensures.0 (λ e n. n) }

pub invariant_of-result : goal.invariant_of-result
invariant_of-result g c =
    let same : c.in_ok-nodes.nodes.keys ≡ c.self.inside.nodes.keys = same_from_all_zip _ c.self.inside.nodes.keys c.in_ok-nodes.nodes.keys c.in_ok-nodes.ensures.cases (λ x y e. e) in
    subst (λ refs. NoRepeats g.N.PartialEq.eq (nodes_of refs)) (sym same) c.self.invariant

pub returns : goal.returns
returns g c =
    let same : c.in_ok-nodes.nodes.keys ≡ c.self.inside.nodes.keys = same_from_all_zip _ c.self.inside.nodes.keys c.in_ok-nodes.nodes.keys c.in_ok-nodes.ensures.cases (λ x y e. e) in
    record { cases = ap nodes_of same ∙ c.self.view_is }
