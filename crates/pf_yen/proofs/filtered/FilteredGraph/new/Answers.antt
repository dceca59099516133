use Rattle.std.proofs.Common.{◌≡◌, ◌∙◌, refl, ap, pos, ℕ, replicate, None}
use Rattle.std.proofs.lemmas.Result.{IfOk-from_err}
use Rattle.pf_base.specs.declared.error.PathError.TheVariants.{OutOfMemory}
use Rattle.pf_base.proofs.Outcomes.{refused_as}
use Rattle.pf_yen.proofs.NamedLemmas.{nothing_spent}
use Rattle.pf_base.proofs.ListLemmas.{resized}
use Rattle.pf_yen.proofs.filtered.FilteredGraph.new.Goals as goal

pub returns-in_err-banned : goal.returns-in_err-banned
returns-in_err-banned g c = record {
  graph = IfOk-from_err _ _ c.from_residual.ensures.0;
  onward = IfOk-from_err _ _ c.from_residual.ensures.0;
  spent = IfOk-from_err _ _ c.from_residual.ensures.0;
  refused = refused_as _ c.from_residual.result c.in_err-banned.field-0.0 c.from_residual.ensures.1 c.in_err-banned.ensures.refused;
}

pub returns-in_err-resize : goal.returns-in_err-resize
returns-in_err-resize g c = record {
  graph = IfOk-from_err _ _ c.from_residual-in_err-resize.ensures.0;
  onward = IfOk-from_err _ _ c.from_residual-in_err-resize.ensures.0;
  spent = IfOk-from_err _ _ c.from_residual-in_err-resize.ensures.0;
  refused = refused_as _ c.from_residual-in_err-resize.result OutOfMemory c.from_residual-in_err-resize.ensures.1 refl;
}

pub returns-clause-graph : goal.returns-clause-graph
returns-clause-graph g c = (refl, refl, c.in_ok-banned.ensures.nothing)

pub returns-clause-spent : goal.returns-clause-spent
returns-clause-spent g c =
    let z : g.C.Number.value c.zero.result ≡ pos 0 = ap g.C.Number.value c.zero.ensures ∙ g.met.C.Zero.zero_law g.met.C.Integral.exact_law in
    (z, nothing_spent (g.C.Number.value c.zero.result) z)

pub returns-clause-refused : goal.returns-clause-refused
returns-clause-refused g c = tt

pub returns-clause-onward : goal.returns-clause-onward
returns-clause-onward g c = resized c.len-2.result c.new-onward.result.items c.resize.new.self.items _ None c.new-onward.ensures.items c.new-onward.ensures.len c.in_ok-resize.ensures.items ∙ ap (λ (n : ℕ). replicate n None) c.len-2.ensures
