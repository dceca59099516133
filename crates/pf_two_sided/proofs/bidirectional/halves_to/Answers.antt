use Rattle.std.proofs.Common.{ℕ, List, ◌<◌, ◌≡◌, length, ap, subst, sym}
use Rattle.std.proofs.lemmas.Result.{IfOk-from_err}
use Rattle.pf_base.specs.declared.error.PathError.TheVariants.{OutOfMemory}
use Rattle.pf_core.specs.Labels.{Labels, Climbs, IsChain}
use Rattle.pf_core.specs.Breadth.{Hops}
use Rattle.pf_base.proofs.Outcomes.{refused_as}
use Rattle.pf_core.proofs.PathLemmas.{tree_climbs}
use Rattle.pf_two_sided.proofs.bidirectional.halves_to.Goals as goal

pub path_to-requires : goal.path_to-requires
path_to-requires g c = subst (λ (xs : Labels Hops). (above : List ℕ) × Climbs xs c.args.number above) (sym c.deref.ensures.value) (tree_climbs _ c.requires.trees.0 c.args.number c.requires.labelled.0)

pub returns-in_err-forth : goal.returns-in_err-forth
returns-in_err-forth g c = record {
  chains = IfOk-from_err c.from_residual.result _ c.from_residual.ensures.0;
  inside = IfOk-from_err c.from_residual.result _ c.from_residual.ensures.0;
  refused = refused_as (λ e. e ≡ OutOfMemory) c.from_residual.result c.in_err-forth.field-0.0 c.from_residual.ensures.1 c.in_err-forth.ensures.refused;
}

pub path_to-requires-2 : goal.path_to-requires-2
path_to-requires-2 g c = subst (λ (xs : Labels Hops). (above : List ℕ) × Climbs xs c.args.across above) (sym c.deref-2.ensures.value) (tree_climbs _ c.requires.trees.1 c.args.across c.requires.labelled.1)

pub returns-in_err-back : goal.returns-in_err-back
returns-in_err-back g c = record {
  chains = IfOk-from_err c.from_residual-in_err-back.result _ c.from_residual-in_err-back.ensures.0;
  inside = IfOk-from_err c.from_residual-in_err-back.result _ c.from_residual-in_err-back.ensures.0;
  refused = refused_as (λ e. e ≡ OutOfMemory) c.from_residual-in_err-back.result c.in_err-back.field-0.0 c.from_residual-in_err-back.ensures.1 c.in_err-back.ensures.refused;
}

pub returns-clause-chains : goal.returns-clause-chains
returns-clause-chains g c = (
  subst (λ (xs : Labels Hops). IsChain xs c.args.number c.in_ok-forth.forth.items) c.deref.ensures.value c.in_ok-forth.ensures.chain,
  subst (λ (xs : Labels Hops). IsChain xs c.args.across c.in_ok-back.back.items) c.deref-2.ensures.value c.in_ok-back.ensures.chain,
)

pub returns-clause-inside : goal.returns-clause-inside
returns-clause-inside g c = (
  λ k h. subst (λ (n : ℕ). k < n) (ap length c.deref.ensures.value) (c.in_ok-forth.ensures.inside k h),
  λ k h. subst (λ (n : ℕ). k < n) (ap length c.deref-2.ensures.value) (c.in_ok-back.ensures.inside k h),
)

pub returns-clause-refused : goal.returns-clause-refused
returns-clause-refused g c = tt
