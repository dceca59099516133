use Rattle.std.proofs.Common.{◌≡◌, ◌∙◌, ◌++◌, ap, arith}
use Rattle.std.proofs.lemmas.Result.{IfOk-from_err}
use Rattle.pf_base.specs.declared.error.PathError.TheVariants.{OutOfMemory}
use Rattle.pf_base.proofs.ListLemmas.{popped}
use Rattle.pf_base.proofs.Outcomes.{refused_as, refused_by}
use Rattle.pf_two_sided.proofs.two_sided.TwoSided.nodes_along.Goals as goal

pub clones_at-requires-clause-inside : goal.clones_at-requires-clause-inside
clones_at-requires-clause-inside g c = λ k h. rw c.as_slice.ensures.keys (c.requires.forth k (rw c.deref.ensures.value at h))

pub clones_at-requires-clause-clones : goal.clones_at-requires-clause-clones
clones_at-requires-clause-clones g c = c.requires.clones

pub returns-in_err-path : goal.returns-in_err-path
returns-in_err-path g c = record {
  nodes = IfOk-from_err c.from_residual.result _ c.from_residual.ensures.0;
  refused = refused_as (λ e. e ≡ OutOfMemory) c.from_residual.result c.in_err-path.field-0.0 c.from_residual.ensures.1 c.in_err-path.ensures.refused;
}

pub clones_at-requires-2-clause-inside : goal.clones_at-requires-2-clause-inside
clones_at-requires-2-clause-inside g c = λ k h. rw c.as_slice-2.ensures.keys (c.requires.back k (rw c.deref-2.ensures.value at h))

pub clones_at-requires-2-clause-clones : goal.clones_at-requires-2-clause-clones
clones_at-requires-2-clause-clones g c = c.requires.clones

pub returns-in_err-rest : goal.returns-in_err-rest
returns-in_err-rest g c = record {
  nodes = IfOk-from_err c.from_residual-in_err-rest.result _ c.from_residual-in_err-rest.ensures.0;
  refused = refused_as (λ e. e ≡ OutOfMemory) c.from_residual-in_err-rest.result c.in_err-rest.field-0.0 c.from_residual-in_err-rest.ensures.1 c.in_err-rest.ensures.refused;
}

pub returns-in_err-append : goal.returns-in_err-append
returns-in_err-append g c = record {
  nodes = IfOk-from_err c.from_residual-in_err-append.result _ c.from_residual-in_err-append.ensures.0;
  refused = refused_by (λ e. e ≡ OutOfMemory) c.from_residual-in_err-append.result c.from_residual-in_err-append.ensures.1;
}

pub returns : goal.returns
returns g c = record {
  nodes =
      let p = c.pop.ensures in (
        c.in_ok-path.path.items,
        c.in_ok-rest.rest.items,
        rw (c.as_slice.ensures.keys, c.deref.ensures.value) at c.in_ok-path.ensures.nodes,
        rw (c.as_slice-2.ensures.keys, c.deref-2.ensures.value) at c.in_ok-rest.ensures.nodes,
        c.in_ok-append.ensures.items ∙ ap (λ xs. c.in_ok-path.path.items ++ xs) (c.reverse.ensures.items ∙ popped c.in_ok-rest.rest.items c.pop.new.self.items c.pop.result _ _ _ p.items p.cases (omega (arith, c.pop.new.self.ok))),
      );
  refused = tt;
}
