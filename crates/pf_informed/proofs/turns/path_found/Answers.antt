use Rattle.std.proofs.Common.{◌<◌, ℕ, subst, refl}
use Rattle.pf_base.proofs.Outcomes.{if_refused, refused_as}
use Rattle.pf_informed.proofs.turns.path_found.Goals as goal

pub path_to-requires : goal.path_to-requires
path_to-requires g c = let l = c.requires.labelled in rw c.deref.ensures.value (c.requires.forest.climbs c.args.number l.0 l.1)

pub nodes_at-requires-clause-inside : goal.nodes_at-requires-clause-inside
nodes_at-requires-clause-inside g c = λ k h. subst (λ (n : ℕ). k < n) c.requires.wide (rw c.deref.ensures.value at (c.in_ok-numbers.ensures.inside k (rw c.deref-2.ensures.value at h)))

pub nodes_at-requires-clause-clones : goal.nodes_at-requires-clause-clones
nodes_at-requires-clause-clones g c = c.requires.clones

pub returns : goal.returns
returns g c = record {
  found = (refl, (c.in_ok-numbers.numbers.items, rw c.deref.ensures.value at c.in_ok-numbers.ensures.chain, rw c.deref-2.ensures.value at c.in_ok-nodes.ensures.nodes));
  fits = c.known.ensures;
  refused = tt;
}

pub returns-in_err-numbers : goal.returns-in_err-numbers
returns-in_err-numbers g c = record {
  found = if_refused _ c.from_residual.result _ c.from_residual.ensures.1;
  fits = c.known.ensures;
  refused = refused_as _ c.from_residual.result _ c.from_residual.ensures.1 c.in_err-numbers.ensures.refused;
}

pub returns-in_err-nodes : goal.returns-in_err-nodes
returns-in_err-nodes g c = record {
  found = if_refused _ c.from_residual-in_err-nodes.result _ c.from_residual-in_err-nodes.ensures.1;
  fits = c.known.ensures;
  refused = refused_as _ c.from_residual-in_err-nodes.result _ c.from_residual-in_err-nodes.ensures.1 c.in_err-nodes.ensures.refused;
}
