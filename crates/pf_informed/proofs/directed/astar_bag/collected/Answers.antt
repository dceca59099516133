use Rattle.std.proofs.Common.{◌∷◌, [], inl, inr}
use Rattle.pf_informed.proofs.GatherLemmas.{gathered_all}
use Rattle.pf_base.proofs.Outcomes.{if_refused, refused_as}
use Rattle.pf_informed.proofs.directed.astar_bag.collected.Goals as goal

pub gather-paths-requires : goal.gather-paths-requires
gather-paths-requires g c = record { clones = c.requires.clones; ready = rw c.in-Some.is at (rw c.in_ok-solution.was at c.requires.ready) }

pub returns : goal.returns
returns g c = record {
  all = λ value start edges test h. gathered_all g.N.PartialEq.eq g.met.N.Eq.laws edges (start ∷ []) test c.in_ok-paths.paths.items c.in-Some.solution.left (value c.in-Some.cost) (rw c.in_ok-paths.was at c.gather-paths.ensures.all) (rw c.in-Some.is at (rw c.in_ok-solution.was at h));
  errors = tt;
}

pub returns-in_default : goal.returns-in_default
returns-in_default g c = record {
  all = λ value start edges test h. rw c.in_default.is at (rw c.in_ok-solution.was at h);
  errors = tt;
}

pub returns-in_err-solution : goal.returns-in_err-solution
returns-in_err-solution g c = record {
  all = λ value start edges test h. if_refused _ c.from_residual.result _ c.from_residual.ensures.1;
  errors = refused_as _ c.from_residual.result _ c.from_residual.ensures.1 (inl c.in_err-solution.was);
}

pub returns-in_err-paths : goal.returns-in_err-paths
returns-in_err-paths g c = record {
  all = λ value start edges test h. if_refused _ c.from_residual-in_err-paths.result _ c.from_residual-in_err-paths.ensures.1;
  errors = refused_as _ c.from_residual-in_err-paths.result _ c.from_residual-in_err-paths.ensures.1 (inr (rw c.in_err-paths.was at c.gather-paths.ensures.refused));
}
