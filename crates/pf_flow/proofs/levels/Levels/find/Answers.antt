use Rattle.std.proofs.Common.{◌≤◌, length, arith}
use Rattle.std.proofs.lemmas.Result.{IfOk-from_err}
use Rattle.pf_base.proofs.Outcomes.{refused_as}
use Rattle.pf_residual.proofs.LevelLemmas.{levels_of}
use Rattle.pf_flow.proofs.levels.Levels.find.Goals as goal

pub loop-at-init : goal.loop-at-init
loop-at-init g c = record { found = c.in_ok-begin.ensures.found; arcs = c.in_ok-begin.ensures.arcs }

pub loop-at-smaller : goal.loop-at-smaller
loop-at-smaller g c =
    let all = c.loop-at.invariant.found.search.count in
    omega (arith, all, c.len.ensures, c.loop-at.self.queue.ok, c.loop-at-test.true)

pub loop-at-preserved : goal.loop-at-preserved
loop-at-preserved g c = record { found = c.in_ok-follow.ensures.found; arcs = c.in_ok-follow.ensures.arcs }

pub follow-requires-clause-found : goal.follow-requires-clause-found
follow-requires-clause-found g c = c.loop-at.invariant.found

pub follow-requires-clause-at : goal.follow-requires-clause-at
follow-requires-clause-at g c = omega (arith, c.len.ensures, c.loop-at.self.queue.ok, c.loop-at-test.true)

pub follow-requires-clause-arcs : goal.follow-requires-clause-arcs
follow-requires-clause-arcs g c = c.loop-at.invariant.arcs

pub returns : goal.returns
returns g c = record {
  found =
      let i = c.loop-at.invariant in
      let all : length c.loop-at.self.queue.items ≤ c.loop-at.at = omega (arith, c.len.ensures, c.loop-at.self.queue.ok, c.loop-at-test.false) in
      record { levels = levels_of all i.found.search; levels_len = i.found.levels_len; parents_len = i.found.parents_len; arcs = i.arcs };
  refused = tt;
}

pub returns-in_err-begin : goal.returns-in_err-begin
returns-in_err-begin g c = record {
  found = IfOk-from_err _ _ c.from_residual.ensures.0;
  refused = refused_as _ c.from_residual.result _ c.from_residual.ensures.1 c.in_err-begin.ensures.refused;
}

pub returns-in_err-follow : goal.returns-in_err-follow
returns-in_err-follow g c = record {
  found = IfOk-from_err _ _ c.from_residual-in_err-follow.ensures.0;
  refused = refused_as _ c.from_residual-in_err-follow.result _ c.from_residual-in_err-follow.ensures.1 c.in_err-follow.ensures.refused;
}
