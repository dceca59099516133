use Rattle.std.proofs.Common.{rules, ◌≡◌, length, refl}
use Rattle.pf_informed.specs.Internal.Branches.{branches_at}
use Rattle.pf_informed.specs.Internal.Chains.{before_in}
use Rattle.pf_base.proofs.Outcomes.{if_refused, refused_as}
use Rattle.pf_informed.proofs.WaysLemmas.{start_ways, start_left}
use Rattle.pf_informed.proofs.ways.Ways.new.Goals as goal

pub returns-clause-ways : goal.returns-clause-ways
returns-clause-ways g c =
    let wide : length c.resize.new.self.items ≡ length c.args.before = search rules in
    let put : c.put_branches.new.waiting.items ≡ branches_at 0 c.args.goals.now = search rules in
    rw put (start_ways (length c.args.before) (before_in c.args.before) _ c.resize.new.self.items c.args.goals.now c.new.ensures.items c.requires.below wide c.requires.goals)

pub returns-clause-left : goal.returns-clause-left
returns-clause-left g c =
    let put : c.put_branches.new.waiting.items ≡ branches_at 0 c.args.goals.now = search rules in
    rw put (start_left (length c.args.before) (before_in c.args.before) _ c.args.goals.now c.new.ensures.items)

pub returns-clause-before : goal.returns-clause-before
returns-clause-before g c = refl

pub returns-in_err-resize : goal.returns-in_err-resize
returns-in_err-resize g c = record {
  before = if_refused _ c.from_residual.result _ c.from_residual.ensures.1;
  ways = if_refused _ c.from_residual.result _ c.from_residual.ensures.1;
  left = if_refused _ c.from_residual.result _ c.from_residual.ensures.1;
  refused = refused_as _ c.from_residual.result _ c.from_residual.ensures.1 refl;
}

pub returns-in_err-waiting : goal.returns-in_err-waiting
returns-in_err-waiting g c = record {
  before = if_refused _ c.from_residual-in_err-waiting.result _ c.from_residual-in_err-waiting.ensures.1;
  ways = if_refused _ c.from_residual-in_err-waiting.result _ c.from_residual-in_err-waiting.ensures.1;
  left = if_refused _ c.from_residual-in_err-waiting.result _ c.from_residual-in_err-waiting.ensures.1;
  refused = refused_as _ c.from_residual-in_err-waiting.result _ c.from_residual-in_err-waiting.ensures.1 refl;
}
