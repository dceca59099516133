use Rattle.std.proofs.lemmas.Result.{IfOk-from_err}
use Rattle.pf_base.proofs.Outcomes.{no_memory}
use Rattle.pf_core.proofs.ReadLemmas.{one_key, stands_first, same_one}
use Rattle.pf_discovery.proofs.discovery.clone_of.Goals as goal

pub returns-in_err-first : goal.returns-in_err-first
returns-in_err-first g c = record {
  one = IfOk-from_err _ _ c.from_residual.ensures.0;
  begins = IfOk-from_err _ _ c.from_residual.ensures.0;
  same = IfOk-from_err _ _ c.from_residual.ensures.0;
  distinct = IfOk-from_err _ _ c.from_residual.ensures.0;
  refused = no_memory c.from_residual.result c.from_residual.ensures.1;
}

pub returns-in_err-insert : goal.returns-in_err-insert
returns-in_err-insert g c = record {
  one = IfOk-from_err _ _ c.from_residual-in_err-insert.ensures.0;
  begins = IfOk-from_err _ _ c.from_residual-in_err-insert.ensures.0;
  same = IfOk-from_err _ _ c.from_residual-in_err-insert.ensures.0;
  distinct = IfOk-from_err _ _ c.from_residual-in_err-insert.ensures.0;
  refused = no_memory c.from_residual-in_err-insert.result c.from_residual-in_err-insert.ensures.1;
}

pub returns : goal.returns
returns g c = record {
  one = one_key g.N.PartialEq.eq g.met.N.Eq.laws c.new-nodes.result.keys c.insert.new.self.keys c.args.start.now c.in_ok-first.first (c.requires.clones c.args.start.now c.in_ok-first.first c.in_ok-first.ensures.cases) c.new-nodes.ensures.empty c.in_ok-insert.ensures.keys;
  begins = stands_first g.N.PartialEq.eq g.met.N.Eq.laws c.new-nodes.result.keys c.insert.new.self.keys c.args.start.now c.in_ok-first.first (c.requires.clones c.args.start.now c.in_ok-first.first c.in_ok-first.ensures.cases) c.new-nodes.ensures.empty c.in_ok-insert.ensures.keys;
  same = same_one g.N.PartialEq.eq g.met.N.Eq.laws c.new-nodes.result.keys c.insert.new.self.keys c.args.start.now c.in_ok-first.first (c.requires.clones c.args.start.now c.in_ok-first.first c.in_ok-first.ensures.cases) c.new-nodes.ensures.empty c.in_ok-insert.ensures.keys;
  distinct = c.insert.ensures.unique;
  refused = tt;
}
