use Rattle.std.proofs.Common.{subst, sym}
use Rattle.pf_core.specs.Nodes.{AddsNode}
use Rattle.pf_core.proofs.NodeLemmas.{AddsNode-insert, AddsNode-old, eq-sym}
use Rattle.pf_discovery.proofs.numbering.NodesNumbering.number_of.Goals as goal

pub returns-in-Err : goal.returns-in-Err
returns-in-Err g c = record {
  added =
      let eq = g.N.PartialEq.eq in
      subst (AddsNode eq c.args.node c.args.self.now.keys) (sym c.in-Err.ensures.err) (AddsNode-old eq c.args.self.now.keys c.args.node);
  numbered = tt;
  stays = c.in-Err.ensures.err;
  returned = c.in-Err.ensures.value_returned;
}

pub returns-in-Ok : goal.returns-in-Ok
returns-in-Ok g c = record {
  added = AddsNode-insert g.N.PartialEq.eq g.met.N.Eq.laws c.args.self.now.keys c.insert_full.new.self.keys c.args.node c.in-Ok.ensures.keys;
  numbered =
      let s = c.in-Ok.ensures.stored in
      (s.0, s.1, eq-sym g.N.PartialEq.eq g.met.N.Eq.laws c.args.node s.0 s.2);
  stays = tt;
  returned = tt;
}
