use Rattle.std.proofs.Common.{sym, ◌∙◌}
use Rattle.std.proofs.lemmas.Slice.Eq.{bytes_eq-Decides}
use Rattle.pf_routes.proofs.Numbering.{keeps-insert, name_at-key, turn-insert}
use Rattle.pf_routes.proofs.routes.links.number.Goals as goal

pub returns : goal.returns
returns g c = record {
  within = c.in_ok-n.ensures.within;
  named = let s = c.in_ok-n.ensures.stored in name_at-key c.insert_full.new.self.keys c.in_ok-n.n s.0 s.1 ∙ sym ((bytes_eq-Decides c.new.result.now (s.0).now).0 s.2) ∙ c.new.ensures;
  kept = keeps-insert c.args.names.now.keys c.insert_full.new.self.keys c.new.result c.in_ok-n.ensures.keys;
  met = turn-insert c.args.names.now.keys c.insert_full.new.self.keys c.new.result c.args.name.now c.new.ensures c.in_ok-n.ensures.keys;
}
