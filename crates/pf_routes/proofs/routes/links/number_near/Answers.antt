use Rattle.std.proofs.Common.{sym, ◌∙◌, ap, Bor, List, ℕ}
use Rattle.std.proofs.lemmas.Slice.Eq.{bytes_eq-Decides}
use Rattle.pf_routes.proofs.Numbering.{keeps-insert, keeps-refl, name_at-key, turn-insert, turn-known}
use Rattle.pf_routes.proofs.routes.links.number_near.Goals as goal

pub returns-then-is_named : goal.returns-then-is_named
returns-then-is_named g c = record {
  within = (c.is_named.ensures c.if-is_named.true).0;
  named = (c.is_named.ensures c.if-is_named.true).1;
  kept = keeps-refl c.args.names.now.keys;
  met = let t = c.is_named.ensures c.if-is_named.true in turn-known c.args.names.now.keys c.args.first c.args.name.now.now t.0 t.1;
}

pub returns-then-is_named-2 : goal.returns-then-is_named-2
returns-then-is_named-2 g c = record {
  within = (c.is_named-2.ensures c.if-is_named-2.true).0;
  named = (c.is_named-2.ensures c.if-is_named-2.true).1;
  kept = keeps-refl c.args.names.now.keys;
  met = let t = c.is_named-2.ensures c.if-is_named-2.true in turn-known c.args.names.now.keys c.args.second c.args.name.now.now t.0 t.1;
}

pub returns : goal.returns
returns g c = record {
  within = c.in_ok-n.ensures.within;
  named =
      let s = c.in_ok-n.ensures.stored in
      name_at-key c.insert_full.new.self.keys c.in_ok-n.n s.0 s.1 ∙ sym ((bytes_eq-Decides c.copied.result.now (s.0).now).0 s.2) ∙ ap (λ (b : Bor (List ℕ)). b.now) c.copied.ensures;
  kept = keeps-insert c.args.names.now.keys c.insert_full.new.self.keys c.copied.result c.in_ok-n.ensures.keys;
  met = turn-insert c.args.names.now.keys c.insert_full.new.self.keys c.copied.result c.args.name.now.now (ap (λ (b : Bor (List ℕ)). b.now) c.copied.ensures) c.in_ok-n.ensures.keys;
}
