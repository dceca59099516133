use Rattle.std.proofs.Common.{◌∙◌, ap, length}
use Rattle.std.proofs.lemmas.List.{length-replicate}
use Rattle.pf_base.proofs.ListLemmas.{resized}
use Rattle.pf_base.proofs.filled.filled.Goals as goal

pub returns : goal.returns
returns g c = record {
  items = resized c.args.count c.new-list.result.items c.resize.new.self.items _ c.args.value c.new-list.ensures.items c.new-list.ensures.len c.in_ok-resize.ensures.items;
  len = ap length (resized c.args.count c.new-list.result.items c.resize.new.self.items _ c.args.value c.new-list.ensures.items c.new-list.ensures.len c.in_ok-resize.ensures.items) ∙ length-replicate c.args.count c.args.value;
  refused = tt;
}
