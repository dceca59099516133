use Rattle.std.proofs.Common.{◌≡◌, length, rules}
use Rattle.pf_core.proofs.SlotLemmas.{filled}
use Rattle.pf_core.proofs.labels.fill.Goals as goal

pub returns-clause-filled : goal.returns-clause-filled
returns-clause-filled g c =
    let long : length c.resize.new.self.items ≡ c.args.found = search rules in
    filled c.args.labels.now.items c.resize.new.self.items c.args.found c.args.slot c.requires c.in_ok-resize.ensures.items long
