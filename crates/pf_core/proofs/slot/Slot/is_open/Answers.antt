use Rattle.std.proofs.Common.{sym, refl}
use Rattle.pf_core.proofs.SlotLemmas.{is_open_there}
use Rattle.pf_core.proofs.slot.Slot.is_open.Goals as goal

pub returns-in-Some : goal.returns-in-Some
returns-in-Some g c = is_open_there c.args.self.now c.in-Some.label (sym c.in-Some.ensures) c.in-Some.label.settled refl
