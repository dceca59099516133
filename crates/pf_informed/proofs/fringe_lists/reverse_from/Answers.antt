use Rattle.std.proofs.Common.{◌-◌, length}
use Rattle.std.proofs.lemmas.List.Sorted.{IsPermutation-put_mid}
use Rattle.pf_informed.proofs.fringe_lists.reverse_from.Goals as goal

pub returns : goal.returns
returns g c = IsPermutation-put_mid c.args.from (length c.args.elements.now - c.args.from) c.args.elements.now c.reverse.new.self c.reverse.ensures.permutation
