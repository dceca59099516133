use Rattle.std.proofs.Common.{◌∙◌, sym}
use Rattle.std.proofs.lemmas.List.{length-map}
use Rattle.pf_name_walks.proofs.breadth.BfsReachable.remaining_nodes_low_bound.Goals as goal

pub returns : goal.returns
returns g c = rw (← c.self.view_is) (c.remaining_nodes_low_bound.ensures ∙ sym (length-map c.self.inside.walk.walk.waiting _))
