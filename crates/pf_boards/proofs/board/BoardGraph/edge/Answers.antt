use Rattle.std.proofs.Common.{◌∙◌, ap, sym}
use Rattle.std.specs.Prelude.{Some}
use Rattle.std.proofs.lemmas.List.{length-map}
use Rattle.pf_boards.proofs.BoardLemmas.{direction_at, place_bound, step_at}
use Rattle.pf_boards.proofs.board.BoardGraph.edge.Goals as goal

pub returns : goal.returns
returns g c =
    let place = rw (← c.self.view_is) at c.requires.place in
    let inside = simp length-map at place in
    rw (← c.self.view_is) (step_at _ c.args.node c.args.place _ (direction_at c.self.inside.steps c.args.place _ inside) ∙ ap Some (sym c.step.ensures))

pub step-requires-clause-place : goal.step-requires-clause-place
step-requires-clause-place g c =
    let place = rw (← c.self.view_is) at c.requires.place in
    place_bound c.self.inside.steps c.args.place (simp length-map at place)

pub step-requires-clause-sized : goal.step-requires-clause-sized
step-requires-clause-sized g c = c.self.invariant.sized

pub step-requires-clause-inside : goal.step-requires-clause-inside
step-requires-clause-inside g c = rw (← c.self.view_is) at c.requires.node
