use Rattle.std.proofs.Common.{Some, ◌≡◌, ap, ◌∙◌, arith, take, take_all}
use Rattle.pf_tables.proofs.own_numbers.list_places.Goals.{in-Some+in_ok-add, in_default}
use Rattle.pf_tables.proofs.own_numbers.list_places.Goals as goal
use Rattle.pf_tables.specs.Graphs.{present}
use Rattle.pf_tables.proofs.PresentLemmas.{present_more, present_same}

pub loop-place-preserved : goal.loop-place-preserved
loop-place-preserved g c =
    let v = c.loop-place.invariant in
    let places = g.G.Graph.places c.args.graph.now c.args.node in
    let i = c.loop-place.place in
    elim c.match-edge.branch [
      | in-Some+in_ok-add w ↦ rw w.row-is (rw (present_more places i w.in-Some.edge w.in-Some.ensures) (w.in_ok-add.ensures.added (present (take i places)) v))
      | in_default w ↦ rw w.row-is (rw (present_same places i (c.edge.ensures ∙ ap (λ x. Some x) w.in_default.is)) v)
    ]

pub returns-clause-listed : goal.returns-clause-listed
returns-clause-listed g c =
    let places = g.G.Graph.places c.args.graph.now c.args.node in
    let all : take c.loop-place.place places ≡ places = take_all c.loop-place.place places (omega (arith, c.loop-place-test.false, c.places-place-end.ensures)) in
    rw all at c.loop-place.invariant
