use Rattle.std.proofs.Common.{Some, ◌++◌, ◌∷◌, [], sym, ap, ◌∙◌, take}
use Rattle.std.proofs.lemmas.List.{append_assoc}
use Rattle.pf_adjacency.specs.Reverses.{turned_row}
use Rattle.pf_adjacency.proofs.ReverseLemmas.{turned_more, turned_same}
use Rattle.pf_adjacency.proofs.both_ways.add_turned.Goals.{in-Some+in_ok-push, in_default}
use Rattle.pf_adjacency.proofs.both_ways.add_turned.Goals as goal

pub loop-place-preserved : goal.loop-place-preserved
loop-place-preserved g c =
    let v = c.loop-place.invariant in
    let old = c.args.turned.now.items in
    let node = c.args.node in
    let places = g.G.Graph.places c.args.graph.now node in
    let i = c.loop-place.place in
    elim c.match-edge.branch [
      | in-Some+in_ok-push w ↦
          let e = w.in-Some.edge in
          rw w.turned-is (w.in_ok-push.ensures.items ∙ ap (λ xs. xs ++ (e.0, node, e.1) ∷ []) v ∙ append_assoc old (turned_row node (take i places)) ((e.0, node, e.1) ∷ [])
          ∙ ap (λ xs. old ++ xs) (sym (turned_more node places i e w.in-Some.ensures)))
      | in_default w ↦ rw w.turned-is (v ∙ ap (λ xs. old ++ xs) (sym (turned_same node places i (c.edge.ensures ∙ ap (λ x. Some x) w.in_default.is))))
    ]
