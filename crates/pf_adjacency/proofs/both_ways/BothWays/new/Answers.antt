use Rattle.std.proofs.Common.{map, sym, subst, ◌∙◌}
use Rattle.std.proofs.lemmas.List.{map-id}
use Rattle.pf_adjacency.specs.NumberedEdges.{AreSoundEdges, IsLaidOut}
use Rattle.pf_adjacency.specs.Reverses.{turned_below}
use Rattle.pf_adjacency.proofs.ReverseLemmas.{turned_sound}
use Rattle.pf_adjacency.proofs.both_ways.BothWays.new.Goals as goal

pub from_sound_edges-requires-clause-sound : goal.from_sound_edges-requires-clause-sound
from_sound_edges-requires-clause-sound g c =
    let size = g.G.Graph.size c.args.graph.now in
    let places = g.G.Graph.places c.args.graph.now in
    let value = g.C.Number.value in
    let same = map-id c.deref.result.now ∙ c.deref.ensures.value ∙ c.in_ok-turned.ensures in
    subst (λ n. AreSoundEdges value n (map (λ e. e) c.deref.result.now)) (sym c.len-nodes.ensures) (subst (AreSoundEdges value size) (sym same) (turned_sound value size places c.known.ensures))

pub invariant_of-result : goal.invariant_of-result
invariant_of-result g c =
    let same = map-id c.deref.result.now ∙ c.deref.ensures.value ∙ c.in_ok-turned.ensures in
    subst (λ n. IsLaidOut n (turned_below (g.G.Graph.places c.args.graph.now) (g.G.Graph.size c.args.graph.now)) c.in_ok-back.back) c.len-nodes.ensures (subst (λ es. IsLaidOut c.len-nodes.result es c.in_ok-back.back) same c.in_ok-back.ensures.laid_out)

pub returns-clause-back : goal.returns-clause-back
returns-clause-back g c =
    let same = map-id c.deref.result.now ∙ c.deref.ensures.value ∙ c.in_ok-turned.ensures in
    subst (λ n. IsLaidOut n (turned_below (g.G.Graph.places c.args.graph.now) (g.G.Graph.size c.args.graph.now)) c.in_ok-back.back) c.len-nodes.ensures (subst (λ es. IsLaidOut c.len-nodes.result es c.in_ok-back.back) same c.in_ok-back.ensures.laid_out)
