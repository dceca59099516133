use Rattle.std.proofs.Common.{◌≡◌, sym, subst, ap, ◌∙◌, ◌<◌, length, ℕ, All}
use Rattle.std.proofs.lemmas.Option.{slice_get-get_or}
use Rattle.pf_components.specs.Internal.DisjointSets.{MapsByFirst}
use Rattle.pf_components.proofs.PairLemmas.{are_identified, maps_vertices}
use Rattle.pf_components.proofs.connected_components.separate_components.Goals as goal

pub map_nodes-requires-clause-inside : goal.map_nodes-requires-clause-inside
map_nodes-requires-clause-inside g c = λ k d h.
    let p = c.in_ok-united.ensures.united in
    let n : length c.deref-2.result.now ≡ length p.0 = ap length c.deref-2.ensures.value ∙ p.3 ∙ sym p.4 in
    rw n (subst (λ xs. All (λ (m : ℕ). m < length p.0) xs) (sym c.deref.ensures.value) (λ i e l. p.1.inside i _ (slice_get-get_or c.in_ok-united.united.first.items i e l)) k d h)

pub returns-clause-identified : goal.returns-clause-identified
returns-clause-identified g c =
    let p = c.in_ok-united.ensures.united in
    are_identified g.met.N.Eq.laws c.args.groups.now c.in_ok-united.united.nodes.keys c.in_ok-united.united.first.items p.0 p.1 c.in_ok-united.united.ids.items p.2 p.3

pub returns-clause-mapped : goal.returns-clause-mapped
returns-clause-mapped g c =
    let p = c.in_ok-united.ensures.united in
    let m = c.in_ok-of_vertex.ensures.maps in
    maps_vertices g.met.N.Eq.laws c.args.groups.now c.in_ok-united.united.nodes.keys c.in_ok-united.united.first.items p.0 p.1 c.in_ok-united.united.ids.items p.2 p.3 c.in_ok-of_vertex.of_vertex
    (subst (λ ns. MapsByFirst g.N.PartialEq.eq ns c.in_ok-united.united.first.items c.in_ok-united.united.ids.items c.in_ok-of_vertex.of_vertex) c.as_slice.ensures.keys
    (subst (λ fs. MapsByFirst g.N.PartialEq.eq c.as_slice.result.now fs c.in_ok-united.united.ids.items c.in_ok-of_vertex.of_vertex) c.deref.ensures.value
    (subst (λ is. MapsByFirst g.N.PartialEq.eq c.as_slice.result.now c.deref.result.now is c.in_ok-of_vertex.of_vertex) c.deref-2.ensures.value m)))

pub map_nodes-requires-clause-len : goal.map_nodes-requires-clause-len
map_nodes-requires-clause-len g c = ap length c.deref.ensures.value ∙ c.in_ok-united.ensures.united.1.len ∙ sym (ap length c.as_slice.ensures.keys)
