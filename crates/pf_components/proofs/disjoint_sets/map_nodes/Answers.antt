use Rattle.std.proofs.Common.{◌<◌, refl, subst, arith, length, slice_index_or, ℕ, take_all}
use Rattle.std.proofs.lemmas.List.{get_or_default}
use Rattle.std.proofs.lemmas.Option.{slice_get-get_or, slice_get_read}
use Rattle.pf_components.specs.Internal.DisjointSets.{MapsByFirst}
use Rattle.pf_components.proofs.DisjointSetLemmas.{MapsByFirst-none, MapsByFirst-more}
use Rattle.pf_components.proofs.disjoint_sets.map_nodes.Goals as goal

pub loop-place-preserved : goal.loop-place-preserved
loop-place-preserved g c =
    let first = c.args.first.now in
    let place = c.loop-place.place in
    let j : ℕ = slice_index_or first place 0 in
    let inside : place < length c.args.nodes.now = omega (arith, c.loop-place-test.true, c.requires.len) in
    MapsByFirst-more g.met.N.Eq.laws c.args.nodes.now first c.args.ids.now c.loop-place.of_node c.insert.new.self place c.index-nodes-place.result j (slice_index_or c.args.ids.now j 0)
    c.in_ok-insert.ensures.updates.0 c.loop-place-test.true (get_or_default first place 0 j c.loop-place-test.true)
    (slice_get_read c.args.nodes.now (length c.args.nodes.now) place c.index-nodes-place.result refl inside c.index-nodes-place.is)
    (slice_get-get_or c.args.ids.now j 0 (c.requires.inside place 0 c.loop-place-test.true)) c.loop-place.invariant

pub returns : goal.returns
returns g c = record {
  maps = subst (λ fs. MapsByFirst g.N.PartialEq.eq c.args.nodes.now fs c.args.ids.now c.loop-place.of_node) (take_all c.loop-place.place c.args.first.now c.loop-place-test.false) c.loop-place.invariant;
  refused = tt;
}

pub bounds-ids-group : goal.bounds-ids-group
bounds-ids-group g c = c.requires.inside c.loop-place.place 0 c.loop-place-test.true

pub bounds-nodes-place : goal.bounds-nodes-place
bounds-nodes-place g c = subst (λ (n : ℕ). c.loop-place.place < n) c.requires.len c.loop-place-test.true

pub loop-place-smaller : goal.loop-place-smaller
loop-place-smaller g c = omega (arith, c.loop-place-test.true)

pub loop-place-init : goal.loop-place-init
loop-place-init g c = MapsByFirst-none g.N.PartialEq.eq c.args.nodes.now c.args.first.now c.args.ids.now c.in_ok-of_node.of_node c.in_ok-of_node.ensures.empty
