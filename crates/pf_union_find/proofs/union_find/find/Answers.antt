use Rattle.std.proofs.Common.{◌≡◌, ◌<◌, ◌≤◌, sym, ◌∙◌, arith, rules, length, map, slice_set}
use Rattle.std.proofs.lemmas.List.{length-map}
use Rattle.pf_union_find.proofs.UnionFindLemmas.{parent_is, number_at, word_falls, word_inside, up_falls, Led-word}
use Rattle.pf_union_find.proofs.union_find.find.Goals as goal

pub bounds-parents-vertex : goal.bounds-parents-vertex
bounds-parents-vertex g c = word_inside g.V.VertexNumber.stands_for c.climb.parents c.climb.invariant.sound c.climb.node c.climb.invariant.inside c.index-parents-node-in-climb.result c.index-parents-node-in-climb.is c.vertex-in-climb.result c.vertex-in-climb.ensures

pub offset_bounds-parents-vertex : goal.offset_bounds-parents-vertex
offset_bounds-parents-vertex g c =
    let low : c.vertex-in-climb.result < length c.climb.parents = word_inside g.V.VertexNumber.stands_for c.climb.parents c.climb.invariant.sound c.climb.node c.climb.invariant.inside c.index-parents-node-in-climb.result c.index-parents-node-in-climb.is c.vertex-in-climb.result c.vertex-in-climb.ensures in
    search (low, rules)

pub climb-smaller : goal.climb-smaller
climb-smaller g c =
    let stands = g.V.VertexNumber.stands_for in
    let i = c.climb.invariant in
    let v = c.index-parents-node-in-climb in
    let falls : c.vertex-in-climb.result ≤ c.climb.node = word_falls stands c.climb.parents i.sound c.climb.node i.inside v.result v.is c.vertex-in-climb.result c.vertex-in-climb.ensures in
    let up : c.vertex-node.result ≤ c.vertex-in-climb.result = up_falls stands c.climb.parents i.sound c.climb.node i.inside v.result v.is c.vertex-in-climb.result c.vertex-in-climb.ensures c.index-parents-vertex.result c.index-parents-vertex.is c.vertex-node.result c.vertex-node.ensures in
    let same : c.vertex.result ≡ c.vertex-in-climb.result = c.vertex.ensures ∙ sym (number_at stands c.climb.parents c.climb.node c.index-parents-node.result i.inside c.index-parents-node.is) ∙ number_at stands c.climb.parents c.climb.node v.result i.inside v.is ∙ sym c.vertex-in-climb.ensures in
    omega (arith, falls, up, same, c.climb-test.true)

pub climb-preserved : goal.climb-preserved
climb-preserved g c =
    let i = c.climb.invariant in
    let v = c.index-parents-node-in-climb in
    let h = Led-word g.V.VertexNumber.stands_for c.climb.parents i.sound c.climb.node i.inside v.result v.is c.vertex-in-climb.result c.vertex-in-climb.ensures c.index-parents-vertex.result c.index-parents-vertex.is c.vertex-node.result c.vertex-node.ensures in
    record {
      sound = h.sound;
      inside = let l = h.inside in let all = length-map (slice_set c.climb.parents c.climb.node c.index-parents-vertex.result) g.V.VertexNumber.stands_for in omega (arith, l, all);
      roots = λ x r. h.roots x (i.roots x r);
      labels = λ label l. let before = i.labels label l in let after = h.labels label before.0 in (after.0, after.1 ∙ before.1);
    }

pub returns-clause-labels : goal.returns-clause-labels
returns-clause-labels g c = λ label l.
    let stands = g.V.VertexNumber.stands_for in
    let i = c.climb.invariant in
    let all = length-map c.climb.parents stands in
    let root = sym (parent_is (map stands c.climb.parents) i.sound c.climb.node (omega (arith, i.inside, all))) ∙ number_at stands c.climb.parents c.climb.node c.index-parents-node.result i.inside c.index-parents-node.is ∙ sym c.vertex.ensures ∙ c.climb-test.false in
    let after = i.labels label l in
    (after.0, sym (after.0.at_root c.climb.node root) ∙ after.1)
