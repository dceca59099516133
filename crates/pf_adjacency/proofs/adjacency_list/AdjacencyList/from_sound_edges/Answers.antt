use Rattle.std.proofs.Common.{map, ◌∙◌, sym}
use Rattle.std.proofs.lemmas.List.{length-map}
use Rattle.pf_adjacency.proofs.LayoutLemmas.{laid_out, compact_rows}
use Rattle.pf_adjacency.proofs.adjacency_list.AdjacencyList.from_sound_edges.Goals as goal

pub invariant_of-result : goal.invariant_of-result
invariant_of-result g c =
    let edges = c.args.edges.now in
    let ends = g.E.NumberedEdge.ends in
    let targets = c.in_ok-edges.ensures in
    compact_rows g.C.Number.value c.args.size (map ends edges) c.requires.sound c.in_ok-offsets.offsets.items c.in_ok-edges.edges.items c.in_ok-offsets.ensures targets.placed (targets.wide ∙ sym (length-map edges ends))

pub returns-clause-laid_out : goal.returns-clause-laid_out
returns-clause-laid_out g c =
    let edges = c.args.edges.now in
    let ends = g.E.NumberedEdge.ends in
    let targets = c.in_ok-edges.ensures in
    laid_out g.C.Number.value c.args.size (map ends edges) c.requires.sound c.in_ok-offsets.offsets.items c.in_ok-edges.edges.items c.in_ok-offsets.ensures targets.placed (targets.wide ∙ sym (length-map edges ends))

pub returns-clause-sound : goal.returns-clause-sound
returns-clause-sound g c =
    let edges = c.args.edges.now in
    let ends = g.E.NumberedEdge.ends in
    let targets = c.in_ok-edges.ensures in
    compact_rows g.C.Number.value c.args.size (map ends edges) c.requires.sound c.in_ok-offsets.offsets.items c.in_ok-edges.edges.items c.in_ok-offsets.ensures targets.placed (targets.wide ∙ sym (length-map edges ends))
