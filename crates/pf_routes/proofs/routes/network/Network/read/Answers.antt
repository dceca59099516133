use Rattle.std.proofs.Common.{◌≡◌, ◌∙◌, pos, map, length, arith, sym, ap, subst, nat_eq}
use Rattle.pf_adjacency.specs.NumberedEdges.{AreSoundEdges, ends_from}
use Rattle.pf_routes.specs.EdgeText.{edge_text}
use Rattle.pf_routes.proofs.GraphRows.{ends, same_steps, sound_links}
use Rattle.pf_routes.proofs.routes.network.Network.read.Goals as goal

pub from_sound_edges-requires-clause-sound : goal.from_sound_edges-requires-clause-sound
from_sound_edges-requires-clause-sound g c =
    let h = c.in_ok-linked.ensures.ok in
    let links = c.in_ok-linked.linked.links.items in
    let count : c.len.result ≡ length h.2.names = c.len.ensures ∙ h.2.kept.count in
    subst (λ es. AreSoundEdges pos c.len.result (map ends es)) (sym c.as_slice-2.ensures.value) (subst (λ n. AreSoundEdges pos n (map ends links)) (sym count) (sound_links (length h.2.names) links h.2.below))

pub returns-clause-ok : goal.returns-clause-ok
returns-clause-ok g c =
    let h = c.in_ok-linked.ensures.ok in
    let links = c.in_ok-linked.linked.links.items in
    let count : c.len.result ≡ length h.2.names = c.len.ensures ∙ h.2.kept.count in
    let laid = c.in_ok-graph.ensures.laid_out in (
      h.0,
      ap edge_text (sym c.as_slice.ensures.value) ∙ h.1,
      record {
        names = h.2.names;
        kept = h.2.kept;
        links = links;
        spelled = h.2.spelled;
        below = h.2.below;
        distinct = h.2.distinct;
        count = omega (arith, laid.size, count);
        rows = λ n lt. laid.rows n (omega (arith, lt, count)) ∙ ap (λ es. ends_from nat_eq (map ends es) n) c.as_slice-2.ensures.value ∙ same_steps links n;
        from_within = h.2.from_within;
        to_within = h.2.to_within;
        from_named = h.2.from_named;
        to_named = h.2.to_named;
      },
    )
