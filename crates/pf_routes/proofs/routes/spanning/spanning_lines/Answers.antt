use Rattle.std.proofs.Common.{◌≡◌, ℕ, ap, subst, ◌∙◌, nat_eq, map}
use Rattle.std.specs.Ordering.{nat_cmp}
use Rattle.pf_graph.specs.Spanning.{IsLeastUnderEveryBound, AreChosenFrom}
use Rattle.pf_routes.specs.Internal.Parsed.{HoldsOfEdges}
use Rattle.pf_routes.specs.SpanningText.{AreSpanningLines}
use Rattle.pf_routes.specs.Internal.NumberedLines.{weighed_link}
use Rattle.pf_routes.proofs.SpanningLemmas.{chosen_in_table, spanning_written}
use Rattle.pf_routes.proofs.routes.spanning.spanning_lines.Goals as goal

pub write_edges-requires : goal.write_edges-requires
write_edges-requires g c =
    let h = c.in_ok-names.ensures.ok in
    let weighed : c.as_slice-3.result.now ≡ map weighed_link c.in_ok-names.field-0.links.items = c.as_slice-3.ensures.value ∙ c.in_ok-edges.ensures ∙ ap (map weighed_link) c.as_slice-2.ensures.value in
    chosen_in_table c.in_ok-names.field-0 h.0 h.2 c.in-Ok.chosen (subst (λ es. AreChosenFrom (λ (w u : ℕ). u ≡ w) es c.in-Ok.chosen) weighed c.in-Ok.ensures.as_written)

pub returns-clause-ok : goal.returns-clause-ok
returns-clause-ok g c =
    let h = c.in_ok-names.ensures.ok in
    let weighed : c.as_slice-3.result.now ≡ map weighed_link c.in_ok-names.field-0.links.items = c.as_slice-3.ensures.value ∙ c.in_ok-edges.ensures ∙ ap (map weighed_link) c.as_slice-2.ensures.value in
    subst (λ text. HoldsOfEdges text (λ edges. AreSpanningLines edges c.in_ok-write_edges.field-0.items)) c.as_slice.ensures.value (
      h.0,
      h.1,
      spanning_written c.in_ok-names.field-0 h.0 h.2 c.in-Ok.chosen (subst (λ es. AreChosenFrom (λ (w u : ℕ). u ≡ w) es c.in-Ok.chosen) weighed c.in-Ok.ensures.as_written)
          c.in_ok-write_edges.field-0.items c.in-Ok.ensures.forest (subst (λ es. IsLeastUnderEveryBound nat_eq nat_cmp es c.in-Ok.chosen) weighed c.in-Ok.ensures.least) c.in-Ok.ensures.sorted c.in_ok-write_edges.ensures,
    )
