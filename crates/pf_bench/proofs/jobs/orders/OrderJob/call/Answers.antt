use Rattle.std.proofs.Common.{rules, ◌+◌, ◌<◌, length}
use Rattle.std.proofs.lemmas.List.Elements.{recursion_from_All}
use Rattle.pf_base.proofs.Tables.{nat_successors}
use Rattle.pf_bench.specs.Steps.{ends_after}
use Rattle.pf_bench.proofs.RowEnds.{has_rows}
use Rattle.pf_bench.proofs.Shown.{shown_gives}
use Rattle.pf_bench.proofs.jobs.orders.OrderJob.call.Goals as goal

pub strongly_connected_components-requires-clause-graph : goal.strongly_connected_components-requires-clause-graph
strongly_connected_components-requires-clause-graph c =
    let rows = c.args.input.now.rows in
    let offsets = rows.offsets.items in
    let edges = rows.edges.items in
    let nodes = c.args.input.now.nodes.items in
    let node = has_rows offsets edges nodes (recursion_from_All (λ n. n + 1 < length offsets) nodes c.args.input.now.inside) rows.in_range in (
      ends_after offsets edges,
      rw c.as_slice-roots.ensures.value (nat_successors (ends_after offsets edges) (λ x w. let inside = node x.now w in search rules)
          (λ x r t w k. let inside = node x.now w in (search rules, shown_gives (ends_after offsets edges x.now) (λ it b. (search rules, search rules, search rules))))),
    )

pub topological_sort-requires-clause-graph : goal.topological_sort-requires-clause-graph
topological_sort-requires-clause-graph c =
    let rows = c.args.input.now.rows in
    let offsets = rows.offsets.items in
    let edges = rows.edges.items in
    let nodes = c.args.input.now.nodes.items in
    let node = has_rows offsets edges nodes (recursion_from_All (λ n. n + 1 < length offsets) nodes c.args.input.now.inside) rows.in_range in (
      ends_after offsets edges,
      rw c.as_slice-roots.ensures.value (nat_successors (ends_after offsets edges) (λ x w. let inside = node x.now w in search rules)
          (λ x r t w k. let inside = node x.now w in (search rules, shown_gives (ends_after offsets edges x.now) (λ it b. (search rules, search rules, search rules))))),
    )

pub topological_sort_into_groups-requires-clause-graph : goal.topological_sort_into_groups-requires-clause-graph
topological_sort_into_groups-requires-clause-graph c =
    let rows = c.args.input.now.rows in
    let offsets = rows.offsets.items in
    let edges = rows.edges.items in
    let nodes = c.args.input.now.nodes.items in
    let node = has_rows offsets edges nodes (recursion_from_All (λ n. n + 1 < length offsets) nodes c.args.input.now.inside) rows.in_range in (
      ends_after offsets edges,
      rw c.as_slice-roots.ensures.value (nat_successors (ends_after offsets edges) (λ x w. let inside = node x.now w in search rules)
          (λ x r t w k. let inside = node x.now w in (search rules, shown_gives (ends_after offsets edges x.now) (λ it b. (search rules, search rules, search rules))))),
    )
