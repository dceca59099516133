use Rattle.std.proofs.Common.{ℕ, ◌≡◌, ◌+◌, ◌-◌, ◌<◌, ap, sym, ◌∙◌, arith, length, Some, List, get_or}
use Rattle.std.specs.Prelude.{slice_get, slice_index}
use Rattle.std.proofs.lemmas.List.{get_or_read}
use Rattle.pf_base.proofs.ListLemmas.{at_place}
use Rattle.pf_tables.specs.Graphs.{between, filled}
use Rattle.pf_tables.specs.Offsets.{IsOffsets}
use Rattle.pf_tables.proofs.OffsetLemmas.{between_length, between_edge, next_within, node_below, place_below}
use Rattle.pf_adjacency.proofs.adjacency_list.AdjacencyListGraph.edge.Goals as goal

-- where the edges of a node begin, and that the edge at a place is among all
module _ {C : Type 0} (offsets : List ℕ) (edges : List (ℕ × C)) (ok : IsOffsets offsets (length edges)) (node place first : ℕ) (inside : node < length offsets - 1) (here : place < length (filled (between offsets edges node))) (read : first ≡ get_or offsets node first) where
  begins : first ≡ slice_index offsets node
  begins = get_or_read offsets node first (node_below inside) read 0

  among : first + place < length edges
  among =
      let below = place_below (slice_index offsets node) here (between_length offsets edges ok node inside) (next_within offsets edges ok node inside) in
      omega (arith, begins, below)

pub index-requires : goal.index-requires
index-requires g c =
    let node = rw (← c.self.view_is) at c.requires.node in
    omega (arith, node, c.self.inside.offsets.ok)

pub overflow_add-index : goal.overflow_add-index
overflow_add-index g c =
    let s = c.self.inside in
    let inside = among s.offsets.items s.edges.items c.self.invariant.offsets_ok c.args.node c.args.place c.index.result.now (rw (← c.self.view_is) at c.requires.node) (rw (← c.self.view_is) at c.requires.place) c.index.ensures in
    omega (arith, inside, s.edges.ok)

pub index-requires-2 : goal.index-requires-2
index-requires-2 g c =
    let s = c.self.inside in
    let inside = among s.offsets.items s.edges.items c.self.invariant.offsets_ok c.args.node c.args.place c.index.result.now (rw (← c.self.view_is) at c.requires.node) (rw (← c.self.view_is) at c.requires.place) c.index.ensures in
    omega (arith, inside, s.edges.ok)

pub returns : goal.returns
returns g c =
    let offsets = c.self.inside.offsets.items in
    let edges = c.self.inside.edges.items in
    let ok = c.self.invariant.offsets_ok in
    let first = c.index.result.now in
    let node = rw (← c.self.view_is) at c.requires.node in
    let place = rw (← c.self.view_is) at c.requires.place in
    let at : slice_get edges (first + c.args.place) ≡ Some c.index-2.result.now = at_place edges _ _ _ (among offsets edges ok c.args.node c.args.place first node place c.index.ensures) (sym c.index-2.ensures) in
    rw (← c.self.view_is) (between_edge offsets edges ok c.args.node node c.args.place c.index-2.result.now place (ap (λ (n : ℕ). slice_get edges (n + c.args.place)) (sym (begins offsets edges ok c.args.node c.args.place first node place c.index.ensures)) ∙ at))
