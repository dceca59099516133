-- The rows of a graph of numbered nodes: those of its table, and the steps of the links that it was laid out from.
use Rattle.std.proofs.Common.{◌≡◌, ℕ, zero, suc, ℤ, pos, ◌+◌, ◌-◌, ◌≤◌, Bool, true, false, List, [], ◌∷◌, map, take, drop, cond, arith, ap, refl, sym, subst, if◌then◌else◌, nat_eq}
use Rattle.std.proofs.Math.ListN.{get_or-eq_default}
use Rattle.std.specs.Prelude.{Some, None, slice_index, nat_lt}
use Rattle.std.specs.List.{cons_option}
use Rattle.std.proofs.lemmas.Bool.{ltb-false}
use Rattle.std.proofs.lemmas.Int.{ints}
use Rattle.pf_tables.specs.Graphs.{edges_at, filled, graph_of}
use Rattle.pf_base.proofs.ListLemmas.{none_in}
use Rattle.pf_tables.proofs.Faulty.{some_same}
use Rattle.pf_adjacency.specs.NumberedEdges.{AreSoundEdges, IsSoundEdge, ends_from}
use Rattle.pf_routes.specs.Internal.Graph.{row_of, node_count}
use Rattle.pf_routes.specs.Internal.Links.{AllBelow, links_from, steps_from}
use Rattle.pf_routes.specs.Internal.Numbers.{edges_of, numbered_edges}
use Rattle.pf_routes.specs.declared.routes.links.Link.{Link}

-- an edge between numbers
abbrev pub ends : Link → ℕ × ℕ × ℕ
ends link = (link.source, link.target, link.cost)

-- the edges from a number are the steps of the links that leave it
pub same_steps : (links : List Link) (n : ℕ) → ends_from nat_eq (map ends links) n ≡ steps_from n links
same_steps [] n = refl
same_steps (l ∷ links) n = by (nat_eq l.source n) (same_steps links n)
  where
    by : (b : Bool) → ends_from nat_eq (map ends links) n ≡ steps_from n links
        → cons_option (if b then Some (l.target, l.cost) else None) (ends_from nat_eq (map ends links) n) ≡ map (λ (k : Link). (k.target, k.cost)) (cond b (l ∷ links_from n links) (links_from n links))
    by true h = ap (λ steps. (l.target, l.cost) ∷ steps) h
    by false h = h

module _ (graph : List ℕ × List (ℕ × ℕ)) where
  -- a number that is no node has no steps
  row_outside : (node : ℕ) → node_count graph ≤ node → row_of graph node ≡ []
  row_outside node l =
      let past : slice_index graph.0 (node + 1) ≡ 0 = get_or-eq_default graph.0 0 (omega (arith, l)) in
      let none : slice_index graph.0 (node + 1) - slice_index graph.0 node ≡ 0 = omega (arith, past) in
      ap (λ k. take k (drop (slice_index graph.0 node) graph.1)) none

  same_edges : (row : List (ℕ × ℕ)) → edges_at pos (filled row) ≡ edges_of row
  same_edges [] = refl
  same_edges (s ∷ row) = ap (λ (es : List (ℕ × ℤ)). (s.0, pos s.1) ∷ es) (same_edges row)

  same_at : (n : ℕ) → graph_of pos (node_count graph) (λ k. filled (row_of graph k)) n ≡ edges_of (row_of graph n)
  same_at n = by (nat_lt n (node_count graph)) refl
    where
      by : (b : Bool) → nat_lt n (node_count graph) ≡ b → (if b then edges_at pos (filled (row_of graph n)) else []) ≡ edges_of (row_of graph n)
      by true h = same_edges (row_of graph n)
      by false h = ap edges_of (sym (row_outside n (ltb-false n (node_count graph) h)))

  -- the graph of the table is that of the rows
  pub same_graph : (from to : ℕ) → graph_of pos (node_count graph) (λ k. filled (row_of graph k)) ≡ numbered_edges graph from to
  same_graph from to = λ i n. same_at n i

-- links between numbers below a count are sound edges
pub sound_links : (count : ℕ) (links : List Link) → AllBelow count links → AreSoundEdges pos count (map ends links)
sound_links count [] below k e h = absurd (none_in k e h)
sound_links count (l ∷ links) below zero e h = let ends = below 0 l (omega arith) in subst (IsSoundEdge pos count) (some_same h) (record { source = ends.0; target = ends.1; from_zero = omega (arith, ints) })
sound_links count (l ∷ links) below (suc k) e h = sound_links count links (λ j d lt. below (suc j) d (omega (arith, lt))) k e h
