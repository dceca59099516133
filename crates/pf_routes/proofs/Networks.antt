-- What a network's searches say of the edges that it stands for.
use Rattle.std.proofs.Common.{◌≡◌, ℕ, zero, suc, ◌<◌, ◌==◌, nat_eq, List, [], ◌∷◌, map, length, refl, sym, arith, subst}
use Rattle.std.specs.Prelude.{All}
use Rattle.pf_routes.specs.EdgeText.{Edge}
use Rattle.pf_routes.specs.Roads.{HasNoWalk, IsCheapestPath, HasCostOverflow, IsFewestEdgesPath}
use Rattle.pf_routes.specs.Internal.Graph.{row_of}
use Rattle.pf_routes.specs.Internal.Links.{name_at}
use Rattle.pf_routes.specs.Internal.NameTable.{name_in, table_len}
use Rattle.pf_routes.specs.Internal.Numbers.{numbered_edges, HasNoNumberedWalk, IsCheapestNumberedPath, HasNumberedOverflow, IsFewestEdgesNumberedPath}
use Rattle.pf_routes.specs.Internal.Network.{IsNetworkOf}
use Rattle.pf_routes.specs.declared.routes.network.Network.{Network}
use Rattle.pf_routes.proofs.Costless.{goal_costed}
use Rattle.pf_routes.proofs.Naming.{AllNodes}
use Rattle.pf_routes.proofs.NameGraph.{no_walk, cheapest, fewest, overflow, path-known}

pub all_of : (count : ℕ) (xs : List ℕ) → AllNodes (λ n. n < count) xs → All (λ n. n < count) xs
all_of count [] all k d lt = absurd (omega (arith, lt))
all_of count (x ∷ xs) all zero d lt = all.0
all_of count (x ∷ xs) all (suc k) d lt = all_of count xs all.1 k d (omega (arith, lt))

module _ {A : Type 0} (network : Network A) (edges : List Edge) (from to : List ℕ) (s : IsNetworkOf network edges from to) where
  pub has_no_walk : HasNoNumberedWalk network.graph network.from network.to → HasNoWalk edges from to
  has_no_walk h = subst (λ es. HasNoWalk es from to) (sym s.spelled)
      (no_walk s.names s.distinct s.links s.below (row_of network.graph) s.rows from to network.from network.to s.from_within s.to_within s.from_named s.to_named h)

  pub is_cheapest : (path : List ℕ) (cost : ℕ) → IsCheapestNumberedPath network.graph network.from network.to path cost → IsCheapestPath edges from to (map (name_at s.names) path) cost
  is_cheapest path cost h = subst (λ es. IsCheapestPath es from to (map (name_at s.names) path) cost) (sym s.spelled)
      (cheapest s.names s.distinct s.links s.below (row_of network.graph) s.rows from to network.from network.to s.from_within s.to_within s.from_named s.to_named path cost h)

  pub is_fewest : (path : List ℕ) → IsFewestEdgesNumberedPath network.graph network.from network.to path → IsFewestEdgesPath edges from to (map (name_at s.names) path)
  is_fewest path h = subst (λ es. IsFewestEdgesPath es from to (map (name_at s.names) path)) (sym s.spelled)
      (fewest s.names s.distinct s.links s.below (row_of network.graph) s.rows from to network.from network.to s.from_within s.to_within s.from_named s.to_named path h)

  pub has_overflow : HasNumberedOverflow network.graph network.from network.to → HasCostOverflow edges from to
  has_overflow h = subst (λ es. HasCostOverflow es from to) (sym s.spelled)
      (overflow s.names s.distinct s.links s.below (row_of network.graph) s.rows from to network.from network.to s.from_within s.to_within s.from_named s.to_named h)

  -- each node of a path has a name
  pub path-below : (path : List ℕ) (cost : ℕ) → IsCheapestNumberedPath network.graph network.from network.to path cost → All (λ n. n < length s.names) path
  path-below path cost h = all_of (length s.names) path
      (path-known s.names s.distinct s.links s.below (row_of network.graph) s.rows from to network.from network.to s.from_within s.to_within s.from_named s.to_named path h.goes.goes)

  pub fewest-below : (path : List ℕ) → IsFewestEdgesNumberedPath network.graph network.from network.to path → All (λ n. n < length s.names) path
  fewest-below path h =
      let goal = goal_costed nat_eq (numbered_edges network.graph network.from network.to) (network.from ∷ []) (λ n. n == network.to) path h.goes.goes in
      all_of (length s.names) path (path-known s.names s.distinct s.links s.below (row_of network.graph) s.rows from to network.from network.to s.from_within s.to_within s.from_named s.to_named path goal)

  -- a path has a node
  pub fewest-some : (path : List ℕ) → IsFewestEdgesNumberedPath network.graph network.from network.to path → 0 < length path
  fewest-some [] h = absurd h.goes.goes.walks
  fewest-some (n ∷ path) h = omega arith

  -- the names of a path are those that the table has
  pub path_named : (path : List ℕ) → All (λ n. n < length s.names) path → map (name_in network.names) path ≡ map (name_at s.names) path
  path_named [] all = refl
  path_named (n ∷ path) all = λ i. s.kept.same n (all 0 n (omega arith)) i ∷ path_named path (λ k d lt. all (suc k) d (omega (arith, lt))) i

  pub in_table : (path : List ℕ) → All (λ n. n < length s.names) path → All (λ n. n < table_len network.names) path
  in_table path all = subst (λ k. All (λ n. n < k) path) (sym s.kept.count) all
