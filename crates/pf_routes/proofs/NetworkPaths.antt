-- What the cheapest paths of a network say of the edges that it stands for.
use Rattle.std.proofs.Common.{◌≡◌, ℕ, suc, ◌<◌, List, [], ◌∷◌, map, length, get_or, refl, sym, arith, subst, Vec}
use Rattle.std.specs.Prelude.{All, Contains}
use Rattle.std.proofs.lemmas.List.Elements.{Contains-get_or}
use Rattle.pf_routes.specs.EdgeText.{Edge}
use Rattle.pf_routes.specs.Roads.{AreCheapestPaths, HasPathOverflow, HasRankedOverflow}
use Rattle.pf_routes.specs.Internal.Graph.{row_of}
use Rattle.pf_routes.specs.Internal.Links.{name_at}
use Rattle.pf_routes.specs.Internal.NumberedPaths.{ArePathsInTable, names_of}
use Rattle.pf_routes.specs.Internal.Numbers.{AreCheapestNumberedPaths, HasNumberedPathOverflow, HasNumberedOverflow}
use Rattle.pf_routes.specs.Internal.Network.{IsNetworkOf}
use Rattle.pf_yen.specs.KCheapest.{paths_in}
use Rattle.pf_routes.specs.declared.routes.network.Network.{Network}
use Rattle.pf_routes.proofs.NameGraph.{path_overflow, cheapest_paths, paths_known}
use Rattle.pf_routes.proofs.Networks.{all_of, has_overflow, in_table, path_named}
use Rattle.pf_routes.proofs.RankedNames.{mapped_in}

module _ {A : Type 0} (network : Network A) (edges : List Edge) (from to : List ℕ) (s : IsNetworkOf network edges from to) where
  has_path_overflow : HasNumberedPathOverflow network.graph network.from network.to → HasPathOverflow edges from to
  has_path_overflow h = subst (λ es. HasPathOverflow es from to) (sym s.spelled)
      (path_overflow s.names s.distinct s.links s.below (row_of network.graph) s.rows from to network.from network.to s.from_within s.to_within s.from_named s.to_named h)

  pub has_ranked_overflow : (count : ℕ) → 0 < count → HasNumberedPathOverflow network.graph network.from network.to → (count ≡ 1 → HasNumberedOverflow network.graph network.from network.to) → HasRankedOverflow edges from to count
  has_ranked_overflow count asked past first = record { asked = asked; past = has_path_overflow past; first = λ one. has_overflow network edges from to s (first one) }

  -- the names of the paths are those that the table has
  paths_named : (paths : List (List ℕ × ℕ)) → ((p : List ℕ × ℕ) → Contains paths p → All (λ n. n < length s.names) p.0)
      → map (λ (p : List ℕ × ℕ). (map (name_at s.names) p.0, p.1)) paths ≡ map (names_of network.names) paths
  paths_named [] all = refl
  paths_named (p ∷ ps) all =
      let here = sym (path_named network edges from to s p.0 (all p (0, omega arith, refl))) in
      let rest = paths_named ps (λ q c. all q (suc c.0, omega (arith, c.1), c.2)) in
      λ i. (here i, p.1) ∷ rest i

  module _ (count : ℕ) (paths : List (List ℕ × ℕ)) (h : AreCheapestNumberedPaths network.graph network.from network.to count paths) where
    paths_below : (p : List ℕ × ℕ) → Contains paths p → All (λ n. n < length s.names) p.0
    paths_below p c = all_of (length s.names) p.0
        (paths_known s.names s.distinct s.links s.below (row_of network.graph) s.rows from to network.from network.to s.from_within s.to_within s.from_named s.to_named count paths h p c)

    pub are_cheapest : AreCheapestPaths edges from to count (map (names_of network.names) paths)
    are_cheapest = subst (λ ps. AreCheapestPaths edges from to count ps) (paths_named paths paths_below) (subst (λ es. AreCheapestPaths es from to count (map (λ (p : List ℕ × ℕ). (map (name_at s.names) p.0, p.1)) paths)) (sym s.spelled)
        (cheapest_paths s.names s.distinct s.links s.below (row_of network.graph) s.rows from to network.from network.to s.from_within s.to_within s.from_named s.to_named count paths h))

  -- each number of the paths is that of a name
  pub paths_in_table : {B : Type 0} (count : ℕ) (paths : List (Vec ℕ B × ℕ)) → AreCheapestNumberedPaths network.graph network.from network.to count (paths_in paths) → ArePathsInTable network.names paths
  paths_in_table {B = B} count paths h = λ k d lt.
      in_table network edges from to s (get_or paths k d).0.items (paths_below count (paths_in paths) h ((get_or paths k d).0.items, (get_or paths k d).1) (mapped_in (λ (p : Vec ℕ B × ℕ). (p.0.items, p.1)) paths (get_or paths k d) (Contains-get_or paths k d lt)))
