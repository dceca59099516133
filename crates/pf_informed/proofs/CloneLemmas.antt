-- Clones of ways, and of the paths that they stand for.
use Rattle.std.proofs.Common.{◌≡◌, ℕ, zero, suc, List, [], ◌∷◌, length}
use Rattle.std.specs.Prelude.{slice_get}
use Rattle.std.specs.List.{AllZip}
use Rattle.pf_informed.specs.declared.branch.Branch.{Branch}
use Rattle.pf_informed.specs.Internal.Chains.{before_in}
use Rattle.pf_informed.specs.Internal.Ways.{AreWays, node_and, nodes_of, paths_of, ways_left}

module _ {N : Type 0} (S : N → N → Type 0) where
  node_clone : (keys keys' : List N) → AllZip S keys keys' → (k : ℕ) (xs ys : List N) → AllZip S xs ys → AllZip S (node_and (slice_get keys k) xs) (node_and (slice_get keys' k) ys)
  node_clone [] [] z zero xs ys s = s
  node_clone [] [] z (suc k) xs ys s = s
  node_clone [] (y ∷ keys') z k xs ys s = absurd z
  node_clone (x ∷ keys) [] z k xs ys s = absurd z
  node_clone (x ∷ keys) (y ∷ keys') z zero xs ys s = (z.0, s)
  node_clone (x ∷ keys) (y ∷ keys') z (suc k) xs ys s = node_clone keys keys' z.1 k xs ys s

  module _ (keys keys' : List N) (z : AllZip S keys keys') where
    nodes_clone : (ks : List ℕ) → AllZip S (nodes_of keys ks) (nodes_of keys' ks)
    nodes_clone [] = tt
    nodes_clone (k ∷ ks) = node_clone keys keys' z k (nodes_of keys ks) (nodes_of keys' ks) (nodes_clone ks)

    -- among clones of the nodes, ways stand for clones of the paths
    paths_clone : (ways : List (List ℕ)) → AllZip (AllZip S) (paths_of keys ways) (paths_of keys' ways)
    paths_clone [] = tt
    paths_clone (ks ∷ ways) = (nodes_clone ks, paths_clone ways)

module _ (before before' : List (List ℕ)) (same : before' ≡ before) where
  -- where the lists are the same, a walk through the ways stands where it stood
  pub ways_clone : (way way' places places' : List ℕ) (waiting waiting' : List Branch) → way' ≡ way → places' ≡ places → waiting' ≡ waiting → AreWays (length before) (before_in before) way places waiting → AreWays (length before') (before_in before') way' places' waiting'
  ways_clone way way' places places' waiting waiting' e p b w = rw (same, e, p, b) w

  -- and clones of the paths are to come
  pub left_clone : {N : Type 0} (S : N → N → Type 0) (keys keys' : List N) → AllZip S keys keys' → (way way' : List ℕ) (waiting waiting' : List Branch) → way' ≡ way → waiting' ≡ waiting
      → AllZip (AllZip S) (paths_of keys (ways_left (before_in before) (length before) way waiting)) (paths_of keys' (ways_left (before_in before') (length before') way' waiting'))
  left_clone S keys keys' s way way' waiting waiting' e b = rw (same, e, b) (paths_clone S keys keys' s (ways_left (before_in before) (length before) way waiting))
