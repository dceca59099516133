-- Edges in chains, one for each number. Each end of an edge tells the last edge before it at the same number.
use Rattle.std.specs.Prelude.{◌≡◌, ◌⊎◌, ◌<◌, ◌≤◌, ◌+◌, ℕ, List, Some, length, slice_get}
use Rattle.pf_graph.specs.declared.undirected.chains.End.{End}
use Rattle.pf_graph.specs.declared.undirected.weighed.Weighed.{Weighed}

-- the ends have the numbers of the edge e
abbrev pub HasNumbers : {N C W : Type 0} → (ℕ × ℕ × Weighed N C W) → (End × End) → Type 0
HasNumbers e d = (d.0.number ≡ e.0) × (d.1.number ≡ e.1)

-- one of the ends has number k
abbrev pub IsAt : ℕ → (End × End) → Type 0
IsAt k d = (d.0.number ≡ k) ⊎ (d.1.number ≡ k)

-- n is one more than the place of the last edge at number k that stands before the place `limit`, or 0 where there is none
pub record IsLastBefore (ends : List (End × End)) (k limit n : ℕ) : Type 0 where
  pub within : n ≤ limit
  pub there : (p : ℕ) → p + 1 ≡ n → (d : End × End) × (slice_get ends p ≡ Some d) × IsAt k d
  pub none_behind : (p : ℕ) (d : End × End) → slice_get ends p ≡ Some d → n ≤ p → p < limit → ¬ (IsAt k d)

-- each end tells the last edge before its own at its number, and each number tells the last edge of all at it
pub record AreLinked (ends : List (End × End)) (lasts : List ℕ) : Type 0 where
  pub inside : (p : ℕ) (d : End × End) → slice_get ends p ≡ Some d → (d.0.number < length lasts) × (d.1.number < length lasts)
  pub one : (p : ℕ) (d : End × End) → slice_get ends p ≡ Some d → IsLastBefore ends d.0.number p d.0.earlier
  pub other : (p : ℕ) (d : End × End) → slice_get ends p ≡ Some d → IsLastBefore ends d.1.number p d.1.earlier
  pub last : (k n : ℕ) → slice_get lasts k ≡ Some n → IsLastBefore ends k (length ends) n
