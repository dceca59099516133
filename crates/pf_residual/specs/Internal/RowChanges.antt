-- Sorted rows of edges, and how they change.
use Rattle.std.specs.Prelude.{◌≡◌, ◌<◌, ◌≤◌, ◌+ℤ◌, ℕ, ℤ, zero, suc, true, List, [], ◌∷◌, nat_eq, if◌then◌else◌}
use Rattle.std.proofs.Common.{ltb}
use Rattle.pf_residual.specs.SparseRows.{ends, has_end, amount_to}
use Rattle.pf_residual.specs.declared.sparse_row.Edge.{Edge}

-- they rise, from low on
abbrev pub Rises : ℕ → List ℕ → Type 0
Rises low [] = Unit {0}
Rises low (x ∷ xs) = (low ≤ x) × Rises (suc x) xs

-- how many ends stand before those that are not below b
abbrev pub place_of : List ℕ → ℕ → ℕ
place_of [] b = 0
place_of (x ∷ xs) b = if ltb x b then suc (place_of xs b) else 0

-- A row in which the edge to one vertex has this much more residual capacity and flow, and nothing else differs.
pub record IsRowChanged {C : Type 0} (value : C → ℤ) (to : ℕ) (more carried : ℤ) (old new : List (Edge C)) : Type 0 where
  pub ends : ends new ≡ ends old
  pub residual : (b : ℕ) → amount_to (λ e. value e.residual) new b ≡ (if nat_eq to b then amount_to (λ e. value e.residual) old b +ℤ more else amount_to (λ e. value e.residual) old b)
  pub flow : (b : ℕ) → amount_to (λ e. value e.flow) new b ≡ (if nat_eq to b then amount_to (λ e. value e.flow) old b +ℤ carried else amount_to (λ e. value e.flow) old b)

-- the row with one edge more, in its place
abbrev pub with_edge : {C : Type 0} → List (Edge C) → Edge C → List (Edge C)
with_edge [] e = e ∷ []
with_edge (x ∷ xs) e = if ltb x.to e.to then x ∷ with_edge xs e else e ∷ x ∷ xs

-- the row without the edge to b
abbrev pub without_edge : {C : Type 0} → List (Edge C) → ℕ → List (Edge C)
without_edge [] b = []
without_edge (x ∷ xs) b = if nat_eq x.to b then xs else x ∷ without_edge xs b

-- each end is one of n vertices
pub record AreBelow {C : Type 0} (n : ℕ) (row : List (Edge C)) : Type 0 where
  pub at : (b : ℕ) → has_end (ends row) b ≡ true → b < n

-- an end that is above those of the first i edges, and not above that of the next
abbrev pub end_after : {C : Type 0} → ℕ → List (Edge C) → ℕ → ℕ
end_after low row zero = low
end_after low [] (suc i) = low
end_after low (x ∷ xs) (suc i) = end_after (suc x.to) xs i
