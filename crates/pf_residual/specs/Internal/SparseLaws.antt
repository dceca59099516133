-- Rows of edges meet the law of a store.
use Rattle.std.proofs.Common.{◌≡◌, refl, sym, ◌<◌, ℕ, ℤ, zero, suc, pos, arith, Bool, true, false, true≢false, List, [], ◌∷◌, length, nat_eq, if◌then◌else◌}
use Rattle.pf_residual.specs.Flows.{IsAntisymmetric}
use Rattle.pf_residual.specs.Networks.{IsStored}
use Rattle.pf_residual.specs.SparseRows.{ends, has_end, amount_to, row_at}
use Rattle.pf_residual.specs.SparseStores.{rows_flow, rows_network}
use Rattle.pf_residual.specs.Internal.SparseTables.{AreRows}
use Rattle.pf_residual.specs.declared.sparse_row.Edge.{Edge}

none_step : {C : Type 0} → (f : Edge C → ℤ) (x : Edge C) (xs : List (Edge C)) (b : ℕ) (t : Bool) → (if t then true else has_end (ends xs) b) ≡ false
    → (has_end (ends xs) b ≡ false → amount_to f xs b ≡ pos 0) → (if t then f x else amount_to f xs b) ≡ pos 0
none_step f x xs b true h rest = absurd (true≢false h)
none_step f x xs b false h rest = rest h

-- 0 where b is no end
pub amount_none : {C : Type 0} → (f : Edge C → ℤ) (row : List (Edge C)) (b : ℕ) → has_end (ends row) b ≡ false → amount_to f row b ≡ pos 0
amount_none f [] b h = refl
amount_none f (x ∷ xs) b h = none_step f x xs b (nat_eq x.to b) h (amount_none f xs b)

-- a vertex with an edge has a row
pub has_row : {C : Type 0} (rows : List (List (Edge C))) (a b : ℕ) → has_end (ends (row_at rows a)) b ≡ true → a < length rows
has_row [] a b h = absurd (true≢false (sym h))
has_row (r ∷ rows) zero b h = omega arith
has_row (r ∷ rows) (suc a) b h = let k = has_row rows a b h in omega (arith, k)

pub rows_law : {C : Type 0} (value : C → ℤ) (rows : List (List (Edge C))) (source sink : ℕ) (total : ℤ) (details : Bool) → AreRows source sink rows
    → IsAntisymmetric (rows_flow value rows) → IsStored (rows_network value rows source sink total details)
rows_law value rows source sink total details h opposite = record {
  source_in = h.source_in;
  sink_in = h.sink_in;
  back = h.back;
  inside = λ a b k. (has_row rows a b k, (h.below a).at b k);
  empty = λ a b k. (amount_none (λ e. value e.residual) (row_at rows a) b k, amount_none (λ e. value e.flow) (row_at rows a) b k);
  opposite = opposite;
}
