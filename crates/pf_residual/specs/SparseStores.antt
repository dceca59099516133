-- Rows of edges as a network.
use Rattle.std.specs.Prelude.{◌≡◌, ℕ, ℤ, Bool, List, length}
use Rattle.pf_residual.specs.Flows.{PairTable}
use Rattle.pf_residual.specs.Networks.{Network}
use Rattle.pf_residual.specs.SparseRows.{ends, has_end, amount_to, row_at}
use Rattle.pf_residual.specs.declared.sparse_row.Edge.{Edge}

-- the flows that rows hold
abbrev pub rows_flow : {C : Type 0} → (C → ℤ) → List (List (Edge C)) → PairTable
rows_flow value rows a b = amount_to (λ e. value e.flow) (row_at rows a) b

-- the network that rows hold
abbrev pub rows_network : {C : Type 0} → (C → ℤ) → List (List (Edge C)) → ℕ → ℕ → ℤ → Bool → Network
rows_network value rows source sink total details = record {
  vertices = length rows;
  source = source;
  sink = sink;
  residual = λ a b. amount_to (λ e. value e.residual) (row_at rows a) b;
  flow = rows_flow value rows;
  total = total;
  details = details;
  room = λ a b. has_end (ends (row_at rows a)) b;
}

-- the same store
pub record IsSameStore {C : Type 0} (rows : List (List (Edge C))) (source sink : ℕ) (total : C) (details : Bool)
    (rows' : List (List (Edge C))) (source' sink' : ℕ) (total' : C) (details' : Bool) : Type 0 where
  pub same_rows : rows' ≡ rows
  pub same_source : source' ≡ source
  pub same_sink : sink' ≡ sink
  pub same_total : total' ≡ total
  pub same_details : details' ≡ details
