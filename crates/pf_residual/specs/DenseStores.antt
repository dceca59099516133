-- Two square tables as a network.
use Rattle.std.specs.Prelude.{◌≡◌, ◌+◌, ◌*◌, ◌&&◌, ℕ, ℤ, pos, Bool, if◌then◌else◌}
use Rattle.std.proofs.Common.{ltb}
use Rattle.pf_matrix.specs.Tables.{Table}
use Rattle.pf_base.specs.Places.{number}
use Rattle.pf_residual.specs.Flows.{PairTable}
use Rattle.pf_residual.specs.Networks.{Network}

-- are both vertices of n?
abbrev pub are_inside : ℕ → ℕ → ℕ → Bool
are_inside n a b = ltb a n && ltb b n

-- the number at row a and column b, or 0 where they are not vertices of n
abbrev pub table_number : {C : Type 0} → (C → ℤ) → ℕ → Table C → PairTable
table_number value n m a b = if are_inside n a b then number value m.values (a * m.columns + b) else pos 0

-- the network that two tables hold: each pair has room
abbrev pub tables_network : {C : Type 0} → (C → ℤ) → Table C → Table C → ℕ → ℕ → ℤ → Bool → Network
tables_network value residuals flows source sink total details = record {
  vertices = residuals.rows;
  source = source;
  sink = sink;
  residual = table_number value residuals.rows residuals;
  flow = table_number value residuals.rows flows;
  total = total;
  details = details;
  room = are_inside residuals.rows;
}

-- the same store: the same tables, and the rest the same
pub record AreSameTables {C : Type 0} (residuals flows : Table C) (source sink : ℕ) (total : C) (details : Bool)
    (residuals' flows' : Table C) (source' sink' : ℕ) (total' : C) (details' : Bool) : Type 0 where
  pub same_residuals : residuals' ≡ residuals
  pub same_flows : flows' ≡ flows
  pub same_source : source' ≡ source
  pub same_sink : sink' ≡ sink
  pub same_total : total' ≡ total
  pub same_details : details' ≡ details
