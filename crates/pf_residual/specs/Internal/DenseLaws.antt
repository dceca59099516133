-- Two square tables meet the law of a store.
use Rattle.std.proofs.Common.{◌≡◌, refl, sym, ap, ◌∙◌, ◌<◌, ◌&&◌, ℕ, ℤ, Bool, true, false, true≢false, pos, ltb-true, lt-ltb, ltb}
use Rattle.pf_matrix.specs.Tables.{Table}
use Rattle.pf_residual.specs.Flows.{IsAntisymmetric}
use Rattle.pf_residual.specs.Networks.{IsStored}
use Rattle.pf_residual.specs.DenseStores.{are_inside, tables_network, table_number}
use Rattle.pf_residual.specs.Internal.DenseTables.{AreTables}

both : (t u : Bool) → (t && u) ≡ true → (t ≡ true) × (u ≡ true)
both true u h = (refl, h)
both false u h = absurd (true≢false (sym h))

pub inside_of : (n a b : ℕ) → are_inside n a b ≡ true → (a < n) × (b < n)
inside_of n a b h = let p = both (ltb a n) (ltb b n) h in (ltb-true a n p.0, ltb-true b n p.1)

pub is_inside : (n a b : ℕ) → a < n → b < n → are_inside n a b ≡ true
is_inside n a b l m = ap (λ t. t && ltb b n) (lt-ltb a n l) ∙ lt-ltb b n m

outside_none : {C : Type 0} (value : C → ℤ) (n : ℕ) (m : Table C) (a b : ℕ) → are_inside n a b ≡ false → table_number value n m a b ≡ pos 0
outside_none value n m a b h = rw h refl

pub tables_law : {C : Type 0} (value : C → ℤ) (residuals flows : Table C) (source sink : ℕ) (total : ℤ) (details : Bool) → AreTables source sink residuals flows
    → IsAntisymmetric (table_number value residuals.rows flows) → IsStored (tables_network value residuals flows source sink total details)
tables_law value residuals flows source sink total details h opposite = record {
  source_in = h.source_in;
  sink_in = h.sink_in;
  back = λ a b k. let p = inside_of residuals.rows a b k in is_inside residuals.rows b a p.1 p.0;
  inside = λ a b k. inside_of residuals.rows a b k;
  empty = λ a b k. (outside_none value residuals.rows residuals a b k, outside_none value residuals.rows flows a b k);
  opposite = opposite;
}
