-- Two square tables as a network.
use Rattle.std.proofs.Common.{◌≡◌, ◌≢◌, ◌∙◌, refl, sym, ap, subst, ◌<◌, ◌+◌, ◌*◌, ◌/◌, ◌%◌, ◌+ℤ◌, ◌&&◌, ℕ, ℤ, zero, suc, pos, neg_ℤ, arith, Bool, true, false, true≢false, List, [], ◌∷◌, length, nat_eq, if◌then◌else◌, eqb-true, slice_index_or, slice_set}
use Rattle.std.proofs.lemmas.Bool.{eqb-false}
use Rattle.std.proofs.lemmas.Nat.{div-mul-add, mod-mul-add}
use Rattle.std.proofs.lemmas.List.{length-set}
use Rattle.pf_matrix.specs.Tables.{Table, IsMatrix}
use Rattle.pf_matrix.proofs.TableLemmas.{place_in}
use Rattle.pf_base.specs.Places.{number}
use Rattle.pf_residual.specs.Flows.{added}
use Rattle.pf_residual.specs.Networks.{Agrees, with_flow, with_residual, IsFresh, HasCapacities}
use Rattle.pf_residual.specs.DenseStores.{are_inside, table_number, tables_network}
use Rattle.pf_residual.specs.Internal.DenseTables.{IsSquare, AreTables, IsTableChanged, IsZeroTable}
use Rattle.pf_residual.specs.Internal.DenseLaws.{inside_of, is_inside}
use Rattle.pf_residual.proofs.SparseStoreLemmas.{added_same}

-- the number at a place inside
pub number_is : {C : Type 0} (value : C → ℤ) (values : List C) (k : ℕ) (d : C) → k < length values → number value values k ≡ value (slice_index_or values k d)
number_is value [] k d l = absurd (omega (arith, l))
number_is value (x ∷ xs) zero d l = refl
number_is value (x ∷ xs) (suc k) d l = number_is value xs k d (omega (arith, l))

-- and after a write
pub number_set_here : {C : Type 0} (value : C → ℤ) (values : List C) (k : ℕ) (y : C) → k < length values → number value (slice_set values k y) k ≡ value y
number_set_here value [] k y l = absurd (omega (arith, l))
number_set_here value (x ∷ xs) zero y l = refl
number_set_here value (x ∷ xs) (suc k) y l = number_set_here value xs k y (omega (arith, l))

pub number_set_there : {C : Type 0} (value : C → ℤ) (values : List C) (k j : ℕ) (y : C) → j ≢ k → number value (slice_set values k y) j ≡ number value values j
number_set_there value [] k j y q = refl
number_set_there value (x ∷ xs) zero zero y q = absurd (q refl)
number_set_there value (x ∷ xs) zero (suc j) y q = refl
number_set_there value (x ∷ xs) (suc k) zero y q = refl
number_set_there value (x ∷ xs) (suc k) (suc j) y q = number_set_there value xs k j y (λ e. q (ap suc e))

-- two positions have two places
pub same_position : (w a b c d : ℕ) → b < w → d < w → a * w + b ≡ c * w + d → (a ≡ c) × (b ≡ d)
same_position w a b c d l m e = (sym (div-mul-add a w b l) ∙ ap (λ k. k / w) e ∙ div-mul-add c w d m, sym (mod-mul-add a w b l) ∙ ap (λ k. k % w) e ∙ mod-mul-add c w d m)

both_equal : (a b from to : ℕ) (t u : Bool) → nat_eq a from ≡ t → nat_eq b to ≡ u → ((t && u) ≡ true → (a ≡ from) × (b ≡ to)) × ((t && u) ≡ false → (a ≡ from) × (b ≡ to) → ⊥)
both_equal a b from to true true p q = (λ h. (eqb-true a from p, eqb-true b to q), λ h e. absurd (true≢false h))
both_equal a b from to true false p q = (λ h. absurd (true≢false (sym h)), λ h e. eqb-false b to q e.1)
both_equal a b from to false u p q = (λ h. absurd (true≢false (sym h)), λ h e. eqb-false a from p e.0)

-- a table in which one number was written
pub table_written : {C : Type 0} (value : C → ℤ) (m : Table C) (from to : ℕ) (y : C) (more : ℤ) → IsMatrix m → from < m.rows → to < m.columns
    → value y ≡ number value m.values (from * m.columns + to) +ℤ more
    → IsTableChanged value from to more m (record { rows = m.rows; columns = m.columns; values = slice_set m.values (from * m.columns + to) y })
table_written value m from to y more ok l k h = record {
  rows = refl;
  columns = refl;
  matrix = record { sized = length-set m.values (from * m.columns + to) y ∙ ok.sized; filled = ok.filled; fits = ok.fits };
  numbers = λ a b i. pick a b i (nat_eq a from && nat_eq b to) refl;
}
  where
    pick : (a b : ℕ) → b < m.columns → (t : Bool) → (nat_eq a from && nat_eq b to) ≡ t
        → number value (slice_set m.values (from * m.columns + to) y) (a * m.columns + b) ≡ (if t then number value m.values (a * m.columns + b) +ℤ more else number value m.values (a * m.columns + b))
    pick a b i true q =
        let e = (both_equal a b from to (nat_eq a from) (nat_eq b to) refl refl).0 q in
        let place : a * m.columns + b ≡ from * m.columns + to = ap (λ n. n * m.columns + b) e.0 ∙ ap (λ n. from * m.columns + n) e.1 in
        ap (λ n. number value (slice_set m.values (from * m.columns + to) y) n) place ∙ number_set_here value m.values (from * m.columns + to) y (place_in m ok from to l k)
        ∙ h ∙ ap (λ n. number value m.values n +ℤ more) (sym place)
    pick a b i false q = number_set_there value m.values (from * m.columns + to) (a * m.columns + b) y
        (λ e. (both_equal a b from to (nat_eq a from) (nat_eq b to) refl refl).1 q (same_position m.columns a b from to i k e))

-- the same as a table of pairs
pub table_added : {C : Type 0} (value : C → ℤ) (n : ℕ) (old new : Table C) (from to : ℕ) (x : ℤ) → IsSquare n old → from < n → to < n → IsTableChanged value from to x old new
    → (a b : ℕ) → added (table_number value n old) from to x a b ≡ table_number value n new a b
table_added value n old new from to x s l k c a b = pick (are_inside n a b) refl
  where
    pick : (t : Bool) → are_inside n a b ≡ t
        → (if nat_eq a from && nat_eq b to then (if t then number value old.values (a * old.columns + b) else pos 0) +ℤ x else (if t then number value old.values (a * old.columns + b) else pos 0))
        ≡ (if t then number value new.values (a * new.columns + b) else pos 0)
    pick true q =
        let p = inside_of n a b q in
        sym (ap (λ w. number value new.values (a * w + b)) c.columns ∙ c.numbers a b (subst (λ w. b < w) (sym s.columns) p.1))
    pick false q = other (nat_eq a from && nat_eq b to) refl
      where
        other : (t : Bool) → (nat_eq a from && nat_eq b to) ≡ t → (if t then pos 0 +ℤ x else pos 0) ≡ pos 0
        other true e =
            let same = (both_equal a b from to (nat_eq a from) (nat_eq b to) refl refl).0 e in
            absurd (true≢false (sym (is_inside n a b (subst (λ k. k < n) (sym same.0) l) (subst (λ j. j < n) (sym same.1) k)) ∙ q))
        other false e = refl

pub square_changed : {C : Type 0} (value : C → ℤ) (n : ℕ) (old new : Table C) (from to : ℕ) (x : ℤ) → IsSquare n old → IsTableChanged value from to x old new → IsSquare n new
square_changed value n old new from to x s c = record { rows = c.rows ∙ s.rows; columns = c.columns ∙ s.columns; matrix = c.matrix }

-- squares of the same size are as good
pub tables_kept : {C : Type 0} (source sink : ℕ) (residuals flows r f : Table C) → AreTables source sink residuals flows → IsSquare residuals.rows r → IsSquare residuals.rows f → AreTables source sink r f
tables_kept source sink residuals flows r f h a b = record {
  source_in = subst (λ n. source < n) (sym a.rows) h.source_in;
  sink_in = subst (λ n. sink < n) (sym a.rows) h.sink_in;
  residuals_square = subst (λ n. IsSquare n r) (sym a.rows) a;
  flows_square = subst (λ n. IsSquare n f) (sym a.rows) b;
}

-- the number of a pair of vertices
pub number_inside : {C : Type 0} (value : C → ℤ) (n : ℕ) (m : Table C) (a b : ℕ) → a < n → b < n → table_number value n m a b ≡ number value m.values (a * m.columns + b)
number_inside value n m a b l k = rw (is_inside n a b l k) refl

module _ {C : Type 0} (value : C → ℤ) (residuals flows : Table C) (source sink : ℕ) (total : ℤ) (details : Bool) (h : AreTables source sink residuals flows) (from to : ℕ) (inside : are_inside residuals.rows from to ≡ true) (x : ℤ) where
  -- flow was added at a pair
  pub flow_raised : (f1 f2 r1 r2 : Table C) → IsTableChanged value from to x flows f1 → IsTableChanged value to from (neg_ℤ x) f1 f2
      → IsTableChanged value from to (neg_ℤ x) residuals r1 → IsTableChanged value to from x r1 r2
      → Agrees (with_flow from to x (tables_network value residuals flows source sink total details)) (tables_network value r2 f2 source sink total details)
  flow_raised f1 f2 r1 r2 first second third fourth =
      let n = residuals.rows in
      let p = inside_of n from to inside in
      let rows : r2.rows ≡ n = fourth.rows ∙ third.rows in
      let mid = square_changed value n flows f1 from to x h.flows_square first in
      let left = square_changed value n residuals r1 from to (neg_ℤ x) h.residuals_square third in
      record {
        vertices = rows;
        source = refl;
        sink = refl;
        residual = record {
          at = λ a b. added_same _ _ to from x (table_added value n residuals r1 from to (neg_ℤ x) h.residuals_square p.0 p.1 third) a b
              ∙ table_added value n r1 r2 to from x left p.1 p.0 fourth a b ∙ ap (λ k. table_number value k r2 a b) (sym rows);
        };
        flow = record {
          at = λ a b. added_same _ _ to from (neg_ℤ x) (table_added value n flows f1 from to x h.flows_square p.0 p.1 first) a b
              ∙ table_added value n f1 f2 to from (neg_ℤ x) mid p.1 p.0 second a b ∙ ap (λ k. table_number value k f2 a b) (sym rows);
        };
        total = refl;
        details = refl;
        room = λ a b k. ap (λ m. are_inside m a b) rows ∙ k;
      }

  -- residual capacity was added at a pair
  pub residual_raised : (r : Table C) → IsTableChanged value from to x residuals r
      → Agrees (with_residual from to x (tables_network value residuals flows source sink total details)) (tables_network value r flows source sink total details)
  residual_raised r c =
      let n = residuals.rows in
      let p = inside_of n from to inside in
      record {
        vertices = c.rows;
        source = refl;
        sink = refl;
        residual = record { at = λ a b. table_added value n residuals r from to x h.residuals_square p.0 p.1 c a b ∙ ap (λ k. table_number value k r a b) (sym c.rows) };
        flow = record { at = λ a b. ap (λ k. table_number value k flows a b) (sym c.rows) };
        total = refl;
        details = refl;
        room = λ a b k. ap (λ m. are_inside m a b) c.rows ∙ k;
      }

-- a table of values that stand for 0
pub zeros : {C : Type 0} (value : C → ℤ) (n : ℕ) (m : Table C) → IsSquare n m → ((r c : ℕ) (d : C) → r < n → c < n → value (slice_index_or m.values (r * n + c) d) ≡ pos 0) → C → IsZeroTable value n m
zeros value n m s h y = record { at = λ a b. pick a b (are_inside n a b) refl }
  where
    pick : (a b : ℕ) (t : Bool) → are_inside n a b ≡ t → (if t then number value m.values (a * m.columns + b) else pos 0) ≡ pos 0
    pick a b true q =
        let p = inside_of n a b q in
        number_is value m.values (a * m.columns + b) y (place_in m s.matrix a b (subst (λ k. a < k) (sym s.rows) p.0) (subst (λ k. b < k) (sym s.columns) p.1))
        ∙ ap (λ w. value (slice_index_or m.values (a * w + b) y)) s.columns ∙ h a b y p.0 p.1
    pick a b false q = refl

module _ {C : Type 0} (value : C → ℤ) (residuals flows : Table C) (size source sink : ℕ) (first : IsSquare size residuals) (second : IsSquare size flows) where
  pub zero_tables : source < size → sink < size → AreTables source sink residuals flows
  zero_tables l m = record {
    source_in = subst (λ n. source < n) (sym first.rows) l;
    sink_in = subst (λ n. sink < n) (sym first.rows) m;
    residuals_square = subst (λ n. IsSquare n residuals) (sym first.rows) first;
    flows_square = subst (λ n. IsSquare n flows) (sym first.rows) second;
  }

  pub zero_fresh : (total : ℤ) → IsZeroTable value size flows → total ≡ pos 0 → IsFresh size source sink (tables_network value residuals flows source sink total true)
  zero_fresh total nought none = record {
    vertices = first.rows;
    source = refl;
    sink = refl;
    flow = λ a b. ap (λ n. table_number value n flows a b) first.rows ∙ nought.at a b;
    total = none;
    details = refl;
  }

  pub zero_capacities : (total : ℤ) → IsZeroTable value size residuals → IsZeroTable value size flows → HasCapacities (λ a b. pos 0) (tables_network value residuals flows source sink total true)
  zero_capacities total left right = record {
    at = λ a b l m. ap (λ z. z +ℤ table_number value residuals.rows flows a b) (ap (λ n. table_number value n residuals a b) first.rows ∙ left.at a b)
        ∙ ap (λ z. pos 0 +ℤ z) (ap (λ n. table_number value n flows a b) first.rows ∙ right.at a b);
  }
