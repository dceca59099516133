-- Rows of edges as a network.
use Rattle.std.proofs.Common.{◌≡◌, ◌≢◌, ◌∙◌, refl, sym, ap, subst, ◌<◌, ◌+ℤ◌, ℕ, ℤ, zero, suc, pos, neg_ℤ, arith, Bool, true, false, true≢false, List, [], ◌∷◌, ◌++◌, length, nat_eq, if◌then◌else◌, ◌&&◌, eq-eqb, slice_set}
use Rattle.std.proofs.lemmas.List.{get_or-set_same, get_or-set_other, length-set}
use borrow.Author.Tests.{eqb-true, eqb-false, ne_eqb}
use Rattle.pf_residual.specs.Flows.{PairTable, added}
use Rattle.pf_residual.specs.Networks.{Agrees, with_flow, IsFresh, HasCapacities}
use Rattle.pf_residual.specs.SparseRows.{ends, has_end, amount_to, row_at}
use Rattle.pf_residual.specs.Internal.RowChanges.{Rises, IsRowChanged}
use Rattle.pf_residual.specs.SparseStores.{rows_network}
use Rattle.pf_residual.specs.Internal.SparseTables.{AreRows, AreEmpty}
use Rattle.pf_residual.specs.declared.sparse_row.Edge.{Edge}

-- a row after a write
pub row_here : {X : Type 0} (rows : List (List X)) (a : ℕ) (r : List X) → a < length rows → row_at (slice_set rows a r) a ≡ r
row_here rows a r l = get_or-set_same rows a r [] l

pub row_there : {X : Type 0} (rows : List (List X)) (a b : ℕ) (r : List X) → b ≢ a → row_at (slice_set rows a r) b ≡ row_at rows b
row_there rows a b r q = get_or-set_other rows a b r [] q

-- rows with the same ends are as good
pub rows_kept : {C : Type 0} (source sink : ℕ) (old new : List (List (Edge C))) → AreRows source sink old → length new ≡ length old
    → ((a : ℕ) → ends (row_at new a) ≡ ends (row_at old a)) → AreRows source sink new
rows_kept source sink old new h len same = record {
  source_in = subst (λ n. source < n) (sym len) h.source_in;
  sink_in = subst (λ n. sink < n) (sym len) h.sink_in;
  rises = λ a. subst (λ es. Rises 0 es) (sym (same a)) (h.rises a);
  below = λ a. record { at = λ b k. subst (λ n. b < n) (sym len) ((h.below a).at b (subst (λ es. has_end es b ≡ true) (same a) k)) };
  back = λ a b k. subst (λ es. has_end es a ≡ true) (sym (same b)) (h.back a b (subst (λ es. has_end es b ≡ true) (same a) k));
}

nat_eq_turned : (m n : ℕ) → nat_eq m n ≡ nat_eq n m
nat_eq_turned m n = pick (nat_eq m n) refl
  where
    pick : (t : Bool) → nat_eq m n ≡ t → t ≡ nat_eq n m
    pick true e = sym (eq-eqb n m (sym (eqb-true m n e)))
    pick false e = sym (ne_eqb n m (λ q. absurd (eqb-false m n e (sym q))))

-- more of a number in one row is more of it in the table
pub table_changed : {C : Type 0} (f : Edge C → ℤ) (rows : List (List (Edge C))) (from to : ℕ) (x : ℤ) (r : List (Edge C)) → from < length rows
    → ((b : ℕ) → amount_to f r b ≡ (if nat_eq to b then amount_to f (row_at rows from) b +ℤ x else amount_to f (row_at rows from) b))
    → (a b : ℕ) → added (λ a b. amount_to f (row_at rows a) b) from to x a b ≡ amount_to f (row_at (slice_set rows from r) a) b
table_changed f rows from to x r l h a b = split (nat_eq a from) refl
  where
    split : (t : Bool) → nat_eq a from ≡ t → (if t && nat_eq b to then amount_to f (row_at rows a) b +ℤ x else amount_to f (row_at rows a) b) ≡ amount_to f (row_at (slice_set rows from r) a) b
    split true e =
        let same = eqb-true a from e in
        ap (λ k. if nat_eq b to then amount_to f (row_at rows k) b +ℤ x else amount_to f (row_at rows k) b) same
        ∙ ap (λ t. if t then amount_to f (row_at rows from) b +ℤ x else amount_to f (row_at rows from) b) (nat_eq_turned b to)
        ∙ sym (h b) ∙ sym (ap (λ q. amount_to f q b) (ap (λ k. row_at (slice_set rows from r) k) same ∙ row_here rows from r l))
    split false e = sym (ap (λ q. amount_to f q b) (row_there rows from a r (eqb-false a from e)))

pub added_same : (s t : PairTable) (from to : ℕ) (x : ℤ) → ((a b : ℕ) → s a b ≡ t a b) → (a b : ℕ) → added s from to x a b ≡ added t from to x a b
added_same s t from to x h a b = ap (λ z. if nat_eq a from && nat_eq b to then z +ℤ x else z) (h a b)

-- the ends after a write that keeps those of one row
pub ends_set_at : {C : Type 0} (rows : List (List (Edge C))) (from : ℕ) (r : List (Edge C)) → from < length rows → ends r ≡ ends (row_at rows from) → (a : ℕ)
    → ends (row_at (slice_set rows from r) a) ≡ ends (row_at rows a)
ends_set_at rows from r l h a = pick (nat_eq a from) refl
  where
    pick : (t : Bool) → nat_eq a from ≡ t → ends (row_at (slice_set rows from r) a) ≡ ends (row_at rows a)
    pick true e =
        let same = eqb-true a from e in
        ap (λ k. ends (row_at (slice_set rows from r) k)) same ∙ ap (λ q. ends q) (row_here rows from r l) ∙ h ∙ ap (λ k. ends (row_at rows k)) (sym same)
    pick false e = ap (λ q. ends q) (row_there rows from a r (eqb-false a from e))

module _ {C : Type 0} (value : C → ℤ) (source sink : ℕ) (total : ℤ) (details : Bool) where
  -- flow was added at a pair
  pub flow_added : (rows : List (List (Edge C))) (from to : ℕ) (x : ℤ) (r q : List (Edge C)) → from < length rows → to < length rows
      → IsRowChanged value to (neg_ℤ x) x (row_at rows from) r → IsRowChanged value from x (neg_ℤ x) (row_at (slice_set rows from r) to) q
      → Agrees (with_flow from to x (rows_network value rows source sink total details)) (rows_network value (slice_set (slice_set rows from r) to q) source sink total details)
  flow_added rows from to x r q l m first second =
      let once = slice_set rows from r in
      let len : length once ≡ length rows = length-set rows from r in
      let inside : to < length once = omega (arith, len, m) in
      record {
        vertices = length-set once to q ∙ len;
        source = refl;
        sink = refl;
        residual = record {
          at = λ a b. added_same _ _ to from x (table_changed (λ e. value e.residual) rows from to (neg_ℤ x) r l first.residual) a b
              ∙ table_changed (λ e. value e.residual) once to from x q inside second.residual a b;
        };
        flow = record {
          at = λ a b. added_same _ _ to from (neg_ℤ x) (table_changed (λ e. value e.flow) rows from to x r l first.flow) a b
              ∙ table_changed (λ e. value e.flow) once to from (neg_ℤ x) q inside second.flow a b;
        };
        total = refl;
        details = refl;
        room = λ a b h. subst (λ es. has_end es b ≡ true) (sym (ends_set_at once to q inside second.ends a ∙ ends_set_at rows from r l first.ends a)) h;
      }

  -- the same rows are the same network
  pub rows_same : (old new : List (List (Edge C))) → length new ≡ length old → ((a : ℕ) → row_at new a ≡ row_at old a)
      → Agrees (rows_network value old source sink total details) (rows_network value new source sink total details)
  rows_same old new len same = record {
    vertices = len;
    source = refl;
    sink = refl;
    residual = record { at = λ a b. ap (λ r. amount_to (λ e. value e.residual) r b) (sym (same a)) };
    flow = record { at = λ a b. ap (λ r. amount_to (λ e. value e.flow) r b) (sym (same a)) };
    total = refl;
    details = refl;
    room = λ a b h. subst (λ r. has_end (ends r) b ≡ true) (sym (same a)) h;
  }

-- one more row without edges
pub empty_more : {C : Type 0} (rows : List (List (Edge C))) → AreEmpty rows → AreEmpty (rows ++ [] ∷ [])
empty_more rows h = record { at = λ a. pushed rows a (h.at a) }
  where
    pushed : {C : Type 0} (rows : List (List (Edge C))) (a : ℕ) → row_at rows a ≡ [] → row_at (rows ++ [] ∷ []) a ≡ []
    pushed [] zero h = refl
    pushed [] (suc a) h = refl
    pushed (r ∷ rows) zero h = h
    pushed (r ∷ rows) (suc a) h = pushed rows a h

pub empty_rows : {C : Type 0} (source sink : ℕ) (rows : List (List (Edge C))) → AreEmpty rows → source < length rows → sink < length rows → AreRows source sink rows
empty_rows source sink rows h l m = record {
  source_in = l;
  sink_in = m;
  rises = λ a. subst (λ r. Rises 0 (ends r)) (sym (h.at a)) tt;
  below = λ a. record { at = λ b k. absurd (true≢false (sym k ∙ ap (λ r. has_end (ends r) b) (h.at a))) };
  back = λ a b k. absurd (true≢false (sym k ∙ ap (λ r. has_end (ends r) b) (h.at a)));
}

pub empty_fresh : {C : Type 0} (value : C → ℤ) (rows : List (List (Edge C))) (size source sink : ℕ) (total : ℤ) → AreEmpty rows → length rows ≡ size → total ≡ pos 0
    → IsFresh size source sink (rows_network value rows source sink total true)
empty_fresh value rows size source sink total h len none = record {
  vertices = len;
  source = refl;
  sink = refl;
  flow = λ a b. ap (λ r. amount_to (λ e. value e.flow) r b) (h.at a);
  total = none;
  details = refl;
}

pub empty_capacities : {C : Type 0} (value : C → ℤ) (rows : List (List (Edge C))) (source sink : ℕ) (total : ℤ) → AreEmpty rows
    → HasCapacities (λ a b. pos 0) (rows_network value rows source sink total true)
empty_capacities value rows source sink total h = record {
  at = λ a b l m. ap (λ z. z +ℤ amount_to (λ e. value e.flow) (row_at rows a) b) (ap (λ r. amount_to (λ e. value e.residual) r b) (h.at a))
      ∙ ap (λ z. pos 0 +ℤ z) (ap (λ r. amount_to (λ e. value e.flow) r b) (h.at a));
}
