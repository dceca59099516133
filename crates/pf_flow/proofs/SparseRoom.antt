-- Rows with room for one pair more.
use Rattle.std.proofs.Common.{◌≡◌, ◌≢◌, ◌∙◌, refl, sym, ap, subst, ◌<◌, ◌⊎◌, inl, inr, ℕ, ℤ, pos, arith, Bool, true, false, true≢false, List, [], length, nat_eq, if◌then◌else◌, eq-eqb, slice_set, slice_index_or, zero, suc, ◌∷◌}
use Rattle.std.proofs.lemmas.List.{length-set, get_or_default, get_or-set_same, set-get_or}
use borrow.Author.Tests.{eqb-true, eqb-false}
use Rattle.pf_residual.specs.Networks.{Agrees}
use Rattle.pf_residual.specs.SparseRows.{ends, has_end, amount_to, row_at}
use Rattle.pf_residual.specs.Internal.RowChanges.{Rises, with_edge, without_edge}
use Rattle.pf_residual.specs.SparseStores.{rows_network}
use Rattle.pf_residual.specs.Internal.SparseTables.{AreRows}
use Rattle.pf_residual.specs.declared.sparse_row.Edge.{Edge}
use Rattle.pf_residual.proofs.SparseRowLemmas.{with_edge_ends, with_edge_rises, with_edge_amount, without_with}
use Rattle.pf_residual.proofs.SparseStoreLemmas.{row_here, row_there}

-- whether a row has an edge
abbrev has : {C : Type 0} → List (List (Edge C)) → ℕ → ℕ → Bool
has rows a b = has_end (ends (row_at rows a)) b

pub not_then : (t : Bool) → (t ≡ true → ⊥) → t ≡ false
not_then true h = absurd (h refl)
not_then false h = refl

module _ {C : Type 0} (rows : List (List (Edge C))) (from : ℕ) (e : Edge C) (l : from < length rows) where
  row : List (Edge C)
  row = with_edge (row_at rows from) e

  here_or_there : (a : ℕ) → ((a ≡ from) × (row_at (slice_set rows from (with_edge (row_at rows from) e)) a ≡ with_edge (row_at rows from) e)) ⊎ (row_at (slice_set rows from (with_edge (row_at rows from) e)) a ≡ row_at rows a)
  here_or_there a = pick (nat_eq a from) refl
    where
      pick : (t : Bool) → nat_eq a from ≡ t → ((a ≡ from) × (row_at (slice_set rows from (with_edge (row_at rows from) e)) a ≡ with_edge (row_at rows from) e)) ⊎ (row_at (slice_set rows from (with_edge (row_at rows from) e)) a ≡ row_at rows a)
      pick true q = let same = eqb-true a from q in inl (same, ap (λ k. row_at (slice_set rows from (with_edge (row_at rows from) e)) k) same ∙ row_here rows from (with_edge (row_at rows from) e) l)
      pick false q = inr (row_there rows from a (with_edge (row_at rows from) e) (eqb-false a from q))

  pub once_has : (a b : ℕ) → has (slice_set rows from (with_edge (row_at rows from) e)) a b ≡ true → ((a ≡ from) × (b ≡ e.to)) ⊎ (has rows a b ≡ true)
  once_has a b h = elim (here_or_there a) as (λ _. ((a ≡ from) × (b ≡ e.to)) ⊎ (has rows a b ≡ true)) [
    | inl p ↦ or_old p.0 (nat_eq e.to b) refl (sym (with_edge_ends (row_at rows from) e b) ∙ sym (ap (λ r. has_end (ends r) b) p.1) ∙ h)
    | inr p ↦ inr (sym (ap (λ r. has_end (ends r) b) p) ∙ h)
  ]
    where
      or_old : a ≡ from → (t : Bool) → nat_eq e.to b ≡ t → (if t then true else has rows from b) ≡ true → ((a ≡ from) × (b ≡ e.to)) ⊎ (has rows a b ≡ true)
      or_old same true q k = inl (same, sym (eqb-true e.to b q))
      or_old same false q k = inr (ap (λ n. has rows n b) same ∙ k)

  pub once_new : has (slice_set rows from (with_edge (row_at rows from) e)) from e.to ≡ true
  once_new = ap (λ r. has_end (ends r) e.to) (row_here rows from (with_edge (row_at rows from) e) l) ∙ with_edge_ends (row_at rows from) e e.to ∙ ap (λ t. if t then true else has rows from e.to) (eq-eqb e.to e.to refl)

  pub once_old : (a b : ℕ) → has rows a b ≡ true → has (slice_set rows from (with_edge (row_at rows from) e)) a b ≡ true
  once_old a b h = elim (here_or_there a) as (λ _. has (slice_set rows from (with_edge (row_at rows from) e)) a b ≡ true) [
    | inl p ↦ ap (λ r. has_end (ends r) b) p.1 ∙ with_edge_ends (row_at rows from) e b ∙ either (nat_eq e.to b) (has rows from b) (sym (ap (λ n. has rows n b) p.0) ∙ h)
    | inr p ↦ ap (λ r. has_end (ends r) b) p ∙ h
  ]
    where
      either : (t u : Bool) → u ≡ true → (if t then true else u) ≡ true
      either true u k = refl
      either false u k = k

  pub once_rises : ((a : ℕ) → Rises 0 (ends (row_at rows a))) → has rows from e.to ≡ false → (a : ℕ) → Rises 0 (ends (row_at (slice_set rows from (with_edge (row_at rows from) e)) a))
  once_rises r h a = elim (here_or_there a) as (λ _. Rises 0 (ends (row_at (slice_set rows from (with_edge (row_at rows from) e)) a))) [
    | inl p ↦ subst (λ q. Rises 0 (ends q)) (sym p.1) (with_edge_rises 0 (row_at rows from) e (r from) (omega arith) h)
    | inr p ↦ subst (λ q. Rises 0 (ends q)) (sym p) (r a)
  ]

  pub once_amount : (f : Edge C → ℤ) → has rows from e.to ≡ false → f e ≡ pos 0 → (a b : ℕ) → amount_to f (row_at rows a) b ≡ amount_to f (row_at (slice_set rows from (with_edge (row_at rows from) e)) a) b
  once_amount f h z a b = elim (here_or_there a) as (λ _. amount_to f (row_at rows a) b ≡ amount_to f (row_at (slice_set rows from (with_edge (row_at rows from) e)) a) b) [
    | inl p ↦ ap (λ n. amount_to f (row_at rows n) b) p.0 ∙ sym (ap (λ r. amount_to f r b) p.1 ∙ with_edge_amount f (row_at rows from) e b h z)
    | inr p ↦ sym (ap (λ r. amount_to f r b) p)
  ]

-- rows with edges between two vertices, and else those of before
pub record Widens {C : Type 0} (from to : ℕ) (old new : List (List (Edge C))) : Type 0 where
  pub len : length new ≡ length old
  pub rises : (a : ℕ) → Rises 0 (ends (row_at new a))
  pub cases : (a b : ℕ) → has new a b ≡ true → ((a ≡ from) × (b ≡ to)) ⊎ (((a ≡ to) × (b ≡ from)) ⊎ (has old a b ≡ true))
  pub keeps : (a b : ℕ) → has old a b ≡ true → has new a b ≡ true
  pub there : has new from to ≡ true
  pub back : has new to from ≡ true

pub widened : {C : Type 0} (source sink from to : ℕ) (old new : List (List (Edge C))) → AreRows source sink old → from < length old → to < length old → Widens from to old new → AreRows source sink new
widened source sink from to old new h l m w = record {
  source_in = subst (λ n. source < n) (sym w.len) h.source_in;
  sink_in = subst (λ n. sink < n) (sym w.len) h.sink_in;
  rises = w.rises;
  below = λ a. record {
    at = λ b k. subst (λ n. b < n) (sym w.len) (elim (w.cases a b k) as (λ _. b < length old) [
      | inl p ↦ subst (λ n. n < length old) (sym p.1) m
      | inr q ↦ elim q as (λ _. b < length old) [
        | inl p ↦ subst (λ n. n < length old) (sym p.1) l
        | inr p ↦ (h.below a).at b p
      ]
    ]);
  };
  back = λ a b k. elim (w.cases a b k) as (λ _. has new b a ≡ true) [
    | inl p ↦ ap (λ n. has new n a) p.1 ∙ ap (λ n. has new to n) p.0 ∙ w.back
    | inr q ↦ elim q as (λ _. has new b a ≡ true) [
      | inl p ↦ ap (λ n. has new n a) p.1 ∙ ap (λ n. has new from n) p.0 ∙ w.there
      | inr p ↦ w.keeps b a (h.back a b p)
    ]
  ];
}

-- a loop gets room
pub widened_once : {C : Type 0} (source sink : ℕ) (rows : List (List (Edge C))) (from : ℕ) (e : Edge C) → AreRows source sink rows → from < length rows → from ≡ e.to → has rows from e.to ≡ false
    → Widens from e.to rows (slice_set rows from (with_edge (row_at rows from) e))
widened_once source sink rows from e h l same fresh = record {
  len = length-set rows from (with_edge (row_at rows from) e);
  rises = once_rises rows from e l h.rises fresh;
  cases = λ a b k. elim (once_has rows from e l a b k) as (λ _. ((a ≡ from) × (b ≡ e.to)) ⊎ (((a ≡ e.to) × (b ≡ from)) ⊎ (has rows a b ≡ true))) [ inl p ↦ inl p | inr p ↦ inr (inr p) ];
  keeps = once_old rows from e l;
  there = once_new rows from e l;
  back = ap (λ n. has (slice_set rows from (with_edge (row_at rows from) e)) n from) (sym same) ∙ ap (λ n. has (slice_set rows from (with_edge (row_at rows from) e)) from n) same ∙ once_new rows from e l;
}

module _ {C : Type 0} (source sink : ℕ) (rows : List (List (Edge C))) (h : AreRows source sink rows) (d e : Edge C) (apart : e.to ≢ d.to) (l : e.to < length rows) (m : d.to < length rows) (fresh : has rows e.to d.to ≡ false) where
  -- the edge d stands in the row of e's end, and e in that of d's end
  once : List (List (Edge C))
  once = slice_set rows e.to (with_edge (row_at rows e.to) d)

  pub fresh_back : has (slice_set rows e.to (with_edge (row_at rows e.to) d)) d.to e.to ≡ false
  fresh_back = not_then _ (λ k. elim (once_has rows e.to d l d.to e.to k) as (λ _. ⊥) [ inl p ↦ absurd (apart (sym p.0)) | inr p ↦ absurd (true≢false (sym (h.back d.to e.to p) ∙ fresh)) ])

  pub inside_once : d.to < length (slice_set rows e.to (with_edge (row_at rows e.to) d))
  inside_once = subst (λ n. d.to < n) (sym (length-set rows e.to (with_edge (row_at rows e.to) d))) m

  pub widened_twice : Widens e.to d.to rows (slice_set (slice_set rows e.to (with_edge (row_at rows e.to) d)) d.to (with_edge (row_at (slice_set rows e.to (with_edge (row_at rows e.to) d)) d.to) e))
  widened_twice =
      let first = slice_set rows e.to (with_edge (row_at rows e.to) d) in
      let second = slice_set first d.to (with_edge (row_at first d.to) e) in
      record {
        len = length-set first d.to (with_edge (row_at first d.to) e) ∙ length-set rows e.to (with_edge (row_at rows e.to) d);
        rises = once_rises first d.to e inside_once (once_rises rows e.to d l h.rises fresh) fresh_back;
        cases = λ a b k. elim (once_has first d.to e inside_once a b k) as (λ _. ((a ≡ e.to) × (b ≡ d.to)) ⊎ (((a ≡ d.to) × (b ≡ e.to)) ⊎ (has rows a b ≡ true))) [
          | inl p ↦ inr (inl p)
          | inr p ↦ elim (once_has rows e.to d l a b p) as (λ _. ((a ≡ e.to) × (b ≡ d.to)) ⊎ (((a ≡ d.to) × (b ≡ e.to)) ⊎ (has rows a b ≡ true))) [ inl q ↦ inl q | inr q ↦ inr (inr q) ]
        ];
        keeps = λ a b k. once_old first d.to e inside_once a b (once_old rows e.to d l a b k);
        there = once_old first d.to e inside_once e.to d.to (once_new rows e.to d l);
        back = once_new first d.to e inside_once;
      }

-- what widens and keeps the numbers is the same network
pub room_made : {C : Type 0} (value : C → ℤ) (source sink : ℕ) (total : ℤ) (details : Bool) (from to : ℕ) (old new : List (List (Edge C))) → Widens from to old new
    → ((f : Edge C → ℤ) → ((e : Edge C) → value e.residual ≡ pos 0 → value e.flow ≡ pos 0 → f e ≡ pos 0) → (a b : ℕ) → amount_to f (row_at old a) b ≡ amount_to f (row_at new a) b)
    → Agrees (rows_network value old source sink total details) (rows_network value new source sink total details)
room_made value source sink total details from to old new w same = record {
  vertices = w.len;
  source = refl;
  sink = refl;
  residual = record { at = same (λ e. value e.residual) (λ e p q. p) };
  flow = record { at = same (λ e. value e.flow) (λ e p q. q) };
  total = refl;
  details = refl;
  room = w.keeps;
}

set_twice : {X : Type 0} (xs : List X) (i : ℕ) (x y : X) → slice_set (slice_set xs i x) i y ≡ slice_set xs i y
set_twice [] zero x y = refl
set_twice [] (suc i) x y = refl
set_twice (z ∷ xs) zero x y = refl
set_twice (z ∷ xs) (suc i) x y = ap (λ l. z ∷ l) (set_twice xs i x y)

-- the rows as the code reads and writes them
module _ {C : Type 0} (rows : List (List (Edge C))) (from to : ℕ) (d e : Edge C) (l : from < length rows) (m : to < length rows)
    (y : List (Edge C)) (read : y ≡ slice_index_or rows from y) (n : List (Edge C)) (wrote : n ≡ with_edge y d) where
  pub first_is : slice_set rows from n ≡ slice_set rows from (with_edge (row_at rows from) d)
  first_is = ap (λ r. slice_set rows from r) (wrote ∙ ap (λ r. with_edge r d) (read ∙ get_or_default rows from y [] l))

  module _ (y2 : List (Edge C)) (read2 : y2 ≡ slice_index_or (slice_set rows from n) to y2) where
    pub second_read : y2 ≡ row_at (slice_set rows from (with_edge (row_at rows from) d)) to
    second_read = read2 ∙ ap (λ q. slice_index_or q to y2) first_is
        ∙ get_or_default (slice_set rows from (with_edge (row_at rows from) d)) to y2 [] (subst (λ k. to < k) (sym (length-set rows from (with_edge (row_at rows from) d))) m)

    pub second_is : (n2 : List (Edge C)) → n2 ≡ with_edge y2 e
        → slice_set (slice_set rows from n) to n2 ≡ slice_set (slice_set rows from (with_edge (row_at rows from) d)) to (with_edge (row_at (slice_set rows from (with_edge (row_at rows from) d)) to) e)
    second_is n2 w = ap (λ q. slice_set q to n2) first_is ∙ ap (λ r. slice_set (slice_set rows from (with_edge (row_at rows from) d)) to r) (w ∙ ap (λ r. with_edge r e) second_read)

    -- where the second row stayed as it was
    module _ (n2 : List (Edge C)) (stayed : n2 ≡ y2) where
      pub stayed_is : slice_set (slice_set rows from n) to n2 ≡ slice_set rows from (with_edge (row_at rows from) d)
      stayed_is = ap (λ q. slice_set q to n2) first_is ∙ ap (λ r. slice_set (slice_set rows from (with_edge (row_at rows from) d)) to r) (stayed ∙ second_read)
          ∙ set-get_or (slice_set rows from (with_edge (row_at rows from) d)) to []

      module _ (y3 : List (Edge C)) (read3 : y3 ≡ slice_index_or (slice_set (slice_set rows from n) to n2) from y3) where
        pub third_read : y3 ≡ with_edge (row_at rows from) d
        third_read = read3 ∙ ap (λ q. slice_index_or q from y3) stayed_is ∙ get_or-set_same rows from (with_edge (row_at rows from) d) y3 l

        pub undone : d.to ≡ to → has rows from to ≡ false → (n3 : List (Edge C)) → n3 ≡ without_edge y3 to → slice_set (slice_set (slice_set rows from n) to n2) from n3 ≡ rows
        undone q fresh n3 w =
            let back : n3 ≡ row_at rows from = w ∙ ap (λ r. without_edge r to) third_read ∙ ap (λ k. without_edge (with_edge (row_at rows from) d) k) (sym q)
            ∙ without_with (row_at rows from) d (ap (λ k. has rows from k) q ∙ fresh) in
            ap (λ q. slice_set q from n3) stayed_is ∙ ap (λ r. slice_set (slice_set rows from (with_edge (row_at rows from) d)) from r) back
            ∙ set_twice rows from (with_edge (row_at rows from) d) (row_at rows from) ∙ set-get_or rows from []
