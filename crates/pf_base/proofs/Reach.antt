-- What holds of all nodes in reach.
use Rattle.std.proofs.Common.{◌≡◌, ℕ, ℤ, pos, ◌<◌, zero, suc, ap, subst, arith, inl, inr, Bool, true, false, cond, filter, List, [], ◌∷◌, length, slice_index_or, nat_eq}
use Rattle.std.specs.Prelude.{◌≤ℤ◌, All, slice_get}
use Rattle.std.specs.List.{AllByRecursion}
use Rattle.std.specs.Option.{option_map_or}
use Rattle.std.proofs.lemmas.Int.{ints}
use Rattle.std.proofs.lemmas.List.Elements.{recursion_from_All}
use Rattle.std.proofs.lemmas.Option.{slice_get-get_or}
use borrow.Author.Tests.{eqb-true}
use Rattle.pf_base.specs.Walks.{HasNode, Follows, IsWalk, BeginsAt, EndsAt, end_of}
use Rattle.pf_base.specs.Edges.{HasEdge, IsSuccessor, InReach, HasNoNegativeCost}
use Rattle.pf_base.proofs.Callers.{valued}

-- ---- what holds of the starts and of the ends of each edge from a node of which it holds, holds of each node in reach

module _ {N : Type 0} (eq : N → N → Bool) (edges : N → List (N × ℤ)) (P : N → Type 0) (equal : (a b : N) → eq a b ≡ true → P a → P b) (next : (a : N) → P a → AllByRecursion (λ (e : N × ℤ). P e.0) (edges a)) where
  edge_keeps : (es : List (N × ℤ)) (b : N) (z : ℤ) → AllByRecursion (λ (e : N × ℤ). P e.0) es → HasEdge eq es b z → P b
  edge_keeps [] b z h m = absurd m
  edge_keeps (e ∷ es) b z h (inl m) = equal e.0 b m.0 h.0
  edge_keeps (e ∷ es) b z h (inr m) = edge_keeps es b z h.1 m

  walk_keeps : (a : N) (w : List N) → P a → Follows (IsSuccessor eq edges) a w → P (end_of a w)
  walk_keeps a [] p h = p
  walk_keeps a (b ∷ w) p h = walk_keeps b w (edge_keeps (edges a) b h.0.0 (next a p) h.0.1) h.1

  start_keeps : (starts : List N) (a : N) → AllByRecursion P starts → HasNode eq starts a → P a
  start_keeps [] a h m = absurd m
  start_keeps (s ∷ starts) a h (inl m) = equal s a m h.0
  start_keeps (s ∷ starts) a h (inr m) = start_keeps starts a h.1 m

  end_keeps : (starts w : List N) (x : N) → AllByRecursion P starts → IsWalk (IsSuccessor eq edges) w → BeginsAt eq starts w → EndsAt eq (λ y. eq y x) w → P x
  end_keeps starts [] x p walks begins ends = absurd walks
  end_keeps starts (a ∷ w) x p walks begins ends = equal (end_of a w) x ends (walk_keeps a w (start_keeps starts a p begins) walks)

  pub reach_keeps : (starts : List N) → AllByRecursion P starts → (x : N) → InReach eq edges starts x → P x
  reach_keeps starts p x r = end_keeps starts r.walk x p r.goes.walks r.goes.begins r.goes.ends

ends_valued : {N C : Type 0} (P : N → Type 0) (value : C → ℤ) (xs : List (N × C)) → AllByRecursion (λ (e : N × C). P e.0) xs → AllByRecursion (λ (e : N × ℤ). P e.0) (valued value xs)
ends_valued P value [] h = tt
ends_valued P value (x ∷ xs) h = (h.0, ends_valued P value xs h.1)

-- the same of nodes that are numbers, from one start
pub nat_reach_keeps : {C : Type 0} (value : C → ℤ) (listed : ℕ → List (ℕ × C)) (P : ℕ → Type 0) (start : ℕ) → P start → ((n : ℕ) → P n → AllByRecursion (λ (e : ℕ × C). P e.0) (listed n)) → (n : ℕ) → InReach nat_eq (λ x. valued value (listed x)) (start ∷ []) n → P n
nat_reach_keeps value listed P start p next = reach_keeps nat_eq (λ x. valued value (listed x)) P (λ a b e q. subst P (eqb-true a b e) q) (λ n q. ends_valued P value (listed n) (next n q)) (start ∷ []) (p, tt)

-- ---- tables of edges: `items` reads a row, and `row_at` is the row at n, or no edges

abbrev pub row_at : {X E : Type 0} → (X → List E) → List X → ℕ → List E
row_at items rows n = option_map_or items (slice_get rows n) []

pub row_at-index : {X E : Type 0} (items : X → List E) (rows : List X) (n : ℕ) (d : X) → n < length rows → row_at items rows n ≡ items (slice_index_or rows n d)
row_at-index items rows n d h = ap (λ o. option_map_or items o []) (slice_get-get_or rows n d h)

-- what holds of all that stands in the table holds of a row, and of a row that was filtered
pub row_all : {X E : Type 0} (P : E → Type 0) (items : X → List E) (rows : List X) → All (λ row. All P (items row)) rows → (n : ℕ) → AllByRecursion P (row_at items rows n)
row_all P items [] h n = tt
row_all P items (r ∷ rows) h zero = recursion_from_All P (items r) (h 0 r (omega arith))
row_all P items (r ∷ rows) h (suc n) = row_all P items rows (λ k d l. h (suc k) d (omega (arith, l))) n

pub filter_all : {E : Type 0} (P : E → Type 0) (test : E → Bool) (xs : List E) → AllByRecursion P xs → AllByRecursion P (filter test xs)
filter_all P test [] h = tt
filter_all P test (x ∷ xs) h = by (test x) (filter_all P test xs h.1)
  where
    by : (t : Bool) → AllByRecursion P (filter test xs) → AllByRecursion P (cond t (x ∷ filter test xs) (filter test xs))
    by true r = (h.0, r)
    by false r = r

-- ---- costs

edge_from_zero : {N : Type 0} (eq : N → N → Bool) (es : List (N × ℤ)) (b : N) (z : ℤ) → AllByRecursion (λ (e : N × ℤ). pos 0 ≤ℤ e.1) es → HasEdge eq es b z → pos 0 ≤ℤ z
edge_from_zero eq [] b z h m = absurd m
edge_from_zero eq (e ∷ es) b z h (inl m) = subst (λ (y : ℤ). pos 0 ≤ℤ y) m.1 h.0
edge_from_zero eq (e ∷ es) b z h (inr m) = edge_from_zero eq es b z h.1 m

-- a graph has no negative cost where none of its lists has one
pub no_negative_edge : {N : Type 0} (eq : N → N → Bool) (edges : N → List (N × ℤ)) (starts : List N) → ((x : N) → InReach eq edges starts x → AllByRecursion (λ (e : N × ℤ). pos 0 ≤ℤ e.1) (edges x)) → HasNoNegativeCost eq edges starts
no_negative_edge eq edges starts h = record { from_zero = λ a b z r m. edge_from_zero eq (edges a) b z (h a r) m }

-- and where its costs are of a type without negative numbers
pub no_negative_cost : {N C : Type 0} (eq : N → N → Bool) (value : C → ℤ) → ((c : C) → pos 0 ≤ℤ value c) → (listed : N → List (N × C)) (starts : List N) → HasNoNegativeCost eq (λ x. valued value (listed x)) starts
no_negative_cost {N} {C} eq value from_zero listed starts = no_negative_edge eq (λ x. valued value (listed x)) starts (λ x r. all (listed x))
  where
    all : (xs : List (N × C)) → AllByRecursion (λ (e : N × ℤ). pos 0 ≤ℤ e.1) (valued value xs)
    all [] = tt
    all (x ∷ xs) = (from_zero x.1, all xs)

-- such as an unsigned one
pub unsigned_cost : {N : Type 0} (eq : N → N → Bool) (listed : N → List (N × ℕ)) (starts : List N) → HasNoNegativeCost eq (λ x. valued (λ c. pos c) (listed x)) starts
unsigned_cost eq = no_negative_cost eq (λ c. pos c) (λ c. omega (arith, ints))
