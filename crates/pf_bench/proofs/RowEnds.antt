-- The ends of the edges of each node, in rows of edges.
use Rattle.std.proofs.Common.{ℕ, ◌+◌, ◌<◌, ◌≡◌, List, [], ◌∷◌, length, subst, drop, slice_index, nat_eq}
use Rattle.std.specs.Prelude.{map, All}
use Rattle.std.specs.List.{AllByRecursion}
use Rattle.std.proofs.lemmas.List.Elements.{recursion_from_All, All-take, All-drop}
use borrow.Author.Tests.{eqb-true}
use Rattle.pf_base.specs.Successors.{HasSuccessor}
use Rattle.pf_base.specs.Walks.{IsReachable}
use Rattle.pf_base.proofs.Tables.{between, successors_keep}
use Rattle.pf_bench.specs.Steps.{ends_after}

-- the ends of some edges
abbrev pub ends : List (ℕ × ℕ) → List ℕ
ends es = map (λ (e : ℕ × ℕ). e.0) es

ends_all : (P : ℕ → Type 0) (es : List (ℕ × ℕ)) → AllByRecursion (λ (e : ℕ × ℕ). P e.0) es → AllByRecursion P (ends es)
ends_all P [] a = tt
ends_all P (e ∷ es) a = (a.0, ends_all P es a.1)

-- what holds of all edges holds of those of a node
row_all : (P : ℕ × ℕ → Type 0) (offsets : List ℕ) (edges : List (ℕ × ℕ)) → All P edges → (n : ℕ) → AllByRecursion P (between offsets edges n)
row_all P offsets edges h n = recursion_from_All P (between offsets edges n) (All-take P _ (drop (slice_index offsets n) edges) (All-drop P (slice_index offsets n) edges h))

-- each node in reach of nodes that have a row has one
pub has_rows : (offsets : List ℕ) (edges : List (ℕ × ℕ)) (starts : List ℕ) → AllByRecursion (λ n. n + 1 < length offsets) starts → All (λ (e : ℕ × ℕ). e.0 + 1 < length offsets) edges
    → (x : ℕ) → IsReachable nat_eq (HasSuccessor nat_eq (ends_after offsets edges)) starts x → x + 1 < length offsets
has_rows offsets edges starts begins in_range =
    let P : ℕ → Type 0 = λ n. n + 1 < length offsets in
    successors_keep nat_eq (ends_after offsets edges) P (λ a b e p. subst P (eqb-true a b e) p) (λ n p. ends_all P _ (row_all (λ (e : ℕ × ℕ). P e.0) offsets edges in_range n)) starts begins

-- each node in reach of the first one has a row
pub has_row : (offsets : List ℕ) (edges : List (ℕ × ℕ)) → 0 + 1 < length offsets → All (λ (e : ℕ × ℕ). e.0 + 1 < length offsets) edges
    → (x : ℕ) → IsReachable nat_eq (HasSuccessor nat_eq (ends_after offsets edges)) (0 ∷ []) x → x + 1 < length offsets
has_row offsets edges first in_range = has_rows offsets edges (0 ∷ []) (first, tt) in_range
