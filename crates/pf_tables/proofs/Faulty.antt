-- Rows of which each edge is sound make a graph.
use Rattle.std.proofs.Common.{◌≡◌, ◌⊎◌, inl, inr, ℕ, ◌+◌, ◌-◌, ◌<◌, ◌≤◌, sym, ap, subst, ◌∙◌, arith, List, length}
use Rattle.std.specs.Prelude.{ℤ, Some, slice_get}
use Rattle.std.proofs.lemmas.Option.{slice_get_within}
use Rattle.pf_tables.specs.Graphs.{IsGraph, filled, part}
use Rattle.pf_tables.specs.Faults.{IsSound, IsSoundRow, IsFaultAt, IsFirstFaultOfRow}
use Rattle.pf_tables.specs.declared.error.TableError.{TableError}
use Rattle.pf_tables.proofs.Parts.{filled_from, part_at, part_length}

pub less_or_same : (a b : ℕ) → a < b + 1 → (a < b) ⊎ (a ≡ b)
less_or_same a b h = grind arith

pub some_same : {X : Type 0} {x y : X} → Some x ≡ Some y → x ≡ y
some_same e = cc

pub graph_of_sound : {C : Type 0} {value : C → ℤ} {size : ℕ} (rows : ℕ → List (ℕ × C)) → ((n : ℕ) → n < size → IsSoundRow value size (rows n)) → IsGraph value size (λ n. filled (rows n))
graph_of_sound rows sound = record {
  inside = λ n k e l h. (sound n l k e (filled_from (rows n) k e h)).inside;
  from_zero = λ n k e l h. (sound n l k e (filled_from (rows n) k e h)).from_zero;
}

module _ {C : Type 0} {value : C → ℤ} {size : ℕ} where
  -- one more edge of a part is sound
  pub one_more : (first end number : ℕ) (edges : List (ℕ × C)) (edge : ℕ × C) → first ≤ number → number < end → slice_get edges number ≡ Some edge → IsSound value size edge
      → ((k : ℕ) (x : ℕ × C) → first + k < number → slice_get (part first end edges) k ≡ Some x → IsSound value size x)
      → (k : ℕ) (x : ℕ × C) → first + k < number + 1 → slice_get (part first end edges) k ≡ Some x → IsSound value size x
  one_more first end number edges edge low high stands sound before k x h e = elim (less_or_same (first + k) number (omega arith)) [
    | inl l ↦ before k x l e
    | inr s ↦ let at = part_at first end k edges (omega arith) in subst (IsSound value size) (some_same (sym stands ∙ ap (slice_get edges) (sym s) ∙ sym at ∙ e)) sound
  ]

  -- a part of which all edges but one are passed is done
  pub part_sound : (first end number : ℕ) (edges : List (ℕ × C)) → first ≤ end → end ≤ length edges → end ≤ number
      → ((k : ℕ) (x : ℕ × C) → first + k < number → slice_get (part first end edges) k ≡ Some x → IsSound value size x)
      → IsSoundRow value size (part first end edges)
  part_sound first end number edges rising within over before k x e =
      let inside = slice_get_within (part first end edges) k x e in
      before k x (omega (arith, inside, part_length first end edges rising within)) e

  pub part_fault : (first end number node : ℕ) (edges : List (ℕ × C)) (edge : ℕ × C) (error : TableError) → first ≤ number → number < end → slice_get edges number ≡ Some edge → IsFaultAt value size node (number - first) edge error
      → ((k : ℕ) (x : ℕ × C) → first + k < number → slice_get (part first end edges) k ≡ Some x → IsSound value size x)
      → IsFirstFaultOfRow value size node (part first end edges) error
  part_fault first end number node edges edge error low high stands fault before = record {
    place = number - first;
    edge = edge;
    stands = part_at first end (number - first) edges (omega arith) ∙ ap (slice_get edges) (let e : first + (number - first) ≡ number = omega arith in e) ∙ stands;
    fault = fault;
    before = λ k x l e. before k x (omega (arith, l)) e;
  }
