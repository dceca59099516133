use Rattle.std.proofs.Common.{rules, ◌≡◌, ◌<◌, ◌∙◌, sym, subst, arith, ℕ, zero, suc, List, [], ◌∷◌, length, Option, Some, None, false, refl}
use Rattle.std.specs.Prelude.{IfSome, IfNone, MatchOption, Contains, IsPermutation, slice_index_or}
use Rattle.std.specs.BinaryHeap.{IsHeap, IsUpperBound, heap_items, heap_len}
use Rattle.std.specs.List.{AllByRecursion}
use Rattle.std.specs.Ordering.{is_lt}
use Rattle.std.specs.declared.cmp.Ordering.{Ordering}
use Rattle.pf_graph.specs.Internal.Spanning.Frontier.{step_order_total, waiting_order}
use Rattle.pf_graph.proofs.Spanning.OrderLemmas.{at_most}
use Rattle.pf_graph.proofs.undirected.frontier.pop_least.Goals as goal

-- a heap in order stays so, whether it is empty or gives its top
stays_ordered : {X : Type 0} (L : Type 0) (order : X → X → Ordering) (P : X → Type 0) (old new : List X) (r : Option X) → IsHeap order old → IfNone r ((new ≡ old) × L) → IfSome r (λ x. IsHeap order old → IsHeap order new × P x) → IsHeap order new
stays_ordered L order P old new None h unchanged popped = subst (IsHeap order) (sym unchanged.0) h
stays_ordered L order P old new (Some x) h unchanged popped = (popped h).0

-- what holds of each element holds of one that a list has
holds_of : {X : Type 0} (P : X → Type 0) (xs : List X) (x : X) → AllByRecursion P xs → (k : ℕ) → k < length xs → slice_index_or xs k x ≡ x → P x
holds_of P [] x all k h e = absurd (omega (arith, h))
holds_of P (y ∷ ys) x all zero h e = subst P e all.0
holds_of P (y ∷ ys) x all (suc k) h e = holds_of P ys x all.1 k (omega (arith, h)) e

empty : {X : Type 0} (xs : List X) → length xs ≡ 0 → xs ≡ []
empty [] e = refl
empty (x ∷ xs) e = absurd (omega (arith, e))

-- a heap is empty or gives an element that none is below
pops_least : {X : Type 0} (L : Type 0) (order : X → X → Ordering) (AtMost : X → X → Type 0) → ((x y : X) → is_lt (order x y) ≡ false → AtMost x y)
    → (n : ℕ) (old new : List X) (r : Option X) → n ≡ length old → IsHeap order old → IfNone r (n ≡ 0) → IfNone r ((new ≡ old) × L)
    → IfSome r (λ x. IsPermutation old (x ∷ new)) → IfSome r (λ x. IsHeap order old → IsHeap order new × IsUpperBound order x old)
    → MatchOption r ((old ≡ []) × (new ≡ [])) (λ x. IsPermutation old (x ∷ new) × ((t : X) → Contains old t → AtMost x t))
pops_least L order AtMost within n old new None len h none unchanged permutation popped = let e = empty old (sym len ∙ none) in (e, unchanged.0 ∙ e)
pops_least L order AtMost within n old new (Some x) len h none unchanged permutation popped = (permutation, λ t m. within x t (holds_of (λ y. is_lt (order x y) ≡ false) old t (popped h).1 m.0 m.1 m.2))

pub returns : goal.returns
returns g c = record {
  ordered = stays_ordered _ (waiting_order g.N.Ord.cmp g.C.Ord.cmp) _ (heap_items c.args.queue.now) (heap_items c.pop.new.self) c.pop.result c.requires c.pop.ensures.unchanged c.pop.ensures.heap_order;
  least =
      let len : heap_len c.args.queue.now ≡ length (heap_items c.args.queue.now) = search rules in
      pops_least _ (waiting_order g.N.Ord.cmp g.C.Ord.cmp) _ (λ r t. at_most (step_order_total g.met.N.Ord.total g.met.C.Ord.total) r.0 t.0) (heap_len c.args.queue.now) (heap_items c.args.queue.now) (heap_items c.pop.new.self) c.pop.result len c.requires c.pop.ensures.none c.pop.ensures.unchanged c.pop.ensures.permutation c.pop.ensures.heap_order;
  len = c.pop.ensures.len;
}
