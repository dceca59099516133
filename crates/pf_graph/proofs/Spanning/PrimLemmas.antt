-- A tree that is grown over numbers, for the edges that were numbered.
use Rattle.std.proofs.Common.{ℕ, zero, suc, ◌<◌, ◌≡◌, sym, ◌∙◌, ap, subst, Bool, true, false, List, length, replicate, Some, None}
use Rattle.std.specs.Prelude.{map, slice_get}
use Rattle.std.specs.Borrow.{Bor}
use Rattle.std.specs.Option.{option_map}
use Rattle.std.proofs.lemmas.Option.{slice_get-map, slice_get_within}
use Rattle.pf_graph.specs.declared.undirected.weighed.Weighed.{Weighed}
use Rattle.pf_graph.specs.Internal.NumberedEdges.{IsNumbered}
use Rattle.pf_union_find.specs.Nodes.{StandsFor}
use Rattle.pf_graph.specs.GrownTree.{StartsAt}
use Rattle.pf_graph.specs.Internal.Spanning.Frontier.{IsMarked}
use Rattle.pf_union_find.proofs.ListLemmas.{get_contains}
use Rattle.pf_base.proofs.ListLemmas.{none_in}
use Rattle.pf_graph.proofs.Spanning.ChainLemmas.{written_at}

-- where no number is marked
pub no_mark : (n k : ℕ) → ¬ (IsMarked true (replicate n false) k)
no_mark zero k m = none_in k true m
no_mark (suc n) zero m = let e : Some false ≡ Some true = m in cc
no_mark (suc n) (suc k) m = no_mark n k m

module _ {N C W : Type 0} (edges : List (N × N × C)) (numbered : List (ℕ × ℕ × Weighed N C W)) (in_order : map (λ (e : ℕ × ℕ × Weighed N C W). e.2.edge.now) numbered ≡ edges) where
  -- the first of the edges
  pub first_is : (first : ℕ × ℕ × Weighed N C W) → slice_get numbered 0 ≡ Some first → slice_get edges 0 ≡ Some first.2.edge.now
  first_is first at = written_at edges numbered in_order 0 first at

  pub start_is : (first : ℕ × ℕ × Weighed N C W) → slice_get numbered 0 ≡ Some first → (start : N) → StartsAt edges start → first.2.edge.now.0 ≡ start
  start_is first at start s =
      let same : Some first.2.edge.now ≡ Some s.0 = sym (first_is first at) ∙ s.1 in
      let e : first.2.edge.now ≡ s.0 = cc in
      ap (λ (d : N × N × C). d.0) e ∙ s.2

  -- where no edge is numbered there is no start
  pub no_start : slice_get numbered 0 ≡ None → (start : N) → ¬ (StartsAt edges start)
  no_start none start s =
      let e : slice_get edges 0 ≡ None = subst (λ es. slice_get es 0 ≡ None) in_order (slice_get-map (λ (e : ℕ × ℕ × Weighed N C W). e.2.edge.now) numbered 0 ∙ ap (option_map (λ (e : ℕ × ℕ × Weighed N C W). e.2.edge.now)) none) in
      let f : Some s.0 ≡ None = sym s.1 ∙ e in
      cc

  -- the number of the first node of the first edge
  module _ {eq : N → N → Bool} (nodes : List (Bor N)) (h : IsNumbered eq nodes edges numbered) (first : ℕ × ℕ × Weighed N C W) (at : slice_get numbered 0 ≡ Some first) where
    pub first_stands : StandsFor eq nodes first.0 first.2.edge.now.0
    first_stands = (h.from first (get_contains numbered 0 first at)).1

    pub first_inside : first.0 < length nodes
    first_inside = slice_get_within nodes first.0 first_stands.0 first_stands.1
