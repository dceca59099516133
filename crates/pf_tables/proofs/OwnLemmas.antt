-- Tables that are searched by their own numbers.
use Rattle.std.proofs.Common.{◌≡◌, ◌<◌, ◌+◌, ℕ, zero, suc, ℤ, List, [], ◌∷◌, length, Option, Some, None, Bool, true, inl, inr, refl, sym, ◌∙◌, ap, subst, map, nat_eq, arith, eq-eqb}
use Rattle.std.specs.Prelude.{◌↔◌, Contains, slice_get, Result, Ok, Err, IfOk, IfSome, MatchOption}
use Rattle.std.specs.List.{AllZip}
use Rattle.std.proofs.lemmas.Cmp.{nat_eq_equiv}
use Rattle.std.proofs.lemmas.Option.{slice_get_within}
use borrow.Author.Tests.{eqb-true}
use Rattle.pf_base.specs.declared.error.PathError.{PathError}
use Rattle.pf_base.specs.Walks.{HasNoGoalWalk, end_of}
use Rattle.pf_base.specs.Edges.{HasEdge, InReach, IsSuccessor, IsCheapestGoalPath, CostOverflows}
use Rattle.pf_core.specs.Nodes.{NodeGraph, IsStep, StandsFor}
use Rattle.pf_core.specs.Numbered.{ListsSteps, NumbersInOrder}
use Rattle.pf_core.specs.Steps.{GoesAlong, NoGoal, IsBestNumbered, NumberedOverflows}
use Rattle.pf_base.proofs.ListLemmas.{Contains-head, Contains-tail, Contains-cases}
use Rattle.pf_core.proofs.NodeLemmas.{InReach-start, InReach-more}
use Rattle.pf_core.proofs.WalkLemmas.{all_starts, only_starts, no_walk, best_answer, cost_overflows}
use Rattle.pf_tables.specs.Graphs.{IsGraph, edges_at, present}
use Rattle.pf_tables.proofs.GraphLemmas.{edge_inside, nat_alike, edges_within}
use Rattle.pf_tables.specs.Internal.OwnNumbers.{IsOwn}

-- ---- what stands at the places of a node

module _ {C : Type 0} (value : C → ℤ) where
  entry_of_edge : (places : List (Option (ℕ × C))) (y : ℕ) (z : ℤ) → HasEdge nat_eq (edges_at value places) y z → (c : C) × Contains (present places) (y, c) × (value c ≡ z)
  entry_of_edge [] y z h = absurd h
  entry_of_edge (None ∷ places) y z h = entry_of_edge places y z h
  entry_of_edge (Some e ∷ places) y z (inl h) = (e.1, subst (λ (n : ℕ). Contains (e ∷ present places) (n, e.1)) (eqb-true e.0 y h.0) (Contains-head (present places) e), h.1)
  entry_of_edge (Some e ∷ places) y z (inr h) = let q = entry_of_edge places y z h in (q.0, Contains-tail (present places) e (y, q.0) q.1, q.2)

  edge_of_entry : (places : List (Option (ℕ × C))) (j : ℕ) (c : C) → Contains (present places) (j, c) → HasEdge nat_eq (edges_at value places) j (value c)
  edge_of_entry [] j c h = absurd (omega (arith, h.1))
  edge_of_entry (None ∷ places) j c h = edge_of_entry places j c h
  edge_of_entry (Some e ∷ places) j c h = elim (Contains-cases (present places) e (j, c) h) as (λ _. HasEdge nat_eq (edges_at value (Some e ∷ places)) j (value c)) [
    | inl q ↦ subst (λ (p : ℕ × C). HasEdge nat_eq ((e.0, value e.1) ∷ edges_at value places) p.0 (value p.1)) q (inl (nat_eq_equiv.refl e.0, refl))
    | inr k ↦ inr (edge_of_entry places j c k)
  ]

  module _ (size : ℕ) where
    -- each edge leads to a node
    abbrev pub LeadsInside : List (Option (ℕ × C)) → Type 0
    LeadsInside places = (j : ℕ) (c : C) → Contains (present places) (j, c) → j < size

    -- no table has others
    pub leads_inside : (places : ℕ → List (Option (ℕ × C))) → IsGraph value size places → (n : ℕ) → n < size → LeadsInside (places n)
    leads_inside places h n inside j c m = edge_inside value size places h n j (value c) (rw (edges_within value size places n inside) (edge_of_entry (places n) j c m))

    inside_rest : (e : ℕ × C) (places : List (Option (ℕ × C))) → LeadsInside (Some e ∷ places) → LeadsInside places
    inside_rest e places h j c m = h j c (Contains-tail (present places) e (j, c) m)

    pub own_placed : (places : List (Option (ℕ × C))) → LeadsInside places → AllZip (λ (r : ℕ × C) (y : ℕ). IsOwn size r.0 y) (present places) (map (λ (e : ℕ × ℤ). e.0) (edges_at value places))
    own_placed [] h = tt
    own_placed (None ∷ places) h = own_placed places h
    own_placed (Some e ∷ places) h = ((h e.0 e.1 (Contains-head (present places) e), refl), own_placed places (inside_rest e places h))

    pub own_in_order : (places : List (Option (ℕ × C))) → LeadsInside places → NumbersInOrder (IsOwn size) size (map (λ (e : ℕ × ℤ). e.0) (edges_at value places)) size
    own_in_order [] h = refl
    own_in_order (None ∷ places) h = own_in_order places h
    own_in_order (Some e ∷ places) h = let i = h e.0 e.1 (Contains-head (present places) e) in inl (e.0, i, (i, refl), own_in_order places (inside_rest e places h))

    pub own_steps : (edges : ℕ → List (ℕ × ℤ)) (x : ℕ) (places : List (Option (ℕ × C))) → LeadsInside places → edges x ≡ edges_at value places → ListsSteps value (λ a z b. HasEdge nat_eq (edges a) b z) (IsOwn size) x (present places)
    own_steps edges x places h is = record {
      numbered = λ z y s. let q = entry_of_edge places y z (rw is at s) in (y, (h y q.0 q.1, refl));
      complete = λ z y j s own. let q = entry_of_edge places y z (rw is at s) in (q.0, subst (λ (i : ℕ). Contains (present places) (i, q.0)) (sym own.1) q.1, q.2);
      sound = λ j c m. (j, rw is (edge_of_entry places j c m), (h j c m, refl));
    }

-- ---- the numbers below a size stand for themselves

abbrev up_from : ℕ → ℕ → List ℕ
up_from k zero = []
up_from k (suc n) = k ∷ up_from (suc k) n

length_up : (k n : ℕ) → length (up_from k n) ≡ n
length_up k zero = refl
length_up k (suc n) = ap suc (length_up (suc k) n)

at_up : (k n i : ℕ) → i < n → slice_get (up_from k n) i ≡ Some (k + i)
at_up k zero i h = absurd (omega (arith, h))
at_up k (suc n) zero h = ap (λ (m : ℕ). Some m) (omega arith)
at_up k (suc n) (suc i) h = at_up (suc k) n i (omega (arith, h)) ∙ ap (λ (m : ℕ). Some m) (omega arith)

abbrev nodes_below : ℕ → List ℕ
nodes_below size = up_from 0 size

own_stands : (size k x : ℕ) → IsOwn size k x → StandsFor nat_eq (nodes_below size) k x
own_stands size k x h = (k, at_up 0 size k h.0 ∙ ap (λ (m : ℕ). Some m) (omega arith), eq-eqb k x h.1)

stands_own : (size k x : ℕ) → StandsFor nat_eq (nodes_below size) k x → IsOwn size k x
stands_own size k x s =
    let inside : k < size = omega (arith, slice_get_within (nodes_below size) k s.0 s.1, length_up 0 size) in
    let e : Some (0 + k) ≡ Some s.0 = sym (at_up 0 size k inside) ∙ s.1 in
    let f : 0 + k ≡ s.0 = cc in
    (inside, omega (arith, f, eqb-true s.0 x s.2))

one_stands : (size i j x : ℕ) → StandsFor nat_eq (nodes_below size) i x → StandsFor nat_eq (nodes_below size) j x → i ≡ j
one_stands size i j x a b = (stands_own size i x a).1 ∙ sym (stands_own size j x b).1

all_stand : (size : ℕ) (ks xs : List ℕ) → AllZip (IsOwn size) ks xs → AllZip (StandsFor nat_eq (nodes_below size)) ks xs
all_stand size [] [] h = tt
all_stand size [] (x ∷ xs) h = absurd h
all_stand size (k ∷ ks) [] h = absurd h
all_stand size (k ∷ ks) (x ∷ xs) h = (own_stands size k x h.0, all_stand size ks xs h.1)

own_all : (size : ℕ) (ks : List ℕ) → ((k : ℕ) → Contains ks k → k < size) → AllZip (StandsFor nat_eq (nodes_below size)) ks ks
own_all size [] h = tt
own_all size (k ∷ ks) h = (own_stands size k k (h k (Contains-head ks k), refl), own_all size ks (λ j m. h j (Contains-tail ks k j m)))

-- ---- steps from nodes in reach

module _ (edges : ℕ → List (ℕ × ℤ)) (from size : ℕ) (inside : from < size) (test : ℕ → Bool) where
  abbrev OwnStep : ℕ → ℤ → ℕ → Type 0
  OwnStep a z b = HasEdge nat_eq (edges a) b z

  abbrev searched : NodeGraph ℕ
  searched = record { starts = from ∷ []; edges = edges }

  begins : (x : ℕ) → IsOwn size from x ↔ (nat_eq from x ≡ true)
  begins x = ((λ s. eq-eqb from x s.1), (λ e. (inside, eqb-true from x e)))

  starts_in_reach : (x : ℕ) → IsOwn size from x → InReach nat_eq edges (from ∷ []) x
  starts_in_reach x s = InReach-start nat_eq nat_eq_equiv edges (from ∷ []) from x (inl (nat_eq_equiv.refl from)) (eq-eqb from x s.1)

  own_goes : (w : List ℕ) (a : ℕ) (u : ℤ) → GoesAlong (IsStep nat_eq searched) a w u → GoesAlong OwnStep a w u
  own_goes [] a u h = h
  own_goes (b ∷ w) a u h = (h.0, h.1, h.2.1, own_goes w b h.1 h.3, h.4)

  goes_in_reach : (w : List ℕ) (a : ℕ) (u : ℤ) → InReach nat_eq edges (from ∷ []) a → GoesAlong OwnStep a w u → GoesAlong (IsStep nat_eq searched) a w u
  goes_in_reach [] a u r h = h
  goes_in_reach (b ∷ w) a u r h = (h.0, h.1, (r, h.2), goes_in_reach w b h.1 (InReach-more nat_eq nat_eq_equiv edges (from ∷ []) (nat_alike edges (from ∷ [])) a b h.0 r h.2) h.3, h.4)

  end_in_reach : (w : List ℕ) (a : ℕ) (u : ℤ) → InReach nat_eq edges (from ∷ []) a → GoesAlong OwnStep a w u → InReach nat_eq edges (from ∷ []) (end_of a w)
  end_in_reach [] a u r h = r
  end_in_reach (b ∷ w) a u r h = end_in_reach w b h.1 (InReach-more nat_eq nat_eq_equiv edges (from ∷ []) (nat_alike edges (from ∷ [])) a b h.0 r h.2) h.3

  own_no_walk : NoGoal OwnStep test (IsOwn size from) → HasNoGoalWalk nat_eq (IsSuccessor nat_eq edges) (from ∷ []) test
  own_no_walk none = no_walk nat_eq nat_eq_equiv searched (nat_alike edges (from ∷ [])) _ (all_starts nat_eq from _ begins) (only_starts nat_eq from _ begins) test (λ s b w u h. none s b w u (own_goes w s u h))

  -- the search answers for the numbers that it has in the end
  module _ (found : ℕ) where
    own_cheapest : (ks : List ℕ) (t : ℤ) → ((k : ℕ) → Contains ks k → k < found) → IsBestNumbered OwnStep test (IsOwn size from) (IsOwn found) ks t → IsCheapestGoalPath nat_eq edges (from ∷ []) test ks t
    own_cheapest ks t within b =
        let r = starts_in_reach b.first b.is_start in
        best_answer nat_eq nat_eq_equiv searched (nat_alike edges (from ∷ [])) _ (all_starts nat_eq from _ begins) (only_starts nat_eq from _ begins) test (λ a z i e. ap test (eqb-true a z e)) (nodes_below found) (one_stands found) ks ks t (record {
          first = b.first;
          is_start = b.is_start;
          nodes = b.nodes;
          path = record { numbered = all_stand found ks (b.first ∷ b.nodes) b.path.numbered; goes = goes_in_reach b.nodes b.first t r b.path.goes; distinct = b.path.distinct };
          good = b.good;
          best = λ s i w u h e. b.best s i w u (own_goes w s u h) e;
        }) (own_all found ks within)

    pub own_answer : {V C : Type 0} (items : V → List ℕ) (worth : C → ℤ) (r : Result (Option (V × C)) PathError)
        → IfOk r (λ answer. IfSome answer (λ a. (k : ℕ) → Contains (items a.0) k → k < found))
        → IfOk r (λ answer. MatchOption answer (NoGoal OwnStep test (IsOwn size from)) (λ a. IsBestNumbered OwnStep test (IsOwn size from) (IsOwn found) (items a.0) (worth a.1)))
        → IfOk r (λ answer. MatchOption answer (HasNoGoalWalk nat_eq (IsSuccessor nat_eq edges) (from ∷ []) test) (λ a. IsCheapestGoalPath nat_eq edges (from ∷ []) test (items a.0) (worth a.1)))
    own_answer items worth (Ok None) within best = own_no_walk best
    own_answer items worth (Ok (Some a)) within best = own_cheapest (items a.0) (worth a.1) within best
    own_answer items worth (Err e) within best = tt

    pub own_cost_overflows : (fits : ℤ → Type 0) → NumberedOverflows OwnStep test (IsOwn size from) (IsOwn found) fits → CostOverflows nat_eq edges (from ∷ []) test fits
    own_cost_overflows fits d =
        let r = starts_in_reach d.first d.is_start in
        let last = end_in_reach d.nodes d.first d.cost r d.path.goes in
        cost_overflows nat_eq nat_eq_equiv searched (nat_alike edges (from ∷ [])) _ (all_starts nat_eq from _ begins) (only_starts nat_eq from _ begins) test fits (nodes_below found) (one_stands found) (record {
          first = d.first;
          is_start = d.is_start;
          numbers = d.numbers;
          nodes = d.nodes;
          cost = d.cost;
          path = record { numbered = all_stand found d.numbers (d.first ∷ d.nodes) d.path.numbered; goes = goes_in_reach d.nodes d.first d.cost r d.path.goes; distinct = d.path.distinct };
          number = d.number;
          here = own_stands found d.number (end_of d.first d.nodes) d.here;
          cheapest = λ s i w u h e. d.cheapest s i w u (own_goes w s u h) (stands_own found d.number (end_of s w) e);
          next = d.next;
          price = d.price;
          edge = (last, d.edge);
          all_past = λ z h. d.all_past z h.1;
          none_cheaper = λ s i w u h e. d.none_cheaper s i w u (own_goes w s u h) e;
        })
