-- Lemmas on a search by rising cost that ended: what its labels say of the nodes, and the map that is made of them.
use Rattle.std.proofs.Common.{◌≡◌, ℕ, ◌+◌, ◌<◌, Bool, true, false, true≢false, Option, Some, None, List, [], ◌∷◌, ◌++◌, ◌∙◌, length, refl, sym, ap, subst, arith, inl, inr, ℤ, nat_eq, eq-eqb}
use Rattle.std.specs.Prelude.{◌↔◌, ◌≤ℤ◌, ◌+ℤ◌, MatchOption, Contains, slice_get}
use borrow.Author.Tests.{eqb-true}
use Rattle.std.specs.Cmp.{IsEquivalence}
use Rattle.std.specs.List.{AllZip}
use Rattle.std.proofs.lemmas.Int.{ints}
use Rattle.std.proofs.lemmas.Option.{none-some, same_Some}
use Rattle.pf_base.specs.Walks.{HasNode, NoRepeats, Follows, IsWalk, BeginsAt, EndsAt, end_of}
use Rattle.pf_base.specs.Edges.{HasEdge, IsSuccessor, InReach, HasNoNegativeCost}
use Rattle.pf_base.specs.Answers.{ListsEdges}
use Rattle.pf_core.specs.declared.labels.Label.{Label}
use Rattle.pf_core.specs.Labels.{Labels, HasLabel, by_cost, IsTree, AllSettled}
use Rattle.pf_core.specs.Steps.{IsNonNegative, NoGoalBelow}
use Rattle.pf_core.specs.Numbered.{Grows}
use Rattle.pf_core.specs.Nodes.{NodeGraph, StandsFor, IsStep}
use Rattle.pf_core.specs.Search.{SettledAt, WaitingAt, IsLow, IsLeast, IsSearch, StandsRoot}
use Rattle.pf_base.proofs.ListLemmas.{bool_dec, nat_dec, Contains-head, Contains-tail, Contains-cases, Contains-append_one, AllZip-append}
use Rattle.pf_core.proofs.LabelLemmas.{HasLabel-inside, label_is, parent_labelled}
use Rattle.pf_core.proofs.FrontierLemmas.{frontier, walk_positive}
use Rattle.pf_core.proofs.PathLemmas.{path_up}
use Rattle.pf_core.proofs.SearchLemmas.{goal_above, found_at, rooted}
use Rattle.pf_core.proofs.NodeLemmas.{eq-sym, StandsFor-same, HasEdge-same, InReach-same, InReach-start}
use Rattle.pf_core.proofs.WalkLemmas.{no_negative, goes_of_walk, none_less, best_answer, all_starts, only_starts}
use Rattle.pf_search.specs.Parents.{HasEntry, IsParent, IsChainOfParents, MeetsNoneTwice, asked_nodes, IsLeastCost, CostsNoMore, RisesInCost, CostsNoMoreThanStop, IsStepFrom, IsPartialMap}
use Rattle.pf_core.specs.Searched.{Rises, BeginsWith, IsOrder}
use Rattle.pf_search.specs.Internal.Partial.{MapsLabels}
use Rattle.pf_search.proofs.CheapestLemmas.{same_node}
use Rattle.pf_search.proofs.LeastLemmas.{one_cost}
use Rattle.pf_core.proofs.SearchedLemmas.{Contains-more, Rises-more, settled_low}

-- what a number stands for is in reach, where its node is
pub reached_at : {N : Type 0} (eq : N → N → Bool) (laws : IsEquivalence eq) (edges : N → List (N × ℤ)) (start : N) (keys : List N) → ((k : ℕ) (x : N) → slice_get keys k ≡ Some x → InReach eq edges (start ∷ []) x)
    → (k : ℕ) (x : N) → StandsFor eq keys k x → InReach eq edges (start ∷ []) x
reached_at eq laws edges start keys reached k x h = InReach-same eq laws edges (start ∷ []) h.0 x (reached k h.0 h.1) h.2

-- the map that is made of nodes and labels which are these
pub maps_read : {N C : Type 0} (eq : N → N → Bool) (read keys : List N) (now labels : Labels C) (entry : N → Option (N × C)) → read ≡ keys → now ≡ labels → MapsLabels eq read now (length now) entry → MapsLabels eq keys labels (length labels) entry
maps_read eq read keys now labels entry e f m = subst (λ (ls : Labels _). MapsLabels eq keys ls (length ls) entry) f (subst (λ (ks : List _). MapsLabels eq ks now (length now) entry) e m)

-- number 0 stands for the start still, where nodes were added
pub begins_on : {N : Type 0} (eq : N → N → Bool) (start : N) (keys keys' : List N) → length keys ≡ 1 → Grows (length keys) (length keys') (StandsFor eq keys) (StandsFor eq keys') → ((x : N) → StandsFor eq keys 0 x ↔ (eq start x ≡ true))
    → (x : N) → StandsFor eq keys' 0 x ↔ (eq start x ≡ true)
begins_on eq start keys keys' single grows begins x = ((λ q. (begins x).0 (grows.back 0 x (omega (arith, single)) q)), (λ q. grows.stays 0 x ((begins x).1 q)))

module _ {N : Type 0} (eq : N → N → Bool) (laws : IsEquivalence eq) {C : Type 0} (value : C → ℤ) (edges : N → List (N × ℤ)) (start : N)
    (alike : (x y : N) → InReach eq edges (start ∷ []) x → eq x y ≡ true → ListsEdges eq (λ z. z) (edges x) (edges y)) (negative : HasNoNegativeCost eq edges (start ∷ []))
    (keys : List N) (one : (i j : ℕ) (x : N) → StandsFor eq keys i x → StandsFor eq keys j x → i ≡ j) (reached : (k : ℕ) (x : N) → StandsFor eq keys k x → InReach eq edges (start ∷ []) x)
    (begins : (x : N) → StandsFor eq keys 0 x ↔ (eq start x ≡ true)) (labels : Labels C) (tree : IsTree labels)
    (i : IsSearch (by_cost value) (IsStep eq (record { starts = start ∷ []; edges = edges })) (λ k. nat_eq k 0) (StandsFor eq keys) labels) where
  abbrev graph : NodeGraph N
  graph = record { starts = start ∷ []; edges = edges }

  abbrev step : N → ℤ → N → Type 0
  step = IsStep eq graph

  abbrev stands : ℕ → N → Type 0
  stands = StandsFor eq keys

  abbrev root : ℕ → Bool
  root k = nat_eq k 0

  abbrev Starts : N → Type 0
  Starts = StandsRoot root stands

  begins_at : (x : N) → Starts x ↔ (eq start x ≡ true)
  begins_at x = (
    λ h. (begins x).0 (subst (λ (k : ℕ). StandsFor eq keys k x) (eqb-true h.0 0 h.1) h.2),
    λ e. (0, eq-eqb 0 0 refl, (begins x).1 e),
  )

  all : (a : N) → HasNode eq (start ∷ []) a → Starts a
  all = all_starts eq start Starts begins_at

  only : (a : N) → Starts a → HasNode eq (start ∷ []) a
  only = only_starts eq start Starts begins_at

  costs : IsNonNegative step
  costs = no_negative eq laws graph alike negative

  -- ---- the costs of nodes

  module _ (k : ℕ) (l : Label C) (at : HasLabel labels k l) (low : IsLow (by_cost value) labels (value l.cost)) (x : N) (here : stands k x) where
    -- no walk to the node undercuts a label that no open one does
    not_below : NoGoalBelow step (λ y. eq y x) Starts (value l.cost)
    not_below s is w t walk good =
        let b = i.start is.0 is.1 in
        elim (frontier step stands (SettledAt (by_cost value) labels) (WaitingAt (by_cost value) labels) i.cut w is.0 (value b.0.cost) s t (found_at (by_cost value) step root stands labels is.0 b.0 b.1) is.2 walk) as (λ _. value l.cost ≤ℤ t) [
          | inl r ↦
              let q = r.is_settled in
              let same : r.number ≡ k = one r.number k x (StandsFor-same eq laws keys r.number (end_of s w) x r.here good) here in
              let e : q.0 ≡ l = label_is labels k q.0 l (subst (λ (n : ℕ). HasLabel labels n q.0) same q.1) at in
              let c : value q.0.cost ≡ value l.cost = ap (λ (m : Label C). value m.cost) e in
              omega (arith, ints, c, q.3, r.low, b.2)
          | inr r ↦ let q = r.is_waiting in omega (arith, ints, low r.number q.0 q.1 q.2, q.3, r.low, b.2, r.sums, walk_positive step costs r.after (end_of s r.before) r.rest r.goes_on)
        ]

    -- so it costs what the label says
    pub least_cost : IsLeastCost eq edges start x (value l.cost)
    least_cost =
        let up = path_up labels tree (by_cost value) step Starts stands (rooted (by_cost value) step root costs stands labels i) i.linked k l at in
        let p = up.1 in (
          p.first ∷ p.nodes,
          best_answer eq laws graph alike Starts all only (λ y. eq y x) (λ a c r e. laws.congr a c x e) keys one up.0 (p.first ∷ p.nodes) (value l.cost)
              (record { first = p.first; is_start = p.is_start; nodes = p.nodes; path = p.path; good = same_node eq laws keys k (end_of p.first p.nodes) x p.here here; best = not_below })
              p.path.numbered,
        )

    pub cost_is : (t : ℤ) → IsLeastCost eq edges start x t → t ≡ value l.cost
    cost_is t h = one_cost eq laws edges (start ∷ []) x x (laws.refl x) h.0 least_cost.0 t (value l.cost) h.1 least_cost.1

  -- a settled label is one that no open one undercuts
  low_of : (k : ℕ) (l : Label C) → HasLabel labels k l → l.settled ≡ true → IsLow (by_cost value) labels (value l.cost)
  low_of k l at s j m h o = i.low k j l m at s h o

  -- each label stands for a node
  node_at : (k : ℕ) (l : Label C) → HasLabel labels k l → (x : N) × stands k x
  node_at k l at = let p = (path_up labels tree (by_cost value) step Starts stands (rooted (by_cost value) step root costs stands labels i) i.linked k l at).1 in (end_of p.first p.nodes, p.here)

  -- the step from a settled number has an end whose label is no dearer
  end_label : (k : ℕ) (l : Label C) (x : N) → HasLabel labels k l → l.settled ≡ true → stands k x → (z : ℤ) (y : N) → HasEdge eq (edges x) y z → (j : ℕ) × (m : Label C) × HasLabel labels j m × stands j y × (value m.cost ≤ℤ (value l.cost +ℤ z))
  end_label k l x at s here z y h =
      let r = i.cut.along k (value l.cost) x (l, at, s, refl) here z y (reached k x here, h) in
      elim r.2 as (λ _. (j : ℕ) × (m : Label C) × HasLabel labels j m × stands j y × (value m.cost ≤ℤ (value l.cost +ℤ z))) [
        | inl f ↦ (r.0, f.0, f.1, r.3, omega (arith, ints, f.3, r.4))
        | inr f ↦ (r.0, f.0, f.1, r.3, omega (arith, ints, f.3, r.4))
      ]

  -- no label but that of number 0 has depth 0
  is_deep : (k : ℕ) (l : Label C) → HasLabel labels k l → 0 < k → 0 < l.depth
  is_deep k l at p = elim (nat_dec l.depth 0) as (λ _. 0 < l.depth) [
    | inl flat ↦ let z : k ≡ 0 = eqb-true k 0 (i.rooted k l at flat).0 in absurd (omega (arith, z, p))
    | inr deep ↦ omega (arith, deep)
  ]

  pub parent_inside : (k : ℕ) (l : Label C) → HasLabel labels k l → 0 < k → l.parent < length labels
  parent_inside k l at p = let m = parent_labelled labels tree k l at (is_deep k l at p) in HasLabel-inside labels l.parent m.0 m.1

  -- ---- the map of the labels

  module _ (entry : N → Option (N × C)) (maps : MapsLabels eq keys labels (length labels) entry) where
    -- an entry, with the labels that it is made of
    record EntryAt (x parent : N) (cost : C) : Type 0 where
      number : ℕ
      label : Label C
      positive : 0 < number
      here : stands number x
      at : HasLabel labels number label
      is : label.cost ≡ cost
      above : Label C
      at_above : HasLabel labels label.parent above
      done : above.settled ≡ true
      deeper : label.depth ≡ above.depth + 1
      behind : stands label.parent parent
      price : ℤ
      edge : HasEdge eq (edges parent) x price
      sum : value label.cost ≡ value above.cost +ℤ price

    entry_at : (x parent : N) (cost : C) → entry x ≡ Some (parent, cost) → EntryAt x parent cost
    entry_at x parent cost e =
        let h = maps.from x parent cost e in
        let deep : 0 < h.label.depth = is_deep h.number h.label h.at h.inside.0 in
        let m = parent_labelled labels tree h.number h.label h.at deep in
        let q = i.linked h.number h.label m.0 h.at deep m.1 parent h.behind in
        record {
          number = h.number;
          label = h.label;
          positive = h.inside.0;
          here = h.here;
          at = h.at;
          is = h.is;
          above = m.0;
          at_above = m.1;
          done = m.2;
          deeper = m.3;
          behind = h.behind;
          price = q.1;
          edge = HasEdge-same eq laws (edges parent) q.0 x q.1 (same_node eq laws keys h.number q.0 x q.3 h.here) q.2.1;
          sum = q.4;
        }

    entry_of : (k : ℕ) (l : Label C) (x : N) → 0 < k → HasLabel labels k l → stands k x → HasEntry eq entry x
    entry_of k l x p at here = maps.to k l x (p, HasLabel-inside labels k l at) here at

    -- the step of an entry is that of a cheapest parallel edge
    step_from : (x parent : N) (cost : C) → EntryAt x parent cost → IsStepFrom eq edges start parent x (value cost)
    step_from x parent cost h = record {
      cost = value h.above.cost;
      least = least_cost h.label.parent h.above h.at_above (low_of h.label.parent h.above h.at_above h.done) parent h.behind;
      price = h.price;
      step = record { edge = h.edge; cheapest = λ v e. cheapest v e };
      sum = sym (ap value h.is) ∙ h.sum;
    }
      where
        cheapest : (v : ℤ) → HasEdge eq (edges parent) x v → h.price ≤ℤ v
        cheapest v e =
            let r = end_label h.label.parent h.above parent h.at_above h.done h.behind v x e in
            let same = label_is labels h.number r.1 h.label (subst (λ (n : ℕ). HasLabel labels n r.1) (one r.0 h.number x r.3 h.here) r.2) h.at in
            let c : value r.1.cost ≡ value h.label.cost = ap (λ (m : Label C). value m.cost) same in
            omega (arith, ints, c, r.4, h.sum)

    -- ---- parents that are followed

    abbrev HasDepth : N → ℕ → Type 0
    HasDepth x d = (k : ℕ) × (l : Label C) × stands k x × HasLabel labels k l × (l.depth ≡ d)

    one_depth : (x y : N) (d e : ℕ) → eq x y ≡ true → HasDepth x d → HasDepth y e → d ≡ e
    one_depth x y d e same a b =
        let n : a.0 ≡ b.0 = one a.0 b.0 y (StandsFor-same eq laws keys a.0 x y a.2 same) b.2 in
        let l = label_is labels b.0 a.1 b.1 (subst (λ (k : ℕ). HasLabel labels k a.1) n a.3) b.3 in
        sym a.4 ∙ ap (λ (m : Label C). m.depth) l ∙ b.4

    -- a parent is less deep
    climb : (a b : N) → IsParent eq entry a b → (d : ℕ) × HasDepth a d × HasDepth b (d + 1)
    climb a b p =
        let h = entry_at b p.0 p.1 p.2 in
        (h.above.depth, (h.label.parent, h.above, StandsFor-same eq laws keys h.label.parent p.0 a h.behind p.3, h.at_above, refl), (h.number, h.label, h.here, h.at, h.deeper))

    deeper_behind : (w : List N) (a y : N) (d e : ℕ) → Follows (IsParent eq entry) a w → HasNode eq w y → HasDepth a d → HasDepth y e → d < e
    deeper_behind [] a y d e f h p q = absurd h
    deeper_behind (b ∷ w) a y d e f (inl s) p q =
        let r = climb a b f.0 in
        omega (arith, one_depth a a d r.0 (laws.refl a) p r.1, one_depth b y (r.0 + 1) e s r.2 q)
    deeper_behind (b ∷ w) a y d e f (inr h) p q =
        let r = climb a b f.0 in
        omega (arith, one_depth a a d r.0 (laws.refl a) p r.1, deeper_behind w b y (r.0 + 1) e f.1 h r.2 q)

    no_repeats : (w : List N) (a : N) → Follows (IsParent eq entry) a w → NoRepeats eq (a ∷ w)
    no_repeats [] a f = ((λ h. h), tt)
    no_repeats (b ∷ w) a f = ((λ h. let r = climb a b f.0 in omega (arith, deeper_behind (b ∷ w) a a r.0 r.0 f h r.1 r.1)), no_repeats w b f.1)

    pub no_ring : (x : N) → MeetsNoneTwice eq entry x
    no_ring x [] f e = absurd f
    no_ring x (a ∷ w) f e = no_repeats w a f

    -- a node with a label and without an entry is the start
    start_of : (k : ℕ) (l : Label C) (a : N) → HasLabel labels k l → stands k a → entry a ≡ None → HasNode eq (start ∷ []) a
    start_of k l a at here none = elim (nat_dec k 0) as (λ _. HasNode eq (start ∷ []) a) [
      | inl z ↦ inl ((begins a).0 (subst (λ (n : ℕ). StandsFor eq keys n a) z here))
      | inr p ↦ absurd (none-some _ (sym none ∙ (entry_of k l a (omega (arith, p)) at here).2))
    ]

    pub to_start : (x : N) (path : List N) → HasEntry eq entry x → IsChainOfParents eq entry x path → BeginsAt eq (start ∷ []) path
    to_start x [] h c = absurd c.linked
    to_start x (a ∷ []) h c =
        let r = entry_at x h.0 h.1 h.2 in
        start_of r.number r.label a r.at (StandsFor-same eq laws keys r.number x a r.here (eq-sym eq laws a x c.ends)) c.begins
    to_start x (a ∷ b ∷ w) h c =
        let p = c.linked.0 in
        let r = entry_at b p.0 p.1 p.2 in
        start_of r.label.parent r.above a r.at_above (StandsFor-same eq laws keys r.label.parent p.0 a r.behind p.3) c.begins

  -- ---- the nodes that were asked

  -- the label of the number costs that, and no open label costs less
  abbrev Asked : ℕ × ℤ → Type 0
  Asked e = (l : Label C) × HasLabel labels e.0 l × IsLow (by_cost value) labels (value l.cost) × (value l.cost ≡ e.1)

  -- the numbers stand for the nodes
  abbrev Stand : List (ℕ × ℤ) → List N → Type 0
  Stand = AllZip (λ (e : ℕ × ℤ) (x : N). StandsFor eq keys e.0 x)

  asked_is : (e : ℕ × ℤ) → Asked e → (x : N) → stands e.0 x → (t : ℤ) → IsLeastCost eq edges start x t → t ≡ e.1
  asked_is e a x here t h = cost_is e.0 a.0 a.1 a.2 x here t h ∙ a.3

  nodes_of : (es : List (ℕ × ℤ)) → ((e : ℕ × ℤ) → Contains es e → Asked e) → (ns : List N) × Stand es ns
  nodes_of [] a = ([], tt)
  nodes_of (e ∷ es) a =
      let q = a e (Contains-head es e) in
      let x = node_at e.0 q.0 q.1 in
      let r = nodes_of es (λ f h. a f (Contains-tail es e f h)) in
      (x.0 ∷ r.0, (x.1, r.1))

  number_of : (es : List (ℕ × ℤ)) (ns : List N) → Stand es ns → (x : N) → HasNode eq ns x → (e : ℕ × ℤ) × Contains es e × stands e.0 x
  number_of [] [] z x h = absurd h
  number_of [] (n ∷ ns) z x h = absurd z
  number_of (e ∷ es) [] z x h = absurd h
  number_of (e ∷ es) (n ∷ ns) z x (inl q) = (e, Contains-head es e, StandsFor-same eq laws keys e.0 n x z.0 q)
  number_of (e ∷ es) (n ∷ ns) z x (inr h) = let r = number_of es ns z.1 x h in (r.0, Contains-tail es e r.0 r.1, r.2)

  node_of : (es : List (ℕ × ℤ)) (ns : List N) → Stand es ns → (e : ℕ × ℤ) → Contains es e → (x : N) → stands e.0 x → HasNode eq ns x
  node_of [] [] z e h x here = absurd (omega (arith, h.1))
  node_of [] (n ∷ ns) z e h x here = absurd z
  node_of (f ∷ es) [] z e h x here = absurd z
  node_of (f ∷ es) (n ∷ ns) z e h x here = elim (Contains-cases es f e h) as (λ _. HasNode eq (n ∷ ns) x) [
    | inl q ↦ inl (same_node eq laws keys f.0 n x z.0 (subst (λ (g : ℕ × ℤ). StandsFor eq keys g.0 x) (sym q) here))
    | inr t ↦ inr (node_of es ns z.1 e t x here)
  ]

  rises : (es : List (ℕ × ℤ)) (ns : List N) → Stand es ns → ((e : ℕ × ℤ) → Contains es e → Asked e) → Rises es → RisesInCost eq edges start ns
  rises [] [] z a r = tt
  rises [] (n ∷ ns) z a r = absurd z
  rises (e ∷ es) [] z a r = absurd z
  rises (e ∷ es) (n ∷ ns) z a r = (
    (λ y h s t p q.
        let m = number_of es ns z.1 y h in
        omega (arith, ints, r.0 m.0 m.1, asked_is e (a e (Contains-head es e)) n z.0 s p, asked_is m.0 (a m.0 (Contains-tail es e m.0 m.1)) y m.2 t q)),
    rises es ns z.1 (λ f h. a f (Contains-tail es e f h)) r.1,
  )

  abbrev BeginsWithRoot : List (ℕ × ℤ) → Type 0
  BeginsWithRoot [] = ⊥
  BeginsWithRoot (e ∷ es) = e.0 ≡ 0

  begins_of : (es : List (ℕ × ℤ)) (ns : List N) → Stand es ns → BeginsWithRoot es → BeginsAt eq (start ∷ []) ns
  begins_of [] ns z b = absurd b
  begins_of (e ∷ es) [] z b = absurd z
  begins_of (e ∷ es) (n ∷ ns) z b = inl ((begins n).0 (subst (λ (k : ℕ). StandsFor eq keys k n) b z.0))

  module _ (entry : N → Option (N × C)) (maps : MapsLabels eq keys labels (length labels) entry) (test : N → Bool) (passed : (k : ℕ) (l : Label C) (x : N) → HasLabel labels k l → l.settled ≡ true → stands k x → test x ≡ false)
      (order : List (ℕ × ℤ)) (o : IsOrder value labels order) where
    settled_asked : (e : ℕ × ℤ) → Contains order e → Asked e
    settled_asked e h = let s = o.only e.0 e.1 h in (s.0, s.1, low_of e.0 s.0 s.1 s.2, s.3)

    -- the nodes that were settled
    pub settled_nodes : (ns : List N) × Stand order ns
    settled_nodes = nodes_of order settled_asked

    abbrev before : List N
    before = settled_nodes.0

    is_before : (k : ℕ) (l : Label C) (x : N) → HasLabel labels k l → l.settled ≡ true → stands k x → HasNode eq before x
    is_before k l x at s here = node_of order before settled_nodes.1 (k, value l.cost) (o.all k (value l.cost) (l, at, s, refl)) x here

    -- a node before the stopping one, with its label
    record BeforeAt (x : N) : Type 0 where
      number : ℕ
      label : Label C
      here : stands number x
      at : HasLabel labels number label
      done : label.settled ≡ true

    before_at : (x : N) → HasNode eq before x → BeforeAt x
    before_at x h =
        let m = number_of order before settled_nodes.1 x h in
        let s = o.only m.0.0 m.0.1 m.1 in
        record { number = m.0.0; label = s.0; here = m.2; at = s.1; done = s.2 }

    -- what the map has of the settled nodes
    entry_from : (x parent : N) (cost : C) → entry x ≡ Some (parent, cost) → (eq start x ≡ false) × ((node : N) × HasNode eq before node × IsSuccessor eq edges node x)
    entry_from x parent cost e =
        let h = entry_at entry maps x parent cost e in (
          elim (bool_dec (eq start x)) as (λ _. eq start x ≡ false) [
            | inl t ↦ let z = one h.number 0 x h.here ((begins x).1 t) in absurd (omega (arith, z, h.positive))
            | inr f ↦ f
          ],
          (parent, is_before h.label.parent h.above parent h.at_above h.done h.behind, (h.price, h.edge)),
        )

    entry_to : (x : N) → (eq start x ≡ false) × ((node : N) × HasNode eq before node × IsSuccessor eq edges node x) → HasEntry eq entry x
    entry_to x h =
        let b = before_at h.1.0 h.1.1 in
        let r = end_label b.number b.label h.1.0 b.at b.done b.here h.1.2.0 x h.1.2.1 in
        entry_of entry maps r.0 r.1 x
        (elim (nat_dec r.0 0) as (λ _. 0 < r.0) [
          | inl z ↦ absurd (true≢false (sym ((begins x).0 (subst (λ (k : ℕ). StandsFor eq keys k x) z r.3)) ∙ h.0))
          | inr p ↦ omega (arith, p)
        ])
        r.2 r.3

    -- no step from a settled node undercuts an entry
    no_less : (x parent node : N) (cost : C) (t : ℤ) → entry x ≡ Some (parent, cost) → HasNode eq before node → IsStepFrom eq edges start node x t → value cost ≤ℤ t
    no_less x parent node cost t e h s =
        let q = entry_at entry maps x parent cost e in
        let b = before_at node h in
        let r = end_label b.number b.label node b.at b.done b.here s.price x s.step.edge in
        let same = label_is labels q.number r.1 q.label (subst (λ (n : ℕ). HasLabel labels n r.1) (one r.0 q.number x r.3 q.here) r.2) q.at in
        let c : value r.1.cost ≡ value q.label.cost = ap (λ (m : Label C). value m.cost) same in
        let d = cost_is b.number b.label b.at (low_of b.number b.label b.at b.done) node b.here s.cost s.least in
        omega (arith, ints, c, ap value q.is, r.4, d, s.sum)

    module _ (stop : Option N) (es : List (ℕ × ℤ)) (stand : Stand es (asked_nodes before stop)) (asked : (e : ℕ × ℤ) → Contains es e → Asked e) (rising : Rises es) (has : (e : ℕ × ℤ) → Contains order e → Contains es e) (first : BeginsWithRoot es)
        (stopped : MatchOption stop ((x : N) → InReach eq edges (start ∷ []) x → HasNode eq before x) (λ node. test node ≡ true)) (low : (t : ℤ) → CostsNoMoreThanStop eq edges start stop t → IsLow (by_cost value) labels t) where
      abbrev ns : List N
      ns = asked_nodes before stop

      none_skipped : (x y : N) → HasNode eq ns x → ¬ (HasNode eq ns y) → CostsNoMore eq edges start x y
      none_skipped x y h n s t p q =
          let m = number_of es ns stand x h in
          let a = asked m.0 m.1 in
          let below = none_less eq laws graph alike Starts all only (λ z. eq z y) (value a.0.cost) (goal_above (by_cost value) step root costs stands labels i (λ z. eq z y) (λ k l z at d here. other k l z at d here) (value a.0.cost) a.2) in
          let path = q.1 in
          omega (arith, ints, asked_is m.0 a x m.2 s p, a.3, below q.0 t path.goes.goes path.costs)
        where
          other : (k : ℕ) (l : Label C) (z : N) → HasLabel labels k l → l.settled ≡ true → stands k z → eq z y ≡ false
          other k l z at d here = elim (bool_dec (eq z y)) as (λ _. eq z y ≡ false) [
            | inl e ↦ absurd (n (node_of es ns stand (k, value l.cost) (has (k, value l.cost) (o.all k (value l.cost) (l, at, d, refl))) y (StandsFor-same eq laws keys k z y here e)))
            | inr f ↦ f
          ]

      partial_map : IsPartialMap eq edges start value entry test stop
      partial_map = record {
        before = before;
        in_reach = λ x h. let m = number_of es ns stand x h in reached m.0.0 x m.2;
        first = begins_of es ns stand first;
        rising = rises es ns stand asked rising;
        none_skipped = none_skipped;
        passed = λ x h. let b = before_at x h in passed b.number b.label x b.at b.done b.here;
        stopped = stopped;
        reached = λ x. ((λ h. entry_from x h.0 h.1 h.2), entry_to x);
        behind = λ x parent cost e. let h = entry_at entry maps x parent cost e in (is_before h.label.parent h.above parent h.at_above h.done h.behind, step_from entry maps x parent cost h);
        least = no_less;
        cheapest = λ x parent cost e c.
            let h = entry_at entry maps x parent cost e in
            subst (λ (d : C). IsLeastCost eq edges start x (value d)) h.is (least_cost h.number h.label h.at (subst (λ (d : C). IsLow (by_cost value) labels (value d)) (sym h.is) (low (value cost) c)) x h.here);
        no_ring = no_ring entry maps;
        to_start = to_start entry maps;
      }

    -- where all labels are settled, each node in reach was
    all_before : AllSettled labels → (x : N) → InReach eq edges (start ∷ []) x → HasNode eq before x
    all_before settled x r = by r.walk r.goes.walks r.goes.begins r.goes.ends
      where
        by : (v : List N) → IsWalk (IsSuccessor eq edges) v → BeginsAt eq (start ∷ []) v → EndsAt eq (λ y. eq y x) v → HasNode eq before x
        by [] f b e = absurd f
        by (a ∷ v) f b e =
            let goes = goes_of_walk eq laws graph alike v a (InReach-start eq laws edges (start ∷ []) a a b (laws.refl a)) f in
            let is = all a b in
            let q = i.start is.0 is.1 in
            elim (frontier step stands (SettledAt (by_cost value) labels) (WaitingAt (by_cost value) labels) i.cut v is.0 (value q.0.cost) a goes.0 (inl (q.0, q.1, settled is.0 q.0 q.1, refl)) is.2 goes.1) as (λ _. HasNode eq before x) [
              | inl n ↦ let m = n.is_settled in is_before n.number m.0 x m.1 m.2 (StandsFor-same eq laws keys n.number (end_of a v) x n.here e)
              | inr n ↦ let m = n.is_waiting in absurd (true≢false (sym (settled n.number m.0 m.1) ∙ m.2))
            ]

    begins_whole : (xs : List (ℕ × ℤ)) → BeginsWith 0 xs None → BeginsWithRoot xs
    begins_whole [] b = none-some 0 b
    begins_whole (e ∷ es) b = b

    begins_more : (xs : List (ℕ × ℤ)) (k : ℕ) (c : ℤ) → BeginsWith 0 xs (Some k) → BeginsWithRoot (xs ++ (k, c) ∷ [])
    begins_more [] k c b = same_Some k 0 b
    begins_more (e ∷ es) k c b = b

    -- the search ended with all settled
    pub whole_map : BeginsWith 0 order None → AllSettled labels → IsPartialMap eq edges start value entry test None
    whole_map first settled = partial_map None order settled_nodes.1 settled_asked o.rising (λ e h. h) (begins_whole order first) (all_before settled) (λ t c j m h waits. absurd (true≢false (sym (settled j m h) ∙ waits)))

    -- the search ended at a goal
    pub stopped_map : (k : ℕ) (l : Label C) (node : N) → BeginsWith 0 order (Some k) → IsLeast (by_cost value) labels k l → stands k node → test node ≡ true → IsPartialMap eq edges start value entry test (Some node)
    stopped_map k l node first z here good = partial_map (Some node) (order ++ (k, value l.cost) ∷ []) (AllZip-append (λ (e : ℕ × ℤ) (x : N). StandsFor eq keys e.0 x) order before (k, value l.cost) node settled_nodes.1 here)
        (λ e h. elim (Contains-append_one order (k, value l.cost) e h) as (λ _. Asked e) [ inl c ↦ settled_asked e c | inr q ↦ subst Asked q (l, z.at, z.least, refl) ])
        (Rises-more order (k, value l.cost) o.rising (settled_low value 0 step root stands labels i order o k l z)) (λ e h. Contains-more order (k, value l.cost) e h) (begins_more order k (value l.cost) first) good
        (λ t c j m h waits. omega (arith, ints, cost_is k l z.at z.least node here c.0 c.1, c.2, z.least j m h waits))
