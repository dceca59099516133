-- The graphs of tables, with one lemma for each kind: a closure that reads a row of the table answers the graph of the table.
use Rattle.std.proofs.Common.{◌≡◌, ◌∙◌, ℕ, ℤ, ◌+◌, ◌-◌, ◌<◌, ◌≤◌, refl, sym, arith, inl, inr, ap, subst, Bool, true, false, Option, List, [], ◌∷◌, take, drop, length, nat_eq}
use Rattle.std.specs.Prelude.{All, slice_index, ⊤, ◌&&◌}
use Rattle.std.specs.Borrow.{Bor}
use Rattle.std.specs.Fn.{Mut, Called}
use Rattle.std.specs.Array.Iter.{array_into_iter_items, array_steps}
use Rattle.std.specs.Iterator.{Count, IsFinite, at_most, CallableOnAll}
use Rattle.std.specs.Iterator.Adapters.{copied_source, copied_steps, filter_map_source, filter_map_callee, filter_map_steps}
use Rattle.std.specs.List.{AllByRecursion, filter_map}
use Rattle.std.specs.List.Sorted.{IsNonDecreasing}
use Rattle.std.specs.Slice.Iter.{iter_rest, iter_steps}
use Rattle.std.specs.declared.array.IntoIter.{IntoIter}
use Rattle.std.specs.declared.iter.Copied.{Copied}
use Rattle.std.specs.declared.iter.FilterMap.{FilterMap}
use Rattle.std.specs.declared.slice.Iter.{Iter}
use Rattle.std.proofs.lemmas.Iterator.{YieldsList-from_slice}
use Rattle.std.proofs.lemmas.Iterator.Adapters.{serves_from_places}
use Rattle.std.proofs.lemmas.Iterator.Consumers.{YieldsList-from_copied, YieldsList-from_filter_map}
use Rattle.std.proofs.lemmas.List.Elements.{recursion_from_All, All-take, All-drop}
use borrow.Author.Tests.{eqb-true}
use Rattle.pf_base.specs.Answers.{AnswersGraph, AnswersSuccessors, Gives, ListsEdges, SameNodes}
use Rattle.pf_base.specs.Edges.{InReach}
use Rattle.pf_base.specs.Successors.{HasSuccessor}
use Rattle.pf_base.specs.Walks.{HasNode, Follows, IsWalk, BeginsAt, EndsAt, IsReachable, end_of}
use Rattle.pf_base.proofs.Callers.{graph_of, ListsEdges-valued, ListsEdges-refl, nat_graph, nat_refl, nat_same, SameNodes-refl, successors_of, valued}
use Rattle.pf_base.proofs.Reach.{nat_reach_keeps, row_at, row_all}
use Rattle.pf_base.proofs.Sources.{gives_chain, YieldsList-from_array}

-- ---- nodes that are numbers, without costs

module _ {F I S : Type 0} {calls : Mut F (Bor ℕ × Unit {0}) I} {becomes : I → S → Type 0} {can : S → Type 0} {left : S → Count} {steps : S → Option ℕ → S → Type 0} {within : ℕ → Type 0} where
  pub nat_successors : (listed : ℕ → List ℕ) {f : F}
      → ((x : Bor ℕ) → within x.now → calls.pre f (x, tt))
      → ((x : Bor ℕ) (r : I) (t : F) → within x.now → Called calls f (x, tt) r t → (t ≡ f) × Gives becomes can left steps (λ xs. xs ≡ listed x.now) r)
      → AnswersSuccessors calls becomes can left steps nat_eq f within listed
  nat_successors listed = successors_of listed listed (λ x w. SameNodes-refl nat_eq nat_refl (listed x)) (λ x y w e. subst (λ xs. SameNodes nat_eq (listed x) xs) (nat_same listed x y e) (SameNodes-refl nat_eq nat_refl (listed x)))

-- ---- copies of the items of a slice

abbrev pub copies_left : {A : Type 0} → Copied (Iter A) → Count
copies_left s = at_most (length (iter_rest (copied_source s)))

abbrev pub CopiesGive : {A : Type 0} → (List A → Type 0) → Copied (Iter A) → Type 0
CopiesGive = Gives (λ s t. t ≡ s) (λ s. ⊤) copies_left (copied_steps iter_steps)

pub gives_copied : {A : Type 0} {r : Copied (Iter A)} (xs : List A) → iter_rest (copied_source r) ≡ xs → CopiesGive (λ ys. ys ≡ xs) r
gives_copied xs e = gives_chain (λ it b. (tt, tt, YieldsList-from_copied (YieldsList-from_slice xs (ap (λ s. iter_rest (copied_source s)) b ∙ e))))

-- ---- a table of rows: the closure copies the row at n

module _ {F X C : Type 0} {calls : Mut F (Bor ℕ × Unit {0}) (Copied (Iter (ℕ × C)))} (value : C → ℤ) (items : X → List (ℕ × C)) (rows : List X) (start : ℕ) where
  pub rows_graph : {f : F} → start < length rows → All (λ row. All (λ (e : ℕ × C). e.0 < length rows) (items row)) rows
      → ((x : Bor ℕ) → x.now < length rows → calls.pre f (x, tt))
      → ((x : Bor ℕ) (r : Copied (Iter (ℕ × C))) (t : F) → x.now < length rows → Called calls f (x, tt) r t → (t ≡ f) × (iter_rest (copied_source r) ≡ row_at items rows x.now))
      → AnswersGraph calls (λ s t. t ≡ s) (λ s. ⊤) copies_left (copied_steps iter_steps) nat_eq value f (InReach nat_eq (λ n. valued value (row_at items rows n)) (start ∷ [])) (λ n. valued value (row_at items rows n))
  rows_graph {f} inside in_range takes gives =
      let below = nat_reach_keeps value (row_at items rows) (λ n. n < length rows) start inside (λ n p. row_all (λ (e : ℕ × C). e.0 < length rows) items rows in_range n) in
      nat_graph (row_at items rows) (λ x w. takes x (below x.now w)) (λ x r t w k. let h = gives x r t (below x.now w) k in (h.0, gives_copied (row_at items rows x.now) h.1))

-- ---- a graph in compact form: the closure copies what stands between the offsets of n

abbrev pub between : {E : Type 0} → List ℕ → List E → ℕ → List E
between offsets targets n = take (slice_index offsets (n + 1) - slice_index offsets n) (drop (slice_index offsets n) targets)

-- what the offsets of a node need, and what a call may rest on
pub record HasRow {E : Type 0} (offsets : List ℕ) (targets : List E) (n : ℕ) : Type 0 where
  pub node : n + 1 < length offsets
  pub rising : slice_index offsets n ≤ slice_index offsets (n + 1)
  pub within : slice_index offsets (n + 1) ≤ length targets

between_all : {E : Type 0} (P : E → Type 0) (offsets : List ℕ) (targets : List E) → All P targets → (n : ℕ) → AllByRecursion P (between offsets targets n)
between_all P offsets targets h n = recursion_from_All P (between offsets targets n) (All-take P _ (drop (slice_index offsets n) targets) (All-drop P (slice_index offsets n) targets h))

module _ {F C : Type 0} {calls : Mut F (Bor ℕ × Unit {0}) (Copied (Iter (ℕ × C)))} (value : C → ℤ) (offsets : List ℕ) (targets : List (ℕ × C)) (start : ℕ) where
  pub compact_graph : {f : F} → start + 1 < length offsets → All (λ (e : ℕ × C). e.0 + 1 < length offsets) targets
      → IsNonDecreasing offsets → All (λ o. o ≤ length targets) offsets
      → ((x : Bor ℕ) → HasRow offsets targets x.now → calls.pre f (x, tt))
      → ((x : Bor ℕ) (r : Copied (Iter (ℕ × C))) (t : F) → HasRow offsets targets x.now → Called calls f (x, tt) r t → (t ≡ f) × (iter_rest (copied_source r) ≡ between offsets targets x.now))
      → AnswersGraph calls (λ s t. t ≡ s) (λ s. ⊤) copies_left (copied_steps iter_steps) nat_eq value f (InReach nat_eq (λ n. valued value (between offsets targets n)) (start ∷ [])) (λ n. valued value (between offsets targets n))
  compact_graph {f} inside in_range rising within takes gives =
      let node = nat_reach_keeps value (between offsets targets) (λ n. n + 1 < length offsets) start inside (λ n p. between_all (λ (e : ℕ × C). e.0 + 1 < length offsets) offsets targets in_range n) in
      let row : (n : ℕ) → n + 1 < length offsets → HasRow offsets targets n = λ n l. record { node = l; rising = rising n (n + 1) 0 (omega arith) l; within = within (n + 1) 0 l } in
      nat_graph (between offsets targets) (λ x w. takes x (row x.now (node x.now w))) (λ x r t w k. let h = gives x r t (row x.now (node x.now w)) k in (h.0, gives_copied (between offsets targets x.now) h.1))

-- ---- the same without costs

-- what holds of the starts, and of each node that follows one of which it holds, holds of each node that is reached
module _ {N : Type 0} (eq : N → N → Bool) (successors : N → List N) (P : N → Type 0) (equal : (a b : N) → eq a b ≡ true → P a → P b) (next : (a : N) → P a → AllByRecursion P (successors a)) where
  node_keeps : (xs : List N) (b : N) → AllByRecursion P xs → HasNode eq xs b → P b
  node_keeps [] b h m = absurd m
  node_keeps (x ∷ xs) b h (inl m) = equal x b m h.0
  node_keeps (x ∷ xs) b h (inr m) = node_keeps xs b h.1 m

  walk_keeps : (a : N) (w : List N) → P a → Follows (HasSuccessor eq successors) a w → P (end_of a w)
  walk_keeps a [] p h = p
  walk_keeps a (b ∷ w) p h = walk_keeps b w (node_keeps (successors a) b (next a p) h.0) h.1

  end_keeps : (starts w : List N) (x : N) → AllByRecursion P starts → IsWalk (HasSuccessor eq successors) w → BeginsAt eq starts w → EndsAt eq (λ y. eq y x) w → P x
  end_keeps starts [] x p walks begins ends = absurd walks
  end_keeps starts (a ∷ w) x p walks begins ends = equal (end_of a w) x ends (walk_keeps a w (node_keeps starts a p begins) walks)

  pub successors_keep : (starts : List N) → AllByRecursion P starts → (x : N) → IsReachable eq (HasSuccessor eq successors) starts x → P x
  successors_keep starts p x r = end_keeps starts r.walk x p r.goes.walks r.goes.begins r.goes.ends

module _ {F : Type 0} {calls : Mut F (Bor ℕ × Unit {0}) (Copied (Iter ℕ))} (offsets targets starts : List ℕ) where
  pub compact_successors : {f : F} → All (λ n. n + 1 < length offsets) starts → All (λ n. n + 1 < length offsets) targets
      → IsNonDecreasing offsets → All (λ o. o ≤ length targets) offsets
      → ((x : Bor ℕ) → HasRow offsets targets x.now → calls.pre f (x, tt))
      → ((x : Bor ℕ) (r : Copied (Iter ℕ)) (t : F) → HasRow offsets targets x.now → Called calls f (x, tt) r t → (t ≡ f) × (iter_rest (copied_source r) ≡ between offsets targets x.now))
      → AnswersSuccessors calls (λ s t. t ≡ s) (λ s. ⊤) copies_left (copied_steps iter_steps) nat_eq f (IsReachable nat_eq (HasSuccessor nat_eq (between offsets targets)) starts) (between offsets targets)
  compact_successors {f} inside in_range rising within takes gives =
      let next = between offsets targets in
      let P : ℕ → Type 0 = λ n. n + 1 < length offsets in
      let node = successors_keep nat_eq next P (λ a b e p. subst P (eqb-true a b e) p) (λ n p. between_all P offsets targets in_range n) starts (recursion_from_All P starts inside) in
      let row : (n : ℕ) → n + 1 < length offsets → HasRow offsets targets n = λ n l. record { node = l; rising = rising n (n + 1) 0 (omega arith) l; within = within (n + 1) 0 l } in
      nat_successors next (λ x w. takes x (row x.now (node x.now w))) (λ x r t w k. let h = gives x r t (row x.now (node x.now w)) k in (h.0, gives_copied (next x.now) h.1))

-- a table of rows without costs: the closure copies the row at n
module _ {F X : Type 0} {calls : Mut F (Bor ℕ × Unit {0}) (Copied (Iter ℕ))} (items : X → List ℕ) (rows : List X) (starts : List ℕ) where
  pub rows_successors : {f : F} → All (λ n. n < length rows) starts → All (λ row. All (λ n. n < length rows) (items row)) rows
      → ((x : Bor ℕ) → x.now < length rows → calls.pre f (x, tt))
      → ((x : Bor ℕ) (r : Copied (Iter ℕ)) (t : F) → x.now < length rows → Called calls f (x, tt) r t → (t ≡ f) × (iter_rest (copied_source r) ≡ row_at items rows x.now))
      → AnswersSuccessors calls (λ s t. t ≡ s) (λ s. ⊤) copies_left (copied_steps iter_steps) nat_eq f (IsReachable nat_eq (HasSuccessor nat_eq (row_at items rows)) starts) (row_at items rows)
  rows_successors {f} inside in_range takes gives =
      let P : ℕ → Type 0 = λ n. n < length rows in
      let below = successors_keep nat_eq (row_at items rows) P (λ a b e p. subst P (eqb-true a b e) p) (λ n p. row_all P items rows in_range n) starts (recursion_from_All P starts inside) in
      nat_successors (row_at items rows) (λ x w. takes x (below x.now w)) (λ x r t w k. let h = gives x r t (below x.now w) k in (h.0, gives_copied (row_at items rows x.now) h.1))

-- ---- the steps of a node in given directions: the closure asks for each direction where the step leads

abbrev pub steps_left : {D G : Type 0} {n : ℕ} → FilterMap (IntoIter D n) G → Count
steps_left s = at_most (length (array_into_iter_items (filter_map_source s)))

abbrev pub CanStep : {D G R : Type 0} {n : ℕ} → Mut G (D × Unit {0}) (Option R) → FilterMap (IntoIter D n) G → Type 0
CanStep inner s = ⊤ × IsFinite (steps_left s) × CallableOnAll array_steps inner (filter_map_source s) (filter_map_callee s)

-- what such an answer gives
gives_steps : {A D G : Type 0} {n : ℕ} (inner : Mut G (D × Unit {0}) (Option A)) (directions : List D) (step : D → Option A) (r : FilterMap (IntoIter D n) G) → array_into_iter_items (filter_map_source r) ≡ directions
    → ((d : D) → inner.pre (filter_map_callee r) (d, tt))
    → ((d : D) (o : Option A) (q : G) → Called inner (filter_map_callee r) (d, tt) o q → (q ≡ filter_map_callee r) × (o ≡ step d))
    → Gives (λ s t. t ≡ s) (CanStep inner) steps_left (filter_map_steps array_steps inner) (λ xs. xs ≡ filter_map step directions) r
gives_steps inner directions step r items can gives = gives_chain (λ it b.
    let source = YieldsList-from_array directions (ap (λ s. array_into_iter_items (filter_map_source s)) b ∙ items) in (
      subst (CanStep inner) (sym b) (tt, tt, serves_from_places (YieldsList-from_array {s = filter_map_source r} directions items) (λ d q m. (gives d m.0 q m.1).0) (λ d k l e. can d)),
      tt,
      YieldsList-from_filter_map inner step {f = filter_map_callee r} source (ap filter_map_callee b) gives,
    ))

module _ {F N C D G : Type 0} {n : ℕ} {calls : Mut F (Bor N × Unit {0}) (FilterMap (IntoIter D n) G)} {inner : Mut G (D × Unit {0}) (Option (N × C))} {eq : N → N → Bool} {within : N → Type 0} (value : C → ℤ) (directions : List D) (step : N → D → Option (N × C)) where
  pub grid_graph : {f : F} → ((x : N) → eq x x ≡ true) → ((x y : N) → eq x y ≡ true → x ≡ y)
      → ((x : Bor N) → calls.pre f (x, tt))
      → ((x : Bor N) (r : FilterMap (IntoIter D n) G) (t : F) → Called calls f (x, tt) r t → (t ≡ f) × (array_into_iter_items (filter_map_source r) ≡ directions)
      × ((d : D) → inner.pre (filter_map_callee r) (d, tt))
      × ((d : D) (o : Option (N × C)) (q : G) → Called inner (filter_map_callee r) (d, tt) o q → (q ≡ filter_map_callee r) × (o ≡ step x.now d)))
      → AnswersGraph calls (λ s t. t ≡ s) (CanStep inner) steps_left (filter_map_steps array_steps inner) eq value f within (λ x. valued value (filter_map (step x) directions))
  grid_graph {f} same exact takes gives =
      let listed : N → List (N × C) = λ x. filter_map (step x) directions in
      let edges : N → List (N × ℤ) = λ x. valued value (listed x) in
      graph_of listed edges
      (λ x w. ListsEdges-valued eq value same (listed x))
      (λ x y w e. subst (λ z. ListsEdges eq (λ c. c) (edges x) (edges z)) (exact x y e) (ListsEdges-refl eq same (edges x)))
      (λ x w. takes x)
      (λ x r t w k. let h = gives x r t k in (h.0, gives_steps inner directions (step x.now) r h.1 h.2 h.3))

-- the same without costs
module _ {F N D G : Type 0} {n : ℕ} {calls : Mut F (Bor N × Unit {0}) (FilterMap (IntoIter D n) G)} {inner : Mut G (D × Unit {0}) (Option N)} {eq : N → N → Bool} {within : N → Type 0} (directions : List D) (step : N → D → Option N) where
  pub grid_successors : {f : F} → ((x : N) → eq x x ≡ true) → ((x y : N) → eq x y ≡ true → x ≡ y)
      → ((x : Bor N) → calls.pre f (x, tt))
      → ((x : Bor N) (r : FilterMap (IntoIter D n) G) (t : F) → Called calls f (x, tt) r t → (t ≡ f) × (array_into_iter_items (filter_map_source r) ≡ directions)
      × ((d : D) → inner.pre (filter_map_callee r) (d, tt))
      × ((d : D) (o : Option N) (q : G) → Called inner (filter_map_callee r) (d, tt) o q → (q ≡ filter_map_callee r) × (o ≡ step x.now d)))
      → AnswersSuccessors calls (λ s t. t ≡ s) (CanStep inner) steps_left (filter_map_steps array_steps inner) eq f within (λ x. filter_map (step x) directions)
  grid_successors {f} same exact takes gives =
      let listed : N → List N = λ x. filter_map (step x) directions in
      successors_of listed listed
      (λ x w. SameNodes-refl eq same (listed x))
      (λ x y w e. subst (λ z. SameNodes eq (listed x) (listed z)) (exact x y e) (SameNodes-refl eq same (listed x)))
      (λ x w. takes x)
      (λ x r t w k. let h = gives x r t k in (h.0, gives_steps inner directions (step x.now) r h.1 h.2 h.3))

-- cells, as pairs of numbers
abbrev pub pair_eq : ℕ × ℕ → ℕ × ℕ → Bool
pair_eq a b = nat_eq a.0 b.0 && nat_eq a.1 b.1

both_true : (a b : Bool) → (a && b) ≡ true → (a ≡ true) × (b ≡ true)
both_true true true h = (refl, refl)
both_true true false h = cc
both_true false b h = cc

pub pair_refl : (x : ℕ × ℕ) → pair_eq x x ≡ true
pair_refl x = ap (λ b. b && nat_eq x.1 x.1) (nat_refl x.0) ∙ nat_refl x.1

pub pair_exact : (x y : ℕ × ℕ) → pair_eq x y ≡ true → x ≡ y
pair_exact x y h =
    let t = both_true (nat_eq x.0 y.0) (nat_eq x.1 y.1) h in
    ap (λ r. (r, x.1)) (eqb-true x.0 y.0 t.0) ∙ ap (λ q. (y.0, q)) (eqb-true x.1 y.1 t.1)
