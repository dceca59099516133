-- A search for a loop with fewest edges.
use Rattle.std.proofs.Common.{ℕ, ◌<◌, ◌≤◌, ◌≡◌, refl, sym, ◌∙◌, subst, arith, Bool, true, true≢false, List, [], ◌∷◌, ◌++◌, length, inl, inr, ℤ}
use Rattle.std.specs.Prelude.{Contains, ◌≤ℤ◌, ◌⊎◌}
use Rattle.std.proofs.lemmas.Int.{ints}
use Rattle.pf_base.specs.Walks.{end_of}
use Rattle.pf_core.specs.declared.labels.Label.{Label}
use Rattle.pf_core.specs.Labels.{Labels, HasLabel, cost_of, IsTree, IsChain, AllSettled}
use Rattle.pf_core.specs.Steps.{GoesAlong, IsNonNegative}
use Rattle.pf_discovery.specs.Loops.{Closes, IsBestNumberedLoop}
use Rattle.pf_core.specs.Numbered.{ListsSteps, Grows, StandsBelow}
use Rattle.pf_core.specs.Search.{SettledAt, WaitingAt, IsLow, IsLeast, IsSearch, StandsRoot}
use Rattle.pf_core.proofs.FrontierLemmas.{frontier, walk_positive}
use Rattle.pf_core.proofs.PathLemmas.{chain_path}
use Rattle.pf_core.proofs.LabelLemmas.{HasLabel-inside}
use Rattle.pf_core.proofs.SearchLemmas.{found_at, rooted, path_grows}
use Rattle.pf_core.specs.Breadth.{below}
use Rattle.pf_core.proofs.HopLemmas.{roots_below}

module _ {X C : Type 0} (measure : C → ℕ → ℤ) (step : X → ℤ → X → Type 0) (root : ℕ → Bool) (p : IsNonNegative step) (stands : ℕ → X → Type 0) (labels : Labels C) (i : IsSearch measure step root stands labels) where
  module _ (P : X → Type 0) (failed : (k : ℕ) (l : Label C) (x : X) → HasLabel labels k l → l.settled ≡ true → stands k x → ¬ (P x)) where
    -- where no settled number has the property, no walk to a node that has it costs less than the least open label
    pub property_above : (c : ℤ) → IsLow measure labels c → (s : X) → StandsRoot root stands s → (w : List X) (t : ℤ) → GoesAlong step s w t → P (end_of s w) → c ≤ℤ t
    property_above c least s is w t walk good =
        let b = i.start is.0 is.1 in
        elim (frontier step stands (SettledAt measure labels) (WaitingAt measure labels) i.cut w is.0 (cost_of measure b.0) s t (found_at measure step root stands labels is.0 b.0 b.1) is.2 walk) as (λ _. c ≤ℤ t) [
          | inl r ↦ let q = r.is_settled in absurd (failed r.number q.0 (end_of s w) q.1 q.2 r.here good)
          | inr r ↦ let q = r.is_waiting in omega (arith, ints, least r.number q.0 q.1 q.2, q.3, r.low, b.2, r.sums, walk_positive step p r.after (end_of s r.before) r.rest r.goes_on)
        ]

    -- and where all is settled, no walk leads to such a node
    pub property_nowhere : AllSettled labels → (s : X) → StandsRoot root stands s → (w : List X) (t : ℤ) → GoesAlong step s w t → ¬ (P (end_of s w))
    property_nowhere all s is w t walk good =
        let b = i.start is.0 is.1 in
        elim (frontier step stands (SettledAt measure labels) (WaitingAt measure labels) i.cut w is.0 (cost_of measure b.0) s t (found_at measure step root stands labels is.0 b.0 b.1) is.2 walk) as (λ _. ⊥) [
          | inl r ↦ let q = r.is_settled in failed r.number q.0 (end_of s w) q.1 q.2 r.here good
          | inr r ↦ let q = r.is_waiting in true≢false (sym (all r.number q.0 q.1) ∙ q.2)
        ]

-- what is settled after a turn has not the property, where the number that was settled has not
pub property_turned : {X C : Type 0} (P : X → Type 0) (a b : ℕ) (p q : ℕ → X → Type 0) → Grows a b p q → (labels labels' : Labels C) → length labels ≤ a → (n : ℕ) → n < a → ((j : ℕ) (m : Label C) → HasLabel labels' j m → m.settled ≡ true → (j ≡ n) ⊎ HasLabel labels j m) → ((x : X) → p n x → ¬ (P x))
    → ((k : ℕ) (m : Label C) (x : X) → HasLabel labels k m → m.settled ≡ true → p k x → ¬ (P x)) → (k : ℕ) (m : Label C) (x : X) → HasLabel labels' k m → m.settled ≡ true → q k x → ¬ (P x)
property_turned P a b p q g labels labels' len n inside from fails failed k m x h s here = elim (from k m h s) as (λ _. ¬ (P x)) [
  | inl e ↦ fails x (g.back n x inside (subst (λ (i : ℕ). q i x) e here))
  | inr o ↦ failed k m x o s (g.back k x (omega (arith, HasLabel-inside labels k m o, len)) here)
]

module _ {X C : Type 0} (value : C → ℤ) (step : X → ℤ → X → Type 0) (found found' : ℕ) (stands stands' : ℕ → X → Type 0) (grow : Grows found found' stands stands') (x : X) (row : List (ℕ × C)) (lists : ListsSteps value step stands' x row) where
  -- no number in the row is one of the first
  pub none_closes : ((j : ℕ) (c : C) → Contains row (j, c) → found ≤ j) → ¬ (Closes step (StandsBelow found stands) x)
  none_closes far h =
      let is = h.3 in
      let r = lists.complete h.0 h.1 is.0 h.2 (grow.stays is.0 h.1 is.2) in
      let low = far is.0 r.0 r.1 in
      let inside = is.1 in
      omega (arith, low, inside)

-- the path to a number of least depth and one of the first numbers, which is in its row
pub best_loop : {X L C : Type 0} (measure : L → ℕ → ℤ) (step : X → ℤ → X → Type 0) (p : IsNonNegative step) (start found found' : ℕ) (first stands stands' : ℕ → X → Type 0) → Grows start found first stands → Grows found found' stands stands' → (labels : Labels L) → IsSearch measure step (below start) stands labels → IsTree labels
    → ((k : ℕ) (l : Label L) (x : X) → HasLabel labels k l → l.settled ≡ true → stands k x → ¬ (Closes step (StandsBelow start first) x))
    → (k : ℕ) (l : Label L) → IsLeast measure labels k l → (value : C → ℤ) (row : List (ℕ × C)) → ((x : X) → stands k x → ListsSteps value step stands' x row) → (j : ℕ) → j < start → (c : C) → Contains row (j, c) → (front : List ℕ) → IsChain labels k front
    → IsBestNumberedLoop step (StandsBelow start first) stands' (front ++ j ∷ [])
best_loop measure step p start found found' first stands stands' grow grow' labels i tree failed k l z value row lists j low c has front chain =
    let roots = roots_below start found first stands grow in
    let up = chain_path labels tree measure step (StandsRoot (below start) stands) stands (rooted measure step (below start) p stands labels i) i.linked front k l z.at chain in
    let edge = (lists (end_of up.first up.nodes) up.here).sound j c has in
    record {
      front = front;
      last = j;
      is = refl;
      first = up.first;
      is_start = (roots up.first).0 up.is_start;
      nodes = up.nodes;
      cost = cost_of measure l;
      path = path_grows step up.first found found' stands stands' grow' front up.nodes (cost_of measure l) up.path;
      price = value c;
      end = edge.0;
      closing = edge.1;
      back = (j, low, grow.back j edge.0 low (grow'.back j edge.0 (omega (arith, low, grow.more)) edge.2));
      here = edge.2;
      best = λ s is w u walk good. property_above measure step (below start) p stands labels i (Closes step (StandsBelow start first)) failed (cost_of measure l) z.least s ((roots s).1 is) w u walk good;
    }
