-- A turn of a search by number of edges: what its calls tell, and what holds after it.
use Rattle.std.proofs.Common.{ℕ, ◌+◌, ◌-◌, ◌^◌, ◌<◌, ◌≤◌, ◌≡◌, ◌∙◌, arith, ℤ, Bool, true, refl, List, ◌++◌, length, Option, Some, replicate}
use Rattle.std.specs.Prelude.{slice_set, Contains, ◌⊎◌}
use Rattle.pf_core.specs.declared.labels.Label.{Label}
use Rattle.pf_core.specs.Labels.{Labels, HasLabel, by_depth, IsTree}
use Rattle.pf_core.specs.Steps.{IsHop}
use Rattle.pf_core.specs.Breadth.{Hops, IsBreadth}
use Rattle.pf_core.specs.Numbered.{ListsSteps, Grows}
use Rattle.pf_core.specs.Search.{IsSearch}
use Rattle.pf_core.proofs.HopLemmas.{reached_from, breadth_turn, hop_tree, hop_from, hop_turned, hop_len, resized}
use Rattle.pf_core.proofs.WaveLemmas.{turned_len}

-- the number n was settled, and the nodes of its row were found
pub record IsHopTurn (X : Type 0) {C : Type 0} (n : ℕ) (row : List (ℕ × C)) (labels labels' : Labels Hops) (found' : ℕ) : Type 1 where
  pub len : length labels' ≡ found'
  pub few : length labels' ≤ 2 ^ 62
  pub breadth : IsBreadth (n + 1) labels'
  pub tree : IsTree labels'
  pub from : (j : ℕ) (m : Label Hops) → HasLabel labels' j m → m.settled ≡ true → (j ≡ n) ⊎ HasLabel labels j m
  pub search : (step : X → ℤ → X → Type 0) (root : ℕ → Bool) → IsHop step → (found : ℕ) (stands stands' : ℕ → X → Type 0) → Grows found found' stands stands' → length labels ≡ found → IsSearch by_depth step root stands labels
      → (value : C → ℤ) → ((x : X) → stands n x → ListsSteps value step stands' x row) → ((j : ℕ) (c : C) → Contains row (j, c) → j < found') → IsSearch by_depth step root stands' labels'

module _ (n : ℕ) (labels labels1 : Labels Hops) (depth number found found' : ℕ) (b : IsBreadth n labels) (inside : n < length labels) (len : length labels ≡ found)
    (settled : (l : Label Hops) → HasLabel labels n l → (depth ≡ l.depth) × (labels1 ≡ slice_set labels n (Some (record l { settled = true })))) (same : number ≡ found') (more : found ≤ found') where
  -- labels were only settled, so that there are no more than nodes were found
  pub settled_fit : length labels1 ≤ number
  settled_fit =
      let l = b.full n inside in
      let s = settled l.0 l.1 in
      let kept = hop_len n l.0 labels labels1 b l.1 s.1 in
      omega (arith, kept, len, same, more)

  pub hop_turn : (X : Type 0) {C : Type 0} (labels3 : Labels Hops) (slot : Option (Label Hops)) → slot ≡ Some (reached_from n (depth + 1)) → labels3 ≡ labels1 ++ replicate (number - length labels1) slot → number ≤ 2 ^ 62 → IsTree labels
      → (row : List (ℕ × C)) → ((k : ℕ) → found ≤ k → k < found' → (c : C) × Contains row (k, c)) → IsHopTurn X n row labels labels3 found'
  hop_turn X labels3 slot behind filled few tree row fresh =
      let l = b.full n inside in
      let s = settled l.0 l.1 in
      let e3 = resized labels1 labels3 (number - length labels1) n l.0.depth depth slot filled behind s.0 in
      let len3 : length labels3 ≡ found' = turned_len n l.0 labels labels1 labels3 b l.1 s.1 (number - length labels1) e3 number refl (omega (arith, len, same, more)) ∙ same in
      let new : (k : ℕ) → length labels ≤ k → k < found' → (c : _) × Contains row (k, c) = λ k le lt. fresh k (omega (arith, le, len)) lt in
      record {
        len = len3;
        few = omega (arith, len3, same, few);
        breadth = breadth_turn n l.0 labels labels1 labels3 b l.1 s.1 (number - length labels1) e3;
        tree = hop_tree n l.0 labels labels1 labels3 b l.1 s.1 (number - length labels1) e3 row found' len3 new tree;
        from = hop_from n l.0 labels labels1 labels3 b l.1 s.1 (number - length labels1) e3 row found' len3 new;
        search = λ step root hop a stands stands' grown at i value lists within. hop_turned n l.0 labels labels1 labels3 b l.1 s.1 (number - length labels1) e3 row found' len3 new step root hop stands i tree a stands' grown at value lists within;
      }
