-- That the first meeting of two sides is best.
use Rattle.std.proofs.Common.{ℕ, ◌+◌, ◌-◌, ◌<◌, ◌≤◌, ◌^◌, ◌≡◌, ◌∙◌, sym, ap, subst, arith, List, length, Some, inl, inr, ℤ, pos}
use Rattle.std.proofs.lemmas.List.{length-replicate}
use Rattle.std.specs.Prelude.{◌≤ℤ◌, ◌+ℤ◌, ◌⊎◌}
use Rattle.std.proofs.lemmas.Int.{ints}
use Rattle.pf_base.specs.Walks.{end_of}
use Rattle.pf_core.specs.declared.labels.Label.{Label}
use Rattle.pf_core.specs.Labels.{Labels, HasLabel, IsChain, by_depth}
use Rattle.pf_core.specs.Steps.{GoesAlong, IsHop}
use Rattle.pf_core.specs.Search.{IsSearch, StandsRoot}
use Rattle.pf_core.specs.Breadth.{Hops, IsBreadth, IsWave, IsLayered, below, first_labels}
use Rattle.pf_core.specs.Numbered.{Grows, StandsBelow}
use Rattle.pf_two_sided.specs.Internal.Mirrors.{NoneMeets, IsComplete, IsCompleteTo, IsMirrored, IsBestMeeting}
use Rattle.pf_core.proofs.PathLemmas.{PathUp, chain_path}
use Rattle.pf_core.proofs.SearchLemmas.{rooted}
use Rattle.pf_core.proofs.HopLemmas.{hop_positive, roots_below, reached_from, at_start, breadth_done, breadth_start, hop_tree_start, hop_search_start}
use Rattle.pf_core.proofs.LabelLemmas.{HasLabel-inside}
use Rattle.pf_core.proofs.FrontierLemmas.{walk_positive}
use Rattle.pf_two_sided.proofs.MirrorLemmas.{complete, complete_to, walks_longer}
use Rattle.pf_core.proofs.WaveLemmas.{layered_least}

-- each number found has a label
pub wave_full : (found : ℕ) (labels : Labels Hops) (next : ℕ) → IsWave found labels next → (k : ℕ) → k < found → (l : Label Hops) × HasLabel labels k l
wave_full found labels next wave k lt = wave.breadth.full k (subst (λ (n : ℕ). k < n) (sym wave.len) lt)

-- one side at a turn of the search: its labels, whose paths begin at the numbers below `start`, and what the first numbers stood for
pub record IsSide {X : Type 0} (step : X → ℤ → X → Type 0) (start found : ℕ) (first stands : ℕ → X → Type 0) (labels : Labels Hops) (next : ℕ) : Type 0 where
  pub grown : Grows start found first stands
  pub wave : IsWave found labels next
  pub search : IsSearch by_depth step (below start) stands labels

module _ {X : Type 0} (step : X → ℤ → X → Type 0) (hop : IsHop step) (start found : ℕ) (first stands : ℕ → X → Type 0) (labels : Labels Hops) (next : ℕ) (side : IsSide step start found first stands labels next) where
  -- between levels, a side is complete up to its depth
  pub side_complete : (d : ℕ) → IsLayered labels next (length labels) d → IsCompleteTo step (StandsBelow start first) stands (pos d)
  side_complete d y =
      let s = side in
      let w = s.wave in
      let all = complete_to step hop (below start) stands labels s.search d (layered_least labels next d w.breadth y) in
      λ s is. all s ((roots_below start found first stands side.grown s).1 is)

  -- the path to a number along its parents
  pub side_path : (k : ℕ) (l : Label Hops) → HasLabel labels k l → (numbers : List ℕ) → IsChain labels k numbers
      → PathUp labels (side.wave.tree) by_depth step (StandsRoot (below start) stands) stands (rooted by_depth step (below start) (hop_positive step hop) stands labels side.search) side.search.linked k l numbers
  side_path k l at numbers c = chain_path labels side.wave.tree by_depth step (StandsRoot (below start) stands) stands (rooted by_depth step (below start) (hop_positive step hop) stands labels side.search) side.search.linked numbers k l at c

module _ {X : Type 0} (step back : X → ℤ → X → Type 0) (hop : IsHop step) (hop_back : IsHop back) (start end : ℕ) (first last : ℕ → X → Type 0) (mirror : IsMirrored step back (StandsBelow start first) (StandsBelow end last)) where
  -- the chains of two numbers of one node are best, where no walk has fewer steps than both have
  pub best_meeting : (found found' : ℕ) (stands others : ℕ → X → Type 0) (labels labels' : Labels Hops) (next next' : ℕ) → IsSide step start found first stands labels next → IsSide back end found' last others labels' next'
      → (j k : ℕ) (l m : Label Hops) → HasLabel labels j l → HasLabel labels' k m → (((x : X) → stands j x → others k x) ⊎ ((x : X) → others k x → stands j x)) → (forth_numbers back_numbers : List ℕ) → IsChain labels j forth_numbers → IsChain labels' k back_numbers
      → ((s : X) → StandsBelow start first s → (w : List X) (u : ℤ) → GoesAlong step s w u → StandsBelow end last (end_of s w) → (pos l.depth +ℤ pos m.depth) ≤ℤ u)
      → IsBestMeeting step back (StandsBelow start first) (StandsBelow end last) stands others forth_numbers back_numbers
  best_meeting found found' stands others labels labels' next next' a b j k l m at at' same forth_numbers back_numbers c c' best =
      let p = side_path step hop start found first stands labels next a j l at forth_numbers c in
      let q = side_path back hop_back end found' last others labels' next' b k m at' back_numbers c' in
      let common : (x : X) × stands j x × others k x = elim same as (λ _. (x : X) × stands j x × others k x) [
        | inl f ↦ (end_of p.first p.nodes, p.here, f (end_of p.first p.nodes) p.here)
        | inr f ↦ (end_of q.first q.nodes, f (end_of q.first q.nodes) q.here, q.here)
      ] in
      record {
        first = p.first;
        is_start = (roots_below start found first stands a.grown p.first).0 p.is_start;
        nodes = p.nodes;
        cost = pos l.depth;
        path = p.path;
        last = q.first;
        is_end = (roots_below end found' last others b.grown q.first).0 q.is_start;
        nodes_back = q.nodes;
        cost_back = pos m.depth;
        path_back = q.path;
        number = j;
        across = k;
        here = p.here;
        there = q.here;
        common = common.0;
        stands_here = common.1;
        stands_there = common.2;
        best = best;
      }

  -- the same before the first level
  pub first_meeting_best : (found found' : ℕ) (stands others : ℕ → X → Type 0) (labels labels' : Labels Hops) (next next' : ℕ) → IsSide step start found first stands labels next → IsSide back end found' last others labels' next'
      → IsLayered labels next (length labels) 0 → IsLayered labels' next' (length labels') 0
      → (j k : ℕ) → j < found → k < found' → (((x : X) → stands j x → others k x) ⊎ ((x : X) → others k x → stands j x)) → (forth_numbers back_numbers : List ℕ) → IsChain labels j forth_numbers → IsChain labels' k back_numbers
      → IsBestMeeting step back (StandsBelow start first) (StandsBelow end last) stands others forth_numbers back_numbers
  first_meeting_best found found' stands others labels labels' next next' a b y z j k lt lt' same forth_numbers back_numbers c c' =
      let l = wave_full found labels next a.wave j lt in
      let m = wave_full found' labels' next' b.wave k lt' in
      let dl = y.below j l.0 l.1 (HasLabel-inside labels j l.0 l.1) in
      let dm = z.below k m.0 m.1 (HasLabel-inside labels' k m.0 m.1) in
      best_meeting found found' stands others labels labels' next next' a b j k l.0 m.0 l.1 m.1 same forth_numbers back_numbers c c'
      (λ s is w u walk at. let low = walk_positive step (hop_positive step hop) w s u walk in omega (arith, ints, dl, dm, low))

  -- between levels, where no node has a number on both sides, each walk from end to end has more steps than both depths
  pub sides_longer : (found found' : ℕ) (stands others : ℕ → X → Type 0) (labels labels' : Labels Hops) (next next' : ℕ) → IsSide step start found first stands labels next → IsSide back end found' last others labels' next' → NoneMeets stands others
      → (a b : ℕ) → IsLayered labels next (length labels) a → IsLayered labels' next' (length labels') b → (n : ℕ) → n ≤ a + b + 1 → (s : X) → StandsBelow start first s → (w : List X) (u : ℤ) → GoesAlong step s w u → StandsBelow end last (end_of s w) → pos n ≤ℤ u
  sides_longer found found' stands others labels labels' next next' p q none a b y z n low s is w u g at =
      let more = walks_longer step back (StandsBelow start first) (StandsBelow end last) stands others hop mirror none a b (side_complete step hop start found first stands labels next p a y) (side_complete back hop_back end found' last others labels' next' q b z) s is w u g at in
      omega (arith, ints, more, low)

-- a side before its first level
pub wave_start : (found : ℕ) (labels : Labels Hops) (next : ℕ) → next ≡ 0 → labels ≡ first_labels found → found ≤ 2 ^ 62 → IsWave found labels next × IsLayered labels next (length labels) 0
wave_start found labels next zero e few =
    let len : length labels ≡ found = ap length e ∙ length-replicate found (Some (reached_from 0 0)) in
    let flat : (k : ℕ) (l : Label Hops) → HasLabel labels k l → l.depth ≡ 0 = λ k l h. ap (λ (m : Label Hops). m.depth) (at_start found labels e len k l h) in (
      record { len = len; few = few; breadth = subst (λ (n : ℕ). IsBreadth n labels) (sym zero) (breadth_start found labels e len); tree = hop_tree_start found labels e len },
      record {
        below = λ k l h lt. let d = flat k l h in omega (arith, d);
        here = λ k l h ge lt. flat k l h;
        above = λ k l h ge. let inside = HasLabel-inside labels k l h in absurd (omega (arith, inside, ge));
      },
    )

pub side_start : {X : Type 0} (step : X → ℤ → X → Type 0) (found : ℕ) (stands : ℕ → X → Type 0) (labels : Labels Hops) (next : ℕ) → next ≡ 0 → labels ≡ first_labels found → found ≤ 2 ^ 62 → ((k : ℕ) → k < found → (s : X) × stands k s) → IsSide step found found stands stands labels next
side_start step found stands labels next zero e few begins = record {
  grown = record { more = omega arith; stays = λ k x h. h; back = λ k x i h. h };
  wave = (wave_start found labels next zero e few).0;
  search = hop_search_start step found stands labels e (ap length e ∙ length-replicate found (Some (reached_from 0 0))) begins;
}

-- a side before its first level, from the number of its first nodes
pub wave_begun : (found number : ℕ) (labels : Labels Hops) (next : ℕ) → (next ≡ 0) × (labels ≡ first_labels number) × (number ≤ 2 ^ 62) → number ≡ found → IsWave found labels next × IsLayered labels next (length labels) 0
wave_begun found number labels next begun same = subst (λ (n : ℕ). IsWave n labels next × IsLayered labels next (length labels) 0) same (wave_start number labels next begun.0 begun.1 begun.2)

pub side_begun : {X : Type 0} (step : X → ℤ → X → Type 0) (found number : ℕ) (stands : ℕ → X → Type 0) (labels : Labels Hops) (next : ℕ) → (next ≡ 0) × (labels ≡ first_labels number) × (number ≤ 2 ^ 62) → number ≡ found → ((k : ℕ) → k < found → (s : X) × stands k s) → IsSide step found found stands stands labels next
side_begun step found number stands labels next begun same begins =
    side_start step found stands labels next begun.0 (begun.1 ∙ ap first_labels same) (subst (λ (n : ℕ). n ≤ 2 ^ 62) same begun.2) begins

-- what is left of the nodes that a search from both ends may visit
pub visits_left : (next next' after after' : ℕ) (labels labels' : Labels Hops) (found found' : ℕ) → IsWave found labels next → IsWave found' labels' next' → next + next' < after + after'
    → 2 ^ 64 + 2 ^ 64 - (after + after') < 2 ^ 64 + 2 ^ 64 - (next + next')
visits_left next next' after after' labels labels' found found' a b more = omega (arith, a.len, a.few, a.breadth.inside, b.len, b.few, b.breadth.inside, more)

-- where all numbers of a side were visited, it is complete
pub side_all : {X : Type 0} (step : X → ℤ → X → Type 0) (hop : IsHop step) (start found : ℕ) (first stands : ℕ → X → Type 0) (labels : Labels Hops) (next : ℕ) → IsSide step start found first stands labels next → length labels ≤ next → IsComplete step (StandsBelow start first) stands
side_all step hop start found first stands labels next side done =
    let w = side.wave in
    let all = complete step hop (below start) stands labels side.search (breadth_done next labels w.breadth done) in
    λ s is. all s ((roots_below start found first stands side.grown s).1 is)
