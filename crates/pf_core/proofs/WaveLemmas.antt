-- One side of a search from both ends.
use Rattle.std.proofs.Common.{ℕ, ◌+◌, ◌-◌, ◌<◌, ◌≤◌, ◌≡◌, ◌∙◌, ap, sym, arith, true, true≢false, pos, length, length-append, ◌++◌, Some, replicate, inl, inr}
use Rattle.std.specs.Prelude.{slice_set, ◌≤ℤ◌, ◌↔◌}
use Rattle.std.proofs.lemmas.Int.{ints}
use Rattle.std.proofs.lemmas.List.{length-replicate}
use Rattle.pf_core.specs.declared.labels.Label.{Label}
use Rattle.pf_core.specs.Labels.{Labels, HasLabel, by_depth}
use Rattle.pf_core.specs.Breadth.{Hops, IsBreadth, IsLayered}
use Rattle.pf_core.specs.Search.{IsLow}
use Rattle.pf_core.specs.Numbered.{Grows}
use Rattle.pf_core.proofs.LabelLemmas.{HasLabel-inside}
use Rattle.pf_core.proofs.HopLemmas.{reached_from, old_or_new, old_at, hop_len, le_or_less}

module _ (n : ℕ) (l : Label Hops) (labels labels1 labels3 : Labels Hops) (b : IsBreadth n labels) (at : HasLabel labels n l)
    (e1 : labels1 ≡ slice_set labels n (Some (record l { settled = true }))) (more : ℕ) (e3 : labels3 ≡ labels1 ++ replicate more (Some (reached_from n (l.depth + 1)))) where
  -- a level stays one where its next number is visited
  pub layered_turn : (level depth : ℕ) → n < level → level ≤ length labels → IsLayered labels n level depth → IsLayered labels3 (n + 1) level depth
  layered_turn level depth inside within y = record {
    below = λ k m h lt. elim (old_or_new n l labels labels1 labels3 b at e1 more e3 k m h) as (λ _. m.depth ≤ depth) [
      | inl q ↦ let o = old_at n l labels labels1 labels3 b at e1 more e3 k m q in let d = y.below k o.0 o.1 lt in omega (arith, o.2, d)
      | inr q ↦ absurd (omega (arith, q.0, lt, within))
    ];
    here = λ k m h ge lt. elim (old_or_new n l labels labels1 labels3 b at e1 more e3 k m h) as (λ _. m.depth ≡ depth) [
      | inl q ↦ let o = old_at n l labels labels1 labels3 b at e1 more e3 k m q in let d = y.here k o.0 o.1 (omega (arith, ge)) lt in omega (arith, o.2, d)
      | inr q ↦ absurd (omega (arith, q.0, lt, within))
    ];
    above = λ k m h ge. elim (old_or_new n l labels labels1 labels3 b at e1 more e3 k m h) as (λ _. m.depth ≡ depth + 1) [
      | inl q ↦ let o = old_at n l labels labels1 labels3 b at e1 more e3 k m q in let d = y.above k o.0 o.1 ge in omega (arith, o.2, d)
      | inr q ↦ let d = y.here n l at (omega arith) inside in let e = ap (λ (x : Label Hops). x.depth) q.1 in omega (arith, d, e)
    ];
  }

  -- as many labels as nodes were found
  pub turned_len : (found : ℕ) → more ≡ found - length labels1 → length labels ≤ found → length labels3 ≡ found
  turned_len found is within = omega (arith, ap length e3, length-append labels1 (replicate more (Some (reached_from n (l.depth + 1)))), length-replicate more (Some (reached_from n (l.depth + 1))), hop_len n l labels labels1 b at e1, is, within)

-- where all of a level was visited, the numbers that it led to are the next
pub layered_done : (labels : Labels Hops) (next level depth : ℕ) → next ≡ level → IsLayered labels next level depth → IsLayered labels next (length labels) (depth + 1)
layered_done labels next level depth e y = record {
  below = λ k l h lt. elim (le_or_less level k) as (λ _. l.depth ≤ depth + 1) [
    | inl ge ↦ let d = y.above k l h ge in omega (arith, d)
    | inr lt ↦ let d = y.below k l h lt in omega (arith, d)
  ];
  here = λ k l h ge lt. y.above k l h (omega (arith, ge, e));
  above = λ k l h ge. let inside = HasLabel-inside labels k l h in absurd (omega (arith, inside, ge));
}

-- no label is more than one deeper than the level that is visited
pub layered_low : (labels : Labels Hops) (next level depth : ℕ) → IsLayered labels next level depth → (k : ℕ) (l : Label Hops) → HasLabel labels k l → l.depth ≤ depth + 1
layered_low labels next level depth y k l h = elim (le_or_less level k) as (λ _. l.depth ≤ depth + 1) [
  | inl ge ↦ let d = y.above k l h ge in omega (arith, d)
  | inr lt ↦ let d = y.below k l h lt in omega (arith, d)
]

-- where a level of one side is visited and the other side is between levels, two labels are at most one deeper than both levels
pub met_low : (labels labels' : Labels Hops) (next next' level a b : ℕ) → IsLayered labels next level a → IsLayered labels' next' (length labels') b
    → (j k : ℕ) (l m : Label Hops) → HasLabel labels j l → HasLabel labels' k m → (l.depth + m.depth ≤ a + b + 1) × (m.depth + l.depth ≤ b + a + 1)
met_low labels labels' next next' level a b y z j k l m at at' =
    let low = layered_low labels next level a y j l at in
    let low' = z.below k m at' (HasLabel-inside labels' k m at') in
    (omega (arith, low, low'), omega (arith, low, low'))

-- between levels, no open label is less deep than the level
pub layered_least : (labels : Labels Hops) (next depth : ℕ) → IsBreadth next labels → IsLayered labels next (length labels) depth → IsLow by_depth labels (pos depth)
layered_least labels next depth b y k l h o = elim (le_or_less next k) as (λ _. pos depth ≤ℤ pos l.depth) [
  | inl ge ↦ let d = y.here k l h ge (HasLabel-inside labels k l h) in omega (arith, ints, d)
  | inr lt ↦ absurd (true≢false (sym (b.done k l h lt) ∙ o))
]

-- a visit leaves fewer numbers of the level
pub visits_fewer : (level next next' : ℕ) → next < level → next' ≡ next + 1 → level - next' < level - next
visits_fewer level next next' lt e = omega (arith, lt, e)

-- where a side has the same numbers, nodes are only added
pub grows_same : {X : Type 0} (a b : ℕ) (p q : ℕ → X → Type 0) → b ≡ a → ((k : ℕ) (x : X) → q k x ↔ p k x) → Grows a b p q
grows_same a b p q e same = record { more = omega (arith, e); stays = λ k x t. (same k x).1 t; back = λ k x l t. (same k x).0 t }
