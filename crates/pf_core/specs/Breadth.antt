-- What a search by number of edges keeps: numbers in the order found are visited in turn.
use Rattle.std.specs.Prelude.{◌≡◌, ◌≤◌, ◌<◌, ◌+◌, ◌^◌, ℕ, Bool, true, false, nat_lt, Some, length, replicate}
use Rattle.pf_core.specs.declared.labels.Label.{Label}
use Rattle.pf_core.specs.Labels.{Labels, HasLabel, IsTree}

-- labels of such a search have no costs
abbrev pub Hops : Type 0
Hops = Unit {0}

-- The first numbers are settled and the others open, and depths rise by at most one from the number n on.
pub record IsBreadth (n : ℕ) (labels : Labels Hops) : Type 0 where
  pub inside : n ≤ length labels
  pub full : (k : ℕ) → k < length labels → (l : Label Hops) × HasLabel labels k l
  pub done : (k : ℕ) (l : Label Hops) → HasLabel labels k l → k < n → l.settled ≡ true
  pub opened : (k : ℕ) (l : Label Hops) → HasLabel labels k l → n ≤ k → l.settled ≡ false
  pub rising : (j k : ℕ) (l m : Label Hops) → HasLabel labels j l → HasLabel labels k m → j ≤ k → l.depth ≤ m.depth
  pub near : (k : ℕ) (l m : Label Hops) → HasLabel labels n l → HasLabel labels k m → m.depth ≤ l.depth + 1
  pub flat : (k : ℕ) (l : Label Hops) → HasLabel labels k l → l.depth ≤ n

-- the labels of all numbers found, of which the first `next` are visited
pub record IsWave (found : ℕ) (labels : Labels Hops) (next : ℕ) : Type 0 where
  pub len : length labels ≡ found
  pub few : found ≤ 2 ^ 62
  pub breadth : IsBreadth next labels
  pub tree : IsTree labels

-- The numbers below `level` have at most this depth, those of them that are open have it, and the others are one deeper.
pub record IsLayered (labels : Labels Hops) (next level depth : ℕ) : Type 0 where
  pub below : (k : ℕ) (l : Label Hops) → HasLabel labels k l → k < level → l.depth ≤ depth
  pub here : (k : ℕ) (l : Label Hops) → HasLabel labels k l → next ≤ k → k < level → l.depth ≡ depth
  pub above : (k : ℕ) (l : Label Hops) → HasLabel labels k l → level ≤ k → l.depth ≡ depth + 1

-- the numbers below are the roots
abbrev pub below : ℕ → ℕ → Bool
below found k = nat_lt k found

-- the labels of the first numbers, at which paths begin
abbrev pub first_labels : ℕ → Labels Hops
first_labels found = replicate found (Some (record { cost = tt; parent = 0; depth = 0; settled = false }))
