-- Walks along the steps of a graph, by whichever parallel step, and paths that numbers stand for.
use Rattle.std.specs.Prelude.{◌≡◌, ◌≤ℤ◌, ◌+ℤ◌, ℤ, ℕ, pos, Bool, true, List, [], ◌∷◌, nat_eq}
use Rattle.std.specs.List.{AllZip}
use Rattle.pf_base.specs.Walks.{end_of, NoRepeats}

module _ {X : Type 0} (step : X → ℤ → X → Type 0) where
  -- the nodes w go on from a, each by a step, and the steps cost t
  abbrev pub GoesAlong : X → List X → ℤ → Type 0
  GoesAlong a [] t = t ≡ pos 0
  GoesAlong a (b ∷ w) t = (z : ℤ) × (u : ℤ) × step a z b × GoesAlong b w u × (t ≡ z +ℤ u)

  -- no step costs less than 0
  pub record IsNonNegative : Type 0 where
    pub non_negative : (a : X) (z : ℤ) (b : X) → step a z b → pos 0 ≤ℤ z

  -- each step costs 1
  pub record IsHop : Type 0 where
    pub one : (a : X) (z : ℤ) (b : X) → step a z b → z ≡ pos 1

  module _ (stands : ℕ → X → Type 0) (s : X) where
    -- the numbers stand for s and the nodes after it, whose steps cost t, and none stands twice
    pub record IsNumberedPath (numbers : List ℕ) (nodes : List X) (t : ℤ) : Type 0 where
      pub numbered : AllZip stands numbers (s ∷ nodes)
      pub goes : GoesAlong s nodes t
      pub distinct : NoRepeats nat_eq numbers

  module _ (passes : X → Bool) (starts : X → Type 0) where
    -- no walk from a start leads to a node that passes
    abbrev pub NoGoal : Type 0
    NoGoal = (s : X) → starts s → (w : List X) (u : ℤ) → GoesAlong s w u → ¬ (passes (end_of s w) ≡ true)

    -- no walk from a start to a node that passes costs less than t
    abbrev pub NoGoalBelow : ℤ → Type 0
    NoGoalBelow t = (s : X) → starts s → (w : List X) (u : ℤ) → GoesAlong s w u → passes (end_of s w) ≡ true → t ≤ℤ u

    module _ (stands : ℕ → X → Type 0) where
      -- the numbers stand for a path from a start to a node that passes, which costs t, and no walk from a start to such a node costs less
      pub record IsBestNumbered (numbers : List ℕ) (t : ℤ) : Type 0 where
        pub first : X
        pub is_start : starts first
        pub nodes : List X
        pub path : IsNumberedPath stands first numbers nodes t
        pub good : passes (end_of first nodes) ≡ true
        pub best : NoGoalBelow t

      -- A cheapest path to some node and one step more do not fit, by whichever parallel step, and no node that passes is cheaper than that node.
      pub record NumberedOverflows (fits : ℤ → Type 0) : Type 0 where
        pub first : X
        pub is_start : starts first
        pub numbers : List ℕ
        pub nodes : List X
        pub cost : ℤ
        pub path : IsNumberedPath stands first numbers nodes cost
        pub number : ℕ
        pub here : stands number (end_of first nodes)
        pub cheapest : (s : X) → starts s → (w : List X) (u : ℤ) → GoesAlong s w u → stands number (end_of s w) → cost ≤ℤ u
        pub next : X
        pub price : ℤ
        pub edge : step (end_of first nodes) price next
        pub all_past : (z : ℤ) → step (end_of first nodes) z next → ¬ (fits (cost +ℤ z))
        pub none_cheaper : NoGoalBelow cost
