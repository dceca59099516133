-- Edges of an undirected graph: each is written as its two ends and its weight. Nodes are the same where `eq` says so.
use Rattle.std.specs.Prelude.{◌≡◌, ◌≢◌, ◌<◌, ◌+ℤ◌, ◌↔◌, ℕ, ℤ, pos, Bool, true, List, [], ◌∷◌, ◌++◌, All, Contains, map}
use Rattle.std.specs.declared.cmp.Ordering.{Ordering}
use Rattle.std.specs.declared.cmp.Ordering.TheVariants.{Greater}
use Rattle.pf_union_find.specs.Joined.{Joined}

-- one of the edges is written from x to y
abbrev pub Links : {N C : Type 0} → List (N × N × C) → N → N → Type 0
Links {N} {C} edges x y = (e : N × N × C) × Contains edges e × (e.0 ≡ x) × (e.1 ≡ y)

-- one of the edges of weight at most w is written from x to y
abbrev pub LinksUnder : {N C : Type 0} → (C → C → Ordering) → C → List (N × N × C) → N → N → Type 0
LinksUnder {N} {C} cmp w edges x y = (e : N × N × C) × Contains edges e × (cmp e.2 w ≢ Greater) × (e.0 ≡ x) × (e.1 ≡ y)

module _ {N C : Type 0} (eq : N → N → Bool) where
  -- x and y are joined by the edges
  abbrev pub JoinedBy : List (N × N × C) → N → N → Type 0
  JoinedBy edges = Joined eq (Links edges)

  -- x and y are joined by the edges of weight at most w
  abbrev pub JoinedUnder : (C → C → Ordering) → C → List (N × N × C) → N → N → Type 0
  JoinedUnder cmp w edges = Joined eq (LinksUnder cmp w edges)

  -- no edge's ends are joined by the other edges
  pub record IsForest (forest : List (N × N × C)) : Type 0 where
    pub apart : (before after : List (N × N × C)) (e : N × N × C) → forest ≡ before ++ e ∷ after → ¬ (JoinedBy (before ++ after) e.0 e.1)

  -- whatever the bound, the nodes that the edges within it join, the chosen edges within it join
  pub record IsLeastUnderEveryBound (cmp : C → C → Ordering) (edges chosen : List (N × N × C)) : Type 0 where
    pub joins : (w : C) (x y : N) → JoinedUnder cmp w edges x y → JoinedUnder cmp w chosen x y

-- each chosen edge is one of the edges as written, with its weight or a clone of it
pub record AreChosenFrom {N C : Type 0} (is_clone : C → C → Type 0) (edges chosen : List (N × N × C)) : Type 0 where
  pub as_written : (e : N × N × C) → Contains chosen e → (g : N × N × C) × Contains edges g × (g.0 ≡ e.0) × (g.1 ≡ e.1) × is_clone g.2 e.2

-- both ends of each edge are below n
abbrev pub AreBelow : {C : Type 0} → ℕ → List (ℕ × ℕ × C) → Type 0
AreBelow n edges = All (λ e. (e.0 < n) × (e.1 < n)) edges

-- the sum of the values of the edges' weights
abbrev pub weight_sum : {N C : Type 0} → (C → ℤ) → List (N × N × C) → ℤ
weight_sum value [] = pos 0
weight_sum value (e ∷ es) = value e.2 +ℤ weight_sum value es

-- two lists of edges join the same nodes
pub record JoinTheSame {N C : Type 0} (eq : N → N → Bool) (some others : List (N × N × C)) : Type 0 where
  pub same_nodes : (x y : N) → JoinedBy eq some x y ↔ JoinedBy eq others x y

-- a forest of the edges that is least under every bound
pub record IsLeastForest {N C : Type 0} (eq : N → N → Bool) (cmp : C → C → Ordering) (edges forest : List (N × N × C)) : Type 0 where
  pub no_cycle : IsForest eq forest
  pub least : IsLeastUnderEveryBound eq cmp edges forest
  pub given : AreChosenFrom (λ (w u : C). u ≡ w) edges forest

-- the edges with nodes for their numbers
abbrev pub named : {N C : Type 0} → (ℕ → N) → List (ℕ × ℕ × C) → List (N × N × C)
named name = map (λ e. (name e.0, name e.1, e.2))

-- no two numbers below the count stand for nodes that are the same
abbrev pub AreNamedApart : {N : Type 0} → (N → N → Bool) → ℕ → (ℕ → N) → Type 0
AreNamedApart eq count name = (i j : ℕ) → i < count → j < count → eq (name i) (name j) ≡ true → i ≡ j
