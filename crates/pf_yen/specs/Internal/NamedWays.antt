-- The way behind a prefix that remaining costs name.
use Rattle.std.specs.Prelude.{◌≡◌, ◌⊎◌, ◌≤ℤ◌, ◌+ℤ◌, ◌<◌, ◌++◌, ℕ, ℤ, Bool, true, false, not, ◌&&◌, List, ◌∷◌, length, Contains, Option, Some, slice_get, nat_eq, MatchOption, ⊤}
use Rattle.pf_base.specs.Walks.{HasNode, NoRepeats, end_of}
use Rattle.pf_core.specs.Steps.{GoesAlong}
use Rattle.pf_yen.specs.Internal.Adjacency.{AdjacencyLists, is_goal, AdjacencyStep}
use Rattle.pf_yen.specs.Internal.Classes.{is_in}
use Rattle.pf_yen.specs.Internal.Filtered.{is_new}
use Rattle.pf_yen.specs.Internal.Splits.{IsFilteredTo, IsCheapestAlong, HasNoneAlong}
use Rattle.pf_yen.specs.declared.named.Named.{Named}
use Rattle.pf_yen.specs.declared.named.Named.TheVariants.{Way, Nothing, Unknown}

-- whether a path may go on to the number from the spur
abbrev pub is_first : List (Option ℕ) → ℕ → List ℕ → ℕ → Bool
is_first onward spur banned x = is_new onward spur x && not (is_in banned x)

module _ {C : Type 0} (value : C → ℤ) where
  -- the way from number 0 over q costs this, where the cost is known, and no parallel steps cost less
  abbrev pub IsSpent : AdjacencyLists C → List ℕ → Option C → Type 0
  IsSpent k q spent = MatchOption spent ⊤ (λ s. GoesAlong (AdjacencyStep value k) 0 q (value s) × ((u : ℤ) → GoesAlong (AdjacencyStep value k) 0 q u → value s ≤ℤ u))

  -- One of these steps leads to a number that may come first, and no other of them costs less with what remains behind it.
  pub record IsFirstStep (first : ℕ → Bool) (costs : List (Option C)) (steps : List (ℕ × C)) (next : ℕ) (sum : C) : Type 0 where
    pub may : first next ≡ true
    pub price : C
    pub rest : C
    pub edge : Contains steps (next, price)
    pub known : slice_get costs next ≡ Some (Some rest)
    pub is : value sum ≡ value price +ℤ value rest
    pub least : (b : ℕ) (c y : C) → Contains steps (b, c) → first b ≡ true → slice_get costs b ≡ Some (Some y) → value sum ≤ℤ (value c +ℤ value y)

  -- no goal is reached behind a first step
  abbrev pub HasNoFirst : (ℕ → Bool) → List (Option C) → List (ℕ × C) → Type 0
  HasNoFirst first costs steps = (b : ℕ) (c y : C) → Contains steps (b, c) → first b ≡ true → ¬ (slice_get costs b ≡ Some (Some y))

  -- the best first step, where there is one
  abbrev pub IsBestFirst : (ℕ → Bool) → List (Option C) → List (ℕ × C) → Option (ℕ × C) → Type 0
  IsBestFirst first costs steps best = MatchOption best (HasNoFirst first costs steps) (λ r. IsFirstStep first costs steps r.0 r.1)

  -- a step to a number that was not met, behind which so much less remains
  pub record IsNextStep (onward : List (Option ℕ)) (spur : ℕ) (costs : List (Option C)) (steps : List (ℕ × C)) (here : C) (next : ℕ) (rest : C) : Type 0 where
    pub new : is_new onward spur next ≡ true
    pub price : C
    pub edge : Contains steps (next, price)
    pub known : slice_get costs next ≡ Some (Some rest)
    pub is : value here ≡ value price +ℤ value rest
    pub less : ¬ (value here ≤ℤ value rest)

  -- A prefix of a clean path that goes on: the graph is narrowed to it, and what it costs is known.
  pub record IsPrefix (k : AdjacencyLists C) (onward : List (Option ℕ)) (spur : ℕ) (q : List ℕ) (spent : Option C) : Type 0 where
    pub filtered : IsFilteredTo k onward spur q
    pub distinct : NoRepeats nat_eq (0 ∷ q)
    pub live : is_goal k spur ≡ false
    pub costs : IsSpent k q spent

  -- A path behind the prefix of 0 and q, which goes on to a number that is not banned, so far: what it costs is the total but for what remains from its last number, from which less remains than from each number behind the prefix.
  pub record IsWaySoFar (k : AdjacencyLists C) (onward : List (Option ℕ)) (spur : ℕ) (q banned : List ℕ) (costs : List (Option C)) (total : ℤ) (path : List ℕ) (number : ℕ) (here : C) : Type 0 where
    pub first : ℕ
    pub free : is_in banned first ≡ false
    pub more : List ℕ
    pub is : path ≡ 0 ∷ (q ++ first ∷ more)
    pub cost : ℤ
    pub goes : GoesAlong (AdjacencyStep value k) 0 (q ++ first ∷ more) cost
    pub distinct : NoRepeats nat_eq (0 ∷ (q ++ first ∷ more))
    pub ends : end_of 0 (q ++ first ∷ more) ≡ number
    pub inside : number < length k.rows
    pub known : slice_get costs number ≡ Some (Some here)
    pub sum : total ≡ cost +ℤ value here
    pub above : (x : ℕ) → HasNode nat_eq (0 ∷ (q ++ first ∷ more)) x → (is_new onward spur x ≡ false) ⊎ ((z : C) × (slice_get costs x ≡ Some (Some z)) × (value here ≤ℤ value z))

  -- what is found of the class of the prefix of 0 and q and of the banned numbers: a cheapest path, that it has none, or nothing
  abbrev pub IsNamed : {A : Type 0} → AdjacencyLists C → List ℕ → List ℕ → Named C A → Type 0
  IsNamed k q banned (Way path cost) = IsCheapestAlong value k q banned path.items cost
  IsNamed k q banned Nothing = HasNoneAlong value k q banned
  IsNamed k q banned Unknown = ⊤
