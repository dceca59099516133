-- Estimates of the cost that remains, and what a search asks of them.
use Rattle.std.specs.Prelude.{◌≡◌, ◌≤ℤ◌, ◌+ℤ◌, ℤ, pos, Bool, true, List, [], ◌∷◌}
use Rattle.std.specs.Borrow.{Bor}
use Rattle.std.specs.Fn.{Mut}
use Rattle.pf_base.specs.Walks.{IsGoalWalk, IsGoalPath}
use Rattle.pf_base.specs.Edges.{IsSuccessor, WalkCosts, InReach, IsWeightedSearch, NoGoalWalkCostsLess}
use Rattle.pf_base.specs.Answers.{Answers}

module _ {F N C : Type 0} (calls : Mut F (Bor N × Unit {0}) C) (eq : N → N → Bool) (value : C → ℤ) where
  -- At each node within, now and after any calls, f may be called and answers this estimate. Equal nodes have the same estimate.
  pub record AnswersEstimate (f : F) (within : N → Type 0) (estimate : N → ℤ) : Type 0 where
    pub alike : (x y : N) → within x → eq x y ≡ true → estimate x ≡ estimate y
    pub answers : Answers calls within (λ x r. value r ≡ estimate x) f

module _ {N : Type 0} (eq : N → N → Bool) (edges : N → List (N × ℤ)) (starts : List N) where
  -- In reach of the starts, an estimate is never negative, and never above what a walk from its node to a node that passes the test costs. Where there is no such walk, it may be any number from 0 up.
  pub record IsAdmissible (test : N → Bool) (estimate : N → ℤ) : Type 0 where
    pub from_zero : (x : N) → InReach eq edges starts x → pos 0 ≤ℤ estimate x
    pub never_above : (x : N) → InReach eq edges starts x → NoGoalWalkCostsLess eq edges (x ∷ []) test (estimate x)

  -- The functions that are handed in answer these edges, this test and this estimate in reach of the starts, where no edge costs less than 0 and the estimate is admissible.
  pub record IsInformedSearch (answers : (N → Type 0) → (N → List (N × ℤ)) → Type 0) (tests : (N → Type 0) → (N → Bool) → Type 0) (estimates : (N → Type 0) → (N → ℤ) → Type 0) (test : N → Bool) (estimate : N → ℤ) : Type 0 where
    pub weighted : IsWeightedSearch eq edges starts answers tests test
    pub estimate_answered : estimates (InReach eq edges starts) estimate
    pub admissible : IsAdmissible test estimate

  -- What some path from a start costs, and the estimate at its end, do not fit together.
  pub record EstimateOverflows (estimate : N → ℤ) (fits : ℤ → Type 0) : Type 0 where
    pub node : N
    pub path : List N
    pub cost : ℤ
    pub goes : IsGoalPath eq (IsSuccessor eq edges) starts (λ y. eq y node) path
    pub costs : WalkCosts eq edges path cost
    pub past : ¬ (fits (cost +ℤ estimate node))

  -- the cost of no walk from a start to a node that passes the test fits
  abbrev pub NoGoalWalkFits : (N → Bool) → (ℤ → Type 0) → Type 0
  NoGoalWalkFits test fits = (walk : List N) (u : ℤ) → IsGoalWalk eq (IsSuccessor eq edges) starts test walk → WalkCosts eq edges walk u → ¬ (fits u)

  -- a cost overflow may come: the cost of some path from a start, and the estimate at its end, do not fit together, and the cost of no walk to a node that passes the test fits
  abbrev pub MayOverflow : (N → Bool) → (N → ℤ) → (ℤ → Type 0) → Type 0
  MayOverflow test estimate fits = EstimateOverflows estimate fits × NoGoalWalkFits test fits

-- What functions that list edges, test nodes and estimate answer from the starts on, where no edge costs less than 0 and the estimate is admissible.
module _ {N : Type 0} (eq : N → N → Bool) (starts : List N) (answers : (N → Type 0) → (N → List (N × ℤ)) → Type 0) (tests : (N → Type 0) → (N → Bool) → Type 0) (estimates : (N → Type 0) → (N → ℤ) → Type 0) where
  -- they answer some edges, some test and some estimate
  abbrev pub AnswersInformedSearch : Type 0
  AnswersInformedSearch = (edges : N → List (N × ℤ)) × (test : N → Bool) × (estimate : N → ℤ) × IsInformedSearch eq edges starts answers tests estimates test estimate

  -- of whatever edges, test and estimate they answer, P holds
  abbrev pub OfInformedSearch : ((N → List (N × ℤ)) → (N → Bool) → (N → ℤ) → Type 0) → Type 0
  OfInformedSearch P = (edges : N → List (N × ℤ)) (test : N → Bool) (estimate : N → ℤ) → IsInformedSearch eq edges starts answers tests estimates test estimate → P edges test estimate
