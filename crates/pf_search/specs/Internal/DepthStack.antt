-- Where a lazy walk in preorder stands in its tree path, by the numbers of the nodes that it found.
use Rattle.std.specs.Prelude.{◌≡◌, ℕ, Bool, List, [], reverse, length}
use Rattle.std.proofs.Common.{refl}
use Rattle.std.specs.Coded.{Coded, code_by, coded×, coded_ℕ, coded_bool, coded_list}
use Rattle.std.specs.List.{AllZip}
use Rattle.pf_base.specs.Orders.{last_nodes}
use Rattle.pf_base.specs.Walks.{HasNode, end_of}
use Rattle.pf_discovery.specs.declared.depth_first.Branch.{Branch}
use Rattle.pf_discovery.specs.DepthFirst.{IsVisited, IsPending}
use Rattle.pf_core.specs.Nodes.{StandsFor}

-- the numbers of the given nodes, in order, and which numbers were visited; the numbers of the last tree path, and what waits behind it
pub record DepthStack : Type 0 where
  pub given : List ℕ
  pub visited : List Bool
  pub path : List ℕ
  pub waiting : List Branch

abbrev branch_code : Coded Branch
branch_code = code_by (ℕ × ℕ) (coded× coded_ℕ coded_ℕ) (λ b. (b.number, b.depth)) (λ p. record { number = p.0; depth = p.1 }) (λ _. refl)

abbrev pub stack_code : Coded DepthStack
stack_code = code_by (List ℕ × (List Bool × (List ℕ × List Branch))) (coded× (coded_list coded_ℕ) (coded× (coded_list coded_bool) (coded× (coded_list coded_ℕ) (coded_list branch_code))))
    (λ s. (s.given, (s.visited, (s.path, s.waiting)))) (λ p. record { given = p.0; visited = p.1.0; path = p.1.1.0; waiting = p.1.1.1 }) (λ _. refl)

module _ {N : Type 0} (eq : N → N → Bool) (next : N → List N) (start : N) where
  -- The stack is that of a walk that found these nodes and has gone along these tree paths: its numbers stand for the last nodes of the paths, in order, and for the nodes of the last path; the visited ones are those of given nodes; what waits is left at the nodes of the last path.
  pub record IsStack (paths : List (List N)) (found : List N) (stack : DepthStack) : Type 0 where
    pub count : length stack.given ≡ length paths
    pub given : AllZip (StandsFor eq found) stack.given (last_nodes paths)
    pub first : StandsFor eq found 0 start
    pub seen : (k : ℕ) → IsVisited stack.visited k → (x : N) × StandsFor eq found k x × HasNode eq (last_nodes paths) x
    pub marked : (x : N) → HasNode eq (last_nodes paths) x → (k : ℕ) × IsVisited stack.visited k × StandsFor eq found k x
    pub path : AllZip (StandsFor eq found) stack.path (end_of [] paths)
    pub pending : IsPending next (StandsFor eq found) (IsVisited stack.visited) (reverse stack.path) (reverse stack.waiting)
