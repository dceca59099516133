-- Arcs between vertices, and the search by depth first for a path over them.
use Rattle.std.specs.Prelude.{◌≡◌, ◌≤◌, ◌<◌, ◌+◌, ◌-◌, ◌*◌, ℕ, List, Some, length, slice_get, slice_index}
use Rattle.pf_residual.specs.Flows.{count_to}
use Rattle.pf_residual.specs.Networks.{Network}
use Rattle.pf_residual.specs.Internal.Levels.{IsAdmissiblePath}
use Rattle.pf_residual.specs.declared.current_arcs.CurrentArcs.{CurrentArcs}

-- arcs between n vertices: those of the vertex a are the targets from place a on to end a, each with a number by which a store finds it
pub record AreArcs (n : ℕ) (targets : List (ℕ × ℕ)) (places ends : List ℕ) : Type 0 where
  pub places_len : length places ≡ n
  pub ends_len : length ends ≡ n
  pub inside : (k : ℕ) (arc : ℕ × ℕ) → slice_get targets k ≡ Some arc → arc.0 < n
  pub within : (a : ℕ) → a < n → slice_index ends a ≤ length targets

-- how many arcs of n vertices are left
abbrev pub arcs_left : ℕ → List ℕ → List ℕ → ℕ
arcs_left n places ends = count_to (λ a. slice_index ends a - slice_index places a) n

-- a path to the sink along admissible arcs
pub record IsSinkPath (N : Network) (d : ℕ → ℕ) (path : List ℕ) : Type 0 where
  pub admissible : IsAdmissiblePath N d path (d N.sink)
  pub last : slice_index path (d N.sink) ≡ N.sink

-- a search for a path to the sink: the path so far, whose vertices before the last have an arc left
pub record IsPartialPath (N : Network) (levels : List ℕ) (targets : List (ℕ × ℕ)) (places ends path : List ℕ) (depth : ℕ) : Type 0 where
  pub admissible : IsAdmissiblePath N (slice_index levels) path depth
  pub arcs : AreArcs N.vertices targets places ends
  pub ahead : (k : ℕ) → k < depth → slice_index places (slice_index path k) < slice_index ends (slice_index path k)
  pub low : depth ≤ slice_index levels N.sink
  pub last : depth ≡ slice_index levels N.sink → slice_index path depth ≡ N.sink
  pub reached : slice_index levels N.sink < N.vertices
  pub levels_len : length levels ≡ N.vertices
  pub path_len : length path ≡ N.vertices

-- what falls with each move of the search
abbrev pub work_left : Network → List ℕ → List ℕ → List ℕ → ℕ → ℕ
work_left N levels places ends depth = 2 * arcs_left N.vertices places ends + (slice_index levels N.sink - depth)

-- the same of the arcs of a search
abbrev pub work_of : {A : Type 0} → Network → List ℕ → CurrentArcs A → ℕ → ℕ
work_of N levels arcs depth = work_left N levels arcs.places.items arcs.ends.items depth
