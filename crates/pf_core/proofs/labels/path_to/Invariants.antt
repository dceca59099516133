use Rattle.std.proofs.Common.{◌≡◌, ◌<◌, ℕ, List, ◌++◌, ◌∷◌, length}
use Rattle.std.specs.Prelude.{Contains}
use Rattle.pf_core.specs.Labels.{Climbs}
use Rattle.pf_core.proofs.ClimbLemmas.{steps_up}
use Rattle.pf_core.proofs.labels.path_to.Given as goal

-- whatever leads on from `at` to a number of depth 0 leads, behind the numbers so far, there from `last`
abbrev pub invariant-climb : goal.invariant-climb
invariant-climb g l = record {
  ahead : (above : List ℕ) × Climbs l.labels l.at above;
  inside : (k : ℕ) → Contains l.numbers.items k → k < length l.labels;
  climbs : (above : List ℕ) → Climbs l.labels l.at above → (rest : List ℕ) × (l.numbers.items ++ above ≡ l.last ∷ rest) × Climbs l.labels l.last rest;
}

abbrev pub decreases-climb : goal.decreases-climb
decreases-climb g l = steps_up l.labels (length l.labels) l.at
