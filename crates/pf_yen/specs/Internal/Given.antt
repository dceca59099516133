-- The paths that were given.
use Rattle.std.specs.Prelude.{List, [], ◌∷◌, ◌++◌}
use Rattle.pf_yen.specs.declared.given.Chain.{Chain, Nothing, Path'}

abbrev pub paths_of_chain : {N C A : Type 0} → Chain N C A → List (List N × C)
paths_of_chain Nothing = []
paths_of_chain (Path' a b before path cost) = paths_of_chain before ++ (path.value.items, cost.value) ∷ []
