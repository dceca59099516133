-- Groups joined in order.
use Rattle.std.specs.Prelude.{◌≡◌, ◌++◌, List, [], ◌∷◌, Vec, IsPermutation}

-- the groups one behind another, each arranged anyhow
abbrev pub AreJoined : {N A : Type 0} → List (Vec N A) → List N → Type 0
AreJoined [] order = order ≡ []
AreJoined {N} (group ∷ groups) order = (arranged : List N) × (rest : List N) × IsPermutation group.items arranged × (order ≡ arranged ++ rest) × AreJoined groups rest
