-- Groups that stand for starts and the nodes next to them.
use Rattle.std.specs.Prelude.{◌↔◌, Bool, List, ◌∷◌, Vec}
use Rattle.std.specs.List.{AllZip}
use Rattle.pf_base.specs.Walks.{HasNode}

-- the group has s and the nodes next to it, and no others
abbrev pub IsGroupAround : {N A : Type 0} → (N → N → Bool) → (N → List N) → N → Vec N A → Type 0
IsGroupAround {N} eq adjacent s group = (x : N) → HasNode eq group.items x ↔ HasNode eq (s ∷ adjacent s) x

-- there is a group for each start, in order, with this start and the nodes next to it
abbrev pub AreGroupsAround : {N A : Type 0} → (N → N → Bool) → (N → List N) → List N → List (Vec N A) → Type 0
AreGroupsAround eq adjacent = AllZip (IsGroupAround eq adjacent)
