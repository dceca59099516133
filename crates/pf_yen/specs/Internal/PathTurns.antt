-- What a step of a walk over clean paths gives, which `next` hands on.
use Rattle.std.specs.Prelude.{◌≡◌, ◌++◌, ℤ, Bool, List, [], ◌∷◌, Option, Some, None, Result, Ok, Err, Vec}
use Rattle.pf_base.specs.declared.error.PathError.{PathError}
use Rattle.pf_yen.specs.CleanPaths.{AllGiven, IsNextPath, RefusedFor}
use Rattle.pf_yen.specs.Walk.{PathWalk, IsEnded}

module _ {N C F T A : Type 0} (eq : N → N → Bool) (value : C → ℤ) (edges : N → List (N × ℤ)) (start : N) (test : N → Bool) (fits : ℤ → Type 0) where
  -- what a step of a walk that was not refused before gives, and how it leaves the walk: a path; no path, at the end; or a refusal, before the end and after
  abbrev pub PathTurn : PathWalk N C F T → Result (Option (Vec N A × C)) PathError → PathWalk N C F T → Type 0
  PathTurn walk (Ok (Some item)) after = IsNextPath eq edges start test value walk.given item.0.items item.1 × (after.given ≡ walk.given ++ (item.0.items, item.1) ∷ [])
  PathTurn walk (Ok None) after = AllGiven eq edges start test value walk.given × (after.given ≡ walk.given) × IsEnded after
  PathTurn walk (Err refusal) after = RefusedFor eq edges start test value fits walk.given refusal × (after.given ≡ walk.given) × ¬ (IsEnded walk) × ¬ (IsEnded after)
