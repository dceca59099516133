-- Floods: where the vertices beside a vertex lie.
use Rattle.std.proofs.Common.{◌≡◌, refl, subst, ℕ, Bool, true, false, Option, Some, None, List, [], ◌∷◌}
use Rattle.std.specs.Prelude.{◌||◌, not, if◌then◌else◌}
use Rattle.std.specs.List.{AllByRecursion, cons_option, filter_map}
use Rattle.pf_matrix.specs.Calls.{CallableInTurn}
use Rattle.pf_matrix.specs.Internal.Flooding.{Has}
use Rattle.pf_matrix.proofs.FloodLemmas.{IsIn, all_has}
use Rattle.pf_matrix.specs.Positions.{positions}
use Rattle.pf_grid.specs.GridPositions.{Positions, has}
use Rattle.pf_grid.specs.Steps.{around, neighbours_of, shifted, target, vertex_at}
use Rattle.pf_base.specs.Shifts.{is_diagonal}
use Rattle.pf_base.specs.declared.shift.Shift.{Shift}
use Rattle.pf_grid.proofs.CellLemmas.{has_is_inside}

all_mapped : {X Y : Type 0} (f : X → Option Y) (P : Y → Type 0) (xs : List X) → ((x : X) (y : Y) → f x ≡ Some y → P y) → AllByRecursion P (filter_map f xs)
all_mapped f P [] h = tt
all_mapped {Y = Y} f P (x ∷ xs) h = by (f x) refl (all_mapped f P xs h)
  where
    by : (o : Option Y) → f x ≡ o → AllByRecursion P (filter_map f xs) → AllByRecursion P (cons_option o (filter_map f xs))
    by None e r = r
    by (Some y) e r = (h x y e, r)

module _ (g : Positions) where
  vertex_has : (a b : Option ℕ) (p : ℕ × ℕ) → vertex_at g a b ≡ Some p → has g p.0 p.1 ≡ true
  vertex_has None b p e = absurd (cc)
  vertex_has (Some x) None p e = absurd (cc)
  vertex_has (Some x) (Some y) p e = by (has g x y) refl e
    where
      by : (v : Bool) → has g x y ≡ v → (if v then Some (x, y) else None) ≡ Some p → has g p.0 p.1 ≡ true
      by true h k = let is : (x, y) ≡ p = cc in subst (λ (q : ℕ × ℕ). has g q.0 q.1 ≡ true) is h
      by false h k = absurd (cc)

  neighbours_all : (P : ℕ × ℕ → Type 0) → ((p : ℕ × ℕ) → has g p.0 p.1 ≡ true → P p) → (at : ℕ × ℕ) → AllByRecursion P (neighbours_of g at)
  neighbours_all P keeps at = by (has g at.0 at.1)
    where
      step : (to : Shift × Shift) (p : ℕ × ℕ) → target g at to ≡ Some p → P p
      step to p e = allowed (g.diagonal || not (is_diagonal to)) e
        where
          allowed : (b : Bool) → (if b then vertex_at g (shifted at.0 to.0) (shifted at.1 to.1) else None) ≡ Some p → P p
          allowed true k = keeps p (vertex_has (shifted at.0 to.0) (shifted at.1 to.1) p k)
          allowed false k = absurd (cc)

      by : (b : Bool) → AllByRecursion P (if b then filter_map (target g at) around else [])
      by true = all_mapped (target g at) P around step
      by false = tt

  -- the vertices beside a vertex are inside
  pub near_in : (at q : ℕ × ℕ) → Has (neighbours_of g at) q → IsIn g.width g.height q
  near_in at q h = all_has (IsIn g.width g.height) (neighbours_of g at) (neighbours_all (IsIn g.width g.height) (λ p v. has_is_inside g p.0 p.1 v) at) q h

-- a function that may be called at the positions of one grid may be called at those of an equal one
pub callable_on : {F Y : Type 0} {pre : F → ℕ × ℕ → Type 0} {step : F → ℕ × ℕ → Y → F → Type 0} {f : F} {a b : Positions} → a ≡ b → CallableInTurn pre step f (positions a.width a.height) → CallableInTurn pre step f (positions b.width b.height)
callable_on {pre = pre} {step = step} {f = f} e callable = subst (λ (z : Positions). CallableInTurn pre step f (positions z.width z.height)) e callable
