-- The cells of a grid by its test.
use Rattle.std.proofs.Common.{◌≡◌, ℕ, zero, suc, ◌+◌, ◌*◌, ◌/◌, ◌%◌, ◌^◌, ◌<◌, ◌≤◌, ◌∙◌, sym, refl, ap, subst, arith, inl, inr, Bool, true, false, true≢false, not, ◌&&◌, ◌||◌, length, get_or, nat_eq, nat_lt}
use Rattle.std.specs.Prelude.{if◌then◌else◌}
use Rattle.std.proofs.lemmas.Bool.{cases_Bool, lt-ltb, le-ltb, ltb-true, eqb-true}
use Rattle.std.proofs.lemmas.List.{same_lists, get_or_default}
use Rattle.std.proofs.lemmas.List.FromFn.{length-map-range_with_len, get_or-map-range_with_len}
use Rattle.std.proofs.lemmas.Nat.{mul-add-lt, div-mul-add, mod-mul-add, div-add-mod'}
use Rattle.std.proofs.Math.Nat.{mod-lt, div-lt_iff_lt-mul}
use Rattle.pf_grid.specs.GridPositions.{Positions, IsGrid, cells_of, grid_of, with_vertices, has, is_inside, is_position}

pub length-cells_of : (w h : ℕ) (f : ℕ → ℕ → Bool) → length (cells_of w h f) ≡ w * h
unfolding cells_of
length-cells_of w h f = length-map-range_with_len (λ k. f (k % w) (k / w)) 0 (w * h)

-- the cell at place k
pub cell_at : (w h : ℕ) (f : ℕ → ℕ → Bool) (k : ℕ) (d : Bool) → k < w * h → get_or (cells_of w h f) k d ≡ f (k % w) (k / w)
unfolding cells_of
cell_at w h f k d p = get_or-map-range_with_len (λ n. f (n % w) (n / w)) 0 (w * h) k k d p (omega arith)

-- the cell at the place of (x, y)
pub cell_of : (w h : ℕ) (f : ℕ → ℕ → Bool) (x y : ℕ) (d : Bool) → x < w → y < h → get_or (cells_of w h f) (y * w + x) d ≡ f x y
cell_of w h f x y d p q =
    cell_at w h f (y * w + x) d (omega (arith, mul-add-lt y w x h q p)) ∙ (λ i. f (mod-mul-add y w x p i) (div-mul-add y w x p i))

-- where there is a place, there are columns and rows
wide_at : (w h k : ℕ) → k < w * h → 0 < w
wide_at zero h k p = absurd (omega (arith, p))
wide_at (suc w) h k p = omega arith

pub row_at : (w h k : ℕ) → k < w * h → k / w < h
row_at w h k p = (div-lt_iff_lt-mul (wide_at w h k p)).1 (omega arith)

pub column_at : (w h k : ℕ) → k < w * h → k % w < w
column_at w h k p = mod-lt k (wide_at w h k p)

-- two tests that agree inside give the same cells
pub same_cells : (w h : ℕ) (f g : ℕ → ℕ → Bool) → ((x y : ℕ) → x < w → y < h → f x y ≡ g x y) → cells_of w h f ≡ cells_of w h g
same_cells w h f g e =
    same_lists (cells_of w h f) (cells_of w h g) (length-cells_of w h f ∙ sym (length-cells_of w h g)) (λ k d p.
    let q : k < w * h = omega (arith, length-cells_of w h f) in
    cell_at w h f k d q ∙ e (k % w) (k / w) (column_at w h k q) (row_at w h k q) ∙ sym (cell_at w h g k d q))

pub same_grids : (w h : ℕ) (d : Bool) (f g : ℕ → ℕ → Bool) → ((x y : ℕ) → x < w → y < h → f x y ≡ g x y) → grid_of w h d f ≡ grid_of w h d g
same_grids w h d f g e = ap (λ cells. record { width = w; height = h; diagonal = d; cells = cells }) (same_cells w h f g e)

pub inside_yes : (g : Positions) (x y : ℕ) → x < g.width → y < g.height → is_inside g x y ≡ true
inside_yes g x y p q = let a = lt-ltb x g.width p in let b = lt-ltb y g.height q in cc

-- whether a position inside is a vertex
pub has_inside : (w h : ℕ) (d : Bool) (f : ℕ → ℕ → Bool) (x y : ℕ) → x < w → y < h → has (grid_of w h d f) x y ≡ f x y
has_inside w h d f x y p q =
    ap (λ t. t && get_or (cells_of w h f) (y * w + x) false) (inside_yes (grid_of w h d f) x y p q) ∙ cell_of w h f x y false p q

-- ---- a grid whose view is this

module _ (g : Positions) (w h : ℕ) (d : Bool) (f : ℕ → ℕ → Bool) (view : grid_of w h d f ≡ g) where
  pub grid_from_view : w * h < 2 ^ 64 → IsGrid g
  grid_from_view fits = subst (λ z. IsGrid z) view (record { sized = length-cells_of w h f; fits = fits })

  pub has_from_view : (x y : ℕ) → x < g.width → y < g.height → has g x y ≡ f x y
  has_from_view = subst (λ z. (x y : ℕ) → x < z.width → y < z.height → has z x y ≡ f x y) view (has_inside w h d f)

  -- the same, by the sizes that the view has
  pub view_has : (x y : ℕ) → x < w → y < h → f x y ≡ has g x y
  view_has x y p q = subst (λ z. f x y ≡ has z x y) view (sym (has_inside w h d f x y p q))

  -- the same sizes and mode, with other vertices
  pub changed_view : (n t : ℕ → ℕ → Bool) → ((x y : ℕ) → x < w → y < h → n x y ≡ t x y) → grid_of w h d n ≡ with_vertices g t
  changed_view n t e = same_grids w h d n t e ∙ ap (λ z. with_vertices z t) view

pub and_first : (a b : Bool) → (a && b) ≡ true → a ≡ true
and_first true b h = refl
and_first false b h = h

pub and_second : (a b : Bool) → (a && b) ≡ true → b ≡ true
and_second true b h = h
and_second false b h = absurd (true≢false (sym h))

not_false : (b : Bool) → not b ≡ false → b ≡ true
not_false true h = refl
not_false false h = absurd (true≢false h)

-- ---- a grid is the grid of its own vertices

pub place_split : (w k : ℕ) → k / w * w + k % w ≡ k
place_split w k = div-add-mod' k w

pub itself : (g : Positions) → IsGrid g → grid_of g.width g.height g.diagonal (has g) ≡ g
itself g ok = ap (λ cells. record { width = g.width; height = g.height; diagonal = g.diagonal; cells = cells }) cells
  where
    cells : cells_of g.width g.height (has g) ≡ g.cells
    cells = same_lists (cells_of g.width g.height (has g)) g.cells (length-cells_of g.width g.height (has g) ∙ sym ok.sized) (λ k d p.
        let q : k < g.width * g.height = omega (arith, length-cells_of g.width g.height (has g)) in
        cell_at g.width g.height (has g) k d q
        ∙ ap (λ t. t && get_or g.cells (k / g.width * g.width + k % g.width) false) (inside_yes g (k % g.width) (k / g.width) (column_at g.width g.height k q) (row_at g.width g.height k q))
        ∙ ap (λ i. get_or g.cells i false) (place_split g.width k)
        ∙ get_or_default g.cells k false d (omega (arith, ok.sized)))

-- a grid that is not changed, where the vertices that are stated are its own
pub unchanged : (g : Positions) (t : ℕ → ℕ → Bool) → IsGrid g → ((x y : ℕ) → x < g.width → y < g.height → has g x y ≡ t x y) → g ≡ with_vertices g t
unchanged g t ok e = sym (itself g ok) ∙ same_grids g.width g.height g.diagonal (has g) t e

-- the position is already a vertex, or outside
pub already : (g : Positions) (at : ℕ × ℕ) → (is_inside g at.0 at.1 && not (has g at.0 at.1)) ≡ false → (x y : ℕ) → x < g.width → y < g.height → has g x y ≡ (is_position at x y || has g x y)
already g at e x y p q = elim (cases_Bool (is_position at x y)) as (λ _. has g x y ≡ (is_position at x y || has g x y)) [
  | inl i ↦
      let a : x ≡ at.0 = eqb-true x at.0 (and_first _ _ i) in
      let b : y ≡ at.1 = eqb-true y at.1 (and_second (nat_eq x at.0) _ i) in
      let here : has g x y ≡ true = (λ j. has g (a j) (b j)) ∙ not_false _ (ap (λ t. t && not (has g at.0 at.1)) (sym (sym (λ j. is_inside g (a j) (b j)) ∙ inside_yes g x y p q)) ∙ e) in
      here ∙ sym (ap (λ t. t || has g x y) i)
  | inr n ↦ sym (ap (λ t. t || has g x y) n)
]

-- no vertex
pub never : (g : Positions) (at : ℕ × ℕ) → has g at.0 at.1 ≡ false → (x y : ℕ) → has g x y ≡ (not (is_position at x y) && has g x y)
never g at e x y = elim (cases_Bool (is_position at x y)) as (λ _. has g x y ≡ (not (is_position at x y) && has g x y)) [
  | inl i ↦
      let a : x ≡ at.0 = eqb-true x at.0 (and_first _ _ i) in
      let b : y ≡ at.1 = eqb-true y at.1 (and_second (nat_eq x at.0) _ i) in
      (λ j. has g (a j) (b j)) ∙ e ∙ sym (ap (λ t. not t && has g x y) i)
  | inr n ↦ sym (ap (λ t. not t && has g x y) n)
]

pub has_is_inside : (g : Positions) (x y : ℕ) → has g x y ≡ true → (x < g.width) × (y < g.height)
has_is_inside g x y h =
    let i = and_first (is_inside g x y) _ h in (ltb-true x g.width (and_first _ _ i), ltb-true y g.height (and_second (nat_lt x g.width) _ i))

pub outside_no : (g : Positions) (x y : ℕ) → ((x < g.width) × (y < g.height) → ⊥) → is_inside g x y ≡ false
outside_no g x y n = elim (cases_Bool (is_inside g x y)) as (λ _. is_inside g x y ≡ false) [
  | inl i ↦ absurd (n (ltb-true x g.width (and_first _ _ i), ltb-true y g.height (and_second (nat_lt x g.width) _ i)))
  | inr e ↦ e
]

pub and_no : (a b : Bool) → b ≡ false → (a && b) ≡ false
and_no true b h = h
and_no false b h = refl

pub has_beyond : (g : Positions) (x y : ℕ) → g.width ≤ x → has g x y ≡ false
has_beyond g x y h = ap (λ t. t && nat_lt y g.height && get_or g.cells (y * g.width + x) false) (le-ltb x g.width h)

-- ---- one position after another

-- b has one position more of those that are made `present`
pub put_more : (g a b : Positions) (p : ℕ × ℕ) (present : Bool) (t u : ℕ → ℕ → Bool) → a ≡ with_vertices g t
    → b ≡ with_vertices a (λ x y. if is_position p x y then present else has a x y)
    → ((x y : ℕ) → x < g.width → y < g.height → (if is_position p x y then present else t x y) ≡ u x y)
    → b ≡ with_vertices g u
put_more g a b p present t u ea eb h =
    eb ∙ ap (λ z. with_vertices z (λ x y. if is_position p x y then present else has z x y)) ea
    ∙ same_grids g.width g.height g.diagonal (λ x y. if is_position p x y then present else has (with_vertices g t) x y) u (λ x y i j.
    ap (λ o. if is_position p x y then present else o) (has_inside g.width g.height g.diagonal t x y i j) ∙ h x y i j)

pub if_or : (a b : Bool) (v o : Bool) → (if a then v else (if b then v else o)) ≡ (if a || b then v else o)
if_or true b v o = refl
if_or false b v o = refl
