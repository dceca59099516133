-- The borders, one pair of positions after another.
use Rattle.std.proofs.Common.{◌≡◌, ℕ, ◌+◌, ◌-◌, ◌<◌, ◌∙◌, ap, arith, Bool, false, ◌&&◌, ◌||◌, nat_eq, nat_lt}
use Rattle.std.specs.Prelude.{if◌then◌else◌}
use Rattle.std.proofs.lemmas.Bool.Decides.{nat_tests}
use Rattle.pf_grid.specs.GridPositions.{Positions, with_vertices, has, is_position}
use Rattle.pf_grid.proofs.CellLemmas.{put_more, if_or, same_grids}

-- the first and the last of n
abbrev pub is_end : ℕ → ℕ → Bool
is_end n k = nat_eq k 0 || nat_eq (k + 1) n

-- the ends of the columns before `at`
abbrev pub in_rows : ℕ → ℕ → ℕ → ℕ → Bool
in_rows height at x y = nat_lt x at && is_end height y

-- all ends of columns, and the ends of the rows before `at`
abbrev pub in_both : ℕ → ℕ → ℕ → ℕ → ℕ → Bool
in_both width height at x y = is_end height y || (nat_lt y at && is_end width x)

rows_more : (h at x y : ℕ) → 0 < h → y < h → (is_position (at, h - 1) x y || (is_position (at, 0) x y || in_rows h at x y)) ≡ in_rows h (at + 1) x y
rows_more h at x y p q = grind (arith, nat_tests)

both_more : (w h at x y : ℕ) → 0 < w → x < w → (is_position (w - 1, at) x y || (is_position (0, at) x y || in_both w h at x y)) ≡ in_both w h (at + 1) x y
both_more w h at x y p q = grind (arith, nat_tests)

-- two positions more
two_more : (g a b c : Positions) (p q : ℕ × ℕ) (v : Bool) (s u : ℕ → ℕ → Bool)
    → a ≡ with_vertices g (λ x y. if s x y then v else has g x y)
    → b ≡ with_vertices a (λ x y. if is_position p x y then v else has a x y)
    → c ≡ with_vertices b (λ x y. if is_position q x y then v else has b x y)
    → ((x y : ℕ) → x < g.width → y < g.height → (is_position q x y || (is_position p x y || s x y)) ≡ u x y)
    → c ≡ with_vertices g (λ x y. if u x y then v else has g x y)
two_more g a b c p q v s u ea eb ec h =
    let first = put_more g a b p v (λ x y. if s x y then v else has g x y) (λ x y. if is_position p x y || s x y then v else has g x y) ea eb (λ x y i j. if_or (is_position p x y) (s x y) v (has g x y)) in
    put_more g b c q v (λ x y. if is_position p x y || s x y then v else has g x y) (λ x y. if u x y then v else has g x y) first ec (λ x y i j.
    if_or (is_position q x y) (is_position p x y || s x y) v (has g x y) ∙ ap (λ t. if t then v else has g x y) (h x y i j))

pub column_more : (g a b c : Positions) (h at : ℕ) (v : Bool) → h ≡ g.height → (h ≡ 0 → ⊥)
    → a ≡ with_vertices g (λ x y. if in_rows g.height at x y then v else has g x y)
    → b ≡ with_vertices a (λ x y. if is_position (at, 0) x y then v else has a x y)
    → c ≡ with_vertices b (λ x y. if is_position (at, h - 1) x y then v else has b x y)
    → c ≡ with_vertices g (λ x y. if in_rows g.height (at + 1) x y then v else has g x y)
column_more g a b c h at v e some ea eb ec =
    two_more g a b c (at, 0) (at, g.height - 1) v (in_rows g.height at) (in_rows g.height (at + 1)) ea eb
    (ec ∙ ap (λ n. with_vertices b (λ x y. if is_position (at, n - 1) x y then v else has b x y)) e)
    (λ x y i j. rows_more g.height at x y (omega arith) j)

pub row_more : (g a b c : Positions) (w at : ℕ) (v : Bool) → w ≡ g.width → (w ≡ 0 → ⊥)
    → a ≡ with_vertices g (λ x y. if in_both g.width g.height at x y then v else has g x y)
    → b ≡ with_vertices a (λ x y. if is_position (0, at) x y then v else has a x y)
    → c ≡ with_vertices b (λ x y. if is_position (w - 1, at) x y then v else has b x y)
    → c ≡ with_vertices g (λ x y. if in_both g.width g.height (at + 1) x y then v else has g x y)
row_more g a b c w at v e some ea eb ec =
    two_more g a b c (0, at) (g.width - 1, at) v (in_both g.width g.height at) (in_both g.width g.height (at + 1)) ea eb
    (ec ∙ ap (λ n. with_vertices b (λ x y. if is_position (n - 1, at) x y then v else has b x y)) e)
    (λ x y i j. both_more g.width g.height at x y (omega arith) i)

pub none_yet : (h x y : ℕ) → in_rows h 0 x y ≡ false
none_yet h x y = grind (arith, nat_tests)

pub all_columns : (w h at x y : ℕ) → x < at → in_rows h at x y ≡ in_both w h 0 x y
all_columns w h at x y p = grind (arith, nat_tests)

pub all_rows : (w h at x y : ℕ) → y < at → in_both w h at x y ≡ (is_end w x || is_end h y)
all_rows w h at x y p = grind (arith, nat_tests)

-- another test of the same positions
pub same_test : (g a : Positions) (v : Bool) (s u : ℕ → ℕ → Bool) → a ≡ with_vertices g (λ x y. if s x y then v else has g x y)
    → ((x y : ℕ) → x < g.width → y < g.height → s x y ≡ u x y) → a ≡ with_vertices g (λ x y. if u x y then v else has g x y)
same_test g a v s u e h = e ∙ same_grids g.width g.height g.diagonal (λ x y. if s x y then v else has g x y) (λ x y. if u x y then v else has g x y) (λ x y i j. ap (λ t. if t then v else has g x y) (h x y i j))
