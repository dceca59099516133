-- The text of a grid, one line after another.
use Rattle.std.proofs.Common.{◌≡◌, ℕ, suc, ◌+◌, ◌∙◌, ap, sym, refl, arith, Bool, List, [], ◌++◌, encode_utf8}
use Rattle.std.specs.Prelude.{if◌then◌else◌}
use Rattle.std.proofs.lemmas.List.{append-nil}
use Rattle.pf_grid.specs.GridPositions.{Positions, has}
use Rattle.pf_grid.specs.Texts.{line_to, line_end, lines_to, row_of}

module _ (g : Positions) (present absent : ℕ) where
  pub line_none : (y : ℕ) (bs : List ℕ) → bs ≡ bs ++ line_to g present absent y 0
  unfolding line_to
  line_none y bs = sym (append-nil bs)

  line_suc : (y x : ℕ) → line_to g present absent y (suc x) ≡ line_to g present absent y x ++ encode_utf8 (if has g x y then present else absent)
  unfolding line_to
  line_suc y x = refl

  pub line_more : (y x : ℕ) → line_to g present absent y (x + 1) ≡ line_to g present absent y x ++ encode_utf8 (if has g x y then present else absent)
  line_more y x = let e : x + 1 ≡ suc x = omega arith in ap (line_to g present absent y) e ∙ line_suc y x

  pub lines_none : (reversed : Bool) → [] ≡ lines_to g present absent reversed 0
  unfolding lines_to
  lines_none reversed = refl

  lines_suc : (reversed : Bool) (n : ℕ) → lines_to g present absent reversed (suc n) ≡ lines_to g present absent reversed n ++ (line_end n ++ line_to g present absent (row_of g present absent reversed n) g.width)
  unfolding lines_to
  lines_suc reversed n = refl

  pub lines_more : (reversed : Bool) (n : ℕ) → lines_to g present absent reversed (n + 1) ≡ lines_to g present absent reversed n ++ (line_end n ++ line_to g present absent (row_of g present absent reversed n) g.width)
  lines_more reversed n = let e : n + 1 ≡ suc n = omega arith in ap (lines_to g present absent reversed) e ∙ lines_suc reversed n
