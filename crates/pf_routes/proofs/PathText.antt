-- The lines of paths.
use Rattle.std.proofs.Common.{◌≡◌, ℕ, ◌+◌, ◌<◌, ◌≤◌, List, [], ◌∷◌, ◌++◌, map, take, length, get_or, refl, sym, ap, ◌∙◌, arith, append-nil, append_assoc, length-append, Vec}
use Rattle.std.specs.Prelude.{codes}
use Rattle.std.specs.List.{flat_map}
use Rattle.std.specs.Fmt.{decimal}
use Rattle.std.proofs.lemmas.List.{take_more}
use Rattle.pf_routes.specs.AnswerText.{path_line, cost_line, paths_text}
use Rattle.pf_routes.specs.Internal.NumberedPaths.{names_of}
use Rattle.pf_yen.specs.KCheapest.{paths_in}
use Rattle.pf_routes.specs.declared.routes.name_table.NameTable.{NameTable}

module _ {A B : Type 0} (table : NameTable A) where
  abbrev pub lines_of_paths : List (Vec ℕ B × ℕ) → List ℕ
  lines_of_paths paths = flat_map cost_line (map (names_of table) (paths_in paths))

  lines_append : (xs ys : List (Vec ℕ B × ℕ)) → lines_of_paths (xs ++ ys) ≡ lines_of_paths xs ++ lines_of_paths ys
  lines_append [] ys = refl
  lines_append (x ∷ xs) ys =
      let line = cost_line (names_of table (x.0.items, x.1)) in
      ap (λ l. line ++ l) (lines_append xs ys) ∙ sym (append_assoc line (lines_of_paths xs) (lines_of_paths ys))

  -- the line of one path more
  pub lines_more : (lines : List ℕ) (paths : List (Vec ℕ B × ℕ)) (i : ℕ) (path : Vec ℕ B × ℕ) → i < length paths → path ≡ get_or paths i path → lines ≡ lines_of_paths (take i paths)
      → lines ++ cost_line (names_of table (path.0.items, path.1)) ≡ lines_of_paths (take (i + 1) paths)
  lines_more lines paths i path below is so_far =
      let line = cost_line (names_of table (path.0.items, path.1)) in
      ap (λ l. l ++ line) so_far ∙ ap (λ l. lines_of_paths (take i paths) ++ l) (sym (append-nil line))
      ∙ sym (lines_append (take i paths) (path ∷ [])) ∙ ap (λ (p : Vec ℕ B × ℕ). lines_of_paths (take i paths ++ p ∷ [])) is ∙ sym (ap lines_of_paths (take_more paths i path below))

  -- where there are paths, their lines are the text
  pub lines_are_text : (lines : List ℕ) (paths : List (Vec ℕ B × ℕ)) → 0 < length paths → lines ≡ lines_of_paths paths → lines ≡ paths_text (map (names_of table) (paths_in paths))
  lines_are_text lines [] some e = absurd (omega (arith, some))
  lines_are_text lines (path ∷ paths) some e = e

-- each line has a byte at least
one_byte : (number : ℕ) (names : List (List ℕ)) → 1 ≤ length (path_line number names)
one_byte number names =
    let front = (decimal number ++ codes ":") ++ flat_map (λ (name : List ℕ). 32 ∷ name) names in
    let e : length (path_line number names) ≡ length front + 1 = length-append front (10 ∷ []) in
    omega (arith, e)

long_lines : (paths : List (List (List ℕ) × ℕ)) → length paths ≤ length (flat_map cost_line paths)
long_lines [] = omega arith
long_lines (path ∷ paths) = omega (arith, one_byte path.1 path.0, long_lines paths, length-append (cost_line path) (flat_map cost_line paths))

-- a text has no more paths than bytes
pub long_text : (paths : List (List (List ℕ) × ℕ)) → length paths ≤ length (paths_text paths)
long_text [] = omega arith
long_text (path ∷ paths) = long_lines (path ∷ paths)
