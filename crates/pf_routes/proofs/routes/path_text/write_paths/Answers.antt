use Rattle.std.proofs.Common.{◌≡◌, ◌<◌, ◌==◌, false, ℕ, List, [], ◌∷◌, ◌++◌, length, map, sym, ap, subst, ◌∙◌, arith}
use Rattle.std.specs.Prelude.{All}
use Rattle.std.proofs.lemmas.List.{take_all}
use Rattle.pf_routes.specs.AnswerText.{path_line}
use Rattle.pf_routes.specs.Internal.NameTable.{name_in, table_len}
use Rattle.pf_routes.proofs.PathText.{lines_of_paths, lines_more, lines_are_text}
use Rattle.pf_routes.proofs.routes.path_text.write_paths.Goals as goal

not_empty : {X : Type 0} (xs : List X) → false ≡ (length xs == 0) → 0 < length xs
not_empty [] e = cc
not_empty (x ∷ xs) e = omega arith

pub write_path-requires : goal.write_path-requires
write_path-requires g c =
    let below = λ (ns : List ℕ). All (λ n. n < table_len c.args.names.now) ns in
    subst below (sym c.as_slice.ensures.value) (subst (λ p. below p.0.items) (sym c.path-item.is) (c.requires c.loop-path.path-index c.path-item.result c.loop-path-test.true))

pub loop-path-preserved : goal.loop-path-preserved
loop-path-preserved g c =
    let path = c.path-item.result in
    let names = c.args.names.now in
    let lines = c.loop-path.lines.items in
    c.in_ok-extend_from_slice.ensures.items
    ∙ ap (λ l. lines ++ l) (c.as_slice-in-loop-path.ensures.value ∙ c.in_ok-line.ensures ∙ ap (λ ns. path_line path.1 (map (name_in names) ns)) c.as_slice.ensures.value)
    ∙ lines_more names lines c.args.paths.now c.loop-path.path-index path c.loop-path-test.true c.path-item.is c.loop-path.invariant

pub returns : goal.returns
returns g c =
    let paths = c.args.paths.now in
    lines_are_text c.args.names.now c.loop-path.lines.items paths (not_empty paths c.if-is_empty.ensures)
    (c.loop-path.invariant ∙ ap (lines_of_paths c.args.names.now) (take_all c.loop-path.path-index paths (omega arith)))
