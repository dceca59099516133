use Rattle.std.proofs.Common.{◌≡◌, ℕ, List, [], ◌∷◌, ◌++◌, ◌∙◌, ap, map, refl, take_all}
use Rattle.std.specs.List.{flat_map}
use Rattle.pf_routes.specs.Internal.NumberedLines.{named_edge, named_line, numbered_line, shown_ends}
use Rattle.pf_routes.specs.declared.routes.name_table.NameTable.{NameTable}
use Rattle.pf_routes.proofs.routes.edge_lines.push_lines.Goals as goal

lines_of : {A : Type 0} (table : NameTable A) (edges : List (ℕ × ℕ × ℕ)) → flat_map named_line (map (named_edge table) edges) ≡ flat_map (numbered_line table) edges
lines_of table [] = refl
lines_of table (e ∷ es) = ap (λ ls. numbered_line table e ++ ls) (lines_of table es)

pub returns : goal.returns
returns g c =
    let before = c.args.lines.now.items in
    let read = take_all c.loop-edge.edge-index c.deref-edge-items.result.now c.loop-edge-test.false ∙ c.deref-edge-items.ensures.value ∙ c.in_ok-read.ensures ∙ ap (map shown_ends) c.deref.ensures.value ∙ c.in_ok-named.ensures in
    c.loop-edge.invariant ∙ ap (λ es. before ++ flat_map named_line es) read ∙ ap (λ ls. before ++ ls) (lines_of c.args.names.now c.args.edges.now)
