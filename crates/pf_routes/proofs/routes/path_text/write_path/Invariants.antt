-- The names of the nodes so far stand behind the number.
use Rattle.std.proofs.Common.{◌≡◌, ◌∷◌, ◌++◌, map, take}
use Rattle.std.specs.Prelude.{codes}
use Rattle.std.specs.List.{flat_map}
use Rattle.std.specs.Fmt.{decimal}
use Rattle.pf_routes.specs.Internal.NameTable.{name_in}
use Rattle.pf_routes.proofs.routes.path_text.write_path.Given as goal

abbrev pub invariant-loop-node : goal.invariant-loop-node
invariant-loop-node g l = l.line.items ≡ decimal l.fn.number ++ codes ":" ++ flat_map (λ name. 32 ∷ name) (map (name_in l.names) (take l.node-index l.path))
