use Rattle.std.proofs.Common.{rules, ◌≡◌, ℕ, ◌+◌, ◌<◌, List, [], ◌∷◌, ◌++◌, map, take, length, get_or, sym, ap, ◌∙◌, append_assoc, append-nil}
use Rattle.std.specs.Prelude.{codes}
use Rattle.std.specs.List.{flat_map}
use Rattle.std.specs.Fmt.{decimal}
use Rattle.std.proofs.lemmas.List.{map-append, take_more}
use Rattle.std.proofs.lemmas.Grind.{flat_map-append}
use Rattle.pf_routes.specs.Internal.NameTable.{name_in}
use Rattle.pf_routes.proofs.routes.path_text.write_path.Goals as goal

abbrev spaced : List (List ℕ) → List ℕ
spaced names = flat_map (λ (name : List ℕ). 32 ∷ name) names

-- one name more
line-more : (front items : List ℕ) (name : ℕ → List ℕ) (path : List ℕ) (i : ℕ) → i < length path → items ≡ front ++ spaced (map name (take i path))
    → (items ++ 32 ∷ []) ++ name (get_or path i 0) ≡ front ++ spaced (map name (take (i + 1) path))
line-more front items name path i below e =
    let here = name (get_or path i 0) in
    let so_far = spaced (map name (take i path)) in
    let more : spaced (map name (take (i + 1) path)) ≡ so_far ++ (32 ∷ here) =
    ap (λ l. spaced (map name l)) (take_more path i 0 below) ∙ ap spaced (map-append name (take i path) (get_or path i 0 ∷ []))
    ∙ flat_map-append (λ (name : List ℕ). 32 ∷ name) (map name (take i path)) (here ∷ []) ∙ ap (λ l. so_far ++ l) (append-nil (32 ∷ here)) in
    append_assoc items (32 ∷ []) here ∙ ap (λ l. l ++ (32 ∷ here)) e ∙ append_assoc front so_far (32 ∷ here) ∙ ap (λ l. front ++ l) (sym more)

pub loop-node-preserved : goal.loop-node-preserved
loop-node-preserved g c =
    let added : c.extend_from_slice-in-loop-node.new.self.items ≡ c.push-in-loop-node.new.self.items ++ c.name.result.now = search rules in
    added ∙ ap (λ l. l ++ c.name.result.now) c.in_ok-push-2.ensures.items ∙ ap (λ l. (c.loop-node.line.items ++ 32 ∷ []) ++ l) c.name.ensures
    ∙ line-more (decimal c.args.number ++ codes ":") c.loop-node.line.items (name_in c.args.names.now) c.args.path.now c.loop-node.node-index c.loop-node-test.true c.loop-node.invariant
