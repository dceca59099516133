use Rattle.std.proofs.Common.{◌≡◌, ◌∙◌, ◌<◌, ◌+◌, ap, sym, ℕ, List, [], ◌∷◌, ◌++◌, length, map, take, get_or}
use Rattle.std.specs.Prelude.{Vec}
use Rattle.std.proofs.lemmas.List.{map-append, take_more}
use Rattle.pf_base.specs.NodeRefs.{nodes_of}
use Rattle.pf_name_numbers.specs.Numbered.{lists_in, named_lists_in}
use Rattle.pf_name_numbers.proofs.NamedNumbers.{name_at}
use Rattle.pf_name_numbers.proofs.paths.named_paths.Goals as goal

-- the names of one more path
more : {N A : Type 0} (name : ℕ → N) (paths : List (Vec ℕ A)) (i : ℕ) (path : Vec ℕ A) → i < length paths → path ≡ get_or paths i path → map (map name) (lists_in (take (i + 1) paths)) ≡ map (map name) (lists_in (take i paths)) ++ map name path.items ∷ []
more {N} {A} name paths i path h is =
    ap (λ ps. map (map name) (lists_in ps)) (take_more paths i path h ∙ ap (λ p. take i paths ++ p ∷ []) (sym is))
    ∙ ap (map (map name)) (map-append (λ (v : Vec ℕ A). v.items) (take i paths) (path ∷ [])) ∙ map-append (map name) (lists_in (take i paths)) (path.items ∷ [])

pub loop-path-preserved : goal.loop-path-preserved
loop-path-preserved g c =
    let name = name_at g.N.PartialEq.eq c.args.list.now c.args.other.now in
    let i = c.loop-path.path-index in
    let named : nodes_of c.in_ok-names.names.items ≡ map name c.path-item.result.items = c.in_ok-names.ensures.names ∙ ap (map name) c.deref.ensures.value in
    ap named_lists_in c.in_ok-push.ensures.items ∙ map-append _ c.loop-path.named.items (c.in_ok-names.names ∷ [])
    ∙ ap (λ ns. named_lists_in c.loop-path.named.items ++ ns ∷ []) named ∙ ap (λ ls. ls ++ map name c.path-item.result.items ∷ []) c.loop-path.invariant
    ∙ sym (more name c.args.paths.now i c.path-item.result c.loop-path-test.true c.path-item.is)
