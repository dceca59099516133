use Rattle.std.proofs.Common.{arith, ℕ, zero, suc, ◌≡◌, ◌≤◌, ◌∙◌, ap, sym, List, [], ◌∷◌, length, slice_get}
use Rattle.std.specs.Prelude.{Option, Some, None, MatchOption}
use Rattle.std.specs.Borrow.{Bor}
use Rattle.std.specs.Option.{option_map}
use Rattle.std.proofs.lemmas.Option.{slice_get-map}
use Rattle.pf_base.specs.NodeRefs.{nodes_of}
use Rattle.pf_edge_lists.specs.EdgeLists.{names_of}
use Rattle.pf_edge_lists.proofs.edge_list.EdgeList.name_of.Goals as goal

past : {A : Type 0} (xs : List A) (k : ℕ) → slice_get xs k ≡ None → length xs ≤ k
past [] k e = omega arith
past (x ∷ xs) zero e = cc
past (x ∷ xs) (suc k) e = let l = past xs k e in omega (arith, l)

-- the name behind a reference that was looked up
named_at : {N : Type 0} (refs : List (Bor N)) (names : List N) → nodes_of refs ≡ names → (node : ℕ) (r : Option (Bor N)) → r ≡ slice_get refs node
    → MatchOption r (length names ≤ node) (λ name. slice_get names node ≡ Some name.now)
named_at refs names same node None e = past names node (ap (λ xs. slice_get xs node) (sym same) ∙ slice_get-map _ refs node ∙ ap (option_map _) (sym e))
named_at refs names same node (Some r) e = ap (λ xs. slice_get xs node) (sym same) ∙ slice_get-map _ refs node ∙ ap (option_map _) (sym e)

pub returns : goal.returns
returns g c =
    let eq = g.N.PartialEq.eq in
    named_at c.self.inside.names.keys (names_of eq c.args.self.now) (c.self.invariant.named ∙ ap (names_of eq) c.self.view_is) c.args.node c.copied.result (c.copied.ensures ∙ c.get_index.ensures.key)
