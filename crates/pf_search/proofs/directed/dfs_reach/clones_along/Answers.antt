use Rattle.std.proofs.Common.{◌≡◌, ◌<◌, sym, subst, Some, slice_get, take, length, get_or, [], ◌∷◌, ◌++◌, ℕ, List, take_all}
use Rattle.std.proofs.lemmas.Result.{IfOk-from_err}
use Rattle.std.specs.List.{AllZip}
use Rattle.std.proofs.lemmas.List.{take_more}
use Rattle.pf_core.specs.Nodes.{StandsFor}
use Rattle.pf_base.proofs.ListLemmas.{at_place, Contains-index, AllZip-append}
use Rattle.pf_base.proofs.Outcomes.{no_memory}
use Rattle.pf_core.proofs.ReadLemmas.{lt_most, nearer}
use Rattle.pf_search.proofs.directed.dfs_reach.clones_along.Goals as goal

pub bounds-nodes-number : goal.bounds-nodes-number
bounds-nodes-number g c = c.requires.inside (get_or c.args.numbers.now c.numbers.number-index 0) (Contains-index c.args.numbers.now c.numbers.number-index 0 c.numbers-test.true)

pub offset_bounds-nodes-number : goal.offset_bounds-nodes-number
offset_bounds-nodes-number g c = lt_most _ _ (c.requires.inside (get_or c.args.numbers.now c.numbers.number-index 0) (Contains-index c.args.numbers.now c.numbers.number-index 0 c.numbers-test.true))

pub numbers-preserved : goal.numbers-preserved
numbers-preserved g c =
    let eq = g.N.PartialEq.eq in
    let keys = c.args.nodes.now in
    let numbers = c.args.numbers.now in
    let i = c.numbers.number-index in
    let n = get_or numbers i 0 in
    let inside : n < length keys = c.requires.inside n (Contains-index numbers i 0 c.numbers-test.true) in
    let at : slice_get keys n ≡ Some c.index-nodes-number.result = at_place keys n _ _ inside (sym c.index-nodes-number.is) in
    let here : StandsFor eq keys n c.in_ok-node.node = (c.index-nodes-number.result, at, c.requires.clones _ _ c.in_ok-node.ensures.cases) in
    let e : c.push.new.self.items ≡ c.numbers.path.items ++ c.in_ok-node.node ∷ [] = c.in_ok-push.ensures.items in
    subst (λ ns. AllZip (StandsFor eq keys) ns c.push.new.self.items) (sym (take_more numbers i 0 c.numbers-test.true))
    (subst (λ xs. AllZip (StandsFor eq keys) (take i numbers ++ n ∷ []) xs) (sym e)
    (AllZip-append (StandsFor eq keys) (take i numbers) c.numbers.path.items n c.in_ok-node.node c.numbers.invariant here))

pub returns-in_err-path : goal.returns-in_err-path
returns-in_err-path g c = record {
  nodes = IfOk-from_err _ _ c.from_residual.ensures.0;
  refused = no_memory c.from_residual.result c.from_residual.ensures.1;
}

pub returns-in_err-node : goal.returns-in_err-node
returns-in_err-node g c = record {
  nodes = IfOk-from_err _ _ c.from_residual-in_err-node.ensures.0;
  refused = no_memory c.from_residual-in_err-node.result c.from_residual-in_err-node.ensures.1;
}

pub returns-in_err-push : goal.returns-in_err-push
returns-in_err-push g c = record {
  nodes = IfOk-from_err _ _ c.from_residual-in_err-push.ensures.0;
  refused = no_memory c.from_residual-in_err-push.result c.from_residual-in_err-push.ensures.1;
}

pub numbers-init : goal.numbers-init
numbers-init g c = subst (λ (xs : List g.row.N.Denot). AllZip (StandsFor g.N.PartialEq.eq c.args.nodes.now) [] xs) (sym c.in_ok-path.ensures.items) tt

pub numbers-smaller : goal.numbers-smaller
numbers-smaller g c = nearer c.numbers.number-index (length c.args.numbers.now) c.numbers-test.true

pub returns : goal.returns
returns g c = record {
  nodes = subst (λ (ns : List ℕ). AllZip (StandsFor g.N.PartialEq.eq c.args.nodes.now) ns c.numbers.path.items) (take_all c.numbers.number-index c.args.numbers.now c.numbers-test.false) c.numbers.invariant;
  refused = tt;
}
