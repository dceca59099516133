use Rattle.std.proofs.Common.{◌≡◌, ◌∷◌, [], Some, slice_get, sym}
use Rattle.pf_base.proofs.Callers.{SameNodes-refl}
use Rattle.pf_base.proofs.ListLemmas.{at_place}
use Rattle.pf_search.proofs.BreadthLemmas.{Same-sym}
use Rattle.pf_search.proofs.BreadthSteps.{no_value, any_err, walk_explores, kept_places, kept_all, walk_stays, walk_goes, next_of, given_more}
use Rattle.std.proofs.lemmas.Result.{IfOk-from_err}
use Rattle.pf_search.proofs.directed.bfs_reach.give.Goals as goal

pub expand-requires-clause-graph : goal.expand-requires-clause-graph
expand-requires-clause-graph g c =
    let r = c.requires.walk in
    (_, walk_explores g.N.PartialEq.eq g.met.N.Eq.laws _ r.0 r.1 (g.M.Numbering.keys c.args.discovery.now.nodes) c.args.number c.args.discovery.now.source.function (g.met.F.SuccessorFunction.alike_law c.args.discovery.now.source.function (r.1 ∷ []) r.0 r.2.answered) c.as_slice.ensures.unique r.2)

pub returns-in_err-node-clause-stays : goal.returns-in_err-node-clause-stays
returns-in_err-node-clause-stays g c = any_err c.from_residual.result (SameNodes-refl g.N.PartialEq.eq g.met.N.Eq.laws.refl (g.M.Numbering.keys c.args.discovery.now.nodes))

pub returns-in_err-expand-clause-walk : goal.returns-in_err-expand-clause-walk
returns-in_err-expand-clause-walk g c = λ next start w.
    let eq = g.N.PartialEq.eq in
    let laws = g.met.N.Eq.laws in
    let keys = g.M.Numbering.keys c.args.discovery.now.nodes in
    let keys' = g.M.Numbering.keys c.expand.new.self.nodes in
    let f' = c.expand.new.self.source.function in
    let f = c.args.discovery.now.source.function in
    let alike = g.met.F.SuccessorFunction.alike_law f (start ∷ []) next w.answered in
    let x = walk_explores eq laws _ next start keys c.args.number f alike c.as_slice.ensures.unique w in
    let x' = c.in_err-expand.ensures.graph _ x in (
      no_value _ c.from_residual-in_err-expand.result c.from_residual-in_err-expand.ensures.0,
      any_err c.from_residual-in_err-expand.result
          (walk_stays eq laws _ next start keys keys' c.args.number f f' alike w x' (kept_all eq laws keys keys' c.in_err-expand.ensures.grows c.in_err-expand.ensures.refused.1)),
    )

pub returns-in_err-expand-clause-stays : goal.returns-in_err-expand-clause-stays
returns-in_err-expand-clause-stays g c =
    let eq = g.N.PartialEq.eq in
    let laws = g.met.N.Eq.laws in
    let keys = g.M.Numbering.keys c.args.discovery.now.nodes in
    let keys' = g.M.Numbering.keys c.expand.new.self.nodes in
    any_err c.from_residual-in_err-expand.result (Same-sym eq laws keys keys' (kept_all eq laws keys keys' c.in_err-expand.ensures.grows c.in_err-expand.ensures.refused.1))

pub returns-clause-walk : goal.returns-clause-walk
returns-clause-walk g c = λ next start w.
    let eq = g.N.PartialEq.eq in
    let laws = g.met.N.Eq.laws in
    let keys = g.M.Numbering.keys c.args.discovery.now.nodes in
    let keys' = g.M.Numbering.keys c.expand.new.self.nodes in
    let f = c.args.discovery.now.source.function in
    let f' = c.expand.new.self.source.function in
    let m = c.index-as_slice-number.result in
    let at : slice_get keys c.args.number ≡ Some m = at_place _ _ _ _ c.requires.inside (sym (rw c.as_slice.ensures.keys at c.index-as_slice-number.is)) in
    let alike = g.met.F.SuccessorFunction.alike_law f (start ∷ []) next w.answered in
    let x = walk_explores eq laws _ next start keys c.args.number f alike c.as_slice.ensures.unique w in
    let x' = c.in_ok-expand.ensures.graph _ x in (
      (
        walk_goes eq laws _ next start keys keys' c.args.number f f' m alike w x' at c.in_ok-expand.ensures.grows (c.in_ok-expand.ensures.ordered _ x m (m, at, laws.refl m)),
        next_of eq laws _ next start keys c.args.number f m c.in_ok-node.node w at (c.requires.clones m c.in_ok-node.node c.in_ok-node.ensures.cases),
      ),
      tt,
    )

pub returns-clause-given : goal.returns-clause-given
returns-clause-given g c =
    let eq = g.N.PartialEq.eq in
    let laws = g.met.N.Eq.laws in
    let keys = g.M.Numbering.keys c.args.discovery.now.nodes in
    let keys' = g.M.Numbering.keys c.expand.new.self.nodes in
    let m = c.index-as_slice-number.result in
    let at : slice_get keys c.args.number ≡ Some m = at_place _ _ _ _ c.requires.inside (sym (rw c.as_slice.ensures.keys at c.index-as_slice-number.is)) in
    given_more eq laws keys keys' c.args.number m c.in_ok-node.node (kept_places eq laws keys keys' c.in_ok-expand.ensures.grows) at (c.requires.clones m c.in_ok-node.node c.in_ok-node.ensures.cases)

pub returns-in_err-expand-clause-given : goal.returns-in_err-expand-clause-given
returns-in_err-expand-clause-given g c = IfOk-from_err _ _ c.from_residual-in_err-expand.ensures.0

pub returns-in_err-node-clause-given : goal.returns-in_err-node-clause-given
returns-in_err-node-clause-given g c = IfOk-from_err _ _ c.from_residual.ensures.0
