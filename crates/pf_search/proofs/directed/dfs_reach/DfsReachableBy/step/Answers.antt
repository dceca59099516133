use Rattle.std.proofs.Common.{◌≡◌, ◌<◌, ◌∙◌, Ok, Some, None, slice_get, length, arith, ap, sym, subst, refl}
use Rattle.pf_search.specs.DepthWalks.{DepthWalk, IsDepthWalk}
use Rattle.pf_search.specs.Internal.Depth.{stack_of, walk_with}
use Rattle.pf_search.proofs.DepthWalkLemmas.{looked, leads_inside, err_goes, refused_visit, visited_node, ended, still_goes, unbegun, empty_before, none_given, goes_put, same_places, more_places}
use Rattle.pf_base.proofs.Outcomes.{no_memory, refused_as}
use Rattle.pf_discovery.proofs.StillLemmas.{read_at}
use Rattle.pf_search.proofs.directed.dfs_reach.DfsReachableBy.step.Goals as goal

pub bounds-as_slice-branch : goal.bounds-as_slice-branch
bounds-as_slice-branch g c =
    let eq = g.N.PartialEq.eq in
    let laws = g.met.N.Eq.laws in
    let i = c.self.inside in
    let put = c.in_ok-put_start.ensures.put in
    let k = c.next_branch.new.self in
    let r = c.requires.graph in
    let b = c.in-Some.ensures in
    let v = subst (IsDepthWalk eq _ r.0 r.1 r.2) (sym c.self.view_is) r.3 in
    let t : DepthWalk g.row.N.Denot g.row.F.Denot = walk_with (g.M.Numbering.keys c.put_start.new.nodes) (stack_of k) i.refused i.graph.source.function in
    let m = looked eq laws _ r.0 r.1 r.2 _ t b.dropped.0 v refl put.1 b.given b.visited b.path refl b.dropped.1 b.dropped.2 in
    omega (arith, ap length c.as_slice.ensures.keys, (leads_inside eq laws r.0 r.1 r.2 t c.in-Some.branch m.stands b.next).0)

pub offset_bounds-as_slice-branch : goal.offset_bounds-as_slice-branch
offset_bounds-as_slice-branch g c = omega (arith, bounds-as_slice-branch g c)

pub put_start-requires : goal.put_start-requires
put_start-requires g c = empty_before c.self.inside.start (g.M.Numbering.keys c.self.inside.graph.nodes) _ c.self.invariant.0

pub returns-in_err-put_start-clause-walks : goal.returns-in_err-put_start-clause-walks
returns-in_err-put_start-clause-walks g c = λ next start paths w.
    let eq = g.N.PartialEq.eq in
    let laws = g.met.N.Eq.laws in
    let i = c.self.inside in
    let s = c.in_err-put_start.ensures.stays in
    let v = subst (IsDepthWalk eq _ next start paths) (sym c.self.view_is) w in
    let none = none_given i.start (g.M.Numbering.keys i.graph.nodes) i.walk.given s.0 c.self.invariant.0 s.1 in
    rw (s.2, s.3) (err_goes eq laws _ next start paths _ (unbegun eq laws next start paths _ v.stands (ap length none)) v c.from_residual.result c.from_residual.ensures.0)

pub returns-in_err-node-in-Some-clause-walks : goal.returns-in_err-node-in-Some-clause-walks
returns-in_err-node-in-Some-clause-walks g c = λ next start paths w.
    let eq = g.N.PartialEq.eq in
    let laws = g.met.N.Eq.laws in
    let i = c.self.inside in
    let put = c.in_ok-put_start.ensures.put in
    let k = c.next_branch.new.self in
    let b = c.in-Some.ensures in
    let v = subst (IsDepthWalk eq _ next start paths) (sym c.self.view_is) w in
    let t : DepthWalk g.row.N.Denot g.row.F.Denot = walk_with (g.M.Numbering.keys c.put_start.new.nodes) (stack_of k) i.refused i.graph.source.function in
    let m = looked eq laws _ next start paths _ t b.dropped.0 v refl put.1 b.given b.visited b.path refl b.dropped.1 b.dropped.2 in
    let n = still_goes eq laws _ next start paths t c.in-Some.branch m b.next in
    goes_put eq laws _ next start paths _ (g.M.Numbering.keys c.put_start.new.nodes) (stack_of k) i.refused i.graph.source.function c.from_residual-in_err-node-in-Some.result put.0 (err_goes eq laws _ next start paths t n m c.from_residual-in_err-node-in-Some.result c.from_residual-in_err-node-in-Some.ensures.0)

pub visit-requires-clause-inside : goal.visit-requires-clause-inside
visit-requires-clause-inside g c =
    let eq = g.N.PartialEq.eq in
    let laws = g.met.N.Eq.laws in
    let i = c.self.inside in
    let put = c.in_ok-put_start.ensures.put in
    let k = c.next_branch.new.self in
    let r = c.requires.graph in
    let b = c.in-Some.ensures in
    let v = subst (IsDepthWalk eq _ r.0 r.1 r.2) (sym c.self.view_is) r.3 in
    let t : DepthWalk g.row.N.Denot g.row.F.Denot = walk_with (g.M.Numbering.keys c.put_start.new.nodes) (stack_of k) i.refused i.graph.source.function in
    let m = looked eq laws _ r.0 r.1 r.2 _ t b.dropped.0 v refl put.1 b.given b.visited b.path refl b.dropped.1 b.dropped.2 in
    (leads_inside eq laws r.0 r.1 r.2 t c.in-Some.branch m.stands b.next).0

pub visit-requires-clause-graph : goal.visit-requires-clause-graph
visit-requires-clause-graph g c =
    let eq = g.N.PartialEq.eq in
    let i = c.self.inside in
    let k = c.next_branch.new.self in
    let r = c.requires.graph in
    let b = c.in-Some.ensures in
    let v = subst (IsDepthWalk eq _ r.0 r.1 r.2) (sym c.self.view_is) r.3 in
    let t : DepthWalk g.row.N.Denot g.row.F.Denot = walk_with (g.M.Numbering.keys c.put_start.new.nodes) (stack_of k) i.refused i.graph.source.function in
    let m = looked eq g.met.N.Eq.laws _ r.0 r.1 r.2 _ t b.dropped.0 v refl c.in_ok-put_start.ensures.put.1 b.given b.visited b.path refl b.dropped.1 b.dropped.2 in
    (_, m.explores)

pub visit-requires-clause-depth : goal.visit-requires-clause-depth
visit-requires-clause-depth g c =
    let eq = g.N.PartialEq.eq in
    let laws = g.met.N.Eq.laws in
    let i = c.self.inside in
    let put = c.in_ok-put_start.ensures.put in
    let k = c.next_branch.new.self in
    let r = c.requires.graph in
    let b = c.in-Some.ensures in
    let v = subst (IsDepthWalk eq _ r.0 r.1 r.2) (sym c.self.view_is) r.3 in
    let t : DepthWalk g.row.N.Denot g.row.F.Denot = walk_with (g.M.Numbering.keys c.put_start.new.nodes) (stack_of k) i.refused i.graph.source.function in
    let m = looked eq laws _ r.0 r.1 r.2 _ t b.dropped.0 v refl put.1 b.given b.visited b.path refl b.dropped.1 b.dropped.2 in
    (leads_inside eq laws r.0 r.1 r.2 t c.in-Some.branch m.stands b.next).1

pub returns-in_err-visit-in-Some-clause-walks : goal.returns-in_err-visit-in-Some-clause-walks
returns-in_err-visit-in-Some-clause-walks g c = λ next start paths w.
    let eq = g.N.PartialEq.eq in
    let laws = g.met.N.Eq.laws in
    let i = c.self.inside in
    let put = c.in_ok-put_start.ensures.put in
    let k = c.next_branch.new.self in
    let b = c.in-Some.ensures in
    let v = subst (IsDepthWalk eq _ next start paths) (sym c.self.view_is) w in
    let t : DepthWalk g.row.N.Denot g.row.F.Denot = walk_with (g.M.Numbering.keys c.put_start.new.nodes) (stack_of k) i.refused i.graph.source.function in
    let m = looked eq laws _ next start paths _ t b.dropped.0 v refl put.1 b.given b.visited b.path refl b.dropped.1 b.dropped.2 in
    let j = c.visit.new.self in
    let u : DepthWalk g.row.N.Denot g.row.F.Denot = walk_with (g.M.Numbering.keys c.visit.new.graph.nodes) (stack_of j) i.refused c.visit.new.graph.source.function in
    let e = c.in_err-visit-in-Some.ensures in
    let m' = refused_visit eq laws _ next start paths t u m e.grows (e.graph _ m.explores) refl e.kept.4 e.kept.0 e.kept.1 e.kept.2 e.kept.3 in
    let n = still_goes eq laws _ next start paths t c.in-Some.branch m b.next in
    goes_put eq laws _ next start paths _ (g.M.Numbering.keys c.visit.new.graph.nodes) (stack_of j) i.refused c.visit.new.graph.source.function c.from_residual-in_err-visit-in-Some.result put.0 (err_goes eq laws _ next start paths u n m' c.from_residual-in_err-visit-in-Some.result c.from_residual-in_err-visit-in-Some.ensures.0)

pub returns-in-None-clause-walks : goal.returns-in-None-clause-walks
returns-in-None-clause-walks g c = λ next start paths w.
    let eq = g.N.PartialEq.eq in
    let laws = g.met.N.Eq.laws in
    let i = c.self.inside in
    let put = c.in_ok-put_start.ensures.put in
    let k = c.next_branch.new.self in
    let b = c.in-None.ensures in
    let v = subst (IsDepthWalk eq _ next start paths) (sym c.self.view_is) w in
    let t : DepthWalk g.row.N.Denot g.row.F.Denot = walk_with (g.M.Numbering.keys c.put_start.new.nodes) (stack_of k) i.refused i.graph.source.function in
    let m = looked eq laws _ next start paths _ t b.dropped.0 v refl put.1 b.given b.visited b.path refl b.dropped.1 b.dropped.2 in
    goes_put eq laws _ next start paths _ (g.M.Numbering.keys c.put_start.new.nodes) (stack_of k) i.refused i.graph.source.function (Ok None) put.0 (ended eq laws next start paths t m.stands b.next.0 b.next.1, m)

pub returns-in_ok-visit-in-Some-clause-walks : goal.returns-in_ok-visit-in-Some-clause-walks
returns-in_ok-visit-in-Some-clause-walks g c = λ next start paths w.
    let eq = g.N.PartialEq.eq in
    let laws = g.met.N.Eq.laws in
    let i = c.self.inside in
    let put = c.in_ok-put_start.ensures.put in
    let k = c.next_branch.new.self in
    let b = c.in-Some.ensures in
    let v = subst (IsDepthWalk eq _ next start paths) (sym c.self.view_is) w in
    let t : DepthWalk g.row.N.Denot g.row.F.Denot = walk_with (g.M.Numbering.keys c.put_start.new.nodes) (stack_of k) i.refused i.graph.source.function in
    let m = looked eq laws _ next start paths _ t b.dropped.0 v refl put.1 b.given b.visited b.path refl b.dropped.1 b.dropped.2 in
    let j = c.visit.new.self in
    let u : DepthWalk g.row.N.Denot g.row.F.Denot = walk_with (g.M.Numbering.keys c.visit.new.graph.nodes) (stack_of j) i.refused c.visit.new.graph.source.function in
    let e = c.in_ok-visit-in-Some.ensures in
    let keys = g.M.Numbering.keys c.put_start.new.nodes in
    let n = c.in-Some.branch.number in
    let node = c.in_ok-node-in-Some.node in
    let inside : n < length keys = (leads_inside eq laws next start paths t c.in-Some.branch m.stands b.next).0 in
    let at : slice_get keys n ≡ Some c.index-as_slice-branch.result = read_at keys _ n _ _ c.as_slice.ensures.keys inside c.index-as_slice-branch.is in
    goes_put eq laws _ next start paths _ (g.M.Numbering.keys c.visit.new.graph.nodes) (stack_of j) i.refused c.visit.new.graph.source.function (Ok (Some node)) put.0 (visited_node eq laws _ next start paths t u m e.grows (e.graph _ m.explores) refl c.in-Some.branch node c.index-as_slice-branch.result b.next
    e.given e.visited e.path e.waiting.0 e.waiting.1 (λ x s. e.waiting.2 _ m.explores x s) (λ x s. e.ordered _ m.explores x s) at (c.requires.clones _ _ c.in_ok-node-in-Some.ensures.cases))

pub returns-in-None-clause-refused : goal.returns-in-None-clause-refused
returns-in-None-clause-refused g c = tt

pub returns-in_err-put_start-clause-refused : goal.returns-in_err-put_start-clause-refused
returns-in_err-put_start-clause-refused g c = refused_as _ c.from_residual.result c.in_err-put_start.field-0.0 c.from_residual.ensures.1 c.in_err-put_start.ensures.refused

pub returns-in_ok-visit-in-Some-clause-refused : goal.returns-in_ok-visit-in-Some-clause-refused
returns-in_ok-visit-in-Some-clause-refused g c = tt

pub returns-in_err-visit-in-Some-clause-refused : goal.returns-in_err-visit-in-Some-clause-refused
returns-in_err-visit-in-Some-clause-refused g c = refused_as _ c.from_residual-in_err-visit-in-Some.result c.in_err-visit-in-Some.field-0.0 c.from_residual-in_err-visit-in-Some.ensures.1 c.in_err-visit-in-Some.ensures.refused

pub invariant_of-self : goal.invariant_of-self
invariant_of-self g c = let s = c.in_err-put_start.ensures.stays in rw (s.2, s.3) c.self.invariant

pub invariant_of-self-in-None : goal.invariant_of-self-in-None
invariant_of-self-in-None g c = let put = c.in_ok-put_start.ensures.put in (same_places _ _ _ _ _ _ c.self.invariant.0 put.0 (omega (arith, ap length put.1)) c.in-None.ensures.given, omega (arith, c.self.invariant.1, ap length c.in-None.ensures.given))

pub invariant_of-self-in_err-node-in-Some : goal.invariant_of-self-in_err-node-in-Some
invariant_of-self-in_err-node-in-Some g c = let put = c.in_ok-put_start.ensures.put in (same_places _ _ _ _ _ _ c.self.invariant.0 put.0 (omega (arith, ap length put.1)) c.in-Some.ensures.given, omega (arith, c.self.invariant.1, ap length c.in-Some.ensures.given))

pub invariant_of-self-in_err-visit-in-Some : goal.invariant_of-self-in_err-visit-in-Some
invariant_of-self-in_err-visit-in-Some g c =
    let put = c.in_ok-put_start.ensures.put in
    let kept = c.in_err-visit-in-Some.ensures.kept in
    (same_places _ _ _ _ _ _ c.self.invariant.0 put.0 (omega (arith, ap length put.1, kept.4)) (kept.0 ∙ c.in-Some.ensures.given), omega (arith, c.self.invariant.1, ap length kept.0, ap length c.in-Some.ensures.given))

pub invariant_of-self-in-Some : goal.invariant_of-self-in-Some
invariant_of-self-in-Some g c =
    let put = c.in_ok-put_start.ensures.put in
    let e = c.in_ok-visit-in-Some.ensures in
    let kept = same_places _ _ _ (g.M.Numbering.keys c.put_start.new.nodes) _ _ c.self.invariant.0 put.0 (omega (arith, ap length put.1)) c.in-Some.ensures.given in
    (more_places _ _ _ _ _ c.in-Some.branch.number kept put.0 e.grows.more (visit-requires-clause-inside g c.before.before.before) e.given, e.few)

pub returns-in_err-node-in-Some-clause-refused : goal.returns-in_err-node-in-Some-clause-refused
returns-in_err-node-in-Some-clause-refused g c = no_memory c.from_residual-in_err-node-in-Some.result c.from_residual-in_err-node-in-Some.ensures.1
