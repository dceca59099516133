use Rattle.std.proofs.Common.{◌<◌, ◌∙◌, ap, sym, length, nat_eq, ℕ}
use Rattle.std.specs.Prelude.{reverse}
use Rattle.pf_base.specs.Walks.{HasNode}
use Rattle.pf_informed.specs.Internal.Ways.{nodes_of, nothing_waits, paths_of}
use Rattle.pf_informed.proofs.BagLemmas.{way_nodes}
use Rattle.pf_informed.proofs.WayLaws.{HasNode_of}
use Rattle.pf_informed.proofs.SolutionLemmas.{turn_refused}
use Rattle.pf_informed.proofs.WaysLemmas.{kept_dropped, not_idle, some_wait}
use Rattle.pf_informed.proofs.Bounds.{below_more}
use Rattle.pf_informed.proofs.directed.astar_bag.AstarSolutionBy.step.Goals as goal

pub clones_at-requires-clause-inside : goal.clones_at-requires-clause-inside
clones_at-requires-clause-inside g c = λ k h.
    let kept = c.in_ok-find.ensures.kept in
    let i = kept.inside k (HasNode_of _ k (rw c.deref.ensures.value at h)) in
    rw c.as_slice.ensures.keys (below_more _ _ _ i c.self.invariant.1)

pub invariant_of-self-2 : goal.invariant_of-self-2
invariant_of-self-2 g c =
    let f = c.in_ok-find.ensures in
    let s = rw c.if-not-branch.false at f.whole in
    let d = c.drop_branch.ensures in
    let w = d.waiting s.0 s.1 s.2 in
    let a = rw s.2 at f.kept in
    let same = d.before ∙ f.before in
    (rw (same, d.way, d.places, w) (kept_dropped _ _ _ _ s.0 s.1 a), rw same c.self.invariant.1)

pub returns-clause-turn : goal.returns-clause-turn
returns-clause-turn g c =
    let f = c.in_ok-find.ensures in
    let s = rw c.if-not-branch.false at f.whole in
    let d = c.drop_branch.ensures in
    let w = d.waiting s.0 s.1 s.2 in
    let same = d.before ∙ f.before in
    let keys = g.M.Numbering.keys c.self.inside.nodes in
    let way = c.find.new.self.way.items in
    let inside : (j : ℕ) → HasNode nat_eq way j → j < length keys = λ j h. let kept = f.kept in below_more _ _ _ (kept.inside j h) c.self.invariant.1 in
    rw (← c.self.view_is, same, d.way, w) (
      not_idle _ (λ none. (let both = rw c.if-not-branch.false at f.idle none in cc)),
      (
        nodes_of keys (reverse way),
        ap (paths_of keys) (sym f.left ∙ s.3),
        rw c.reverse.ensures.items (way_nodes g.N.PartialEq.eq g.met.N.Eq.laws keys way c.in_ok-path.path.items inside (rw (c.as_slice.ensures.keys, c.deref.ensures.value) at c.in_ok-path.ensures.nodes)),
      ),
    )

pub find-requires : goal.find-requires
find-requires g c = c.self.invariant.0

pub invariant_of-self : goal.invariant_of-self
invariant_of-self g c = let f = c.in_err-find.ensures in rw f.before (f.kept, c.self.invariant.1)

pub invariant_of-self-then-not-branch : goal.invariant_of-self-then-not-branch
invariant_of-self-then-not-branch g c = let f = c.in_ok-find.ensures in rw f.before (f.kept, c.self.invariant.1)

pub invariant_of-self-in_err-path : goal.invariant_of-self-in_err-path
invariant_of-self-in_err-path g c = let f = c.in_ok-find.ensures in rw f.before (f.kept, c.self.invariant.1)

pub returns-then-not-branch-clause-turn : goal.returns-then-not-branch-clause-turn
returns-then-not-branch-clause-turn g c =
    let f = c.in_ok-find.ensures in
    let none = rw c.if-not-branch.true at f.whole in
    let keys = g.M.Numbering.keys c.self.inside.nodes in
    rw (← c.self.view_is, f.before) (ap (paths_of keys) (sym (rw none at f.left)), ap (paths_of keys) f.left, ap nothing_waits none)

pub returns-in_err-find-clause-turn : goal.returns-in_err-find-clause-turn
returns-in_err-find-clause-turn g c =
    let f = c.in_err-find.ensures in
    let keys = g.M.Numbering.keys c.self.inside.nodes in
    rw (← c.self.view_is, f.before) (turn_refused g.N.PartialEq.eq _ _ c.self.inside.refused _ _ c.from_residual.result _ c.from_residual.ensures.1 (ap (paths_of keys) f.left) (not_idle _ (λ none. (let both = f.idle none in cc))) (not_idle _ f.waits))

pub returns-in_err-path-clause-turn : goal.returns-in_err-path-clause-turn
returns-in_err-path-clause-turn g c =
    let f = c.in_ok-find.ensures in
    let s = rw c.if-not-branch.false at f.whole in
    let keys = g.M.Numbering.keys c.self.inside.nodes in
    rw (← c.self.view_is, f.before) (turn_refused g.N.PartialEq.eq _ _ c.self.inside.refused _ _ c.from_residual-in_err-path.result _ c.from_residual-in_err-path.ensures.1 (ap (paths_of keys) f.left) (not_idle _ (λ none. (let both = rw c.if-not-branch.false at f.idle none in cc))) (not_idle _ (λ none. some_wait s.0 s.1 (sym s.2 ∙ none))))
