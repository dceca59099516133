use Rattle.std.proofs.Common.{◌≡◌, ◌<◌, ◌∙◌, sym, inl, inr, true, false, ℕ, length, length-append, subst}
use Rattle.std.specs.Prelude.{Contains}
use Rattle.pf_base.proofs.Outcomes.{ok_or_err, on_ok, refused_as}
use Rattle.pf_core.specs.Numbered.{Grows, ListsSteps}
use Rattle.pf_core.proofs.SearchLemmas.{Grows-trans}
use Rattle.pf_yen.specs.Internal.Learned.{LiveStep, IsLearned}
use Rattle.pf_yen.proofs.FilteredLemmas.{in_none, below_more, none_between}
use Rattle.pf_yen.proofs.ExploreLemmas.{learned_grow, learned_add, lists_live, lists_none}
use Rattle.pf_yen.proofs.explore.explore_next.Goals.{then-not-goal+in_ok-expand, else-not-goal}
use Rattle.std.proofs.lemmas.Result.{IfOk-from_err}
use Rattle.pf_yen.proofs.explore.explore_next.Goals as goal

pub is_goal-goal-requires-clause-inside : goal.is_goal-goal-requires-clause-inside
is_goal-goal-requires-clause-inside g c = rw c.len-number.ensures c.requires.inside

pub is_goal-goal-requires-clause-graph : goal.is_goal-goal-requires-clause-graph
is_goal-goal-requires-clause-graph g c = c.requires.graph

pub expand-requires-clause-inside : goal.expand-requires-clause-inside
expand-requires-clause-inside g c = rw c.len-number.ensures (subst (λ (m : ℕ). length c.args.adjacency.now.rows < m) (sym c.is_goal-goal.ensures.same) c.requires.inside)

pub expand-requires-clause-graph : goal.expand-requires-clause-graph
expand-requires-clause-graph g c = let r = c.requires.graph in (r.0, (c.is_goal-goal.ensures.graph r.0 r.1).0)

pub returns-in_err-expand : goal.returns-in_err-expand
returns-in_err-expand g c = record {
  learned = λ h x l.
      let value = g.C.Number.value in
      let step = g.G.NumberedGraph.step h in
      let passes = g.G.NumberedGraph.passes h in
      let k = c.args.adjacency.now in
      let b = c.is_goal-goal.ensures in
      let x1 = (b.graph h x).0 in
      let l1 = learned_grow value step passes _ _ _ _ b.grows (g.met.G.NumberedGraph.one_law _ h x1) (λ a low high. absurd (none_between _ _ _ low high b.same)) k l in
      let e = c.in_err-expand.ensures in
      let same = e.refused.1 in
      learned_grow value step passes _ _ _ _ e.grows (g.met.G.NumberedGraph.one_law _ h (e.graph h x1)) (λ a low high. absurd (none_between _ _ _ low high same)) k l1;
  more = IfOk-from_err _ _ c.from_residual.ensures.0;
  grows = Grows-trans _ _ _ _ _ _ c.is_goal-goal.ensures.grows c.in_err-expand.ensures.grows;
  graph = λ h x. c.in_err-expand.ensures.graph h (c.is_goal-goal.ensures.graph h x).0;
  refused = refused_as _ c.from_residual.result c.in_err-expand.field-0.0 c.from_residual.ensures.1 c.in_err-expand.ensures.refused.0;
}

pub returns : goal.returns
returns g c = record {
  learned = λ h x l.
      let value = g.C.Number.value in
      let step = g.G.NumberedGraph.step h in
      let passes = g.G.NumberedGraph.passes h in
      let stands = g.G.NumberedGraph.stands in
      let found = g.G.NumberedGraph.node_count in
      let k = c.args.adjacency.now in
      let n = length k.rows in
      let number : c.len-number.result ≡ n = c.len-number.ensures in
      let b = c.is_goal-goal.ensures in
      let x1 = (b.graph h x).0 in
      let told = rw number at (b.graph h x).1 in
      let l1 = learned_grow value step passes _ _ _ _ b.grows (g.met.G.NumberedGraph.one_law _ h x1) (λ a low high. absurd (none_between _ _ _ low high b.same)) k l in
      let near : n < found c.is_goal-goal.new.self = subst (λ (m : ℕ). n < m) (sym b.same) c.requires.inside in
      let p : IsLearned value step passes (stands c.if-not-goal.graph) (found c.if-not-goal.graph) k
      × (((y : g.G.NumberedGraph.Node) → stands c.if-not-goal.graph n y → ListsSteps value (LiveStep value step passes) (stands c.if-not-goal.graph) y c.if-not-goal.row.items × (c.is_goal-goal.result ≡ passes y))
      × (((j : ℕ) (d : g.row.C.Denot) → Contains c.if-not-goal.row.items (j, d) → j < found c.if-not-goal.graph)
      × (n < found c.if-not-goal.graph))) = elim c.if-not-goal.branch as (λ _. IsLearned value step passes (stands c.if-not-goal.graph) (found c.if-not-goal.graph) k
      × (((y : g.G.NumberedGraph.Node) → stands c.if-not-goal.graph n y → ListsSteps value (LiveStep value step passes) (stands c.if-not-goal.graph) y c.if-not-goal.row.items × (c.is_goal-goal.result ≡ passes y))
      × (((j : ℕ) (d : g.row.C.Denot) → Contains c.if-not-goal.row.items (j, d) → j < found c.if-not-goal.graph)
      × (n < found c.if-not-goal.graph)))) [
        | then-not-goal+in_ok-expand w ↦
            let f : c.is_goal-goal.result ≡ false = w.if-not-goal.true in
            let e = w.in_ok-expand.ensures in
            let x2 = e.graph h x1 in
            let m = rw number at e.listed in
            let y = l1.all n near in
            let lists = m.4 h x1 in
            rw (w.graph-is, w.row-is, m.1) (
              learned_grow value step passes _ _ _ _ e.grows (g.met.G.NumberedGraph.one_law _ h x2) (λ a low high. let d = m.3 a low high in let s = lists y.0 y.1 in let z = s.sound a d.0 d.1 in (z.0, z.2)) k l1,
              (
                (λ z s. let s1 = e.grows.back n z near s in let s0 = b.grows.back n z c.requires.inside s1 in (lists_live value step passes _ z m.0 (sym (told z s0) ∙ f) (lists z s1), told z s0)),
                (m.2, below_more _ _ _ near e.grows.more),
              ),
            )
        | else-not-goal w ↦
            let t : c.is_goal-goal.result ≡ true = w.if-not-goal.false in
            rw (w.graph-is, w.row-is, c.clear.ensures.items) (
              l1,
              (
                (λ z s. let s0 = b.grows.back n z c.requires.inside s in (lists_none value step passes _ z (sym (told z s0) ∙ t), told z s0)),
                ((λ j d q. absurd (in_none (j, d) q)), near),
              ),
            )
      ] in
      elim (ok_or_err c.add.result c.add.ensures.added c.add.ensures.kept) as (λ _. IsLearned value step passes (stands c.if-not-goal.graph) (found c.if-not-goal.graph) c.add.new.self) [
        | inl a ↦ rw (a, c.deref.ensures.value) (learned_add value step passes (found c.if-not-goal.graph) (stands c.if-not-goal.graph) k c.if-not-goal.row.items c.is_goal-goal.result p.0 p.1.1.1 p.1.0 p.1.1.0)
        | inr a ↦ rw a p.0
      ];
  grows =
      let b = c.is_goal-goal.ensures in
      let found = g.G.NumberedGraph.node_count in
      let stands = g.G.NumberedGraph.stands in
      elim c.if-not-goal.branch as (λ _. Grows (found c.args.graph.now) (found c.if-not-goal.graph) (stands c.args.graph.now) (stands c.if-not-goal.graph)) [
        | then-not-goal+in_ok-expand w ↦ rw w.graph-is (Grows-trans _ _ _ _ _ _ b.grows w.in_ok-expand.ensures.grows)
        | else-not-goal w ↦ rw w.graph-is b.grows
      ];
  graph = λ h x.
      let y = (c.is_goal-goal.ensures.graph h x).0 in
      elim c.if-not-goal.branch as (λ _. g.G.NumberedGraph.explores c.if-not-goal.graph h) [
        | then-not-goal+in_ok-expand w ↦ rw w.graph-is (w.in_ok-expand.ensures.graph h y)
        | else-not-goal w ↦ rw w.graph-is y
      ];
  refused = c.add.ensures.refused;
  more = on_ok c.add.result c.add.ensures.added (λ h. rw h (length-append c.args.adjacency.now.rows _));
}
