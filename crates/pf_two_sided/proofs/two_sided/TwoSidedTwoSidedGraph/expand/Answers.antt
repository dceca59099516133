use Rattle.std.proofs.Common.{◌≡◌, ◌<◌, ℕ, length, refl, sym, subst}
use Rattle.std.specs.Prelude.{◌↔◌}
use Rattle.std.proofs.lemmas.Result.{IfErr-weaker}
use Rattle.pf_base.specs.declared.error.PathError.TheVariants.{OutOfMemory}
use Rattle.pf_two_sided.specs.declared.sides.Side.{Side}
use Rattle.pf_core.specs.Nodes.{StandsFor}
use Rattle.pf_core.specs.Numbered.{Grows}
use Rattle.pf_two_sided.specs.Internal.Sides.{by_side, opposite}
use Rattle.pf_base.proofs.Outcomes.{on_ok}
use Rattle.pf_two_sided.proofs.two_sided.TwoSidedTwoSidedGraph.expand.Goals as goal

pub expand-requires-clause-inside : goal.expand-requires-clause-inside
expand-requires-clause-inside g c = subst (λ (side : Side). c.args.node < length (by_side side (g.M.Numbering.keys c.args.self.now.forth.nodes) (g.M.Numbering.keys c.args.self.now.back.nodes))) c.in-Forth.is c.requires.inside

pub expand-requires-clause-graph : goal.expand-requires-clause-graph
expand-requires-clause-graph g c = let r = c.requires.graph in (r.0.0, r.1.0)

pub expand-requires-in-Back-clause-inside : goal.expand-requires-in-Back-clause-inside
expand-requires-in-Back-clause-inside g c = subst (λ (side : Side). c.args.node < length (by_side side (g.M.Numbering.keys c.args.self.now.forth.nodes) (g.M.Numbering.keys c.args.self.now.back.nodes))) c.in-Back.is c.requires.inside

pub expand-requires-in-Back-clause-graph : goal.expand-requires-in-Back-clause-graph
expand-requires-in-Back-clause-graph g c = let r = c.requires.graph in (r.0.1, r.1.1)

pub returns-in-Forth : goal.returns-in-Forth
returns-in-Forth g c =
    let before = λ (side : Side). by_side side (g.M.Numbering.keys c.args.self.now.forth.nodes) (g.M.Numbering.keys c.args.self.now.back.nodes) in
    let after = λ (side : Side). by_side side (g.M.Numbering.keys c.expand.new.self.nodes) (g.M.Numbering.keys c.args.self.now.back.nodes) in
    record {
      grows = subst (λ (side : Side). Grows (length (before side)) (length (after side)) (StandsFor g.N.PartialEq.eq (before side)) (StandsFor g.N.PartialEq.eq (after side))) (sym c.in-Forth.is) c.expand.ensures.grows;
      other = subst (λ (side : Side). (length (after (opposite side)) ≡ length (before (opposite side))) × ((k : ℕ) (x : g.row.N.Denot) → StandsFor g.N.PartialEq.eq (after (opposite side)) k x ↔ StandsFor g.N.PartialEq.eq (before (opposite side)) k x)) (sym c.in-Forth.is) (refl, λ k x. (λ t. t, λ t. t));
      graph = λ h x. (c.expand.ensures.graph h.0 x.0, x.1);
      listed = rw c.in-Forth.is (on_ok c.expand.result c.expand.ensures.listed (λ n. (n.0, n.2, n.3, λ h x. n.4 h.0 x.0)));
      refused = IfErr-weaker c.expand.result _ (λ e. e ≡ OutOfMemory) (λ e h. h.0) c.expand.ensures.refused;
    }

pub returns-in-Back : goal.returns-in-Back
returns-in-Back g c =
    let before = λ (side : Side). by_side side (g.M.Numbering.keys c.args.self.now.forth.nodes) (g.M.Numbering.keys c.args.self.now.back.nodes) in
    let after = λ (side : Side). by_side side (g.M.Numbering.keys c.args.self.now.forth.nodes) (g.M.Numbering.keys c.expand-in-Back.new.self.nodes) in
    record {
      grows = subst (λ (side : Side). Grows (length (before side)) (length (after side)) (StandsFor g.N.PartialEq.eq (before side)) (StandsFor g.N.PartialEq.eq (after side))) (sym c.in-Back.is) c.expand-in-Back.ensures.grows;
      other = subst (λ (side : Side). (length (after (opposite side)) ≡ length (before (opposite side))) × ((k : ℕ) (x : g.row.N.Denot) → StandsFor g.N.PartialEq.eq (after (opposite side)) k x ↔ StandsFor g.N.PartialEq.eq (before (opposite side)) k x)) (sym c.in-Back.is) (refl, λ k x. (λ t. t, λ t. t));
      graph = λ h x. (x.0, c.expand-in-Back.ensures.graph h.1 x.1);
      listed = rw c.in-Back.is (on_ok c.expand-in-Back.result c.expand-in-Back.ensures.listed (λ n. (n.0, n.2, n.3, λ h x. n.4 h.1 x.1)));
      refused = IfErr-weaker c.expand-in-Back.result _ (λ e. e ≡ OutOfMemory) (λ e h. h.0) c.expand-in-Back.ensures.refused;
    }
