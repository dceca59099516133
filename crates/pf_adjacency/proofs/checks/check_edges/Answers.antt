use Rattle.std.proofs.Common.{map, inl, inr, length, refl, sym, subst, ◌∙◌, ap, arith}
use Rattle.std.specs.Prelude.{slice_get}
use Rattle.std.proofs.lemmas.List.{length-map}
use Rattle.std.proofs.lemmas.Option.{slice_get_read, slice_get_within}
use Rattle.std.proofs.lemmas.Result.{err_from_is_err_and}
use Rattle.pf_tables.proofs.Faulty.{less_or_same, some_same}
use Rattle.pf_adjacency.specs.NumberedEdges.{IsSoundEdge}
use Rattle.pf_adjacency.proofs.LayoutLemmas.{edge_at}
use Rattle.pf_adjacency.proofs.checks.check_edges.Goals as goal

pub returns-in_err-check_edge : goal.returns-in_err-check_edge
returns-in_err-check_edge g c =
    let edges = c.args.edges.now in
    let i = c.loop-number.number in
    let stands = edge_at g.E.NumberedEdge.ends edges i c.index-edges-number.result c.ends.result (slice_get_read edges (length edges) i c.index-edges-number.result refl c.loop-number-test.true c.index-edges-number.is) c.ends.ensures in
    let p = err_from_is_err_and c.from_residual.result c.from_residual.ensures.1 in
    rw (p.1, p.2) (record { number = i; edge = c.ends.result; stands = stands; fault = c.in_err-check_edge.ensures; before = c.loop-number.invariant })

pub loop-number-preserved : goal.loop-number-preserved
loop-number-preserved g c =
    let edges = c.args.edges.now in
    let i = c.loop-number.number in
    let stands = edge_at g.E.NumberedEdge.ends edges i c.index-edges-number.result c.ends.result (slice_get_read edges (length edges) i c.index-edges-number.result refl c.loop-number-test.true c.index-edges-number.is) c.ends.ensures in
    λ k edge l h. elim (less_or_same k i l) as (λ _. IsSoundEdge g.C.Number.value c.args.size edge) [
      | inl b ↦ c.loop-number.invariant k edge b h
      | inr s ↦ subst (IsSoundEdge g.C.Number.value c.args.size) (some_same (sym stands ∙ ap (slice_get (map g.E.NumberedEdge.ends edges)) (sym s) ∙ h)) c.in_ok-check_edge.ensures
    ]

pub returns : goal.returns
returns g c = λ k edge h.
    let inside = slice_get_within (map g.E.NumberedEdge.ends c.args.edges.now) k edge h in
    c.loop-number.invariant k edge (omega (arith, inside, length-map c.args.edges.now g.E.NumberedEdge.ends, c.loop-number-test.false)) h
