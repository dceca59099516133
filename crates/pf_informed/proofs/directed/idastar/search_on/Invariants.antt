use Rattle.std.proofs.Common.{◌≡◌, ◌-◌, ◌∷◌, [], ℤ, List, Bool, true}
use Rattle.std.specs.Prelude.{◌≤ℤ◌}
use Rattle.pf_core.specs.Nodes.{StandsFor, IsStep}
use Rattle.pf_core.specs.Steps.{NoGoalBelow}
use Rattle.pf_informed.specs.Internal.Forest.{nat_of}
use Rattle.pf_informed.specs.Internal.Rows.{IsWhole, KeepsNone, IsKnown}
use Rattle.pf_informed.proofs.directed.idastar.search_on.Given as goal

abbrev pub invariant-limits : goal.invariant-limits
invariant-limits g l =
    let eq = g.N.PartialEq.eq in
    let value = g.C.Number.value in
    let answers = IsKnown g.M.Numbering.keys eq value g.S.EdgeSource.answers g.T.NodeTest.answers g.H.EstimateFunction.answers in
    let begun = g.M.Numbering.keys l.fn.known.graph.discovery.nodes in
    let keys = g.M.Numbering.keys l.known.graph.discovery.nodes in
    record {
      begins : (x : g.row.N.Denot) → StandsFor eq begun 0 x → StandsFor eq keys 0 x;
      whole : IsWhole g.M.Numbering.keys l.known;
      unopened : KeepsNone l.known.rows.spans.items;
      searched : (start : g.row.N.Denot) (edges : g.row.N.Denot → List (g.row.N.Denot × ℤ)) (test : g.row.N.Denot → Bool) (least : g.row.N.Denot → ℤ) → StandsFor eq begun 0 start
          → answers (record { starts = start ∷ []; edges = edges }) test least l.fn.known
          → answers (record { starts = start ∷ []; edges = edges }) test least l.known
          × (least start ≤ℤ value l.limit)
          × NoGoalBelow (IsStep eq (record { starts = start ∷ []; edges = edges })) test (λ y. eq start y ≡ true) (value l.limit);
    }

abbrev pub decreases-limits : goal.decreases-limits
decreases-limits g l = nat_of (g.C.Number.value g.C.Cost.greatest) - nat_of (g.C.Number.value l.limit)
