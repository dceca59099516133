use Rattle.std.proofs.Common.{ℕ, List, ◌≡◌, ◌≤◌, length, take, map}
use Rattle.std.specs.List.{IsDistinct}
use Rattle.pf_core.specs.Numbered.{NumbersInOrder}
use Rattle.pf_core.specs.Nodes.{StandsFor, NumbersItems, AddedFrom}
use Rattle.pf_discovery.proofs.discovery.number_all.Given as goal

abbrev pub invariant-items : goal.invariant-items
invariant-items g l = record {
  long : l.len ≡ length (g.M.Numbering.keys l.fn.nodes);
  longer : l.len ≤ length (g.M.Numbering.keys l.nodes);
  kept : take l.len (g.M.Numbering.keys l.nodes) ≡ (g.M.Numbering.keys l.fn.nodes);
  numbered : (steps : List (ℕ × g.row.C.Denot)) × g.R.Row.holds l.row steps × NumbersItems g.N.PartialEq.eq (g.M.Numbering.keys l.nodes) steps (map g.S.EdgeSource.edge l.yielded);
  added : AddedFrom g.N.PartialEq.eq (map g.S.EdgeSource.edge l.yielded) (g.M.Numbering.keys l.fn.nodes) (g.M.Numbering.keys l.nodes);
  ordered : NumbersInOrder (StandsFor g.N.PartialEq.eq (g.M.Numbering.keys l.nodes)) (length (g.M.Numbering.keys l.fn.nodes)) (map (λ (x : g.row.N.Denot × g.row.C.Denot). x.0) (map g.S.EdgeSource.edge l.yielded)) (length (g.M.Numbering.keys l.nodes));
  distinct : IsDistinct g.N.PartialEq.eq (g.M.Numbering.keys l.nodes);
}
