use Rattle.std.proofs.Common.{refl}
use Rattle.std.proofs.lemmas.Result.{IfOk-from_err}
use Rattle.pf_base.proofs.Outcomes.{refused_as}
use Rattle.pf_edge_lists.specs.EdgeLists.{NamesAndEdges, names_of}
use Rattle.pf_edge_lists.proofs.EdgeListLemmas.{has_edges_by_name, edge_list_graph}
use Rattle.pf_edge_lists.proofs.NumberedNames.{all_given, all_named, number_stands, names_apart, names_are_mentions}
use Rattle.pf_edge_lists.proofs.edge_list.EdgeList.with_names.Goals as goal

pub lay_out_by_name-requires-clause-none : goal.lay_out_by_name-requires-clause-none
lay_out_by_name-requires-clause-none g c = c.new-numbers.ensures.empty

pub returns-in_err-rows : goal.returns-in_err-rows
returns-in_err-rows g c =
    let r = c.from_residual in
    record {
      edges = IfOk-from_err _ _ r.ensures.0;
      names = IfOk-from_err _ _ r.ensures.0;
      apart = IfOk-from_err _ _ r.ensures.0;
      numbered = IfOk-from_err _ _ r.ensures.0;
      places = IfOk-from_err _ _ r.ensures.0;
      sound = IfOk-from_err _ _ r.ensures.0;
      fault = refused_as _ r.result _ r.ensures.1 c.in_default.ensures;
    }

pub lay_out_by_name-requires-clause-costs : goal.lay_out_by_name-requires-clause-costs
lay_out_by_name-requires-clause-costs g c = c.in_default.ensures

pub invariant_of-result : goal.invariant_of-result
invariant_of-result g c = let made = c.in_ok-rows.ensures in record { named = made.names; rows = made.rows }

pub returns-in-Some : goal.returns-in-Some
returns-in-Some g c = record {
  edges = tt;
  names = tt;
  apart = tt;
  numbered = tt;
  places = tt;
  sound = tt;
  fault = c.in-Some.ensures;
}

pub returns : goal.returns
returns g c =
    let laws = g.met.N.Eq.laws in
    let list : NamesAndEdges g.row.N.Denot g.row.C.Denot = record { names = c.args.names.now; edges = c.args.edges.now } in
    let names = names_of g.N.PartialEq.eq list in
    record {
      edges = refl;
      names = names_are_mentions laws list;
      apart = names_apart laws list;
      numbered = record {
        given = λ k x h. number_stands laws names x (all_given laws list k x h);
        ends = λ k e h. let both = all_named laws list k e h in (number_stands laws names e.0 both.0, number_stands laws names e.1 both.1);
      };
      places = has_edges_by_name laws list;
      sound = edge_list_graph laws list _ _ (invariant_of-result g c) g.C.Number.value c.in_ok-rows.ensures.sound.graph;
      fault = tt;
    }
