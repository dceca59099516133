use Rattle.std.proofs.Common.{◌≡◌, ◌++◌, ◌∷◌, [], refl, sym, ◌∙◌, ap, take, take_all, length, Some, slice_get, map, ℕ}
use Rattle.std.proofs.lemmas.Option.{slice_get_read}
use Rattle.indexmap.specs.IndexSet.{insert_all, insert_key}
use Rattle.pf_base.specs.NodeRefs.{nodes_of}
use Rattle.pf_base.specs.Places.{number_of}
use Rattle.pf_edge_lists.specs.EdgeLists.{ends_of}
use Rattle.pf_base.proofs.Outcomes.{on_failed}
use Rattle.pf_edge_lists.proofs.NumberedNames.{numbered, more_names, more_numbers, refs_insert, refs_number}
use Rattle.pf_edge_lists.proofs.names.add_edges.Goals as goal

pub loop-edge-init : goal.loop-edge-init
loop-edge-init g c = record {
  names = refl;
  numbered = c.requires;
}

pub returns-in_err-from : goal.returns-in_err-from
returns-in_err-from g c =
    let r = c.from_residual in
    record {
      names = on_failed _ _ r.ensures.0;
      numbered = on_failed _ _ r.ensures.0;
    }

pub returns-in_err-to : goal.returns-in_err-to
returns-in_err-to g c =
    let r = c.from_residual-in_err-to in
    record {
      names = on_failed _ _ r.ensures.0;
      numbered = on_failed _ _ r.ensures.0;
    }

pub returns-in_err-push : goal.returns-in_err-push
returns-in_err-push g c =
    let r = c.from_residual-in_err-push in
    record {
      names = on_failed _ _ r.ensures.0;
      numbered = on_failed _ _ r.ensures.0;
    }

pub loop-edge-preserved : goal.loop-edge-preserved
loop-edge-preserved g c =
    let eq = g.N.PartialEq.eq in
    let laws = g.met.N.Eq.laws in
    let e = c.edge-item.result in
    let edges = c.args.edges.now in
    let i = c.loop-edge.edge-index in
    let stands : slice_get edges i ≡ Some e = slice_get_read edges (length edges) i e refl c.loop-edge-test.true c.edge-item.is in
    let given = nodes_of c.args.names.now.keys in
    let before = insert_all eq given (ends_of (take i edges)) in
    let first : nodes_of c.insert_full.new.self.keys ≡ insert_key eq before e.0 = ap nodes_of c.in_ok-from.ensures.keys ∙ refs_insert laws c.loop-edge.names.keys _ ∙ ap (λ ns. insert_key eq ns e.0) c.loop-edge.invariant.names in
    let second : nodes_of c.insert_full-in-loop-edge.new.self.keys ≡ insert_key eq (insert_key eq before e.0) e.1 = ap nodes_of c.in_ok-to.ensures.keys ∙ refs_insert laws c.insert_full.new.self.keys _ ∙ ap (λ ns. insert_key eq ns e.1) first in
    let from : c.in_ok-from.field-0.0 ≡ number_of eq before e.0 = c.in_ok-from.ensures.index ∙ refs_number laws c.loop-edge.names.keys e.0 ∙ ap (λ ns. number_of eq ns e.0) c.loop-edge.invariant.names in
    let to : c.in_ok-to.field-0.0 ≡ number_of eq (insert_key eq before e.0) e.1 = c.in_ok-to.ensures.index ∙ refs_number laws c.insert_full.new.self.keys e.1 ∙ ap (λ ns. number_of eq ns e.1) first in
    record {
      names = second ∙ sym (more_names laws given edges i e stands);
      numbered = c.in_ok-push.ensures.items
          ∙ ap (λ xs. xs ++ (c.in_ok-from.field-0.0, c.in_ok-to.field-0.0, e.2) ∷ []) c.loop-edge.invariant.numbered
          ∙ ap (λ (n : ℕ). map (numbered eq before) (take i edges) ++ (n, c.in_ok-to.field-0.0, e.2) ∷ []) from
          ∙ ap (λ (n : ℕ). map (numbered eq before) (take i edges) ++ (number_of eq before e.0, n, e.2) ∷ []) to
          ∙ more_numbers laws given edges i e stands;
    }

pub returns : goal.returns
returns g c =
    let eq = g.N.PartialEq.eq in
    let edges = c.args.edges.now in
    let all = take_all c.loop-edge.edge-index edges c.loop-edge-test.false in
    let named = c.loop-edge.invariant.names ∙ ap (λ es. insert_all eq (nodes_of c.args.names.now.keys) (ends_of es)) all in
    record {
      names = named;
      numbered = c.loop-edge.invariant.numbered ∙ ap (λ ns. map (numbered eq ns) (take c.loop-edge.edge-index edges)) (sym c.loop-edge.invariant.names) ∙ ap (map (numbered eq (nodes_of c.loop-edge.names.keys))) all;
    }
