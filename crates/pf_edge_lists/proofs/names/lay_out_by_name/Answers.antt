use Rattle.std.proofs.Common.{◌≡◌, ◌∙◌, arith, sym, ap, subst, length, map}
use Rattle.std.specs.Prelude.{IfOk}
use Rattle.std.proofs.lemmas.List.{length-map, map-id}
use Rattle.std.proofs.lemmas.Result.{IfOk-from_err}
use Rattle.indexmap.specs.IndexSet.{insert_all}
use Rattle.pf_base.specs.NodeRefs.{nodes_of}
use Rattle.pf_base.proofs.Outcomes.{on_any, on_failed}
use Rattle.pf_adjacency.specs.NumberedEdges.{AreSoundEdges, IsLaidOut}
use Rattle.pf_edge_lists.specs.EdgeLists.{ends_of}
use Rattle.pf_edge_lists.specs.Internal.Layouts.{numbered_ends}
use Rattle.pf_edge_lists.proofs.EdgeListLemmas.{sound_numbers}
use Rattle.pf_edge_lists.proofs.NumberedNames.{AreNamed, named_from, names_from}
use Rattle.pf_edge_lists.proofs.names.lay_out_by_name.Goals as goal

pub returns-in_err-numbered : goal.returns-in_err-numbered
returns-in_err-numbered g c =
    let r = c.from_residual in
    record {
      names = on_failed _ _ r.ensures.0;
      rows = IfOk-from_err _ _ r.ensures.0;
      sound = IfOk-from_err _ _ r.ensures.0;
    }

pub returns-in_err-add_names : goal.returns-in_err-add_names
returns-in_err-add_names g c =
    let r = c.from_residual-in_err-add_names in
    record {
      names = on_failed _ _ r.ensures.0;
      rows = IfOk-from_err _ _ r.ensures.0;
      sound = IfOk-from_err _ _ r.ensures.0;
    }

pub returns-in_err-add_edges : goal.returns-in_err-add_edges
returns-in_err-add_edges g c =
    let r = c.from_residual-in_err-add_edges in
    record {
      names = on_failed _ _ r.ensures.0;
      rows = IfOk-from_err _ _ r.ensures.0;
      sound = IfOk-from_err _ _ r.ensures.0;
    }

pub add_edges-requires : goal.add_edges-requires
add_edges-requires g c = c.in_ok-numbered.ensures.items

pub from_sound_edges-requires-clause-few : goal.from_sound_edges-requires-clause-few
from_sound_edges-requires-clause-few g c = omega (arith, c.len.ensures.small)

pub from_sound_edges-requires-clause-sound : goal.from_sound_edges-requires-clause-sound
from_sound_edges-requires-clause-sound g c =
    let laws = g.met.N.Eq.laws in
    let edges = c.args.edges.now in
    let added = c.in_ok-add_edges.ensures in
    let names = nodes_of c.add_edges.new.names.keys in
    let named : AreNamed g.N.PartialEq.eq names edges = subst (λ ns. AreNamed g.N.PartialEq.eq ns edges) (sym added.names) (named_from laws (nodes_of c.add_names.new.names.keys) edges) in
    let same = map-id c.deref.result.now ∙ c.deref.ensures.value ∙ added.numbered in
    let long : length names ≡ c.len.result = length-map c.add_edges.new.names.keys _ ∙ sym c.len.ensures.len in
    subst (λ n. AreSoundEdges g.C.Number.value n (map (λ e. e) c.deref.result.now)) long (subst (AreSoundEdges g.C.Number.value (length names)) (sym same) (sound_numbers laws g.C.Number.value names edges named c.requires.costs))

pub returns : goal.returns
returns g c =
    let eq = g.N.PartialEq.eq in
    let r = c.from_sound_edges in
    let added = c.in_ok-add_edges.ensures in
    let names = nodes_of c.add_edges.new.names.keys in
    let same = map-id c.deref.result.now ∙ c.deref.ensures.value ∙ added.numbered in
    let long : c.len.result ≡ length names = c.len.ensures.len ∙ sym (length-map c.add_edges.new.names.keys _) in
    record {
      names = on_any r.result (added.names ∙ ap (λ ns. insert_all eq ns (ends_of c.args.edges.now)) (c.in_ok-add_names.ensures ∙ ap (λ ks. insert_all eq (nodes_of ks) c.args.given.now) c.requires.none) ∙ names_from g.met.N.Eq.laws (record { names = c.args.given.now; edges = c.args.edges.now }));
      rows = subst (λ n. IfOk r.result (IsLaidOut n (numbered_ends eq names c.args.edges.now))) long (subst (λ es. IfOk r.result (IsLaidOut c.len.result es)) same r.ensures.laid_out);
      sound = r.ensures.sound;
    }
