use Rattle.std.proofs.Common.{length, ◌≡◌, sym, subst, Some, slice_get, ℕ, inl, inr, map, List, ◌<◌, ap}
use Rattle.std.proofs.lemmas.Result.{on_err_weaker}
use Rattle.pf_base.specs.Edges.{InReach}
use Rattle.pf_core.specs.NodeLaws.{StandsFor-one}
use Rattle.pf_base.proofs.ListLemmas.{at_place}
use Rattle.pf_base.proofs.Outcomes.{on_ok, ok_or_err, refused_still}
use Rattle.pf_base.proofs.Asking.{Gives-ends, Gives-drains}
use Rattle.pf_core.proofs.NodeLemmas.{fresh_number, Grows-from_take, inside_of, Lists-from, reached_added}
use Rattle.pf_core.proofs.OrderLemmas.{Placed-same, InOrder-same, ends_at}
use Rattle.pf_discovery.proofs.discovery.DiscoveryByNumberedGraph.expand.Goals as goal

pub items-items-requires : goal.items-items-requires
items-items-requires g c =
    let r = c.requires.graph in
    let at : slice_get (g.M.Numbering.keys c.args.self.now.nodes) c.args.node ≡ Some c.index-as_slice-node.result = at_place _ _ _ _ c.requires.inside (sym (rw c.as_slice.ensures.keys at c.index-as_slice-node.is)) in
    record { within = (r.0.starts, r.0.edges, r.1.reached c.args.node c.index-as_slice-node.result at, r.1.answered) }

pub number_all-requires-clause-ends : goal.number_all-requires-clause-ends
number_all-requires-clause-ends g c =
    let r = c.requires.graph in
    let at : slice_get (g.M.Numbering.keys c.args.self.now.nodes) c.args.node ≡ Some c.index-as_slice-node.result = at_place _ _ _ _ c.requires.inside (sym (rw c.as_slice.ensures.keys at c.index-as_slice-node.is)) in
    Gives-ends _ _ _ _ _ _ (c.items-items.ensures.listed r.0.starts r.0.edges (r.1.reached c.args.node c.index-as_slice-node.result at) r.1.answered)

pub bounds-as_slice-node : goal.bounds-as_slice-node
bounds-as_slice-node g c = subst (λ (ks : List g.row.N.Denot). c.args.node < length ks) (sym c.as_slice.ensures.keys) c.requires.inside

pub number_all-requires-clause-empty : goal.number_all-requires-clause-empty
number_all-requires-clause-empty g c = c.reset.ensures

pub number_all-requires-clause-distinct : goal.number_all-requires-clause-distinct
number_all-requires-clause-distinct g c = c.as_slice.ensures.unique

pub returns : goal.returns
returns g c = record {
  grows = Grows-from_take g.N.PartialEq.eq (g.M.Numbering.keys c.args.self.now.nodes) (g.M.Numbering.keys c.number_all.new.nodes) c.number_all.ensures.longer c.number_all.ensures.kept;
  graph = λ h x.
      let eq = g.N.PartialEq.eq in
      let laws = g.met.N.Eq.laws in
      let edge = g.S.EdgeSource.edge in
      let keys = g.M.Numbering.keys c.args.self.now.nodes in
      let keys' = g.M.Numbering.keys c.number_all.new.nodes in
      let here = c.index-as_slice-node.result in
      let at : slice_get keys c.args.node ≡ Some here = at_place _ _ _ _ c.requires.inside (sym (rw c.as_slice.ensures.keys at c.index-as_slice-node.is)) in
      let reach = x.reached c.args.node here at in
      let gives = c.items-items.ensures.listed h.starts h.edges reach x.answered in
      record {
        alike = x.alike;
        answered = c.items-items.ensures.goes_on h.starts h.edges reach x.answered;
        distinct = c.number_all.ensures.distinct;
        reached = elim (ok_or_err c.number_all.result c.number_all.ensures.numbered c.number_all.ensures.stays) as (λ _. (k : ℕ) (y : g.row.N.Denot) → slice_get keys' k ≡ Some y → InReach eq h.edges h.starts y) [
          | inl n ↦ reached_added eq laws h.edges h.starts x.alike g.C.Number.value keys keys' here (map edge n.1) reach (Gives-drains _ _ _ _ _ _ gives n.0 n.1 n.2 n.3) n.5 x.reached
          | inr e ↦ λ k y q. x.reached k y (subst (λ ks. slice_get ks k ≡ Some y) e q)
        ];
      };
  listed = on_ok c.number_all.result c.number_all.ensures.numbered (λ n.
      let eq = g.N.PartialEq.eq in
      let laws = g.met.N.Eq.laws in
      let items = map g.S.EdgeSource.edge n.1 in
      let keys = g.M.Numbering.keys c.args.self.now.nodes in
      let keys' = g.M.Numbering.keys c.number_all.new.nodes in
      let here = c.index-as_slice-node.result in
      let at : slice_get keys c.args.node ≡ Some here = at_place _ _ _ _ c.requires.inside (sym (rw c.as_slice.ensures.keys at c.index-as_slice-node.is)) in
      let steps = n.4 in (
        steps.0,
        steps.1,
        inside_of eq keys' steps.0 items steps.2,
        λ j low high. fresh_number eq laws keys keys' c.number_all.ensures.distinct steps.0 items steps.2 n.5 j low high,
        λ h x y s.
            let reach = x.reached c.args.node here at in
            let gives = c.items-items.ensures.listed h.starts h.edges reach x.answered in
            Lists-from eq laws g.C.Number.value h x.alike keys keys' c.args.node here steps.0 items at reach steps.2 (Gives-drains _ _ _ _ _ _ gives n.0 n.1 n.2 n.3) (λ i j z. StandsFor-one eq laws keys' c.number_all.ensures.distinct i j z) y s,
      ));
  placed = on_ok c.number_all.result c.number_all.ensures.numbered (λ n.
      let eq = g.N.PartialEq.eq in
      let laws = g.met.N.Eq.laws in
      let items = map g.S.EdgeSource.edge n.1 in
      let keys = g.M.Numbering.keys c.args.self.now.nodes in
      let keys' = g.M.Numbering.keys c.number_all.new.nodes in
      let here = c.index-as_slice-node.result in
      let at : slice_get keys c.args.node ≡ Some here = at_place _ _ _ _ c.requires.inside (sym (rw c.as_slice.ensures.keys at c.index-as_slice-node.is)) in
      let steps = n.4 in (
        steps.0,
        steps.1,
        λ h x y s.
            let reach = x.reached c.args.node here at in
            let gives = c.items-items.ensures.listed h.starts h.edges reach x.answered in
            Placed-same eq laws keys' steps.0 items _ steps.2 (ends_at eq laws g.C.Number.value h x.alike keys c.args.node here items at reach (Gives-drains _ _ _ _ _ _ gives n.0 n.1 n.2 n.3) y s),
      ));
  ordered = on_ok c.number_all.result c.number_all.ensures.numbered (λ n. λ h x y s.
      let eq = g.N.PartialEq.eq in
      let laws = g.met.N.Eq.laws in
      let items = map g.S.EdgeSource.edge n.1 in
      let keys = g.M.Numbering.keys c.args.self.now.nodes in
      let keys' = g.M.Numbering.keys c.number_all.new.nodes in
      let here = c.index-as_slice-node.result in
      let at : slice_get keys c.args.node ≡ Some here = at_place _ _ _ _ c.requires.inside (sym (rw c.as_slice.ensures.keys at c.index-as_slice-node.is)) in
      let reach = x.reached c.args.node here at in
      let gives = c.items-items.ensures.listed h.starts h.edges reach x.answered in
      InOrder-same eq laws keys' (length keys) (length keys') _ _ (ends_at eq laws g.C.Number.value h x.alike keys c.args.node here items at reach (Gives-drains _ _ _ _ _ _ gives n.0 n.1 n.2 n.3) y s) n.6);
  back = c.number_all.ensures.longer;
  refused = refused_still _ _ c.number_all.result c.number_all.ensures.refused (on_err_weaker c.number_all.result (λ e. ap length e) c.number_all.ensures.stays);
}
