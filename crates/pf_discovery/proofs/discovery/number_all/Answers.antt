use Rattle.std.proofs.Common.{refl, subst, length, ℕ, ◌≡◌, ◌≤◌, ◌∙◌, inl, arith, [], ◌∷◌, ◌++◌, map, take, take_all}
use Rattle.std.proofs.lemmas.List.{map-append}
use Rattle.pf_core.proofs.NodeLemmas.{take_longer, Numbers-grow, Numbers-push, AddedFrom-push, AddsNode-stays}
use Rattle.pf_core.proofs.OrderLemmas.{InOrder-push}
use Rattle.pf_core.proofs.ReadLemmas.{same_most, same_longer, same_kept}
use Rattle.pf_discovery.proofs.discovery.number_all.Goals as goal

pub items-init : goal.items-init
items-init g c = record {
  long = c.len-len.ensures.len;
  longer = same_most c.len-len.result (length (g.M.Numbering.keys c.args.nodes.now)) c.len-len.ensures.len;
  kept = take_all c.len-len.result (g.M.Numbering.keys c.args.nodes.now) (omega (arith, c.len-len.ensures.len));
  numbered = ([], c.requires.empty, tt);
  added = λ k m h. inl h;
  ordered = refl;
  distinct = c.requires.distinct;
}

pub items-preserved : goal.items-preserved
items-preserved g c =
    let eq = g.N.PartialEq.eq in
    let i = c.items.invariant in
    let a = c.in_default.ensures.added in
    let n = c.in_default.ensures.numbered in
    let keys = g.M.Numbering.keys c.items.nodes in
    let keys' = g.M.Numbering.keys c.number_edge.new.nodes in
    let edge = g.S.EdgeSource.edge in
    let said = c.edge_of-edge.result in
    let more : map edge (c.items.yielded ++ c.in-Some.item ∷ []) ≡ map edge c.items.yielded ++ said ∷ [] = rw c.edge_of-edge.ensures (map-append edge c.items.yielded (c.in-Some.item ∷ [])) in
    let grown = Numbers-grow eq keys keys' i.numbered.0 (map edge c.items.yielded) (AddsNode-stays eq said.0 keys keys' a) i.numbered.2 in
    record {
      long = i.long;
      longer = omega (arith, i.longer, a.longer);
      kept = take_longer eq c.len-len.result keys keys' i.longer a.kept ∙ i.kept;
      numbered = (
        i.numbered.0 ++ (n.0, said.1) ∷ [],
        n.2 i.numbered.0 i.numbered.1,
        rw more (Numbers-push eq keys' i.numbered.0 (map edge c.items.yielded) n.0 said.1 said.0 grown n.1),
      );
      added = rw more (AddedFrom-push eq (g.M.Numbering.keys c.args.nodes.now) keys keys' (map edge c.items.yielded) said.1 said.0 a i.added);
      ordered = rw more (rw (map-append (λ (x : g.row.N.Denot × g.row.C.Denot). x.0) (map edge c.items.yielded) (said ∷ [])) (InOrder-push eq g.met.N.Eq.laws keys keys' (length (g.M.Numbering.keys c.args.nodes.now)) (map (λ (x : g.row.N.Denot × g.row.C.Denot). x.0) (map edge c.items.yielded)) said.0 n.0 a n.1 i.ordered));
      distinct = a.distinct i.distinct;
    }

pub next-requires : goal.next-requires
next-requires g c = c.items.iterator.0

pub items-smaller : goal.items-smaller
items-smaller g c = (c.in-Some.ensures.goes.on c.items.iterator.1).2

pub returns-in-Err-clause-numbered : goal.returns-in-Err-clause-numbered
returns-in-Err-clause-numbered g c = tt

pub returns-in-Err-clause-stays : goal.returns-in-Err-clause-stays
returns-in-Err-clause-stays g c =
    let i = c.items.invariant in
    c.truncate.ensures.keys ∙ take_longer g.N.PartialEq.eq c.len-len.result (g.M.Numbering.keys c.items.nodes) (g.M.Numbering.keys c.number_edge.new.nodes) i.longer c.number_edge.ensures.added.kept ∙ i.kept

pub returns-in-Err-clause-longer : goal.returns-in-Err-clause-longer
returns-in-Err-clause-longer g c = same_longer (g.M.Numbering.keys c.args.nodes.now) (g.M.Numbering.keys c.truncate.new.self) (returns-in-Err-clause-stays g c)

pub returns-in-Err-clause-kept : goal.returns-in-Err-clause-kept
returns-in-Err-clause-kept g c = same_kept (g.M.Numbering.keys c.args.nodes.now) (g.M.Numbering.keys c.truncate.new.self) (returns-in-Err-clause-stays g c)

pub returns-in-Err-clause-distinct : goal.returns-in-Err-clause-distinct
returns-in-Err-clause-distinct g c = c.truncate.ensures.unique

pub returns-in-Err-clause-refused : goal.returns-in-Err-clause-refused
returns-in-Err-clause-refused g c = c.in-Err.ensures.refused

pub returns : goal.returns
returns g c = record {
  numbered =
      let i = c.items.invariant in (
        c.into_iter-item-iterator.result,
        c.items.yielded,
        c.into_iter-item-iterator.ensures.into_iter_gives,
        (c.next.new.self, (c.items.item-iterator, c.items.yielded_by, c.in-None.ensures.steps)),
        i.numbered,
        i.added,
        i.ordered,
      );
  distinct = c.items.invariant.distinct;
  longer = subst (λ (n : ℕ). n ≤ length (g.M.Numbering.keys c.items.nodes)) c.items.invariant.long c.items.invariant.longer;
  kept = subst (λ (n : ℕ). take n (g.M.Numbering.keys c.items.nodes) ≡ (g.M.Numbering.keys c.args.nodes.now)) c.items.invariant.long c.items.invariant.kept;
  stays = tt;
  refused = tt;
}
