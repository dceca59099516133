use Rattle.std.proofs.Common.{◌<◌, subst, refl, ℕ, map, ◌≡◌, Some, ◌∙◌, ap, inl, arith, [], ◌∷◌, ◌++◌, take_all, take, length, nat_eq}
use Rattle.pf_core.proofs.NodeLemmas.{take_longer, Numbers-grow, Numbers-push, AddedFrom-push, AddsNode-stays}
use Rattle.std.proofs.lemmas.List.{map-append}
use Rattle.std.proofs.lemmas.Cmp.{nat_eq_equiv}
use Rattle.pf_core.proofs.OrderLemmas.{InOrder-push}
use Rattle.pf_table_breadth.specs.Internal.Numbering.{steps_at}
use Rattle.pf_table_breadth.proofs.IndexLemmas.{steps_more, steps_same}
use Rattle.pf_table_breadth.proofs.explored.number_places.Goals.{in-Some+in_default-number_edge, in_default}
use Rattle.pf_table_breadth.proofs.explored.number_places.Goals as goal

pub loop-place-init : goal.loop-place-init
loop-place-init g c =
    let order = c.args.numbering.now.order.items in
    let long : c.len-before.result ≡ length order = omega (arith, c.len-before.ensures, c.args.numbering.now.order.ok) in
    record {
      long = long;
      longer = omega (arith, long);
      kept = take_all c.len-before.result order (omega (arith, long));
      index = c.requires.numbering.0;
      wide = c.requires.numbering.1;
      numbered = ([], c.requires.empty, tt);
      added = λ k m h. inl h;
      ordered = refl;
      distinct = λ d. d;
    }

pub edge-requires-clause-node : goal.edge-requires-clause-node
edge-requires-clause-node g c = c.requires.inside

pub edge-requires-clause-place : goal.edge-requires-clause-place
edge-requires-clause-place g c = subst (λ n. c.loop-place.place < n) c.places-place-end.ensures c.loop-place-test.true

pub number_edge-requires-clause-index : goal.number_edge-requires-clause-index
number_edge-requires-clause-index g c = c.loop-place.invariant.index

pub number_edge-requires-clause-inside : goal.number_edge-requires-clause-inside
number_edge-requires-clause-inside g c =
    let l = c.known.ensures.inside c.args.node c.loop-place.place c.in-Some.edge c.requires.inside c.in-Some.ensures in
    omega (arith, l, c.loop-place.invariant.wide)

pub forget-requires-clause-index : goal.forget-requires-clause-index
forget-requires-clause-index g c = c.in-Err.ensures.index

pub forget-requires-clause-inside : goal.forget-requires-clause-inside
forget-requires-clause-inside g c = let v = c.loop-place.invariant in omega (arith, v.longer, c.in-Err.ensures.added.longer)

pub returns-in-Err-clause-numbering : goal.returns-in-Err-clause-numbering
returns-in-Err-clause-numbering g c = (c.forget.ensures.index, c.forget.ensures.wide ∙ c.in-Err.ensures.wide ∙ c.loop-place.invariant.wide)

pub returns-in-Err-clause-refused : goal.returns-in-Err-clause-refused
returns-in-Err-clause-refused g c = c.in-Err.ensures.refused

pub returns-in-Err-clause-stays : goal.returns-in-Err-clause-stays
returns-in-Err-clause-stays g c =
    let v = c.loop-place.invariant in
    c.forget.ensures.left ∙ take_longer nat_eq c.len-before.result c.loop-place.numbering.order.items c.number_edge.new.numbering.order.items v.longer c.in-Err.ensures.added.kept ∙ v.kept

pub returns-in-Err-clause-distinct : goal.returns-in-Err-clause-distinct
unfolding returns-in-Err-clause-stays
returns-in-Err-clause-distinct g c = λ d. rw (returns-in-Err-clause-stays g c) d

pub returns-in-Err-clause-kept : goal.returns-in-Err-clause-kept
unfolding returns-in-Err-clause-stays
returns-in-Err-clause-kept g c =
    let order = c.args.numbering.now.order.items in
    ap (take (length order)) (returns-in-Err-clause-stays g c) ∙ take_all (length order) order (omega arith)

pub loop-place-preserved : goal.loop-place-preserved
loop-place-preserved g c =
    let v = c.loop-place.invariant in
    let places = g.G.Graph.places c.args.graph.now c.args.node in
    let i = c.loop-place.place in
    let old = c.loop-place.numbering.order.items in
    elim c.match-edge.branch [
      | in-Some+in_default-number_edge w ↦
          let a = w.in_default-number_edge.ensures.added in
          let n = w.in_default-number_edge.ensures.numbered in
          let new = w.number_edge.new.numbering.order.items in
          let more = steps_more places i w.in-Some.edge w.in-Some.ensures in
          let grown = Numbers-grow nat_eq old new v.numbered.0 (steps_at (take i places)) (AddsNode-stays nat_eq w.in-Some.edge.0 old new a) v.numbered.2 in
          rw (w.numbering-is, w.row-is) (record {
            long = v.long;
            longer = omega (arith, v.longer, a.longer);
            kept = take_longer nat_eq c.len-before.result old new v.longer a.kept ∙ v.kept;
            index = w.in_default-number_edge.ensures.index;
            wide = w.in_default-number_edge.ensures.wide ∙ v.wide;
            numbered = (
              v.numbered.0 ++ (n.0, 1) ∷ [],
              n.2 v.numbered.0 v.numbered.1,
              rw more (Numbers-push nat_eq new v.numbered.0 (steps_at (take i places)) n.0 1 w.in-Some.edge.0 grown n.1),
            );
            added = rw more (AddedFrom-push nat_eq c.args.numbering.now.order.items old new (steps_at (take i places)) 1 w.in-Some.edge.0 a v.added);
            ordered = rw more (rw (map-append (λ (x : ℕ × ℕ). x.0) (steps_at (take i places)) ((w.in-Some.edge.0, 1) ∷ [])) (InOrder-push nat_eq nat_eq_equiv old new (length c.args.numbering.now.order.items) (map (λ (x : ℕ × ℕ). x.0) (steps_at (take i places))) w.in-Some.edge.0 n.0 a n.1 v.ordered));
            distinct = λ d. a.distinct (v.distinct d);
          })
      | in_default w ↦
          let same = steps_same places i (c.edge.ensures ∙ ap (λ x. Some x) w.in_default.is) in
          rw (w.numbering-is, w.row-is) (record {
            long = v.long;
            longer = v.longer;
            kept = v.kept;
            index = v.index;
            wide = v.wide;
            numbered = (v.numbered.0, v.numbered.1, rw same v.numbered.2);
            added = rw same v.added;
            ordered = rw same v.ordered;
            distinct = v.distinct;
          })
    ]

pub returns-in-Err-clause-numbered : goal.returns-in-Err-clause-numbered
returns-in-Err-clause-numbered g c = tt

pub returns : goal.returns
returns g c = record {
  numbered =
      let v = c.loop-place.invariant in
      let places = g.G.Graph.places c.args.graph.now c.args.node in
      let all : take c.loop-place.place places ≡ places = take_all c.loop-place.place places (omega (arith, c.loop-place-test.false, c.places-place-end.ensures)) in
      let n = rw all at v.numbered in
      (n.0, n.1, n.2, rw all at v.added, rw all at v.ordered);
  numbering = (c.loop-place.invariant.index, c.loop-place.invariant.wide);
  distinct = c.loop-place.invariant.distinct;
  kept = let v = c.loop-place.invariant in rw v.long at v.kept;
  stays = tt;
  refused = tt;
}

pub loop-place-smaller : goal.loop-place-smaller
loop-place-smaller g c = omega (arith, c.loop-place-test.true)
