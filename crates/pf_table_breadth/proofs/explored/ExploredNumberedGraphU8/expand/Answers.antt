use Rattle.std.proofs.Common.{ap, length, length-take, take, ◌≡◌, ◌<◌, ◌≤◌, ◌∙◌, List, sym, subst, Some, slice_get, ℕ, pos, inl, inr, nat_eq, arith}
use Rattle.std.proofs.lemmas.Cmp.{nat_eq_equiv}
use Rattle.std.proofs.lemmas.Option.{slice_get_within}
use Rattle.std.proofs.lemmas.Result.{on_err_weaker}
use Rattle.pf_base.specs.Edges.{InReach}
use Rattle.pf_core.specs.NodeLaws.{StandsFor-one}
use Rattle.pf_base.proofs.Outcomes.{refused_still, on_ok, ok_or_err}
use Rattle.pf_base.proofs.ListLemmas.{at_place}
use Rattle.pf_core.proofs.NodeLemmas.{fresh_number, Grows-from_take, inside_of, Lists-from, reached_added}
use Rattle.pf_core.proofs.OrderLemmas.{Placed-same, InOrder-same, ends_at}
use Rattle.pf_table_breadth.specs.Internal.Numbering.{steps_at}
use Rattle.pf_table_breadth.proofs.explored.ExploredNumberedGraphU8.expand.Goals as goal
use Rattle.pf_tables.proofs.GraphLemmas.{nat_alike}

-- a list that begins with another is as long
as_long : (old new : List ℕ) → take (length old) new ≡ old → length old ≤ length new
as_long old new e = let l = sym (length-take (length old) new) ∙ ap length e in grind (arith, l)

pub number_places-requires-clause-inside : goal.number_places-requires-clause-inside
number_places-requires-clause-inside g c =
    let r = c.requires.graph in
    let at : slice_get c.args.self.now.numbering.order.items c.args.node ≡ Some c.index-place.result.now = at_place _ _ _ _ c.requires.inside (sym c.index-place.ensures) in
    let l = slice_get_within c.args.self.now.numbering.numbers.items c.index-place.result.now _ (r.1.1.at c.args.node c.index-place.result.now at) in
    omega (arith, l, r.1.2)

pub returns-clause-grows : goal.returns-clause-grows
returns-clause-grows g c = Grows-from_take nat_eq c.args.self.now.numbering.order.items c.number_places.new.numbering.order.items (as_long _ _ c.number_places.ensures.kept) c.number_places.ensures.kept

pub returns-clause-graph : goal.returns-clause-graph
unfolding number_places-requires-clause-inside
returns-clause-graph g c = λ h x.
    let here = c.index-place.result.now in
    let keys = c.args.self.now.numbering.order.items in
    let keys' = c.number_places.new.numbering.order.items in
    let items = steps_at (g.G.Graph.places c.args.self.now.graph.now here) in
    let at : slice_get keys c.args.node ≡ Some here = at_place _ _ _ _ c.requires.inside (sym c.index-place.ensures) in
    let l = slice_get_within c.args.self.now.numbering.numbers.items here _ (x.1.at c.args.node here at) in
    let inside : here < g.G.Graph.size c.args.self.now.graph.now = omega (arith, l, x.2) in
    let reach = x.0.reached c.args.node here at in (
      record {
        listed = x.0.listed;
        tested = x.0.tested;
        distinct = c.number_places.ensures.distinct x.0.distinct;
        reached = elim (ok_or_err c.number_places.result c.number_places.ensures.numbered c.number_places.ensures.stays) as (λ _. (k y : ℕ) → slice_get keys' k ≡ Some y → InReach nat_eq h.graph.edges h.graph.starts y) [
          | inl n ↦ reached_added nat_eq nat_eq_equiv h.graph.edges h.graph.starts (nat_alike h.graph.edges h.graph.starts) (λ (n : ℕ). pos n) keys keys' here items reach (x.0.listed here inside) n.3 x.0.reached
          | inr e ↦ λ k y q. x.0.reached k y (subst (λ ks. slice_get ks k ≡ Some y) e q)
        ];
      },
      c.number_places.ensures.numbering.0,
      c.number_places.ensures.numbering.1,
    )

pub returns-clause-listed : goal.returns-clause-listed
returns-clause-listed g c = on_ok c.number_places.result c.number_places.ensures.numbered (λ n.
    let here = c.index-place.result.now in
    let keys = c.args.self.now.numbering.order.items in
    let keys' = c.number_places.new.numbering.order.items in
    let items = steps_at (g.G.Graph.places c.args.self.now.graph.now here) in
    let at : slice_get keys c.args.node ≡ Some here = at_place _ _ _ _ c.requires.inside (sym c.index-place.ensures) in
    let distinct = c.number_places.ensures.distinct c.requires.graph.1.0.distinct in (
      n.0,
      n.1,
      inside_of nat_eq keys' n.0 items n.2,
      λ j low high. fresh_number nat_eq nat_eq_equiv keys keys' distinct n.0 items n.2 n.3 j low high,
      λ h x y s.
          let reach = x.0.reached c.args.node here at in
          let l = slice_get_within c.args.self.now.numbering.numbers.items here _ (x.1.at c.args.node here at) in
          let inside : here < g.G.Graph.size c.args.self.now.graph.now = omega (arith, l, x.2) in
          Lists-from nat_eq nat_eq_equiv (λ (n : ℕ). pos n) h.graph (nat_alike h.graph.edges h.graph.starts) keys keys' c.args.node here n.0 items at reach n.2 (x.0.listed here inside) (λ i j z. StandsFor-one nat_eq nat_eq_equiv keys' distinct i j z) y s,
    ))

pub returns-clause-placed : goal.returns-clause-placed
returns-clause-placed g c = on_ok c.number_places.result c.number_places.ensures.numbered (λ n.
    let here = c.index-place.result.now in
    let keys = c.args.self.now.numbering.order.items in
    let keys' = c.number_places.new.numbering.order.items in
    let items = steps_at (g.G.Graph.places c.args.self.now.graph.now here) in
    let at : slice_get keys c.args.node ≡ Some here = at_place _ _ _ _ c.requires.inside (sym c.index-place.ensures) in (
      n.0,
      n.1,
      λ h x y s.
          let l = slice_get_within c.args.self.now.numbering.numbers.items here _ (x.1.at c.args.node here at) in
          let inside : here < g.G.Graph.size c.args.self.now.graph.now = omega (arith, l, x.2) in
          Placed-same nat_eq nat_eq_equiv keys' n.0 items _ n.2 (ends_at nat_eq nat_eq_equiv (λ (n : ℕ). pos n) h.graph (nat_alike h.graph.edges h.graph.starts) keys c.args.node here items at (x.0.reached c.args.node here at) (x.0.listed here inside) y s),
    ))

pub returns-clause-ordered : goal.returns-clause-ordered
returns-clause-ordered g c = on_ok c.number_places.result c.number_places.ensures.numbered (λ n. λ h x y s.
    let here = c.index-place.result.now in
    let keys = c.args.self.now.numbering.order.items in
    let keys' = c.number_places.new.numbering.order.items in
    let items = steps_at (g.G.Graph.places c.args.self.now.graph.now here) in
    let at : slice_get keys c.args.node ≡ Some here = at_place _ _ _ _ c.requires.inside (sym c.index-place.ensures) in
    let l = slice_get_within c.args.self.now.numbering.numbers.items here _ (x.1.at c.args.node here at) in
    let inside : here < g.G.Graph.size c.args.self.now.graph.now = omega (arith, l, x.2) in
    InOrder-same nat_eq nat_eq_equiv keys' (length keys) (length keys') _ _ (ends_at nat_eq nat_eq_equiv (λ (n : ℕ). pos n) h.graph (nat_alike h.graph.edges h.graph.starts) keys c.args.node here items at (x.0.reached c.args.node here at) (x.0.listed here inside) y s) n.4)

pub number_places-requires-clause-empty : goal.number_places-requires-clause-empty
number_places-requires-clause-empty g c = c.reset.ensures

pub number_places-requires-clause-numbering : goal.number_places-requires-clause-numbering
number_places-requires-clause-numbering g c = (c.requires.graph.1.1, c.requires.graph.1.2)

pub index-place-requires : goal.index-place-requires
index-place-requires g c = omega (arith, c.requires.inside, c.args.self.now.numbering.order.ok)

pub returns-clause-back : goal.returns-clause-back
returns-clause-back g c = (as_long _ _ c.number_places.ensures.kept, c.number_places.ensures.numbering.0)

pub returns-clause-refused : goal.returns-clause-refused
returns-clause-refused g c = refused_still _ _ c.number_places.result c.number_places.ensures.refused (on_err_weaker c.number_places.result (λ e. ap length e) c.number_places.ensures.stays)
