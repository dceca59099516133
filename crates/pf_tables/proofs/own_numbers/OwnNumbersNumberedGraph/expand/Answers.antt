use Rattle.std.proofs.Common.{sym, arith}
use Rattle.pf_base.proofs.Outcomes.{on_ok}
use Rattle.pf_tables.proofs.OwnLemmas.{leads_inside, own_placed, own_in_order, own_steps}
use Rattle.pf_tables.proofs.own_numbers.OwnNumbersNumberedGraph.expand.Goals as goal
use Rattle.pf_tables.specs.Graphs.{present}

pub returns-clause-listed : goal.returns-clause-listed
returns-clause-listed g c = on_ok c.list_places.result c.list_places.ensures.listed (λ n.
    let value = g.C.Number.value in
    let size = g.G.Graph.size c.args.self.now.graph.now in
    let places = g.G.Graph.places c.args.self.now.graph.now in
    let inside = leads_inside value size places c.known.ensures c.args.node c.requires.inside in (
      present (places c.args.node),
      n,
      inside,
      λ j low high. absurd (omega (arith, low, high)),
      λ h x y own. rw (sym own.1) (own_steps value size h.graph.edges c.args.node (places c.args.node) inside (x.listed c.args.node c.requires.inside)),
    ))

pub returns-clause-placed : goal.returns-clause-placed
returns-clause-placed g c = on_ok c.list_places.result c.list_places.ensures.listed (λ n.
    let value = g.C.Number.value in
    let size = g.G.Graph.size c.args.self.now.graph.now in
    let places = g.G.Graph.places c.args.self.now.graph.now in
    let inside = leads_inside value size places c.known.ensures c.args.node c.requires.inside in (
      present (places c.args.node),
      n,
      λ h x y own. rw (sym own.1, x.listed c.args.node c.requires.inside) (own_placed value size (places c.args.node) inside),
    ))

pub returns-clause-ordered : goal.returns-clause-ordered
returns-clause-ordered g c = on_ok c.list_places.result c.list_places.ensures.listed (λ n. λ h x y own.
    let value = g.C.Number.value in
    let size = g.G.Graph.size c.args.self.now.graph.now in
    let places = g.G.Graph.places c.args.self.now.graph.now in
    let inside = leads_inside value size places c.known.ensures c.args.node c.requires.inside in
    rw (sym own.1, x.listed c.args.node c.requires.inside) (own_in_order value size (places c.args.node) inside))
