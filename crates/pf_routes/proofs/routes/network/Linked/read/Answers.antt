use Rattle.std.proofs.Common.{Result, Ok, Err, List, ℕ, Bor, refl}
use Rattle.std.specs.Prelude.{IfOk}
use Rattle.pf_routes.specs.Internal.Network.{LinksEdges, LinksNames}
use Rattle.pf_routes.specs.Internal.Parsed.{HoldsOfEdges}
use Rattle.pf_route_io.specs.declared.error.RouteError.{RouteError}
use Rattle.pf_routes.specs.declared.routes.network.Linked.{Linked}
use Rattle.pf_routes.proofs.routes.network.Linked.read.Goals as goal

edges_linked : {A : Type 0} (r : Result (Linked A) RouteError) (names : List (Bor (List ℕ))) (text : List ℕ) → IfOk r (λ linked. LinksNames linked names text) → IfOk r (λ linked. HoldsOfEdges text (λ edges. LinksEdges linked edges))
edges_linked (Ok linked) names text h = (_, h.spelled, record { names = names; kept = h.kept; spelled = refl; below = h.below; distinct = h.distinct })
edges_linked (Err e) names text h = tt

pub returns : goal.returns
returns g c = record {
  ok = edges_linked c.read_into.result c.read_into.new.names.keys c.args.text.now c.read_into.ensures.ok;
  err = c.read_into.ensures.err;
}
