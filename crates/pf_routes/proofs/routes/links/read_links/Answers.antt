use Rattle.std.proofs.Common.{◌≡◌, ◌+◌, ap, ◌∙◌, arith, length, map, subst, ◌++◌}
use Rattle.std.specs.List.{flat_map}
use Rattle.pf_routes.specs.FlowText.{ends_of}
use Rattle.pf_routes.specs.EdgeText.{said_by, edge_text}
use Rattle.pf_routes.specs.Internal.Links.{edges_between, NumbersInTurn}
use Rattle.pf_routes.specs.Internal.Parsed.{edge_read, line_read, line_holding, edges_taken}
use Rattle.pf_routes.proofs.Numbering.{keeps-refl, keeps-trans, left_len-next, met-edge, met-end, met-start, said_left, text_from, text_from-start, says-edge, says-bad}
use Rattle.pf_routes.proofs.routes.links.read_links.Goals as goal

pub loop-rest-init : goal.loop-rest-init
loop-rest-init g c = record {
  says = ap (λ ls. text_from 0 (edges_between c.args.names.now.keys ls ++ map edge_read c.in_ok-waiting.waiting.items) (said_by c.args.text.now)) c.new-links.ensures.items
      ∙ ap (λ es. text_from 0 (map edge_read es) (said_by c.args.text.now)) c.in_ok-waiting.ensures.items ∙ text_from-start c.args.text.now;
  below = λ k d lt. absurd (omega (arith, lt, ap length c.new-links.ensures.items));
  kept = keeps-refl c.args.names.now.keys;
  met = met-start c.args.names.now.keys c.new-links.result.items c.in_ok-waiting.waiting.items c.new-links.ensures.items c.in_ok-waiting.ensures.items;
  counts = omega arith;
}

pub loop-rest-preserved-in_ok-take_edge : goal.loop-rest-preserved-in_ok-take_edge
loop-rest-preserved-in_ok-take_edge g c =
    let read = c.in-Some-read_line.read in
    let inv = c.loop-rest.invariant in
    let taken = c.in_ok-take_edge.ensures in
    let found = edges_taken c.loop-rest.names.keys c.loop-rest.links.items c.loop-rest.waiting.items in
    let less = left_len-next c.loop-rest.rest read.rest c.in-Some.here c.in-Some.is c.in-Some-read_line.ensures.shorter in
    record {
      says = ap (λ es. text_from (c.loop-rest.line + 1) es (said_left read.rest)) taken.edges
          ∙ says-edge c.loop-rest.line found (edge_read c.in-Some-edge.edge) c.loop-rest.rest read.rest c.in-Some.here (line_read read) (edge_text c.args.text.now) c.in-Some.is c.in-Some-read_line.ensures.says (ap line_holding c.in-Some-edge.is) inv.says;
      below = taken.below;
      kept = keeps-trans _ _ _ inv.kept taken.kept;
      met = met-edge c.args.names.now.keys c.loop-rest.names.keys c.take_edge.new.names.keys c.loop-rest.links.items c.take_edge.new.links.items c.loop-rest.waiting.items c.take_edge.new.waiting.items (edge_read c.in-Some-edge.edge) inv.met taken.met taken.edges;
      counts = omega (arith, less, inv.counts);
    }

pub returns-in_default-read_line-clause-err : goal.returns-in_default-read_line-clause-err
returns-in_default-read_line-clause-err g c =
    let bad = c.in_default-read_line.ensures.says in
    let found = edges_taken c.loop-rest.names.keys c.loop-rest.links.items c.loop-rest.waiting.items in
    says-bad c.loop-rest.line found c.loop-rest.rest c.in-Some.here bad.0 (edge_text c.args.text.now) c.in-Some.is bad.1 c.loop-rest.invariant.says

pub returns-clause-met : goal.returns-clause-met
returns-clause-met g c = met-end c.args.names.now.keys c.loop-rest.names.keys c.link_all.new.names.keys c.loop-rest.links.items c.link_all.new.links.items c.loop-rest.waiting.items c.loop-rest.invariant.met
    (subst (λ es. NumbersInTurn c.loop-rest.names.keys (flat_map ends_of (map edge_read es)) c.link_all.new.names.keys) c.deref.ensures.value c.in_ok-link_all.ensures.met)
    (subst (λ es. edges_between c.link_all.new.names.keys c.link_all.new.links.items ≡ edges_between c.loop-rest.names.keys c.loop-rest.links.items ++ map edge_read es) c.deref.ensures.value c.in_ok-link_all.ensures.edges)
