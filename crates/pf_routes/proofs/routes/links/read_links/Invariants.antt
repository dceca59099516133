-- The edges taken and the lines left say what the text does, whatever names follow.
use Rattle.std.proofs.Common.{◌≡◌, ◌+◌, ◌≤◌, length}
use Rattle.pf_routes.specs.EdgeText.{edge_text}
use Rattle.pf_routes.specs.Internal.Links.{AllBelow, KeepsNames}
use Rattle.pf_routes.specs.Internal.Parsed.{edges_taken}
use Rattle.pf_routes.proofs.Numbering.{left_len, said_left, text_from, HasMet}
use Rattle.pf_routes.proofs.routes.links.read_links.Given as goal

abbrev pub invariant-loop-rest : goal.invariant-loop-rest
invariant-loop-rest g l = record {
  says : text_from l.line (edges_taken l.names.keys l.links.items l.waiting.items) (said_left l.rest) ≡ edge_text l.text;
  below : AllBelow (length l.names.keys) l.links.items;
  kept : KeepsNames l.fn.names.keys l.names.keys;
  met : HasMet l.fn.names.keys l.names.keys l.links.items l.waiting.items;
  counts : l.line + left_len l.rest ≤ length l.text + 1;
}

abbrev pub decreases-loop-rest : goal.decreases-loop-rest
decreases-loop-rest g l = left_len l.rest
