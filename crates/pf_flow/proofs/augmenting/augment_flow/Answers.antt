use Rattle.std.proofs.Common.{◌∙◌, sym, subst, arith}
use Rattle.std.proofs.lemmas.Int.{ints}
use Rattle.pf_residual.specs.Listings.{ListsFlows}
use Rattle.pf_residual.proofs.AgreeLemmas.{capacities_kept}
use Rattle.pf_residual.proofs.ChangeListings.{lists_none}
use Rattle.pf_residual.proofs.NetworkLemmas.{idle_total}
use Rattle.pf_flow.proofs.PhaseLemmas.{no_less_itself}
use Rattle.pf_flow.proofs.augmenting.augment_flow.Goals as goal

pub returns-then-source-sink-clause-network : goal.returns-then-source-sink-clause-network
returns-then-source-sink-clause-network g c = c.requires

pub returns-then-source-sink-clause-kept : goal.returns-then-source-sink-clause-kept
returns-then-source-sink-clause-kept g c = capacities_kept (g.S.FlowStore.network c.args.store.now)

pub returns-then-source-sink-clause-total : goal.returns-then-source-sink-clause-total
returns-then-source-sink-clause-total g c = no_less_itself _

pub returns-then-source-sink-clause-cut : goal.returns-then-source-sink-clause-cut
returns-then-source-sink-clause-cut g c = λ apart. absurd (apart (sym c.source.ensures ∙ c.if-source-sink.true ∙ c.sink.ensures))

pub returns-then-source-sink-clause-answer : goal.returns-then-source-sink-clause-answer
returns-then-source-sink-clause-answer g c =
    let N = g.S.FlowStore.network c.args.store.now in
    let one = sym c.source.ensures ∙ c.if-source-sink.true ∙ c.sink.ensures in
    record {
      total = c.total_capacity.ensures;
      flows = λ details. subst (ListsFlows g.C.Number.value N) (sym c.new.ensures.items) (lists_none g.C.Number.value N.vertices N.flow _ (λ a b p. let none = c.requires.idle one a b in omega (arith, ints, p, none)));
      cut_edges = λ details apart. absurd (apart one);
      idle = λ e. (c.new.ensures.items, c.total_capacity.ensures ∙ idle_total c.requires e, c.new-then-source-sink.ensures.items);
      omitted = λ details. (c.new.ensures.items, c.new-then-source-sink.ensures.items);
    }

pub returns-then-source-sink-clause-ticked : goal.returns-then-source-sink-clause-ticked
returns-then-source-sink-clause-ticked g c = omega arith

pub returns-then-source-sink-clause-paths : goal.returns-then-source-sink-clause-paths
returns-then-source-sink-clause-paths g c = omega arith

pub augment_apart-requires-clause-network : goal.augment_apart-requires-clause-network
augment_apart-requires-clause-network g c = c.requires

pub augment_apart-requires-clause-apart : goal.augment_apart-requires-clause-apart
augment_apart-requires-clause-apart g c = λ e. c.if-source-sink.false (c.source.ensures ∙ e ∙ sym c.sink.ensures)

pub returns : goal.returns
returns g c = record {
  network = c.augment_apart.ensures.network;
  kept = c.augment_apart.ensures.kept;
  total = c.augment_apart.ensures.total;
  cut = c.augment_apart.ensures.cut;
  answer = c.augment_apart.ensures.answer;
  refused = c.augment_apart.ensures.refused;
  ticked = c.augment_apart.ensures.ticked;
  paths = c.augment_apart.ensures.paths;
}
