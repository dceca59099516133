use Rattle.std.proofs.Common.{◌<◌, ◌∙◌, sym, subst, true, length-set, ℕ}
use Rattle.std.specs.BinaryHeap.{heap_items}
use Rattle.std.proofs.lemmas.Result.{IfOk-weaker}
use Rattle.pf_graph.proofs.Spanning.FrontierLemmas.{now_marked, Waits-cover}
use Rattle.pf_graph.proofs.undirected.frontier.cover.Goals as goal

pub push_leaving-requires : goal.push_leaving-requires
push_leaving-requires g c = record {
  chained = c.requires.chained;
  len = length-set c.args.covered.now c.args.number true ∙ c.requires.len;
  covered = now_marked c.args.covered.now c.args.number (subst (λ (n : ℕ). c.args.number < n) (sym c.requires.len) c.requires.inside);
  ordered = c.requires.ordered;
}

pub returns-clause-waits : goal.returns-clause-waits
returns-clause-waits g c = IfOk-weaker c.push_leaving.result _ _ (λ _ gains. Waits-cover c.args.chains.now c.args.covered.now c.args.number (heap_items c.args.queue.now) (heap_items c.push_leaving.new.queue) (subst (λ (n : ℕ). c.args.number < n) (sym c.requires.len) c.requires.inside) c.requires.waits gains) c.push_leaving.ensures.gains
