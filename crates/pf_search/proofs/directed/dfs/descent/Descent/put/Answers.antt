use Rattle.std.proofs.Common.{◌∙◌, ◌++◌, ◌∷◌, [], List, ap, arith, length, length-append, refl, sym}
use Rattle.std.proofs.lemmas.List.{append_assoc, append-nil}
use Rattle.pf_base.proofs.Outcomes.{on_refused, refused_as}
use Rattle.pf_search.specs.Internal.Descents.{waiting_at}
use Rattle.pf_search.specs.declared.directed.dfs.descent.Waiting.{Waiting}
use Rattle.pf_search.proofs.DescentLemmas.{cut_short, reversed_behind, turned, waiting_more}
use Rattle.pf_search.proofs.directed.dfs.descent.Descent.put.Goals as goal

pub nodes-preserved : goal.nodes-preserved
nodes-preserved g c =
    let i = c.nodes.invariant in
    let w : Waiting g.row.N.Denot = record { node = c.in-Some.node; depth = c.args.depth } in
    let old = c.args.self.now.waiting.items in
    record {
      visited = i.visited;
      path = i.path;
      pushed = c.in_ok-push.ensures.items ∙ ap (λ (l : List (Waiting g.row.N.Denot)). l ++ w ∷ []) i.pushed ∙ append_assoc old (waiting_at c.args.depth c.nodes.yielded) (w ∷ []) ∙ ap (λ (l : List (Waiting g.row.N.Denot)). old ++ l) (sym (waiting_more c.args.depth c.nodes.yielded c.in-Some.node));
    }

pub returns-clause-put : goal.returns-clause-put
returns-clause-put g c = (
  c.into_iter-node-iterator.result,
  c.nodes.yielded,
  c.into_iter-node-iterator.ensures.into_iter_gives,
  (c.next.new.self, (c.nodes.node-iterator, c.nodes.yielded_by, c.in-None.ensures.steps)),
  turned c.args.self.now.waiting.items _ (waiting_at c.args.depth c.nodes.yielded) (
      cut_short c.nodes.self.waiting.len c.reverse_from.new.elements c.nodes.self.waiting.items c.args.self.now.waiting.items (waiting_at c.args.depth c.nodes.yielded) (c.nodes.self.waiting.ok.0) (c.reverse_from.ensures ∙ reversed_behind c.len-from.result c.args.self.now.waiting.items (waiting_at c.args.depth c.nodes.yielded) c.as_mut_slice.result.now (c.as_mut_slice.ensures.value ∙ c.nodes.invariant.pushed) (sym (c.len-from.ensures ∙ c.args.self.now.waiting.ok.0))) c.nodes.invariant.pushed
      ),
)

pub nodes-init : goal.nodes-init
nodes-init g c = record { visited = refl; path = refl; pushed = sym (append-nil c.args.self.now.waiting.items) }

pub next-requires : goal.next-requires
next-requires g c = c.nodes.iterator.0

pub returns-in_err-push-clause-visited : goal.returns-in_err-push-clause-visited
returns-in_err-push-clause-visited g c = c.nodes.invariant.visited

pub returns-in_err-push-clause-path : goal.returns-in_err-push-clause-path
returns-in_err-push-clause-path g c = c.nodes.invariant.path

pub returns-in_err-push-clause-put : goal.returns-in_err-push-clause-put
returns-in_err-push-clause-put g c = on_refused _ c.from_residual.result _ c.from_residual.ensures.1

pub returns-in_err-push-clause-refused : goal.returns-in_err-push-clause-refused
returns-in_err-push-clause-refused g c = refused_as _ c.from_residual.result _ c.from_residual.ensures.1 refl

pub reverse_from-requires : goal.reverse_from-requires
reverse_from-requires g c = omega (arith, c.len-from.ensures, c.args.self.now.waiting.ok.0, ap length (c.as_mut_slice.ensures.value ∙ c.nodes.invariant.pushed), length-append c.args.self.now.waiting.items (waiting_at c.args.depth c.nodes.yielded))

pub returns-clause-visited : goal.returns-clause-visited
returns-clause-visited g c = c.nodes.invariant.visited

pub returns-clause-path : goal.returns-clause-path
returns-clause-path g c = c.nodes.invariant.path

pub returns-clause-refused : goal.returns-clause-refused
returns-clause-refused g c = tt

pub nodes-smaller : goal.nodes-smaller
nodes-smaller g c = (c.in-Some.ensures.goes.on c.nodes.iterator.1).2
