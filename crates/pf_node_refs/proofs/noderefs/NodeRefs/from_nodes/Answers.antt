use Rattle.std.proofs.Common.{◌∙◌, ap, sym, [], Bor}
use Rattle.std.specs.Prelude.{Result, Ok, Err, IsErrAnd, IfErr}
use Rattle.std.proofs.lemmas.Result.{IfOk-from_err}
use Rattle.indexmap.specs.IndexSet.{insert_key}
use Rattle.indexmap.proofs.SetLemmas.{set_all_push}
use Rattle.pf_node_refs.proofs.NodeRefsLemmas.{NoRepeats-distinct, HasSameNodes-insert_all}
use Rattle.pf_node_refs.proofs.noderefs.NodeRefs.from_nodes.Goals as goal

refused_by : {T E : Type 0} (P : E → Type 0) (r : Result T E) → IsErrAnd r P → IfErr r P
refused_by P (Ok x) h = absurd h
refused_by P (Err e) h = h

pub loop-node-init : goal.loop-node-init
loop-node-init g c = (c.new-kept.ensures.empty, c.new-kept.ensures.unique)

pub returns-in_err-insert : goal.returns-in_err-insert
returns-in_err-insert g c =
    let r = c.from_residual in
    record {
      given = IfOk-from_err _ _ r.ensures.0;
      once = IfOk-from_err _ _ r.ensures.0;
      refused = refused_by _ r.result r.ensures.1;
    }

pub loop-node-preserved : goal.loop-node-preserved
loop-node-preserved g c =
    let same = λ (p q : Bor g.row.N.Denot). g.N.PartialEq.eq p.now q.now in
    let node = c.in-Some.node in
    (c.in_ok-insert.ensures.keys ∙ ap (λ keys. insert_key same keys node) c.loop-node.invariant.0 ∙ sym (set_all_push same [] c.loop-node.yielded node), c.insert.ensures.unique)

pub invariant_of-result : goal.invariant_of-result
invariant_of-result g c = NoRepeats-distinct g.met.N.Eq.laws c.loop-node.kept.keys c.loop-node.invariant.1

pub returns-clause-given : goal.returns-clause-given
returns-clause-given g c = record {
  iterator = c.into_iter-node-iterator.result;
  refs = c.loop-node.yielded;
  made = c.into_iter-node-iterator.ensures.into_iter_gives;
  drains = (c.next.new.self, (c.loop-node.node-iterator, c.loop-node.yielded_by, c.in-None.ensures.steps));
  same = HasSameNodes-insert_all g.met.N.Eq.laws c.loop-node.kept.keys c.loop-node.yielded c.loop-node.invariant.0;
}

pub returns-clause-once : goal.returns-clause-once
returns-clause-once g c = NoRepeats-distinct g.met.N.Eq.laws c.loop-node.kept.keys c.loop-node.invariant.1

pub next-requires : goal.next-requires
next-requires g c = c.loop-node.iterator.0

pub loop-node-smaller : goal.loop-node-smaller
loop-node-smaller g c = (c.in-Some.ensures.goes.on c.loop-node.iterator.1).2
