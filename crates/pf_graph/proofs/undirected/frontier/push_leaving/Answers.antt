use Rattle.std.proofs.Common.{◌≤◌, true, inl, ◌≡◌, ◌<◌, ◌-◌, ◌∙◌, ℕ, false, sym, ap, subst, arith, Some, inr}
use Rattle.std.specs.BinaryHeap.{heap_items}
use Rattle.std.proofs.lemmas.Option.{slice_get-get_or, slice_get_within}
use Rattle.pf_graph.specs.declared.undirected.chains.End.{End}
use Rattle.pf_graph.specs.Internal.Spanning.Chained.{IsAt}
use Rattle.pf_graph.specs.Internal.Spanning.Frontier.{edge_of, Gains}
use Rattle.pf_graph.proofs.Spanning.ChainLemmas.{is_at, runs_inside}
use Rattle.pf_graph.proofs.Spanning.FrontierLemmas.{one_mark, came_in, kept_in, put_in, Gains-more}
use Rattle.std.proofs.lemmas.Result.{IfOk-from_err}
use Rattle.pf_base.proofs.Outcomes.{refused_by}
use Rattle.pf_graph.proofs.undirected.frontier.push_leaving.Goals as goal

before_end : (k n : ℕ) → 0 < k → k ≤ n → k - 1 < n
before_end k n some low = omega arith

fallen : (m k : ℕ) → 0 < k → m ≤ k - 1 → m < k
fallen m k some low = omega arith

none_left : (k : ℕ) → k ≤ 0 → k ≡ 0
none_left k low = omega arith

pub step-earlier-requires-clause-at : goal.step-earlier-requires-clause-at
step-earlier-requires-clause-at g c = λ d at.
    let some = c.edges-test.true in
    let r = c.edges.invariant.there (c.edges.last - 1) (omega (arith, some)) in
    let both : Some r.0 ≡ Some d = sym r.1 ∙ at in
    let same : r.0 ≡ d = cc in
    subst (λ (e : End × End). IsAt c.args.number e) same r.2

pub edges-preserved-in_ok-push : goal.edges-preserved-in_ok-push
edges-preserved-in_ok-push g c =
    let i = c.edges.invariant in
    let some = c.edges-test.true in
    let last = c.step-earlier.ensures.earlier in
    let lower = last.within in
    let low = i.within in
    let before = heap_items c.edges.queue in
    let after = heap_items c.push.new.self in
    let permutation = c.in_ok-push.ensures.permutation in
    record {
      within = omega (arith, some, lower, low);
      there = last.there;
      ordered = c.in_ok-push.ensures.heap_order i.ordered;
      gains = Gains-more c.args.chains.now c.args.number (c.edges.last - 1) c.edges.last c.step-earlier.result.1 c.args.covered.now (heap_items c.args.queue.now) before after c.step-earlier.result.0 (omega (arith, some)) c.requires.covered c.step-earlier.ensures.step last
          (came_in before after _ permutation) (kept_in before after _ permutation) (λ _. put_in before after _ permutation) i.gains;
    }

pub edges-preserved : goal.edges-preserved
edges-preserved g c =
    let i = c.edges.invariant in
    let some = c.edges-test.true in
    let s = c.step-earlier.result.0 in
    let step = c.step-earlier.ensures.step in
    let last = c.step-earlier.ensures.earlier in
    let lower = last.within in
    let low = i.within in
    let inside = runs_inside c.args.chains.now c.requires.chained c.args.number s.number (edge_of s) (c.edges.last - 1, step.runs) in
    let stale = slice_get-get_or c.args.covered.now s.number false (subst (λ (n : ℕ). s.number < n) (sym c.requires.len) inside) ∙ ap Some c.if-not-covered-step.false in
    record {
      within = omega (arith, some, lower, low);
      there = last.there;
      ordered = i.ordered;
      gains = Gains-more c.args.chains.now c.args.number (c.edges.last - 1) c.edges.last c.step-earlier.result.1 c.args.covered.now (heap_items c.args.queue.now) (heap_items c.edges.queue) (heap_items c.edges.queue) s (omega (arith, some)) c.requires.covered step last
          (λ r h. inr h) (λ r h. h) (λ m. absurd (one_mark c.args.covered.now s.number stale m)) i.gains;
    }

pub last-last-requires-clause-chained : goal.last-last-requires-clause-chained
last-last-requires-clause-chained g c = c.requires.chained

pub last-last-requires-clause-inside : goal.last-last-requires-clause-inside
last-last-requires-clause-inside g c = subst (λ (n : ℕ). c.args.number < n) c.requires.len (slice_get_within c.args.covered.now c.args.number true c.requires.covered)

pub edges-init : goal.edges-init
edges-init g c = record {
  within = c.last-last.ensures.within;
  there = c.last-last.ensures.there;
  ordered = c.requires.ordered;
  gains = record {
    from = λ r h. inl h;
    kept = λ r h. h;
    all = λ p n e up r m. absurd (c.last-last.ensures.none_behind p r.ends r.ends_at up (slice_get_within c.args.chains.now.ends.items p r.ends r.ends_at) (is_at c.args.chains.now p c.args.number n e r));
  };
}

pub overflow_sub-last : goal.overflow_sub-last
overflow_sub-last g c = c.edges-test.true

pub step-earlier-requires-clause-chained : goal.step-earlier-requires-clause-chained
step-earlier-requires-clause-chained g c = c.requires.chained

pub step-earlier-requires-clause-inside : goal.step-earlier-requires-clause-inside
step-earlier-requires-clause-inside g c = before_end c.edges.last _ c.edges-test.true c.edges.invariant.within

pub bounds-covered-step : goal.bounds-covered-step
bounds-covered-step g c =
    let s = c.step-earlier.result.0 in
    subst (λ (n : ℕ). s.number < n) (sym c.requires.len) (runs_inside c.args.chains.now c.requires.chained c.args.number s.number (edge_of s) (c.edges.last - 1, c.step-earlier.ensures.step.runs))

pub returns-in_err-push-clause-ordered : goal.returns-in_err-push-clause-ordered
returns-in_err-push-clause-ordered g c = IfOk-from_err _ _ c.from_residual.ensures.0

pub returns-in_err-push-clause-gains : goal.returns-in_err-push-clause-gains
returns-in_err-push-clause-gains g c = IfOk-from_err _ _ c.from_residual.ensures.0

pub returns-in_err-push-clause-refused : goal.returns-in_err-push-clause-refused
returns-in_err-push-clause-refused g c = refused_by _ c.from_residual.result c.from_residual.ensures.1

pub edges-smaller-in_ok-push : goal.edges-smaller-in_ok-push
edges-smaller-in_ok-push g c = fallen c.step-earlier.result.1 c.edges.last c.edges-test.true c.step-earlier.ensures.earlier.within

pub edges-smaller : goal.edges-smaller
edges-smaller g c = fallen c.step-earlier.result.1 c.edges.last c.edges-test.true c.step-earlier.ensures.earlier.within

pub returns-clause-ordered : goal.returns-clause-ordered
returns-clause-ordered g c = c.edges.invariant.ordered

pub returns-clause-gains : goal.returns-clause-gains
returns-clause-gains g c = subst (λ (n : ℕ). Gains c.args.chains.now c.args.number n c.args.covered.now (heap_items c.args.queue.now) (heap_items c.edges.queue)) (none_left c.edges.last c.edges-test.false) c.edges.invariant.gains

pub returns-clause-refused : goal.returns-clause-refused
returns-clause-refused g c = tt
