use Rattle.std.proofs.Common.{arith, ap, length, length-append, ◌+◌, ◌≡◌, ◌∙◌, sym, subst, Some, slice_get, [], ◌∷◌, List, ℕ, refl}
use Rattle.pf_base.proofs.ListLemmas.{at_place, get-append}
use Rattle.pf_informed.proofs.EstimateLemmas.{IsEstimated-push}
use Rattle.pf_base.proofs.Outcomes.{on_refused, refused_as}
use Rattle.pf_informed.proofs.estimates.ask.Goals as goal

pub nodes-init : goal.nodes-init
nodes-init g c = record {
  len = sym (c.len-number.ensures ∙ c.args.estimates.now.ok.0);
  kept = λ k d h. h;
  answered = λ s h a r. (a, λ e. e);
}

pub bounds-nodes-number : goal.bounds-nodes-number
bounds-nodes-number g c = c.nodes-test.true

pub estimate-asked-requires : goal.estimate-asked-requires
estimate-asked-requires g c =
    let r = c.requires.graph in
    let at : slice_get (g.M.Numbering.keys c.args.nodes.now) c.nodes.number ≡ Some c.index-nodes-number.result = subst (λ (xs : List g.row.N.Denot). slice_get xs c.nodes.number ≡ Some c.index-nodes-number.result) {x = c.as_slice-nodes.result.now} {y = g.M.Numbering.keys c.args.nodes.now} c.as_slice-nodes.ensures.keys (at_place c.as_slice-nodes.result.now _ _ _ c.nodes-test.true (sym c.index-nodes-number.is)) in
    record { within = (r.0.starts, r.0.edges, r.1, r.3 c.nodes.number c.index-nodes-number.result at, (c.nodes.invariant.answered r.0 r.1 r.2 r.3).0) }

pub nodes-smaller : goal.nodes-smaller
nodes-smaller g c = omega (arith, c.nodes-test.true)

pub nodes-preserved : goal.nodes-preserved
nodes-preserved g c =
    let i = c.nodes.invariant in
    let e = c.in_ok-push.ensures.items in
    let keys = g.M.Numbering.keys c.args.nodes.now in
    let at : slice_get keys c.nodes.number ≡ Some c.index-nodes-number.result = subst (λ (xs : List g.row.N.Denot). slice_get xs c.nodes.number ≡ Some c.index-nodes-number.result) {x = c.as_slice-nodes.result.now} {y = g.M.Numbering.keys c.args.nodes.now} c.as_slice-nodes.ensures.keys (at_place c.as_slice-nodes.result.now _ _ _ c.nodes-test.true (sym c.index-nodes-number.is)) in
    record {
      len = ap length e ∙ length-append c.nodes.estimates.items (c.estimate-asked.result ∷ []) ∙ ap (λ (n : ℕ). n + 1) i.len;
      kept = λ k d h. subst (λ (xs : List g.row.C.Denot). slice_get xs k ≡ Some d) (sym e) (get-append c.nodes.estimates.items (c.estimate-asked.result ∷ []) k d (i.kept k d h));
      answered = λ s h a r.
          let b = i.answered s h a r in
          let reach = r c.nodes.number c.index-nodes-number.result at in (
            c.estimate-asked.ensures.goes_on s.starts s.edges h reach b.0,
            λ o. IsEstimated-push g.C.Number.value h (slice_get keys) c.nodes.estimates.items _ c.estimate-asked.result e c.index-nodes-number.result (subst (λ (n : ℕ). slice_get keys n ≡ Some c.index-nodes-number.result) (sym i.len) at) (c.estimate-asked.ensures.estimated s.starts s.edges h reach b.0) (b.1 o),
          );
    }

pub returns-clause-all : goal.returns-clause-all
returns-clause-all g c = omega (arith, c.nodes.invariant.len, c.nodes-test.false, c.nodes.auto.number-end, c.len-number.ensures, c.args.estimates.now.ok.0, ap length c.as_slice-nodes.ensures.keys, c.requires.few)

pub returns-clause-graph : goal.returns-clause-graph
returns-clause-graph g c = c.nodes.invariant.answered

pub returns-clause-kept : goal.returns-clause-kept
returns-clause-kept g c = c.nodes.invariant.kept

pub returns-in_err-push : goal.returns-in_err-push
returns-in_err-push g c = record {
  all = on_refused _ c.from_residual.result _ c.from_residual.ensures.1;
  graph = on_refused _ c.from_residual.result _ c.from_residual.ensures.1;
  kept = on_refused _ c.from_residual.result _ c.from_residual.ensures.1;
  refused = refused_as _ c.from_residual.result _ c.from_residual.ensures.1 refl;
}
