use Rattle.std.proofs.Common.{◌≡◌, ◌<◌, ◌∙◌, true≢false, ap, sym, subst, arith, ℕ, List, length}
use Rattle.std.specs.Prelude.{slice_get, slice_index}
use Rattle.std.specs.List.{filter}
use Rattle.std.proofs.lemmas.Result.{IfOk-from_err}
use Rattle.pf_residual.specs.Listings.{ListsFlows, ListsCut}
use Rattle.pf_residual.specs.Networks.{Network}
use Rattle.pf_residual.specs.Internal.Levels.{IsSinkCutOff, leaves, reached}
use Rattle.pf_flow.proofs.CutOfLevels.{cut_of_levels}
use Rattle.pf_base.proofs.Outcomes.{refused_as}
use Rattle.pf_residual.proofs.NamedLemmas.{flows_inside}
use Rattle.pf_flow.proofs.FilterLemmas.{cut_of_flows}
use Rattle.pf_flow.proofs.augmenting.list_answer.Goals as goal

pub list_flows-requires : goal.list_flows-requires
list_flows-requires g c = c.requires.network

pub list_cut-requires : goal.list_cut-requires
list_cut-requires g c =
    let len = ap length c.deref.ensures.value ∙ c.requires.cut_off.len in
    let below = flows_inside c.deref.result.now (g.S.FlowStore.network c.args.store.now) g.C.Number.value (sym len) c.in_ok-flows.flows.items c.in_ok-flows.ensures.listed in
    record { inside = λ i e h. below i e (ap (λ xs. slice_get xs i) (sym c.deref-2.ensures.value) ∙ h) }

-- a search that does not reach the sink comes from elsewhere
apart_of : {N : Network} {levels parents : List ℕ} → N.source < N.vertices → IsSinkCutOff N levels parents → N.source ≡ N.sink → ⊥
apart_of {N} {levels} inside cut_off e =
    let start = cut_off.found.labelling.start in
    let top = cut_off.top in
    let same = ap (slice_index levels) e in
    omega (arith, inside, start, top, same)

pub returns : goal.returns
returns g c =
    let N = g.S.FlowStore.network c.args.store.now in
    let law = g.met.S.FlowStore.network_law c.args.store.now in
    let e = c.requires.cut_off in
    let levels = c.args.found.now.levels.items in
    let parents = c.args.found.now.parents.items in
    let flows = c.in_ok-flows.flows.items in
    let listed : ListsFlows g.C.Number.value N flows = c.in_ok-flows.ensures.listed in
    let cut = cut_of_flows g.C.Number.value levels parents c.requires.network law.source_in law.sink_in e.found e.len e.top flows listed in
    let same = c.in_ok-edges.ensures.edges
    ∙ ap (λ xs. filter (λ e. leaves c.deref.result.now e.0.0 e.0.1) xs) c.deref-2.ensures.value
    ∙ ap (λ (xs : List ℕ). filter (λ e. leaves xs e.0.0 e.0.1) flows) c.deref.ensures.value in
    record {
      answer = record {
        total = c.total_capacity-total.ensures;
        flows = λ details. listed;
        cut_edges = λ details apart. (reached levels, cut_of_levels levels parents c.requires.network law.source_in law.sink_in e.found e.len e.top, subst (ListsCut g.C.Number.value N (reached levels)) (sym same) cut);
        idle = λ q. absurd (apart_of law.source_in e q);
        omitted = λ details. absurd (true≢false (sym c.if-not-has_details.false ∙ c.has_details.ensures ∙ details));
      };
      refused = tt;
    }

pub returns-then-not-has_details : goal.returns-then-not-has_details
returns-then-not-has_details g c = record {
  answer = record {
    total = c.total_capacity-total.ensures;
    flows = λ details. absurd (true≢false (sym details ∙ sym c.has_details.ensures ∙ c.if-not-has_details.true));
    cut_edges = λ details. absurd (true≢false (sym details ∙ sym c.has_details.ensures ∙ c.if-not-has_details.true));
    idle = λ q. absurd (apart_of (g.met.S.FlowStore.network_law c.args.store.now).source_in c.requires.cut_off q);
    omitted = λ details. (c.new.ensures.items, c.new-then-not-has_details.ensures.items);
  };
  refused = tt;
}

pub returns-in_err-flows : goal.returns-in_err-flows
returns-in_err-flows g c = record {
  answer = IfOk-from_err _ _ c.from_residual.ensures.0;
  refused = refused_as _ c.from_residual.result _ c.from_residual.ensures.1 c.in_err-flows.ensures.refused;
}

pub returns-in_err-edges : goal.returns-in_err-edges
returns-in_err-edges g c = record {
  answer = IfOk-from_err _ _ c.from_residual-in_err-edges.ensures.0;
  refused = refused_as _ c.from_residual-in_err-edges.result _ c.from_residual-in_err-edges.ensures.1 c.in_err-edges.ensures.refused;
}
