use Rattle.std.proofs.Common.{◌≡◌, ◌⊎◌, ℕ, List, ◌<◌, ap, ◌∙◌, inl, inr, map, sym, subst}
use Rattle.std.specs.Prelude.{All}
use Rattle.pf_routes.specs.EdgeText.{Edge}
use Rattle.pf_routes.specs.Internal.Links.{name_at}
use Rattle.pf_routes.specs.Internal.NameTable.{name_in, table_len}
use Rattle.pf_routes.specs.AnswerText.{path_line}
use Rattle.pf_routes.specs.Internal.Parsed.{RefusesAnswer, HoldsOfEdges}
use Rattle.pf_routes.specs.Roads.{HasCostOverflow}
use Rattle.pf_route_io.specs.declared.error.RouteError.{RouteError}
use Rattle.pf_route_io.specs.declared.error.RouteError.TheVariants.{OutOfMemory, CostOverflow}
use Rattle.pf_routes.proofs.Networks.{has_no_walk, is_cheapest, has_overflow, path-below, in_table, path_named}
use Rattle.pf_base.proofs.Outcomes.{refused_for}
use Rattle.pf_routes.proofs.Outcomes.{at_some, at_none}
use Rattle.pf_routes.proofs.routes.answers.cheapest_line.Goals as goal

no_memory : (overflows : List Edge → Type 0) (text : List ℕ) (e : RouteError) → e ≡ OutOfMemory → RefusesAnswer overflows e text
no_memory overflows text e h = subst (λ x. RefusesAnswer overflows x text) (sym h) tt

passed_on : (overflows : List Edge → Type 0) (text : List ℕ) (e : RouteError) → (e ≡ OutOfMemory) ⊎ ((e ≡ CostOverflow) × HoldsOfEdges text overflows) → RefusesAnswer overflows e text
passed_on overflows text e (inl h) = no_memory overflows text e h
passed_on overflows text e (inr h) = subst (λ x. RefusesAnswer overflows x text) (sym h.0) h.1

same_refusal : (overflows : List Edge → Type 0) (text : List ℕ) (d e : RouteError) → RefusesAnswer overflows d text → e ≡ d → RefusesAnswer overflows e text
same_refusal overflows text d e h k = subst (λ x. RefusesAnswer overflows x text) (sym k) h

pub write_path-requires : goal.write_path-requires
write_path-requires g c =
    let h = c.in_ok-network.ensures.ok in
    let found = at_some _ _ _ _ c.in-Some.is c.in_ok-cheapest_path.ensures.ok in
    subst (All (λ n. n < table_len c.in_ok-network.network.names)) (sym c.as_slice.ensures.value) (in_table c.in_ok-network.network h.0 _ _ h.2 c.in-Some.path.items (path-below c.in_ok-network.network h.0 _ _ h.2 c.in-Some.path.items c.in-Some.cost found))

pub returns-in-None-clause-ok : goal.returns-in-None-clause-ok
returns-in-None-clause-ok g c =
    let h = c.in_ok-network.ensures.ok in
    let found = at_none _ _ _ c.in-None.is c.in_ok-cheapest_path.ensures.ok in
    (h.0, h.1, inl (has_no_walk c.in_ok-network.network h.0 _ _ h.2 found, c.in_ok-from_slice-in-None.ensures.items))

pub returns-in_err-cheapest_path-clause-err : goal.returns-in_err-cheapest_path-clause-err
returns-in_err-cheapest_path-clause-err g c =
    let h = c.in_ok-network.ensures.ok in
    let overflows = λ (edges : List Edge). HasCostOverflow edges c.args.from.now c.args.to.now in
    let told = elim c.in_err-cheapest_path.ensures.err as (λ _. (c.in_err-cheapest_path.field-0.0 ≡ OutOfMemory) ⊎ ((c.in_err-cheapest_path.field-0.0 ≡ CostOverflow) × HoldsOfEdges c.args.text.items overflows)) [
      | inl a ↦ inl a
      | inr b ↦ inr (b.0, (h.0, h.1, has_overflow c.in_ok-network.network h.0 _ _ h.2 b.1))
    ] in
    let told_here = passed_on overflows c.args.text.items c.in_err-cheapest_path.field-0.0 told in
    refused_for _ _ c.from_residual-in_err-cheapest_path.result (λ e k. same_refusal overflows c.args.text.items c.in_err-cheapest_path.field-0.0 e told_here k) c.from_residual-in_err-cheapest_path.ensures.1

pub returns-in_err-from_slice-in-None-clause-err : goal.returns-in_err-from_slice-in-None-clause-err
returns-in_err-from_slice-in-None-clause-err g c = refused_for _ _ c.from_residual-in_err-from_slice-in-None.result (no_memory _ c.args.text.items) c.from_residual-in_err-from_slice-in-None.ensures.1

pub returns-in_err-write_path-in-Some-clause-err : goal.returns-in_err-write_path-in-Some-clause-err
returns-in_err-write_path-in-Some-clause-err g c = refused_for _ _ c.from_residual-in_err-write_path-in-Some.result (no_memory _ c.args.text.items) c.from_residual-in_err-write_path-in-Some.ensures.1

pub returns : goal.returns
returns g c = record {
  ok =
      let h = c.in_ok-network.ensures.ok in
      let found = at_some _ _ _ _ c.in-Some.is c.in_ok-cheapest_path.ensures.ok in
      let names = map (name_at h.2.names) c.in-Some.path.items in
      let named = path_named c.in_ok-network.network h.0 _ _ h.2 c.in-Some.path.items (path-below c.in_ok-network.network h.0 _ _ h.2 c.in-Some.path.items c.in-Some.cost found) in (
        h.0,
        h.1,
        inr (record {
          path = names;
          cost = c.in-Some.cost;
          cheapest = is_cheapest c.in_ok-network.network h.0 _ _ h.2 c.in-Some.path.items c.in-Some.cost found;
          written = c.in_ok-write_path-in-Some.ensures ∙ ap (λ l. path_line c.in-Some.cost (map (name_in c.in_ok-network.network.names) l)) c.as_slice.ensures.value ∙ ap (path_line c.in-Some.cost) named;
        }),
      );
  err = tt;
}
