use Rattle.std.proofs.Common.{◌≡◌, ◌⊎◌, ℕ, List, ap, ◌∙◌, inl, inr, map, sym, subst}
use Rattle.pf_routes.specs.EdgeText.{Edge}
use Rattle.pf_routes.specs.AnswerText.{paths_text}
use Rattle.pf_routes.specs.Internal.NumberedPaths.{ArePathsInTable, names_of}
use Rattle.pf_routes.specs.Internal.Parsed.{RefusesAnswer, HoldsOfEdges}
use Rattle.pf_yen.specs.KCheapest.{paths_in}
use Rattle.pf_routes.specs.Roads.{HasRankedOverflow}
use Rattle.pf_route_io.specs.declared.error.RouteError.{RouteError}
use Rattle.pf_route_io.specs.declared.error.RouteError.TheVariants.{OutOfMemory, CostOverflow}
use Rattle.pf_routes.proofs.NetworkPaths.{has_ranked_overflow, are_cheapest, paths_in_table}
use Rattle.pf_base.proofs.Outcomes.{refused_for}
use Rattle.pf_routes.proofs.routes.ranked.ranked_lines.Goals as goal

no_memory : (overflows : List Edge → Type 0) (text : List ℕ) (e : RouteError) → e ≡ OutOfMemory → RefusesAnswer overflows e text
no_memory overflows text e h = subst (λ x. RefusesAnswer overflows x text) (sym h) tt

passed_on : (overflows : List Edge → Type 0) (text : List ℕ) (e : RouteError) → (e ≡ OutOfMemory) ⊎ ((e ≡ CostOverflow) × HoldsOfEdges text overflows) → RefusesAnswer overflows e text
passed_on overflows text e (inl h) = no_memory overflows text e h
passed_on overflows text e (inr h) = subst (λ x. RefusesAnswer overflows x text) (sym h.0) h.1

same_refusal : (overflows : List Edge → Type 0) (text : List ℕ) (d e : RouteError) → RefusesAnswer overflows d text → e ≡ d → RefusesAnswer overflows e text
same_refusal overflows text d e h k = subst (λ x. RefusesAnswer overflows x text) (sym k) h

pub write_paths-requires : goal.write_paths-requires
write_paths-requires g c =
    let h = c.in_ok-network.ensures.ok in
    subst (ArePathsInTable c.in_ok-network.network.names) (sym c.as_slice.ensures.value) (paths_in_table c.in_ok-network.network h.0 _ _ h.2 c.args.count c.in_ok-paths.paths.items c.in_ok-paths.ensures.ok)

pub returns-clause-ok : goal.returns-clause-ok
returns-clause-ok g c =
    let h = c.in_ok-network.ensures.ok in
    let paths = paths_in c.in_ok-paths.paths.items in (
      h.0,
      h.1,
      record {
        paths = map (names_of c.in_ok-network.network.names) paths;
        cheapest = are_cheapest c.in_ok-network.network h.0 _ _ h.2 c.args.count paths c.in_ok-paths.ensures.ok;
        written = c.in_ok-write_paths.ensures ∙ ap (λ ps. paths_text (map (names_of c.in_ok-network.network.names) (paths_in ps))) c.as_slice.ensures.value;
      },
    )

pub returns-in_err-paths-clause-err : goal.returns-in_err-paths-clause-err
returns-in_err-paths-clause-err g c =
    let h = c.in_ok-network.ensures.ok in
    let overflows = λ (edges : List Edge). HasRankedOverflow edges c.args.from.now c.args.to.now c.args.count in
    let told = elim c.in_err-paths.ensures.err as (λ _. (c.in_err-paths.field-0.0 ≡ OutOfMemory) ⊎ ((c.in_err-paths.field-0.0 ≡ CostOverflow) × HoldsOfEdges c.args.text.items overflows)) [
      | inl a ↦ inl a
      | inr b ↦ inr (b.0, (h.0, h.1, has_ranked_overflow c.in_ok-network.network h.0 _ _ h.2 c.args.count b.1 b.2 b.3))
    ] in
    let told_here = passed_on overflows c.args.text.items c.in_err-paths.field-0.0 told in
    refused_for _ _ c.from_residual-in_err-paths.result (λ e k. same_refusal overflows c.args.text.items c.in_err-paths.field-0.0 e told_here k) c.from_residual-in_err-paths.ensures.1

pub returns-in_err-write_paths-clause-err : goal.returns-in_err-write_paths-clause-err
returns-in_err-write_paths-clause-err g c = refused_for _ _ c.from_residual-in_err-write_paths.result (no_memory _ c.args.text.items) c.from_residual-in_err-write_paths.ensures.1
