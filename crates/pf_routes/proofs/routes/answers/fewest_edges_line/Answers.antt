use Rattle.std.proofs.Common.{◌≡◌, ℕ, List, ◌<◌, ◌-◌, arith, ap, ◌∙◌, inl, inr, map, sym, subst}
use Rattle.std.specs.Prelude.{All}
use Rattle.std.proofs.lemmas.List.{length-map}
use Rattle.pf_routes.specs.Internal.Links.{name_at}
use Rattle.pf_routes.specs.Internal.NameTable.{name_in, table_len}
use Rattle.pf_routes.specs.AnswerText.{path_line}
use Rattle.pf_routes.specs.Internal.Parsed.{RefusesText}
use Rattle.pf_route_io.specs.declared.error.RouteError.{RouteError}
use Rattle.pf_route_io.specs.declared.error.RouteError.TheVariants.{OutOfMemory}
use Rattle.pf_routes.proofs.Networks.{has_no_walk, is_fewest, fewest-below, fewest-some, in_table, path_named}
use Rattle.pf_base.proofs.Outcomes.{refused_for}
use Rattle.pf_routes.proofs.Outcomes.{at_some, at_none}
use Rattle.pf_routes.proofs.routes.answers.fewest_edges_line.Goals as goal

no_memory : (text : List ℕ) (e : RouteError) → e ≡ OutOfMemory → RefusesText e text
no_memory text e h = subst (λ x. RefusesText x text) (sym h) tt

pub returns-in_err-from_slice-in-None-clause-err : goal.returns-in_err-from_slice-in-None-clause-err
returns-in_err-from_slice-in-None-clause-err g c = refused_for _ _ c.from_residual-in_err-from_slice-in-None.result (no_memory c.args.text.items) c.from_residual-in_err-from_slice-in-None.ensures.1

pub returns-in-None-clause-ok : goal.returns-in-None-clause-ok
returns-in-None-clause-ok g c =
    let h = c.in_ok-network.ensures.ok in
    let found = at_none _ _ _ c.in-None.is c.in_ok-fewest_edges_path.ensures.ok in
    (h.0, h.1, inl (has_no_walk c.in_ok-network.network h.0 _ _ h.2 found, c.in_ok-from_slice-in-None.ensures.items))

pub write_path-requires : goal.write_path-requires
write_path-requires g c =
    let h = c.in_ok-network.ensures.ok in
    let found = at_some _ _ _ _ c.in-Some.is c.in_ok-fewest_edges_path.ensures.ok in
    subst (All (λ n. n < table_len c.in_ok-network.network.names)) (sym c.as_slice.ensures.value) (in_table c.in_ok-network.network h.0 _ _ h.2 c.in-Some.path.items (fewest-below c.in_ok-network.network h.0 _ _ h.2 c.in-Some.path.items found))

pub returns-in_err-write_path-in-Some-clause-err : goal.returns-in_err-write_path-in-Some-clause-err
returns-in_err-write_path-in-Some-clause-err g c = refused_for _ _ c.from_residual-in_err-write_path-in-Some.result (no_memory c.args.text.items) c.from_residual-in_err-write_path-in-Some.ensures.1

pub returns-clause-ok : goal.returns-clause-ok
returns-clause-ok g c =
    let h = c.in_ok-network.ensures.ok in
    let found = at_some _ _ _ _ c.in-Some.is c.in_ok-fewest_edges_path.ensures.ok in
    let keys = h.2.names in
    let named = path_named c.in_ok-network.network h.0 _ _ h.2 c.in-Some.path.items (fewest-below c.in_ok-network.network h.0 _ _ h.2 c.in-Some.path.items found) in (
      h.0,
      h.1,
      inr (record {
        path = map (name_at keys) c.in-Some.path.items;
        edge_count = c.len-edge_count.result - 1;
        fewest = is_fewest c.in_ok-network.network h.0 _ _ h.2 c.in-Some.path.items found;
        counted = omega (arith, fewest-some c.in_ok-network.network h.0 _ _ h.2 c.in-Some.path.items found, length-map c.in-Some.path.items (name_at keys), c.len-edge_count.ensures, c.in-Some.path.ok.0);
        written = c.in_ok-write_path-in-Some.ensures ∙ ap (λ l. path_line (c.len-edge_count.result - 1) (map (name_in c.in_ok-network.network.names) l)) c.as_slice.ensures.value ∙ ap (path_line (c.len-edge_count.result - 1)) named;
      }),
    )
