use Rattle.std.proofs.Common.{◌∙◌, ◌+◌, ℕ, List, sym, subst, take}
use Rattle.std.specs.Prelude.{filter}
use Rattle.std.proofs.lemmas.List.{take_all}
use Rattle.std.proofs.lemmas.Result.{IfOk-from_err}
use Rattle.pf_yen.specs.Internal.Filtered.{FilteredLists, allows}
use Rattle.pf_yen.proofs.FilteredLemmas.{passes_too, left_out}
use Rattle.pf_base.proofs.ListLemmas.{Contains-here}
use Rattle.pf_base.proofs.Outcomes.{refused_as}
use Rattle.pf_yen.proofs.filtered.FilteredGraph.list_allowed.Goals.{then-allows+in_ok-add, else-allows}
use Rattle.pf_yen.proofs.filtered.FilteredGraph.list_allowed.Goals as goal

pub steps-init : goal.steps-init
steps-init g c = c.requires.empty

pub allows-requires : goal.allows-requires
allows-requires g c = let item = c.steps-item.result in (c.requires.inside, c.requires.ends item.0 item.1 (Contains-here c.args.steps.now c.steps.next-index item c.steps-test.true c.steps-item.is))

pub steps-preserved : goal.steps-preserved
steps-preserved g c =
    let s = c.args.self.now in
    let filtered_lists : FilteredLists g.row.C.Denot = record { adjacency = s.adjacency.now; onward = s.onward.items; spur = s.spur; banned = s.banned } in
    let steps = c.args.steps.now in
    let i = c.steps.next-index in
    let item = c.steps-item.result in
    elim c.if-allows.branch as (λ _. g.R.Row.holds c.if-allows.row (filter (λ (e : ℕ × g.row.C.Denot). allows filtered_lists c.args.node e.0) (take (i + 1) steps))) [
      | then-allows+in_ok-add w ↦ rw (w.row-is, passes_too (λ (e : ℕ × g.row.C.Denot). allows filtered_lists c.args.node e.0) steps i item c.steps-test.true c.steps-item.is (sym c.allows.ensures ∙ w.if-allows.true)) (w.in_ok-add.ensures.added _ c.steps.invariant)
      | else-allows w ↦ rw (w.row-is, left_out (λ (e : ℕ × g.row.C.Denot). allows filtered_lists c.args.node e.0) steps i item c.steps-test.true c.steps-item.is (sym c.allows.ensures ∙ w.if-allows.false)) c.steps.invariant
    ]

pub returns-in_err-add : goal.returns-in_err-add
returns-in_err-add g c = record {
  listed = IfOk-from_err _ _ c.from_residual.ensures.0;
  refused = refused_as _ c.from_residual.result c.in_err-add.field-0.0 c.from_residual.ensures.1 c.in_err-add.ensures.refused;
}

pub returns : goal.returns
returns g c = record {
  listed =
      let s = c.args.self.now in
      let filtered_lists : FilteredLists g.row.C.Denot = record { adjacency = s.adjacency.now; onward = s.onward.items; spur = s.spur; banned = s.banned } in
      subst (λ (steps : List (ℕ × g.row.C.Denot)). g.R.Row.holds c.steps.row (filter (λ (e : ℕ × g.row.C.Denot). allows filtered_lists c.args.node e.0) steps)) (take_all _ _ c.steps-test.false) c.steps.invariant;
  refused = tt;
}
