use Rattle.std.proofs.Common.{ℕ, ◌<◌, List, sym, subst, length, refl}
use Rattle.std.specs.Prelude.{Contains, OnOk, filter}
use Rattle.pf_base.proofs.Outcomes.{on_ok}
use Rattle.pf_core.specs.Numbered.{ListsSteps}
use Rattle.pf_yen.specs.Internal.Filtered.{FilteredLists, FilteredStep, StandsForItself, allows, filtered_row}
use Rattle.pf_yen.proofs.FilteredLemmas.{row_inside, lists_steps, row_stands, row_in_order, none_between}
use Rattle.pf_yen.proofs.filtered.FilteredGraphNumberedGraph.expand.Goals as goal

pub list_allowed-requires-clause-inside : goal.list_allowed-requires-clause-inside
list_allowed-requires-clause-inside g c = let r = c.requires.graph in subst (λ (n : ℕ). c.args.node < n) (sym r.1.2) c.requires.inside

pub list_allowed-requires-clause-ends : goal.list_allowed-requires-clause-ends
list_allowed-requires-clause-ends g c = let r = c.requires.graph in λ b p h. subst (λ (n : ℕ). b < n) (sym r.1.2) (r.1.1 c.args.node b p (subst (λ (v : List (ℕ × g.row.C.Denot)). Contains v (b, p)) c.row.ensures h))

pub returns-clause-listed : goal.returns-clause-listed
returns-clause-listed g c =
    let r = c.requires.graph in
    let s = c.args.self.now in
    let here : FilteredLists g.row.C.Denot = record { adjacency = s.adjacency.now; onward = s.onward.items; spur = s.spur; banned = s.banned } in
    let listed = subst (λ (steps : List (ℕ × g.row.C.Denot)). OnOk c.list_allowed.result (g.R.Row.holds c.list_allowed.new.row (filter (λ (e : ℕ × g.row.C.Denot). allows here c.args.node e.0) steps))) c.row.ensures c.list_allowed.ensures.listed in
    on_ok c.list_allowed.result listed (λ h. (
      filtered_row here c.args.node,
      h,
      row_inside g.C.Number.value here r.1.1 c.args.node,
      (λ j low high. absurd (none_between _ _ _ low high refl)),
      λ g' e x t. subst (λ (k : FilteredLists g.row.C.Denot). ListsSteps g.C.Number.value (FilteredStep g.C.Number.value k) (StandsForItself (length s.adjacency.now.rows)) x (filtered_row here c.args.node)) (sym e.0)
          (lists_steps g.C.Number.value here r.1.1 c.args.node x t),
    ))

pub returns-clause-placed : goal.returns-clause-placed
returns-clause-placed g c =
    let r = c.requires.graph in
    let s = c.args.self.now in
    let here : FilteredLists g.row.C.Denot = record { adjacency = s.adjacency.now; onward = s.onward.items; spur = s.spur; banned = s.banned } in
    let listed = subst (λ (steps : List (ℕ × g.row.C.Denot)). OnOk c.list_allowed.result (g.R.Row.holds c.list_allowed.new.row (filter (λ (e : ℕ × g.row.C.Denot). allows here c.args.node e.0) steps))) c.row.ensures c.list_allowed.ensures.listed in
    on_ok c.list_allowed.result listed (λ h. (filtered_row here c.args.node, h, λ g' e x t. rw e.0 (row_stands g.C.Number.value here r.1.1 c.args.node x t.0)))

pub returns-clause-ordered : goal.returns-clause-ordered
returns-clause-ordered g c =
    let r = c.requires.graph in
    let s = c.args.self.now in
    let here : FilteredLists g.row.C.Denot = record { adjacency = s.adjacency.now; onward = s.onward.items; spur = s.spur; banned = s.banned } in
    on_ok c.list_allowed.result c.list_allowed.ensures.listed (λ h g' e x t. rw e.0 (row_in_order g.C.Number.value here r.1.1 x))
