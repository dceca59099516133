use Rattle.std.proofs.Common.{◌≡◌, ◌∙◌, sym, subst, inl, inr, ℕ, ◌<◌, ◌+◌, take, List}
use Rattle.std.specs.Prelude.{◌⊎◌, Contains}
use Rattle.std.proofs.lemmas.List.{take_all}
use Rattle.pf_base.proofs.ListLemmas.{Contains-take, Contains-take_more, Contains-take_here}
use Rattle.pf_yen.specs.Internal.NamedWays.{is_first, IsBestFirst}
use Rattle.pf_yen.proofs.NamedLemmas.{row_step, fits_behind}
use Rattle.pf_yen.proofs.named.best_first.Goals as goal

pub better-best-requires-clause-inside : goal.better-best-requires-clause-inside
better-best-requires-clause-inside g c =
    let s = c.args.filtered.now in
    let item = c.steps-item.result in
    subst (λ (n : ℕ). item.0 < n) (sym c.requires.wide) (c.requires.whole.inside s.spur item.0 item.1 (row_step s.adjacency.now s.spur c.row-next-items.result.now c.steps.next-index item c.steps.invariant.is c.steps-test.true c.steps-item.is))

pub better-best-requires-clause-fits : goal.better-best-requires-clause-fits
better-best-requires-clause-fits g c = λ y known.
    let s = c.args.filtered.now in
    let item = c.steps-item.result in
    fits_behind g.C.Number.value g.C.Number.fits s.adjacency.now c.requires.whole c.args.costs.now c.requires.remaining s.spur item.0 item.1 y c.requires.inside c.requires.live
    (row_step s.adjacency.now s.spur c.row-next-items.result.now c.steps.next-index item c.steps.invariant.is c.steps-test.true c.steps-item.is) known

pub steps-preserved : goal.steps-preserved
steps-preserved g c =
    let row = c.row-next-items.result.now in
    let at = c.steps.next-index in
    let item = c.steps-item.result in
    record {
      is = c.steps.invariant.is;
      best = c.better-best.ensures (take at row) (take (at + 1) row) (λ e h. Contains-take row at e h) (Contains-take_here row at item c.steps-test.true c.steps-item.is)
          (λ e h. elim (Contains-take_more row at item e h) as (λ _. (item ≡ e) ⊎ Contains (take at row) e) [ inl k ↦ inr k | inr q ↦ inl (c.steps-item.is ∙ q) ]) c.steps.invariant.best;
    }

pub returns : goal.returns
returns g c =
    let s = c.args.filtered.now in
    subst (λ (row : List (ℕ × g.row.C.Denot)). IsBestFirst g.C.Number.value (is_first s.onward.items s.spur s.banned) c.args.costs.now row c.steps.best) (take_all _ _ c.steps-test.false ∙ c.steps.invariant.is) c.steps.invariant.best
