use Rattle.std.proofs.Common.{◌≡◌, ◌∙◌, ap, subst, sym, take, drop, ◌+◌, ◌++◌, [], ◌∷◌, ℕ, ◌<◌, List, rules}
use Rattle.std.proofs.lemmas.Result.{IfOk-from_err}
use Rattle.pf_base.proofs.Outcomes.{refused_as}
use Rattle.pf_yen.specs.Internal.Splits.{IsCheapestAlong}
use Rattle.pf_yen.proofs.SplitLemmas.{spur_inside}
use Rattle.pf_yen.proofs.NamedLemmas.{none_named, way_start, way_found}
use Rattle.pf_yen.proofs.named.named_way.Goals as goal

pub best_first-requires-clause-inside : goal.best_first-requires-clause-inside
best_first-requires-clause-inside g c =
    let s = c.args.filtered.now in
    subst (λ (n : ℕ). s.spur < n) c.requires.wide (spur_inside s.adjacency.now s.onward.items s.spur _ c.requires.prefix.filtered)

pub returns-in_default-best_first : goal.returns-in_default-best_first
returns-in_default-best_first g c =
    let s = c.args.filtered.now in
    let none = rw c.in_default-best_first.is at c.best_first.ensures in
    record { named = none_named g.C.Number.value g.C.Number.fits s.adjacency.now c.requires.whole c.in-Some.costs.now c.in-Some.ensures s.onward.items s.spur (take c.args.spur (drop 1 c.args.path.now)) s.banned c.requires.wide s.spent c.requires.prefix none; refused = tt }

pub go_to_goal-requires-clause-inside : goal.go_to_goal-requires-clause-inside
go_to_goal-requires-clause-inside g c =
    let s = c.args.filtered.now in
    let best = rw c.in-Some-best_first.is at c.best_first.ensures in
    c.requires.whole.inside s.spur c.in-Some-best_first.first.0 best.price best.edge

pub returns-then-branch : goal.returns-then-branch
returns-then-branch g c =
    let value = g.C.Number.value in
    let s = c.args.filtered.now in
    let q = take c.args.spur (drop 1 c.args.path.now) in
    let r = c.in-Some.ensures in
    let first = c.in-Some-best_first.first.0 in
    let sum = c.in-Some-best_first.first.1 in
    let total = c.in-Some-total_of.total in
    let rest = c.in-Some-cost_at.rest in
    let best = rw c.in-Some-best_first.is at c.best_first.ensures in
    let t = rw c.in-Some-total_of.is at c.total_of.ensures in
    let known = rw c.in-Some-cost_at.is at c.cost_at.ensures in
    let begin : (c.new-numbers.result.items ++ take (c.args.spur + 1) c.args.path.now) ++ first ∷ [] ≡ (0 ∷ q) ++ first ∷ [] = ap (λ (v : List ℕ). v ++ first ∷ []) (ap (λ (v : List ℕ). v ++ take (c.args.spur + 1) c.args.path.now) c.new-numbers.ensures.items ∙ c.requires.begins) in
    let start = way_start value g.C.Number.fits s.adjacency.now c.requires.whole c.in-Some.costs.now r s.onward.items s.spur q s.banned c.requires.wide s.spent c.requires.prefix first sum best t.0 total t.1 t.2 rest ((c.new-numbers.result.items ++ take (c.args.spur + 1) c.args.path.now) ++ first ∷ []) known begin in
    let w = c.in_ok-go_to_goal.ensures.goal c.if-branch.true q (value total) start in
    record {
      named = subst (λ (v : List ℕ). IsCheapestAlong value s.adjacency.now q s.banned v total) (sym (c.in_ok-path.ensures.same ∙ c.deref.ensures.value)) (way_found value g.C.Number.fits s.adjacency.now c.requires.whole c.in-Some.costs.now r s.onward.items s.spur q s.banned c.requires.wide s.spent c.requires.prefix first sum best t.0 total t.1 t.2 g.C.Zero.zero w.1 c.go_to_goal.new.path.items w.0
          (g.met.C.Zero.zero_law g.met.C.Integral.exact_law) w.4 w.3 w.2);
      refused = tt;
    }

pub returns-in_default : goal.returns-in_default
returns-in_default g c = record { named = tt; refused = tt }

pub returns-in_default-total_of : goal.returns-in_default-total_of
returns-in_default-total_of g c = record { named = tt; refused = tt }

pub returns-in_default-cost_at : goal.returns-in_default-cost_at
returns-in_default-cost_at g c = record { named = tt; refused = tt }

pub returns : goal.returns
returns g c = record { named = tt; refused = tt }

pub returns-in_err-go_to_goal : goal.returns-in_err-go_to_goal
returns-in_err-go_to_goal g c = record {
  named = IfOk-from_err _ _ c.from_residual.ensures.0;
  refused = refused_as _ c.from_residual.result c.in_err-go_to_goal.field-0.0 c.from_residual.ensures.1 c.in_err-go_to_goal.ensures.refused;
}

pub best_first-requires-clause-whole : goal.best_first-requires-clause-whole
best_first-requires-clause-whole g c = c.requires.whole

pub best_first-requires-clause-wide : goal.best_first-requires-clause-wide
best_first-requires-clause-wide g c = c.requires.wide

pub best_first-requires-clause-live : goal.best_first-requires-clause-live
best_first-requires-clause-live g c = c.requires.prefix.live

pub best_first-requires-clause-remaining : goal.best_first-requires-clause-remaining
best_first-requires-clause-remaining g c = c.in-Some.ensures

pub go_to_goal-requires-clause-whole : goal.go_to_goal-requires-clause-whole
go_to_goal-requires-clause-whole g c = c.requires.whole

pub go_to_goal-requires-clause-wide : goal.go_to_goal-requires-clause-wide
go_to_goal-requires-clause-wide g c = c.requires.wide

pub overflow_add-begin : goal.overflow_add-begin
overflow_add-begin g c = search (c.requires.inside, rules)

pub slice_bounds-begin-end : goal.slice_bounds-begin-end
slice_bounds-begin-end g c = search (c.requires.inside, rules)

pub returns-in_err-path-clause-named : goal.returns-in_err-path-clause-named
returns-in_err-path-clause-named g c = IfOk-from_err _ _ c.from_residual-in_err-path.ensures.0

pub returns-in_err-path-clause-refused : goal.returns-in_err-path-clause-refused
returns-in_err-path-clause-refused g c = refused_as _ c.from_residual-in_err-path.result c.in_err-path.field-0.0 c.from_residual-in_err-path.ensures.1 c.in_err-path.ensures.refused
