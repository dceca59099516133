use Rattle.std.proofs.Common.{◌≡◌, ◌∙◌, ℕ, ap, subst, take, drop, length, arith}
use Rattle.std.proofs.lemmas.List.{length-set, length-replicate}
use Rattle.pf_yen.specs.Internal.NamedWays.{IsSpent}
use Rattle.pf_yen.specs.Internal.Splits.{IsFilteredTo}
use Rattle.pf_yen.proofs.SplitLemmas.{last_place, filtered_first, filtered_on, spent_on, spur_inside}
use Rattle.std.proofs.lemmas.Result.{IfOk-from_err}
use Rattle.pf_base.proofs.Outcomes.{refused_as}
use Rattle.pf_yen.proofs.classes.filtered_along.Goals as goal

pub places-init : goal.places-init
places-init g c =
    let e = c.in_ok-filtered.ensures in
    record {
      adjacency = e.graph.0;
      wide = ap length e.onward ∙ length-replicate _ _;
      banned = e.graph.2;
      filtered = rw (e.onward, e.graph.1) (filtered_first c.args.adjacency.now (length c.args.adjacency.now.rows) c.requires.some);
      spent = e.spent;
    }

pub go_on-requires-clause-inside : goal.go_on-requires-clause-inside
go_on-requires-clause-inside g c = let i = c.places.invariant in spur_inside c.args.adjacency.now c.places.filtered.onward.items c.places.filtered.spur _ i.filtered

pub go_on-requires-clause-wide : goal.go_on-requires-clause-wide
go_on-requires-clause-wide g c = rw c.places.invariant.adjacency c.places.invariant.wide

pub places-preserved : goal.places-preserved
places-preserved g c =
    let i = c.places.invariant in
    let e = c.go_on.ensures in
    let u = c.requires.clean in
    record {
      adjacency = e.adjacency ∙ i.adjacency;
      wide = ap length e.onward ∙ length-set _ _ _ ∙ i.wide;
      banned = e.banned ∙ i.banned;
      filtered = rw (e.onward, e.spur) (filtered_on g.C.Number.value c.args.adjacency.now c.requires.whole c.args.path.now u.0 c.places.place 0 c.places.filtered.onward.items c.places.filtered.spur u.1 (omega (arith, c.places-test.true, c.requires.inside)) i.wide i.filtered);
      spent = spent_on g.C.Number.value c.args.adjacency.now c.requires.whole c.args.path.now u.0 c.places.place 0 c.places.filtered.onward.items c.places.filtered.spur u.1 (omega (arith, c.places-test.true, c.requires.inside)) i.filtered c.places.filtered.spent c.go_on.new.self.spent
          (rw i.adjacency at e.spent) i.spent;
    }

pub returns-in_err-filtered : goal.returns-in_err-filtered
returns-in_err-filtered g c = record {
  banned = IfOk-from_err _ _ c.from_residual.ensures.0;
  spent = IfOk-from_err _ _ c.from_residual.ensures.0;
  adjacency = IfOk-from_err _ _ c.from_residual.ensures.0;
  filtered = IfOk-from_err _ _ c.from_residual.ensures.0;
  refused = refused_as _ c.from_residual.result c.in_err-filtered.field-0.0 c.from_residual.ensures.1 c.in_err-filtered.ensures.refused;
  wide = IfOk-from_err _ _ c.from_residual.ensures.0;
}

pub returns : goal.returns
returns g c =
    let i = c.places.invariant in
    let s = c.places.filtered in
    let end : c.places.place ≡ c.args.spur = last_place c.places.place c.args.spur c.places.auto.place-end c.places-test.false in
    record {
      adjacency = i.adjacency;
      wide = i.wide;
      banned = i.banned;
      filtered = (subst (λ (n : ℕ). IsFilteredTo c.args.adjacency.now s.onward.items s.spur (take n (drop 1 c.args.path.now))) end i.filtered);
      spent = subst (λ (n : ℕ). IsSpent g.C.Number.value c.args.adjacency.now (take n (drop 1 c.args.path.now)) s.spent) end i.spent;
      refused = tt;
    }
