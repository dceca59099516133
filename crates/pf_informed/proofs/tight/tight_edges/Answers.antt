use Rattle.std.proofs.Common.{◌≡◌, ◌+◌, ◌≤◌, ◌<◌, subst, ℕ, length, List, sym, inl}
use Rattle.pf_core.proofs.SearchLemmas.{Grows-trans, Grows-refl}
use Rattle.pf_informed.specs.Internal.Chains.{before_in}
use Rattle.pf_informed.specs.Internal.Tight.{IsTight, IsUpTo}
use Rattle.pf_base.proofs.Outcomes.{if_refused, refused_as}
use Rattle.pf_informed.proofs.TightLemmas.{tight_start}
use Rattle.pf_informed.proofs.Bounds.{one_further, at_the_end, most_more, none_more}
use Rattle.pf_informed.proofs.tight.tight_edges.Goals as goal

pub look-requires-clause-someone : goal.look-requires-clause-someone
look-requires-clause-someone g c =
    let i = c.numbers.invariant in
    let inside : c.numbers.number < length c.args.labels.now = c.numbers-test.true in
    let a = c.requires.someone c.numbers.number inside in
    (a.0, i.grows.stays c.numbers.number a.0 a.1)

pub returns-in_err-look : goal.returns-in_err-look
returns-in_err-look g c = record {
  grows = Grows-trans _ _ _ _ _ _ c.numbers.invariant.grows c.in_err-look.ensures.grows;
  wide = if_refused _ c.from_residual-in_err-look.result _ c.from_residual-in_err-look.ensures.1;
  tight = if_refused _ c.from_residual-in_err-look.result _ c.from_residual-in_err-look.ensures.1;
  refused = refused_as _ c.from_residual-in_err-look.result _ c.from_residual-in_err-look.ensures.1 c.in_err-look.ensures.refused;
}

pub numbers-preserved : goal.numbers-preserved
numbers-preserved g c =
    let i = c.numbers.invariant in
    let e = c.in_ok-look.ensures in
    let inside : c.numbers.number + 1 ≤ length c.args.labels.now = one_further _ _ c.numbers-test.true in
    record {
      few = inside;
      rows = e.rows;
      grows = Grows-trans _ _ _ _ _ _ i.grows e.grows;
      tight = λ h x. let t = i.tight h x in (e.graph h t.0, e.tight h t.0 t.1);
    }

pub returns-in_err-new : goal.returns-in_err-new
returns-in_err-new g c = record {
  grows = Grows-refl _ _;
  wide = if_refused _ c.from_residual.result _ c.from_residual.ensures.1;
  tight = if_refused _ c.from_residual.result _ c.from_residual.ensures.1;
  refused = refused_as _ c.from_residual.result _ c.from_residual.ensures.1 c.in_err-new.ensures.refused;
}

pub returns : goal.returns
returns g c = record {
  tight = λ h x.
      let i = c.numbers.invariant in
      let past : length c.args.labels.now ≤ c.numbers.number = c.numbers-test.false in
      let all : c.numbers.number ≡ length c.args.labels.now = at_the_end _ _ past i.few in
      ((i.tight h x).0, subst (λ (n : ℕ). IsTight g.C.Number.value c.args.labels.now (g.G.NumberedGraph.step h) (g.G.NumberedGraph.passes h) (g.G.NumberedGraph.stands c.numbers.graph) (g.C.Number.value c.args.best) n c.numbers.tight.goals.items (before_in c.numbers.tight.before)) all (i.tight h x).1);
  grows = c.numbers.invariant.grows;
  wide = c.numbers.invariant.rows.wide;
  refused = tt;
}

pub look-requires-clause-rows : goal.look-requires-clause-rows
look-requires-clause-rows g c = c.numbers.invariant.rows

pub look-requires-clause-graph : goal.look-requires-clause-graph
look-requires-clause-graph g c = let a = c.requires.graph in (a.0, (c.numbers.invariant.tight a.0 a.1).0)

pub look-requires-clause-inside : goal.look-requires-clause-inside
look-requires-clause-inside g c = (c.numbers-test.true, most_more _ _ _ c.requires.found c.numbers.invariant.grows.more)

pub numbers-init : goal.numbers-init
numbers-init g c =
    let e = c.in_ok-new.ensures in
    record {
      few = none_more _;
      rows = record { wide = e.len; up_to = λ j. subst (λ (xs : List ℕ). IsUpTo 0 xs) (sym (e.empty j)) (record { once = tt; low = inl (λ k q. absurd q) }) };
      grows = Grows-refl _ _;
      tight = λ h x. (x, tight_start _ _ _ _ _ _ _ c.new.ensures.items _ e.empty);
    }
