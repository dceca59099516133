use Rattle.std.proofs.Common.{ℤ, ◌≡◌, ◌+ℤ◌, arith, pos, refl, subst}
use Rattle.std.specs.Prelude.{◌-ℤ◌, ◌≤ℤ◌, ◌<ℤ◌}
use Rattle.std.proofs.lemmas.Int.{ints}
use Rattle.pf_base.proofs.Outcomes.{on_ok}
use Rattle.pf_residual.proofs.AgreeLemmas.{capacities_kept}
use Rattle.pf_residual.proofs.NetworkLemmas.{balanced_of, flow_fits}
use Rattle.pf_flow.proofs.changes.lower_to.Goals as goal

at_most_itself : (z : ℤ) → z ≤ℤ z
at_most_itself z = omega (arith, ints)

more_on_top : (t n f : ℤ) → n ≤ℤ f → (t +ℤ n) ≤ℤ (t +ℤ f)
more_on_top t n f l = omega (arith, ints, l)

above_none : (e f n : ℤ) → e ≡ f -ℤ n → n <ℤ f → pos 0 <ℤ e
above_none e f n is l = omega (arith, ints, is, l)

at_most_all : (e f n all : ℤ) → e ≡ f -ℤ n → f ≡ all → pos 0 ≤ℤ n → e ≤ℤ all
at_most_all e f n all is same l = omega (arith, ints, is, same, l)

what_is_left : (left all e f n : ℤ) → left ≡ all -ℤ e → e ≡ f -ℤ n → f ≡ all → left ≤ℤ n
what_is_left left all e f n less is same = omega (arith, ints, less, is, same)

not_both : (f all n : ℤ) → f ≡ all → n <ℤ f → all ≤ℤ n → ⊥
not_both f all n same l m = omega (arith, ints, same, l, m)

not_far : (t t' e f n all : ℤ) → t ≤ℤ (t' +ℤ e) → e ≡ f -ℤ n → f ≡ all → (t +ℤ n) ≤ℤ (t' +ℤ all)
not_far t t' e f n all l is same = omega (arith, ints, l, is, same)

pub minus-requires : goal.minus-requires
minus-requires g c =
    let exact = g.met.C.Integral.exact_law in
    let between = λ (x y z : ℤ). g.C.Number.between_law x y z exact in
    let N = g.S.FlowStore.network c.args.store.now in
    let fit = flow_fits between g.met.C.SignedCost.negation_law (balanced_of c.requires.network) c.args.from c.args.to c.requires.from c.requires.to in
    let is = c.flow-flow.ensures in
    let low = c.requires.low in
    let above : g.C.Number.value c.args.number <ℤ g.C.Number.value c.flow-flow.result = c.if-not-is_below.ensures in
    between (pos 0) (g.C.Number.value c.flow-flow.result -ℤ g.C.Number.value c.args.number) (N.flow c.args.from c.args.to) (g.met.C.Zero.zero_fits_law exact) fit (omega (arith, ints, above)) (omega (arith, ints, is, low))

pub returns-then-not-is_below : goal.returns-then-not-is_below
returns-then-not-is_below g c =
    let is = c.flow-flow.ensures in
    let low : g.C.Number.value c.flow-flow.result ≤ℤ g.C.Number.value c.args.number = c.if-not-is_below.ensures in
    record {
      network = c.requires.network;
      lowered = record {
        capacities = capacities_kept (g.S.FlowStore.network c.args.store.now);
        lowered = subst (λ z. z ≤ℤ g.C.Number.value c.args.number) is low;
        kept = λ _. record { at = λ a b. refl };
        total = at_most_itself _;
        excess = λ high. more_on_top _ _ _ high;
      };
      unchanged = tt;
      refused = tt;
    }

pub take_back-requires : goal.take_back-requires
take_back-requires g c = record {
  network = c.requires.network;
  from = c.requires.from;
  to = c.requires.to;
  some = above_none _ _ _ c.minus.ensures c.if-not-is_below.ensures;
  most = at_most_all _ _ _ _ c.minus.ensures c.flow-flow.ensures c.requires.low;
}

pub returns : goal.returns
returns g c =
    let is = c.flow-flow.ensures in
    let above = c.if-not-is_below.ensures in
    let excess = c.minus.ensures in
    let back = c.take_back.ensures in
    record {
      network = back.network;
      lowered = on_ok c.take_back.result back.taken (λ t. record {
        capacities = t.kept;
        lowered = what_is_left _ _ _ _ _ t.lowered excess is;
        kept = λ high. absurd (not_both _ _ _ is above high);
        total = t.total;
        excess = λ high. not_far _ _ _ _ _ _ t.excess excess is;
      });
      unchanged = back.unchanged;
      refused = back.refused;
    }
