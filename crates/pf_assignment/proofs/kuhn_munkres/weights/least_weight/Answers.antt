use Rattle.std.proofs.Common.{◌≡◌, ◌∙◌, ap, refl, sym, subst, arith, ℕ, ℤ, ◌+◌, ◌<◌, inl, inr}
use Rattle.std.specs.Prelude.{◌≤ℤ◌, ◌⊎◌, pos}
use Rattle.std.proofs.lemmas.Int.{ints}
use Rattle.pf_assignment.specs.Internal.AssignmentSteps.{IsBeyond, IsEither}
use Rattle.pf_assignment.proofs.MatchingWeights.{least_is_greatest}
use Rattle.pf_assignment.proofs.kuhn_munkres.weights.least_weight.Goals as goal
use borrow.Author.Count.{below_more}

-- one more row
module _ (at : ℕ → ℕ → ℤ) (n columns : ℕ) (before new : ℤ) where
  each_more : ((r k : ℕ) → r < n → k < columns → IsBeyond before (at r k)) → ((k : ℕ) → k < columns → IsBeyond new (at n k)) → new ≤ℤ before → (r k : ℕ) → r < n + 1 → k < columns → IsBeyond new (at r k)
  each_more each row less r k h = below_more (λ r. (k : ℕ) → k < columns → IsBeyond new (at r k)) n (λ r h k l. past (at r k) (each r k h l)) row r h k
    where
      past : (w : ℤ) → IsBeyond before w → IsBeyond new w
      past w b = (omega (arith, ints, less, b.0), omega (arith, ints, less, b.1))

  reached_more : (new ≡ before) ⊎ ((k : ℕ) × (k < columns) × IsEither new (at n k)) → (before ≡ pos 0) ⊎ ((r : ℕ) × (k : ℕ) × (r < n) × (k < columns) × IsEither before (at r k))
      → (new ≡ pos 0) ⊎ ((r : ℕ) × (k : ℕ) × (r < n + 1) × (k < columns) × IsEither new (at r k))
  reached_more (inl e) (inl f) = inl (e ∙ f)
  reached_more (inl e) (inr (r, k, h, l, s)) = inr (r, k, omega (arith, h), l, subst (λ z. IsEither z (at r k)) (sym e) s)
  reached_more (inr (k, l, s)) r = inr (n, k, omega arith, l, s)

pub returns-then-columns-eq0 : goal.returns-then-columns-eq0
returns-then-columns-eq0 g c = (
  0,
  record { bound = λ r k h l. absurd (omega (arith, l, c.if-columns-eq0.true, c.columns.ensures)); reached = inl refl },
  ap g.C.Number.value c.zero-least.ensures ∙ g.met.C.Zero.zero_law g.met.C.Integral.exact_law,
)

pub loop-row-init : goal.loop-row-init
loop-row-init g c =
    let none : g.C.Number.value c.zero-least.result ≡ pos 0 = ap g.C.Number.value c.zero-least.ensures ∙ g.met.C.Zero.zero_law g.met.C.Integral.exact_law in
    record { lower = omega (arith, ints, none); each = λ r k h l. absurd (omega (arith, h)); reached = inl none }

pub least_of_row-least-requires : goal.least_of_row-least-requires
least_of_row-least-requires g c = record { row = omega (arith, c.loop-row-test.true, c.rows-row-end.ensures) }

pub loop-row-smaller : goal.loop-row-smaller
loop-row-smaller g c = omega (arith, c.loop-row-test.true)

pub loop-row-preserved : goal.loop-row-preserved
loop-row-preserved g c =
    let t = g.W.Weights.table c.args.weights.now in
    let before = g.C.Number.value c.loop-row.least in
    let new = g.C.Number.value c.least_of_row-least.result in
    let i = c.loop-row.invariant in
    let e = c.least_of_row-least.ensures in
    record {
      lower = omega (arith, ints, e.lower, i.lower);
      each = each_more t.at c.loop-row.row t.columns before new i.each e.each e.lower;
      reached = reached_more t.at c.loop-row.row t.columns before new e.reached i.reached;
    }

pub returns : goal.returns
returns g c =
    let i = c.loop-row.invariant in
    let t = g.W.Weights.table c.args.weights.now in
    least_is_greatest t (g.C.Number.value c.loop-row.least) i.lower (λ r k h l. i.each r k (omega (arith, h, c.loop-row-test.false, c.rows-row-end.ensures)) l)
    (elim i.reached [
      | inl e ↦ inl e
      | inr e ↦ inr (e.0, e.1, omega (arith, e.2, c.loop-row.auto.row-end, c.rows-row-end.ensures), e.3, e.4)
    ])
