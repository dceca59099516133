use Rattle.std.proofs.Common.{◌≡◌, ◌∙◌, refl, sym, subst, arith, ℕ, ℤ, ◌+◌, ◌<◌, inl, inr}
use Rattle.std.specs.Prelude.{◌≤ℤ◌, ◌⊎◌, pos}
use Rattle.std.proofs.lemmas.Int.{ints}
use Rattle.pf_assignment.specs.Internal.AssignmentSteps.{IsBeyond, IsEither}
use Rattle.pf_assignment.proofs.kuhn_munkres.weights.least_of_row.Goals as goal
use borrow.Author.Count.{below_more}

-- one more column
module _ (at : ℕ → ℤ) (n : ℕ) (first before new low : ℤ) (same : IsEither low (at n)) where
  each_more : ((k : ℕ) → k < n → IsBeyond before (at k)) → low ≤ℤ pos 0 → new ≤ℤ before → new ≤ℤ low → (k : ℕ) → k < n + 1 → IsBeyond new (at k)
  each_more each small left right = below_more (λ k. IsBeyond new (at k)) n (λ k h. past (at k) (each k h)) (here same)
    where
      past : (w : ℤ) → IsBeyond before w → IsBeyond new w
      past w b = (omega (arith, ints, left, b.0), omega (arith, ints, left, b.1))

      here : IsEither low (at n) → IsBeyond new (at n)
      here (inl e) = (omega (arith, ints, e, right), omega (arith, ints, e, right, small))
      here (inr e) = (omega (arith, ints, e, right, small), omega (arith, ints, e, right))

  reached_more : (new ≡ before) ⊎ (new ≡ low) → (before ≡ first) ⊎ ((k : ℕ) × (k < n) × IsEither before (at k)) → (new ≡ first) ⊎ ((k : ℕ) × (k < n + 1) × IsEither new (at k))
  reached_more (inl e) (inl f) = inl (e ∙ f)
  reached_more (inl e) (inr (k, h, r)) = inr (k, omega (arith, h), subst (λ z. IsEither z (at k)) (sym e) r)
  reached_more (inr e) r = inr (n, omega arith, subst (λ z. IsEither z (at n)) (sym e) same)

pub loop-column-init : goal.loop-column-init
loop-column-init g c = record { lower = omega (arith, ints); each = λ k h. absurd (omega (arith, h)); reached = inl refl }

pub at-requires-clause-row : goal.at-requires-clause-row
at-requires-clause-row g c = c.requires.row

pub at-requires-clause-column : goal.at-requires-clause-column
at-requires-clause-column g c = omega (arith, c.loop-column-test.true, c.columns-column-end.ensures)

pub loop-column-smaller : goal.loop-column-smaller
loop-column-smaller g c = omega (arith, c.loop-column-test.true)

pub loop-column-preserved : goal.loop-column-preserved
loop-column-preserved g c =
    let value = g.C.Number.value in
    let at = (g.W.Weights.table c.args.weights.now).at c.args.row in
    let i = c.loop-column.invariant in
    let e = c.lesser-least.ensures in
    let n = c.loop-column.column in
    let before = value c.loop-column.least in
    let new = value c.lesser-least.result in
    let low = value c.lowered.result in
    let same : IsEither low (at n) = subst (IsEither low) c.at.ensures c.lowered.ensures.same in
    record {
      lower = omega (arith, ints, e.left, i.lower);
      each = each_more at n (value c.args.least) before new low same i.each c.lowered.ensures.low e.left e.right;
      reached = reached_more at n (value c.args.least) before new low same e.one i.reached;
    }

pub returns-clause-lower : goal.returns-clause-lower
returns-clause-lower g c = c.loop-column.invariant.lower

pub returns-clause-each : goal.returns-clause-each
returns-clause-each g c = λ k h. c.loop-column.invariant.each k (omega (arith, h, c.loop-column-test.false, c.columns-column-end.ensures))

pub returns-clause-reached : goal.returns-clause-reached
returns-clause-reached g c = elim c.loop-column.invariant.reached [
  | inl e ↦ inl e
  | inr e ↦ inr (e.0, omega (arith, e.1, c.loop-column.auto.column-end, c.columns-column-end.ensures), e.2)
]
