use Rattle.std.proofs.Common.{◌≡◌, ℕ, refl, ◌∙◌, ◌+◌, ◌-◌, ◌*◌, ◌<◌, ◌^◌, ap, sym, arith, inl, inr, false, true≢false, nat_eq}
use Rattle.std.specs.Int.{bit_at}
use Rattle.std.proofs.lemmas.Bool.{cases_lt, cases_eq, cases_Bool, eqb-true, eq-eqb}
use Rattle.std.proofs.lemmas.Nat.Bits.{same_from_bits_below, bit_at-lt}
use Rattle.pf_grid.specs.GridPositions.{Positions, has}
use Rattle.pf_grid.specs.GridEquality.{same_vertices}
use Rattle.pf_grid.specs.Internal.EqualityLaws.{same_vertices_decides}
use Rattle.pf_grid.proofs.CellLemmas.{has_beyond}
use Rattle.pf_grid.proofs.grid.traits.GridPartialEq.eq.Goals as goal

digits : (a b : ℕ) → a < 2 → b < 2 → nat_eq a 1 ≡ nat_eq b 1 → a ≡ b
digits a b p q e = elim (cases_eq a 1) as (λ _. a ≡ b) [
  | inl f ↦ f ∙ sym (eqb-true b 1 (sym e ∙ eq-eqb a 1 f))
  | inr n ↦ elim (cases_eq b 1) as (λ _. a ≡ b) [
    | inl f ↦ absurd (n (eqb-true a 1 (e ∙ eq-eqb b 1 f)))
    | inr m ↦ omega arith
  ]
]

-- words that differ are of grids that differ
differ : (a b : Positions) (v u place y : ℕ) → v < 2 ^ 64 → u < 2 ^ 64
    → ((i : ℕ) → i < 64 → nat_eq (bit_at v i) 1 ≡ has a (place * 64 + i) y)
    → ((i : ℕ) → i < 64 → nat_eq (bit_at u i) 1 ≡ has b (place * 64 + i) y)
    → (v ≡ u → ⊥) → same_vertices a b ≡ false
differ a b v u place y p q e f n = elim (cases_Bool (same_vertices a b)) as (λ _. same_vertices a b ≡ false) [
  | inl s ↦ absurd (n (same_from_bits_below 64 v u p q (λ i k. digits (bit_at v i) (bit_at u i) (bit_at-lt v i) (bit_at-lt u i) (e i k ∙ (same_vertices_decides a b).0 s (place * 64 + i) y ∙ sym (f i k)))))
  | inr s ↦ s
]

pub returns-then-word-clause-value : goal.returns-then-word-clause-value
returns-then-word-clause-value g c =
    sym (differ c.args.self.now c.args.other.now c.word.result c.word-in-loop-place.result c.loop-place.place c.loop-y.y c.word.type_inv c.word-in-loop-place.type_inv c.word.ensures c.word-in-loop-place.ensures c.if-word.true)

pub returns-then-word-clause-same : goal.returns-then-word-clause-same
returns-then-word-clause-same g c = (
  λ t. absurd (true≢false (sym t)),
  λ h. absurd (true≢false (sym ((same_vertices_decides c.args.self.now c.args.other.now).1 h) ∙ sym (returns-then-word-clause-value g c))),
)

pub loop-place-preserved : goal.loop-place-preserved
loop-place-preserved g c =
    let a = c.args.self.now in
    let b = c.args.other.now in
    let y = c.loop-y.y in
    let place = c.loop-place.place in
    record {
      rows = c.loop-place.invariant.rows;
      words = λ x h. elim (cases_lt x (place * 64)) as (λ _. has a x y ≡ has b x y) [
        | inl p ↦ c.loop-place.invariant.words x p
        | inr p ↦
            let i : ℕ = x - place * 64 in
            let small : x - place * 64 < 64 = omega arith in
            let e : place * 64 + (x - place * 64) ≡ x = omega arith in
            sym (ap (λ k. has a k y) e) ∙ sym (c.word.ensures (x - place * 64) small) ∙ ap (λ v. nat_eq (bit_at v (x - place * 64)) 1) c.if-word.false
            ∙ c.word-in-loop-place.ensures (x - place * 64) small ∙ ap (λ k. has b k y) e
      ];
    }

pub loop-y-preserved : goal.loop-y-preserved
loop-y-preserved g c = λ x k p q. elim (cases_eq k c.loop-y.y) as (λ _. has c.args.self.now x k ≡ has c.args.other.now x k) [
  | inl e ↦ ap (λ n. has c.args.self.now x n) e ∙ c.loop-place.invariant.words x (omega (arith, c.loop-place-test.false)) ∙ sym (ap (λ n. has c.args.other.now x n) e)
  | inr n ↦ c.loop-place.invariant.rows x k p (omega arith)
]

pub returns-clause-value : goal.returns-clause-value
returns-clause-value g c =
    let a = c.args.self.now in
    let b = c.args.other.now in
    let wide_a = ap (λ t. t.width) c.self.view_is in
    let wide_b = ap (λ t. t.width) c.other.view_is in
    sym ((same_vertices_decides a b).1 (λ x y. elim (cases_lt y c.loop-y.y) as (λ _. has a x y ≡ has b x y) [
      | inl p ↦ elim (cases_lt x (c.max-per_row.result * 64)) as (λ _. has a x y ≡ has b x y) [
        | inl q ↦ c.loop-y.invariant x y q p
        | inr q ↦ has_beyond a x y (omega (arith, wide_a, c.max-per_row.ensures, c.row_words.ensures)) ∙ sym (has_beyond b x y (omega (arith, wide_b, c.max-per_row.ensures, c.row_words-2.ensures)))
      ]
      | inr p ↦ c.kept_rows.ensures x y (omega (arith, c.max-rows.ensures)) ∙ sym (c.kept_rows-2.ensures x y (omega (arith, c.max-rows.ensures)))
    ]))

pub returns-clause-same : goal.returns-clause-same
returns-clause-same g c = (
  λ _. (same_vertices_decides c.args.self.now c.args.other.now).0 (sym (returns-clause-value g c)),
  λ h. refl,
)
