use Rattle.std.proofs.Common.{ℕ, ◌≡◌, ◌+◌, refl, sym, ap, subst, ◌∙◌, arith, List, [], ◌∷◌, ◌++◌, length, inl, inr}
use Rattle.std.specs.Prelude.{map}
use Rattle.std.proofs.lemmas.List.{get_or_append_left, get_or_push, get_or_past, length_push, length-map, map-append}
use Rattle.std.proofs.lemmas.Bool.{cases_eq, cases_lt}
use Rattle.std.proofs.lemmas.Result.{IfOk-from_err}
use Rattle.pf_base.proofs.Outcomes.{refused_by}
use Rattle.pf_union_find.specs.UnionFind.{IsRoot}
use Rattle.pf_union_find.proofs.union_find.make_sets.Goals as goal

roots_more : (ps : List ℕ) (p : ℕ) → p ≡ length ps → ((x : ℕ) → IsRoot ps x) → (x : ℕ) → IsRoot (ps ++ p ∷ []) x
roots_more ps p is known x = elim (cases_eq x (length ps)) [
  | inl e ↦ get_or_push ps p x x (sym e) ∙ is ∙ sym e
  | inr n ↦ elim (cases_lt x (length ps)) [
    | inl l ↦ get_or_append_left ps (p ∷ []) x x l ∙ known x
    | inr m ↦ get_or_past (ps ++ p ∷ []) x x (omega (arith, length_push ps p, m, n))
  ]
]

module _ {V : Type 0} (stands : V → ℕ) where
  alone_none : (xs : List V) → xs ≡ [] → (x : ℕ) → IsRoot (map stands xs) x
  alone_none xs e x = subst (λ ys. IsRoot (map stands ys) x) (sym e) refl

  alone_more : (before after : List V) (v : V) → after ≡ before ++ v ∷ [] → stands v ≡ length before → ((x : ℕ) → IsRoot (map stands before) x) → (x : ℕ) → IsRoot (map stands after) x
  alone_more before after v now is known x =
      let more = roots_more (map stands before) (stands v) (is ∙ sym (length-map before stands)) known x in
      subst (λ ps. IsRoot ps x) (sym (ap (map stands) now ∙ map-append stands before (v ∷ []))) more

grown : {V : Type 0} (before after : List V) (v : V) (k : ℕ) → after ≡ before ++ v ∷ [] → length before ≡ k → length after ≡ k + 1
grown before after v k now is = ap length now ∙ length_push before v ∙ ap (λ (n : ℕ). n + 1) is

pub returns-in_err-parents-clause-sound : goal.returns-in_err-parents-clause-sound
returns-in_err-parents-clause-sound g c = IfOk-from_err _ _ c.from_residual.ensures.0

pub returns-in_err-parents-clause-len : goal.returns-in_err-parents-clause-len
returns-in_err-parents-clause-len g c = IfOk-from_err _ _ c.from_residual.ensures.0

pub returns-in_err-parents-clause-labels : goal.returns-in_err-parents-clause-labels
returns-in_err-parents-clause-labels g c = IfOk-from_err _ _ c.from_residual.ensures.0

pub returns-in_err-parents-clause-refused : goal.returns-in_err-parents-clause-refused
returns-in_err-parents-clause-refused g c = refused_by _ c.from_residual.result c.from_residual.ensures.1

pub loop-vertex-init : goal.loop-vertex-init
loop-vertex-init g c =
    let none = c.in_ok-parents.ensures.items in
    record { len = ap length none; alone = alone_none g.V.VertexNumber.stands_for c.in_ok-parents.parents.items none }

pub of-requires : goal.of-requires
of-requires g c = omega (arith, c.loop-vertex-test.true, c.requires.fit)

pub returns-in_err-push-clause-sound : goal.returns-in_err-push-clause-sound
returns-in_err-push-clause-sound g c = IfOk-from_err _ _ c.from_residual-in_err-push.ensures.0

pub returns-in_err-push-clause-len : goal.returns-in_err-push-clause-len
returns-in_err-push-clause-len g c = IfOk-from_err _ _ c.from_residual-in_err-push.ensures.0

pub returns-in_err-push-clause-labels : goal.returns-in_err-push-clause-labels
returns-in_err-push-clause-labels g c = IfOk-from_err _ _ c.from_residual-in_err-push.ensures.0

pub returns-in_err-push-clause-refused : goal.returns-in_err-push-clause-refused
returns-in_err-push-clause-refused g c = refused_by _ c.from_residual-in_err-push.result c.from_residual-in_err-push.ensures.1

pub loop-vertex-smaller : goal.loop-vertex-smaller
loop-vertex-smaller g c = omega (arith, c.loop-vertex-test.true)

pub loop-vertex-preserved : goal.loop-vertex-preserved
loop-vertex-preserved g c =
    let before = c.loop-vertex.parents.items in
    let known = c.loop-vertex.invariant in
    let now = c.in_ok-push.ensures.items in
    record {
      len = grown before c.push.new.self.items c.of.result c.loop-vertex.vertex now known.len;
      alone = alone_more g.V.VertexNumber.stands_for before c.push.new.self.items c.of.result now (c.of.ensures ∙ sym known.len) known.alone;
    }

pub returns-clause-sound : goal.returns-clause-sound
returns-clause-sound g c = record { falls = λ x. omega (arith, c.loop-vertex.invariant.alone x) }

pub returns-clause-len : goal.returns-clause-len
returns-clause-len g c = omega (arith, c.loop-vertex.invariant.len, c.loop-vertex-test.false, c.loop-vertex.auto.vertex-end)

pub returns-clause-labels : goal.returns-clause-labels
returns-clause-labels g c = record { along = c.loop-vertex.invariant.alone; at_root = λ x r. refl }
