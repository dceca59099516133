-- What is known of labels and nodes that a call leaves as they were.
use Rattle.std.proofs.Common.{◌≡◌, ℕ, ◌+◌, ◌<◌, ◌≤◌, Bool, false, cond, List, length, get_or, slice_get, Some, sym, ap, subst, arith}
use Rattle.pf_core.specs.declared.labels.Label.{Label}
use Rattle.pf_core.specs.Labels.{Labels, HasLabel}
use Rattle.pf_base.proofs.ListLemmas.{at_place}
use Rattle.pf_core.proofs.LabelLemmas.{HasLabel-inside}

-- what was read at a place of a list that is another
pub read_at : {A : Type 0} (xs ys : List A) (k : ℕ) (d x : A) → ys ≡ xs → k < length xs → x ≡ get_or ys k d → slice_get xs k ≡ Some x
read_at xs ys k d x e h is = at_place xs k d x h (subst (λ (zs : List _). get_or zs k d ≡ x) e (sym is))

-- a number that has a label, where the nodes are read from another list
pub read_inside : {A C : Type 0} (xs ys : List A) (labels : Labels C) (k : ℕ) (l : Label C) → HasLabel labels k l → length labels ≡ length xs → ys ≡ xs → k < length ys
read_inside xs ys labels k l h wide e = omega (arith, HasLabel-inside labels k l h, wide, ap length e)

-- the number of a label is that of a node, which stays one
pub labelled_inside : {C : Type 0} (labels : Labels C) (k : ℕ) (l : Label C) (found found' : ℕ) → HasLabel labels k l → length labels ≡ found → found ≤ found' → k < found'
labelled_inside labels k l found found' h wide more = omega (arith, HasLabel-inside labels k l h, wide, more)

-- of two sides one comes nearer to its end
pub first_less : (a a' b b' x : ℕ) → a' < a → b' ≡ b → (a' + b') + x < (a + b) + x
first_less a a' b b' x l e = omega (arith, l, e)

pub second_less : (a a' b b' x : ℕ) → a' ≡ a → b' < b → (a' + b') + x < (a + b) + x
second_less a a' b b' x e l = omega (arith, l, e)

-- neither does, and one is over from now on
pub over_less : (a a' b b' : ℕ) (x : Bool) → a' ≡ a → b' ≡ b → x ≡ false → (a' + b') + 0 < (a + b) + cond x 0 1
over_less a a' b b' x e f is = subst (λ (y : Bool). (a' + b') + 0 < (a + b) + cond y 0 1) (sym is) (omega (arith, e, f))
