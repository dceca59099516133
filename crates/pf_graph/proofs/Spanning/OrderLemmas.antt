-- Lawful orders.
use Rattle.std.proofs.Common.{◌≡◌, ◌≢◌, refl, sym, ◌∙◌, ap, false, Ordering}
use Rattle.std.specs.declared.cmp.Ordering.TheVariants.{Less, Equal, Greater}
use Rattle.std.specs.Ordering.{is_gt, is_lt, ordering_reverse}
use Rattle.std.specs.Cmp.{IsTotalOrder}
use Rattle.std.proofs.lemmas.Cmp.{upto}

pub gt_false : (o : Ordering) → o ≢ Greater → is_gt o ≡ false
gt_false Less n = refl
gt_false Equal n = refl
gt_false Greater n = absurd (n refl)

pub not_gt : (o : Ordering) → is_gt o ≡ false → o ≢ Greater
not_gt Less e = λ g. cc
not_gt Equal e = λ g. cc
not_gt Greater e = λ g. cc

reverse_lt : (o : Ordering) → o ≢ Greater → is_lt (ordering_reverse o) ≡ false
reverse_lt Less n = refl
reverse_lt Equal n = refl
reverse_lt Greater n = absurd (n refl)

pub lt_reverse : (o : Ordering) → is_lt o ≡ false → ordering_reverse o ≢ Greater
lt_reverse Less e = λ g. cc
lt_reverse Equal e = λ g. cc
lt_reverse Greater e = λ g. cc

module _ {C : Type 0} {cmp : C → C → Ordering} (total : IsTotalOrder cmp) where
  pub le_trans : (x y z : C) → cmp x y ≢ Greater → cmp y z ≢ Greater → cmp x z ≢ Greater
  le_trans x y z a b = not_gt (cmp x z) (upto total x y z (gt_false _ a) (gt_false _ b))

  -- y is not below x where x is at most y, and the other way round
  pub not_below : (x y : C) → cmp x y ≢ Greater → is_lt (cmp y x) ≡ false
  not_below x y a = ap is_lt (total.antisymm y x) ∙ reverse_lt (cmp x y) a

  pub at_most : (x y : C) → is_lt (cmp y x) ≡ false → cmp x y ≢ Greater
  at_most x y e = λ g. lt_reverse (cmp y x) e (sym (total.antisymm x y) ∙ g)

  -- equal weights are within the same bounds
  pub le_equal : (x y w : C) → cmp x y ≡ Equal → cmp x w ≢ Greater → cmp y w ≢ Greater
  le_equal x y w e n = λ g. n (total.congr x y w e ∙ g)
