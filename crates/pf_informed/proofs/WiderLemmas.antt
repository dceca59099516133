-- Room for more labels.
use Rattle.std.proofs.Common.{ℕ, zero, suc, ◌+◌, ◌-◌, ◌*◌, ◌^◌, ◌<◌, ◌≤◌, ◌≡◌, refl, sym, ◌∙◌, ap, subst, arith, true≢false, List, [], ◌∷◌, ◌++◌, length, length-append, replicate, ℤ, Option, Some, None}
use Rattle.std.specs.Prelude.{slice_get, All, IsSome}
use Rattle.std.specs.List.{sum_by, AllByRecursion}
use Rattle.std.proofs.Math.Nat.{add-mul}
use Rattle.std.proofs.lemmas.List.{length-replicate}
use Rattle.std.proofs.lemmas.List.Sums.{sum_by-append}
use Rattle.std.proofs.lemmas.List.Folds.{sum_by-replicate}
use Rattle.std.proofs.lemmas.List.Elements.{recursion_from_All, All-from_recursion}
use Rattle.pf_core.specs.declared.labels.Label.{Label}
use Rattle.pf_core.specs.Labels.{Labels, HasLabel, Climbs, Widened}
use Rattle.pf_core.proofs.LabelLemmas.{Widened-more}
use Rattle.pf_informed.specs.Internal.Forest.{IsForest, room_below, total_room}
use Rattle.pf_informed.specs.Internal.Waiting.{Entry, IsQueue}
use Rattle.pf_informed.specs.Internal.Informed.{work_left}

module _ {C : Type 0} (value : C → ℤ) where
  module _ (labels wider : Labels C) (stays : (k : ℕ) (l : Label C) → HasLabel labels k l → HasLabel wider k l) where
    climbs_stay : (above : List ℕ) (k : ℕ) → Climbs labels k above → Climbs wider k above
    climbs_stay [] k c = (c.0, stays k c.0 c.1, c.2)
    climbs_stay (p ∷ ps) k c = (c.0, stays k c.0 c.1, c.2, c.3, climbs_stay ps p c.4)

    pub forest_wider : ((k : ℕ) (l : Label C) → HasLabel wider k l → HasLabel labels k l) → IsForest value labels → IsForest value wider
    forest_wider from f = record {
      first = let z = f.first in (z.0, stays 0 z.0 z.1, z.2);
      flat = λ k l h d. f.flat k l (from k l h) d;
      falls = λ k l h d. let m = f.falls k l (from k l h) d in (m.0, stays l.parent m.0 m.1, m.2);
      climbs = λ k l h. let up = f.climbs k l (from k l h) in (up.0, climbs_stay up.0 k up.1);
    }

    pub queue_wider : (estimates : List C) (entries : List (Entry C)) → IsQueue value labels estimates entries → IsQueue value wider estimates entries
    queue_wider estimates entries q = record { labelled = λ e h. let r = q.labelled e h in (r.0, stays e.1 r.0 r.1, r.2, r.3, r.4) }

  -- places without a label
  module _ (labels wider : Labels C) (n : ℕ) (few : length labels ≤ n) (is : wider ≡ labels ++ replicate (n - length labels) None) where
    pub length_wider : length wider ≡ n
    length_wider =
        let none : Option (Label C) = None in
        omega (arith, ap length is, length-append labels (replicate (n - length labels) none), length-replicate (n - length labels) none, few)

    pub widened : Widened n labels wider
    widened = Widened-more labels wider n (n - length labels) is length_wider

    pub work_wider : (top waiting : ℕ) → n ≤ 2 ^ 64 → work_left value top wider waiting ≡ work_left value top labels waiting
    work_wider top waiting most =
        let none : Option (Label C) = None in
        let more = n - length labels in
        let room = room_below value top in
        let total : total_room value top wider ≡ total_room value top labels + more * (top + 1) = ap (sum_by room) is ∙ sum_by-append room labels (replicate more none) ∙ ap (λ (m : ℕ). total_room value top labels + m) (sum_by-replicate room more none) in
        let apart : (2 ^ 64 - length labels) ≡ more + (2 ^ 64 - length wider) = omega (arith, length_wider, few, most) in
        let parts : (2 ^ 64 - length labels) * (top + 1) ≡ more * (top + 1) + (2 ^ 64 - length wider) * (top + 1) = ap (λ (m : ℕ). m * (top + 1)) apart ∙ add-mul more (2 ^ 64 - length wider) (top + 1) in
        adds (total_room value top wider) (total_room value top labels) (more * (top + 1)) ((2 ^ 64 - length labels) * (top + 1)) ((2 ^ 64 - length wider) * (top + 1)) waiting total parts
      where
        adds : (a b m p q w : ℕ) → a ≡ b + m → p ≡ m + q → 2 * (a + q) + w ≡ 2 * (b + p) + w
        adds a b m p q w e f = omega (arith, e, f)

-- ---- each number has a label, or some has none
module _ {C : Type 0} where
  labels_of : (labels : Labels C) → AllByRecursion (λ o. IsSome o) labels → (j : ℕ) → j < length labels → (l : Label C) × HasLabel labels j l
  labels_of [] a j h = absurd (omega (arith, h))
  labels_of (None ∷ labels) a zero h = absurd (true≢false (sym a.0))
  labels_of (Some l ∷ labels) a zero h = (l, refl)
  labels_of (o ∷ labels) a (suc j) h = labels_of labels a.1 j (omega (arith, h))

  pub all_labelled : (labels : Labels C) → All (λ o. IsSome o) labels → (j : ℕ) → j < length labels → (l : Label C) × HasLabel labels j l
  all_labelled labels a = labels_of labels (recursion_from_All (λ o. IsSome o) labels a)

  gap_in : (labels : Labels C) → ¬ (AllByRecursion (λ o. IsSome o) labels) → (j : ℕ) × (slice_get labels j ≡ Some None)
  gap_in [] n = absurd (n tt)
  gap_in (None ∷ labels) n = (0, refl)
  gap_in (Some l ∷ labels) n = let r = gap_in labels (λ a. n (refl, a)) in (suc r.0, r.1)

  pub some_unlabelled : (labels : Labels C) → ¬ (All (λ o. IsSome o) labels) → (j : ℕ) × (slice_get labels j ≡ Some None)
  some_unlabelled labels n = gap_in labels (λ a. n (All-from_recursion (λ o. IsSome o) labels a))

-- work that is left after room was made and steps were taken
pub less_work : {C : Type 0} (value : C → ℤ) (top : ℕ) (wider after : Labels C) (reserved now before : ℕ) (labels : Labels C) → length after ≡ length wider → 2 * total_room value top after + now ≤ 2 * total_room value top wider + reserved → reserved ≡ before
    → work_left value top wider before ≡ work_left value top labels before → work_left value top after now ≤ work_left value top labels before
less_work value top wider after reserved now before labels len less same e =
    subst (λ (m : ℕ). work_left value top after now ≤ m) e
    (adds (total_room value top after) (total_room value top wider) ((2 ^ 64 - length after) * (top + 1)) ((2 ^ 64 - length wider) * (top + 1)) now reserved before (ap (λ (n : ℕ). (2 ^ 64 - n) * (top + 1)) len) less same)
  where
    adds : (a b p q n r w : ℕ) → p ≡ q → 2 * a + n ≤ 2 * b + r → r ≡ w → 2 * (a + p) + n ≤ 2 * (b + q) + w
    adds a b p q n r w e l s = omega (arith, e, l, s)

pub no_label : {C : Type 0} (labels : Labels C) (j : ℕ) (l : Label C) → slice_get labels j ≡ Some None → ¬ (HasLabel labels j l)
no_label labels j l h k = let e : Some None ≡ Some (Some l) = sym h ∙ k in cc

-- work that is left after an entry was taken out and a number opened
pub less_left : (labels labels' taken waiting waiting' : ℕ) → labels' + waiting' ≤ labels + taken → taken + 1 ≤ waiting → labels' + waiting' < labels + waiting
less_left labels labels' taken waiting waiting' h k = omega arith

-- the same, where some entries stand in lists
pub less_left_too : (labels labels' taken waiting' listed n : ℕ) → labels' + waiting' ≤ labels + taken → taken + listed + 1 ≤ n → labels' + (waiting' + listed) < labels + n
less_left_too labels labels' taken waiting' listed n h k = omega arith
