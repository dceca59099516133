-- Loops with fewest edges over numbers and over the names that they stand for.
use Rattle.std.proofs.Common.{◌-◌, ℕ, zero, suc, nat_eq, arith, sym, subst, Bool, List, [], ◌∷◌, length, take, drop}
use Rattle.std.specs.Cmp.{IsEquivalence}
use Rattle.std.specs.List.{AllZip}
use Rattle.std.proofs.lemmas.Slice.Zip.{AllZip-long}
use Rattle.pf_base.specs.Loops.{HasNoLoop, IsBestLoop}
use Rattle.pf_base.specs.Walks.{NoRepeats}
use Rattle.pf_edge_lists.proofs.NameWalks.{Stands, repeats_out}
use Rattle.pf_name_numbers.proofs.NameLoops.{loop_back, loop_named, loop_out}
use Rattle.pf_name_numbers.proofs.NameReach.{SameStarts, Zip}

zip_take : {A B : Type 0} (R : A → B → Type 0) (n : ℕ) (xs : List A) (ys : List B) → AllZip R xs ys → AllZip R (take n xs) (take n ys)
zip_take R zero xs ys z = tt
zip_take R (suc n) [] [] z = tt
zip_take R (suc n) [] (y ∷ ys) z = absurd z
zip_take R (suc n) (x ∷ xs) [] z = absurd z
zip_take R (suc n) (x ∷ xs) (y ∷ ys) z = (z.0, zip_take R n xs ys z.1)

zip_drop : {A B : Type 0} (R : A → B → Type 0) (xs : List A) (ys : List B) → AllZip R xs ys → AllZip R (drop 1 xs) (drop 1 ys)
zip_drop R [] [] z = tt
zip_drop R [] (y ∷ ys) z = absurd z
zip_drop R (x ∷ xs) [] z = absurd z
zip_drop R (x ∷ xs) (y ∷ ys) z = z.1

module _ {N : Type 0} {eq : N → N → Bool} (laws : IsEquivalence eq) (names : List N) (distinct : NoRepeats eq names) (nextM : ℕ → List ℕ) (nextN : N → List N) (alike : (a : ℕ) (x : N) → Stands laws names a x → AllZip (Stands laws names) (nextM a) (nextN x))
    (startsM : List ℕ) (startsN : List N) (begin : SameStarts laws names distinct startsM startsN) where
  pub no_loop_out : HasNoLoop nat_eq nextM startsM → HasNoLoop eq nextN startsN
  no_loop_out none v l = let w = loop_back laws names distinct nextM nextN alike startsM startsN begin v l in none w.0 w.2

  pub best_named : (w : List ℕ) → IsBestLoop nat_eq nextM startsM w → (v : List N) × Zip laws names distinct w v
  best_named w b = loop_named laws names distinct nextM nextN alike startsM startsN begin w b.goes

  pub best_out : (w : List ℕ) (v : List N) → Zip laws names distinct w v → IsBestLoop nat_eq nextM startsM w → IsBestLoop eq nextN startsN v
  best_out w v z b =
      let long = AllZip-long (Stands laws names) w v z in
      record {
        goes = loop_out laws names distinct nextM nextN alike startsM startsN begin w v z b.goes;
        distinct_before = subst (λ (n : ℕ). NoRepeats eq (take (n - 1) v)) (sym long) (repeats_out laws names distinct (take (length w - 1) w) (take (length w - 1) v) (zip_take (Stands laws names) (length w - 1) w v z) b.distinct_before);
        distinct_behind = repeats_out laws names distinct (drop 1 w) (drop 1 v) (zip_drop (Stands laws names) w v z) b.distinct_behind;
        fewest = λ u l.
            let r = loop_back laws names distinct nextM nextN alike startsM startsN begin u l in
            omega (arith, b.fewest r.0 r.2, long, AllZip-long (Stands laws names) r.0 u r.1);
      }
