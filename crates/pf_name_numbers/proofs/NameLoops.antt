-- Loops and cycles over numbers and over the names that they stand for.
use Rattle.std.proofs.Common.{ℕ, nat_eq, arith, Bool, List, [], ◌∷◌}
use Rattle.std.specs.Cmp.{IsEquivalence}
use Rattle.std.specs.List.{AllZip}
use Rattle.std.proofs.lemmas.Slice.Zip.{AllZip-long}
use Rattle.pf_base.specs.Walks.{NoRepeats, end_of}
use Rattle.pf_base.specs.Successors.{HasSuccessor}
use Rattle.pf_base.specs.Loops.{IsLoop}
use Rattle.pf_edge_lists.proofs.NameWalks.{IsCarried, Stands, carried_next, end_stands, follows_back, follows_named, follows_out}
use Rattle.pf_name_numbers.proofs.NameReach.{SameStarts, Zip}

module _ {N : Type 0} {eq : N → N → Bool} (laws : IsEquivalence eq) (names : List N) (distinct : NoRepeats eq names) (nextM : ℕ → List ℕ) (nextN : N → List N) (alike : (a : ℕ) (x : N) → Stands laws names a x → AllZip (Stands laws names) (nextM a) (nextN x)) where
  carried : IsCarried laws names (HasSuccessor nat_eq nextM) (HasSuccessor eq nextN)
  carried = carried_next laws names distinct nextM nextN alike

  module _ (startsM : List ℕ) (startsN : List N) (begin : SameStarts laws names distinct startsM startsN) where
    pub loop_named : (w : List ℕ) → IsLoop nat_eq nextM startsM w → (v : List N) × Zip laws names distinct w v
    loop_named [] l = absurd l.walks
    loop_named (a ∷ w) l =
        let x = begin.named a l.begins in
        let r = follows_named laws names distinct _ _ carried a x.0 w x.1 l.walks in
        (x.0 ∷ r.0, (x.1, r.1))

    pub loop_out : (w : List ℕ) (v : List N) → Zip laws names distinct w v → IsLoop nat_eq nextM startsM w → IsLoop eq nextN startsN v
    loop_out [] v z l = absurd l.walks
    loop_out (a ∷ w) [] z l = absurd z
    loop_out (a ∷ w) (x ∷ v) z l = record {
      walks = follows_out laws names distinct _ _ carried a x w v z.0 z.1 l.walks;
      long = omega (arith, l.long, AllZip-long (Stands laws names) w v z.1);
      begins = begin.out a x z.0 l.begins;
      ends = begin.out (end_of a w) (end_of x v) (end_stands laws names a x w v z.0 z.1) l.ends;
    }

    pub loop_back : (v : List N) → IsLoop eq nextN startsN v → (w : List ℕ) × Zip laws names distinct w v × IsLoop nat_eq nextM startsM w
    loop_back [] l = absurd l.walks
    loop_back (x ∷ v) l =
        let a = begin.back x l.begins in
        let r = follows_back laws names distinct _ _ carried a.0 x v a.1 l.walks in (
          a.0 ∷ r.0,
          (a.1, r.1),
          record {
            walks = r.2;
            long = omega (arith, l.long, AllZip-long (Stands laws names) r.0 v r.1);
            begins = a.2;
            ends = begin.inside (end_of a.0 r.0) (end_of x v) (end_stands laws names a.0 x r.0 v a.1 r.1) l.ends;
          },
        )
