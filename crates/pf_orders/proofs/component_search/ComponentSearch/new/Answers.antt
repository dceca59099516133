use Rattle.std.proofs.Common.{◌≡◌, ◌+◌, ◌<◌, ℕ, [], ◌∷◌, ◌++◌, length, replicate, sym, subst, arith, inl, inr}
use Rattle.pf_base.proofs.ListLemmas.{nat_dec, get-append}
use Rattle.pf_orders.specs.declared.component_search.Place.TheVariants.{New}
use Rattle.pf_orders.specs.Internal.ComponentSearch.{IsAt}
use Rattle.pf_orders.proofs.ComponentLists.{at_more, at_end, resized_none}
use Rattle.pf_orders.proofs.ComponentPlaces.{placed_new}
use Rattle.pf_orders.proofs.component_search.ComponentSearch.new.Goals as goal

pub numbers-preserved : goal.numbers-preserved
numbers-preserved g c =
    let v = c.numbers.invariant in
    let e = c.in_ok-push.ensures.items in
    rw e (record {
      below = λ i k a. elim (at_more c.numbers.waiting.items c.numbers.number i k a) as (λ _. k < c.numbers.number + 1) [
        | inl b ↦ let l = v.below i k b in omega (arith, l)
        | inr b ↦ omega (arith, b.1)
      ];
      all = λ k l. elim (nat_dec k c.numbers.number) as (λ _. (i : ℕ) × IsAt (c.numbers.waiting.items ++ c.numbers.number ∷ []) i k) [
        | inl f ↦ (length c.numbers.waiting.items, subst (λ (n : ℕ). IsAt (c.numbers.waiting.items ++ c.numbers.number ∷ []) (length c.numbers.waiting.items) n) (sym f) (at_end c.numbers.waiting.items c.numbers.number))
        | inr d ↦ let q = v.all k (omega (arith, l, d)) in (q.0, get-append c.numbers.waiting.items (c.numbers.number ∷ []) q.0 k q.1)
      ];
    })

pub returns-clause-placed : goal.returns-clause-placed
returns-clause-placed g c =
    let v = c.numbers.invariant in
    let end : c.numbers.number ≡ c.args.found = omega arith in
    let places : c.resize.new.self.items ≡ replicate c.args.found New = resized_none c.args.found _ c.new-places.result.items _ New c.in_ok-resize.ensures.items c.new-places.ensures.items c.new-places.ensures.len in
    rw (c.new.ensures.items, c.new-2.ensures.items, c.new-3.ensures.items, places)
    (placed_new c.args.found c.numbers.waiting.items (λ i k a. let l = v.below i k a in omega (arith, l, end)) (λ k l. v.all k (omega (arith, l, end))))
