use Rattle.std.proofs.Common.{◌≡◌, ◌∙◌, ◌++◌, ◌∷◌, List, ap, subst, sym, arith, inl, inr}
use Rattle.std.specs.Prelude.{Contains, IsPermutation, ◌⊎◌}
use Rattle.std.specs.Ordering.{is_some_and, is_lt}
use Rattle.std.proofs.lemmas.Int.{ints}
use Rattle.std.proofs.lemmas.List.Sorted.{Contains-permutation, IsPermutation-refl, IsPermutation-sym, IsPermutation-trans, IsPermutation-append_right, length_permutation}
use Rattle.pf_base.proofs.ListLemmas.{Contains-append_one, Contains-head, Contains-tail, lt_means}
use Rattle.pf_informed.specs.Internal.Waiting.{Entry}
use Rattle.pf_informed.proofs.BucketLemmas.{moved_over, taken_first}
use Rattle.pf_informed.proofs.queue.gather.Goals as goal

pub entries-init : goal.entries-init
entries-init g c = record {
  moved = IsPermutation-refl (c.args.bucket.now.items ++ c.args.later.now.items);
  alike = λ e h. inl h;
  above = c.requires.above;
}

pub returns-in_default-clause-moved : goal.returns-in_default-clause-moved
returns-in_default-clause-moved g c = IsPermutation-trans _ _ _ c.entries.invariant.moved (IsPermutation-append_right c.entries.bucket.items c.entries.later.items c.least.new.self.items c.in_default.ensures.same)

pub returns-in_default-clause-alike : goal.returns-in_default-clause-alike
returns-in_default-clause-alike g c = c.entries.invariant.alike

pub returns-in_default-clause-above : goal.returns-in_default-clause-above
returns-in_default-clause-above g c = λ e h. c.entries.invariant.above e (Contains-permutation c.least.new.self.items c.entries.later.items e (IsPermutation-sym _ _ c.in_default.ensures.same) h)

pub returns-then-lt-clause-moved : goal.returns-then-lt-clause-moved
returns-then-lt-clause-moved g c = IsPermutation-trans _ _ _ c.entries.invariant.moved (IsPermutation-append_right c.entries.bucket.items c.entries.later.items c.least.new.self.items c.in-Some.ensures.same)

pub returns-then-lt-clause-alike : goal.returns-then-lt-clause-alike
returns-then-lt-clause-alike g c = c.entries.invariant.alike

pub returns-then-lt-clause-above : goal.returns-then-lt-clause-above
returns-then-lt-clause-above g c = λ e h. c.entries.invariant.above e (Contains-permutation c.least.new.self.items c.entries.later.items e (IsPermutation-sym _ _ c.in-Some.ensures.same) h)

pub take_first-requires : goal.take_first-requires
take_first-requires g c = (c.in-Some.entry, c.in-Some.ensures.front)

pub push_reserved-requires : goal.push_reserved-requires
push_reserved-requires g c = omega (arith, c.entries-test.true, c.len.ensures, c.capacity.ensures)

pub entries-smaller : goal.entries-smaller
entries-smaller g c =
    let e = c.in-Some.ensures in
    let p = taken_first c.entries.later.items c.least.new.self.items c.take_first.new.self.items c.least.new.self.front c.in-Some.entry e.same c.take_first.ensures.taken e.front in
    let len = length_permutation c.entries.later.items (c.in-Some.entry ∷ c.take_first.new.self.items) p in
    omega (arith, len)

pub entries-preserved : goal.entries-preserved
entries-preserved g c =
    let value = g.C.Number.value in
    let e = c.in-Some.ensures in
    let i = c.entries.invariant in
    let entry = c.in-Some.entry in
    let later = c.entries.later.items in
    let rest = c.take_first.new.self.items in
    let bucket = c.push_reserved.new.self.items in
    let pushed = c.push_reserved.ensures.items in
    let p = taken_first later c.least.new.self.items rest c.least.new.self.front entry e.same c.take_first.ensures.taken e.front in
    let before = λ (f : Entry g.row.C.Denot) (h : Contains (entry ∷ rest) f). Contains-permutation (entry ∷ rest) later f (IsPermutation-sym _ _ p) h in
    let low = rw c.if-lt.false at (lt_means (value c.args.sum) (value entry.0) c.lt.result (c.lt.ensures ∙ ap (is_some_and is_lt) (g.met.C.Number.order_law c.args.sum entry.0 g.met.C.Integral.exact_law))) in
    let same : value entry.0 ≡ value c.args.sum = omega (arith, ints, low, i.above entry (before entry (Contains-head rest entry))) in
    record {
      moved = IsPermutation-trans _ _ _ i.moved (subst (λ (es : List (Entry g.row.C.Denot)). IsPermutation (c.entries.bucket.items ++ later) (es ++ rest)) (sym pushed) (moved_over c.entries.bucket.items later rest entry p));
      alike = λ f h. elim (Contains-append_one c.entries.bucket.items entry f (subst (λ (es : List (Entry g.row.C.Denot)). Contains es f) pushed h)) as (λ _. Contains c.args.bucket.now.items f ⊎ (value f.0 ≡ value c.args.sum)) [
        | inl h ↦ i.alike f h
        | inr s ↦ inr (ap (λ (x : Entry g.row.C.Denot). value x.0) (sym s) ∙ same)
      ];
      above = λ f h. i.above f (before f (Contains-tail rest entry f h));
    }

pub returns-clause-moved : goal.returns-clause-moved
returns-clause-moved g c = c.entries.invariant.moved

pub returns-clause-alike : goal.returns-clause-alike
returns-clause-alike g c = c.entries.invariant.alike

pub returns-clause-above : goal.returns-clause-above
returns-clause-above g c = c.entries.invariant.above
