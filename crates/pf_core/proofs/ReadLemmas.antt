-- What a call reads, and what it leaves as it was.
use Rattle.std.proofs.Common.{ℕ, ◌≡◌, ◌<◌, ◌≤◌, ◌+◌, ◌-◌, ◌^◌, ◌∙◌, refl, sym, ap, subst, arith, Bool, true, false, ℤ, inl, List, [], ◌∷◌, length, take, take_all, get_or, Option, Some, None}
use Rattle.std.specs.Prelude.{◌↔◌, slice_get, slice_set, Contains}
use Rattle.std.specs.Cmp.{IsEquivalence}
use Rattle.indexmap.specs.IndexSet.{insert_key}
use Rattle.pf_base.specs.NodeRefs.{HasSameNodes}
use Rattle.std.proofs.lemmas.List.{length-take-le}
use Rattle.pf_core.specs.declared.labels.Label.{Label}
use Rattle.std.proofs.lemmas.List.Sums.{count_by-le-length}
use Rattle.pf_core.specs.Labels.{Labels, HasLabel, by_cost, is_settled, settled_count, Relaxed, Widened}
use Rattle.pf_queue.specs.Entries.{Entries}
use Rattle.pf_core.specs.Search.{IsSound, IsLeast, IsSearch, Turned}
use Rattle.pf_core.specs.Numbered.{Grows}
use Rattle.pf_core.specs.Nodes.{StandsFor}
use Rattle.pf_base.proofs.ListLemmas.{at_place}
use Rattle.pf_core.proofs.LabelLemmas.{HasLabel-inside, none_widened, Lowered-set}
use Rattle.pf_core.proofs.NodeLemmas.{Grows-from_take, HasSameNodes-insert}

module _ {A : Type 0} where
  pub same_longer : (xs ys : List A) → ys ≡ xs → length xs ≤ length ys
  same_longer xs ys e = omega (arith, ap length e)

  pub same_kept : (xs ys : List A) → ys ≡ xs → take (length xs) ys ≡ xs
  same_kept xs ys e = ap (take (length xs)) e ∙ take_all (length xs) xs (omega arith)

  pub cut_long : (n : ℕ) (xs ys : List A) → n ≤ length xs → ys ≡ take n xs → length ys ≡ n
  cut_long n xs ys h e = ap length e ∙ length-take-le n xs h

pub least_zero : (n : ℕ) → 0 ≤ n
least_zero n = omega arith

pub lt_most : (a b : ℕ) → a < b → a ≤ b
lt_most a b h = omega (arith, h)

pub same_most : (a b : ℕ) → a ≡ b → a ≤ b
same_most a b e = omega (arith, e)

pub within_found : (a b c d : ℕ) → a < b → b ≤ c → d ≡ c → a < d
within_found a b c d h l e = omega (arith, h, l, e)

pub wide_now : (a b c d : ℕ) → a ≡ b → b ≤ c → d ≡ c → a ≤ d
wide_now a b c d h l e = omega (arith, h, l, e)

-- a loop that counts up comes nearer to its end
pub nearer : (i n : ℕ) → i < n → n - (i + 1) < n - i
nearer i n h = omega (arith, h)

pub none_contained : {A : Type 0} (x : A) → Contains [] x → ⊥
none_contained x h = omega (arith, h.1)

-- a list with the same elements as one that is another
pub same_row : {A : Type 0} (xs ys zs : List A) → ys ≡ zs → ((x : A) → Contains xs x ↔ Contains ys x) → (x : A) → Contains xs x ↔ Contains zs x
same_row xs ys zs e h x = subst (λ (ws : List _). Contains xs x ↔ Contains ws x) e (h x)

-- the first nodes alone are kept
pub Grows-cut : {N : Type 0} (eq : N → N → Bool) (n : ℕ) (keys keys' : List N) → n ≤ length keys → keys' ≡ take n keys → Grows (length keys') (length keys) (StandsFor eq keys') (StandsFor eq keys)
Grows-cut eq n keys keys' h e =
    let long = cut_long n keys keys' h e in
    Grows-from_take eq keys' keys (omega (arith, long, h)) (ap (λ (m : ℕ). take m keys) long ∙ sym e)

-- the set of one node
module _ {N : Type 0} (eq : N → N → Bool) (laws : IsEquivalence eq) (keys keys' : List N) (s x : N) (same : eq s x ≡ true) (empty : keys ≡ []) (put : keys' ≡ insert_key eq keys x) where
  only_key : keys' ≡ x ∷ []
  only_key = put ∙ ap (λ (ks : List N). insert_key eq ks x) empty

  pub one_key : length keys' ≡ 1
  one_key = ap length only_key

  pub stands_first : (y : N) → StandsFor eq keys' 0 y ↔ (eq s y ≡ true)
  stands_first y = subst (λ (ks : List N). StandsFor eq ks 0 y ↔ (eq s y ≡ true)) (sym only_key) (λ h. laws.congr s x y same ∙ is_head h.0 h.1 ∙ h.2, λ h. (x, refl, sym (laws.congr s x y same) ∙ h))
    where
      is_head : (m : N) → Some x ≡ Some m → eq x y ≡ eq m y
      is_head m e = let q : x ≡ m = cc in ap (λ (z : N). eq z y) q

  pub same_one : HasSameNodes eq keys' (s ∷ [])
  same_one = HasSameNodes-insert eq laws [] keys keys' s x (subst (λ (ks : List N). HasSameNodes eq ks []) (sym empty) (λ y. (λ h. h, λ h. h))) same put

-- the same labels, and what waits as it was
pub IsSound-still : {C : Type 0} (value : C → ℤ) (labels labels' : Labels C) (entries entries' : Entries C) → labels' ≡ labels → entries' ≡ entries → IsSound value labels entries → IsSound value labels' entries'
IsSound-still value labels labels' entries entries' l e s = subst (λ (ls : Labels _). IsSound value ls entries') (sym l) (subst (IsSound value labels) (sym e) s)

-- no step was taken yet
pub Relaxed-none : {C : Type 0} (measure : C → ℕ → ℤ) (worth : C → ℤ) (parent : ℕ) (l : Label C) (labels : Labels C) → Relaxed measure worth parent l [] labels labels
Relaxed-none measure worth parent l labels = record { len = refl; others = λ k m h. inl h; from = λ k m h. inl h; count = refl }

-- no label is settled where the first one was put in
pub none_settled : {C : Type 0} (value : C → ℤ) (found start : ℕ) (labels wider : Labels C) (first : Label C) → labels ≡ [] → Widened found labels wider → first.settled ≡ false → start < length wider → settled_count (slice_set wider start (Some first)) ≡ 0
none_settled value found start labels wider first empty w opened inside =
    (Lowered-set (by_cost value) wider start first opened inside (λ l h. absurd (none_widened found labels wider empty w start l h))).count ∙ w.count ∙ ap settled_count empty

module _ {C : Type 0} (labels : Labels C) (k : ℕ) where
  -- no number past the end has a label
  pub none_past : length labels ≤ k → (l : Label C) → ¬ (HasLabel labels k l)
  none_past h l at = omega (arith, h, HasLabel-inside labels k l at)

  -- a number at whose place none was read has no label
  pub none_read : (o r : Option (Label C)) → o ≡ get_or labels k o → r ≡ o → r ≡ None → (l : Label C) → ¬ (HasLabel labels k l)
  none_read o r is e none l at =
      let read : slice_get labels k ≡ Some o = at_place labels k o o (HasLabel-inside labels k l at) (sym is) in
      let both : Some (Some l) ≡ Some o = sym at ∙ read in
      cc

-- the same labels, told again
module _ {C : Type 0} (labels now : Labels C) (same : now ≡ labels) where
  pub still_at : (k : ℕ) (l : Label C) → HasLabel labels k l → HasLabel now k l
  still_at k l h = subst (λ (a : Labels C). HasLabel a k l) (sym same) h

  pub was_at : (k : ℕ) (l : Label C) → HasLabel now k l → HasLabel labels k l
  was_at k l h = subst (λ (a : Labels C). HasLabel a k l) same h

  pub still_least : (value : C → ℤ) (k : ℕ) → (l : Label C) × IsLeast (by_cost value) labels k l → (l : Label C) × IsLeast (by_cost value) now k l
  still_least value k z = subst (λ (a : Labels C). (l : Label C) × IsLeast (by_cost value) a k l) (sym same) z

  pub still_labelled : (value : C → ℤ) (k : ℕ) → (l : Label C) × IsLeast (by_cost value) labels k l → (l : Label C) × HasLabel now k l
  still_labelled value k z = (z.0, still_at k z.0 z.1.at)

  pub still_search : {X : Type 0} (measure : C → ℕ → ℤ) (step : X → ℤ → X → Type 0) (root : ℕ → Bool) (stands : ℕ → X → Type 0) → IsSearch measure step root stands labels → IsSearch measure step root stands now
  still_search measure step root stands s = subst (IsSearch measure step root stands) (sym same) s

  -- what a turn settled, where it began with these labels
  pub turned_from : (k : ℕ) (l : Label C) (after : Labels C) → HasLabel labels k l → ((m : Label C) → HasLabel now k m → Turned k m now after) → Turned k l labels after
  turned_from k l after h t = subst (λ (a : Labels C). Turned k l a after) same (t l (still_at k l h))

-- a turn leaves fewer numbers to settle
pub turn_smaller : {C : Type 0} (labels after : Labels C) (k : ℕ) (l : Label C) → Turned k l labels after → (n cap : ℕ) → (n ≡ length labels) × (n ≤ cap) → cap < 2 ^ 63 → 2 ^ 64 - settled_count after < 2 ^ 64 - settled_count labels
turn_smaller labels after k l t n cap ok small = omega (arith, t.count, count_by-le-length is_settled labels, ok, small)
