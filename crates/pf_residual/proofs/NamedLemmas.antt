-- Edges between named vertices, put into a store in turn.
use Rattle.std.proofs.Common.{◌≡◌, ◌∙◌, ◌⊎◌, inl, inr, refl, sym, ap, subst, ◌<◌, ℕ, ℤ, zero, suc, pos, Bool, true, false, nat_eq, List, [], ◌∷◌, ◌++◌, length, fold}
use Rattle.std.specs.Prelude.{◌≤ℤ◌, ◌&&◌, if◌then◌else◌, Option, Some, Vec, slice_get, Result, Ok, Err, OnOk, IfOk, IfErr}
use Rattle.std.specs.Iterator.{Yields}
use Rattle.std.specs.List.{AllZip}
use Rattle.std.proofs.lemmas.Bool.{cases_eq}
use Rattle.std.proofs.lemmas.List.Sums.{fold-append}
use Rattle.pf_base.specs.declared.error.PathError.{PathError}
use Rattle.pf_base.specs.declared.error.PathError.TheVariants.{OutOfMemory}
use Rattle.pf_residual.specs.Capacities.{IsChangeRefused}
use Rattle.pf_residual.specs.Flows.{PairTable, replaced, pair_sum}
use Rattle.pf_base.specs.Sums.{sum_to}
use Rattle.pf_residual.specs.Listings.{ListsFlows, ListsLeastCut, IsFlowAnswer}
use Rattle.pf_residual.specs.Internal.HeldEdges.{RunBelow, IsNamedAnswer, HoldsEdges}
use Rattle.pf_residual.specs.Networks.{Network, capacity, ChangesCapacity, HasCapacities, HasCutOfTotal, IsFresh, IsNetwork, KeepsCapacities, KeepsShape}
use Rattle.pf_base.specs.Places.{number_of}
use Rattle.pf_residual.specs.NamedNetworks.{given_capacities, with_capacity_of, IsAnswer, IsKnown, IsNamed, IsAccepted, AreAccepted, IsFirstRefused}
use Rattle.pf_residual.specs.Internal.Filling.{IsUnused}
use Rattle.pf_residual.proofs.SumLemmas.{sum_ext}
use Rattle.pf_residual.proofs.FillLemmas.{replaced_cases}

pub replaced_ext : (p : Bool) (c x y : ℤ) → x ≡ y → (if p then c else x) ≡ (if p then c else y)
replaced_ext true c x y e = refl
replaced_ext false c x y e = e

pub pair_sum_ext : (s t : PairTable) (n : ℕ) → ((a b : ℕ) → a < n → b < n → s a b ≡ t a b) → pair_sum n s ≡ pair_sum n t
pair_sum_ext s t n h = sum_ext (λ a. sum_to (s a) n) (λ a. sum_to (t a) n) n (λ a l. sum_ext (s a) (t a) n (λ b m. h a b l m))

module _ {N C : Type 0} (eq : N → N → Bool) (value : C → ℤ) (names : List N) where
  pub given_sum : (M : Network) (t : PairTable) (u v : ℕ) (c : ℤ) → M.vertices ≡ length names → HasCapacities t M → pair_sum M.vertices (replaced (capacity M) u v c) ≡ pair_sum (length names) (replaced t u v c)
  given_sum M t u v c n h =
      pair_sum_ext (replaced (capacity M) u v c) (replaced t u v c) M.vertices (λ a b l m. replaced_ext (nat_eq a u && nat_eq b v) c (capacity M a b) (t a b) (h.at a b l m))
      ∙ ap (λ k. pair_sum k (replaced t u v c)) n

  -- edges that are accepted, and one more
  pub accepted_more : (fits : ℤ → Type 0) (t : PairTable) (edges : List ((N × N) × C)) (e : (N × N) × C) → AreAccepted eq value names fits t edges → IsAccepted eq value names fits (fold (with_capacity_of eq value names) t edges) e → AreAccepted eq value names fits t (edges ++ e ∷ [])
  accepted_more fits t [] e h k = (k, tt)
  accepted_more fits t (x ∷ xs) e h k = (h.0, accepted_more fits (with_capacity_of eq value names t x) xs e h.1 k)

  module _ (M : Network) (e : (N × N) × C) (u v : ℕ) (n : M.vertices ≡ length names)
      (from : u ≡ number_of eq names e.0.0) (to : v ≡ number_of eq names e.0.1) where
    -- the sum after the change
    pub put_sum_of : (t : PairTable) → HasCapacities t M → pair_sum M.vertices (replaced (capacity M) u v (value e.1)) ≡ pair_sum (length names) (with_capacity_of eq value names t e)
    put_sum_of t h = given_sum M t u v (value e.1) n h
        ∙ ap (λ k. pair_sum (length names) (replaced t k v (value e.1))) from
        ∙ ap (λ k. pair_sum (length names) (replaced t (number_of eq names e.0.0) k (value e.1))) to

    -- the capacities after the change
    pub put_given : {O : Network} (edges : List ((N × N) × C)) → ChangesCapacity u v (value e.1) M O → HasCapacities (given_capacities eq value names edges) M → HasCapacities (given_capacities eq value names (edges ++ e ∷ [])) O
    put_given {O} edges x h =
        let t = given_capacities eq value names edges in
        let same : replaced t u v (value e.1) ≡ given_capacities eq value names (edges ++ e ∷ []) =
        ap (λ k. replaced t k v (value e.1)) from
        ∙ ap (λ k. replaced t (number_of eq names e.0.0) k (value e.1)) to
        ∙ sym (fold-append (with_capacity_of eq value names) (λ a b. pos 0) edges (e ∷ [])) in
        subst (λ s. HasCapacities s O) same (record {
          at = λ a b l m. sym (x.capacities.at a b)
              ∙ replaced_ext (nat_eq a u && nat_eq b v) (value e.1) (capacity M a b) (t a b) (h.at a b (subst (λ k. a < k) x.shape.vertices l) (subst (λ k. b < k) x.shape.vertices m));
        })

    module _ (known : IsKnown eq names e.0.0) (known' : IsKnown eq names e.0.1) where
      pub from_in : u < M.vertices
      from_in = subst (λ k. u < k) (sym n) (subst (λ k. k < length names) (sym from) known)

      pub to_in : v < M.vertices
      to_in = subst (λ k. v < k) (sym n) (subst (λ k. k < length names) (sym to) known')

      -- an edge whose capacity was put is accepted
      pub put_accepted : (fits : ℤ → Type 0) {O : Network} (t : PairTable) → ChangesCapacity u v (value e.1) M O → IsUnused fits O → HasCapacities t M → IsAccepted eq value names fits t e
      put_accepted fits {O} t x w h =
          let same = x.shape.vertices in
          record {
            from = known;
            to = known';
            above = subst (λ (z : ℤ). pos 0 ≤ℤ z) (sym (x.capacities.at u v) ∙ here (replaced_cases (capacity M) u v (value e.1) u v)) (w.capacities.at u v (subst (λ k. u < k) (sym same) from_in) (subst (λ k. v < k) (sym same) to_in));
            sum = subst fits
                (pair_sum_ext (capacity O) (replaced (capacity M) u v (value e.1)) O.vertices (λ a b i j. sym (x.capacities.at a b)) ∙ ap (λ k. pair_sum k (replaced (capacity M) u v (value e.1))) same ∙ put_sum_of t h)
                w.sum;
          }
        where
          here : ((u ≡ u) × (v ≡ v) × (replaced (capacity M) u v (value e.1) u v ≡ value e.1)) ⊎ (((u ≡ u) → (v ≡ v) → ⊥) × (replaced (capacity M) u v (value e.1) u v ≡ capacity M u v)) → replaced (capacity M) u v (value e.1) u v ≡ value e.1
          here (inl p) = p.2
          here (inr p) = absurd (p.0 refl refl)

      -- a network that holds edges holds one more after the change
      pub put_held : (fits : ℤ → Type 0) {O : Network} (edges : List ((N × N) × C)) → ChangesCapacity u v (value e.1) M O → IsUnused fits O → HoldsEdges eq value names fits edges M → HoldsEdges eq value names fits (edges ++ e ∷ []) O
      put_held fits edges x w h = record {
        accepted = accepted_more fits (λ a b. pos 0) edges e h.accepted (put_accepted fits (given_capacities eq value names edges) x w h.capacities);
        capacities = put_given edges x h.capacities;
      }

      -- why an edge whose capacity was refused is refused
      pub put_refused : (fits : ℤ → Type 0) (r : PathError) → IsChangeRefused fits M u v (value e.1) r
          → (r ≡ OutOfMemory) ⊎ ((edges : List ((N × N) × C)) → HoldsEdges eq value names fits edges M → IsFirstRefused eq value names fits edges e r)
      put_refused fits r (inl h) = inl h
      put_refused fits r (inr (inl h)) = inr (λ edges k. record { accepted = k.accepted; why = inr (inl (h.0, known, known', h.1)) })
      put_refused fits r (inr (inr h)) = inr (λ edges k. record { accepted = k.accepted; why = inr (inr (h.0, known, known', h.1, λ f. h.2 (subst fits (sym (put_sum_of (given_capacities eq value names edges) k.capacities)) f))) })

-- what holds of a success, from two facts on it
pub both_ok : {A E P Q T : Type 0} (r : Result A E) → OnOk r P → OnOk r Q → (P → Q → T) → OnOk r T
both_ok (Ok a) p q f = f p q
both_ok (Err e) p q f = q

-- what holds of a refusal, from a fact on it
pub err_gives : {A E : Type 0} {P Q : E → Type 0} (r : Result A E) → IfErr r P → ((e : E) → P e → Q e) → IfErr r Q
err_gives (Ok a) p f = p
err_gives (Err e) p f = f e p

-- what holds of an answer, from a fact on it
pub ok_gives : {A E : Type 0} {P Q : A → Type 0} (r : Result A E) → IfOk r P → ((a : A) → P a → Q a) → IfOk r Q
ok_gives (Ok a) p f = f a p
ok_gives (Err e) p f = p

-- the same from two facts on it
pub ok_both : {A E : Type 0} {P Q R : A → Type 0} (r : Result A E) → IfOk r P → IfOk r Q → ((a : A) → P a → Q a → R a) → IfOk r R
ok_both (Ok a) p q f = f a p q
ok_both (Err e) p q f = p

-- calls that gave some items, and a call that gave one more
pub yields_more : {S A : Type 0} (steps : S → Option A → S → Type 0) (s : S) (xs : List A) (t u : S) (x : A) → Yields steps s xs t → steps t (Some x) u → Yields steps s (xs ++ x ∷ []) u
yields_more steps s [] t u x e h = (u, subst (λ v. steps v (Some x) u) (sym e) h, refl)
yields_more steps s (y ∷ ys) t u x y' h = (y'.0, y'.1, yields_more steps y'.0 ys t u x y'.2 h)

none_zip : {A B : Type 0} (R : A → B → Type 0) (xs : List A) (ys : List B) → AllZip R xs ys → xs ≡ [] → ys ≡ []
none_zip R [] [] z e = refl
none_zip R [] (y ∷ ys) z e = absurd z
none_zip R (x ∷ xs) ys z e = cc

module _ {N C : Type 0} (names : List N) (M : Network) (value : C → ℤ) (n : M.vertices ≡ length names) where
  -- listed pairs are pairs of names
  pub flows_inside : (flows : List ((ℕ × ℕ) × C)) → ListsFlows value M flows → RunBelow (length names) flows
  flows_inside flows h i e k = let s = h.sound i e k in (subst (λ m. e.0.0 < m) n s.0, subst (λ m. e.0.1 < m) n s.1)

  pub cut_inside : (cut : List ((ℕ × ℕ) × C)) → ListsLeastCut value M cut → (M.source ≡ M.sink → cut ≡ []) → RunBelow (length names) cut
  cut_inside cut h z i e k = elim (cases_eq M.source M.sink) as (λ _. (e.0.0 < length names) × (e.0.1 < length names)) [
    | inl q ↦ absurd (none_in i e (subst (λ xs. slice_get xs i ≡ Some e) (z q) k))
    | inr d ↦ (let s = (h d).2.sound i e k in (subst (λ m. e.0.0 < m) n s.0, subst (λ m. e.0.1 < m) n s.1))
  ]
    where
      none_in : (i : ℕ) (e : (ℕ × ℕ) × C) → slice_get [] i ≡ Some e → ⊥
      none_in zero e h = cc
      none_in (suc i) e h = cc

-- What is answered for names, from what is answered for numbers: of a new store (L), with the capacities of the edges (M), and with a greatest flow (O).
module _ {N C : Type 0} (eq : N → N → Bool) (value : C → ℤ) (names : List N) (fits : ℤ → Type 0) (source sink : N) {L M O : Network}
    (fresh : IsFresh (length names) (number_of eq names source) (number_of eq names sink) L) (shape : KeepsShape L M) (kept : KeepsCapacities M O) where
  pub answer_of : (edges : List ((N × N) × C)) {A : Type 0} (answer : Vec ((ℕ × ℕ) × C) A × C × Vec ((ℕ × ℕ) × C) A) (named : Vec ((N × N) × C) A × C × Vec ((N × N) × C) A)
      → HasCapacities (given_capacities eq value names edges) M → IsNetwork fits O → HasCutOfTotal O → IsFlowAnswer value O answer → IsNamedAnswer names answer named
      → IsAnswer eq value names fits source sink edges named.0.items (value named.1) named.2.items O
  answer_of edges answer named h w c a z = record {
    vertices = kept.shape.vertices ∙ shape.vertices ∙ fresh.vertices;
    source = kept.shape.source ∙ shape.source ∙ fresh.source;
    sink = kept.shape.sink ∙ shape.sink ∙ fresh.sink;
    capacities = record { at = λ a b l m. sym (kept.capacities.at a b) ∙ h.at a b (subst (λ k. a < k) kept.shape.vertices l) (subst (λ k. b < k) kept.shape.vertices m) };
    network = w;
    worth = c;
    total = ap value z.total ∙ a.total;
    flows = (answer.0.items, a.flows (kept.shape.details ∙ shape.details ∙ fresh.details), z.flows);
    cut = (answer.2.items, a.cut_edges (kept.shape.details ∙ shape.details ∙ fresh.details), z.cut);
    idle = λ e. let i = a.idle e in (none_zip (IsNamed names) answer.0.items named.0.items z.flows i.0, ap value z.total ∙ i.1, none_zip (IsNamed names) answer.2.items named.2.items z.cut i.2);
  }
