-- Lemmas on rings of numbers.
use Rattle.std.proofs.Common.{◌≡◌, ◌⊎◌, ◌<◌, ◌≤◌, ◌+◌, ℕ, ℤ, zero, suc, pos, arith, ap, sym, subst, inl, inr, true, List, [], ◌∷◌, nat_eq}
use Rattle.std.specs.Prelude.{◌≤ℤ◌, ◌+ℤ◌}
use Rattle.std.proofs.lemmas.Bool.Decides.{nat_tests}
use Rattle.std.proofs.lemmas.Int.{ints}
use borrow.Author.Tests.{eqb-true}
use Rattle.pf_base.specs.Edges.{HasEdge, InReach}
use Rattle.pf_base.specs.Mirrors.{IsMirror}
use Rattle.pf_base.specs.Successors.{HasSuccessor}
use Rattle.pf_base.specs.Walks.{HasNode, IsReachable}
use Rattle.pf_base.proofs.Callers.{valued, nat_refl}
use Rattle.pf_base.proofs.Reach.{nat_reach_keeps}
use Rattle.pf_base.proofs.Tables.{successors_keep}
use Rattle.pf_informed.specs.Estimates.{IsAdmissible}
use Rattle.pf_informed.proofs.Callers.{consistent}
use Rattle.pf_both_ends.specs.BothEnds.{IsCostMirror}
use Rattle.test_hostile_use.specs.Chains.{next_lower, next_higher}

-- the edge from each number, at cost 1
abbrev pub down : ℕ → ℕ → List (ℕ × ℕ)
down back n = (next_lower back n, 1) ∷ []

abbrev pub up : ℕ → ℕ → List (ℕ × ℕ)
up last n = (next_higher last n, 1) ∷ []

lower_suc : (back n : ℕ) → next_lower back (suc n) ≡ n
lower_suc back n = grind (arith, nat_tests)

higher_of_lower : (last a b : ℕ) → a ≤ last → next_lower last a ≡ b → next_higher last b ≡ a
higher_of_lower last a b l e = grind (arith, nat_tests)

lower_of_higher : (last a b : ℕ) → b ≤ last → next_higher last b ≡ a → next_lower last a ≡ b
lower_of_higher last a b l e = grind (arith, nat_tests)

lower_within : (last n : ℕ) → n ≤ last → next_lower last n ≤ last
lower_within last n l = grind (arith, nat_tests)

higher_within : (last n : ℕ) → n ≤ last → next_higher last n ≤ last
higher_within last n l = grind (arith, nat_tests)

same : (a b : ℕ) → a ≡ b → nat_eq a b ≡ true
same a b e = subst (λ (z : ℕ). nat_eq a z ≡ true) e (nat_refl a)

-- what remains to 0 is the number itself
falls : (back a b : ℕ) (z : ℤ) → HasEdge nat_eq (valued (λ c. pos c) (down back a)) b z → pos a ≤ℤ (z +ℤ pos b)
falls back a b z (inl h) = by a (eqb-true (next_lower back a) b h.0) h.1
  where
    by : (a : ℕ) → next_lower back a ≡ b → pos 1 ≡ z → pos a ≤ℤ (z +ℤ pos b)
    by zero e k = omega (arith, ints, k)
    by (suc n) e k = let l = lower_suc back n in omega (arith, ints, k, e, l)
falls back a b z (inr h) = absurd h

pub ring_admissible : (back last : ℕ) → IsAdmissible nat_eq (λ n. valued (λ c. pos c) (down back n)) (last ∷ []) (λ n. nat_eq n 0) (λ n. pos n)
ring_admissible back last = consistent nat_eq (λ n. valued (λ c. pos c) (down back n)) (last ∷ []) (λ n. nat_eq n 0) (λ n. pos n) (λ x y e. ap pos (eqb-true x y e)) (λ x. omega (arith, ints)) (λ x e. none x (eqb-true x 0 e)) (falls back)
  where
    none : (x : ℕ) → x ≡ 0 → pos x ≤ℤ pos 0
    none x e = omega (arith, ints, e)

pub ring_cost_mirror : (last : ℕ) → IsCostMirror nat_eq (λ n. valued (λ c. pos c) (down last n)) (λ n. valued (λ c. pos c) (up last n)) last 0
ring_cost_mirror last =
    let below = nat_reach_keeps (λ c. pos c) (down last) (λ n. n ≤ last) last (omega arith) (λ n p. (lower_within last n p, tt)) in
    let below_back = nat_reach_keeps (λ c. pos c) (up last) (λ n. n ≤ last) 0 (omega arith) (λ n p. (higher_within last n p, tt)) in
    record { precedes = λ a b z r q h. forth a b z (below a r) h; follows = λ a b z r q h. back a b z (below_back b q) h }
  where
    forth : (a b : ℕ) (z : ℤ) → a ≤ last → HasEdge nat_eq (valued (λ c. pos c) (down last a)) b z → HasEdge nat_eq (valued (λ c. pos c) (up last b)) a z
    forth a b z l (inl h) = inl (same (next_higher last b) a (higher_of_lower last a b l (eqb-true (next_lower last a) b h.0)), h.1)
    forth a b z l (inr h) = absurd h

    back : (a b : ℕ) (z : ℤ) → b ≤ last → HasEdge nat_eq (valued (λ c. pos c) (up last b)) a z → HasEdge nat_eq (valued (λ c. pos c) (down last a)) b z
    back a b z l (inl h) = inl (same (next_lower last a) b (lower_of_higher last a b l (eqb-true (next_higher last b) a h.0)), h.1)
    back a b z l (inr h) = absurd h

pub ring_mirror : (last : ℕ) (starts ends : List ℕ) → starts ≡ last ∷ [] → ends ≡ 0 ∷ [] → IsMirror nat_eq (λ n. next_lower last n ∷ []) (λ n. next_higher last n ∷ []) starts ends
ring_mirror last starts ends s t = subst (λ xs. IsMirror nat_eq (λ n. next_lower last n ∷ []) (λ n. next_higher last n ∷ []) xs ends) (sym s) (subst (λ ys. IsMirror nat_eq (λ n. next_lower last n ∷ []) (λ n. next_higher last n ∷ []) (last ∷ []) ys) (sym t) whole)
  where
    equal : (a b : ℕ) → nat_eq a b ≡ true → a ≤ last → b ≤ last
    equal a b e p = subst (λ (n : ℕ). n ≤ last) (eqb-true a b e) p

    forth : (a b : ℕ) → a ≤ last → HasSuccessor nat_eq (λ n. next_lower last n ∷ []) a b → HasSuccessor nat_eq (λ n. next_higher last n ∷ []) b a
    forth a b l (inl h) = inl (same (next_higher last b) a (higher_of_lower last a b l (eqb-true (next_lower last a) b h)))
    forth a b l (inr h) = absurd h

    back : (a b : ℕ) → b ≤ last → HasSuccessor nat_eq (λ n. next_higher last n ∷ []) b a → HasSuccessor nat_eq (λ n. next_lower last n ∷ []) a b
    back a b l (inl h) = inl (same (next_lower last a) b (lower_of_higher last a b l (eqb-true (next_higher last b) a h)))
    back a b l (inr h) = absurd h

    whole : IsMirror nat_eq (λ n. next_lower last n ∷ []) (λ n. next_higher last n ∷ []) (last ∷ []) (0 ∷ [])
    whole =
        let below = successors_keep nat_eq (λ n. next_lower last n ∷ []) (λ n. n ≤ last) equal (λ n p. (lower_within last n p, tt)) (last ∷ []) (omega arith, tt) in
        let below_back = successors_keep nat_eq (λ n. next_higher last n ∷ []) (λ n. n ≤ last) equal (λ n p. (higher_within last n p, tt)) (0 ∷ []) (omega arith, tt) in
        record { precedes = λ a b r q h. forth a b (below a r) h; follows = λ a b r q h. back a b (below_back b q) h }
