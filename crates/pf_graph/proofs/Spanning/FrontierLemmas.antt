-- The steps that wait, and the marks of covered numbers.
use Rattle.std.proofs.Common.{ℕ, zero, suc, ◌+◌, ◌<◌, ◌≡◌, ◌≢◌, refl, sym, ◌∙◌, ap, subst, arith, Bool, true, false, List, [], ◌∷◌, length, inl, inr, ◌⊎◌, Some, Ordering}
use Rattle.std.specs.Prelude.{Contains, slice_set, IsPermutation}
use Rattle.std.specs.declared.cmp.Reverse.{Reverse}
use Rattle.std.specs.declared.cmp.Ordering.TheVariants.{Greater}
use Rattle.std.proofs.lemmas.List.Sorted.{Contains-permutation, IsPermutation-sym}
use Rattle.std.proofs.lemmas.Bool.{cases_Bool, cases_order}
use Rattle.pf_graph.specs.declared.undirected.chains.Chains.{Chains}
use Rattle.pf_graph.specs.declared.undirected.steps.Step.{Step}
use Rattle.pf_graph.specs.Internal.Spanning.Chained.{IsLastBefore}
use Rattle.pf_graph.specs.Internal.Spanning.Frontier.{edge_of, step_order, RunsAt, Runs, IsStepAt, IsMarked, HasWaiting, WaitsSave, Waits, Gains, TakesLeast, waiting}
use Rattle.pf_union_find.proofs.ListLemmas.{contains_here, contains_later, contains_cons}
use Rattle.pf_base.proofs.ListLemmas.{get_set, get_within, none_in}
use Rattle.pf_graph.proofs.Spanning.ChainLemmas.{is_at}

-- a number has one mark
pub one_mark : (covered : List Bool) (k : ℕ) → IsMarked true covered k → IsMarked false covered k → ⊥
one_mark covered k a b = let e : Some true ≡ Some false = sym a ∙ b in cc

pub mark_of : (covered : List Bool) (k : ℕ) → k < length covered → IsMarked true covered k ⊎ IsMarked false covered k
mark_of covered k h =
    let r = get_within covered k h in
    elim (cases_Bool r.0) as (λ _. IsMarked true covered k ⊎ IsMarked false covered k) [ inl e ↦ inl (r.1 ∙ ap Some e) | inr e ↦ inr (r.1 ∙ ap Some e) ]

pub now_marked : (covered : List Bool) (k : ℕ) → k < length covered → IsMarked true (slice_set covered k true) k
now_marked covered k inside = elim (get_set covered k k true inside) as (λ _. IsMarked true (slice_set covered k true) k) [ inl e ↦ e.1 | inr e ↦ absurd (e.0 refl) ]

-- ---- an element is taken out

module _ {E : Type 0} (queue queue' : List E) (r : E) (p : IsPermutation queue (r ∷ queue')) where
  pub was_in : Contains queue r
  was_in = Contains-permutation (r ∷ queue') queue r (IsPermutation-sym _ _ p) (contains_here r queue')

  pub rest_in : (t : E) → Contains queue' t → Contains queue t
  rest_in t c = Contains-permutation (r ∷ queue') queue t (IsPermutation-sym _ _ p) (contains_later r t queue' c)

  pub still_in : (t : E) → Contains queue t → (r ≡ t) ⊎ Contains queue' t
  still_in t c = contains_cons r t queue' (Contains-permutation queue (r ∷ queue') t p c)

-- ---- an element is put in

module _ {E : Type 0} (queue queue' : List E) (r : E) (p : IsPermutation (r ∷ queue) queue') where
  pub put_in : Contains queue' r
  put_in = Contains-permutation (r ∷ queue) queue' r p (contains_here r queue)

  pub kept_in : (t : E) → Contains queue t → Contains queue' t
  kept_in t c = Contains-permutation (r ∷ queue) queue' t p (contains_later r t queue c)

  pub came_in : (t : E) → Contains queue' t → (r ≡ t) ⊎ Contains queue t
  came_in t c = contains_cons r t queue (Contains-permutation queue' (r ∷ queue) t (IsPermutation-sym _ _ p) c)

module _ {N C : Type 0} where
  -- ---- the least step is taken

  pub TakesLeast-popped : (node_cmp : N → N → Ordering) (cmp : C → C → Ordering) (covered : List Bool) (queue between queue' : List (Reverse (Step N C))) (r : Reverse (Step N C))
      → ((t : Reverse (Step N C)) → Contains between t → Contains queue t)
      → ((t : Reverse (Step N C)) → Contains queue t → IsMarked false covered t.0.number → Contains between t)
      → IsPermutation between (r ∷ queue') → IsMarked false covered r.0.number
      → ((t : Reverse (Step N C)) → Contains between t → step_order node_cmp cmp r.0 t.0 ≢ Greater)
      → TakesLeast node_cmp cmp covered queue queue' r.0
  TakesLeast-popped node_cmp cmp covered queue between queue' r back on p m least = record {
    waited = back r (was_in between queue' r p);
    new = m;
    least = λ t c n. least t (on t c n);
    from = λ t c. back t (rest_in between queue' r p t c);
    kept = λ t c n apart. elim (still_in between queue' r p t (on t c n)) as (λ _. Contains queue' t) [
      | inl e ↦ absurd (apart (sym (ap (λ (u : Reverse (Step N C)). u.0.number) e)))
      | inr k ↦ k
    ];
  }

  module _ {A : Type 0} (chains : Chains N C A) where
    -- after those over the edges from the place `next` on also the step over the edge just before it is put in, or leads to a covered number; then none is left from the place `first` on
    pub Gains-more : (k p next first : ℕ) (covered : List Bool) (queue between queue' : List (Reverse (Step N C))) (s : Step N C) → p + 1 ≡ next → IsMarked true covered k → IsStepAt chains p k s → IsLastBefore chains.ends.items k p first
        → ((r : Reverse (Step N C)) → Contains queue' r → (waiting s ≡ r) ⊎ Contains between r) → ((r : Reverse (Step N C)) → Contains between r → Contains queue' r)
        → (IsMarked false covered s.number → Contains queue' (waiting s)) → Gains chains k next covered queue between → Gains chains k first covered queue queue'
    Gains-more k p next first covered queue between queue' s is here step last came kept put g = record {
      from = λ r c. elim (came r c) as (λ _. Contains queue r ⊎ Runs chains k (edge_of r.0) r.0.number) [
        | inl e ↦ inr (subst (λ (t : Reverse (Step N C)). Runs chains k (edge_of t.0) t.0.number) e (p, step.runs))
        | inr i ↦ g.from r i
      ];
      kept = λ r c. kept r (g.kept r c);
      all = λ q n e up r m. elim (cases_order q p) as (λ _. HasWaiting queue' e n) [
        | inl same ↦ taken n e (subst (λ (i : ℕ). RunsAt chains i k e n) same r) m
        | inr other ↦ elim other as (λ _. HasWaiting queue' e n) [
          | inl before ↦ absurd (last.none_behind q r.ends r.ends_at up before (is_at chains q k n e r))
          | inr behind ↦ let w = g.all q n e (omega (arith, is, behind)) r m in (w.0, kept (waiting w.0) w.1, w.2)
        ]
      ];
    }
      where
        taken : (n : ℕ) (e : N × N × C) → RunsAt chains p k e n → IsMarked false covered n → HasWaiting queue' e n
        taken n e r m = elim (step.only e n r) as (λ _. HasWaiting queue' e n) [
          | inl l ↦ (s, put (subst (λ (i : ℕ). IsMarked false covered i) (sym l.1) m), l)
          | inr q ↦ absurd (one_mark covered k here (subst (λ (i : ℕ). IsMarked false covered i) q m))
        ]

    -- nothing is covered, and nothing waits
    pub WaitsSave-start : (covered : List Bool) (n : ℕ) → ((k : ℕ) → ¬ (IsMarked true covered k)) → WaitsSave chains covered n []
    WaitsSave-start covered n none = record { from = λ r c. absurd (omega (arith, c.1)); all = λ k i e m. absurd (none k m) }

    -- the least step was taken
    pub WaitsSave-taken : (node_cmp : N → N → Ordering) (cmp : C → C → Ordering) (covered : List Bool) (queue queue' : List (Reverse (Step N C))) (s : Step N C) → Waits chains covered queue → TakesLeast node_cmp cmp covered queue queue' s → WaitsSave chains covered s.number queue'
    WaitsSave-taken node_cmp cmp covered queue queue' s w t = record {
      from = λ r c. w.from r (t.from r c);
      all = λ k n e m h free apart.
          let o = w.all k n e m h free in
          let to : o.0.number ≡ n = o.2.1 in
          (o.0, t.kept (waiting o.0) o.1 (subst (λ (i : ℕ). IsMarked false covered i) (sym to) free) (λ q. apart (sym to ∙ q)), o.2);
    }

    -- a number is covered, and the steps from it are put in
    pub Waits-cover : (covered : List Bool) (number : ℕ) (queue queue' : List (Reverse (Step N C))) → number < length covered
        → WaitsSave chains covered number queue → Gains chains number 0 (slice_set covered number true) queue queue' → Waits chains (slice_set covered number true) queue'
    Waits-cover covered number queue queue' inside w g = record {
      from = λ r c. elim (g.from r c) as (λ _. (k : ℕ) × IsMarked true (slice_set covered number true) k × Runs chains k (edge_of r.0) r.0.number) [
        | inl i ↦ let o = w.from r i in (o.0, still o.0 o.1, o.2)
        | inr i ↦ (number, now, i)
      ];
      all = λ k n e m h free. elim (get_set covered number k true inside) as (λ _. HasWaiting queue' e n) [
        | inl q ↦ g.all h.0 n e (omega arith) (subst (λ (i : ℕ). RunsAt chains h.0 i e n) q.0 h.1) free
        | inr q ↦
            let o = w.all k n e (sym q.1 ∙ m) h (before n free) (λ d. one_mark (slice_set covered number true) n (subst (λ (i : ℕ). IsMarked true (slice_set covered number true) i) (sym d) now) free) in
            (o.0, g.kept (waiting o.0) o.1, o.2)
      ];
    }
      where
        now : IsMarked true (slice_set covered number true) number
        now = now_marked covered number inside

        still : (k : ℕ) → IsMarked true covered k → IsMarked true (slice_set covered number true) k
        still k m = elim (get_set covered number k true inside) as (λ _. IsMarked true (slice_set covered number true) k) [ inl e ↦ e.1 | inr e ↦ e.1 ∙ m ]

        before : (k : ℕ) → IsMarked false (slice_set covered number true) k → IsMarked false covered k
        before k m = elim (get_set covered number k true inside) as (λ _. IsMarked false covered k) [
          | inl e ↦ absurd (one_mark (slice_set covered number true) k e.1 m)
          | inr e ↦ sym e.1 ∙ m
        ]

-- ---- how many are not covered

pub open_count : List Bool → ℕ
open_count [] = 0
open_count (true ∷ bs) = open_count bs
open_count (false ∷ bs) = 1 + open_count bs

pub open_less : (covered : List Bool) (k : ℕ) → IsMarked false covered k → open_count (slice_set covered k true) < open_count covered
unfolding open_count
open_less [] k m = absurd (none_in k false m)
open_less (true ∷ bs) zero m = let e : Some true ≡ Some false = m in absurd (cc)
open_less (false ∷ bs) zero m = omega arith
open_less (true ∷ bs) (suc k) m = open_less bs k m
open_less (false ∷ bs) (suc k) m = let h = open_less bs k m in omega (arith, h)
