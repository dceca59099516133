-- Lemmas on a depth-first walk that orders numbers.
use Rattle.std.proofs.Common.{rules, ◌≡◌, ◌≢◌, ◌<◌, ◌≤◌, ◌+◌, ◌-◌, ◌∙◌, ℕ, zero, suc, refl, sym, ap, subst, arith, inl, inr, Bool, true, false, true≢false, cond, Some, List, [], ◌∷◌, ◌++◌, length, length-append, map, replicate, nat_eq, eq-eqb}
use Rattle.std.specs.Prelude.{Vec, vec_len, ◌==◌, ◌⊎◌, slice_get, slice_set, Contains, reverse}
use Rattle.std.specs.List.{AllZip}
use Rattle.std.proofs.lemmas.List.{append_assoc, append-nil, reverse-append, reverse-reverse}
use Rattle.std.proofs.lemmas.List.Sums.{count_by-le-length, sum_by-append}
use Rattle.std.proofs.lemmas.Option.{slice_get_within}
use borrow.Author.Tests.{eqb-true}
use Rattle.pf_base.specs.Walks.{HasNode, Follows, end_of}
use Rattle.pf_core.specs.Numbered.{Grows}
use Rattle.pf_core.proofs.FrontierLemmas.{end_more}
use Rattle.pf_base.proofs.ListLemmas.{Contains-head, Contains-tail, Contains-cases, Contains-reverse, count_by-set_more, count_by-set, get_set, get-append, none_in}
use Rattle.pf_orders.specs.declared.ordering.Turn.{Turn}
use Rattle.pf_orders.specs.declared.ordering.Turn.TheVariants.{Enter, Leave}
use Rattle.pf_orders.specs.declared.ordering.Mark.{Mark}
use Rattle.pf_orders.specs.declared.ordering.Mark.TheVariants.{New, Open, Done}
use Rattle.pf_orders.specs.Internal.Orderings.{entries, number_of, IsMarked, was_entered, entered_count, IsLeft, LeaveOpen, AreInside, IsSorting, Leads, LeadsInto, IsOrdered, FollowsOpen, IsChained, IsCovered, IsAlong, IsOrderedReach, IsOnNumberedCycle}

-- ---- members of lists

pub member_of : (ks : List ℕ) (k : ℕ) → Contains ks k → HasNode nat_eq ks k
member_of [] k h = absurd (omega (arith, h.1))
member_of (j ∷ ks) k h = elim (Contains-cases ks j k h) as (λ _. HasNode nat_eq (j ∷ ks) k) [ inl e ↦ inl (eq-eqb j k e) | inr i ↦ inr (member_of ks k i) ]

pub of_member : (ks : List ℕ) (k : ℕ) → HasNode nat_eq ks k → Contains ks k
of_member [] k h = absurd h
of_member (j ∷ ks) k (inl e) = subst (λ (i : ℕ). Contains (j ∷ ks) i) (eqb-true j k e) (Contains-head ks j)
of_member (j ∷ ks) k (inr h) = Contains-tail ks j k (of_member ks k h)

pub Contains-left : {A : Type 0} (xs ys : List A) (y : A) → Contains xs y → Contains (xs ++ ys) y
Contains-left [] ys y h = absurd (omega (arith, h.1))
Contains-left (x ∷ xs) ys y h = elim (Contains-cases xs x y h) as (λ _. Contains (x ∷ xs ++ ys) y) [
  | inl e ↦ subst (λ (z : _). Contains (x ∷ xs ++ ys) z) e (Contains-head (xs ++ ys) x)
  | inr i ↦ Contains-tail (xs ++ ys) x y (Contains-left xs ys y i)
]

pub Contains-last : {A : Type 0} (xs : List A) (y : A) → Contains (xs ++ y ∷ []) y
Contains-last [] y = Contains-head [] y
Contains-last (x ∷ xs) y = Contains-tail (xs ++ y ∷ []) x y (Contains-last xs y)

-- a number of a row is that of some step
pub step_of : {C : Type 0} (steps : List (ℕ × C)) (k : ℕ) → Contains (map (λ (s : ℕ × C). s.0) steps) k → (c : C) × Contains steps (k, c)
step_of [] k h = absurd (omega (arith, h.1))
step_of (s ∷ steps) k h = elim (Contains-cases (map (λ (t : ℕ × _). t.0) steps) s.0 k h) as (λ _. (c : _) × Contains (s ∷ steps) (k, c)) [
  | inl e ↦ (s.1, subst (λ (j : ℕ). Contains (s ∷ steps) (j, s.1)) e (Contains-head steps s))
  | inr i ↦ let q = step_of steps k i in (q.0, Contains-tail steps s (k, q.0) q.1)
]

empty_of : {A : Type 0} (xs : List A) → length xs ≡ 0 → xs ≡ []
empty_of [] e = refl
empty_of (x ∷ xs) e = absurd (omega (arith, e))

-- what the test for an empty list says
module _ {T A : Type 0} (v : Vec T A) (r : Bool) (is : r ≡ (vec_len v == 0)) where
  pub is_none : r ≡ true → v.items ≡ []
  is_none e = let n : length v.items ≡ 0 = search rules in empty_of v.items n

  pub is_some : r ≡ false → ¬ (v.items ≡ [])
  is_some e q = let n = ap length q in search rules

pub of_step : {C : Type 0} (steps : List (ℕ × C)) (k : ℕ) (c : C) → Contains steps (k, c) → Contains (map (λ (s : ℕ × C). s.0) steps) k
of_step [] k c h = absurd (omega (arith, h.1))
of_step (s ∷ steps) k c h = elim (Contains-cases steps s (k, c) h) as (λ _. Contains (map (λ (t : ℕ × _). t.0) (s ∷ steps)) k) [
  | inl e ↦ subst (λ (j : ℕ). Contains (map (λ (t : ℕ × _). t.0) (s ∷ steps)) j) (ap (λ (t : ℕ × _). t.0) e) (Contains-head (map (λ (t : ℕ × _). t.0) steps) s.0)
  | inr i ↦ Contains-tail (map (λ (t : ℕ × _). t.0) steps) s.0 k (of_step steps k c i)
]

-- what a number of a row stands for
pub node_of_row : {X : Type 0} (S : ℕ → X → Type 0) (ks : List ℕ) (ys : List X) (j : ℕ) → AllZip S ks ys → Contains ks j → (y : X) × Contains ys y × S j y
node_of_row S [] ys j z h = absurd (omega (arith, h.1))
node_of_row S (k ∷ ks) [] j z h = absurd z
node_of_row S (k ∷ ks) (v ∷ ys) j z h = elim (Contains-cases ks k j h) as (λ _. (y : _) × Contains (v ∷ ys) y × S j y) [
  | inl e ↦ (v, Contains-head ys v, subst (λ (i : ℕ). S i v) e z.0)
  | inr t ↦ let q = node_of_row S ks ys j z.1 t in (q.0, Contains-tail ys v q.0 q.1, q.2)
]

pub to_reverse : {A : Type 0} (xs : List A) (y : A) → Contains xs y → Contains (reverse xs) y
to_reverse xs y h = Contains-reverse (reverse xs) y (subst (λ (zs : List _). Contains zs y) (sym (reverse-reverse xs)) h)

pub reverse-push : {A : Type 0} (xs : List A) (x : A) → reverse (xs ++ x ∷ []) ≡ x ∷ reverse xs
reverse-push xs x = reverse-append xs (x ∷ [])

pub entries-append : (xs ys : List ℕ) → entries (xs ++ ys) ≡ entries xs ++ entries ys
entries-append [] ys = refl
entries-append (x ∷ xs) ys = ap (λ ts. Turn.Enter x ∷ ts) (entries-append xs ys)

-- entries in reverse, in reverse
entries-reverse : (xs : List ℕ) → reverse (entries (reverse xs)) ≡ entries xs
entries-reverse [] = refl
entries-reverse (x ∷ xs) =
    ap (λ ks. reverse (entries ks)) (reverse-append (x ∷ []) xs) ∙ ap reverse (entries-append (reverse xs) (x ∷ [])) ∙ reverse-append (entries (reverse xs)) (Turn.Enter x ∷ []) ∙ ap (λ ts. Turn.Enter x ∷ ts) (entries-reverse xs)

-- the turns after a number was entered, the next one first
pub turns_after : (old : List Turn) (k : ℕ) (numbers : List ℕ) → reverse (old ++ Turn.Leave k ∷ entries (reverse numbers)) ≡ entries numbers ++ Turn.Leave k ∷ reverse old
turns_after old k numbers =
    reverse-append old (Turn.Leave k ∷ entries (reverse numbers)) ∙ ap (λ ts. ts ++ reverse old) (reverse-append (Turn.Leave k ∷ []) (entries (reverse numbers)) ∙ ap (λ ts. ts ++ Turn.Leave k ∷ []) (entries-reverse numbers))
    ∙ append_assoc (entries numbers) (Turn.Leave k ∷ []) (reverse old)

follows_push : {X : Type 0} (step : X → X → Type 0) (w : List X) (a b : X) → Follows step a w → step (end_of a w) b → Follows step a (w ++ b ∷ [])
follows_push step [] a b f s = (s, tt)
follows_push step (c ∷ w) a b f s = (f.0, follows_push step w c b f.1 s)

-- ---- marks

new_only : (n k : ℕ) (m : Mark) → slice_get (replicate n Mark.New) k ≡ Some m → m ≡ Mark.New
new_only zero k m h = absurd (none_in k m h)
new_only (suc n) zero m h = let e : Some Mark.New ≡ Some m = h in cc
new_only (suc n) (suc k) m h = new_only n k m h

behind : (marks : List Mark) (n k : ℕ) (m : Mark) → slice_get (marks ++ replicate n Mark.New) k ≡ Some m → slice_get marks k ≡ Some m ⊎ (m ≡ Mark.New)
behind [] n k m h = inr (new_only n k m h)
behind (x ∷ marks) n zero m h = inl h
behind (x ∷ marks) n (suc k) m h = behind marks n k m h

none_entered : (n : ℕ) → entered_count (replicate n Mark.New) ≡ 0
none_entered zero = refl
none_entered (suc n) = none_entered n

replicate_len : {A : Type 0} (i : ℕ) (x : A) → length (replicate i x) ≡ i
replicate_len zero x = refl
replicate_len (suc i) x = ap suc (replicate_len i x)

entered_behind : (marks : List Mark) (n : ℕ) → entered_count (marks ++ replicate n Mark.New) ≡ entered_count marks
entered_behind marks n = let e = sum_by-append (λ m. cond (was_entered m) 1 0) marks (replicate n Mark.New) in let f = none_entered n in omega (arith, e, f)

differ_open : ¬ (Mark.New ≡ Mark.Open)
differ_open e = true≢false (sym (ap was_entered e))

abbrev is_done : Mark → Bool
is_done New = false
is_done Open = false
is_done Done = true

differ_done : ¬ (Mark.Done ≡ Mark.Open)
differ_done e = true≢false (ap is_done e)

differ_new : ¬ (Mark.Done ≡ Mark.New)
differ_new e = true≢false (ap is_done e)

same_mark : (marks : List Mark) (k : ℕ) (a b : Mark) → IsMarked marks a k → IsMarked marks b k → a ≡ b
same_mark marks k a b h i = let e : Some a ≡ Some b = sym h ∙ i in cc

-- one mark was written, and others put behind
module _ (marks marks' : List Mark) (k : ℕ) (v : Mark) (more : ℕ) (e : marks' ≡ slice_set marks k v ++ replicate more Mark.New) (inside : k < length marks) where
  written : slice_get (slice_set marks k v) k ≡ Some v
  written = elim (get_set marks k k v inside) as (λ _. slice_get (slice_set marks k v) k ≡ Some v) [ inl r ↦ r.1 | inr r ↦ absurd (r.0 refl) ]

  pub mark_now : IsMarked marks' v k
  mark_now = subst (λ (ms : List Mark). IsMarked ms v k) (sym e) (get-append (slice_set marks k v) (replicate more Mark.New) k v written)

  pub mark_other : (j : ℕ) (m : Mark) → j ≢ k → IsMarked marks m j → IsMarked marks' m j
  mark_other j m n h = elim (get_set marks k j v inside) as (λ _. IsMarked marks' m j) [
    | inl r ↦ absurd (n r.0)
    | inr r ↦ subst (λ (ms : List Mark). IsMarked ms m j) (sym e) (get-append (slice_set marks k v) (replicate more Mark.New) j m (r.1 ∙ h))
  ]

  pub mark_from : (j : ℕ) (m : Mark) → ¬ (m ≡ Mark.New) → IsMarked marks' m j → ((j ≡ k) × (m ≡ v)) ⊎ ((j ≢ k) × IsMarked marks m j)
  mark_from j m n h = elim (behind (slice_set marks k v) more j m (subst (λ (ms : List Mark). IsMarked ms m j) e h)) as (λ _. ((j ≡ k) × (m ≡ v)) ⊎ ((j ≢ k) × IsMarked marks m j)) [
    | inl s ↦ elim (get_set marks k j v inside) as (λ _. ((j ≡ k) × (m ≡ v)) ⊎ ((j ≢ k) × IsMarked marks m j)) [
      | inl r ↦ inl (r.0, let q : Some m ≡ Some v = sym s ∙ r.1 in cc)
      | inr r ↦ inr (r.0, sym r.1 ∙ s)
    ]
    | inr q ↦ absurd (n q)
  ]

-- ---- turns

LeaveOpen-same : (marks marks' : List Mark) (turns : List Turn) → ((j : ℕ) → IsLeft turns j → IsMarked marks Mark.Open j → IsMarked marks' Mark.Open j) → LeaveOpen marks turns → LeaveOpen marks' turns
LeaveOpen-same marks marks' [] f h = tt
LeaveOpen-same marks marks' (Enter j ∷ turns) f h = LeaveOpen-same marks marks' turns f h
LeaveOpen-same marks marks' (Leave j ∷ turns) f h = (f j (inl refl) h.0, h.1, LeaveOpen-same marks marks' turns (λ i l. f i (inr l)) h.2)

is_left_entries : (numbers : List ℕ) (turns : List Turn) (j : ℕ) → IsLeft turns j → IsLeft (entries numbers ++ turns) j
is_left_entries [] turns j h = h
is_left_entries (n ∷ numbers) turns j h = is_left_entries numbers turns j h

leave_open_entries : (marks : List Mark) (numbers : List ℕ) (turns : List Turn) → LeaveOpen marks turns → LeaveOpen marks (entries numbers ++ turns)
leave_open_entries marks [] turns h = h
leave_open_entries marks (n ∷ numbers) turns h = leave_open_entries marks numbers turns h

AreInside-more : (a b : ℕ) (turns : List Turn) → a ≤ b → AreInside a turns → AreInside b turns
AreInside-more a b [] l h = tt
AreInside-more a b (t ∷ turns) l h = (omega (arith, l, h.0), AreInside-more a b turns l h.1)

inside_entries : (b : ℕ) (numbers : List ℕ) (turns : List Turn) → ((k : ℕ) → Contains numbers k → k < b) → AreInside b turns → AreInside b (entries numbers ++ turns)
inside_entries b [] turns f h = h
inside_entries b (n ∷ numbers) turns f h = (f n (Contains-head numbers n), inside_entries b numbers turns (λ k i. f k (Contains-tail numbers n k i)) h)

-- ---- the beginning: each turn enters one of the first numbers

-- each turn enters a number below
abbrev pub OnlyEnter : ℕ → List Turn → Type 0
OnlyEnter found turns = (t : Turn) → Contains turns t → (k : ℕ) × (k < found) × (t ≡ Turn.Enter k)

module _ (found : ℕ) where
  only_more : (t : Turn) (turns : List Turn) → OnlyEnter found (t ∷ turns) → OnlyEnter found turns
  only_more t turns h s i = h s (Contains-tail turns t s i)

  start_inside : (turns : List Turn) → OnlyEnter found turns → AreInside found turns
  start_inside [] h = tt
  start_inside (t ∷ turns) h = let q = h t (Contains-head turns t) in (subst (λ (s : Turn). number_of s < found) (sym q.2) q.1, start_inside turns (only_more t turns h))

  start_leaving : (marks : List Mark) (turns : List Turn) → OnlyEnter found turns → LeaveOpen marks turns
  start_leaving marks [] h = tt
  start_leaving marks (t ∷ turns) h = let q = h t (Contains-head turns t) in subst (λ (s : Turn). LeaveOpen marks (s ∷ turns)) (sym q.2) (start_leaving marks turns (only_more t turns h))

  pub sorting_start : (marks : List Mark) (turns : List Turn) → marks ≡ replicate found Mark.New → OnlyEnter found turns → IsSorting found marks [] turns
  sorting_start marks turns e h = record {
    len = ap length e ∙ replicate_len found Mark.New;
    inside = start_inside turns h;
    opened = λ k m. absurd (differ_open (sym (new_only found k Mark.Open (subst (λ (ms : List Mark). IsMarked ms Mark.Open k) e m))));
    leaving = start_leaving marks turns h;
    done = λ k m. absurd (differ_new (new_only found k Mark.Done (subst (λ (ms : List Mark). IsMarked ms Mark.Done k) e m)));
    was_done = λ k n. absurd n;
    once = tt;
  }

  pub count_start : (marks : List Mark) → marks ≡ replicate found Mark.New → entered_count marks ≡ 0
  count_start marks e = ap entered_count e ∙ none_entered found

  module _ {X : Type 0} (succ : X → List X) (S : ℕ → X → Type 0) where
    start_follows : (turns : List Turn) (k : ℕ) → OnlyEnter found turns → FollowsOpen succ S turns k
    start_follows [] k h = tt
    start_follows (t ∷ turns) k h = let q = h t (Contains-head turns t) in subst (λ (s : Turn). FollowsOpen succ S (s ∷ turns) k) (sym q.2) (start_follows turns k (only_more t turns h))

    start_chained : (turns : List Turn) → OnlyEnter found turns → IsChained succ S turns
    start_chained [] h = tt
    start_chained (t ∷ turns) h = (start_follows turns (number_of t) (only_more t turns h), start_chained turns (only_more t turns h))

    start_covered : (sort : ℕ → Type 0) (turns : List Turn) → OnlyEnter found turns → ((k : ℕ) → k < found → sort k ⊎ Contains turns (Turn.Enter k)) → IsCovered succ S found sort turns
    start_covered sort [] h all = λ k l. elim (all k l) as (λ _. sort k) [ inl s ↦ s | inr i ↦ absurd (omega (arith, i.1)) ]
    start_covered sort (t ∷ turns) h all =
        let q = h t (Contains-head turns t) in
        subst (λ (s : Turn). IsCovered succ S found sort (s ∷ turns)) (sym q.2)
        (start_covered (λ k. sort k ⊎ (k ≡ q.0)) turns (only_more t turns h) (λ k l. elim (all k l) as (λ _. (sort k ⊎ (k ≡ q.0)) ⊎ Contains turns (Turn.Enter k)) [
          | inl s ↦ inl (inl s)
          | inr i ↦ elim (Contains-cases turns t (Turn.Enter k) i) as (λ _. (sort k ⊎ (k ≡ q.0)) ⊎ Contains turns (Turn.Enter k)) [
            | inl e ↦ inl (inr (ap number_of (sym e ∙ q.2)))
            | inr j ↦ inr j
          ]
        ]))

    pub along_start : (marks : List Mark) (turns : List Turn) → OnlyEnter found turns → ((k : ℕ) → k < found → Contains turns (Turn.Enter k)) → IsAlong succ S found marks [] turns
    along_start marks turns h all = record {
      ordered = tt;
      chained = start_chained turns h;
      covered = start_covered (IsMarked marks Mark.Done) turns h (λ k l. inr (all k l));
    }

-- ---- what the turns say of a graph

module _ {X : Type 0} (succ : X → List X) where
  module _ (S : ℕ → X → Type 0) where
    covered_weaken : (roots : ℕ) (A B : ℕ → Type 0) → ((k : ℕ) → A k → B k) → (turns : List Turn) → IsCovered succ S roots A turns → IsCovered succ S roots B turns
    covered_weaken roots A B f [] h = λ k l. f k (h k l)
    covered_weaken roots A B f (Enter j ∷ turns) h = covered_weaken roots (λ k. A k ⊎ (k ≡ j)) (λ k. B k ⊎ (k ≡ j)) (λ k a. elim a as (λ _. B k ⊎ (k ≡ j)) [ inl p ↦ inl (f k p) | inr e ↦ inr e ]) turns h
    covered_weaken roots A B f (Leave j ∷ turns) h = (
      (λ x s y c. let q = h.0 x s y c in (q.0, f q.0 q.1, q.2)),
      covered_weaken roots (λ k. A k ⊎ (k ≡ j)) (λ k. B k ⊎ (k ≡ j)) (λ k a. elim a as (λ _. B k ⊎ (k ≡ j)) [ inl p ↦ inl (f k p) | inr e ↦ inr e ]) turns h.1,
    )

    covered_entries : (roots : ℕ) (A : ℕ → Type 0) (numbers : List ℕ) (turns : List Turn) → IsCovered succ S roots (λ k. A k ⊎ HasNode nat_eq numbers k) turns → IsCovered succ S roots A (entries numbers ++ turns)
    covered_entries roots A [] turns h = covered_weaken roots (λ k. A k ⊎ ⊥) A (λ k a. elim a as (λ _. A k) [ inl p ↦ p | inr e ↦ absurd e ]) turns h
    covered_entries roots A (n ∷ numbers) turns h =
        covered_entries roots (λ k. A k ⊎ (k ≡ n)) numbers turns
        (covered_weaken roots (λ k. A k ⊎ HasNode nat_eq (n ∷ numbers) k) (λ k. (A k ⊎ (k ≡ n)) ⊎ HasNode nat_eq numbers k) (λ k a. elim a as (λ _. (A k ⊎ (k ≡ n)) ⊎ HasNode nat_eq numbers k) [
          | inl p ↦ inl (inl p)
          | inr e ↦ elim e as (λ _. (A k ⊎ (k ≡ n)) ⊎ HasNode nat_eq numbers k) [ inl i ↦ inl (inr (sym (eqb-true n k i))) | inr i ↦ inr i ]
        ]) turns h)

    follows_entries : (numbers : List ℕ) (k j : ℕ) (turns : List Turn) → Leads succ S k j → FollowsOpen succ S (entries numbers ++ Turn.Leave k ∷ turns) j
    follows_entries [] k j turns h = h
    follows_entries (n ∷ numbers) k j turns h = follows_entries numbers k j turns h

    chained_entries : (numbers : List ℕ) (k : ℕ) (turns : List Turn) → ((j : ℕ) → HasNode nat_eq numbers j → Leads succ S k j) → FollowsOpen succ S turns k → IsChained succ S turns → IsChained succ S (entries numbers ++ Turn.Leave k ∷ turns)
    chained_entries [] k turns f o c = (o, c)
    chained_entries (n ∷ numbers) k turns f o c = (follows_entries numbers k n turns (f n (inl (eq-eqb n n refl))), chained_entries numbers k turns (λ j i. f j (inr i)) o c)

    -- a row that numbers the successors of each node of k
    row_leads : (k : ℕ) (numbers : List ℕ) → ((x : X) → S k x → AllZip S numbers (succ x)) → (j : ℕ) → HasNode nat_eq numbers j → Leads succ S k j
    row_leads k numbers row j i x s = by numbers (succ x) (row x s) i
      where
        by : (ks : List ℕ) (ys : List X) → AllZip S ks ys → HasNode nat_eq ks j → (y : X) × Contains ys y × S j y
        by [] ys z h = absurd h
        by (n ∷ ks) [] z h = absurd z
        by (n ∷ ks) (y ∷ ys) z (inl e) = (y, Contains-head ys y, subst (λ (m : ℕ). S m y) (eqb-true n j e) z.0)
        by (n ∷ ks) (y ∷ ys) z (inr h) = let q = by ks ys z.1 h in (q.0, Contains-tail ys y q.0 q.1, q.2)

    row_into : (k : ℕ) (numbers : List ℕ) → ((x : X) → S k x → AllZip S numbers (succ x)) → LeadsInto succ S k (HasNode nat_eq numbers)
    row_into k numbers row x s y i = by numbers (succ x) (row x s) i
      where
        by : (ks : List ℕ) (ys : List X) → AllZip S ks ys → Contains ys y → (j : ℕ) × HasNode nat_eq ks j × S j y
        by [] [] z h = absurd (omega (arith, h.1))
        by [] (v ∷ ys) z h = absurd z
        by (n ∷ ks) [] z h = absurd z
        by (n ∷ ks) (v ∷ ys) z h = elim (Contains-cases ys v y h) as (λ _. (j : ℕ) × HasNode nat_eq (n ∷ ks) j × S j y) [
          | inl e ↦ (n, inl (eq-eqb n n refl), subst (λ (u : X). S n u) e z.0)
          | inr t ↦ let q = by ks ys z.1 t in (q.0, inr q.1, q.2)
        ]

    into_weaken : (k : ℕ) (A B : ℕ → Type 0) → ((j : ℕ) → A j → B j) → LeadsInto succ S k A → LeadsInto succ S k B
    into_weaken k A B f h x s y c = let q = h x s y c in (q.0, f q.0 q.1, q.2)

    -- ---- a cycle: a number that is left later follows the one that is left next

    cycle_from : (turns : List Turn) (k last : ℕ) → IsChained succ S turns → FollowsOpen succ S turns last → IsLeft turns k
        → (x : X) → S k x → (w : List X) × (1 ≤ length w) × Follows (λ a b. Contains (succ a) b) x w × S last (end_of x w)
    cycle_from [] k last c f l x s = absurd l
    cycle_from (Enter j ∷ turns) k last c f l x s = cycle_from turns k last c.1 f l x s
    cycle_from (Leave j ∷ turns) k last c f (inl e) x s = let q = f x (subst (λ (i : ℕ). S i x) (sym e) s) in (q.0 ∷ [], omega arith, (q.1, tt), q.2)
    cycle_from (Leave j ∷ turns) k last c f (inr l) x s =
        let r = cycle_from turns k j c.1 c.0 l x s in
        let q = f (end_of x r.0) r.3 in
        (r.0 ++ q.0 ∷ [], omega (arith, length-append r.0 (q.0 ∷ [])), follows_push (λ a b. Contains (succ a) b) r.0 x q.0 r.2 q.1, subst (λ (z : X). S last z) (sym (end_more r.0 x q.0)) q.2)

  -- ---- more nodes are found

  module _ (a b : ℕ) (S S' : ℕ → X → Type 0) (grown : Grows a b S S') where
    leads_grow : (j k : ℕ) → j < a → Leads succ S j k → Leads succ S' j k
    leads_grow j k l h x s = let q = h x (grown.back j x l s) in (q.0, q.1, grown.stays k q.0 q.2)

    into_grow : (j : ℕ) (A : ℕ → Type 0) → j < a → LeadsInto succ S j A → LeadsInto succ S' j A
    into_grow j A l h x s y c = let q = h x (grown.back j x l s) y c in (q.0, q.1, grown.stays q.0 y q.2)

    follows_grow : (turns : List Turn) (k : ℕ) → AreInside a turns → FollowsOpen succ S turns k → FollowsOpen succ S' turns k
    follows_grow [] k i h = tt
    follows_grow (Enter j ∷ turns) k i h = follows_grow turns k i.1 h
    follows_grow (Leave j ∷ turns) k i h = leads_grow j k i.0 h

    chained_grow : (turns : List Turn) → AreInside a turns → IsChained succ S turns → IsChained succ S' turns
    chained_grow [] i h = tt
    chained_grow (t ∷ turns) i h = (follows_grow turns (number_of t) i.1 h.0, chained_grow turns i.1 h.1)

    covered_grow : (roots : ℕ) (A : ℕ → Type 0) (turns : List Turn) → AreInside a turns → IsCovered succ S roots A turns → IsCovered succ S' roots A turns
    covered_grow roots A [] i h = h
    covered_grow roots A (Enter j ∷ turns) i h = covered_grow roots (λ k. A k ⊎ (k ≡ j)) turns i.1 h
    covered_grow roots A (Leave j ∷ turns) i h = (into_grow j A i.0 h.0, covered_grow roots (λ k. A k ⊎ (k ≡ j)) turns i.1 h.1)

    ordered_grow : (left : List ℕ) → ((k : ℕ) → HasNode nat_eq left k → k < a) → IsOrdered succ S left → IsOrdered succ S' left
    ordered_grow [] i h = tt
    ordered_grow (k ∷ left) i h = (into_grow k (HasNode nat_eq left) (i k (inl (eq-eqb k k refl))) h.0, ordered_grow left (λ j m. i j (inr m)) h.1)

-- ---- the number was left before

pub sorting_skip : (found : ℕ) (marks : List Mark) (left : List ℕ) (k : ℕ) (turns : List Turn) → IsSorting found marks left (Turn.Enter k ∷ turns) → IsSorting found marks left turns
sorting_skip found marks left k turns s = record { len = s.len; inside = s.inside.1; opened = s.opened; leaving = s.leaving; done = s.done; was_done = s.was_done; once = s.once }

pub along_skip : {X : Type 0} (succ : X → List X) (S : ℕ → X → Type 0) (roots : ℕ) (marks : List Mark) (left : List ℕ) (k : ℕ) (turns : List Turn) → IsMarked marks Mark.Done k → IsAlong succ S roots marks left (Turn.Enter k ∷ turns) → IsAlong succ S roots marks left turns
along_skip succ S roots marks left k turns m h = record {
  ordered = h.ordered;
  chained = h.chained.1;
  covered = covered_weaken succ S roots (λ j. IsMarked marks Mark.Done j ⊎ (j ≡ k)) (IsMarked marks Mark.Done) (λ j d. elim d as (λ _. IsMarked marks Mark.Done j) [ inl p ↦ p | inr e ↦ subst (IsMarked marks Mark.Done) (sym e) m ]) turns h.covered;
}

-- ---- a new number is entered

module _ (found found' : ℕ) (marks marks' : List Mark) (left : List ℕ) (k : ℕ) (turns : List Turn) (s : IsSorting found marks left (Turn.Enter k ∷ turns)) (new : IsMarked marks Mark.New k) (more : found ≤ found')
    (e : marks' ≡ slice_set marks k Mark.Open ++ replicate (found' - length marks) Mark.New) (numbers : List ℕ) (below : (j : ℕ) → Contains numbers j → j < found') where
  inside_k : k < length marks
  inside_k = slice_get_within marks k Mark.New new

  not_left : (j : ℕ) (m : Mark) → ¬ (m ≡ Mark.New) → IsMarked marks m j → j ≢ k
  not_left j m n h q = n (same_mark marks k m Mark.New (subst (λ (i : ℕ). IsMarked marks m i) q h) new)

  keeps_done : (j : ℕ) → IsMarked marks Mark.Done j → IsMarked marks' Mark.Done j
  keeps_done j h = mark_other marks marks' k Mark.Open (found' - length marks) e inside_k j Mark.Done (not_left j Mark.Done differ_new h) h

  left_open : (ts : List Turn) (j : ℕ) → LeaveOpen marks ts → IsLeft ts j → IsMarked marks Mark.Open j
  left_open [] j o l = absurd l
  left_open (Enter i ∷ ts) j o l = left_open ts j o l
  left_open (Leave i ∷ ts) j o (inl q) = subst (IsMarked marks Mark.Open) q o.0
  left_open (Leave i ∷ ts) j o (inr l) = left_open ts j o.2 l

  abbrev turns' : List Turn
  turns' = entries numbers ++ Turn.Leave k ∷ turns

  pub sorting_enter : IsSorting found' marks' left (entries numbers ++ Turn.Leave k ∷ turns)
  sorting_enter = record {
    len = ap length e ∙ length-append (slice_set marks k Mark.Open) (replicate (found' - length marks) Mark.New) ∙ sizes;
    inside = inside_entries found' numbers (Turn.Leave k ∷ turns) below (omega (arith, s.inside.0, more), AreInside-more found found' turns more s.inside.1);
    opened = λ j h. elim (mark_from marks marks' k Mark.Open (found' - length marks) e inside_k j Mark.Open (λ q. differ_open (sym q)) h) as (λ _. IsLeft turns' j) [
      | inl q ↦ is_left_entries numbers (Turn.Leave k ∷ turns) j (inl (sym q.0))
      | inr q ↦ is_left_entries numbers (Turn.Leave k ∷ turns) j (inr (s.opened j q.1))
    ];
    leaving = leave_open_entries marks' numbers (Turn.Leave k ∷ turns) (
      mark_now marks marks' k Mark.Open (found' - length marks) e inside_k,
      (λ l. differ_open (sym (same_mark marks k Mark.Open Mark.New (left_open turns k s.leaving l) new))),
      LeaveOpen-same marks marks' turns (λ j l o. mark_other marks marks' k Mark.Open (found' - length marks) e inside_k j Mark.Open (not_left j Mark.Open (λ q. differ_open (sym q)) o) o) s.leaving,
    );
    done = λ j h. elim (mark_from marks marks' k Mark.Open (found' - length marks) e inside_k j Mark.Done differ_new h) as (λ _. HasNode nat_eq left j) [
      | inl q ↦ absurd (differ_done q.1)
      | inr q ↦ s.done j q.1
    ];
    was_done = λ j h. keeps_done j (s.was_done j h);
    once = s.once;
  }
    where
      set_len : {A : Type 0} (xs : List A) (i : ℕ) (v : A) → length (slice_set xs i v) ≡ length xs
      set_len [] i v = refl
      set_len (x ∷ xs) zero v = refl
      set_len (x ∷ xs) (suc i) v = ap suc (set_len xs i v)

      sizes : length (slice_set marks k Mark.Open) + length (replicate (found' - length marks) Mark.New) ≡ found'
      sizes = omega (arith, set_len marks k Mark.Open, replicate_len (found' - length marks) Mark.New, s.len, more)

  pub count_enter : entered_count marks' ≡ entered_count marks + 1
  count_enter = ap entered_count e ∙ entered_behind (slice_set marks k Mark.Open) (found' - length marks) ∙ count_by-set_more was_entered marks k Mark.Open Mark.New new refl refl

  pub along_enter : {X : Type 0} (succ : X → List X) (S S' : ℕ → X → Type 0) → Grows found found' S S' → ((x : X) → S k x → AllZip S' numbers (succ x)) → (roots : ℕ) → IsAlong succ S roots marks left (Turn.Enter k ∷ turns) → IsAlong succ S' roots marks' left (entries numbers ++ Turn.Leave k ∷ turns)
  along_enter succ S S' grown row roots h =
      let row' : (x : _) → S' k x → AllZip S' numbers (succ x) = λ x t. row x (grown.back k x s.inside.0 t) in
      record {
        ordered = ordered_grow succ found found' S S' grown left (λ j m. subst (λ (n : ℕ). j < n) s.len (slice_get_within marks j Mark.Done (s.was_done j m))) h.ordered;
        chained = chained_entries succ S' numbers k turns (row_leads succ S' k numbers row') (follows_grow succ found found' S S' grown turns k s.inside.1 h.chained.0) (chained_grow succ found found' S S' grown turns s.inside.1 h.chained.1);
        covered = covered_entries succ S' roots (IsMarked marks' Mark.Done) numbers (Turn.Leave k ∷ turns) (
          into_weaken succ S' k (HasNode nat_eq numbers) (λ j. IsMarked marks' Mark.Done j ⊎ HasNode nat_eq numbers j) (λ j i. inr i) (row_into succ S' k numbers row'),
          covered_weaken succ S' roots (λ j. IsMarked marks Mark.Done j ⊎ (j ≡ k)) (λ j. (IsMarked marks' Mark.Done j ⊎ HasNode nat_eq numbers j) ⊎ (j ≡ k)) (λ j d. elim d as (λ _. (IsMarked marks' Mark.Done j ⊎ HasNode nat_eq numbers j) ⊎ (j ≡ k)) [ inl p ↦ inl (inl (keeps_done j p)) | inr q ↦ inr q ]) turns
              (covered_grow succ found found' S S' grown roots (λ j. IsMarked marks Mark.Done j ⊎ (j ≡ k)) turns s.inside.1 h.covered),
        );
      }

-- ---- a number is left

module _ (found : ℕ) (marks marks' : List Mark) (left : List ℕ) (k : ℕ) (turns : List Turn) (s : IsSorting found marks left (Turn.Leave k ∷ turns)) (e : marks' ≡ slice_set marks k Mark.Done) where
  left_k : k < length marks
  left_k = slice_get_within marks k Mark.Open s.leaving.0

  e' : marks' ≡ slice_set marks k Mark.Done ++ replicate 0 Mark.New
  e' = e ∙ sym (append-nil (slice_set marks k Mark.Done))

  marked : (j : ℕ) → IsMarked marks Mark.Done j ⊎ (j ≡ k) → IsMarked marks' Mark.Done j
  marked j (inl h) = mark_other marks marks' k Mark.Done 0 e' left_k j Mark.Done (λ q. differ_done (same_mark marks k Mark.Done Mark.Open (subst (IsMarked marks Mark.Done) q h) s.leaving.0)) h
  marked j (inr q) = subst (IsMarked marks' Mark.Done) (sym q) (mark_now marks marks' k Mark.Done 0 e' left_k)

  pub sorting_leave : IsSorting found marks' (k ∷ left) turns
  sorting_leave = record {
    len = ap length e ∙ set_len marks k Mark.Done ∙ s.len;
    inside = s.inside.1;
    opened = λ j h. elim (mark_from marks marks' k Mark.Done 0 e' left_k j Mark.Open (λ q. differ_open (sym q)) h) as (λ _. IsLeft turns j) [
      | inl q ↦ absurd (differ_done (sym q.1))
      | inr q ↦ elim (s.opened j q.1) as (λ _. IsLeft turns j) [ inl i ↦ absurd (q.0 (sym i)) | inr l ↦ l ]
    ];
    leaving = LeaveOpen-same marks marks' turns (λ j l o. mark_other marks marks' k Mark.Done 0 e' left_k j Mark.Open (λ q. s.leaving.1 (subst (IsLeft turns) q l)) o) s.leaving.2;
    done = λ j h. elim (mark_from marks marks' k Mark.Done 0 e' left_k j Mark.Done differ_new h) as (λ _. HasNode nat_eq (k ∷ left) j) [
      | inl q ↦ inl (eq-eqb k j (sym q.0))
      | inr q ↦ inr (s.done j q.1)
    ];
    was_done = λ j h. elim h as (λ _. IsMarked marks' Mark.Done j) [ inl q ↦ marked j (inr (sym (eqb-true k j q))) | inr i ↦ marked j (inl (s.was_done j i)) ];
    once = ((λ h. differ_done (same_mark marks k Mark.Done Mark.Open (s.was_done k h) s.leaving.0)), s.once);
  }
    where
      set_len : {A : Type 0} (xs : List A) (i : ℕ) (v : A) → length (slice_set xs i v) ≡ length xs
      set_len [] i v = refl
      set_len (x ∷ xs) zero v = refl
      set_len (x ∷ xs) (suc i) v = ap suc (set_len xs i v)

  pub count_leave : entered_count marks' ≡ entered_count marks
  count_leave = ap entered_count e ∙ count_by-set was_entered marks k Mark.Done Mark.Open s.leaving.0 refl

  pub along_leave : {X : Type 0} (succ : X → List X) (S : ℕ → X → Type 0) (roots : ℕ) → IsAlong succ S roots marks left (Turn.Leave k ∷ turns) → IsAlong succ S roots marks' (k ∷ left) turns
  along_leave succ S roots h = record {
    ordered = (into_weaken succ S k (IsMarked marks Mark.Done) (HasNode nat_eq left) (λ j d. s.done j d) h.covered.0, h.ordered);
    chained = h.chained.1;
    covered = covered_weaken succ S roots (λ j. IsMarked marks Mark.Done j ⊎ (j ≡ k)) (IsMarked marks' Mark.Done) marked turns h.covered.1;
  }

-- ---- the end

pub ordered_reach : {X : Type 0} (succ : X → List X) (S : ℕ → X → Type 0) (roots found : ℕ) (marks : List Mark) (left : List ℕ) → IsSorting found marks left [] → IsAlong succ S roots marks left [] → IsOrderedReach succ S roots found left
ordered_reach succ S roots found marks left s h = record {
  inside = λ k i. subst (λ (n : ℕ). k < n) s.len (slice_get_within marks k Mark.Done (s.was_done k (member_of left k i)));
  once = s.once;
  ordered = h.ordered;
  all_roots = λ k l. s.done k (h.covered k l);
}

pub on_cycle : {X : Type 0} (succ : X → List X) (S : ℕ → X → Type 0) (roots found : ℕ) (marks : List Mark) (left : List ℕ) (k : ℕ) (turns : List Turn) → IsSorting found marks left (Turn.Enter k ∷ turns) → IsAlong succ S roots marks left (Turn.Enter k ∷ turns) → IsMarked marks Mark.Open k → IsOnNumberedCycle succ S k
on_cycle succ S roots found marks left k turns s h m x t = cycle_from succ S turns k k h.chained.1 h.chained.0 (s.opened k m) x t

pub entered_few : (marks : List Mark) → entered_count marks ≤ length marks
entered_few marks = count_by-le-length was_entered marks

pub new_counts : (marks : List Mark) (k : ℕ) → IsMarked marks Mark.New k → entered_count marks + 1 ≤ length marks
new_counts marks k h = omega (arith, count_by-set_more was_entered marks k Mark.Open Mark.New h refl refl, count_by-le-length was_entered (slice_set marks k Mark.Open), set_len marks k Mark.Open)
  where
    set_len : {A : Type 0} (xs : List A) (i : ℕ) (v : A) → length (slice_set xs i v) ≡ length xs
    set_len [] i v = refl
    set_len (x ∷ xs) zero v = refl
    set_len (x ∷ xs) (suc i) v = ap suc (set_len xs i v)

pub turn_inside : (found : ℕ) (marks : List Mark) (left : List ℕ) (turn : Turn) (turns : List Turn) → IsSorting found marks left (turn ∷ turns) → number_of turn < length marks
turn_inside found marks left turn turns s = omega (arith, s.inside.0, s.len)
