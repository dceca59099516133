-- Floods: what a turn of one changes, that it ends with exactly the positions in reach, and the set that they are put into.
use Rattle.std.proofs.Common.{◌≡◌, ◌≢◌, ℕ, zero, suc, ◌+◌, ◌-◌, ◌*◌, ◌<◌, ◌≤◌, ◌∙◌, refl, sym, ap, subst, arith, inl, inr, Bool, true, false, true≢false, Option, Some, None, List, [], ◌∷◌, ◌++◌, length, get_or, length-append, cond}
use Rattle.std.specs.Prelude.{◌↔◌, ◌&&◌, ◌⊎◌, Contains, nat_lt, not, if◌then◌else◌, ◌||◌, slice_get, slice_set}
use Rattle.std.specs.Ordering.{nat_cmp, eq_by_cmp, is_eq}
use Rattle.std.specs.Bool.{Decides}
use Rattle.std.specs.Cmp.{IsTotalOrder, nat_cmp_total, on_total, then_total, tied_itself}
use Rattle.std.specs.List.{AllByRecursion, cons_option, filter, filter_map}
use Rattle.std.specs.BTreeSet.{BTreeSet, IsFromIterResult}
use Rattle.std.proofs.lemmas.Bool.{lt-ltb, ltb-true, ltb-false}
use Rattle.std.proofs.lemmas.Map.Lookups.{CmpEqualImpliesEq, exact_pairs, exact_unsigned}
use Rattle.std.proofs.lemmas.Map.Made.{is_member-Decides}
use Rattle.std.proofs.lemmas.Map.Views.{btree_set_contains_iff, tells_apart}
use Rattle.std.proofs.lemmas.List.{get_or-set_other, get_or-set_same, set-get_or}
use Rattle.std.proofs.lemmas.Option.{slice_get-get_or, slice_get_within, get_or_from_slice_get}
use Rattle.std.specs.Option.{option_zip}
use Rattle.pf_base.specs.Shifts.{is_diagonal}
use Rattle.pf_base.specs.Walks.{HasNode, Follows, end_of, IsGoalWalk, IsReachable}
use Rattle.pf_base.specs.Successors.{HasSuccessor}
use Rattle.pf_base.proofs.ListLemmas.{get-append, get_at_end, get_push, none_in}
use Rattle.pf_base.proofs.Tables.{pair_refl, pair_exact, successors_keep}
use Rattle.pf_matrix.specs.Calls.{CallableInTurn, GivesInTurn}
use Rattle.pf_matrix.specs.Floods.{HasReached, answer_at, same_position}
use Rattle.pf_matrix.specs.Internal.Flooding.{Has, free_count, IsFlooding, Spreads}
use Rattle.pf_matrix.specs.Internal.PositionOrder.{position_cmp}
use Rattle.pf_matrix.specs.Tables.{Table, value_at}
use Rattle.pf_matrix.specs.Positions.{positions, neighbours_of, neighbour_at, around, shifted}
use Rattle.pf_matrix.proofs.PositionLemmas.{get_or-positions}
use Rattle.pf_base.specs.declared.shift.Shift.{Shift}
use Rattle.pf_base.specs.declared.shift.Shift.TheVariants.{Before, Same, After}

-- ---- a set that is made of a list of positions

position_total : IsTotalOrder position_cmp
position_total = then_total (on_total (λ (p : ℕ × ℕ). p.0) nat_cmp_total) (on_total (λ (p : ℕ × ℕ). p.1) nat_cmp_total)

positions_apart : CmpEqualImpliesEq position_cmp
positions_apart = exact_pairs nat_cmp nat_cmp exact_unsigned exact_unsigned

position_decides : (p q : ℕ × ℕ) → Decides (eq_by_cmp position_cmp p q) (p ≡ q)
position_decides p q = (tells_apart positions_apart p q, λ e. subst (λ z. eq_by_cmp position_cmp p z ≡ true) e (ap is_eq (tied_itself position_total p)))

-- it has the positions of the list
pub made_of : (ps : List (ℕ × ℕ)) (s : BTreeSet (ℕ × ℕ)) → IsFromIterResult position_cmp ps s → (p : ℕ × ℕ) → Contains s.keys p ↔ Contains ps p
made_of ps s made p =
    let kept = btree_set_contains_iff position_total positions_apart s p in
    let listed = is_member-Decides position_decides ps p in (
      λ h. listed.0 (sym (made.0 p) ∙ kept.1 h),
      λ h. kept.0 (made.0 p ∙ listed.1 h),
    )

-- ---- lists of positions

pub has_contained : (ps : List (ℕ × ℕ)) (p : ℕ × ℕ) → Contains ps p → Has ps p
has_contained ps p h = (h.0, slice_get-get_or ps h.0 p h.1 ∙ ap Some h.2)

pub contained_has : (ps : List (ℕ × ℕ)) (p : ℕ × ℕ) → Has ps p → Contains ps p
contained_has ps p h = (h.0, slice_get_within ps h.0 p h.1, get_or_from_slice_get ps h.0 p p h.1)

pub has_head : (ps : List (ℕ × ℕ)) (q p : ℕ × ℕ) → Has (q ∷ ps) p → (q ≡ p) ⊎ Has ps p
has_head ps q p (zero, e) = inl (let f : Some q ≡ Some p = e in cc)
has_head ps q p (suc k, e) = inr (k, e)

-- what holds of all that pass in a list, holds of all that it is narrowed to
all_passing : (P : ℕ × ℕ → Type 0) (passes : ℕ × ℕ → Bool) (ps : List (ℕ × ℕ)) → ((p : ℕ × ℕ) → Has ps p → passes p ≡ true → P p) → AllByRecursion P (filter passes ps)
all_passing P passes [] h = tt
all_passing P passes (q ∷ ps) h = by (passes q) refl (all_passing P passes ps (λ p m e. h p (suc m.0, m.1) e))
  where
    by : (b : Bool) → passes q ≡ b → AllByRecursion P (filter passes ps) → AllByRecursion P (cond b (q ∷ filter passes ps) (filter passes ps))
    by true e r = (h q (0, refl) e, r)
    by false e r = r

passing_node : (passes : ℕ × ℕ → Bool) (ps : List (ℕ × ℕ)) (p : ℕ × ℕ) → Has ps p → passes p ≡ true → HasNode same_position (filter passes ps) p
passing_node passes [] p h e = absurd (none_in h.0 p h.1)
passing_node passes (q ∷ ps) p h e = by (passes q) refl (has_head ps q p h) (λ m. passing_node passes ps p m e)
  where
    by : (b : Bool) → passes q ≡ b → (q ≡ p) ⊎ Has ps p → (Has ps p → HasNode same_position (filter passes ps) p) → HasNode same_position (cond b (q ∷ filter passes ps) (filter passes ps)) p
    by true f (inl i) more = inl (subst (λ z. same_position q z ≡ true) i (pair_refl q))
    by true f (inr m) more = inr (more m)
    by false f (inl i) more = absurd (true≢false (sym e ∙ ap passes (sym i) ∙ f))
    by false f (inr m) more = more m

all_weaker : (P Q : ℕ × ℕ → Type 0) (ps : List (ℕ × ℕ)) → ((p : ℕ × ℕ) → P p → Q p) → AllByRecursion P ps → AllByRecursion Q ps
all_weaker P Q [] f h = tt
all_weaker P Q (p ∷ ps) f h = (f p h.0, all_weaker P Q ps f h.1)

-- ---- a step from a position in reach leads to one in reach

module _ (next : ℕ × ℕ → List (ℕ × ℕ)) (start : ℕ × ℕ) where
  abbrev InFlood : ℕ × ℕ → Type 0
  InFlood = IsReachable same_position (HasSuccessor same_position next) (start ∷ [])

  follows_more : (w : List (ℕ × ℕ)) (a b : ℕ × ℕ) → Follows (HasSuccessor same_position next) a w → HasSuccessor same_position next (end_of a w) b → Follows (HasSuccessor same_position next) a (w ++ b ∷ [])
  follows_more [] a b f s = (s, tt)
  follows_more (c ∷ w) a b f s = (f.0, follows_more w c b f.1 s)

  end_more : (w : List (ℕ × ℕ)) (a b : ℕ × ℕ) → end_of a (w ++ b ∷ []) ≡ b
  end_more [] a b = refl
  end_more (c ∷ w) a b = end_more w c b

  start_in : InFlood start
  start_in = record { walk = start ∷ []; goes = record { walks = tt; begins = inl (pair_refl start); ends = pair_refl start } }

  step_in : (a b : ℕ × ℕ) → InFlood a → HasSuccessor same_position next a b → InFlood b
  step_in a b r s = by r.walk r.goes
    where
      by : (w : List (ℕ × ℕ)) → IsGoalWalk same_position (HasSuccessor same_position next) (start ∷ []) (λ y. same_position y a) w → InFlood b
      by [] g = absurd g.walks
      by (c ∷ w) g = record {
        walk = c ∷ (w ++ b ∷ []);
        goes = record {
          walks = follows_more w c b g.walks (subst (λ z. HasSuccessor same_position next z b) (sym (pair_exact (end_of c w) a g.ends)) s);
          begins = g.begins;
          ends = subst (λ y. same_position y b ≡ true) (sym (end_more w c b)) (pair_refl b);
        };
      }

-- ---- turns of a flood

-- nothing nearby was looked at
pub spreads_none : (near : List (ℕ × ℕ)) (free : ℕ × ℕ → Bool) (reached : List (ℕ × ℕ)) → Spreads near near free free reached reached
spreads_none near free reached = record { kept = λ k p h. h; new = λ p h. inl h; closes = λ p h. h; found = λ p h. inl h; done = λ p h o. inl h; left = λ p h. h }

module _ (near rest : List (ℕ × ℕ)) (q : ℕ × ℕ) (free free' : ℕ × ℕ → Bool) (reached reached' : List (ℕ × ℕ)) (s : Spreads near (q ∷ rest) free free' reached reached') where
  -- the next one is not free
  pub spreads_past : free' q ≡ false → Spreads near rest free free' reached reached'
  spreads_past shut = record {
    kept = s.kept;
    new = s.new;
    closes = s.closes;
    found = s.found;
    done = λ p h o. elim (s.done p h o) as (λ _. Has rest p ⊎ Has reached' p) [
      | inl m ↦ elim (has_head rest q p m) as (λ _. Has rest p ⊎ Has reached' p) [
        | inl e ↦ inr (elim (s.found p o) as (λ _. Has reached' p) [ inl f ↦ absurd (true≢false (sym f ∙ ap free' (sym e) ∙ shut)) | inr f ↦ f ])
        | inr r ↦ inl r
      ]
      | inr r ↦ inr r
    ];
    left = λ p h. s.left p (suc h.0, h.1);
  }

  -- the next one is free, is reached and is closed
  pub spreads_more : (free'' : ℕ × ℕ → Bool) (reached'' : List (ℕ × ℕ)) → free' q ≡ true → reached'' ≡ reached' ++ q ∷ []
      → ((p : ℕ × ℕ) → free'' p ≡ true → free' p ≡ true) → ((p : ℕ × ℕ) → free' p ≡ true → (free'' p ≡ true) ⊎ (p ≡ q)) → Spreads near rest free free'' reached reached''
  spreads_more free'' reached'' was put closes closed =
      let more : (p : ℕ × ℕ) → Has reached' p → Has reached'' p = λ p h. (h.0, ap (λ ps. slice_get ps h.0) put ∙ get-append reached' (q ∷ []) h.0 p h.1) in
      let here : Has reached'' q = (length reached', ap (λ ps. slice_get ps (length reached')) put ∙ get_at_end reached' q) in
      record {
        kept = λ k p h. ap (λ ps. slice_get ps k) put ∙ get-append reached' (q ∷ []) k p (s.kept k p h);
        new = λ p h. elim (get_push reached' q h.0 p (ap (λ ps. slice_get ps h.0) (sym put) ∙ h.1)) as (λ _. Has reached p ⊎ (Has near p × (free p ≡ true))) [
          | inl m ↦ s.new p (h.0, m)
          | inr e ↦ inr (subst (λ z. Has near z × (free z ≡ true)) e.1 (s.left q (0, refl), s.closes q was))
        ];
        closes = λ p h. s.closes p (closes p h);
        found = λ p o. elim (s.found p o) as (λ _. (free'' p ≡ true) ⊎ Has reached'' p) [
          | inl f ↦ elim (closed p f) as (λ _. (free'' p ≡ true) ⊎ Has reached'' p) [ inl g ↦ inl g | inr e ↦ inr (subst (Has reached'') (sym e) here) ]
          | inr f ↦ inr (more p f)
        ];
        done = λ p h o. elim (s.done p h o) as (λ _. Has rest p ⊎ Has reached'' p) [
          | inl m ↦ elim (has_head rest q p m) as (λ _. Has rest p ⊎ Has reached'' p) [ inl e ↦ inr (subst (Has reached'') e here) | inr r ↦ inl r ]
          | inr r ↦ inr (more p r)
        ];
        left = λ p h. s.left p (suc h.0, h.1);
      }

module _ (near : ℕ × ℕ → List (ℕ × ℕ)) (passes : ℕ × ℕ → Bool) (start : ℕ × ℕ) where
  abbrev Beside : ℕ × ℕ → List (ℕ × ℕ)
  Beside p = filter passes (near p)

  pub flooding_begun : IsFlooding Beside passes start passes (start ∷ []) 0
  flooding_begun = record {
    begins = refl;
    sound = λ p h. elim (has_head [] start p h) as (λ _. InFlood Beside start p) [ inl e ↦ subst (InFlood Beside start) e (start_in Beside start) | inr m ↦ absurd (none_in m.0 p m.1) ];
    passing = λ p h. h;
    found = λ p h. inl h;
    closed = λ k p h l. absurd (omega (arith, l));
  }

  module _ (free free' : ℕ × ℕ → Bool) (reached reached' : List (ℕ × ℕ)) (n : ℕ) (at : ℕ × ℕ) where
    -- what was free around the n-th one that was reached is reached
    pub flooding_on : IsFlooding Beside passes start free reached n → slice_get reached n ≡ Some at → Spreads (near at) [] free free' reached reached' → IsFlooding Beside passes start free' reached' (n + 1)
    flooding_on f here s =
        let more : (p : ℕ × ℕ) → Has reached p → Has reached' p = λ p h. (h.0, s.kept h.0 p h.1) in
        let all : (p : ℕ × ℕ) → Has (near at) p → passes p ≡ true → Has reached' p = λ p h e. elim (f.found p e) as (λ _. Has reached' p) [
          | inl o ↦ elim (s.done p h o) as (λ _. Has reached' p) [ inl m ↦ absurd (none_in m.0 p m.1) | inr m ↦ m ]
          | inr m ↦ more p m
        ] in
        record {
          begins = s.kept 0 start f.begins;
          sound = λ p h. elim (s.new p h) as (λ _. InFlood Beside start p) [
            | inl m ↦ f.sound p m
            | inr m ↦ step_in Beside start at p (f.sound at (n, here)) (passing_node passes (near at) p m.0 (f.passing p m.1))
          ];
          passing = λ p h. f.passing p (s.closes p h);
          found = λ p e. elim (f.found p e) as (λ _. (free' p ≡ true) ⊎ Has reached' p) [ inl o ↦ s.found p o | inr m ↦ inr (more p m) ];
          closed = λ k p h l. elim (before k l) as (λ _. AllByRecursion (Has reached') (Beside p)) [
            | inl b ↦ all_weaker (Has reached) (Has reached') (Beside p) more (f.closed k p (first k p h (omega (arith, b, slice_get_within reached n at here))) b)
            | inr e ↦ subst (λ z. AllByRecursion (Has reached') (Beside z)) (same k p h e) (all_passing (Has reached') passes (near at) all)
          ];
        }
      where
        before : (k : ℕ) → k < n + 1 → (k < n) ⊎ (k ≡ n)
        before k l = by (nat_lt k n) refl
          where
            by : (b : Bool) → nat_lt k n ≡ b → (k < n) ⊎ (k ≡ n)
            by true e = inl (ltb-true k n e)
            by false e = inr (omega (arith, l, ltb-false k n e))

        first : (k : ℕ) (p : ℕ × ℕ) → slice_get reached' k ≡ Some p → k < length reached → slice_get reached k ≡ Some p
        first k p h l =
            let m = slice_get-get_or reached k p l in
            m ∙ sym (s.kept k (get_or reached k p) m) ∙ h

        same : (k : ℕ) (p : ℕ × ℕ) → slice_get reached' k ≡ Some p → k ≡ n → at ≡ p
        same k p h e =
            let both : Some at ≡ Some p = sym (s.kept n at here) ∙ ap (slice_get reached') (sym e) ∙ h in
            cc

  -- once nothing is left to look around, exactly the positions in reach were reached
  pub flood_ended : (free : ℕ × ℕ → Bool) (reached : List (ℕ × ℕ)) (n : ℕ) (s : BTreeSet (ℕ × ℕ)) → IsFlooding Beside passes start free reached n → length reached ≤ n → ((p : ℕ × ℕ) → Contains s.keys p ↔ Has reached p) → HasReached Beside start s
  flood_ended free reached n s f l made p =
      let m = made p in (
        λ h. f.sound p (m.0 h),
        λ h. m.1 (successors_keep same_position Beside (Has reached) (λ a b e h. subst (Has reached) (pair_exact a b e) h)
            (λ a h. f.closed h.0 a h.1 (omega (arith, l, slice_get_within reached h.0 a h.1))) (start ∷ []) ((0, f.begins), tt) p h),
      )

-- a start without steps is reached alone
pub flood_alone : (next : ℕ × ℕ → List (ℕ × ℕ)) (start : ℕ × ℕ) (s : BTreeSet (ℕ × ℕ)) → next start ≡ [] → s.keys ≡ start ∷ [] → HasReached next start s
flood_alone next start s none one p =
    let alone : (q : ℕ × ℕ) → Has (start ∷ []) q → start ≡ q = λ q h. elim (has_head [] start q h) as (λ _. start ≡ q) [ inl e ↦ e | inr m ↦ absurd (none_in m.0 q m.1) ] in (
      λ h. subst (InFlood next start) (alone p (has_contained (start ∷ []) p (subst (λ ks. Contains ks p) one h))) (start_in next start),
      λ h. subst (λ ks. Contains ks p) (sym one) (contained_has (start ∷ []) p (successors_keep same_position next (Has (start ∷ [])) (λ a b e h. subst (Has (start ∷ [])) (pair_exact a b e) h)
          (λ a h. subst (AllByRecursion (Has (start ∷ []))) (sym (ap next (sym (alone a h)) ∙ none)) tt) (start ∷ []) ((0, refl), tt) p h)),
    )

-- ---- where neighbours lie

all_mapped : {X Y : Type 0} (f : X → Option Y) (P : Y → Type 0) (xs : List X) → ((x : X) (y : Y) → f x ≡ Some y → P y) → AllByRecursion P (filter_map f xs)
all_mapped f P [] h = tt
all_mapped {Y = Y} f P (x ∷ xs) h = by (f x) refl (all_mapped f P xs h)
  where
    by : (o : Option Y) → f x ≡ o → AllByRecursion P (filter_map f xs) → AllByRecursion P (cons_option o (filter_map f xs))
    by None e r = r
    by (Some y) e r = (h x y e, r)

both_parts : (a b : Option ℕ) (p : ℕ × ℕ) → option_zip a b ≡ Some p → (a ≡ Some p.0) × (b ≡ Some p.1)
both_parts None b p e = absurd (cc)
both_parts (Some r) None p e = absurd (cc)
both_parts (Some r) (Some c) p e = let f : (r, c) ≡ p = cc in (ap (λ (q : ℕ × ℕ). Some q.0) f, ap (λ (q : ℕ × ℕ). Some q.1) f)

shifted_below : (n at : ℕ) (s : Shift) (k : ℕ) → at < n → shifted n at s ≡ Some k → k < n
shifted_below n at Before k l e = by (nat_lt 0 at) e
  where
    by : (b : Bool) → (if b then Some (at - 1) else None) ≡ Some k → k < n
    by true e = let f : at - 1 ≡ k = cc in omega (arith, f, l)
    by false e = absurd (cc)
shifted_below n at Same k l e = let f : at ≡ k = cc in omega (arith, f, l)
shifted_below n at After k l e = by (nat_lt (at + 1) n) refl e
  where
    by : (b : Bool) → nat_lt (at + 1) n ≡ b → (if b then Some (at + 1) else None) ≡ Some k → k < n
    by true t e = let f : at + 1 ≡ k = cc in omega (arith, f, ltb-true (at + 1) n t)
    by false t e = absurd (cc)

module _ (rows columns : ℕ) (diagonals : Bool) where
  neighbour_inside : (r c : ℕ) (to : Shift × Shift) (p : ℕ × ℕ) → r < rows → c < columns → neighbour_at rows columns r c diagonals to ≡ Some p → (p.0 < rows) × (p.1 < columns)
  neighbour_inside r c to p h k e = by (diagonals || not (is_diagonal to)) e
    where
      by : (b : Bool) → (if b then option_zip (shifted rows r to.0) (shifted columns c to.1) else None) ≡ Some p → (p.0 < rows) × (p.1 < columns)
      by true e = let parts = both_parts (shifted rows r to.0) (shifted columns c to.1) p e in (shifted_below rows r to.0 p.0 h parts.0, shifted_below columns c to.1 p.1 k parts.1)
      by false e = absurd (cc)

  pub neighbours_all : (P : ℕ × ℕ → Type 0) → ((p : ℕ × ℕ) → p.0 < rows → p.1 < columns → P p) → (r c : ℕ) → AllByRecursion P (neighbours_of rows columns r c diagonals)
  neighbours_all P inside r c = by (nat_lt r rows) (nat_lt c columns) refl refl
    where
      by : (a b : Bool) → nat_lt r rows ≡ a → nat_lt c columns ≡ b → AllByRecursion P (if a && b then filter_map (neighbour_at rows columns r c diagonals) around else [])
      by true true s t = all_mapped (neighbour_at rows columns r c diagonals) P around (λ to p e. let q = neighbour_inside r c to p (ltb-true r rows s) (ltb-true c columns t) e in inside p q.0 q.1)
      by true false s t = tt
      by false b s t = tt

-- ---- answers at positions

-- a position inside a table of these sizes
abbrev pub IsIn : ℕ → ℕ → ℕ × ℕ → Type 0
IsIn rows columns p = (p.0 < rows) × (p.1 < columns)

pub answer_outside : (rows columns : ℕ) (answers : List Bool) (p : ℕ × ℕ) → ¬ ((p.0 < rows) × (p.1 < columns)) → false ≡ answer_at rows columns answers p
answer_outside rows columns answers p n = by (nat_lt p.0 rows) (nat_lt p.1 columns) refl refl
  where
    by : (a b : Bool) → nat_lt p.0 rows ≡ a → nat_lt p.1 columns ≡ b → false ≡ (a && (b && get_or answers (p.0 * columns + p.1) false))
    by true true s t = absurd (n (ltb-true p.0 rows s, ltb-true p.1 columns t))
    by true false s t = refl
    by false b s t = refl

pub answer_inside : (rows columns : ℕ) (answers : List Bool) (p : ℕ × ℕ) → p.0 < rows → p.1 < columns → get_or answers (p.0 * columns + p.1) false ≡ answer_at rows columns answers p
answer_inside rows columns answers p h k =
    let v = get_or answers (p.0 * columns + p.1) false in
    sym (ap (λ (a : Bool). a && (nat_lt p.1 columns && v)) (lt-ltb p.0 rows h) ∙ ap (λ (b : Bool). b && v) (lt-ltb p.1 columns k))

-- where the answer is yes is inside
pub answer_true : (rows columns : ℕ) (answers : List Bool) (p : ℕ × ℕ) → answer_at rows columns answers p ≡ true → IsIn rows columns p
answer_true rows columns answers p e = by (nat_lt p.0 rows) (nat_lt p.1 columns) refl refl e
  where
    by : (a b : Bool) → nat_lt p.0 rows ≡ a → nat_lt p.1 columns ≡ b → (a && (b && get_or answers (p.0 * columns + p.1) false)) ≡ true → IsIn rows columns p
    by true true s t f = (ltb-true p.0 rows s, ltb-true p.1 columns t)
    by true false s t f = absurd (true≢false (sym f))
    by false b s t f = absurd (true≢false (sym f))

-- around a position outside there are no positions
pub none_outside : (rows columns : ℕ) (diagonals : Bool) (p : ℕ × ℕ) → ¬ (IsIn rows columns p) → neighbours_of rows columns p.0 p.1 diagonals ≡ []
none_outside rows columns diagonals p n = by (nat_lt p.0 rows) (nat_lt p.1 columns) refl refl
  where
    by : (a b : Bool) → nat_lt p.0 rows ≡ a → nat_lt p.1 columns ≡ b → (if a && b then filter_map (neighbour_at rows columns p.0 p.1 diagonals) around else []) ≡ []
    by true true s t = absurd (n (ltb-true p.0 rows s, ltb-true p.1 columns t))
    by true false s t = refl
    by false b s t = refl

-- calls at the same positions
pub given_on : {F X Y : Type 0} {step : F → X → Y → F → Type 0} {f : F} {xs zs : List X} {ys : List Y} → xs ≡ zs → GivesInTurn step f xs ys → GivesInTurn step f zs ys
given_on {step = step} {f = f} {ys = ys} e given = subst (λ ps. GivesInTurn step f ps ys) e given

pub callable_on : {F X Y : Type 0} {pre : F → X → Type 0} {step : F → X → Y → F → Type 0} {f : F} {xs zs : List X} → xs ≡ zs → CallableInTurn pre step f xs → CallableInTurn pre step f zs
callable_on {pre = pre} {step = step} {f = f} e callable = subst (λ ps. CallableInTurn pre step f ps) e callable

-- ---- an answer that is made no

module _ (rows columns : ℕ) (answers : List Bool) (q : ℕ × ℕ) (h : q.0 < rows) (k : q.1 < columns) where
  abbrev Shut : List Bool
  Shut = slice_set answers (q.0 * columns + q.1) false

  same_place : (p : ℕ × ℕ) → p.0 < rows → p.1 < columns → p.0 * columns + p.1 ≡ q.0 * columns + q.1 → p ≡ q
  same_place p l m e = sym (get_or-positions rows columns p.0 p.1 p l m) ∙ ap (λ n. get_or (positions rows columns) n p) e ∙ get_or-positions rows columns q.0 q.1 p h k

  -- elsewhere the answers stay
  shut_elsewhere : (p : ℕ × ℕ) → p ≢ q → answer_at rows columns Shut p ≡ answer_at rows columns answers p
  shut_elsewhere p n = by (nat_lt p.0 rows) (nat_lt p.1 columns) refl refl
    where
      by : (a b : Bool) → nat_lt p.0 rows ≡ a → nat_lt p.1 columns ≡ b → (a && (b && get_or Shut (p.0 * columns + p.1) false)) ≡ (a && (b && get_or answers (p.0 * columns + p.1) false))
      by true true s t = get_or-set_other answers (q.0 * columns + q.1) (p.0 * columns + p.1) false false (λ e. n (same_place p (ltb-true p.0 rows s) (ltb-true p.1 columns t) e))
      by true false s t = refl
      by false b s t = refl

  module _ (within : q.0 * columns + q.1 < length answers) where
    shut_here : answer_at rows columns Shut q ≡ false
    shut_here = sym (answer_inside rows columns Shut q h k) ∙ get_or-set_same answers (q.0 * columns + q.1) false false within

    same_or_not : (p : ℕ × ℕ) → (p ≡ q) ⊎ (p ≢ q)
    same_or_not p = by (same_position p q) refl
      where
        by : (b : Bool) → same_position p q ≡ b → (p ≡ q) ⊎ (p ≢ q)
        by true e = inl (pair_exact p q e)
        by false e = inr (λ f. absurd (true≢false (sym (subst (λ z. same_position p z ≡ true) f (pair_refl p)) ∙ e)))

    pub shut_closes : (p : ℕ × ℕ) → answer_at rows columns Shut p ≡ true → answer_at rows columns answers p ≡ true
    shut_closes p e = elim (same_or_not p) as (λ _. answer_at rows columns answers p ≡ true) [
      | inl f ↦ absurd (true≢false (sym e ∙ ap (answer_at rows columns Shut) f ∙ shut_here))
      | inr n ↦ sym (shut_elsewhere p n) ∙ e
    ]

    pub shut_closed : (p : ℕ × ℕ) → answer_at rows columns answers p ≡ true → (answer_at rows columns Shut p ≡ true) ⊎ (p ≡ q)
    shut_closed p e = elim (same_or_not p) as (λ _. (answer_at rows columns Shut p ≡ true) ⊎ (p ≡ q)) [
      | inl f ↦ inr f
      | inr n ↦ inl (shut_elsewhere p n ∙ e)
    ]

-- one yes less
pub shut_count : (answers : List Bool) (n : ℕ) → slice_get answers n ≡ Some true → free_count (slice_set answers n false) + 1 ≡ free_count answers
shut_count [] n h = absurd (none_in n true h)
shut_count (true ∷ answers) zero h = omega arith
shut_count (false ∷ answers) zero h = absurd (let e : Some false ≡ Some true = h in cc)
shut_count (true ∷ answers) (suc n) h = let e = shut_count answers n h in omega (arith, e)
shut_count (false ∷ answers) (suc n) h = shut_count answers n h

-- ---- one turn, as the table shows it

pub all_has : (P : ℕ × ℕ → Type 0) (ps : List (ℕ × ℕ)) → AllByRecursion P ps → (p : ℕ × ℕ) → Has ps p → P p
all_has P [] a p h = absurd (none_in h.0 p h.1)
all_has P (q ∷ ps) a p h = elim (has_head ps q p h) as (λ _. P p) [ inl e ↦ subst P e a.0 | inr m ↦ all_has P ps a.1 p m ]

pub near_in : (rows columns : ℕ) (diagonals : Bool) (at q : ℕ × ℕ) → Has (neighbours_of rows columns at.0 at.1 diagonals) q → IsIn rows columns q
near_in rows columns diagonals at q h = all_has (IsIn rows columns) (neighbours_of rows columns at.0 at.1 diagonals) (neighbours_all rows columns diagonals (IsIn rows columns) (λ p r c. (r, c)) at.0 at.1) q h

-- of the positions nearby, those that were free are reached and closed, but for the rest
pub record Spreading (first now : Table Bool) (near rest reached reached' : List (ℕ × ℕ)) : Type 0 where
  pub rows : now.rows ≡ first.rows
  pub columns : now.columns ≡ first.columns
  pub spreads : Spreads near rest (answer_at first.rows first.columns first.values) (answer_at first.rows first.columns now.values) reached reached'
  pub counted : free_count now.values + length reached' ≡ free_count first.values + length reached

pub spreading_none : (first : Table Bool) (near rest reached : List (ℕ × ℕ)) → rest ≡ near → Spreading first first near rest reached reached
spreading_none first near rest reached e =
    let answers = answer_at first.rows first.columns first.values in
    record {
      rows = refl;
      columns = refl;
      spreads = subst (λ ps. Spreads near ps answers answers reached reached) (sym e) (spreads_none near answers reached);
      counted = refl;
    }

module _ (first now : Table Bool) (near rest' rest reached reached' : List (ℕ × ℕ)) (q : ℕ × ℕ) (inside : (p : ℕ × ℕ) → Has near p → IsIn first.rows first.columns p) (here : rest' ≡ q ∷ rest) (t : Spreading first now near rest' reached reached') where
  s : Spreading first now near (q ∷ rest) reached reached'
  s = subst (λ ps. Spreading first now near ps reached reached') here t

  next_inside : IsIn first.rows first.columns q
  next_inside = inside q (s.spreads.left q (0, refl))

  pub next_in : IsIn now.rows now.columns q
  next_in = (rw s.rows next_inside.0, rw s.columns next_inside.1)

  module _ (now' : Table Bool) (below : q.0 * now.columns + q.1 < length now.values) (closed : now' ≡ record { rows = now.rows; columns = now.columns; values = slice_set now.values (q.0 * now.columns + q.1) false }) where
    place : q.0 * now.columns + q.1 ≡ q.0 * first.columns + q.1
    place = ap (λ (n : ℕ). q.0 * n + q.1) s.columns

    shut : now'.values ≡ slice_set now.values (q.0 * first.columns + q.1) false
    shut = ap (λ (t : Table Bool). t.values) closed ∙ ap (λ (n : ℕ). slice_set now.values n false) place

    within : q.0 * first.columns + q.1 < length now.values
    within = subst (λ (n : ℕ). n < length now.values) place below

    rows' : now'.rows ≡ first.rows
    rows' = ap (λ (t : Table Bool). t.rows) closed ∙ s.rows

    columns' : now'.columns ≡ first.columns
    columns' = ap (λ (t : Table Bool). t.columns) closed ∙ s.columns

    was : (b : Bool) → b ≡ value_at now q.0 q.1 false → answer_at first.rows first.columns now.values q ≡ b
    was b e = sym (answer_inside first.rows first.columns now.values q next_inside.0 next_inside.1) ∙ ap (λ (n : ℕ). get_or now.values n false) (sym place) ∙ sym e

    -- it was not free
    pub spreading_past : false ≡ value_at now q.0 q.1 false → Spreading first now' near rest reached reached'
    spreading_past e =
        let same : now'.values ≡ now.values = ap (λ (t : Table Bool). t.values) closed ∙ ap (slice_set now.values (q.0 * now.columns + q.1)) e ∙ set-get_or now.values (q.0 * now.columns + q.1) false in
        record {
          rows = rows';
          columns = columns';
          spreads = subst (λ vs. Spreads near rest (answer_at first.rows first.columns first.values) (answer_at first.rows first.columns vs) reached reached') (sym same)
              (spreads_past near rest q (answer_at first.rows first.columns first.values) (answer_at first.rows first.columns now.values) reached reached' s.spreads (was false e));
          counted = ap (λ vs. free_count vs + length reached') same ∙ s.counted;
        }

    -- it was free, and stands at the end of the list
    pub spreading_more : (reached'' : List (ℕ × ℕ)) → true ≡ value_at now q.0 q.1 false → reached'' ≡ reached' ++ q ∷ [] → Spreading first now' near rest reached reached''
    spreading_more reached'' e put =
        let yes : slice_get now.values (q.0 * first.columns + q.1) ≡ Some true = slice_get-get_or now.values (q.0 * first.columns + q.1) false within ∙ ap (λ (n : ℕ). Some (get_or now.values n false)) (sym place) ∙ ap Some (sym e) in
        let fewer = shut_count now.values (q.0 * first.columns + q.1) yes in
        let longer : length reached'' ≡ length reached' + 1 = ap length put ∙ length-append reached' (q ∷ []) in
        record {
          rows = rows';
          columns = columns';
          spreads = subst (λ vs. Spreads near rest (answer_at first.rows first.columns first.values) (answer_at first.rows first.columns vs) reached reached'') (sym shut)
              (spreads_more near rest q (answer_at first.rows first.columns first.values) (answer_at first.rows first.columns now.values) reached reached' s.spreads
              (answer_at first.rows first.columns (slice_set now.values (q.0 * first.columns + q.1) false)) reached'' (was true e) put
              (shut_closes first.rows first.columns now.values q next_inside.0 next_inside.1 within) (shut_closed first.rows first.columns now.values q next_inside.0 next_inside.1 within));
          counted = omega (arith, s.counted, fewer, longer, ap free_count shut);
        }

-- ---- all turns

module _ (first : Table Bool) (near : ℕ × ℕ → List (ℕ × ℕ)) (start : ℕ × ℕ) where
  abbrev passes : ℕ × ℕ → Bool
  passes = answer_at first.rows first.columns first.values

  -- the table is flooded up to the first n positions that were reached
  pub record Flooding (now : Table Bool) (reached : List (ℕ × ℕ)) (n : ℕ) : Type 0 where
    pub rows : now.rows ≡ first.rows
    pub columns : now.columns ≡ first.columns
    pub flooding : IsFlooding (λ p. filter passes (near p)) passes start (answer_at first.rows first.columns now.values) reached n
    pub before : n ≤ length reached
    pub counted : free_count now.values + length reached ≡ free_count first.values + 1
    pub inside : (p : ℕ × ℕ) → Has reached p → IsIn first.rows first.columns p

  pub flooding_init : (reached : List (ℕ × ℕ)) → IsIn first.rows first.columns start → reached ≡ start ∷ [] → Flooding first reached 0
  flooding_init reached in_first e = record {
    inside = λ p h. elim (has_head [] start p (subst (λ ps. Has ps p) e h)) as (λ _. IsIn first.rows first.columns p) [ inl q ↦ subst (IsIn first.rows first.columns) q in_first | inr m ↦ absurd (none_in m.0 p m.1) ];
    rows = refl;
    columns = refl;
    flooding = subst (λ ps. IsFlooding (λ p. filter passes (near p)) passes start passes ps 0) (sym e) (flooding_begun near passes start);
    before = omega arith;
    counted = ap (λ ps. free_count first.values + length ps) e;
  }

  pub flooding_turn : (now now' : Table Bool) (reached reached' : List (ℕ × ℕ)) (n : ℕ) (at : ℕ × ℕ) → Flooding now reached n → n < length reached → at ≡ get_or reached n at
      → (now'.rows ≡ now.rows) × (now'.columns ≡ now.columns)
      → Spreads (near at) [] (answer_at now.rows now.columns now.values) (answer_at now.rows now.columns now'.values) reached reached'
      → free_count now'.values + length reached' ≡ free_count now.values + length reached → Flooding now' reached' (n + 1)
  flooding_turn now now' reached reached' n at f below is sizes spreads counted =
      let there : slice_get reached n ≡ Some at = slice_get-get_or reached n at below ∙ ap Some (sym is) in
      let s : Spreads (near at) [] (answer_at first.rows first.columns now.values) (answer_at first.rows first.columns now'.values) reached reached' =
      subst (λ (c : ℕ). Spreads (near at) [] (answer_at first.rows c now.values) (answer_at first.rows c now'.values) reached reached') f.columns
      (subst (λ (r : ℕ). Spreads (near at) [] (answer_at r now.columns now.values) (answer_at r now.columns now'.values) reached reached') f.rows spreads) in
      let more = slice_get_within reached' n at (s.kept n at there) in
      record {
        rows = sizes.0 ∙ f.rows;
        columns = sizes.1 ∙ f.columns;
        flooding = flooding_on near passes start (answer_at first.rows first.columns now.values) (answer_at first.rows first.columns now'.values) reached reached' n at f.flooding there s;
        before = omega (arith, more);
        counted = counted ∙ f.counted;
        inside = λ p h. elim (s.new p h) as (λ _. IsIn first.rows first.columns p) [
          | inl m ↦ f.inside p m
          | inr m ↦ answer_true first.rows first.columns now.values p m.1
        ];
      }

  pub flooding_end : (now : Table Bool) (reached : List (ℕ × ℕ)) (n : ℕ) (s : BTreeSet (ℕ × ℕ)) → Flooding now reached n → length reached ≤ n → ((p : ℕ × ℕ) → Contains s.keys p ↔ Has reached p)
      → HasReached (λ p. filter passes (near p)) start s
  flooding_end now reached n s f l made = flood_ended near passes start (answer_at first.rows first.columns now.values) reached n s f.flooding l made
