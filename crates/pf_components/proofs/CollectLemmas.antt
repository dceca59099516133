-- Nodes that are laid out in rows, and rows that are collected in sets.
use Rattle.std.proofs.Common.{ℕ, ◌+◌, ◌<◌, ◌≤◌, ◌==◌, ◌≡◌, ◌≢◌, refl, sym, ◌∙◌, ap, subst, arith, true≢false, eq-eqb, set, get_or-set_same, get_or-set_other, get_or-take, suc, List, [], ◌∷◌, ◌++◌, length, get_or, take, inl, inr, ◌⊎◌, Bool, true, false, Some, Vec, if◌then◌else◌, length-append}
use Rattle.std.specs.Prelude.{slice_get, slice_index, Contains, count_by, ◌↔◌}
use Rattle.std.specs.Borrow.{Bor}
use Rattle.std.specs.Cmp.{IsEquivalence}
use Rattle.std.specs.HashSet.{HashSet, contains}
use Rattle.std.proofs.lemmas.List.{take_more, length-take-le, get_or_past, get_or_append_left}
use Rattle.std.proofs.lemmas.Option.{same_Some, slice_get_within}
use Rattle.std.proofs.lemmas.List.Elements.{Contains-append_left, Contains-push, Contains-push_cases}
use Rattle.std.proofs.lemmas.Bool.{cases_Bool, cases_eq, cases_lt, cases_order}
use Rattle.std.proofs.lemmas.Bool.Decides.{nat_tests}
use Rattle.std.proofs.lemmas.List.Sums.{count_by_more_yes, count_by_more_no, count_by-le-length, sum_by-take-drop, sum_by-cons}
use Rattle.pf_components.specs.Internal.DisjointSets.{AreNumbered, AreLaidOut, HaveRows, HaveSets, IsGathered, Identifies, pairs_from}
use Rattle.pf_components.specs.Components.{InGroup, IsComponents}
use Rattle.pf_base.proofs.ListLemmas.{none_in, get_pushed, get-append, get_at_end, get_within}
use Rattle.pf_union_find.specs.Rows.{HasItem, fill_of, row_count}
use Rattle.pf_union_find.proofs.DistinctLemmas.{distinct_one}
use Rattle.pf_components.proofs.PairLemmas.{pair_of, same_label, in_group, id_is}

-- ---- counting

pub differ : (a b : ℕ) → a ≢ b → (a == b) ≡ false
differ a b d = elim (cases_Bool (a == b)) [ inl e ↦ absurd (d (grind (arith, nat_tests))) | inr e ↦ e ]

module _ (ids first : List ℕ) (i : ℕ) (inside : i < length first) (j : ℕ) (at : j ≡ get_or first i 0) (id : ℕ) (id_at : id ≡ slice_index ids j) where
  abbrev has : ℕ → ℕ → Bool
  has other group = slice_index ids group == other

  same : slice_index ids (get_or first i 0) ≡ id
  same = ap (slice_index ids) (sym at) ∙ sym id_at

  -- what counts the first groups, counts one more
  pub count_more : (P : ℕ → Type 0) (count after : ℕ → ℕ) → ((other : ℕ) → P other → after other ≡ (if other == id then count other + 1 else count other)) → ((other : ℕ) → P other → count other ≡ count_by (has other) (take i first))
      → (other : ℕ) → P other → after other ≡ count_by (has other) (take (i + 1) first)
  count_more P count after puts h other l = elim (cases_eq other id) [
    | inl e ↦
        let yes = count_by_more_yes (has other) first i 0 inside (eq-eqb (slice_index ids (get_or first i 0)) other (same ∙ sym e)) in
        let was = h other l in
        let now = puts other l ∙ ap (λ b. if b then count other + 1 else count other) (eq-eqb other id e) in
        omega (arith, yes, was, now)
    | inr d ↦
        let not = count_by_more_no (has other) first i 0 inside (differ (slice_index ids (get_or first i 0)) other (λ e. d (sym e ∙ same))) in
        puts other l ∙ ap (λ b. if b then count other + 1 else count other) (differ other id d) ∙ h other l ∙ sym not
  ]

  -- those before this one are fewer than all
  pub count_room : count_by (has id) (take i first) < count_by (has id) first
  count_room =
      let yes = count_by_more_yes (has id) first i 0 inside (eq-eqb (slice_index ids (get_or first i 0)) id same) in
      let all = sum_by-take-drop (λ x. if has id x then 1 else 0) first (i + 1) in
      omega (arith, yes, all)

pub count_few : (p : ℕ → Bool) (xs : List ℕ) (i : ℕ) → i ≤ length xs → count_by p (take i xs) ≤ i
count_few p xs i h = let few = count_by-le-length p (take i xs) in let long = length-take-le i xs h in omega (arith, few, long)

-- what is counted stands somewhere
pub count_found : (p : ℕ → Bool) (xs : List ℕ) → 0 < count_by p xs → (k : ℕ) × (k < length xs) × (p (get_or xs k 0) ≡ true)
count_found p [] h = absurd (omega (arith, h))
count_found p (x ∷ xs) h = elim (cases_Bool (p x)) [
  | inl e ↦ (0, omega arith, e)
  | inr e ↦
      let f : Bool → ℕ = λ b. if b then 1 else 0 in
      let none : f (p x) ≡ 0 = ap f e in
      let sum : count_by p (x ∷ xs) ≡ f (p x) + count_by p xs = sum_by-cons (λ y. f (p y)) x xs in
      let r = count_found p xs (omega (arith, h, none, sum)) in
      (suc r.0, omega (arith, r.1), r.2)
]

-- one more in a list of counts
pub counts_set : (counts : List ℕ) (id c : ℕ) → id < length counts → c ≡ slice_index counts id + 1 → (other : ℕ) → slice_index (set counts id c) other ≡ (if other == id then slice_index counts other + 1 else slice_index counts other)
counts_set counts id c inside is other = elim (cases_eq other id) [
  | inl e ↦ ap (slice_index (set counts id c)) e ∙ get_or-set_same counts id c 0 inside ∙ is ∙ ap (λ n. slice_index counts n + 1) (sym e) ∙ ap (λ b. if b then slice_index counts other + 1 else slice_index counts other) (sym (eq-eqb other id e))
  | inr d ↦ get_or-set_other counts id other c 0 d ∙ ap (λ b. if b then slice_index counts other + 1 else slice_index counts other) (sym (differ other id d))
]

-- ---- numbers for what is counted

module _ (counts : List ℕ) (i : ℕ) (inside : i < length counts) where
  early : (id : ℕ) → id < i → slice_index (take i counts) id ≡ slice_index counts id
  early id l = get_or-take i counts id 0 l

  late : (n id : ℕ) → n ≤ length counts → n ≤ id → slice_index (take n counts) id ≡ 0
  late n id h l = let short = length-take-le n counts h in get_or_past (take n counts) id 0 (omega (arith, short, l))

  -- an identifier that is counted among the first ones
  counted_low : (id : ℕ) → 0 < slice_index (take i counts) id → id < i
  counted_low id h = elim (cases_lt id i) [ inl l ↦ l | inr l ↦ let none = late i id (omega (arith, inside)) l in absurd (omega (arith, h, none)) ]

  -- an identifier that is counted among one more: it is an earlier one, or this one
  counted : (id : ℕ) → 0 < slice_index (take (i + 1) counts) id → (0 < slice_index (take i counts) id) ⊎ ((id ≡ i) × (0 < slice_index counts i))
  counted id h = elim (cases_order id i) [
    | inl e ↦ let this : slice_index (take (i + 1) counts) id ≡ slice_index counts i = get_or-take (i + 1) counts id 0 (omega (arith, e)) ∙ ap (slice_index counts) e in inr (e, omega (arith, h, this))
    | inr (inl l) ↦ let this = get_or-take (i + 1) counts id 0 (omega (arith, l)) in let that = early id l in inl (omega (arith, h, this, that))
    | inr (inr l) ↦ let none = late (i + 1) id (omega (arith, inside)) (omega (arith, l)) in absurd (omega (arith, h, none))
  ]

  kept : (id : ℕ) → 0 < slice_index (take i counts) id → slice_index (take (i + 1) counts) id ≡ slice_index (take i counts) id
  kept id h = let l = counted_low id h in get_or-take (i + 1) counts id 0 (omega (arith, l)) ∙ sym (early id l)

  module _ (numbers sizes : List ℕ) (h : AreNumbered (take i counts) numbers sizes) where
    pub AreNumbered-skip : slice_index counts i ≡ 0 → AreNumbered (take (i + 1) counts) numbers sizes
    AreNumbered-skip none =
        let before : (id : ℕ) → 0 < slice_index (take (i + 1) counts) id → 0 < slice_index (take i counts) id = λ id c. elim (counted id c) [ inl k ↦ k | inr k ↦ absurd (omega (arith, k.1, none)) ] in
        record {
          low = λ id c. h.low id (before id c);
          size = λ id c. h.size id (before id c) ∙ sym (kept id (before id c));
          apart = λ a b c d e. h.apart a b (before a c) (before b d) e;
          owned = λ p l. let o = h.owned p l in (o.0, let same = kept o.0 o.1 in omega (arith, o.1, same), o.2);
        }

    pub AreNumbered-more : i < length numbers → 0 < slice_index counts i → (count : ℕ) → count ≡ slice_index counts i → AreNumbered (take (i + 1) counts) (set numbers i (length sizes)) (sizes ++ count ∷ [])
    AreNumbered-more room some count is =
        let here : (id : ℕ) → id ≡ i → slice_index (set numbers i (length sizes)) id ≡ length sizes = λ id e. ap (slice_index (set numbers i (length sizes))) e ∙ get_or-set_same numbers i (length sizes) 0 room in
        let there : (id : ℕ) → 0 < slice_index (take i counts) id → slice_index (set numbers i (length sizes)) id ≡ slice_index numbers id = λ id c. let l = counted_low id c in get_or-set_other numbers i id (length sizes) 0 (omega (arith, l)) in
        let long : length (sizes ++ count ∷ []) ≡ length sizes + 1 = length-append sizes (count ∷ []) in
        let this : slice_index (take (i + 1) counts) i ≡ slice_index counts i = get_or-take (i + 1) counts i 0 (omega arith) in
        record {
          low = λ id c. elim (counted id c) [
            | inl k ↦ let l = h.low id k in let t = there id k in omega (arith, l, t, long)
            | inr k ↦ let t = here id k.0 in omega (arith, t, long)
          ];
          size = λ id c. elim (counted id c) [
            | inl k ↦ let l = h.low id k in ap (slice_index (sizes ++ count ∷ [])) (there id k) ∙ get_or_append_left sizes (count ∷ []) 0 (slice_index numbers id) l ∙ h.size id k ∙ sym (kept id k)
            | inr k ↦ ap (slice_index (sizes ++ count ∷ [])) (here id k.0) ∙ last sizes count ∙ is ∙ sym this ∙ ap (slice_index (take (i + 1) counts)) (sym k.0)
          ];
          apart = λ a b c d e. elim (counted a c) [
            | inl k ↦ elim (counted b d) [
              | inl m ↦ h.apart a b k m (sym (there a k) ∙ e ∙ there b m)
              | inr m ↦ let l = h.low a k in let t = there a k in let u = here b m.0 in absurd (omega (arith, l, t, u, e))
            ]
            | inr k ↦ elim (counted b d) [
              | inl m ↦ let l = h.low b m in let t = there b m in let u = here a k.0 in absurd (omega (arith, l, t, u, e))
              | inr m ↦ k.0 ∙ sym m.0
            ]
          ];
          owned = λ p l. elim (cases_lt p (length sizes)) [
            | inl k ↦ let o = h.owned p k in (o.0, let same = kept o.0 o.1 in omega (arith, o.1, same), there o.0 o.1 ∙ o.2)
            | inr k ↦ let t = here i refl in (i, omega (arith, this, some), omega (arith, t, l, k, long))
          ];
        }
      where
        last : (xs : List ℕ) (x : ℕ) → slice_index (xs ++ x ∷ []) (length xs) ≡ x
        last [] x = refl
        last (y ∷ ys) x = last ys x

pub AreNumbered-none : (numbers : List ℕ) → AreNumbered [] numbers []
AreNumbered-none numbers =
    let none : (id : ℕ) → ¬ (0 < slice_index [] id) = λ id h. let past : slice_index [] id ≡ 0 = get_or_past {X = ℕ} [] id 0 (omega arith) in omega (arith, h, past) in
    record { low = λ id c. absurd (none id c); size = λ id c. absurd (none id c); apart = λ a b c d e. absurd (none a c); owned = λ p l. absurd (omega (arith, l)) }

-- ---- nodes in rows

pub AreLaidOut-none : {N : Type 0} (nodes : List (Bor N)) (first ids numbers : List ℕ) (rows : List ℕ × List ℕ × List (Bor N)) → first ≡ [] → ((row : ℕ) → fill_of rows row ≡ 0) → AreLaidOut nodes first ids numbers rows
AreLaidOut-none nodes first ids numbers rows none empty = record {
  from = λ row m h. let e = empty row in absurd (omega (arith, h.1, h.2, e));
  all = λ k m j id e f. absurd (none_in k j (subst (λ xs. slice_get xs k ≡ Some j) none f));
}

-- one more node is in its row
pub AreLaidOut-more : {N : Type 0} (nodes : List (Bor N)) (first ids numbers : List ℕ) (rows after : List ℕ × List ℕ × List (Bor N)) (i : ℕ) (node : Bor N) (j id : ℕ)
    → i < length first → j ≡ get_or first i j → slice_get nodes i ≡ Some node → slice_get ids j ≡ Some id
    → ((other : ℕ) (x : Bor N) → HasItem after other x ↔ (HasItem rows other x ⊎ ((other ≡ slice_index numbers id) × (x ≡ node))))
    → AreLaidOut nodes (take i first) ids numbers rows → AreLaidOut nodes (take (i + 1) first) ids numbers after
AreLaidOut-more nodes first ids numbers rows after i node j id inside at node_at id_at puts h =
    let more : take (i + 1) first ≡ take i first ++ j ∷ [] = take_more first i j inside ∙ ap (λ y. take i first ++ y ∷ []) (sym at) in
    let short : length (take i first) ≡ i = length-take-le i first (omega (arith, inside)) in
    record {
      from = λ other x k. elim ((puts other x).0 k) [
        | inl old ↦ let f = h.from other x old in (f.0, f.1, f.2, f.3, subst (λ xs. slice_get xs f.0 ≡ Some f.1) (sym more) (get-append (take i first) (j ∷ []) f.0 f.1 f.4), f.5, f.6)
        | inr new ↦ (
          i,
          j,
          id,
          node_at ∙ ap (λ y. Some y) (sym new.1),
          subst (λ xs. slice_get xs i ≡ Some j) (sym more) (subst (λ (n : ℕ). slice_get (take i first ++ j ∷ []) n ≡ Some j) short (get_at_end (take i first) j)),
          id_at,
          sym new.0,
        )
      ];
      all = λ k m l d e f u. elim (get_pushed (take i first) j k l (subst (λ xs. slice_get xs k ≡ Some l) more f)) [
        | inl old ↦ (puts (slice_index numbers d) m).1 (inl (h.all k m l d e old.1 u))
        | inr new ↦
            let here : k ≡ i = new.0 ∙ short in
            let same_node : m ≡ node = same_Some m node (sym e ∙ ap (slice_get nodes) here ∙ node_at) in
            let same_id : d ≡ id = same_Some d id (sym u ∙ ap (slice_get ids) (sym new.1) ∙ id_at) in
            (puts (slice_index numbers d) m).1 (inr (ap (slice_index numbers) same_id, same_node))
      ];
    }

-- all nodes are in their rows
pub HaveRows-all : {N : Type 0} (nodes : List (Bor N)) (first ids counts numbers sizes : List ℕ) (rows : List ℕ × List ℕ × List (Bor N)) → length first ≡ length nodes
    → ((k j id : ℕ) → slice_get first k ≡ Some j → slice_get ids j ≡ Some id → 0 < slice_index counts id)
    → ((id : ℕ) → 0 < slice_index counts id → (k : ℕ) × (j : ℕ) × (slice_get first k ≡ Some j) × (slice_get ids j ≡ Some id))
    → AreNumbered counts numbers sizes → row_count rows ≡ length sizes → AreLaidOut nodes first ids numbers rows → HaveRows nodes first ids rows
HaveRows-all nodes first ids counts numbers sizes rows len counted found n wide laid = record {
  numbers = numbers;
  laid = laid;
  apart = λ k l i j a b e f u v same. n.apart a b (counted k i a e u) (counted l j b f v) same;
  some = λ row l.
      let o = n.owned row (omega (arith, l, wide)) in
      let f = found o.0 o.1 in
      let m = get_within nodes f.0 (let k = slice_get_within first f.0 f.1 f.2 in omega (arith, k, len)) in
      (m.0, subst (λ (r : ℕ). HasItem rows r m.0) o.2 (laid.all f.0 m.0 f.1 o.0 m.1 f.2 f.3));
}

pub HaveRows-none : {N : Type 0} (nodes : List (Bor N)) (first ids : List ℕ) (rows : List ℕ × List ℕ × List (Bor N)) → length first ≡ 0 → row_count rows ≡ 0 → HaveRows nodes first ids rows
HaveRows-none nodes first ids rows none empty =
    let never : (k j : ℕ) → ¬ (slice_get first k ≡ Some j) = λ k j e. let l = slice_get_within first k j e in omega (arith, l, none) in
    record {
      numbers = [];
      laid = record { from = λ row m h. let past = get_or_past rows.1 row 0 (omega (arith, empty)) in absurd (omega (arith, h.2, past)); all = λ k m j id e f. absurd (never k j f) };
      apart = λ k l i j a b e. absurd (never k i e);
      some = λ row l. absurd (omega (arith, l, empty));
    }

-- ---- sets of rows

pub HaveSets-more : {N T : Type 0} (eq : N → N → Bool) (has : T → N → Bool) (rows : List ℕ × List ℕ × List (Bor N)) (sets : List T) (n : ℕ) (s : T) → length sets ≡ n → ((x : N) → (has s x ≡ true) ↔ ((m : Bor N) × HasItem rows n m × (eq m.now x ≡ true)))
    → HaveSets eq has rows sets → HaveSets eq has rows (sets ++ s ∷ [])
HaveSets-more {N} {T} eq has rows sets n s len is h = record {
  members = λ row t x e. elim (get_pushed sets s row t e) [
    | inl o ↦ h.members row t x o.1
    | inr o ↦
        let here : n ≡ row = sym len ∙ sym o.0 in (
          λ k. let m = (is x).0 (ap (λ v. has v x) o.1 ∙ k) in (m.0, subst (λ (r : ℕ). HasItem rows r m.0) here m.1, m.2),
          λ m. ap (λ v. has v x) (sym o.1) ∙ (is x).1 (m.0, subst (λ (r : ℕ). HasItem rows r m.0) (sym here) m.1, m.2),
        )
  ];
}

-- ---- one set

-- one more node is in the set
pub members_more : {N : Type 0} {eq : N → N → Bool} (laws : IsEquivalence eq) (nodes : List (Bor N)) (i : ℕ) (node : Bor N) (copy : N) (before after : N → Bool) → i < length nodes → node ≡ get_or nodes i node → eq node.now copy ≡ true
    → ((x : N) → after x ≡ (if eq copy x then true else before x)) → ((x : N) → (before x ≡ true) ↔ ((m : Bor N) × Contains (take i nodes) m × (eq m.now x ≡ true)))
    → (x : N) → (after x ≡ true) ↔ ((m : Bor N) × Contains (take (i + 1) nodes) m × (eq m.now x ≡ true))
members_more {N} {eq} laws nodes i node copy before after inside at clone puts h x =
    let more : take (i + 1) nodes ≡ take i nodes ++ node ∷ [] = take_more nodes i node inside ∙ ap (λ y. take i nodes ++ y ∷ []) (sym at) in (
      λ e. elim (cases_Bool (eq copy x)) [
        | inl t ↦ (node, subst (λ ns. Contains ns node) (sym more) (Contains-push (take i nodes) node), laws.congr node.now copy x clone ∙ t)
        | inr f ↦ let m = (h x).0 (sym (puts x ∙ ap (λ b. if b then true else before x) f) ∙ e) in (m.0, subst (λ ns. Contains ns m.0) (sym more) (Contains-append_left (take i nodes) (node ∷ []) m.0 m.1), m.2)
      ],
      λ m. elim (cases_Bool (eq copy x)) [
        | inl t ↦ puts x ∙ ap (λ b. if b then true else before x) t
        | inr f ↦ puts x ∙ ap (λ b. if b then true else before x) f ∙ elim (Contains-push_cases (take i nodes) node m.0 (subst (λ ns. Contains ns m.0) more m.1)) [
          | inl c ↦ (h x).1 (m.0, c, m.2)
          | inr c ↦ absurd (true≢false (sym (sym (laws.congr node.now copy x clone) ∙ subst (λ (y : Bor N). eq y.now x ≡ true) (sym c) m.2) ∙ f))
        ]
      ],
    )

-- ---- the sets are the components

module _ {N A S : Type 0} {eq : N → N → Bool} (laws : IsEquivalence eq) (groups : List (Vec N A)) (nodes : List (Bor N)) (first : List ℕ) (parents : List ℕ) (g : IsGathered eq (pairs_from 0 groups) nodes first parents)
    (ids : List ℕ) (identified : Identifies g.label (length groups) groups ids) (len : length ids ≡ length groups) (all_in : length parents ≡ length groups)
    (rows : List ℕ × List ℕ × List (Bor N)) (h : HaveRows nodes first ids rows) (sets : List (HashSet N S)) (wide : length sets ≡ row_count rows) (c : HaveSets eq (contains eq) rows sets) where
  label_of : (j : ℕ) (x : N) (id : ℕ) → InGroup eq groups j x → slice_get ids j ≡ Some id → id ≡ g.label j
  label_of j x id k at = (id_is laws groups nodes first parents g ids identified len j x k id at).0

  -- a node of a row is in a group whose identifier has this row
  group_of : (row : ℕ) (m : Bor N) → HasItem rows row m → (j : ℕ) × InGroup eq groups j m.now × (k : ℕ) × (id : ℕ) × (slice_get first k ≡ Some j) × (slice_get ids j ≡ Some id) × (slice_index h.numbers id ≡ row)
  group_of row m has =
      let f = h.laid.from row m has in
      let p = g.found f.0 f.1 m f.3 f.4 in
      (f.1, subst (λ n. InGroup eq groups n m.now) p.2 (in_group laws groups p.0 m.now p.1 p.3), f.0, f.2, f.4, f.5, f.6)

  -- a vertex of a group is in the row of the group's label
  row_of : (i : ℕ) (x : N) → InGroup eq groups i x → (m : Bor N) × HasItem rows (slice_index h.numbers (g.label i)) m × (eq m.now x ≡ true)
  row_of i x k =
      let p = pair_of laws groups i x k in
      let n = g.noted (i, p.0) p.1 in
      let m = n.2.0 in
      let id = get_within ids n.1 (let l = g.inside n.0 n.1 n.3 in omega (arith, l, len, all_in)) in
      let f = g.found n.0 n.1 m n.2.1 n.3 in
      let is = label_of n.1 m.now id.0 (subst (λ a. InGroup eq groups a m.now) f.2 (in_group laws groups f.0 m.now f.1 f.3)) id.1 in
      (m, subst (λ (l : ℕ). HasItem rows (slice_index h.numbers l) m) (is ∙ n.4) (h.laid.all n.0 m n.1 id.0 n.2.1 n.3 id.1), laws.congr m.now p.0 x n.2.2 ∙ p.2)

  in_group_like : (j : ℕ) (y x : N) → eq y x ≡ true → InGroup eq groups j y → InGroup eq groups j x
  in_group_like j y x e k = let p = pair_of laws groups j y k in in_group laws groups (j, p.0) x p.1 (laws.congr p.0 y x p.2 ∙ e)

  pub are_components : IsComponents eq groups sets
  are_components = record {
    each = λ k s at.
        let m = h.some k (let l = slice_get_within sets k s at in omega (arith, l, wide)) in
        let i = group_of k m.0 m.1 in
        let own = label_of i.0 m.0.now i.3 i.1 i.5 in (
          i.0,
          m.0.now,
          i.1,
          λ x.
              let is = c.members k s x at in (
                λ e.
                    let q = is.0 e in
                    let j = group_of k q.0 q.1 in
                    let same : i.3 ≡ j.3 = h.apart i.2 j.2 i.0 j.0 i.3 j.3 i.4 j.4 i.5 j.5 (i.6 ∙ sym j.6) in
                    (j.0, (same_label laws groups nodes first parents g i.0 j.0).0 (sym own ∙ same ∙ label_of j.0 q.0.now j.3 j.1 j.5), in_group_like j.0 q.0.now x q.2 j.1),
                λ j.
                    let q = row_of j.0 x j.2 in
                    let here : slice_index h.numbers (g.label j.0) ≡ k = ap (slice_index h.numbers) (sym ((same_label laws groups nodes first parents g i.0 j.0).1 j.1) ∙ sym own) ∙ i.6 in
                    is.1 (q.0, subst (λ (n : ℕ). HasItem rows n q.0) here q.1, q.2),
              ),
        );
    all = λ i x k.
        let row = slice_index h.numbers (g.label i) in
        let q = row_of i x k in
        let s = get_within sets row (let l = known row q.0 q.1 in omega (arith, l, wide)) in
        (row, (s.0, s.1, (c.members row s.0 x s.1).1 q));
    once = λ k l x a b.
        let q = (c.members k a.0 x a.1).0 a.2 in
        let u = (c.members l b.0 x b.1).0 b.2 in
        let f = h.laid.from k q.0 q.1 in
        let e = h.laid.from l u.0 u.1 in
        let one : f.0 ≡ e.0 = distinct_one laws nodes g.apart f.0 e.0 q.0 u.0 f.3 e.3 (laws.congr q.0.now x u.0.now q.2 ∙ laws.symm x u.0.now ∙ u.2) in
        let two : f.1 ≡ e.1 = same_Some f.1 e.1 (sym f.4 ∙ ap (slice_get first) one ∙ e.4) in
        let three : f.2 ≡ e.2 = same_Some f.2 e.2 (sym f.5 ∙ ap (slice_get ids) two ∙ e.5) in
        sym f.6 ∙ ap (slice_index h.numbers) three ∙ e.6;
  }
    where
      -- a row with an item is one of the rows
      known : (row : ℕ) (m : Bor N) → HasItem rows row m → row < row_count rows
      known row m k = elim (cases_lt row (row_count rows)) [ inl l ↦ l | inr l ↦ let none = get_or_past rows.1 row 0 l in absurd (omega (arith, none, k.2)) ]
