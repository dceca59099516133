-- What a row of the steps that are left says.
use Rattle.std.proofs.Common.{◌≡◌, ◌∙◌, ℕ, ◌<◌, ◌≤◌, ◌+◌, refl, sym, ap, subst, arith, inl, inr, Bool, true, false, true≢false, not, ◌&&◌, List, [], ◌∷◌, ◌++◌, length, take, get_or, cond, ℤ, Option, Some, None}
use Rattle.std.specs.Prelude.{Contains, filter, map, nat_eq, slice_get}
use Rattle.std.specs.List.{AllZip}
use Rattle.std.specs.Option.{is_some}
use Rattle.std.proofs.lemmas.Bool.{eq-eqb, ne_eqb}
use Rattle.std.proofs.lemmas.List.{append-nil, take_more}
use Rattle.std.proofs.lemmas.List.Elements.{filter-append}
use Rattle.std.proofs.lemmas.Option.{slice_get_read}
use Rattle.pf_core.specs.Numbered.{ListsSteps, NumbersInOrder}
use Rattle.pf_base.proofs.ListLemmas.{bool_dec, Contains-head, Contains-tail, Contains-cases}
use Rattle.pf_yen.specs.Internal.Adjacency.{row_of}
use Rattle.pf_yen.specs.Internal.Filtered.{FilteredLists, waits, allows, filtered_row, FilteredStep, StandsForItself, EndsInside}
use Rattle.pf_yen.specs.Internal.Classes.{is_in}

pub in_none : {X : Type 0} (x : X) → Contains [] x → ⊥
in_none x h = omega (arith, h.1)

pub Contains-filter : {X : Type 0} (p : X → Bool) (xs : List X) (x : X) → Contains (filter p xs) x → Contains xs x × (p x ≡ true)
Contains-filter p [] x h = absurd (in_none x h)
Contains-filter p (y ∷ ys) x h = elim (bool_dec (p y)) as (λ _. Contains (y ∷ ys) x × (p x ≡ true)) [
  | inl t ↦ elim (Contains-cases (filter p ys) y x (subst (λ (b : Bool). Contains (cond b (y ∷ filter p ys) (filter p ys)) x) t h)) as (λ _. Contains (y ∷ ys) x × (p x ≡ true)) [
    | inl e ↦ (subst (λ z. Contains (y ∷ ys) z) e (Contains-head ys y), subst (λ z. p z ≡ true) e t)
    | inr q ↦ let r = Contains-filter p ys x q in (Contains-tail ys y x r.0, r.1)
  ]
  | inr f ↦ let r = Contains-filter p ys x (subst (λ (b : Bool). Contains (cond b (y ∷ filter p ys) (filter p ys)) x) f h) in (Contains-tail ys y x r.0, r.1)
]

pub filter-Contains : {X : Type 0} (p : X → Bool) (xs : List X) (x : X) → Contains xs x → p x ≡ true → Contains (filter p xs) x
filter-Contains p [] x h t = absurd (in_none x h)
filter-Contains p (y ∷ ys) x h t = elim (Contains-cases ys y x h) as (λ _. Contains (filter p (y ∷ ys)) x) [
  | inl e ↦ subst (λ (b : Bool). Contains (cond b (y ∷ filter p ys) (filter p ys)) x) (sym (subst (λ z. p z ≡ true) (sym e) t)) (subst (λ z. Contains (y ∷ filter p ys) z) e (Contains-head (filter p ys) y))
  | inr q ↦ elim (bool_dec (p y)) as (λ _. Contains (filter p (y ∷ ys)) x) [
    | inl s ↦ subst (λ (b : Bool). Contains (cond b (y ∷ filter p ys) (filter p ys)) x) (sym s) (Contains-tail (filter p ys) y x (filter-Contains p ys x q t))
    | inr s ↦ subst (λ (b : Bool). Contains (cond b (y ∷ filter p ys) (filter p ys)) x) (sym s) (filter-Contains p ys x q t)
  ]
]

-- one element more passes a test, or is left out
module _ {X : Type 0} (p : X → Bool) (xs : List X) (i : ℕ) (x : X) (inside : i < length xs) (at : x ≡ get_or xs i x) where
  one_more : filter p (take (i + 1) xs) ≡ filter p (take i xs) ++ filter p (x ∷ [])
  one_more = ap (filter p) (take_more xs i x inside ∙ ap (λ y. take i xs ++ y ∷ []) (sym at)) ∙ filter-append p (take i xs) (x ∷ [])

  pub passes_too : p x ≡ true → filter p (take (i + 1) xs) ≡ filter p (take i xs) ++ x ∷ []
  passes_too t = one_more ∙ ap (λ (b : Bool). filter p (take i xs) ++ cond b (x ∷ []) []) t

  pub left_out : p x ≡ false → filter p (take (i + 1) xs) ≡ filter p (take i xs)
  left_out f = one_more ∙ ap (λ (b : Bool). filter p (take i xs) ++ cond b (x ∷ []) []) f ∙ append-nil (filter p (take i xs))

-- whether a step is left, by the onward number as it is read
module _ {C : Type 0} (g : FilteredLists C) (a b : ℕ) (o : Option ℕ) (inside : a < length g.onward) (at : o ≡ get_or g.onward a o) where
  read : slice_get g.onward a ≡ Some o
  read = slice_get_read g.onward (length g.onward) a o refl inside at

  pub allows_onward : (only : ℕ) → o ≡ Some only → nat_eq b only ≡ allows g a b
  allows_onward only is = rw (read, is) refl

  -- from a number that leads on freely, by the onward number of the other as it is read
  module _ (is : o ≡ None) (p : Option ℕ) (far : b < length g.onward) (there : p ≡ get_or g.onward b p) (free : Bool) (known : is_some p ≡ not free) where
    allows_freely : (left : Bool) → left ≡ not (nat_eq a g.spur && is_in g.banned b) → free && left ≡ allows g a b
    allows_freely left f = rw (read, is) (ap (λ (c : Bool). c && left) (by p known (slice_get_read g.onward (length g.onward) b p refl far there)) ∙ ap (λ (c : Bool). waits (slice_get g.onward b) && c) f)
      where
        flip : (c d : Bool) → c ≡ not d → d ≡ not c
        flip true true h = absurd (true≢false h)
        flip true false h = refl
        flip false true h = refl
        flip false false h = absurd (true≢false (sym h))

        by : (p : Option ℕ) → is_some p ≡ not free → slice_get g.onward b ≡ Some p → free ≡ waits (slice_get g.onward b)
        by None n k = rw k (flip false free n)
        by (Some x) n k = rw k (flip true free n)

    pub allows_closed : free ≡ false → free ≡ allows g a b
    allows_closed f = f ∙ sym (ap (λ (c : Bool). c && not (nat_eq a g.spur && is_in g.banned b)) f) ∙ allows_freely (not (nat_eq a g.spur && is_in g.banned b)) refl

    pub allows_away : free ≡ true → ¬ (a ≡ g.spur) → not (nat_eq a g.spur) ≡ allows g a b
    allows_away t away = sym (ap (λ (c : Bool). c && not (nat_eq a g.spur)) t) ∙ allows_freely (not (nat_eq a g.spur)) (rw (ne_eqb a g.spur away) refl)

    pub allows_at_spur : free ≡ true → a ≡ g.spur → (hit : Bool) → hit ≡ is_in g.banned b → not hit ≡ allows g a b
    allows_at_spur t here hit e = sym (ap (λ (c : Bool). c && not hit) t) ∙ allows_freely (not hit) (rw (eq-eqb a g.spur here) (ap not e))

module _ {C : Type 0} where
  -- the ends of a row stand for themselves
  stand_for_ends : (n : ℕ) (es : List (ℕ × C)) → ((b : ℕ) (c : C) → Contains es (b, c) → b < n) → AllZip (λ (r : ℕ × C) (y : ℕ). StandsForItself n r.0 y) es (map (λ (e : ℕ × C). e.0) es)
  stand_for_ends n [] h = tt
  stand_for_ends n (e ∷ es) h = ((refl, h e.0 e.1 (Contains-head es e)), stand_for_ends n es (λ b c q. h b c (Contains-tail es e (b, c) q)))

  in_order : (n : ℕ) (es : List (ℕ × C)) → ((b : ℕ) (c : C) → Contains es (b, c) → b < n) → NumbersInOrder (StandsForItself n) n (map (λ (e : ℕ × C). e.0) es) n
  in_order n [] h = refl
  in_order n (e ∷ es) h = let l = h e.0 e.1 (Contains-head es e) in inl (e.0, l, (refl, l), in_order n es (λ b c q. h b c (Contains-tail es e (b, c) q)))

  module _ (value : C → ℤ) (g : FilteredLists C) (inside : EndsInside g.adjacency) where
    filtered_inside : (a b : ℕ) (c : C) → Contains (filtered_row g a) (b, c) → b < length g.adjacency.rows
    filtered_inside a b c h = inside a b c (Contains-filter (λ (e : ℕ × C). allows g a e.0) (row_of g.adjacency a) (b, c) h).0

    pub row_inside : (a : ℕ) (b : ℕ) (c : C) → Contains (filtered_row g a) (b, c) → b < length g.adjacency.rows
    row_inside = filtered_inside

    pub lists_steps : (a x : ℕ) → StandsForItself (length g.adjacency.rows) a x → ListsSteps value (FilteredStep value g) (StandsForItself (length g.adjacency.rows)) x (filtered_row g a)
    lists_steps a x s = subst (λ (y : ℕ). ListsSteps value (FilteredStep value g) (StandsForItself (length g.adjacency.rows)) y (filtered_row g a)) s.0 (record {
      numbered = λ z y h. (y, (refl, filtered_inside a y h.0 h.1));
      complete = λ z y j h t. (h.0, subst (λ (k : ℕ). Contains (filtered_row g a) (k, h.0)) (sym t.0) h.1, h.2);
      sound = λ j c h. (j, (c, h, refl), (refl, filtered_inside a j c h));
    })

    pub row_stands : (a x : ℕ) → a ≡ x → AllZip (λ (r : ℕ × C) (y : ℕ). StandsForItself (length g.adjacency.rows) r.0 y) (filtered_row g a) (map (λ (e : ℕ × C). e.0) (filtered_row g x))
    row_stands a x e = subst (λ (y : ℕ). AllZip (λ (r : ℕ × C) (y : ℕ). StandsForItself (length g.adjacency.rows) r.0 y) (filtered_row g a) (map (λ (e : ℕ × C). e.0) (filtered_row g y))) e (stand_for_ends (length g.adjacency.rows) (filtered_row g a) (filtered_inside a))

    pub row_in_order : (x : ℕ) → NumbersInOrder (StandsForItself (length g.adjacency.rows)) (length g.adjacency.rows) (map (λ (e : ℕ × C). e.0) (filtered_row g x)) (length g.adjacency.rows)
    row_in_order x = in_order (length g.adjacency.rows) (filtered_row g x) (filtered_inside x)

-- bounds over plain numbers
pub below_more : (i n m : ℕ) → i < n → n ≤ m → i < m
below_more i n m h l = omega (arith, h, l)

pub none_between : (n m i : ℕ) → n ≤ i → i < m → m ≡ n → ⊥
none_between n m i low high same = omega (arith, low, high, same)
