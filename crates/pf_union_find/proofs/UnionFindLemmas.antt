-- Steps of union and find.
use Rattle.std.proofs.Common.{ℕ, ◌<◌, ◌≤◌, ◌==◌, ◌≡◌, ◌≢◌, refl, sym, ◌∙◌, ap, subst, arith, Bool, true, false, eq-eqb, if◌then◌else◌, List, map, ◌⊎◌, inl, inr, length, get_or, set, length-set, get_or-set_same, get_or-set_other}
use Rattle.std.proofs.lemmas.Bool.Decides.{nat_tests}
use Rattle.std.proofs.lemmas.Bool.{cases_eq}
use Rattle.std.proofs.lemmas.List.{get_or_default, get_or-map, length-map, map-set}
use Rattle.pf_union_find.specs.UnionFind.{parent_of, IsRoot, IsSound, IsLabelling, Merges}

-- the parents after one is written
pub parent_set : (ps : List ℕ) (k p : ℕ) → k < length ps → (x : ℕ) → ((x ≡ k) × (parent_of (set ps k p) x ≡ p)) ⊎ ((x ≢ k) × (parent_of (set ps k p) x ≡ parent_of ps x))
parent_set ps k p h x = elim (cases_eq x k) [
  | inl e ↦ inl (e, ap (parent_of (set ps k p)) e ∙ get_or-set_same ps k p k h)
  | inr n ↦ inr (n, get_or-set_other ps k x p x n)
]

-- ---- a vertex is led past its parent

-- what a vertex k that gets the parent p leaves as it was
pub record Led (ps after : List ℕ) (k p : ℕ) : Type 0 where
  pub sound : IsSound after
  pub inside : p < length after
  pub roots : (x : ℕ) → IsRoot ps x → IsRoot after x
  pub labels : (label : ℕ → ℕ) → IsLabelling label ps → IsLabelling label after × (label p ≡ label k)

module _ (ps : List ℕ) (s : IsSound ps) (k : ℕ) (inside : k < length ps) where
  pub parent_is : get_or ps k 0 ≡ parent_of ps k
  parent_is = get_or_default ps k 0 k inside

  pub parent_falls : get_or ps k 0 ≤ k
  parent_falls = let f = s.falls k in omega (arith, f, parent_is)

  pub parent_inside : get_or ps k 0 < length ps
  parent_inside = omega (arith, parent_falls, inside)

-- k gets the parent of its parent
pub Led-up : (ps : List ℕ) → IsSound ps → (k : ℕ) → k < length ps → Led ps (set ps k (get_or ps (get_or ps k 0) 0)) k (get_or ps (get_or ps k 0) 0)
Led-up ps s k inside =
    let p = get_or ps k 0 in
    let up = get_or ps p 0 in
    let low = parent_inside ps s k inside in
    let one = parent_falls ps s k inside in
    let two = parent_falls ps s p low in
    let is_p = parent_is ps s k inside in
    let is_up = parent_is ps s p low in
    record {
      sound = record { falls = λ x. elim (parent_set ps k up inside x) [ inl r ↦ omega (arith, r.0, r.1, one, two) | inr r ↦ let f = s.falls x in omega (arith, r.1, f) ] };
      inside = let len = length-set ps k up in omega (arith, one, two, inside, len);
      roots = λ x h. elim (parent_set ps k up inside x) [
        | inl r ↦ let e : p ≡ k = is_p ∙ ap (parent_of ps) (sym r.0) ∙ h ∙ r.0 in r.1 ∙ ap (λ n. get_or ps n 0) e ∙ e ∙ sym r.0
        | inr r ↦ r.1 ∙ h
      ];
      labels = λ label l.
          let same : label up ≡ label k = ap label is_up ∙ l.along p ∙ ap label is_p ∙ l.along k in (
            record {
              along = λ x. elim (parent_set ps k up inside x) [
                | inl r ↦ ap label r.1 ∙ same ∙ ap label (sym r.0)
                | inr r ↦ ap label r.1 ∙ l.along x
              ];
              at_root = λ x h. elim (parent_set ps k up inside x) [
                | inl r ↦ let e : p ≡ k = omega (arith, r.0, r.1, h, one, two) in ap label r.0 ∙ l.at_root k (sym is_p ∙ e) ∙ sym r.0
                | inr r ↦ l.at_root x (sym r.1 ∙ h)
              ];
            },
            same,
          );
    }

-- ---- parents in words that stand for them

-- the number that a word stands for
pub number_at : {V : Type 0} (stands : V → ℕ) (words : List V) (k : ℕ) (v : V) → k < length words → v ≡ get_or words k v → get_or (map stands words) k 0 ≡ stands v
number_at stands words k v inside at = get_or-map stands words k v 0 inside ∙ ap stands (sym at)

-- Below, p is the parent of k, and the word g, which stands for n, is that of the parent of p.
module _ {V : Type 0} (stands : V → ℕ) (words : List V) (s : IsSound (map stands words)) (k : ℕ) (inside : k < length words) (v : V) (at : v ≡ get_or words k v) (p : ℕ) (is_p : p ≡ stands v) where
  room : k < length (map stands words)
  room = omega (arith, inside, length-map words stands)

  parent : get_or (map stands words) k 0 ≡ p
  parent = number_at stands words k v inside at ∙ sym is_p

  pub word_falls : p ≤ k
  word_falls = let f = parent_falls (map stands words) s k room in omega (arith, f, parent)

  pub word_inside : p < length words
  word_inside = omega (arith, word_falls, inside)

  module _ (g : V) (up_at : g ≡ get_or words p g) (n : ℕ) (is_n : n ≡ stands g) where
    up : get_or (map stands words) p 0 ≡ n
    up = number_at stands words p g word_inside up_at ∙ sym is_n

    pub up_falls : n ≤ p
    up_falls = let f = parent_falls (map stands words) s p (omega (arith, word_inside, length-map words stands)) in omega (arith, f, up)

    pub Led-word : Led (map stands words) (map stands (set words k g)) k n
    Led-word =
        subst (λ ps. Led (map stands words) ps k n) (sym (map-set stands words k g ∙ ap (set (map stands words) k) (sym is_n)))
        (subst (λ m. Led (map stands words) (set (map stands words) k m) k m) (ap (λ m. get_or (map stands words) m 0) parent ∙ up) (Led-up (map stands words) s k room))

-- ---- a root is put below another

module _ (ps : List ℕ) (s : IsSound ps) (a b : ℕ) (root_a : IsRoot ps a) (root_b : IsRoot ps b) (less : a < b) (inside : b < length ps) where
  apart : a ≢ b
  apart e = omega (arith, e, less)

  abbrev joined : List ℕ
  joined = set ps b a

  pub joined_sound : IsSound joined
  joined_sound = record { falls = λ x. elim (parent_set ps b a inside x) [ inl r ↦ omega (arith, r.0, r.1, less) | inr r ↦ let f = s.falls x in omega (arith, r.1, f) ] }

  module _ (label : ℕ → ℕ) (l : IsLabelling label ps) where
    abbrev pub label_joined : ℕ → ℕ
    label_joined x = if label x == b then a else label x

    is_b : (x : ℕ) → label x ≡ b → label_joined x ≡ a
    is_b x e = ap (λ t. if t then a else label x) (eq-eqb (label x) b e)

    not_b : (x : ℕ) → label x ≢ b → label_joined x ≡ label x
    not_b x d = by (label x == b) refl
      where
        by : (t : Bool) → (label x == b) ≡ t → label_joined x ≡ label x
        by true e = absurd (d (grind (arith, nat_tests)))
        by false e = ap (λ t. if t then a else label x) e

    of_a : label_joined a ≡ a
    of_a = not_b a (λ e. apart (sym (l.at_root a root_a) ∙ e)) ∙ l.at_root a root_a

    of_b : label_joined b ≡ a
    of_b = is_b b (l.at_root b root_b)

    pub IsLabelling-joined : IsLabelling label_joined joined
    IsLabelling-joined = record {
      along = λ x. elim (parent_set ps b a inside x) [
        | inl r ↦ ap label_joined r.1 ∙ of_a ∙ sym of_b ∙ ap label_joined (sym r.0)
        | inr r ↦ ap label_joined r.1 ∙ ap (λ (m : ℕ). if m == b then a else m) (l.along x)
      ];
      at_root = λ x h. elim (parent_set ps b a inside x) [
        | inl r ↦ absurd (apart (sym r.1 ∙ h ∙ r.0))
        | inr r ↦ let e = l.at_root x (sym r.1 ∙ h) in not_b x (λ k. r.0 (sym e ∙ k)) ∙ e
      ];
    }

    pub Merges-joined : Merges label a b label_joined
    Merges-joined x y = (
      λ h. elim (cases_eq (label x) b) [
        | inl ex ↦ elim (cases_eq (label y) b) [
          | inl ey ↦ inl (ex ∙ sym ey)
          | inr dy ↦ inr (inr (ex ∙ sym (l.at_root b root_b), sym (not_b y dy) ∙ sym h ∙ is_b x ex ∙ sym (l.at_root a root_a)))
        ]
        | inr dx ↦ elim (cases_eq (label y) b) [
          | inl ey ↦ inr (inl (sym (not_b x dx) ∙ h ∙ is_b y ey ∙ sym (l.at_root a root_a), ey ∙ sym (l.at_root b root_b)))
          | inr dy ↦ inl (sym (not_b x dx) ∙ h ∙ not_b y dy)
        ]
      ],
      λ h. elim h [
        | inl e ↦ ap (λ (m : ℕ). if m == b then a else m) e
        | inr (inl e) ↦ ap (λ (m : ℕ). if m == b then a else m) e.0 ∙ of_a ∙ sym (is_b y (e.1 ∙ l.at_root b root_b))
        | inr (inr e) ↦ is_b x (e.0 ∙ l.at_root b root_b) ∙ sym of_a ∙ ap (λ (m : ℕ). if m == b then a else m) (sym e.1)
      ],
    )

-- ---- the sets of a and b are those of vertices with their labels

pub Merges-at : (label : ℕ → ℕ) (a b p q : ℕ) (after : ℕ → ℕ) → label p ≡ label a → label q ≡ label b → Merges label p q after → Merges label a b after
Merges-at label a b p q after e f m = λ x y. (
  λ h. elim ((m x y).0 h) [
    | inl k ↦ inl k
    | inr (inl k) ↦ inr (inl (k.0 ∙ e, k.1 ∙ f))
    | inr (inr k) ↦ inr (inr (k.0 ∙ f, k.1 ∙ e))
  ],
  λ h. (m x y).1 (elim h [
    | inl k ↦ inl k
    | inr (inl k) ↦ inr (inl (k.0 ∙ sym e, k.1 ∙ sym f))
    | inr (inr k) ↦ inr (inr (k.0 ∙ sym f, k.1 ∙ sym e))
  ]),
)

pub Merges-at_other : (label : ℕ → ℕ) (a b p q : ℕ) (after : ℕ → ℕ) → label p ≡ label a → label q ≡ label b → Merges label q p after → Merges label a b after
Merges-at_other label a b p q after e f m = λ x y. (
  λ h. elim ((m x y).0 h) [
    | inl k ↦ inl k
    | inr (inl k) ↦ inr (inr (k.0 ∙ f, k.1 ∙ e))
    | inr (inr k) ↦ inr (inl (k.0 ∙ e, k.1 ∙ f))
  ],
  λ h. (m x y).1 (elim h [
    | inl k ↦ inl k
    | inr (inl k) ↦ inr (inr (k.0 ∙ sym e, k.1 ∙ sym f))
    | inr (inr k) ↦ inr (inl (k.0 ∙ sym f, k.1 ∙ sym e))
  ]),
)
