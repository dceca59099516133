-- What places, path, waiting numbers and segments of a search for strong components tell, turn by turn.
use Rattle.std.proofs.Common.{◌≡◌, ◌≢◌, ℕ, ◌<◌, ◌≤◌, ◌+◌, ◌-◌, List, [], ◌∷◌, ◌++◌, ◌∙◌, length, take, drop, replicate, refl, sym, ap, subst, arith, inl, inr, length-append}
use Rattle.std.specs.Prelude.{◌⊎◌, slice_set}
use Rattle.std.proofs.lemmas.Option.{slice_get_within}
use Rattle.std.proofs.lemmas.List.{length-take, length-drop, length-replicate}
use Rattle.pf_base.proofs.ListLemmas.{nat_dec, take_get, get_take, none_in, get-append}
use Rattle.pf_orders.specs.declared.component_search.Place.{Place}
use Rattle.pf_orders.specs.declared.component_search.Place.TheVariants.{New, Open, Closed}
use Rattle.pf_orders.specs.declared.component_search.Segment.{Segment}
use Rattle.pf_orders.specs.Internal.ComponentSearch.{IsAt, IsLast, IsMember, IsClosed, IsPlaced, AreApart, Closes, Joins}
use Rattle.pf_orders.proofs.ComponentLists.{at_one, at_some, at_end, at_behind, at_split, at_more, take_below, drop_get, get_drop, at_replicate, set_other, set_here, set_cases, below_or, set_length, none_at}

open_same : (p q : ℕ) → Open p ≡ Open q → p ≡ q
open_same p q e = cc

closed_open : (p : ℕ) → Closed ≡ Open p → ⊥
closed_open p e = cc

new_open : (p : ℕ) → New ≡ Open p → ⊥
new_open p e = cc

new_closed : New ≡ Closed → ⊥
new_closed e = cc

-- the number is closed, open or waits
abbrev IsKnown : List Place → List ℕ → List ℕ → ℕ → Type 0
IsKnown places path waiting k = IsClosed places k ⊎ ((p : ℕ) × IsAt path p k) ⊎ ((i : ℕ) × IsAt waiting i k)

-- the number is in a component, or in the list that is put behind them
abbrev IsNewMember : List (List ℕ) → List ℕ → ℕ → ℕ → Type 0
IsNewMember components numbers i k = IsMember components i k ⊎ ((i ≡ length components) × ((p : ℕ) × IsAt numbers p k))

-- nothing of the last segment is spent: something of it waits
abbrev pub IsNotSpent : List ℕ → List Segment → Type 0
IsNotSpent waiting segments = (c : Segment) → IsLast segments c → ¬ (c.waiting ≡ length waiting)

-- the last segment, where there is one
pub last_of : (segments : List Segment) → ((i j : ℕ) (b c : Segment) → i < j → IsAt segments i b → IsAt segments j c → (b.begin < c.begin) × (b.waiting ≤ c.waiting)) → (i : ℕ) (c : Segment) → IsAt segments i c
    → (d : Segment) × IsLast segments d × (c.begin ≤ d.begin) × (c.waiting ≤ d.waiting)
last_of segments rising i c h =
    let l = slice_get_within segments i c h in
    let q = at_some segments (length segments - 1) (omega (arith, l)) in
    elim (nat_dec i (length segments - 1)) as (λ _. (d : Segment) × IsLast segments d × (c.begin ≤ d.begin) × (c.waiting ≤ d.waiting)) [
      | inl e ↦ (c, (i, h, omega (arith, e, l)), omega arith, omega arith)
      | inr d ↦ let r = rising i (length segments - 1) c q.0 (omega (arith, d, l)) h q.1 in (q.0, (length segments - 1, q.1, omega (arith, l)), omega (arith, r.0), r.1)
    ]

module _ (found : ℕ) (places : List Place) (path waiting : List ℕ) (segments : List Segment) (components : List (List ℕ)) (h : IsPlaced found places path waiting segments components) where
  -- something of each segment, or behind it, waits
  pub room : IsNotSpent waiting segments → (i : ℕ) (c : Segment) → IsAt segments i c → c.waiting < length waiting
  room left i c a =
      let d = last_of segments h.rising i c a in
      let w = (h.inside d.1.0 d.0 d.1.1).1 in
      let n : ¬ (d.0.waiting ≡ length waiting) = left d.0 d.1 in
      omega (arith, d.3, w, n)

  pub placed_pop : (t : ℕ) → IsAt waiting (length waiting - 1) t → IsClosed places t ⊎ ((p : ℕ) × IsAt path p t) → IsNotSpent waiting segments → IsPlaced found places path (take (length waiting - 1) waiting) segments components
  placed_pop t last is left = record {
    long = h.long;
    placed = h.placed;
    back = h.back;
    waits = λ i k a. h.waits i k (take_get (length waiting - 1) waiting i k a);
    known = λ k l. elim (h.known k l) as (λ _. IsKnown places path (take (length waiting - 1) waiting) k) [
      | inl c ↦ inl c
      | inr (inl p) ↦ inr (inl p)
      | inr (inr w) ↦ elim (nat_dec w.0 (length waiting - 1)) as (λ _. IsKnown places path (take (length waiting - 1) waiting) k) [
        | inl e ↦ subst (λ (n : ℕ). IsKnown places path (take (length waiting - 1) waiting) n) (at_one waiting (length waiting - 1) t k last (subst (λ (n : ℕ). IsAt waiting n k) e w.1)) (of is)
        | inr d ↦ inr (inr (w.0, get_take (length waiting - 1) waiting w.0 k (omega (arith, d, slice_get_within waiting w.0 k w.1)) w.1))
      ]
    ];
    rising = h.rising;
    inside = λ i c a. let r = room left i c a in ((h.inside i c a).0, omega (arith, r, length-take (length waiting - 1) waiting));
    begun = h.begun;
    member = h.member;
    closed = h.closed;
    apart = h.apart;
  }
    where
      of : IsClosed places t ⊎ ((p : ℕ) × IsAt path p t) → IsKnown places path (take (length waiting - 1) waiting) t
      of (inl c) = inl c
      of (inr p) = inr (inl p)

  -- each segment that is left begins no later than the number
  pub joined_before : (place : ℕ) (segments' : List Segment) → Joins place segments segments' → (i : ℕ) (c : Segment) → IsAt segments' i c → c.begin ≤ place
  joined_before place segments' j i c a =
      let d = last_of segments' (λ m n b e l x y. h.rising m n b e l (j.kept m b x) (j.kept n e y)) i c a in
      let l = j.last d.0 d.1 in
      omega (arith, d.2, l)

  pub placed_join : (place t : ℕ) (segments' : List Segment) → IsAt path place t → Joins place segments segments' → IsPlaced found places path waiting segments' components
  placed_join place t segments' at j = record {
    long = h.long;
    placed = h.placed;
    back = h.back;
    waits = h.waits;
    known = h.known;
    rising = λ m n b e l x y. h.rising m n b e l (j.kept m b x) (j.kept n e y);
    inside = λ i c a. h.inside i c (j.kept i c a);
    begun = λ p k a. let b = h.begun p k a in elim (j.stays b.0 b.1 b.2) as (λ _. (i : ℕ) × (c : Segment) × IsAt segments' i c × (c.begin ≤ p)) [
      | inl s ↦ (b.0, b.1, s, b.3)
      | inr far ↦ let d = h.begun place t at in elim (j.stays d.0 d.1 d.2) as (λ _. (i : ℕ) × (c : Segment) × IsAt segments' i c × (c.begin ≤ p)) [
        | inl s ↦ (d.0, d.1, s, omega (arith, d.3, far, b.3))
        | inr worse ↦ absurd (omega (arith, worse, d.3))
      ]
    ];
    member = h.member;
    closed = h.closed;
    apart = h.apart;
  }

  -- where nothing waits, and nothing is spent, nothing is open
  pub none_open : waiting ≡ [] → IsNotSpent waiting segments → path ≡ []
  none_open e left = none_at path (λ p k a. let b = h.begun p k a in let r = room left b.0 b.1 b.2 in omega (arith, r, ap length e))

  -- ---- a number is visited

  module _ (t found' : ℕ) (row : List ℕ) (last : IsAt waiting (length waiting - 1) t) (new : IsAt places t New) (more : found ≤ found') where
    abbrev pub places_on : List Place
    places_on = slice_set (places ++ replicate (found' - length places) New) t (Open (length path))

    abbrev pub segment_on : Segment
    segment_on = record { begin = length path; waiting = length waiting - 1 }

    long_on : length (places ++ replicate (found' - length places) New) ≡ found'
    long_on = length-append places (replicate (found' - length places) New) ∙ (let r = length-replicate (found' - length places) New in let l = h.long in omega (arith, r, l, more))

    inside_on : t < length (places ++ replicate (found' - length places) New)
    inside_on = let l = slice_get_within places t New new in omega (arith, l, long_on, h.long, more)

    pub now_open : IsAt places_on t (Open (length path))
    now_open = set_here (places ++ replicate (found' - length places) New) t (Open (length path)) inside_on

    pub stays_on : (k : ℕ) (m : Place) → New ≢ m → IsAt places k m → IsAt places_on k m
    stays_on k m d a = set_other (places ++ replicate (found' - length places) New) t (Open (length path)) k m inside_on
        (λ e. d (at_one places t New m new (subst (λ (n : ℕ). IsAt places n m) e a)))
        (get-append places (replicate (found' - length places) New) k m a)

    pub back_on : (k : ℕ) (m : Place) → New ≢ m → IsAt places_on k m → ((k ≡ t) × (Open (length path) ≡ m)) ⊎ IsAt places k m
    back_on k m d a = elim (set_cases (places ++ replicate (found' - length places) New) t (Open (length path)) k m inside_on a) as (λ _. ((k ≡ t) × (Open (length path) ≡ m)) ⊎ IsAt places k m) [
      | inl e ↦ inl e
      | inr o ↦ elim (at_split places (replicate (found' - length places) New) k m o.1) as (λ _. ((k ≡ t) × (Open (length path) ≡ m)) ⊎ IsAt places k m) [
        | inl b ↦ inr b
        | inr b ↦ absurd (d (at_replicate (found' - length places) New b.0 m b.2))
      ]
    ]

    pub placed_visit : IsNotSpent waiting segments → ((i j : ℕ) → IsAt row i j → j < found') → ((j : ℕ) → found ≤ j → j < found' → (i : ℕ) × IsAt row i j)
        → IsPlaced found' places_on (path ++ t ∷ []) (take (length waiting - 1) waiting ++ row) (segments ++ segment_on ∷ []) components
    placed_visit left below fresh = record {
      long = length_set ∙ long_on;
      placed = λ p k a. elim (at_more path t p k a) as (λ _. IsAt places_on k (Open p)) [
        | inl b ↦ stays_on k (Open p) (new_open p) (h.placed p k b)
        | inr b ↦ subst (λ (n : ℕ). IsAt places_on n (Open p)) b.1 (subst (λ (n : ℕ). IsAt places_on t (Open n)) (sym b.0) now_open)
      ];
      back = λ p k a. elim (back_on k (Open p) (new_open p) a) as (λ _. IsAt (path ++ t ∷ []) p k) [
        | inl b ↦ subst (λ (n : ℕ). IsAt (path ++ t ∷ []) p n) (sym b.0) (subst (λ (n : ℕ). IsAt (path ++ t ∷ []) n t) (open_same (length path) p b.1) (at_end path t))
        | inr b ↦ get-append path (t ∷ []) p k (h.back p k b)
      ];
      waits = λ i k a. elim (at_split (take (length waiting - 1) waiting) row i k a) as (λ _. k < found') [
        | inl b ↦ let l = h.waits i k (take_get (length waiting - 1) waiting i k b) in omega (arith, l, more)
        | inr b ↦ below b.0 k b.2
      ];
      known = λ k l. elim (nat_le k) as (λ _. IsKnown places_on (path ++ t ∷ []) (take (length waiting - 1) waiting ++ row) k) [
        | inl old ↦ elim (h.known k old) as (λ _. IsKnown places_on (path ++ t ∷ []) (take (length waiting - 1) waiting ++ row) k) [
          | inl c ↦ inl (stays_on k Closed new_closed c)
          | inr (inl p) ↦ inr (inl (p.0, get-append path (t ∷ []) p.0 k p.1))
          | inr (inr w) ↦ elim (nat_dec w.0 (length waiting - 1)) as (λ _. IsKnown places_on (path ++ t ∷ []) (take (length waiting - 1) waiting ++ row) k) [
            | inl e ↦ inr (inl (length path, subst (λ (n : ℕ). IsAt (path ++ t ∷ []) (length path) n) (at_one waiting (length waiting - 1) t k last (subst (λ (n : ℕ). IsAt waiting n k) e w.1)) (at_end path t)))
            | inr d ↦ inr (inr (w.0, get-append (take (length waiting - 1) waiting) row w.0 k (get_take (length waiting - 1) waiting w.0 k (omega (arith, d, slice_get_within waiting w.0 k w.1)) w.1)))
          ]
        ]
        | inr far ↦ let q = fresh k far l in inr (inr (length (take (length waiting - 1) waiting) + q.0, at_behind (take (length waiting - 1) waiting) row q.0 _ k refl q.1))
      ];
      rising = λ i j b c l x y. elim (at_more segments segment_on j c y) as (λ _. (b.begin < c.begin) × (b.waiting ≤ c.waiting)) [
        | inl d ↦ elim (at_more segments segment_on i b x) as (λ _. (b.begin < c.begin) × (b.waiting ≤ c.waiting)) [
          | inl e ↦ h.rising i j b c l e d
          | inr e ↦ absurd (omega (arith, l, e.0, slice_get_within segments j c d))
        ]
        | inr d ↦ elim (at_more segments segment_on i b x) as (λ _. (b.begin < c.begin) × (b.waiting ≤ c.waiting)) [
          | inl e ↦
              let r = room left i b e in
              let s = h.inside i b e in
              let at_c = subst (λ (u : Segment). (b.begin < u.begin) × (b.waiting ≤ u.waiting)) d.1 in
              at_c (s.0, omega (arith, r))
          | inr e ↦ absurd (omega (arith, l, e.0, d.0))
        ]
      ];
      inside = λ i c a. elim (at_more segments segment_on i c a) as (λ _. (c.begin < length (path ++ t ∷ [])) × (c.waiting ≤ length (take (length waiting - 1) waiting ++ row))) [
        | inl b ↦ let s = h.inside i c b in let r = room left i c b in (omega (arith, s.0, length-append path (t ∷ [])), omega (arith, r, many))
        | inr b ↦ subst (λ (u : Segment). (u.begin < length (path ++ t ∷ [])) × (u.waiting ≤ length (take (length waiting - 1) waiting ++ row))) b.1 (omega (arith, length-append path (t ∷ [])), omega (arith, many))
      ];
      begun = λ p k a. elim (at_more path t p k a) as (λ _. (i : ℕ) × (c : Segment) × IsAt (segments ++ segment_on ∷ []) i c × (c.begin ≤ p)) [
        | inl b ↦ let q = h.begun p k b in (q.0, q.1, get-append segments (segment_on ∷ []) q.0 q.1 q.2, q.3)
        | inr b ↦ (length segments, segment_on, at_end segments segment_on, omega (arith, b.0))
      ];
      member = λ k a. elim (back_on k Closed new_closed a) as (λ _. (i : ℕ) × IsMember components i k) [
        | inl b ↦ absurd (closed_open (length path) (sym b.1))
        | inr b ↦ h.member k b
      ];
      closed = λ i k m. stays_on k Closed new_closed (h.closed i k m);
      apart = h.apart;
    }
      where
        nat_le : (k : ℕ) → (k < found) ⊎ (found ≤ k)
        nat_le k = below_or found k

        length_set : length places_on ≡ length (places ++ replicate (found' - length places) New)
        length_set = set_length (places ++ replicate (found' - length places) New) t (Open (length path))

        many : length waiting - 1 ≤ length (take (length waiting - 1) waiting ++ row)
        many = let a = length-append (take (length waiting - 1) waiting) row in let b = length-take (length waiting - 1) waiting in omega (arith, a, b)

-- ---- a component is closed

-- the first numbers are closed, and the places of the others are as before
pub record ClosesFirst (n : ℕ) (numbers : List ℕ) (places places' : List Place) : Type 0 where
  pub long : length places' ≡ length places
  pub now : (p k : ℕ) → p < n → IsAt numbers p k → IsClosed places' k
  pub stays : (k : ℕ) (m : Place) → IsAt places k m → IsAt places' k m ⊎ ((p : ℕ) × IsAt numbers p k)
  pub back : (k : ℕ) (m : Place) → IsAt places' k m → IsAt places k m ⊎ ((m ≡ Closed) × ((p : ℕ) × IsAt numbers p k))

pub closes_none : (numbers : List ℕ) (places : List Place) → ClosesFirst 0 numbers places places
closes_none numbers places = record { long = refl; now = λ p k l a. absurd (omega (arith, l)); stays = λ k m a. inl a; back = λ k m a. inl a }

pub closes_more : (n k : ℕ) (numbers : List ℕ) (places places' : List Place) → ClosesFirst n numbers places places' → IsAt numbers n k → k < length places' → ClosesFirst (n + 1) numbers places (slice_set places' k Closed)
closes_more n k numbers places places' h at inside = record {
  long = set_length places' k Closed ∙ h.long;
  now = λ p j l a. elim (nat_dec j k) as (λ _. IsClosed (slice_set places' k Closed) j) [
    | inl e ↦ subst (λ (i : ℕ). IsClosed (slice_set places' k Closed) i) (sym e) (set_here places' k Closed inside)
    | inr d ↦ set_other places' k Closed j Closed inside d (h.now p j (before p j l a d) a)
  ];
  stays = λ j m a. elim (nat_dec j k) as (λ _. IsAt (slice_set places' k Closed) j m ⊎ ((p : ℕ) × IsAt numbers p j)) [
    | inl e ↦ inr (n, subst (λ (i : ℕ). IsAt numbers n i) (sym e) at)
    | inr d ↦ elim (h.stays j m a) as (λ _. IsAt (slice_set places' k Closed) j m ⊎ ((p : ℕ) × IsAt numbers p j)) [
      | inl b ↦ inl (set_other places' k Closed j m inside d b)
      | inr b ↦ inr b
    ]
  ];
  back = λ j m a. elim (set_cases places' k Closed j m inside a) as (λ _. IsAt places j m ⊎ ((m ≡ Closed) × ((p : ℕ) × IsAt numbers p j))) [
    | inl e ↦ inr (sym e.1, (n, subst (λ (i : ℕ). IsAt numbers n i) (sym e.0) at))
    | inr b ↦ h.back j m b.1
  ];
}
  where
    before : (p j : ℕ) → p < n + 1 → IsAt numbers p j → j ≢ k → p < n
    before p j l a d = elim (nat_dec p n) as (λ _. p < n) [
      | inl e ↦ absurd (d (at_one numbers n j k (subst (λ (i : ℕ). IsAt numbers i j) e a) at))
      | inr o ↦ omega (arith, l, o)
    ]

pub closes_all : (n : ℕ) (numbers : List ℕ) (places places' : List Place) → length numbers ≤ n → ClosesFirst n numbers places places' → Closes numbers places places'
closes_all n numbers places places' l h = record {
  long = h.long;
  now = λ p k a. h.now p k (let s = slice_get_within numbers p k a in omega (arith, s, l)) a;
  stays = h.stays;
  back = h.back;
}

module _ (found : ℕ) (places places' : List Place) (path waiting : List ℕ) (segments : List Segment) (components : List (List ℕ)) (h : IsPlaced found places path waiting segments components) (last : Segment) (is : IsLast segments last) (closes : Closes (drop last.begin path) places places') where
  -- an open number that is closed stands in the last segment
  pub closed_behind : (p k : ℕ) → IsAt path p k → ((q : ℕ) × IsAt (drop last.begin path) q k) → last.begin ≤ p
  closed_behind p k a d =
      let q = drop_get last.begin path d.0 k d.1 in
      let e = open_same p q.0 (at_one places k (Open p) (Open q.0) (h.placed p k a) (h.placed q.0 k q.2)) in
      omega (arith, e, q.1)

  pub closed_now : (p k : ℕ) → last.begin ≤ p → IsAt path p k → IsClosed places' k
  closed_now p k l a = let q = get_drop last.begin path p k l a in closes.now q.0 k q.2

  pub closed_stays : (k : ℕ) → IsClosed places k → IsClosed places' k
  closed_stays k a = elim (closes.stays k Closed a) as (λ _. IsClosed places' k) [
    | inl b ↦ b
    | inr b ↦ closes.now b.0 k b.1
  ]

  -- a segment that begins before the last one is left
  pub left_before : (i : ℕ) (c : Segment) → IsAt segments i c → c.begin < last.begin → IsAt (take (length segments - 1) segments) i c
  left_before i c a l = elim (nat_dec i is.0) as (λ _. IsAt (take (length segments - 1) segments) i c) [
    | inl e ↦
        let f : c ≡ last = at_one segments is.0 c last (subst (λ (n : ℕ). IsAt segments n c) e a) is.1 in
        absurd (omega (arith, l, ap (λ (s : Segment). s.begin) f))
    | inr d ↦ let s = slice_get_within segments i c a in get_take (length segments - 1) segments i c (omega (arith, s, d, is.2)) a
  ]

  pub before_last : (i : ℕ) (c : Segment) → IsAt (take (length segments - 1) segments) i c → IsAt segments i c × (c.begin < last.begin) × (c.waiting ≤ last.waiting)
  before_last i c a =
      let b = take_get (length segments - 1) segments i c a in
      let l = take_below (length segments - 1) segments i c a in
      let r = h.rising i is.0 c last (omega (arith, l, is.2)) b is.1 in
      (b, r.0, r.1)

  closed_apart : AreApart (components ++ drop last.begin path ∷ [])
  closed_apart = record {
    once = λ i j k a b. both i j k (cases i k a) (cases j k b);
    distinct = λ i c p q k a x y. elim (at_more components (drop last.begin path) i c a) as (λ _. p ≡ q) [
      | inl b ↦ h.apart.distinct i c p q k b x y
      | inr b ↦
          let u = drop_get last.begin path p k (subst (λ (l : List ℕ). IsAt l p k) (sym b.1) x) in
          let v = drop_get last.begin path q k (subst (λ (l : List ℕ). IsAt l q k) (sym b.1) y) in
          let e = open_same u.0 v.0 (at_one places k (Open u.0) (Open v.0) (h.placed u.0 k u.2) (h.placed v.0 k v.2)) in
          omega (arith, e, u.1, v.1)
    ];
    filled = λ i c a. elim (at_more components (drop last.begin path) i c a) as (λ _. 0 < length c) [
      | inl b ↦ h.apart.filled i c b
      | inr b ↦ subst (λ (l : List ℕ). 0 < length l) b.1 (let s = h.inside is.0 last is.1 in omega (arith, s.0, length-drop last.begin path))
    ];
  }
    where
      cases : (i k : ℕ) → IsMember (components ++ drop last.begin path ∷ []) i k → IsNewMember components (drop last.begin path) i k
      cases i k m = elim (at_more components (drop last.begin path) i m.0 m.2) as (λ _. IsNewMember components (drop last.begin path) i k) [
        | inl b ↦ inl (m.0, m.1, b, m.3)
        | inr b ↦ inr (b.0, (m.1, subst (λ (l : List ℕ). IsAt l m.1 k) (sym b.1) m.3))
      ]

      clash : (i k : ℕ) → IsMember components i k → ((p : ℕ) × IsAt (drop last.begin path) p k) → ⊥
      clash i k m d =
          let q = drop_get last.begin path d.0 k d.1 in
          closed_open q.0 (at_one places k Closed (Open q.0) (h.closed i k m) (h.placed q.0 k q.2))

      both : (i j k : ℕ) → IsNewMember components (drop last.begin path) i k → IsNewMember components (drop last.begin path) j k → i ≡ j
      both i j k (inl a) (inl b) = h.apart.once i j k a b
      both i j k (inl a) (inr b) = absurd (clash i k a b.1)
      both i j k (inr a) (inl b) = absurd (clash j k b a.1)
      both i j k (inr a) (inr b) = a.0 ∙ sym b.0

  pub placed_close : IsPlaced found places' (take last.begin path) waiting (take (length segments - 1) segments) (components ++ drop last.begin path ∷ [])
  placed_close = record {
    long = closes.long ∙ h.long;
    placed = λ p k a.
        let b = take_get last.begin path p k a in
        let l = take_below last.begin path p k a in
        elim (closes.stays k (Open p) (h.placed p k b)) as (λ _. IsAt places' k (Open p)) [
          | inl c ↦ c
          | inr c ↦ absurd (let s = closed_behind p k b c in omega (arith, l, s))
        ];
    back = λ p k a. elim (closes.back k (Open p) a) as (λ _. IsAt (take last.begin path) p k) [
      | inl b ↦ let c = h.back p k b in elim (below_or last.begin p) as (λ _. IsAt (take last.begin path) p k) [
        | inl l ↦ get_take last.begin path p k l c
        | inr l ↦ absurd (closed_open p (at_one places' k Closed (Open p) (closed_now p k l c) a))
      ]
      | inr b ↦ absurd (closed_open p (sym b.0))
    ];
    waits = h.waits;
    known = λ k l. elim (h.known k l) as (λ _. IsClosed places' k ⊎ ((p : ℕ) × IsAt (take last.begin path) p k) ⊎ ((i : ℕ) × IsAt waiting i k)) [
      | inl c ↦ inl (closed_stays k c)
      | inr (inl p) ↦ elim (below_or last.begin p.0) as (λ _. IsClosed places' k ⊎ ((p : ℕ) × IsAt (take last.begin path) p k) ⊎ ((i : ℕ) × IsAt waiting i k)) [
        | inl b ↦ inr (inl (p.0, get_take last.begin path p.0 k b p.1))
        | inr b ↦ inl (closed_now p.0 k b p.1)
      ]
      | inr (inr w) ↦ inr (inr w)
    ];
    rising = λ i j b c l x y. h.rising i j b c l (before_last i b x).0 (before_last j c y).0;
    inside = λ i c a. let b = before_last i c a in let s = h.inside i c b.0 in let t = h.inside is.0 last is.1 in (omega (arith, b.1, t.0, length-take last.begin path), s.1);
    begun = λ p k a.
        let l = take_below last.begin path p k a in
        let b = h.begun p k (take_get last.begin path p k a) in
        (b.0, b.1, left_before b.0 b.1 b.2 (omega (arith, l, b.3)), b.3);
    member = λ k a. elim (closes.back k Closed a) as (λ _. (i : ℕ) × IsMember (components ++ drop last.begin path ∷ []) i k) [
      | inl b ↦ let m = h.member k b in (m.0, (m.1.0, m.1.1, get-append components (drop last.begin path ∷ []) m.0 m.1.0 m.1.2, m.1.3))
      | inr b ↦ (length components, (drop last.begin path, b.1.0, at_end components (drop last.begin path), b.1.1))
    ];
    closed = λ i k m. elim (at_more components (drop last.begin path) i m.0 m.2) as (λ _. IsClosed places' k) [
      | inl b ↦ closed_stays k (h.closed i k (m.0, m.1, b, m.3))
      | inr b ↦ closes.now m.1 k (subst (λ (l : List ℕ). IsAt l m.1 k) (sym b.1) m.3)
    ];
    apart = closed_apart;
  }

-- ---- nothing was visited

pub placed_new : (found : ℕ) (waiting : List ℕ) → ((i k : ℕ) → IsAt waiting i k → k < found) → ((k : ℕ) → k < found → (i : ℕ) × IsAt waiting i k) → IsPlaced found (replicate found New) [] waiting [] []
placed_new found waiting below all = record {
  long = length-replicate found New;
  placed = λ p k a. absurd (none_in p k a);
  back = λ p k a. absurd (new_open p (at_replicate found New k (Open p) a));
  waits = below;
  known = λ k l. inr (inr (all k l));
  rising = λ i j b c l x y. absurd (none_in i b x);
  inside = λ i c a. absurd (none_in i c a);
  begun = λ p k a. absurd (none_in p k a);
  member = λ k a. absurd (new_closed (at_replicate found New k Closed a));
  closed = λ i k m. absurd (none_in i m.0 m.2);
  apart = record {
    once = λ i j k a b. absurd (none_in i a.0 a.2);
    distinct = λ i c p q k a x y. absurd (none_in i c a);
    filled = λ i c a. absurd (none_in i c a);
  };
}
