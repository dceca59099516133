-- What leads from where in a search for strong components, turn by turn.
use Rattle.std.proofs.Common.{◌≡◌, ℕ, ℤ, ◌<◌, ◌≤◌, ◌+◌, ◌-◌, List, [], ◌∷◌, ◌++◌, length, take, drop, refl, sym, ap, subst, arith, inl, inr}
use Rattle.std.specs.Prelude.{◌⊎◌, ◌↔◌, map}
use Rattle.std.proofs.lemmas.Option.{slice_get_within}
use Rattle.std.proofs.lemmas.List.{length-take}
use Rattle.pf_base.specs.Walks.{Follows, end_of}
use Rattle.pf_core.specs.Numbered.{Grows, ListsSteps}
use Rattle.pf_base.proofs.ListLemmas.{nat_dec, take_get, get_take, none_in, get-append}
use Rattle.pf_orders.specs.declared.component_search.Place.{Place}
use Rattle.pf_orders.specs.declared.component_search.Place.TheVariants.{New, Open, Closed}
use Rattle.pf_orders.specs.declared.component_search.Segment.{Segment}
use Rattle.pf_orders.specs.Internal.ComponentSearch.{IsAt, IsLast, IsMember, IsClosed, IsPlaced, Closes, Joins, IsLink, Leads, LeadsInto, AreClosing, AreBeside, IsBehind, IsOpenPath, AreNumberedComponents}
use Rattle.pf_orders.proofs.ComponentLists.{at_one, at_end, at_behind, at_split, at_more, take_below, drop_get, get_drop, below_or, ends_at, at_ends}
use Rattle.pf_orders.proofs.ComponentPlaces.{IsNotSpent, room, joined_before, places_on, segment_on, stays_on, closed_now, closed_stays, left_before, before_last}

module _ {X : Type 0} (step : X → ℤ → X → Type 0) (stands : ℕ → X → Type 0) where
  pub leads_nowhere : (u : ℕ) → Leads step stands u u
  leads_nowhere u = ([], tt, refl)

  join_walks : (w : List ℕ) (a u v : ℕ) → Follows (IsLink step stands) a w → end_of a w ≡ u → Leads step stands u v → Leads step stands a v
  join_walks [] a u v f e l = subst (λ (n : ℕ). Leads step stands n v) (sym e) l
  join_walks (b ∷ w) a u v f e l = let r = join_walks w b u v f.1 e l in (b ∷ r.0, (f.0, r.1), r.2)

  pub leads_on : (a u v : ℕ) → Leads step stands a u → Leads step stands u v → Leads step stands a v
  leads_on a u v k l = join_walks k.0 a u v k.1 k.2 l

  pub leads_step : (u v : ℕ) → IsLink step stands u v → Leads step stands u v
  leads_step u v l = (v ∷ [], (l, tt), refl)

  pub into_more : (u : ℕ) (P Q : ℕ → Type 0) → ((v : ℕ) → P v → Q v) → LeadsInto step stands u P → LeadsInto step stands u Q
  into_more u P Q f l x z y s t = let q = l x z y s t in (q.0, q.1, f q.0 q.2)

-- ---- nodes are added

module _ {X : Type 0} (step : X → ℤ → X → Type 0) (found found' : ℕ) (stands stands' : ℕ → X → Type 0) (grows : Grows found found' stands stands') where
  walk_grows : (w : List ℕ) (a : ℕ) → Follows (IsLink step stands) a w → Follows (IsLink step stands') a w
  walk_grows [] a f = tt
  walk_grows (b ∷ w) a f = let l = f.0 in ((l.0, l.1, l.2, grows.stays a l.0 l.3, l.4, grows.stays b l.2 l.5), walk_grows w b f.1)

  pub leads_grows : (u v : ℕ) → Leads step stands u v → Leads step stands' u v
  leads_grows u v l = (l.0, walk_grows l.0 u l.1, l.2)

  pub into_grows : (u : ℕ) (P Q : ℕ → Type 0) → u < found → ((v : ℕ) → P v → Q v) → LeadsInto step stands u P → LeadsInto step stands' u Q
  into_grows u P Q inside f l x z y s t = let q = l x z y (grows.back u x inside s) t in (q.0, grows.stays q.0 y q.1, f q.0 q.2)

  pub closing_grows : (components : List (List ℕ)) → ((i k : ℕ) → IsMember components i k → k < found) → AreClosing step stands components → AreClosing step stands' components
  closing_grows components inside h = record {
    joined = λ i u v a b. leads_grows u v (h.joined i u v a b);
    before = λ i u a. into_grows u _ _ (inside i u a) (λ v p. p) (h.before i u a);
  }

module _ {X : Type 0} (step : X → ℤ → X → Type 0) (stands : ℕ → X → Type 0) (found : ℕ) (places : List Place) (path waiting : List ℕ) (segments : List Segment) (components : List (List ℕ)) (h : IsPlaced found places path waiting segments components) (o : IsOpenPath step stands places path waiting segments) where
  -- ---- a number that was closed is passed

  pub path_pass : (t : ℕ) → IsAt waiting (length waiting - 1) t → IsClosed places t → IsOpenPath step stands places path (take (length waiting - 1) waiting) segments
  path_pass t last is = record {
    named = λ i n a. o.named i n (take_get (length waiting - 1) waiting i n a);
    forth = o.forth;
    back = o.back;
    led = λ i k j c a b l. o.led i k j c (take_get (length waiting - 1) waiting i k a) b l;
    goes = λ p u a. into_more step stands u _ _ (λ v b. elim b as (λ _. IsBehind step stands places path (take (length waiting - 1) waiting) segments p v) [
      | inl c ↦ inl c
      | inr (inl q) ↦ inr (inl q)
      | inr (inr w) ↦ elim (nat_dec w.0 (length waiting - 1)) as (λ _. IsBehind step stands places path (take (length waiting - 1) waiting) segments p v) [
        | inl e ↦ inl (subst (λ (n : ℕ). IsClosed places n) (at_one waiting (length waiting - 1) t v last (subst (λ (n : ℕ). IsAt waiting n v) e w.1)) is)
        | inr d ↦ inr (inr (w.0, get_take (length waiting - 1) waiting w.0 v (omega (arith, d, slice_get_within waiting w.0 v w.1)) w.1, w.2))
      ]
    ]) (o.goes p u a);
  }

  -- ---- what waits last is led to from each open number

  module _ (t : ℕ) (last : IsAt waiting (length waiting - 1) t) (left : IsNotSpent waiting segments) where
    -- an open number of the last segment leads to it
    from_last : (p u : ℕ) → IsAt path p u → (m : ℕ) × (w : ℕ) × IsAt path m w × ((j : ℕ) (c : Segment) → IsAt segments j c → c.begin ≤ m) × Leads step stands w t
    from_last p u a =
        let b = h.begun p u a in
        let r = room found places path waiting segments components h left b.0 b.1 b.2 in
        let s = o.led (length waiting - 1) t b.0 b.1 last b.2 (omega (arith, r)) in
        (s.0, s.1, s.2, λ j c x. let y = room found places path waiting segments components h left j c x in (s.3 j c x).1 (omega (arith, y)), s.4)

    pub all_lead : (p u : ℕ) → IsAt path p u → Leads step stands u t
    all_lead p u a =
        let s = from_last p u a in
        elim (below_or p s.0) as (λ _. Leads step stands u t) [
          | inl before ↦ leads_on step stands u s.1 t (o.back s.0 p s.1 u (omega (arith, before)) s.2 a (λ j c x l. s.3 j c x)) s.4
          | inr behind ↦ leads_on step stands u s.1 t (o.forth p s.0 u s.1 behind a s.2) s.4
        ]

    -- ---- a step back joins segments

    pub path_join : (place : ℕ) (segments' : List Segment) → IsAt path place t → Joins place segments segments' → IsOpenPath step stands places path (take (length waiting - 1) waiting) segments'
    path_join place segments' at joins = record {
      named = λ i n a. o.named i n (take_get (length waiting - 1) waiting i n a);
      forth = o.forth;
      back = λ p q u v l a b none. elim (below_or place q) as (λ _. Leads step stands v u) [
        | inl q_before ↦ o.back p q u v l a b (λ j c x m. elim (joins.stays j c x) as (λ _. c.begin ≤ p) [
          | inl y ↦ none j c y m
          | inr far ↦ absurd (omega (arith, far, m, q_before))
        ])
        | inr q_behind ↦ leads_on step stands v t u (all_lead q v b) (elim (below_or p place) as (λ _. Leads step stands t u) [
          | inl t_before ↦ o.forth place p t u (omega (arith, t_before)) at a
          | inr t_behind ↦ o.back p place u t t_behind a at (λ j c x m. elim (joins.stays j c x) as (λ _. c.begin ≤ p) [
            | inl y ↦ none j c y (omega (arith, m, q_behind))
            | inr far ↦ absurd (omega (arith, far, m))
          ])
        ])
      ];
      led = λ i k j c a b l.
          let s = o.led i k j c (take_get (length waiting - 1) waiting i k a) (joins.kept j c b) l in
          (s.0, s.1, s.2, λ n d x. s.3 n d (joins.kept n d x), s.4);
      goes = λ p u a. into_more step stands u _ _ (λ v b. elim b as (λ _. IsBehind step stands places path (take (length waiting - 1) waiting) segments' p v) [
        | inl c ↦ inl c
        | inr (inl q) ↦ inr (inl (q.0, q.1, λ j c x. q.2 j c (joins.kept j c x)))
        | inr (inr w) ↦ elim (nat_dec w.0 (length waiting - 1)) as (λ _. IsBehind step stands places path (take (length waiting - 1) waiting) segments' p v) [
          | inl e ↦ inr (inl (
            place,
            subst (λ (n : ℕ). IsAt path place n) (at_one waiting (length waiting - 1) t v last (subst (λ (n : ℕ). IsAt waiting n v) e w.1)) at,
            λ j c x m. joined_before found places path waiting segments components h place segments' joins j c x,
          ))
          | inr d ↦ inr (inr (w.0, get_take (length waiting - 1) waiting w.0 v (omega (arith, d, slice_get_within waiting w.0 v w.1)) w.1, λ j c x. w.2 j c (joins.kept j c x)))
        ]
      ]) (o.goes p u a);
    }

    -- ---- a number is visited

    module _ (found' : ℕ) (stands' : ℕ → X → Type 0) (grows : Grows found found' stands stands') (row : List ℕ) (new : IsAt places t New)
        (linked : (i j : ℕ) → IsAt row i j → IsLink step stands' t j) (complete : LeadsInto step stands' t (λ v. (i : ℕ) × IsAt row i v)) where
      abbrev Places : List Place
      Places = places_on found places path waiting segments components h t found' row last new grows.more

      abbrev Own : Segment
      Own = segment_on found places path waiting segments components h t found' row last new grows.more

      inside : (p u : ℕ) → IsAt path p u → u < found
      inside p u a = let l = slice_get_within places u (Open p) (h.placed p u a) in omega (arith, l, h.long)

      abbrev Rest : List ℕ
      Rest = take (length waiting - 1) waiting

      rest_long : length Rest ≡ length waiting - 1
      rest_long = let l = length-take (length waiting - 1) waiting in omega (arith, l)

      -- a segment begins no later than the number that is visited
      begins_before : (j : ℕ) (c : Segment) → IsAt (segments ++ Own ∷ []) j c → c.begin ≤ length path
      begins_before j c x = elim (at_more segments Own j c x) as (λ _. c.begin ≤ length path) [
        | inl y ↦ let s = h.inside j c y in omega (arith, s.0)
        | inr y ↦ subst (λ (d : Segment). d.begin ≤ length path) y.1 (omega arith)
      ]

      waits_before : (j : ℕ) (c : Segment) → IsAt (segments ++ Own ∷ []) j c → c.waiting ≤ length waiting - 1
      waits_before j c x = elim (at_more segments Own j c x) as (λ _. c.waiting ≤ length waiting - 1) [
        | inl y ↦ let r = room found places path waiting segments components h left j c y in omega (arith, r)
        | inr y ↦ subst (λ (d : Segment). d.waiting ≤ length waiting - 1) y.1 (omega arith)
      ]

      -- before the number only the segments of before matter
      old_segment : (p j : ℕ) (c : Segment) → p < length path → IsAt (segments ++ Own ∷ []) j c → c.begin ≤ p → IsAt segments j c
      old_segment p j c l x m = elim (at_more segments Own j c x) as (λ _. IsAt segments j c) [
        | inl y ↦ y
        | inr y ↦ absurd (let e = ap (λ (d : Segment). d.begin) y.1 in omega (arith, l, m, e))
      ]

      forth_on : (p q u v : ℕ) → p ≤ q → IsAt (path ++ t ∷ []) p u → IsAt (path ++ t ∷ []) q v → Leads step stands' u v
      forth_on p q u v l a b = elim (at_more path t q v b) as (λ _. Leads step stands' u v) [
        | inl y ↦ elim (at_more path t p u a) as (λ _. Leads step stands' u v) [
          | inl x ↦ leads_grows step found found' stands stands' grows u v (o.forth p q u v l x y)
          | inr x ↦ absurd (omega (arith, l, x.0, slice_get_within path q v y))
        ]
        | inr y ↦ subst (λ (n : ℕ). Leads step stands' u n) y.1 (elim (at_more path t p u a) as (λ _. Leads step stands' u t) [
          | inl x ↦ leads_grows step found found' stands stands' grows u t (all_lead p u x)
          | inr x ↦ subst (λ (n : ℕ). Leads step stands' n t) x.1 (leads_nowhere step stands' t)
        ])
      ]

      back_over : (p q u v : ℕ) → p ≤ q → IsAt (path ++ t ∷ []) p u → IsAt (path ++ t ∷ []) q v → ((j : ℕ) (c : Segment) → IsAt (segments ++ Own ∷ []) j c → c.begin ≤ q → c.begin ≤ p) → Leads step stands' v u
      back_over p q u v l a b none = elim (at_more path t q v b) as (λ _. Leads step stands' v u) [
        | inl y ↦ elim (at_more path t p u a) as (λ _. Leads step stands' v u) [
          | inl x ↦ leads_grows step found found' stands stands' grows v u (o.back p q u v l x y (λ j c z m. none j c (get-append segments (Own ∷ []) j c z) m))
          | inr x ↦ absurd (omega (arith, l, x.0, slice_get_within path q v y))
        ]
        | inr y ↦
            let far : length path ≤ p = none (length segments) Own (at_end segments Own) (omega (arith, y.0)) in
            elim (at_more path t p u a) as (λ _. Leads step stands' v u) [
              | inl x ↦ absurd (omega (arith, far, slice_get_within path p u x))
              | inr x ↦ subst (λ (n : ℕ). Leads step stands' v n) x.1 (subst (λ (n : ℕ). Leads step stands' n t) y.1 (leads_nowhere step stands' t))
            ]
      ]

      led_on : (i k j : ℕ) (c : Segment) → IsAt (Rest ++ row) i k → IsAt (segments ++ Own ∷ []) j c → c.waiting ≤ i
          → (p : ℕ) × (u : ℕ) × IsAt (path ++ t ∷ []) p u × AreBeside step stands' Places (path ++ t ∷ []) (Rest ++ row) (segments ++ Own ∷ []) p i × Leads step stands' u k
      led_on i k j c a b l = elim (at_split Rest row i k a) as (λ _. (p : ℕ) × (u : ℕ) × IsAt (path ++ t ∷ []) p u × AreBeside step stands' Places (path ++ t ∷ []) (Rest ++ row) (segments ++ Own ∷ []) p i × Leads step stands' u k) [
        | inl w ↦
            let low = take_below (length waiting - 1) waiting i k w in
            elim (at_more segments Own j c b) as (λ _. (p : ℕ) × (u : ℕ) × IsAt (path ++ t ∷ []) p u × AreBeside step stands' Places (path ++ t ∷ []) (Rest ++ row) (segments ++ Own ∷ []) p i × Leads step stands' u k) [
              | inl y ↦
                  let s = o.led i k j c (take_get (length waiting - 1) waiting i k w) y l in
                  let near = slice_get_within path s.0 s.1 s.2 in (
                    s.0,
                    s.1,
                    get-append path (t ∷ []) s.0 s.1 s.2,
                    λ n d x. elim (at_more segments Own n d x) as (λ _. (d.begin ≤ s.0) ↔ (d.waiting ≤ i)) [
                      | inl z ↦ s.3 n d z
                      | inr z ↦ subst (λ (e : Segment). (e.begin ≤ s.0) ↔ (e.waiting ≤ i)) z.1 (λ f. absurd (omega (arith, f, near)), λ f. absurd (omega (arith, f, low)))
                    ],
                    leads_grows step found found' stands stands' grows s.1 k s.4,
                  )
              | inr y ↦ absurd (let e = ap (λ (d : Segment). d.waiting) y.1 in omega (arith, l, low, e))
            ]
        | inr w ↦ (
          length path,
          t,
          at_end path t,
          λ n d x. (λ _. let f = waits_before n d x in omega (arith, f, w.1, rest_long), λ _. begins_before n d x),
          leads_step step stands' t k (linked w.0 k w.2),
        )
      ]

      goes_on : (p u : ℕ) → IsAt (path ++ t ∷ []) p u → LeadsInto step stands' u (IsBehind step stands' Places (path ++ t ∷ []) (Rest ++ row) (segments ++ Own ∷ []) p)
      goes_on p u a = elim (at_more path t p u a) as (λ _. LeadsInto step stands' u (IsBehind step stands' Places (path ++ t ∷ []) (Rest ++ row) (segments ++ Own ∷ []) p)) [
        | inl x ↦
            let near = slice_get_within path p u x in
            into_grows step found found' stands stands' grows u _ _ (inside p u x) (λ v b. elim b as (λ _. IsBehind step stands' Places (path ++ t ∷ []) (Rest ++ row) (segments ++ Own ∷ []) p v) [
              | inl c ↦ inl (stays_on found places path waiting segments components h t found' row last new grows.more v Closed (λ e. cc) c)
              | inr (inl q) ↦ inr (inl (q.0, get-append path (t ∷ []) q.0 v q.1, λ j c y m. q.2 j c (old_segment p j c near y m) m))
              | inr (inr w) ↦ elim (nat_dec w.0 (length waiting - 1)) as (λ _. IsBehind step stands' Places (path ++ t ∷ []) (Rest ++ row) (segments ++ Own ∷ []) p v) [
                | inl e ↦ inr (inl (
                  length path,
                  subst (λ (n : ℕ). IsAt (path ++ t ∷ []) (length path) n) (at_one waiting (length waiting - 1) t v last (subst (λ (n : ℕ). IsAt waiting n v) e w.1)) (at_end path t),
                  λ j c y m. begins_before j c y,
                ))
                | inr d ↦ inr (inr (
                  w.0,
                  get-append Rest row w.0 v (get_take (length waiting - 1) waiting w.0 v (omega (arith, d, slice_get_within waiting w.0 v w.1)) w.1),
                  λ j c y m. w.2 j c (old_segment p j c near y m) m,
                ))
              ]
            ]) (o.goes p u x)
        | inr x ↦ subst (λ (n : ℕ). LeadsInto step stands' n (IsBehind step stands' Places (path ++ t ∷ []) (Rest ++ row) (segments ++ Own ∷ []) p)) x.1 (into_more step stands' t _ _ (λ v r. inr (inr (
          length Rest + r.0,
          at_behind Rest row r.0 _ v refl r.1,
          λ j c y m. let f = waits_before j c y in omega (arith, f, rest_long),
        ))) complete)
      ]

      pub path_visit : IsOpenPath step stands' Places (path ++ t ∷ []) (Rest ++ row) (segments ++ Own ∷ [])
      path_visit = record {
        named = λ i n a. elim (at_split Rest row i n a) as (λ _. (x : X) × stands' n x) [
          | inl w ↦ let q = o.named i n (take_get (length waiting - 1) waiting i n w) in (q.0, grows.stays n q.0 q.1)
          | inr w ↦ let l = linked w.0 n w.2 in (l.2, l.5)
        ];
        forth = forth_on;
        back = back_over;
        led = led_on;
        goes = goes_on;
      }

  -- ---- a component is closed

  module _ (places' : List Place) (end : Segment) (is : IsLast segments end) (spent : end.waiting ≡ length waiting) (closes : Closes (drop end.begin path) places places') where
    pub path_close : IsOpenPath step stands places' (take end.begin path) waiting (take (length segments - 1) segments)
    path_close = record {
      named = o.named;
      forth = λ p q u v l a b. o.forth p q u v l (take_get end.begin path p u a) (take_get end.begin path q v b);
      back = λ p q u v l a b none.
          let low = take_below end.begin path q v b in
          o.back p q u v l (take_get end.begin path p u a) (take_get end.begin path q v b)
          (λ j c x m. none j c (left_before found places places' path waiting segments components h end is closes j c x (omega (arith, m, low))) m);
      led = λ i n j c a b l.
          let s = o.led i n j c a (before_last found places places' path waiting segments components h end is closes j c b).0 l in
          elim (below_or end.begin s.0) as (λ _. (p : ℕ) × (u : ℕ) × IsAt (take end.begin path) p u × AreBeside step stands places' (take end.begin path) waiting (take (length segments - 1) segments) p i × Leads step stands u n) [
            | inl low ↦ (s.0, s.1, get_take end.begin path s.0 s.1 low s.2, λ m d x. s.3 m d (before_last found places places' path waiting segments components h end is closes m d x).0, s.4)
            | inr high ↦ absurd (let w = (s.3 is.0 end is.1).0 high in omega (arith, w, spent, slice_get_within waiting i n a))
          ];
      goes = λ p u a. into_more step stands u _ _ (λ v b. elim b as (λ _. IsBehind step stands places' (take end.begin path) waiting (take (length segments - 1) segments) p v) [
        | inl c ↦ inl (closed_stays found places places' path waiting segments components h end is closes v c)
        | inr (inl q) ↦ elim (below_or end.begin q.0) as (λ _. IsBehind step stands places' (take end.begin path) waiting (take (length segments - 1) segments) p v) [
          | inl low ↦ inr (inl (q.0, get_take end.begin path q.0 v low q.1, λ j c x. q.2 j c (before_last found places places' path waiting segments components h end is closes j c x).0))
          | inr high ↦ inl (closed_now found places places' path waiting segments components h end is closes q.0 v high q.1)
        ]
        | inr (inr w) ↦ inr (inr (w.0, w.1, λ j c x. w.2 j c (before_last found places places' path waiting segments components h end is closes j c x).0))
      ]) (o.goes p u (take_get end.begin path p u a));
    }

    no_later : (j : ℕ) (c : Segment) → IsAt segments j c → c.begin ≤ end.begin
    no_later j c x = elim (nat_dec j is.0) as (λ _. c.begin ≤ end.begin) [
      | inl e ↦ let f = at_one segments is.0 c end (subst (λ (n : ℕ). IsAt segments n c) e x) is.1 in let g = ap (λ (d : Segment). d.begin) f in omega (arith, g)
      | inr d ↦ let r = h.rising j is.0 c end (let s = slice_get_within segments j c x in omega (arith, s, d, is.2)) x is.1 in omega (arith, r.0)
    ]

    abbrev Closing : List ℕ
    Closing = drop end.begin path

    member_on : (i n : ℕ) → IsMember components i n → IsMember (components ++ Closing ∷ []) i n
    member_on i n m = (m.0, m.1, get-append components (Closing ∷ []) i m.0 m.2, m.3)

    abbrev Of : ℕ → ℕ → Type 0
    Of i n = IsMember components i n ⊎ ((i ≡ length components) × ((p : ℕ) × (end.begin ≤ p) × IsAt path p n))

    of : (i n : ℕ) → IsMember (components ++ Closing ∷ []) i n → Of i n
    of i n m = elim (at_more components Closing i m.0 m.2) as (λ _. Of i n) [
      | inl b ↦ inl (m.0, m.1, b, m.3)
      | inr b ↦ let q = drop_get end.begin path m.1 n (subst (λ (l : List ℕ). IsAt l m.1 n) (sym b.1) m.3) in inr (b.0, (q.0, omega (arith, q.1), q.2))
    ]

    low : (i n : ℕ) → IsMember components i n → i < length components
    low i n m = slice_get_within components i m.0 m.2

    module _ (k : AreClosing step stands components) where
      joined_on : (i u v : ℕ) → Of i u → Of i v → Leads step stands u v
      joined_on i u v (inl a) (inl b) = k.joined i u v a b
      joined_on i u v (inl a) (inr b) = absurd (let l = low i u a in omega (arith, l, b.0))
      joined_on i u v (inr a) (inl b) = absurd (let l = low i v b in omega (arith, l, a.0))
      joined_on i u v (inr a) (inr b) = elim (below_or b.1.0 a.1.0) as (λ _. Leads step stands u v) [
        | inl before ↦ o.forth a.1.0 b.1.0 u v (omega (arith, before)) a.1.2 b.1.2
        | inr behind ↦ o.back b.1.0 a.1.0 v u behind b.1.2 a.1.2 (λ j c x m. let l = no_later j c x in omega (arith, l, b.1.1))
      ]

      before_on : (i u : ℕ) → Of i u → LeadsInto step stands u (λ v. (j : ℕ) × (j ≤ i) × IsMember (components ++ Closing ∷ []) j v)
      before_on i u (inl a) = into_more step stands u _ _ (λ v q. (q.0, q.1, member_on q.0 v q.2)) (k.before i u a)
      before_on i u (inr a) = into_more step stands u _ _ (λ v b. elim b as (λ _. (j : ℕ) × (j ≤ i) × IsMember (components ++ Closing ∷ []) j v) [
        | inl c ↦ let m = h.member v c in (m.0, (let l = low m.0 v m.1 in omega (arith, l, a.0)), member_on m.0 v m.1)
        | inr (inl q) ↦
            let d = get_drop end.begin path q.0 v (q.2 is.0 end is.1 a.1.1) q.1 in
            (length components, omega (arith, a.0), (Closing, d.0, at_end components Closing, d.2))
        | inr (inr w) ↦ absurd (let l = w.2 is.0 end is.1 a.1.1 in omega (arith, l, spent, slice_get_within waiting w.0 v w.1))
      ]) (o.goes a.1.0 u a.1.2)

      pub closing_close : AreClosing step stands (components ++ Closing ∷ [])
      closing_close = record { joined = λ i u v a b. joined_on i u v (of i u a) (of i v b); before = λ i u a. before_on i u (of i u a) }

-- ---- what a row lists

module _ {X C : Type 0} (value : C → ℤ) (step : X → ℤ → X → Type 0) (found found' : ℕ) (stands stands' : ℕ → X → Type 0) (grows : Grows found found' stands stands') (t : ℕ) (inside : t < found) (named : (x : X) × stands t x) (entries : List (ℕ × C))
    (lists : (x : X) → stands t x → ListsSteps value step stands' x entries) where
  pub row_linked : (i j : ℕ) → IsAt (map (λ (s : ℕ × C). s.0) entries) i j → IsLink step stands' t j
  row_linked i j a =
      let c = ends_at entries i j a in
      let q = (lists named.0 named.1).sound j c.0 c.1 in
      (named.0, value c.0, q.0, grows.stays t named.0 named.1, q.1, q.2)

  pub row_complete : LeadsInto step stands' t (λ v. (i : ℕ) × IsAt (map (λ (s : ℕ × C). s.0) entries) i v)
  row_complete x z y s k =
      let l = lists x (grows.back t x inside s) in
      let j = l.numbered z y k in
      let c = l.complete z y j.0 k j.1 in
      (j.0, j.1, at_ends entries j.0 c.0 c.1)

-- ---- the beginning and the end

module _ {X : Type 0} (step : X → ℤ → X → Type 0) (stands : ℕ → X → Type 0) where
  pub path_new : (places : List Place) (waiting : List ℕ) → ((i k : ℕ) → IsAt waiting i k → (x : X) × stands k x) → IsOpenPath step stands places [] waiting []
  path_new places waiting named = record {
    named = named;
    forth = λ p q u v l a b. absurd (none_in p u a);
    back = λ p q u v l a b none. absurd (none_in p u a);
    led = λ i t j c a b l. absurd (none_in j c b);
    goes = λ p u a. absurd (none_in p u a);
  }

  pub closing_new : AreClosing step stands []
  closing_new = record { joined = λ i u v a b. absurd (none_in i a.0 a.2); before = λ i u a. absurd (none_in i a.0 a.2) }

  pub numbered_all : (found : ℕ) (places : List Place) (path waiting : List ℕ) (segments : List Segment) (components : List (List ℕ)) → IsPlaced found places path waiting segments components → path ≡ [] → waiting ≡ [] → AreClosing step stands components
      → AreNumberedComponents step stands found components
  numbered_all found places path waiting segments components h p w k = record {
    complete = λ n l. elim (h.known n l) as (λ _. (i : ℕ) × IsMember components i n) [
      | inl c ↦ h.member n c
      | inr (inl q) ↦ absurd (none_in q.0 n (subst (λ (xs : List ℕ). IsAt xs q.0 n) p q.1))
      | inr (inr q) ↦ absurd (none_in q.0 n (subst (λ (xs : List ℕ). IsAt xs q.0 n) w q.1))
    ];
    inside = λ i n m. let l = slice_get_within places n Closed (h.closed i n m) in omega (arith, l, h.long);
    apart = h.apart;
    closing = k;
  }
