-- What a turn of the search for strong components leaves, where its calls tell each part by an equation.
use Rattle.std.proofs.Common.{◌≡◌, ◌∙◌, ℕ, ℤ, ◌<◌, ◌≤◌, ◌-◌, List, [], ◌∷◌, ◌++◌, length, take, drop, replicate, get_or, Some, sym, ap, subst, inl, inr, map}
use Rattle.std.specs.Prelude.{slice_set}
use Rattle.std.proofs.lemmas.Option.{slice_get_within, slice_get_read}
use Rattle.pf_core.specs.Numbered.{Grows, ListsSteps}
use Rattle.pf_orders.specs.declared.component_search.Place.{Place}
use Rattle.pf_orders.specs.declared.component_search.Place.TheVariants.{New, Open, Closed}
use Rattle.pf_orders.specs.declared.component_search.Segment.{Segment}
use Rattle.pf_orders.specs.Internal.ComponentSearch.{IsAt, IsLast, IsClosed, IsPlaced, IsOpenPath, AreClosing, Closes, Joins, LeadsInto, IsLink}
use Rattle.pf_orders.proofs.ComponentPlaces.{IsNotSpent, placed_pop, placed_join, placed_visit, placed_close}
use Rattle.pf_orders.proofs.ComponentPaths.{path_pass, path_join, path_visit, path_close, closing_close, closing_grows, row_linked, row_complete}

-- the place of a number, as it is read
pub read_place : (found : ℕ) (places : List Place) (t : ℕ) (r m : Place) → length places ≡ found → t < found → r ≡ get_or places t r → r ≡ m → IsAt places t m
read_place found places t r m long inside reads is = slice_get_read places found t r (sym long) inside reads ∙ ap Some is

module _ (found : ℕ) (places : List Place) (path waiting : List ℕ) (segments : List Segment) (components : List (List ℕ)) (h : IsPlaced found places path waiting segments components) where
  -- the last segment is closed
  module _ (begin : ℕ) (last : Segment) (is : IsLast segments last) (at : last.begin ≡ begin) (places' : List Place) (closes : Closes (drop begin path) places places') (path' waiting' : List ℕ) (segments' : List Segment) (components' : List (List ℕ)) where
    closes_last : Closes (drop last.begin path) places places'
    closes_last = subst (λ (n : ℕ). Closes (drop n path) places places') (sym at) closes

    pub placed_closed : waiting' ≡ waiting → path' ≡ take begin path → segments' ≡ take (length segments - 1) segments → components' ≡ components ++ drop begin path ∷ [] → IsPlaced found places' path' waiting' segments' components'
    placed_closed w p s k = rw (w, p, s, k, ← at) (placed_close found places places' path waiting segments components h last is closes_last)

    module _ {X : Type 0} (step : X → ℤ → X → Type 0) (stands : ℕ → X → Type 0) (o : IsOpenPath step stands places path waiting segments) (spent : last.waiting ≡ length waiting) where
      pub path_closed : waiting' ≡ waiting → path' ≡ take begin path → segments' ≡ take (length segments - 1) segments → IsOpenPath step stands places' path' waiting' segments'
      path_closed w p s = rw (w, p, s, ← at) (path_close step stands found places path waiting segments components h o places' last is spent closes_last)

      pub closing_closed : components' ≡ components ++ drop begin path ∷ [] → AreClosing step stands components → AreClosing step stands components'
      closing_closed k a = rw (k, ← at) (closing_close step stands found places path waiting segments components h o places' last is spent closes_last a)

  -- what waits last is looked at
  module _ (t : ℕ) (last : IsAt waiting (length waiting - 1) t) where
    pub last_inside : t < length places
    last_inside = subst (λ (n : ℕ). t < n) (sym h.long) (h.waits (length waiting - 1) t last)

    module _ (waiting' : List ℕ) (rest : waiting' ≡ take (length waiting - 1) waiting) where
      pub placed_passed : IsClosed places t → IsNotSpent waiting segments → IsPlaced found places path waiting' segments components
      placed_passed c left = rw rest (placed_pop found places path waiting segments components h t last (inl c) left)

      pub path_passed : {X : Type 0} (step : X → ℤ → X → Type 0) (stands : ℕ → X → Type 0) → IsOpenPath step stands places path waiting segments → IsClosed places t → IsOpenPath step stands places path waiting' segments
      path_passed step stands o c = rw rest (path_pass step stands found places path waiting segments components h o t last c)

      module _ (place : ℕ) (here : IsAt places t (Open place)) (left : IsNotSpent waiting segments) (segments' : List Segment) (joins : Joins place segments segments') where
        pub placed_joined : IsPlaced found places path waiting' segments' components
        placed_joined =
            let visited = h.back place t here in
            rw rest (placed_join found places path (take (length waiting - 1) waiting) segments components (placed_pop found places path waiting segments components h t last (inr (place, visited)) left) place t segments' visited joins)

        pub path_joined : {X : Type 0} (step : X → ℤ → X → Type 0) (stands : ℕ → X → Type 0) → IsOpenPath step stands places path waiting segments → IsOpenPath step stands places path waiting' segments'
        path_joined step stands o = rw rest (path_join step stands found places path waiting segments components h o t last left place segments' (h.back place t here) joins)

    -- a number is visited
    module _ (new : IsAt places t New) (left : IsNotSpent waiting segments) (found' n : ℕ) (same : n ≡ found') (row : List ℕ) (places' : List Place) (path' waiting' : List ℕ) (segments' : List Segment)
        (put : places' ≡ slice_set (places ++ replicate (n - length places) New) t (Open (length path))) (p : path' ≡ path ++ t ∷ []) (w : waiting' ≡ take (length waiting - 1) waiting ++ row)
        (s : segments' ≡ segments ++ record { begin = length path; waiting = length waiting - 1 } ∷ []) where
      pub placed_visited : (components' : List (List ℕ)) → components' ≡ components → found ≤ found' → ((i j : ℕ) → IsAt row i j → j < found') → ((j : ℕ) → found ≤ j → j < found' → (i : ℕ) × IsAt row i j) → IsPlaced found' places' path' waiting' segments' components'
      placed_visited components' k more within fresh = rw (put, p, w, s, k, same) (placed_visit found places path waiting segments components h t found' row last new more left within fresh)

      pub path_visited : {X : Type 0} (step : X → ℤ → X → Type 0) (stands stands' : ℕ → X → Type 0) → Grows found found' stands stands' → IsOpenPath step stands places path waiting segments
          → ((i j : ℕ) → IsAt row i j → IsLink step stands' t j) → LeadsInto step stands' t (λ v. (i : ℕ) × IsAt row i v) → IsOpenPath step stands' places' path' waiting' segments'
      path_visited step stands stands' grows o linked complete = rw (put, p, w, s, same) (path_visit step stands found places path waiting segments components h o t last left found' stands' grows row new linked complete)

  pub closed_grows : {X : Type 0} (step : X → ℤ → X → Type 0) (found' : ℕ) (stands stands' : ℕ → X → Type 0) → Grows found found' stands stands' → (components' : List (List ℕ)) → components' ≡ components → AreClosing step stands components → AreClosing step stands' components'
  closed_grows step found' stands stands' grows components' e k =
      rw e (closing_grows step found found' stands stands' grows components (λ i n m. subst (λ (l : ℕ). n < l) h.long (slice_get_within places n Closed (h.closed i n m))) k)

module _ {X C : Type 0} (value : C → ℤ) (step : X → ℤ → X → Type 0) (found found' : ℕ) (stands stands' : ℕ → X → Type 0) (grows : Grows found found' stands stands') (t : ℕ) (inside : t < found) (named : (x : X) × stands t x) (entries : List (ℕ × C)) (row : List ℕ)
    (e : row ≡ map (λ (s : ℕ × C). s.0) entries) (lists : (x : X) → stands t x → ListsSteps value step stands' x entries) where
  pub list_linked : (i j : ℕ) → IsAt row i j → IsLink step stands' t j
  list_linked i j a = row_linked value step found found' stands stands' grows t inside named entries lists i j (rw e at a)

  pub list_complete : LeadsInto step stands' t (λ v. (i : ℕ) × IsAt row i v)
  list_complete = rw e (row_complete value step found found' stands stands' grows t inside named entries lists)
