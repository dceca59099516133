-- What a visit, a closed segment and joined segments leave, by what their calls tell of lists.
use Rattle.std.proofs.Common.{◌≡◌, ◌∙◌, ℕ, ◌<◌, ◌≤◌, ◌-◌, List, [], ◌∷◌, ◌++◌, length, take, take_all, drop, replicate, Some, None, Vec, sym, ap, subst, arith, inl, inr, slice_get}
use Rattle.std.specs.Prelude.{◌⊎◌, slice_set}
use Rattle.std.proofs.lemmas.Option.{slice_get_within}
use Rattle.std.proofs.lemmas.List.{length-take, length-drop, map-append, take-append-le}
use Rattle.pf_base.proofs.ListLemmas.{nat_dec, take_get, get_take}
use Rattle.pf_orders.specs.StrongComponents.{lists_of}
use Rattle.pf_orders.specs.declared.component_search.Place.{Place}
use Rattle.pf_orders.specs.declared.component_search.Place.TheVariants.{New, Open}
use Rattle.pf_orders.specs.declared.component_search.Segment.{Segment}
use Rattle.pf_orders.specs.Internal.ComponentSearch.{IsAt, Closes, Joins}
use Rattle.pf_orders.proofs.ComponentLists.{at_one, drop_get}

-- ---- a segment is closed

-- the part of a list from a place on
part_from : {A : Type 0} (part xs path : List A) (begin : ℕ) → part ≡ take (length xs - begin) (drop begin xs) → xs ≡ path → part ≡ drop begin path
part_from part xs path begin is same = is ∙ take_all (length xs - begin) (drop begin xs) (omega (arith, length-drop begin xs)) ∙ ap (drop begin) same

module _ {A : Type 0} (component : Vec ℕ A) (xs path : List ℕ) (begin : ℕ) (is : component.items ≡ take (length xs - begin) (drop begin xs)) (same : xs ≡ path) where
  pub component_put : (old new : List (Vec ℕ A)) → new ≡ old ++ component ∷ [] → lists_of new ≡ lists_of old ++ drop begin path ∷ []
  component_put old new e = ap lists_of e ∙ map-append (λ (v : Vec ℕ A). v.items) old (component ∷ []) ∙ ap (λ (l : List ℕ). lists_of old ++ l ∷ []) (part_from component.items xs path begin is same)

  pub inside_path : (numbers : List ℕ) (n m : ℕ) → numbers ≡ component.items → ((p k : ℕ) → IsAt path p k → k < n) → m ≡ n → (p k : ℕ) → IsAt numbers p k → k < m
  inside_path numbers n m e inside long p k a =
      let b : IsAt (drop begin path) p k = subst (λ (l : List ℕ). IsAt l p k) (e ∙ part_from component.items xs path begin is same) a in
      let q = from_drop begin path p k b in
      subst (λ (l : ℕ). k < l) (sym long) (inside q.0 k q.1)
    where
      from_drop : (i : ℕ) (ys : List ℕ) (p k : ℕ) → IsAt (drop i ys) p k → (q : ℕ) × IsAt ys q k
      from_drop i ys p k a = let d = drop_get i ys p k a in (d.0, d.2)

  pub places_closed : (numbers : List ℕ) (places before after : List Place) (n : ℕ) → numbers ≡ component.items → before ≡ places → n ≡ length places → Closes numbers before after → Closes (drop begin path) places (take n (after ++ drop (length after) places))
  places_closed numbers places before after n e f long closes =
      let d = subst (λ (l : List ℕ). Closes l places after) (e ∙ part_from component.items xs path begin is same) (subst (λ (l : List Place). Closes numbers l after) f closes) in
      let within : length after ≡ n = d.long ∙ sym long in
      subst (Closes (drop begin path) places) (sym (take-append-le n after (drop (length after) places) (omega (arith, within)) ∙ take_all n after (omega (arith, within)))) d

-- ---- a number is visited

pub place_opened : (old new : List Place) (found number len : ℕ) (path : List ℕ) (n : ℕ) → new ≡ take found old ++ replicate (found - n) New → n ≡ length old → length old ≤ found → len ≡ length path
    → slice_set new number (Open len) ≡ slice_set (old ++ replicate (found - length old) New) number (Open (length path))
place_opened old new found number len path n e long le l =
    ap (λ (ps : List Place). slice_set ps number (Open len)) (e ∙ ap (λ (m : ℕ). take found old ++ replicate (found - m) New) long ∙ ap (λ (ps : List Place). ps ++ replicate (found - length old) New) (take_all found old le))
    ∙ ap (λ (m : ℕ). slice_set (old ++ replicate (found - length old) New) number (Open m)) l

pub segment_begun : (segments new : List Segment) (begin waits : ℕ) (path waiting rest : List ℕ) → new ≡ segments ++ record { begin = begin; waiting = waits } ∷ [] → begin ≡ length path → waits ≡ length rest → rest ≡ take (length waiting - 1) waiting
    → new ≡ segments ++ record { begin = length path; waiting = length waiting - 1 } ∷ []
segment_begun segments new begin waits path waiting rest e b w r =
    let less : waits ≡ length waiting - 1 = omega (arith, w, ap length r, length-take (length waiting - 1) waiting) in
    e ∙ ap (λ (n : ℕ). segments ++ record { begin = n; waiting = waits } ∷ []) b ∙ ap (λ (n : ℕ). segments ++ record { begin = length path; waiting = n } ∷ []) less

-- ---- segments are joined

module _ (place : ℕ) (now xs : List Segment) (same : xs ≡ now) where
  pub joined_here : (old : List Segment) (s : Segment) → Some s ≡ slice_get xs (length xs - 1) → s.begin ≤ place → ((i : ℕ) (c : Segment) → IsAt now i c → IsAt old i c) → ((i : ℕ) (c : Segment) → IsAt old i c → IsAt now i c ⊎ (place < c.begin)) → Joins place old now
  joined_here old s reads low kept stays = record {
    kept = kept;
    stays = stays;
    last = λ d l.
        let at : IsAt now (length now - 1) s = subst (λ (ys : List Segment). IsAt ys (length ys - 1) s) same (sym reads) in
        let this : length now - 1 ≡ l.0 = omega (arith, l.2) in
        let e : s ≡ d = at_one now l.0 s d (subst (λ (n : ℕ). IsAt now n s) this at) l.1 in
        subst (λ (c : Segment). c.begin ≤ place) e low;
  }

  pub joined_none : (old : List Segment) → None ≡ slice_get xs (length xs - 1) → ((i : ℕ) (c : Segment) → IsAt now i c → IsAt old i c) → ((i : ℕ) (c : Segment) → IsAt old i c → IsAt now i c ⊎ (place < c.begin)) → Joins place old now
  joined_none old reads kept stays = record {
    kept = kept;
    stays = stays;
    last = λ d l. absurd (
        let none : slice_get now (length now - 1) ≡ None = subst (λ (ys : List Segment). slice_get ys (length ys - 1) ≡ None) same (sym reads) in
        let this : l.0 ≡ length now - 1 = omega (arith, l.2) in
        let e : Some d ≡ None = sym (subst (λ (n : ℕ). IsAt now n d) this l.1) ∙ none in
        cc);
  }

  module _ (s : Segment) (reads : Some s ≡ slice_get xs (length xs - 1)) (rest : List Segment) (popped : rest ≡ take (length now - 1) now) where
    at_last : IsAt now (length now - 1) s
    at_last = subst (λ (ys : List Segment). IsAt ys (length ys - 1) s) same (sym reads)

    pub one_fewer : length rest < length now
    one_fewer = omega (arith, ap length popped, length-take (length now - 1) now, slice_get_within now (length now - 1) s at_last)

    pub kept_on : (i : ℕ) (c : Segment) → IsAt rest i c → IsAt now i c
    kept_on i c a = take_get (length now - 1) now i c (subst (λ (ys : List Segment). IsAt ys i c) popped a)

    pub stays_or : place < s.begin → (i : ℕ) (c : Segment) → IsAt now i c → IsAt rest i c ⊎ (place < c.begin)
    stays_or high i c a = elim (nat_dec i (length now - 1)) as (λ _. IsAt rest i c ⊎ (place < c.begin)) [
      | inl e ↦ inr (subst (λ (d : Segment). place < d.begin) (at_one now (length now - 1) s c at_last (subst (λ (n : ℕ). IsAt now n c) e a)) high)
      | inr d ↦ inl (subst (λ (ys : List Segment). IsAt ys i c) (sym popped) (get_take (length now - 1) now i c (omega (arith, d, slice_get_within now i c a)) a))
    ]
