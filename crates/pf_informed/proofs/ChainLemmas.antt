-- Lists of numbers, as chains of links, as links are put in.
use Rattle.std.proofs.Common.{◌≡◌, ℕ, zero, suc, ◌<◌, ◌≤◌, refl, sym, ◌∙◌, ap, subst, arith, List, [], ◌∷◌, ◌++◌, length, map, Option, Some, None, inl, inr}
use Rattle.std.specs.Prelude.{◌⊎◌, slice_get, slice_set, replicate}
use Rattle.std.specs.Option.{option_map}
use Rattle.std.proofs.lemmas.Option.{slice_get-map, slice_get_within}
use Rattle.std.proofs.lemmas.List.{length-map, length_push, map-set}
use Rattle.pf_base.proofs.ListLemmas.{get_set}
use Rattle.pf_informed.specs.declared.predecessors.Link.{Link}
use Rattle.pf_informed.specs.Internal.Chains.{BeginsWith, link_and, chain, lists_at, IsChained, before_in, list_or_none}
use Rattle.pf_informed.proofs.KnownLemmas.{get_left}
use Rattle.pf_deepening.proofs.Writes.{of_some}
use Rattle.pf_informed.proofs.RowLemmas.{get_last}

abbrev pub Back : List Link → Type 0
Back links = (i : ℕ) (l : Link) → slice_get links i ≡ Some l → l.next ≤ i

same_behind : (f h : ℕ → List ℕ) (o : Option Link) → ((l : Link) → o ≡ Some l → f l.next ≡ h l.next) → link_and f o ≡ link_and h o
same_behind f h None e = refl
same_behind f h (Some l) e = ap (λ (xs : List ℕ). l.number ∷ xs) (e l refl)

-- a chain is no longer than its place says
chain_more : (links : List Link) → Back links → (most place : ℕ) → place ≤ most → chain links (suc most) place ≡ chain links most place
chain_more links back zero zero h = refl
chain_more links back zero (suc place) h = absurd (omega (arith, h))
chain_more links back (suc most) zero h = refl
chain_more links back (suc most) (suc place) h = same_behind (chain links (suc most)) (chain links most) (slice_get links place) (λ l e. let low = back place l e in chain_more links back most l.next (omega (arith, h, low)))

-- the number at a place, and those behind it
pub chain_step : (links : List Link) → Back links → (most place : ℕ) (l : Link) → slice_get links place ≡ Some l → place < most → chain links most (suc place) ≡ l.number ∷ chain links most l.next
chain_step links back zero place l at h = absurd (omega (arith, h))
chain_step links back (suc most) place l at h = ap (link_and (chain links most)) at ∙ ap (λ (xs : List ℕ). l.number ∷ xs) (let low = back place l at in sym (chain_more links back most l.next (omega (arith, h, low))))

pub chain_none : (links : List Link) (most : ℕ) → chain links most 0 ≡ []
chain_none links zero = refl
chain_none links (suc most) = refl

-- a link behind the others changes no chain
chain_kept : (links : List Link) → Back links → (x : Link) (most place : ℕ) → place ≤ length links → chain (links ++ x ∷ []) most place ≡ chain links most place
chain_kept links back x zero place h = refl
chain_kept links back x (suc most) zero h = refl
chain_kept links back x (suc most) (suc place) h =
    ap (link_and (chain (links ++ x ∷ []) most)) (get_left links (x ∷ []) place (omega (arith, h)))
    ∙ same_behind (chain (links ++ x ∷ []) most) (chain links most) (slice_get links place) (λ l e. let low = back place l e in chain_kept links back x most l.next (omega (arith, h, low)))

map_same : (f h : ℕ → List ℕ) (heads : List ℕ) → ((i place : ℕ) → slice_get heads i ≡ Some place → f place ≡ h place) → map f heads ≡ map h heads
map_same f h [] e = refl
map_same f h (q ∷ heads) e = let first : f q ≡ h q = e 0 q refl in let rest : map f heads ≡ map h heads = map_same f h heads (λ i. e (suc i)) in cc

pub lists_long : (links : List Link) (heads : List ℕ) → length (lists_at links heads) ≡ length heads
lists_long links heads = length-map heads (chain links (length links))

pub list_at : (links : List Link) (heads : List ℕ) (k place : ℕ) → slice_get heads k ≡ Some place → before_in (lists_at links heads) k ≡ chain links (length links) place
list_at links heads k place at = ap list_or_none (slice_get-map (chain links (length links)) heads k ∙ ap (option_map (chain links (length links))) at)

pub none_first : (number : ℕ) (xs : List ℕ) → xs ≡ [] → ¬ (BeginsWith number xs)
none_first number xs e b = absurd (let both : [] ≡ number ∷ b.0 = sym e ∙ b.1 in cc)

pub other_first : (number x : ℕ) (xs ys : List ℕ) → xs ≡ x ∷ ys → ¬ (x ≡ number) → ¬ (BeginsWith number xs)
other_first number x xs ys e not b = not (let both : x ∷ ys ≡ number ∷ b.0 = sym e ∙ b.1 in cc)

-- ---- a link is put in
module _ (links : List Link) (heads : List ℕ) (c : IsChained heads links) (next number head : ℕ) (at : slice_get heads next ≡ Some head) where
  abbrev new : Link
  new = record { number = number; next = head }

  abbrev links' : List Link
  links' = links ++ new ∷ []

  long : length links' ≡ suc (length links)
  long = omega (arith, length_push links new)

  low : head ≤ length links
  low = c.begins next head at

  back_more : Back links'
  back_more = λ i l e. by i l e (slice_get_within links' i l e)
    where
      by : (i : ℕ) (l : Link) → slice_get links' i ≡ Some l → i < length links' → l.next ≤ i
      by i l e h = elim (or_last i (length links) (omega (arith, h, long))) as (λ _. l.next ≤ i) [
        | inl s ↦ c.back i l (sym (get_left links (new ∷ []) i s) ∙ e)
        | inr s ↦ let is : new ≡ l = of_some new l (sym (get_last links new) ∙ subst (λ (n : ℕ). slice_get links' n ≡ Some l) s e) in omega (arith, ap (λ (x : Link). x.next) is, s, low)
      ]
        where
          or_last : (i n : ℕ) → i < suc n → (i < n) ⊎ (i ≡ n)
          or_last zero zero h = inr refl
          or_last zero (suc n) h = inl (omega arith)
          or_last (suc i) zero h = absurd (omega (arith, h))
          or_last (suc i) (suc n) h = elim (or_last i n (omega (arith, h))) as (λ _. (suc i < suc n) ⊎ (suc i ≡ suc n)) [ inl l ↦ inl (omega (arith, l)) | inr e ↦ inr (omega (arith, e)) ]

  same : (place : ℕ) → place ≤ length links → chain links' (length links') place ≡ chain links (length links) place
  same place h = ap (λ (n : ℕ). chain links' n place) long ∙ chain_kept links c.back new (suc (length links)) place h ∙ chain_more links c.back (length links) place h

  pub chained_put : IsChained (slice_set heads next (length links')) links'
  chained_put = record {
    begins = λ k place e. elim (get_set heads next k (length links') (slice_get_within heads next head at)) as (λ _. place ≤ length links') [
      | inl s ↦ let is : length links' ≡ place = of_some (length links') place (sym s.1 ∙ e) in omega (arith, is)
      | inr s ↦ let o = c.begins k place (sym s.1 ∙ e) in omega (arith, o, long)
    ];
    back = back_more;
  }

  pub lists_put : lists_at links' (slice_set heads next (length links')) ≡ slice_set (lists_at links heads) next (number ∷ before_in (lists_at links heads) next)
  lists_put =
      let first : chain links' (length links') (length links') ≡ number ∷ chain links (length links) head =
      ap (chain links' (length links')) long ∙ chain_step links' back_more (length links') (length links) new (get_last links new) (omega (arith, long)) ∙ ap (λ (xs : List ℕ). number ∷ xs) (same head low) in
      map-set (chain links' (length links')) heads next (length links')
      ∙ ap (λ (rows : List (List ℕ)). slice_set rows next (chain links' (length links') (length links'))) (map_same (chain links' (length links')) (chain links (length links)) heads (λ i place e. same place (c.begins i place e)))
      ∙ ap (slice_set (lists_at links heads) next) (first ∙ ap (λ (xs : List ℕ). number ∷ xs) (sym (list_at links heads next head at)))

-- ---- no link yet
none_begin : (links : List Link) → links ≡ [] → (count k : ℕ) → before_in (lists_at links (replicate count 0)) k ≡ []
none_begin links e zero zero = refl
none_begin links e zero (suc k) = refl
none_begin links e (suc count) zero = chain_none links (length links)
none_begin links e (suc count) (suc k) = none_begin links e count k

pub none_before : (links : List Link) (heads : List ℕ) (count : ℕ) → links ≡ [] → heads ≡ replicate count 0 → (k : ℕ) → before_in (lists_at links heads) k ≡ []
none_before links heads count e f k = subst (λ (hs : List ℕ). before_in (lists_at links hs) k ≡ []) (sym f) (none_begin links e count k)

zero_only : (count k place : ℕ) → slice_get (replicate count 0) k ≡ Some place → place ≡ 0
zero_only zero zero place e = absurd (none_is e)
  where
    none_is : None ≡ Some place → ⊥
    none_is e = cc
zero_only zero (suc k) place e = absurd (none_is e)
  where
    none_is : None ≡ Some place → ⊥
    none_is e = cc
zero_only (suc count) zero place e = sym (of_some 0 place e)
zero_only (suc count) (suc k) place e = zero_only count k place e

pub none_chained : (links : List Link) (heads : List ℕ) (count : ℕ) → links ≡ [] → heads ≡ replicate count 0 → IsChained heads links
none_chained links heads count e f = record {
  begins = λ k place h. let is = zero_only count k place (subst (λ (hs : List ℕ). slice_get hs k ≡ Some place) f h) in omega (arith, is);
  back = λ i l h. absurd (none_at i (subst (λ (xs : List Link). slice_get xs i ≡ Some l) e h));
}
  where
    none_at : {l : Link} (i : ℕ) → slice_get [] i ≡ Some l → ⊥
    none_at zero e = cc
    none_at (suc i) e = cc

-- links and heads that are the same
pub chained_same : (heads heads' : List ℕ) (links links' : List Link) → heads' ≡ heads → links' ≡ links → IsChained heads links → IsChained heads' links'
chained_same heads heads' links links' e f c = rw (e, f) c
