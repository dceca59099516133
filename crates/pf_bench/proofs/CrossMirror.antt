-- The steps of a board that cost the heights of both cells lead back at the same cost.
use Rattle.std.proofs.Common.{◌≡◌, ◌∙◌, ℕ, ℤ, pos, negsuc, ◌+◌, ◌^◌, ◌<◌, arith, refl, sym, ap, subst, inl, inr, Option, Some, None, List, [], ◌∷◌}
use Rattle.std.specs.Prelude.{map}
use Rattle.std.specs.List.{AllByRecursion, cons_option, filter_map}
use Rattle.std.specs.Option.{option_map}
use Rattle.pf_base.specs.Edges.{HasEdge, InReach, IsSuccessor}
use Rattle.pf_base.specs.Walks.{BeginsAt, EndsAt, Follows, IsWalk, end_of}
use Rattle.pf_base.proofs.Tables.{pair_refl, pair_exact}
use Rattle.pf_both_ends.specs.BothEnds.{IsCostMirror}
use Rattle.pf_bench.specs.Steps.{crossed, crossings_from, entered_cell, four_directions, height_of, same_cell}
use Rattle.pf_bench.proofs.BoardMirror.{IsCell, Opposite, stays, on_and_back, back_and_on, cell_back, cell_after}

-- the same edges with whole numbers
abbrev priced : List ((ℕ × ℕ) × ℕ) → List ((ℕ × ℕ) × ℤ)
priced es = map (λ (e : (ℕ × ℕ) × ℕ). (e.0, pos e.1)) es

-- ---- what the answers of some directions contain

module _ {D : Type 0} (f : D → Option ((ℕ × ℕ) × ℕ)) where
  pub edge_of : (G : Type 0) (ds : List D) (b : ℕ × ℕ) (z : ℤ) → AllByRecursion (λ d. (c : ℕ) → f d ≡ Some (b, c) → pos c ≡ z → G) ds → HasEdge same_cell (priced (filter_map f ds)) b z → G
  edge_of G [] b z all h = absurd h
  edge_of G (d ∷ ds) b z all h = by (f d) refl (λ k. edge_of G ds b z all.1 k) h
    where
      by : (o : Option ((ℕ × ℕ) × ℕ)) → f d ≡ o → (HasEdge same_cell (priced (filter_map f ds)) b z → G) → HasEdge same_cell (priced (cons_option o (filter_map f ds))) b z → G
      by None e rest k = rest k
      by (Some y) e rest (inl k) = all.0 y.1 (e ∙ ap (λ (q : ℕ × ℕ). Some (q, y.1)) (pair_exact y.0 b k.0)) k.1
      by (Some y) e rest (inr k) = rest k

  here : (d : D) (rest : List ((ℕ × ℕ) × ℕ)) (b : ℕ × ℕ) (c : ℕ) (z : ℤ) → f d ≡ Some (b, c) → pos c ≡ z → HasEdge same_cell (priced (cons_option (f d) rest)) b z
  here d rest b c z e p = subst (λ o. HasEdge same_cell (priced (cons_option o rest)) b z) (sym e) (inl (pair_refl b, p))

  there : (d : D) (rest : List ((ℕ × ℕ) × ℕ)) (b : ℕ × ℕ) (z : ℤ) → HasEdge same_cell (priced rest) b z → HasEdge same_cell (priced (cons_option (f d) rest)) b z
  there d rest b z h = by (f d)
    where
      by : (o : Option ((ℕ × ℕ) × ℕ)) → HasEdge same_cell (priced (cons_option o rest)) b z
      by None = h
      by (Some y) = inr h

-- ---- a step with its cost comes back

-- a cell with a sum of numbers
abbrev valued_by : ℕ → (ℕ × ℕ → ℕ) → ℕ × ℕ → (ℕ × ℕ) × ℕ
valued_by k g to = (to, k + g to)

map_some : (k : ℕ) (g : ℕ × ℕ → ℕ) (o : Option (ℕ × ℕ)) (b : ℕ × ℕ) (c : ℕ) → option_map (valued_by k g) o ≡ Some (b, c) → (o ≡ Some b) × (c ≡ k + g b)
map_some k g None b c e = cc
map_some k g (Some t) b c e =
    let pair : (t, k + g t) ≡ (b, c) = cc in
    let same : t ≡ b = ap (λ (p : (ℕ × ℕ) × ℕ). p.0) pair in
    (ap Some same, sym (ap (λ (p : (ℕ × ℕ) × ℕ). p.1) pair) ∙ ap (λ (q : ℕ × ℕ). k + g q) same)

module _ (heights : List ℕ) (size : ℕ) (fits : size < 2 ^ 64) where
  abbrev height : ℕ × ℕ → ℕ
  height = height_of heights size

  abbrev crossings : ℕ × ℕ → List ((ℕ × ℕ) × ℤ)
  crossings = crossings_from heights size

  cross_back : (a b : ℕ × ℕ) (c : ℕ) (d e : ℤ × ℤ) → Opposite size fits d.0 e.0 → Opposite size fits d.1 e.1 → IsCell size fits a → crossed heights size a d ≡ Some (b, c) → crossed heights size b e ≡ Some (a, c)
  cross_back a b c d e down right inside h =
      let m = map_some (height a) height (entered_cell size a d) b c h in
      let back = cell_back size fits a b d e down right inside m.0 in
      let sum : height b + height a ≡ c = omega (arith, m.1) in
      ap (λ o. option_map (valued_by (height b) height) o) back ∙ ap (λ (s : ℕ). Some (a, s)) sum

  leads_back : (a b : ℕ × ℕ) (z : ℤ) → IsCell size fits a → HasEdge same_cell (crossings a) b z → HasEdge same_cell (crossings b) a z
  leads_back a b z inside h =
      let f = crossed heights size a in
      let g = crossed heights size b in
      let rest3 = filter_map g ((negsuc 0, pos 0) ∷ []) in
      let rest2 = filter_map g ((pos 0, negsuc 0) ∷ (negsuc 0, pos 0) ∷ []) in
      let rest1 = filter_map g ((pos 1, pos 0) ∷ (pos 0, negsuc 0) ∷ (negsuc 0, pos 0) ∷ []) in
      edge_of f (HasEdge same_cell (crossings b) a z) four_directions b z (
        (λ c e p. there g (pos 0, pos 1) rest1 a z (there g (pos 1, pos 0) rest2 a z (here g (pos 0, negsuc 0) rest3 a c z (cross_back a b c (pos 0, pos 1) (pos 0, negsuc 0) (stays size fits) (on_and_back size fits) inside e) p))),
        (
          (λ c e p. there g (pos 0, pos 1) rest1 a z (there g (pos 1, pos 0) rest2 a z (there g (pos 0, negsuc 0) rest3 a z (here g (negsuc 0, pos 0) [] a c z (cross_back a b c (pos 1, pos 0) (negsuc 0, pos 0) (on_and_back size fits) (stays size fits) inside e) p)))),
          (
            (λ c e p. here g (pos 0, pos 1) rest1 a c z (cross_back a b c (pos 0, negsuc 0) (pos 0, pos 1) (stays size fits) (back_and_on size fits) inside e) p),
            ((λ c e p. there g (pos 0, pos 1) rest1 a z (here g (pos 1, pos 0) rest2 a c z (cross_back a b c (negsuc 0, pos 0) (pos 1, pos 0) (back_and_on size fits) (stays size fits) inside e) p)), tt),
          ),
        ),
      ) h

  edge_keeps : (a b : ℕ × ℕ) (z : ℤ) → HasEdge same_cell (crossings a) b z → IsCell size fits b
  edge_keeps a b z h =
      let at : (d : ℤ × ℤ) (c : ℕ) → crossed heights size a d ≡ Some (b, c) → pos c ≡ z → IsCell size fits b = λ d c e p. cell_after size fits a b d (map_some (height a) height (entered_cell size a d) b c e).0 in
      edge_of (crossed heights size a) (IsCell size fits b) four_directions b z (at (pos 0, pos 1), (at (pos 1, pos 0), (at (pos 0, negsuc 0), (at (negsuc 0, pos 0), tt)))) h

  walk_keeps : (a : ℕ × ℕ) (w : List (ℕ × ℕ)) → IsCell size fits a → Follows (IsSuccessor same_cell crossings) a w → IsCell size fits (end_of a w)
  walk_keeps a [] p h = p
  walk_keeps a (b ∷ w) p h = walk_keeps b w (edge_keeps a b h.0.0 h.0.1) h.1

  reached : (s : ℕ × ℕ) → IsCell size fits s → (w : List (ℕ × ℕ)) (x : ℕ × ℕ) → IsWalk (IsSuccessor same_cell crossings) w → BeginsAt same_cell (s ∷ []) w → EndsAt same_cell (λ y. same_cell y x) w → IsCell size fits x
  reached s p [] x walks begins ends = absurd walks
  reached s p (a ∷ w) x walks (inl begins) ends = subst (IsCell size fits) (pair_exact (end_of a w) x ends) (walk_keeps a w (subst (IsCell size fits) (pair_exact s a begins) p) walks)
  reached s p (a ∷ w) x walks (inr begins) ends = absurd begins

  in_reach : (s x : ℕ × ℕ) → IsCell size fits s → InReach same_cell crossings (s ∷ []) x → IsCell size fits x
  in_reach s x p r = reached s p r.walk x r.goes.walks r.goes.begins r.goes.ends

  pub crossings_mirror : (start end : ℕ × ℕ) → IsCell size fits start → IsCell size fits end → IsCostMirror same_cell crossings crossings start end
  crossings_mirror start end s t = record {
    precedes = λ a b z r q h. leads_back a b z (in_reach start a s r) h;
    follows = λ a b z r q h. leads_back b a z (in_reach end b t q) h;
  }
