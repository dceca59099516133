-- Tables and their edges turned round, as graphs of which each mirrors the other.
use Rattle.std.proofs.Common.{◌≡◌, ℕ, refl, ◌∙◌, inl, inr, Bool, true, false, ◌||◌, List, [], ◌∷◌, map, nat_eq}
use Rattle.std.specs.Prelude.{◌==◌, ℤ}
use Rattle.std.proofs.lemmas.Cmp.{nat_eq_equiv}
use Rattle.pf_base.specs.Edges.{HasEdge}
use Rattle.pf_base.specs.Mirrors.{IsMirror, is_among}
use Rattle.pf_base.specs.Walks.{HasNode}
use Rattle.pf_adjacency.specs.Reverses.{IsTurnedRound}
use Rattle.pf_both_ends.specs.BothEnds.{IsCostMirror}

-- a node as the only one that passes
pub same_goal : (to : ℕ) → nat_eq to ≡ (λ n. n == to)
same_goal to = λ i n. nat_eq_equiv.symm to n i

pub only_goal : (to : ℕ) → is_among nat_eq (to ∷ []) ≡ (λ n. n == to)
only_goal to = λ i n. (alone (nat_eq to n) ∙ nat_eq_equiv.symm to n) i
  where
    alone : (b : Bool) → (b || false) ≡ b
    alone true = refl
    alone false = refl

edge_to : (es : List (ℕ × ℤ)) (b : ℕ) → HasNode nat_eq (map (λ (e : ℕ × ℤ). e.0) es) b → (z : ℤ) × HasEdge nat_eq es b z
edge_to [] b h = absurd h
edge_to (e ∷ es) b (inl h) = (e.1, inl (h, refl))
edge_to (e ∷ es) b (inr h) = let r = edge_to es b h in (r.0, inr r.1)

end_at : (es : List (ℕ × ℤ)) (b : ℕ) (z : ℤ) → HasEdge nat_eq es b z → HasNode nat_eq (map (λ (e : ℕ × ℤ). e.0) es) b
end_at [] b z h = h
end_at (e ∷ es) b z (inl h) = inl h.0
end_at (e ∷ es) b z (inr h) = inr (end_at es b z h)

module _ (edges back : ℕ → List (ℕ × ℤ)) (turned : IsTurnedRound edges back) where
  pub cost_mirror : (from to : ℕ) → IsCostMirror nat_eq edges back from to
  cost_mirror from to = record { precedes = λ a b z ra rb h. turned.precedes a b z h; follows = λ a b z ra rb h. turned.follows a b z h }

  pub mirror : (starts ends : List ℕ) → IsMirror nat_eq (λ n. map (λ (e : ℕ × ℤ). e.0) (edges n)) (λ n. map (λ (e : ℕ × ℤ). e.0) (back n)) starts ends
  mirror starts ends = record {
    precedes = λ a b ra rb h. let r = edge_to (edges a) b h in end_at (back b) a r.0 (turned.precedes a b r.0 r.1);
    follows = λ a b ra rb h. let r = edge_to (back b) a h in end_at (edges a) b r.0 (turned.follows a b r.0 r.1);
  }
