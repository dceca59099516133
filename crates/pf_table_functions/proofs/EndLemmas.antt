-- Where edges lead, as an iterator of the edges goes on.
use Rattle.std.proofs.Common.{◌≡◌, ℕ, refl, sym, ap, ◌∙◌, List, [], ◌∷◌, Option, Some, None, map}
use Rattle.std.specs.Iterator.{YieldsFirst, MakesProgress, item_count}
use Rattle.pf_table_functions.proofs.PlaceLemmas.{shortens}

abbrev ends : {C : Type 0} → List (ℕ × C) → List ℕ
ends {C} edges = map (λ (e : ℕ × C). e.0) edges

module _ {C : Type 0} {s t : List (ℕ × C)} {nodes : List ℕ} where
  pub leads_first : {edge : ℕ × C} → ends s ≡ nodes → s ≡ edge ∷ t → nodes ≡ edge.0 ∷ ends t
  leads_first v h = sym v ∙ ap ends h

  pub leads_on : {can : List ℕ → Type 0} {edge : ℕ × C} → ends s ≡ nodes → can (ends t) → s ≡ edge ∷ t → MakesProgress can (item_count {A = ℕ} (λ (l : List ℕ). l)) nodes (Some edge.0) (ends t)
  leads_on {can} {edge} v c h = shortens (Some edge.0) nodes (ends t) refl c (leads_first v h)

  pub leads_nowhere : (o : Option ℕ) → o ≡ None → ends s ≡ nodes → (s ≡ []) × (t ≡ []) → YieldsFirst (λ (l : List ℕ). l) nodes o (ends t)
  leads_nowhere None e v h = (sym v ∙ ap ends h.0, ap ends h.1)
  leads_nowhere (Some x) e v h = cc
