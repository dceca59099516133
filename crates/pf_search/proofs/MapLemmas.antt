-- Lemmas on the map that is made of labels.
use Rattle.std.proofs.Common.{◌≡◌, ℕ, ◌+◌, ◌<◌, ◌≤◌, Bool, true, false, true≢false, Option, Some, None, List, ◌∙◌, length, refl, sym, ap, subst, arith, inl, inr, cond, get_or}
use Rattle.std.specs.Prelude.{slice_get}
use Rattle.std.specs.Cmp.{IsEquivalence}
use Rattle.std.proofs.lemmas.Option.{same_Some}
use Rattle.pf_core.specs.declared.labels.Label.{Label}
use Rattle.pf_core.specs.Labels.{Labels, HasLabel}
use Rattle.pf_core.specs.Nodes.{StandsFor}
use Rattle.pf_base.proofs.ListLemmas.{nat_dec, at_place}
use Rattle.pf_core.proofs.LabelLemmas.{HasLabel-inside}
use Rattle.pf_core.proofs.NodeLemmas.{eq-sym, eq-trans}
use Rattle.pf_search.specs.Parents.{HasEntry}
use Rattle.pf_search.specs.Internal.Partial.{IsLabelOf, MapsLabels}

-- a label that was read is there
pub label_read : {C : Type 0} (labels : Labels C) (n : ℕ) (o p : Option (Label C)) (l : Label C) → n < length labels → o ≡ get_or labels n o → p ≡ o → p ≡ Some l → HasLabel labels n l
label_read labels n o p l inside is same e = at_place labels n o (Some l) inside (sym is ∙ sym same ∙ e)

pub label_none : {C : Type 0} (labels : Labels C) (n : ℕ) (o p : Option (Label C)) → n < length labels → o ≡ get_or labels n o → p ≡ o → ((l : Label C) → ¬ (p ≡ Some l)) → (l : Label C) → ¬ (HasLabel labels n l)
label_none labels n o p inside is same none l h = none l (same ∙ same_Some o (Some l) (sym (at_place labels n o o inside (sym is)) ∙ h))

module _ {N C : Type 0} (eq : N → N → Bool) (laws : IsEquivalence eq) (nodes : List N) (labels : Labels C) where
  wider : (n : ℕ) (x parent : N) (cost : C) → IsLabelOf eq nodes labels n x parent cost → IsLabelOf eq nodes labels (n + 1) x parent cost
  wider n x parent cost h = record { number = h.number; label = h.label; inside = (h.inside.0, omega (arith, h.inside.1)); here = h.here; at = h.at; behind = h.behind; is = h.is }

  -- no label was put in yet
  pub maps_none : (entry : N → Option (N × C)) → ((x : N) → entry x ≡ None) → MapsLabels eq nodes labels 1 entry
  maps_none entry none = record {
    from = λ x parent cost e.
        let both : None ≡ Some (parent, cost) = sym (none x) ∙ e in
        cc;
    to = λ k l x i here at. absurd (omega (arith, i.0, i.1));
  }

  -- the number has no label
  pub maps_same : (n : ℕ) (entry : N → Option (N × C)) → ((l : Label C) → ¬ (HasLabel labels n l)) → MapsLabels eq nodes labels n entry → MapsLabels eq nodes labels (n + 1) entry
  maps_same n entry none m = record {
    from = λ x parent cost e. wider n x parent cost (m.from x parent cost e);
    to = λ k l x i here at. elim (nat_dec k n) as (λ _. HasEntry eq entry x) [
      | inl e ↦ absurd (none l (subst (λ (j : ℕ). HasLabel labels j l) e at))
      | inr u ↦ m.to k l x (i.0, omega (arith, u, i.1)) here at
    ];
  }

  -- the label of the number was put in
  pub maps_more : (n : ℕ) (entry entry' : N → Option (N × C)) (l : Label C) (node copy parent copy' : N) → 0 < n → HasLabel labels n l → slice_get nodes n ≡ Some node → eq node copy ≡ true → slice_get nodes l.parent ≡ Some parent → eq parent copy' ≡ true
      → ((q : N) → entry' q ≡ cond (eq copy q) (Some (copy', l.cost)) (entry q)) → MapsLabels eq nodes labels n entry → MapsLabels eq nodes labels (n + 1) entry'
  maps_more n entry entry' l node copy parent copy' positive at here same before same' put m = record {
    from = λ x p cost e. from x p cost e (eq copy x) refl;
    to = λ k l' x i st at'. to k l' x i st at' (eq copy x) refl;
  }
    where
      now_at : (x : N) (b : Bool) → eq copy x ≡ b → entry' x ≡ cond b (Some (copy', l.cost)) (entry x)
      now_at x b e = put x ∙ ap (λ c. cond c (Some (copy', l.cost)) (entry x)) e

      from : (x p : N) (cost : C) → entry' x ≡ Some (p, cost) → (b : Bool) → eq copy x ≡ b → IsLabelOf eq nodes labels (n + 1) x p cost
      from x p cost e true t =
          let q : (copy', l.cost) ≡ (p, cost) = same_Some (copy', l.cost) (p, cost) (sym (now_at x true t) ∙ e) in
          record {
            number = n;
            label = l;
            inside = (positive, omega arith);
            here = (node, here, eq-trans eq laws node copy x same t);
            at = at;
            behind = (parent, before, subst (λ (y : N). eq parent y ≡ true) (ap (λ (r : N × C). r.0) q) same');
            is = ap (λ (r : N × C). r.1) q;
          }
      from x p cost e false f = wider n x p cost (m.from x p cost (sym (now_at x false f) ∙ e))

      to : (k : ℕ) (l' : Label C) (x : N) → (0 < k) × (k < n + 1) → StandsFor eq nodes k x → HasLabel labels k l' → (b : Bool) → eq copy x ≡ b → HasEntry eq entry' x
      to k l' x i st at' true t = (copy', l.cost, now_at x true t)
      to k l' x i st at' false f = elim (nat_dec k n) as (λ _. HasEntry eq entry' x) [
        | inl e ↦
            let g = subst (λ (j : ℕ). StandsFor eq nodes j x) e st in
            let q : node ≡ g.0 = same_Some node g.0 (sym here ∙ g.1) in
            let t : eq node x ≡ true = subst (λ (y : N). eq y x ≡ true) (sym q) g.2 in
            absurd (true≢false (sym (eq-trans eq laws copy node x (eq-sym eq laws node copy same) t) ∙ f))
        | inr u ↦ let h = m.to k l' x (i.0, omega (arith, u, i.1)) st at' in (h.0, h.1, now_at x false f ∙ h.2)
      ]

  -- all labels were put in
  pub maps_whole : (n : ℕ) (entry : N → Option (N × C)) → length labels ≤ n → MapsLabels eq nodes labels n entry → MapsLabels eq nodes labels (length labels) entry
  maps_whole n entry end m = record {
    from = λ x parent cost e. let h = m.from x parent cost e in
        record { number = h.number; label = h.label; inside = (h.inside.0, HasLabel-inside labels h.number h.label h.at); here = h.here; at = h.at; behind = h.behind; is = h.is };
    to = λ k l x i here at. m.to k l x (i.0, omega (arith, i.1, end)) here at;
  }
