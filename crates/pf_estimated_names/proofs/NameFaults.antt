-- Faults of estimates over the numbers of names and over the names.
use Rattle.std.proofs.Common.{◌≡◌, inl, inr, ℕ, ◌<◌, ℤ, sym, subst, ◌∙◌, ap, Bool, List, length, slice_get}
use Rattle.std.specs.Prelude.{◌<ℤ◌, ◌+ℤ◌, pos, Some, get_or}
use Rattle.std.specs.Cmp.{IsEquivalence}
use Rattle.std.proofs.lemmas.Option.{get_or_from_slice_get, slice_get_within}
use Rattle.pf_base.proofs.ListLemmas.{get_within}
use Rattle.pf_edge_lists.specs.EdgeLists.{names_of, places_of}
use Rattle.pf_edge_lists.proofs.NameWalks.{Stands, same_name}
use Rattle.pf_estimated_graphs.specs.EstimatesInTables.{FallsAt, IsFirstEstimateFault, estimate_at}
use Rattle.pf_estimated_graphs.specs.declared.error.EstimateError.{EstimateError}
use Rattle.pf_estimated_graphs.specs.declared.error.EstimateError.TheVariants.{WrongNumberOfEstimates, NegativeEstimate as NegativeAt, EstimateAtGoal as AboveAtGoal, EstimateAboveEdge as AboveAt}
use Rattle.pf_estimated_names.specs.EstimatesByName.{EstimatedNames, IsNameEstimateFault, estimate_of}
use Rattle.pf_estimated_names.specs.Internal.Faults.{IsNamedFault, IsWithin}
use Rattle.pf_estimated_names.specs.declared.error.NameEstimateError.{NameEstimateError}
use Rattle.pf_estimated_names.specs.declared.error.NameEstimateError.TheVariants.{OutOfMemory, NegativeEstimate, EstimateAtGoal, EstimateAboveEdge}
use Rattle.pf_estimated_names.proofs.NameEstimateLemmas.{all_sound, edge_numbered, estimate_stands, falls_out, sound_out}

module _ {N C : Type 0} {eq : N → N → Bool} (laws : IsEquivalence eq) (value : C → ℤ) (names : EstimatedNames N C) (numbers : List C) (complete : length numbers ≡ length (names_of eq names.list))
    (right : (k : ℕ) (x : N) → slice_get (names_of eq names.list) k ≡ Some x → estimate_at value numbers k ≡ estimate_of eq value names x)
    (passes : ℕ → Bool) (agrees : (k : ℕ) (x : N) → slice_get (names_of eq names.list) k ≡ Some x → passes k ≡ eq x names.to) where
  abbrev Fault : EstimateError → Type 0
  Fault = IsFirstEstimateFault value (length (names_of eq names.list)) (places_of eq names.list) passes numbers

  -- a fault is one of a node and a place of the list
  pub fault_within : (fault : EstimateError) → Fault fault → IsWithin eq names.list fault
  fault_within WrongNumberOfEstimates (inl h) = absurd (h.0 complete)
  fault_within WrongNumberOfEstimates (inr (inl h)) = absurd h.1
  fault_within WrongNumberOfEstimates (inr (inr h)) = absurd h.2.2
  fault_within (NegativeAt node) h = tt
  fault_within (AboveAtGoal node) h = tt
  fault_within (AboveAt node place) (inl h) = absurd (h.0 complete)
  fault_within (AboveAt node place) (inr (inl h)) = absurd h.1
  fault_within (AboveAt node place) (inr (inr (e, sound, (n, l, (same, above, before), rows)))) =
      (subst (λ (m : ℕ). m < length (names_of eq names.list)) (sym same) l, subst (λ (m : ℕ). place < length (places_of eq names.list m)) (sym same) (slice_get_within (places_of eq names.list n) place (Some above.0) above.1))

  -- the name of a node
  named : (node : ℕ) (x : N) → node < length (names_of eq names.list) → x ≡ get_or (names_of eq names.list) node names.to → slice_get (names_of eq names.list) node ≡ Some x
  named node x l e =
      let m = get_within (names_of eq names.list) node l in
      m.1 ∙ ap (λ y. Some y) (sym (e ∙ get_or_from_slice_get (names_of eq names.list) node m.0 names.to m.1))

  stands_inside : (k : ℕ) (x : N) → Stands laws (names_of eq names.list) k x → k < length (names_of eq names.list)
  stands_inside k x s = slice_get_within (names_of eq names.list) k s.0 s.1

  -- a fault by number is the same fault by name
  pub fault_named : (fault : EstimateError) (error : NameEstimateError N) → IsNamedFault eq names.list names.to fault error → Fault fault → IsNameEstimateFault eq value names error
  fault_named fault OutOfMemory is h = tt
  fault_named WrongNumberOfEstimates (NegativeEstimate name) is h = absurd is
  fault_named (AboveAtGoal node) (NegativeEstimate name) is h = absurd is
  fault_named (AboveAt node place) (NegativeEstimate name) is h = absurd is
  fault_named WrongNumberOfEstimates (EstimateAtGoal name) is h = absurd is
  fault_named (NegativeAt node) (EstimateAtGoal name) is h = absurd is
  fault_named (AboveAt node place) (EstimateAtGoal name) is h = absurd is
  fault_named WrongNumberOfEstimates (EstimateAboveEdge from to) is h = absurd is
  fault_named (NegativeAt node) (EstimateAboveEdge from to) is h = absurd is
  fault_named (AboveAtGoal node) (EstimateAboveEdge from to) is h = absurd is
  fault_named (NegativeAt node) (NegativeEstimate name) is (inl h) = absurd (h.0 complete)
  fault_named (NegativeAt node) (NegativeEstimate name) is (inr (inl (e, (l, below, before)))) =
      let s = named node name.now (subst (λ (n : ℕ). node < n) complete l) is in
      (record { number = node; stands = s; before = λ k y b t. sound_out laws value names numbers right passes agrees k y t (before k b) }, subst (λ (z : ℤ). z <ℤ pos 0) (right node name.now s) below)
  fault_named (NegativeAt node) (NegativeEstimate name) is (inr (inr h)) = absurd h.2.2
  fault_named (AboveAtGoal node) (EstimateAtGoal name) is (inl h) = absurd (h.0 complete)
  fault_named (AboveAtGoal node) (EstimateAtGoal name) is (inr (inl (e, (l, goal, above, before)))) =
      let s = named node name.now (subst (λ (n : ℕ). node < n) complete l) is in
      (record { number = node; stands = s; before = λ k y b t. sound_out laws value names numbers right passes agrees k y t (before k b) }, sym (agrees node name.now s) ∙ goal, subst (λ (z : ℤ). pos 0 <ℤ z) (right node name.now s) above)
  fault_named (AboveAtGoal node) (EstimateAtGoal name) is (inr (inr h)) = absurd h.2.2
  fault_named (AboveAt node place) (EstimateAboveEdge from to) is (inl h) = absurd (h.0 complete)
  fault_named (AboveAt node place) (EstimateAboveEdge from to) is (inr (inl h)) = absurd h.1
  fault_named (AboveAt node place) (EstimateAboveEdge from to) is (inr (inr (e, sound, (n, l, (same, (target, at, above), before), rows)))) =
      let inside = subst (λ (m : ℕ). m < length (names_of eq names.list)) (sym same) l in
      let there = subst (λ (m : ℕ). slice_get (places_of eq names.list m) place ≡ Some (Some target)) (sym same) at in
      let s = named node from.now inside is.0 in
      let y = edge_numbered laws value names node from.now s place target there in
      let next = get_within (names_of eq names.list) target.0 (stands_inside target.0 y.0 y.2) in
      let leads : to.now ≡ next.0 = is.1 target there ∙ get_or_from_slice_get (names_of eq names.list) target.0 next.0 names.to next.1 in
      let stands : Stands laws (names_of eq names.list) target.0 to.now = (next.0, next.1, ap (eq next.0) leads ∙ laws.refl next.0) in
      let lower : (value target.1 +ℤ estimate_of eq value names to.now) <ℤ estimate_of eq value names from.now =
      subst (λ (z : ℤ). (value target.1 +ℤ estimate_of eq value names to.now) <ℤ z) (right node from.now s)
      (subst (λ (z : ℤ). (value target.1 +ℤ z) <ℤ estimate_at value numbers node) (estimate_stands laws value names numbers right target.0 to.now stands)
      (subst (λ (m : ℕ). (value target.1 +ℤ estimate_at value numbers target.0) <ℤ estimate_at value numbers m) (sym same) above)) in (
        all_sound laws value names numbers right passes agrees sound,
        record {
          number = node;
          stands = s;
          before = λ k x b t number. falls_out laws value names numbers right k x t number (rows k number (subst (λ (m : ℕ). k < m) same b));
        },
        record {
          number = place;
          edge = (y.0, value target.1);
          stands = y.1;
          leads = same_name laws (names_of eq names.list) target.0 to.now y.0 stands y.2;
          above = lower;
          before = λ k b. falls_out laws value names numbers right node from.now s k (subst (λ (m : ℕ). FallsAt value (places_of eq names.list) numbers m k) (sym same) (before k b));
        },
      )
