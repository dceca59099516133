-- A walk by name goes on as the walk over numbers.
use Rattle.std.proofs.Common.{◌≡◌, ◌<◌, ◌∙◌, ap, sym, refl, subst, Bool, List, ℕ, length, map}
use Rattle.std.specs.Prelude.{Err, None, Ok, Option, Result, Some}
use Rattle.std.specs.Borrow.{Bor}
use Rattle.std.specs.Iterator.{Count, IsFinite, MakesProgress, at_most, size}
use Rattle.std.specs.Option.{is_some}
use Rattle.std.proofs.lemmas.List.{length-map}
use Rattle.pf_base.specs.declared.error.PathError.{PathError}
use Rattle.pf_edge_lists.specs.EdgeLists.{NamesAndEdges}
use Rattle.pf_name_walks.specs.NameWalks.{item_result_by_name, named_item_result, named_result, result_by_name}
use Rattle.pf_search.specs.Items.{most_items}
use Rattle.pf_search.specs.declared.directed.dijkstra_reach.DijkstraReachableItem.{DijkstraReachableItem}

-- as many items are left of names as of numbers
pub same_left : {X Y : Type 0} (f : X → Y) (given : List X) (refused : Bool) → at_most (most_items (length (map f given)) refused) ≡ at_most (most_items (length given) refused)
same_left f given refused = ap (λ (n : ℕ). at_most (most_items n refused)) (length-map given f)

pub goes_by_name : {S W A B : Type 0} {can : W → Type 0} {can' : S → Type 0} {left : W → Count} {left' : S → Count} (v : W) (r : Option A) (w : W) (s : S) (q : Option B) (t : S) → left' s ≡ left v → left' t ≡ left w → is_some q ≡ is_some r → can' t
    → MakesProgress can left v r w → MakesProgress can' left' s q t
goes_by_name v None w s None t a b o c h = record { on = λ f. tt; keeps = tt; rests = λ f. subst IsFinite (sym b) (h.rests (subst IsFinite a f)) }
goes_by_name v None w s (Some x) t a b o c h = cc
goes_by_name v (Some y) w s None t a b o c h = cc
goes_by_name {left = left} {left' = left'} v (Some y) w s (Some x) t a b o c h = record {
  on = λ f.
      let p = h.on (subst IsFinite a f) in
      (c, subst IsFinite (sym b) p.1, subst (λ n. size (left' t) < size n) (sym a) (subst (λ n. size n < size (left v)) (sym b) p.2));
  keeps = c;
  rests = λ f. tt;
}

module _ {N C : Type 0} (eq : N → N → Bool) (list : NamesAndEdges N C) (other : N) where
  pub some_node : (r : Option (Result ℕ PathError)) (q : Option (Result (Bor N) PathError)) → named_result q ≡ result_by_name eq list other r → is_some q ≡ is_some r
  some_node r q e = sym (here q) ∙ ap is_some e ∙ there r
    where
      here : (p : Option (Result (Bor N) PathError)) → is_some (named_result p) ≡ is_some p
      here None = refl
      here (Some (Ok x)) = refl
      here (Some (Err x)) = refl

      there : (p : Option (Result ℕ PathError)) → is_some (result_by_name eq list other p) ≡ is_some p
      there None = refl
      there (Some (Ok x)) = refl
      there (Some (Err x)) = refl

  pub some_item : (r : Option (Result (DijkstraReachableItem ℕ C) PathError)) (q : Option (Result (DijkstraReachableItem (Bor N) C) PathError)) → named_item_result q ≡ item_result_by_name eq list other r → is_some q ≡ is_some r
  some_item r q e = sym (here q) ∙ ap is_some e ∙ there r
    where
      here : (p : Option (Result (DijkstraReachableItem (Bor N) C) PathError)) → is_some (named_item_result p) ≡ is_some p
      here None = refl
      here (Some (Ok x)) = refl
      here (Some (Err x)) = refl

      there : (p : Option (Result (DijkstraReachableItem ℕ C) PathError)) → is_some (item_result_by_name eq list other p) ≡ is_some p
      there None = refl
      there (Some (Ok x)) = refl
      there (Some (Err x)) = refl

pub ok_is : {X E : Type 0} (x y : X) → ◌≡◌ {A = Result X E} (Ok x) (Ok y) → x ≡ y
ok_is x y e = cc
