use Rattle.std.specs.HashMap.{get}
use Rattle.std.proofs.Common.{◌≡◌, ◌∙◌, ◌+◌, ap, sym, [], ◌∷◌, ◌++◌, append-nil, nat_eq, ℕ, get_or}
use Rattle.std.specs.Prelude.{Option, None, Some}
use Rattle.std.specs.Option.{option_copied, option_map}
use Rattle.std.specs.List.{cons_option, filter_map, range_with_len}
use Rattle.std.proofs.lemmas.List.{map-append}
use Rattle.std.proofs.lemmas.List.Elements.{filter_map-append}
use Rattle.pf_name_numbers.proofs.ListedNames.{range_pushed}
use Rattle.pf_edge_lists.specs.EdgeLists.{names_of}
use Rattle.pf_name_searches.specs.NameParents.{entries_in, name_entry}
use Rattle.pf_name_searches.proofs.parents.named.Goals.{in-Some+in_ok-push, in_default}
use Rattle.pf_name_searches.proofs.parents.named.Goals as goal

-- the entries of one more number
more : {X : Type 0} (f : ℕ → Option X) (n : ℕ) (o : Option X) → f n ≡ o → filter_map f (range_with_len 0 (n + 1)) ≡ filter_map f (range_with_len 0 n) ++ cons_option o []
more f n o e = ap (filter_map f) (range_pushed n) ∙ filter_map-append f (range_with_len 0 n) (n ∷ []) ∙ ap (λ x. filter_map f (range_with_len 0 n) ++ cons_option x []) e

pub loop-number-preserved : goal.loop-number-preserved
loop-number-preserved g c =
    let f = name_entry g.N.PartialEq.eq c.args.list.now c.args.other.now (get nat_eq c.args.parents.now) in
    let n = c.loop-number.number-counter in
    elim c.match-get.branch as (λ _. entries_in c.match-get.named.items ≡ filter_map f (range_with_len 0 (n + 1))) [
      | in-Some+in_ok-push w ↦
          let e = w.in-Some.field-0.now in
          let name = w.name_or-name.result.now in
          let before = w.name_or-before.result.now in
          let names = names_of g.N.PartialEq.eq c.args.list.now in
          let has : f n ≡ Some (get_or names n c.args.other.now, (get_or names e.0 c.args.other.now, e.1)) =
          ap (option_map (λ (d : ℕ × _). (get_or names n c.args.other.now, (get_or names d.0 c.args.other.now, d.1)))) (sym c.get.ensures.value ∙ ap option_copied w.in-Some.is) in
          let is : f n ≡ Some (name, (before, e.1)) = has ∙ ap (λ x. Some (x, (get_or names e.0 c.args.other.now, e.1))) (sym w.name_or-name.ensures) ∙ ap (λ x. Some (name, (x, e.1))) (sym w.name_or-before.ensures) in
          ap (λ v. entries_in v.items) w.named-is ∙ ap entries_in w.in_ok-push.ensures.items ∙ map-append _ c.loop-number.named.items _
          ∙ ap (λ xs. xs ++ (name, (before, e.1)) ∷ []) c.loop-number.invariant ∙ sym (more f n (Some (name, (before, e.1))) is)
      | in_default w ↦ ap (λ v. entries_in v.items) w.named-is ∙ c.loop-number.invariant ∙ sym (append-nil (filter_map f (range_with_len 0 n)))
          ∙ sym (more f n None (ap (option_map _) (sym c.get.ensures.value ∙ ap option_copied w.in_default.is)))
    ]
