use Rattle.std.proofs.Common.{◌≡◌, ◌∙◌, ◌<◌, ◌+◌, ap, sym, arith, ℕ, List, [], ◌∷◌, ◌++◌, append-nil, length, take, slice_get, slice_index_or}
use Rattle.std.specs.Prelude.{Option, None, Some}
use Rattle.std.specs.List.{cons_option, filter_map}
use Rattle.std.proofs.lemmas.List.{map-append, take_all, take_more}
use Rattle.std.proofs.lemmas.List.Elements.{filter_map-append}
use Rattle.std.proofs.lemmas.Option.{slice_get_past}
use Rattle.std.proofs.lemmas.Result.{IfOk-from_err}
use Rattle.pf_base.proofs.Outcomes.{refused_by}
use Rattle.pf_base.specs.NodeRefs.{nodes_of}
use Rattle.pf_edge_lists.specs.EdgeLists.{names_of}
use Rattle.pf_name_numbers.proofs.listed.listed_names.Goals.{in-Some+in_ok-push, in_default}
use Rattle.pf_name_numbers.proofs.listed.listed_names.Goals as goal

-- the names of one more number
more : {N : Type 0} (names : List N) (ks : List ℕ) (i : ℕ) → i < length ks → (o : Option N) → slice_get names (slice_index_or ks i 0) ≡ o
    → filter_map (slice_get names) (take (i + 1) ks) ≡ filter_map (slice_get names) (take i ks) ++ cons_option o []
more names ks i h o e = ap (filter_map (slice_get names)) (take_more ks i 0 h) ∙ filter_map-append (slice_get names) (take i ks) (slice_index_or ks i 0 ∷ []) ∙ ap (λ x. filter_map (slice_get names) (take i ks) ++ cons_option x []) e

pub loop-number-preserved : goal.loop-number-preserved
loop-number-preserved g c =
    let names = names_of g.N.PartialEq.eq c.args.list.now in
    let ks = c.args.numbers.now in
    let i = c.loop-number.number-index in
    elim c.match-name_of.branch as (λ _. nodes_of c.match-name_of.names.items ≡ filter_map (slice_get names) (take (i + 1) ks)) [
      | in-Some+in_ok-push w ↦
          ap (λ v. nodes_of v.items) w.names-is ∙ ap nodes_of w.in_ok-push.ensures.items ∙ map-append _ c.loop-number.names.items _
          ∙ ap (λ xs. xs ++ w.in-Some.name.now ∷ []) c.loop-number.invariant ∙ sym (more names ks i c.loop-number-test.true (Some w.in-Some.name.now) w.in-Some.ensures)
      | in_default w ↦
          ap (λ v. nodes_of v.items) w.names-is ∙ c.loop-number.invariant ∙ sym (append-nil _)
          ∙ sym (more names ks i c.loop-number-test.true None (slice_get_past names (slice_index_or ks i 0) w.in_default.ensures))
    ]

pub returns-in_err-names-clause-names : goal.returns-in_err-names-clause-names
returns-in_err-names-clause-names g c = IfOk-from_err _ _ c.from_residual.ensures.0

pub returns-in_err-names-clause-refused : goal.returns-in_err-names-clause-refused
returns-in_err-names-clause-refused g c = refused_by _ c.from_residual.result c.from_residual.ensures.1

pub loop-number-init : goal.loop-number-init
loop-number-init g c = ap nodes_of c.in_ok-names.ensures.items

pub bounds-numbers-number-index : goal.bounds-numbers-number-index
bounds-numbers-number-index g c = c.loop-number-test.true

pub returns-in_err-push-clause-names : goal.returns-in_err-push-clause-names
returns-in_err-push-clause-names g c = IfOk-from_err _ _ c.from_residual-in_err-push.ensures.0

pub returns-in_err-push-clause-refused : goal.returns-in_err-push-clause-refused
returns-in_err-push-clause-refused g c = refused_by _ c.from_residual-in_err-push.result c.from_residual-in_err-push.ensures.1

pub loop-number-smaller : goal.loop-number-smaller
loop-number-smaller g c = omega (arith, c.loop-number-test.true)

pub returns-clause-names : goal.returns-clause-names
returns-clause-names g c = c.loop-number.invariant ∙ ap (filter_map _) (take_all c.loop-number.number-index c.args.numbers.now c.loop-number-test.false)
