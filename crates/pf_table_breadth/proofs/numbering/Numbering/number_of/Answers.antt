use Rattle.std.proofs.Common.{◌≡◌, ℕ, Some, arith, refl, sym, ◌∙◌, ap, length, length-append, ◌++◌, ◌∷◌, [], slice_get, nat_eq, ◌-◌, ◌+◌, ◌<◌, ◌≤◌, subst}
use Rattle.std.proofs.lemmas.Cmp.{nat_eq_equiv}
use Rattle.std.proofs.lemmas.List.{length-set}
use Rattle.std.proofs.lemmas.Result.{IfOk-from_err}
use Rattle.pf_core.specs.Nodes.{AddsNode}
use Rattle.pf_base.proofs.ListLemmas.{at_place, get_at_end}
use Rattle.pf_core.proofs.NodeLemmas.{AddsNode-new, AddsNode-old}
use Rattle.pf_table_breadth.specs.Internal.Numbering.{IsIndex}
use Rattle.pf_table_breadth.proofs.IndexLemmas.{index_push, is_new}
use Rattle.pf_base.proofs.Outcomes.{refused_as}
use Rattle.pf_table_breadth.proofs.numbering.Numbering.number_of.Goals as goal

one_less : (n : ℕ) → 0 < n → n ≡ (n - 1) + 1
one_less n l = omega arith

at_most_zero : (n : ℕ) → n ≤ 0 → n ≡ 0
at_most_zero n l = omega arith

number_before : (n m : ℕ) → n ≡ m + 1 → n - 1 ≡ m
number_before n m e = omega arith

some_number : (n m : ℕ) → n ≡ m + 1 → 1 ≤ n
some_number n m e = omega arith

pub index-known-requires : goal.index-known-requires
index-known-requires g c = subst (λ n. c.args.node < n) (sym c.args.self.now.numbers.ok.0) c.requires.inside

pub returns-then-known-gt0-clause-added : goal.returns-then-known-gt0-clause-added
returns-then-known-gt0-clause-added g c = AddsNode-old nat_eq c.args.self.now.order.items c.args.node

pub returns-then-known-gt0-clause-numbered : goal.returns-then-known-gt0-clause-numbered
returns-then-known-gt0-clause-numbered g c =
    let known = c.index-known.result.now in
    let at : slice_get c.args.self.now.numbers.items c.args.node ≡ Some known = at_place _ _ known _ c.requires.inside (sym c.index-known.ensures) in
    (c.args.node, c.requires.index.back (known - 1) c.args.node (at ∙ ap (λ (n : ℕ). Some n) (one_less known c.if-known-gt0.true)), nat_eq_equiv.refl c.args.node)

pub returns-in_err-push : goal.returns-in_err-push
returns-in_err-push g c =
    let r = c.from_residual in
    let order = c.args.self.now.order.items in
    let same = sym c.in_err-push.ensures.items in
    record {
      index = subst (λ ns. IsIndex ns c.args.self.now.numbers.items) same c.requires.index;
      wide = refl;
      added = subst (AddsNode nat_eq c.args.node order) same (AddsNode-old nat_eq order c.args.node);
      numbered = IfOk-from_err _ _ r.ensures.0;
      refused = refused_as _ r.result _ r.ensures.1 refl;
    }

pub index_mut-requires : goal.index_mut-requires
index_mut-requires g c = subst (λ n. c.args.node < n) (sym c.args.self.now.numbers.ok.0) c.requires.inside

pub overflow_sub-result-2 : goal.overflow_sub-result-2
overflow_sub-result-2 g c =
    let order = c.args.self.now.order.items in
    some_number c.len-2.result (length order) (c.len-2.ensures ∙ c.push.new.self.ok.0 ∙ ap length c.in_ok-push.ensures.items ∙ length-append order (c.args.node ∷ []))

pub returns-clause-index : goal.returns-clause-index
returns-clause-index g c =
    let order = c.args.self.now.order.items in
    let known = c.index-known.result.now in
    let free : slice_get c.args.self.now.numbers.items c.args.node ≡ Some 0 = at_place _ _ known _ c.requires.inside (sym c.index-known.ensures) ∙ ap (λ (n : ℕ). Some n) (at_most_zero known c.if-known-gt0.false) in
    let items : c.push.new.self.items ≡ order ++ c.args.node ∷ [] = c.in_ok-push.ensures.items in
    let number : c.len.result ≡ length order + 1 = c.len.ensures ∙ c.push.new.self.ok.0 ∙ ap length items ∙ length-append order (c.args.node ∷ []) in
    rw (items, number) (index_push order c.args.self.now.numbers.items c.args.node c.requires.index free)

pub returns-clause-wide : goal.returns-clause-wide
returns-clause-wide g c = length-set c.args.self.now.numbers.items c.args.node c.len.result

pub returns-clause-added : goal.returns-clause-added
returns-clause-added g c =
    let known = c.index-known.result.now in
    let free : slice_get c.args.self.now.numbers.items c.args.node ≡ Some 0 = at_place _ _ known _ c.requires.inside (sym c.index-known.ensures) ∙ ap (λ (n : ℕ). Some n) (at_most_zero known c.if-known-gt0.false) in
    AddsNode-new nat_eq c.args.self.now.order.items c.push.new.self.items c.args.node c.in_ok-push.ensures.items (is_new c.args.self.now.order.items c.args.self.now.numbers.items c.args.node c.requires.index free)

pub returns-clause-numbered : goal.returns-clause-numbered
returns-clause-numbered g c =
    let order = c.args.self.now.order.items in
    let items : c.push.new.self.items ≡ order ++ c.args.node ∷ [] = c.in_ok-push.ensures.items in
    let number : c.len-2.result - 1 ≡ length order = number_before c.len-2.result (length order) (c.len-2.ensures ∙ c.push.new.self.ok.0 ∙ ap length items ∙ length-append order (c.args.node ∷ [])) in
    (c.args.node, rw (items, number) (get_at_end order c.args.node), nat_eq_equiv.refl c.args.node)
