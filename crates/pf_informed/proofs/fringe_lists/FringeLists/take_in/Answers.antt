use Rattle.std.proofs.Common.{◌≡◌, ◌+◌, arith, ◌++◌, ◌∷◌, [], List, ap, subst, sym, length, length-append, refl}
use Rattle.std.specs.Prelude.{Contains, IsPermutation, ◌↔◌}
use Rattle.std.proofs.lemmas.List.{take_at}
use Rattle.std.proofs.lemmas.List.Sorted.{Contains-permutation, IsPermutation-sym, length_permutation}
use Rattle.pf_informed.specs.Internal.Waiting.{Entry}
use Rattle.pf_informed.proofs.FringeLemmas.{pushed_in, pushed_from}
use Rattle.pf_base.proofs.Outcomes.{on_refused, refused_as}
use Rattle.pf_informed.proofs.fringe_lists.FringeLists.take_in.Goals as goal

pub entries-preserved : goal.entries-preserved
entries-preserved g c =
    let i = c.entries.invariant in
    let f = c.in-Some.ensures in
    let pushed = c.in_ok-push.ensures.items in
    record {
      same = λ e. (
        (λ h. pushed_in c.entries.queue.entries c.take_any.new.self.entries c.entries.self.current.items c.push.new.self.items c.in-Some.entry f.0 pushed e ((i.same e).0 h)),
        (λ h. (i.same e).1 (pushed_from c.entries.queue.entries c.take_any.new.self.entries c.entries.self.current.items c.push.new.self.items c.in-Some.entry f.0 pushed e h)),
      );
      later = i.later;
      limit = i.limit;
      count = omega (arith, i.count, f.1, ap length pushed, length-append c.entries.self.current.items (c.in-Some.entry ∷ []));
    }

pub returns-in_err-push : goal.returns-in_err-push
returns-in_err-push g c = record {
  emptied = on_refused _ c.from_residual.result _ c.from_residual.ensures.1;
  same = on_refused _ c.from_residual.result _ c.from_residual.ensures.1;
  later = on_refused _ c.from_residual.result _ c.from_residual.ensures.1;
  limit = on_refused _ c.from_residual.result _ c.from_residual.ensures.1;
  count = on_refused _ c.from_residual.result _ c.from_residual.ensures.1;
  refused = refused_as _ c.from_residual.result _ c.from_residual.ensures.1 refl;
}

pub entries-init : goal.entries-init
entries-init g c = record { same = λ e. ((λ h. h), (λ h. h)); later = refl; limit = refl; count = refl }

pub entries-smaller : goal.entries-smaller
entries-smaller g c = omega (arith, c.in-Some.ensures.1)

pub reverse_from-requires : goal.reverse_from-requires
reverse_from-requires g c =
    let none = c.in_default.ensures.0 in
    omega (arith, c.len-from.ensures, c.args.self.now.current.ok.0, c.entries.invariant.count, ap length none, ap length c.deref_mut.ensures.value)

pub returns : goal.returns
returns g c = record {
  same =
      let i = c.entries.invariant in
      let before = c.entries.self.current.items in
      let after = c.reverse_from.new.elements in
      let moved = subst (λ (xs : List (Entry g.row.C.Denot)). IsPermutation xs after) c.deref_mut.ensures.value c.reverse_from.ensures in
      let none = c.in_default.ensures.0 in
      subst (λ (xs : List (Entry g.row.C.Denot)). (e : Entry g.row.C.Denot) → Contains (c.args.queue.now.entries ++ c.args.self.now.current.items) e ↔ Contains xs e)
      (sym (take_at after _ _ (omega (arith, length_permutation before after moved, c.deref_mut.ensures.len))))
      (λ e. (
        (λ h. Contains-permutation before after e moved (subst (λ (xs : List (Entry g.row.C.Denot)). Contains (xs ++ before) e) none ((i.same e).0 h))),
        (λ h. (i.same e).1 (subst (λ (xs : List (Entry g.row.C.Denot)). Contains (xs ++ before) e) (sym none) (Contains-permutation after before e (IsPermutation-sym before after moved) h))),
      ));
  emptied = c.in_default.ensures.1;
  later = c.entries.invariant.later;
  limit = c.entries.invariant.limit;
  refused = tt;
  count =
      let before = c.entries.self.current.items in
      let after = c.reverse_from.new.elements in
      let moved = subst (λ (xs : List (Entry g.row.C.Denot)). IsPermutation xs after) c.deref_mut.ensures.value c.reverse_from.ensures in
      let none = c.in_default.ensures in
      let same = length_permutation before after moved in
      subst (λ (xs : List (Entry g.row.C.Denot)). length c.take_any.new.self.entries + length xs ≡ length c.args.queue.now.entries + length c.args.self.now.current.items) (sym (take_at after _ _ (omega (arith, same, c.deref_mut.ensures.len))))
      (omega (arith, same, c.entries.invariant.count, ap length none.0, ap length none.1));
}
