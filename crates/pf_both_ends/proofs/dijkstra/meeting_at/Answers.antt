use Rattle.std.proofs.Common.{◌≡◌, ◌<◌, ◌∙◌, ap, length, sym, subst, Some, None, slice_get, arith, ℕ, pos, refl}
use Rattle.std.specs.Prelude.{◌+ℤ◌, ◌≤ℤ◌}
use Rattle.std.proofs.lemmas.Int.{ints}
use Rattle.std.proofs.lemmas.Option.{same_Some}
use Rattle.pf_core.specs.declared.labels.Label.{Label}
use Rattle.pf_core.specs.Labels.{HasLabel}
use Rattle.pf_core.specs.Nodes.{StandsFor}
use Rattle.pf_base.proofs.ListLemmas.{at_place}
use Rattle.pf_core.proofs.LabelLemmas.{label_is}
use Rattle.pf_two_sided.proofs.SideLemmas.{place_across}
use Rattle.pf_both_ends.proofs.BothEndsLemmas.{past_greatest}
use Rattle.pf_discovery.proofs.ResultLemmas.{when_some, when_none}
use Rattle.pf_discovery.proofs.StillLemmas.{read_at}
use Rattle.pf_both_ends.proofs.dijkstra.meeting_at.Goals as goal

pub returns : goal.returns
returns g c = record {
  meets =
      let item = c.index-found-number.result in
      let at : slice_get (g.M.Numbering.keys c.args.nodes.now) c.args.number ≡ Some item = read_at _ _ _ _ _ c.as_slice-found.ensures.keys c.requires.inside c.index-found-number.is in
      let place = when_some _ _ _ _ c.in-Some.is (place_across g.N.PartialEq.eq g.met.N.Eq.laws (g.M.Numbering.keys c.args.nodes.now) (g.M.Numbering.keys c.args.other_nodes.now) c.args.number item c.get_number_of.result at c.get_number_of.ensures) in
      let inside : c.in-Some.across < length c.args.other_search.now.labels.items = subst (λ (n : ℕ). c.in-Some.across < n) (sym c.requires.wide) place.0 in
      let slot : slice_get c.args.other_search.now.labels.items c.in-Some.across ≡ Some c.index.result.now = at_place _ _ _ _ inside (sym c.index.ensures) in
      let sum = g.met.C.CheckedAdd.checked_add_law c.label_of-here.result.cost c.in-Some-label.there.cost (Some c.in-Some-checked_add.cost) c.in-Some-checked_add.ensures in
      let here : StandsFor g.N.PartialEq.eq (g.M.Numbering.keys c.args.nodes.now) c.args.number item = (item, at, g.met.N.Eq.laws.refl item) in (
        refl,
        record {
          node = item;
          stands_here = here;
          stands_across = place.1 item here;
          here = c.label_of-here.result;
          labelled_here = c.label_of-here.ensures;
          across = c.in-Some-label.there;
          labelled_across = slot ∙ subst (λ o. Some c.index.result.now ≡ Some o) (sym c.label.ensures ∙ c.in-Some-label.is) refl;
          sum = omega (arith, ints, sum.1);
        },
      );
  low = λ k l m x here there hl hm pl pm.
      let item = c.index-found-number.result in
      let at : slice_get (g.M.Numbering.keys c.args.nodes.now) c.args.number ≡ Some item = read_at _ _ _ _ _ c.as_slice-found.ensures.keys c.requires.inside c.index-found-number.is in
      let place = when_some _ _ _ _ c.in-Some.is (place_across g.N.PartialEq.eq g.met.N.Eq.laws (g.M.Numbering.keys c.args.nodes.now) (g.M.Numbering.keys c.args.other_nodes.now) c.args.number item c.get_number_of.result at c.get_number_of.ensures) in
      let same : k ≡ c.in-Some.across = c.requires.one k c.in-Some.across x there (place.1 x here) in
      let inside : c.in-Some.across < length c.args.other_search.now.labels.items = subst (λ (n : ℕ). c.in-Some.across < n) (sym c.requires.wide) place.0 in
      let slot : slice_get c.args.other_search.now.labels.items c.in-Some.across ≡ Some c.index.result.now = at_place _ _ _ _ inside (sym c.index.ensures) in
      let labelled : HasLabel c.args.other_search.now.labels.items c.in-Some.across c.in-Some-label.there = slot ∙ subst (λ o. Some c.index.result.now ≡ Some o) (sym c.label.ensures ∙ c.in-Some-label.is) refl in
      let first : c.label_of-here.result ≡ l = label_is c.args.search.now.labels.items c.args.number c.label_of-here.result l c.label_of-here.ensures hl in
      let second : c.in-Some-label.there ≡ m = label_is c.args.other_search.now.labels.items c.in-Some.across c.in-Some-label.there m labelled (subst (λ (n : ℕ). HasLabel c.args.other_search.now.labels.items n m) same hm) in
      let sum = g.met.C.CheckedAdd.checked_add_law c.label_of-here.result.cost c.in-Some-label.there.cost (Some c.in-Some-checked_add.cost) c.in-Some-checked_add.ensures in
      subst (λ (n : Label g.row.C.Denot). g.C.Number.value c.in-Some-checked_add.cost ≤ℤ (g.C.Number.value n.cost +ℤ g.C.Number.value m.cost)) first
      (subst (λ (n : Label g.row.C.Denot). g.C.Number.value c.in-Some-checked_add.cost ≤ℤ (g.C.Number.value c.label_of-here.result.cost +ℤ g.C.Number.value n.cost)) second (omega (arith, ints, sum.1)));
}

pub returns-in_default : goal.returns-in_default
returns-in_default g c = record {
  low = λ k l m x here there hl hm pl pm.
      let item = c.index-found-number.result in
      let at : slice_get (g.M.Numbering.keys c.args.nodes.now) c.args.number ≡ Some item = read_at _ _ _ _ _ c.as_slice-found.ensures.keys c.requires.inside c.index-found-number.is in
      let place = when_none _ _ _ c.in_default.is (place_across g.N.PartialEq.eq g.met.N.Eq.laws (g.M.Numbering.keys c.args.nodes.now) (g.M.Numbering.keys c.args.other_nodes.now) c.args.number item c.get_number_of.result at c.get_number_of.ensures) in
      absurd (place x here k there);
  meets = tt;
}

pub returns-in_default-label : goal.returns-in_default-label
returns-in_default-label g c = record {
  low = λ k l m x here there hl hm pl pm.
      let item = c.index-found-number.result in
      let at : slice_get (g.M.Numbering.keys c.args.nodes.now) c.args.number ≡ Some item = read_at _ _ _ _ _ c.as_slice-found.ensures.keys c.requires.inside c.index-found-number.is in
      let place = when_some _ _ _ _ c.in-Some.is (place_across g.N.PartialEq.eq g.met.N.Eq.laws (g.M.Numbering.keys c.args.nodes.now) (g.M.Numbering.keys c.args.other_nodes.now) c.args.number item c.get_number_of.result at c.get_number_of.ensures) in
      let same : k ≡ c.in-Some.across = c.requires.one k c.in-Some.across x there (place.1 x here) in
      let inside : c.in-Some.across < length c.args.other_search.now.labels.items = subst (λ (n : ℕ). c.in-Some.across < n) (sym c.requires.wide) place.0 in
      let slot : slice_get c.args.other_search.now.labels.items c.in-Some.across ≡ Some c.index.result.now = at_place _ _ _ _ inside (sym c.index.ensures) in
      let labelled : slice_get c.args.other_search.now.labels.items c.in-Some.across ≡ Some (Some m) = subst (λ (n : ℕ). slice_get c.args.other_search.now.labels.items n ≡ Some (Some m)) same hm in
      let told : c.index.result.now ≡ Some m = same_Some c.index.result.now (Some m) (sym slot ∙ labelled) in
      absurd (c.in_default-label.not-Some m (c.label.ensures ∙ told));
  meets = tt;
}

pub returns-in_default-checked_add : goal.returns-in_default-checked_add
returns-in_default-checked_add g c = record {
  low = λ k l m x here there hl hm pl pm.
      let item = c.index-found-number.result in
      let at : slice_get (g.M.Numbering.keys c.args.nodes.now) c.args.number ≡ Some item = read_at _ _ _ _ _ c.as_slice-found.ensures.keys c.requires.inside c.index-found-number.is in
      let place = when_some _ _ _ _ c.in-Some.is (place_across g.N.PartialEq.eq g.met.N.Eq.laws (g.M.Numbering.keys c.args.nodes.now) (g.M.Numbering.keys c.args.other_nodes.now) c.args.number item c.get_number_of.result at c.get_number_of.ensures) in
      let same : k ≡ c.in-Some.across = c.requires.one k c.in-Some.across x there (place.1 x here) in
      let inside : c.in-Some.across < length c.args.other_search.now.labels.items = subst (λ (n : ℕ). c.in-Some.across < n) (sym c.requires.wide) place.0 in
      let slot : slice_get c.args.other_search.now.labels.items c.in-Some.across ≡ Some c.index.result.now = at_place _ _ _ _ inside (sym c.index.ensures) in
      let labelled : HasLabel c.args.other_search.now.labels.items c.in-Some.across c.in-Some-label.there = slot ∙ subst (λ o. Some c.index.result.now ≡ Some o) (sym c.label.ensures ∙ c.in-Some-label.is) refl in
      let first : c.label_of-here.result ≡ l = label_is c.args.search.now.labels.items c.args.number c.label_of-here.result l c.label_of-here.ensures hl in
      let second : c.in-Some-label.there ≡ m = label_is c.args.other_search.now.labels.items c.in-Some.across c.in-Some-label.there m labelled (subst (λ (n : ℕ). HasLabel c.args.other_search.now.labels.items n m) same hm) in
      let never = g.met.C.CheckedAdd.checked_add_law c.label_of-here.result.cost c.in-Some-label.there.cost None c.in_default-checked_add.ensures in
      subst (λ (n : Label g.row.C.Denot). (g.C.Number.value g.C.Cost.greatest +ℤ pos 1) ≤ℤ (g.C.Number.value n.cost +ℤ g.C.Number.value m.cost)) first
      (subst (λ (n : Label g.row.C.Denot). (g.C.Number.value g.C.Cost.greatest +ℤ pos 1) ≤ℤ (g.C.Number.value c.label_of-here.result.cost +ℤ g.C.Number.value n.cost)) second
      (past_greatest g.C.Number.fits (g.C.Number.value g.C.Cost.least) (g.C.Number.value g.C.Cost.greatest) g.met.C.Cost.range_law (g.C.Number.value c.label_of-here.result.cost) (g.C.Number.value c.in-Some-label.there.cost) c.known.ensures
      (subst (λ (n : Label g.row.C.Denot). pos 0 ≤ℤ g.C.Number.value n.cost) (sym second) pm) never));
  meets = tt;
}

pub bounds-found-number : goal.bounds-found-number
bounds-found-number g c = omega (arith, c.requires.inside, ap length c.as_slice-found.ensures.keys)

pub offset_bounds-found-number : goal.offset_bounds-found-number
offset_bounds-found-number g c = omega (arith, c.requires.inside, ap length c.as_slice-found.ensures.keys)

pub index-requires : goal.index-requires
index-requires g c =
    let item = c.index-found-number.result in
    let at : slice_get (g.M.Numbering.keys c.args.nodes.now) c.args.number ≡ Some item = read_at _ _ _ _ _ c.as_slice-found.ensures.keys c.requires.inside c.index-found-number.is in
    let place = when_some _ _ _ _ c.in-Some.is (place_across g.N.PartialEq.eq g.met.N.Eq.laws (g.M.Numbering.keys c.args.nodes.now) (g.M.Numbering.keys c.args.other_nodes.now) c.args.number item c.get_number_of.result at c.get_number_of.ensures) in
    omega (arith, place.0, c.requires.wide, c.args.other_search.now.labels.ok)

pub label_of-here-requires : goal.label_of-here-requires
label_of-here-requires g c = c.requires.labelled
