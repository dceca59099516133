use Rattle.std.proofs.Common.{refl, sym, ap, arith, ℕ, List, ◌∙◌, ◌++◌, ◌-◌, length, take}
use Rattle.pf_orders.proofs.ComponentLists.{popped}
use Rattle.pf_orders.proofs.SegmentLemmas.{place_opened, segment_begun}
use Rattle.pf_base.proofs.Outcomes.{on_failed, refused_as}
use Rattle.pf_orders.proofs.component_search.ComponentSearch.visit.Goals as goal

pub returns-in_err-resize : goal.returns-in_err-resize
returns-in_err-resize g c =
    let r = c.from_residual in
    record {
      path = on_failed _ _ r.ensures.0;
      waiting = on_failed _ _ r.ensures.0;
      segments = on_failed _ _ r.ensures.0;
      places = on_failed _ _ r.ensures.0;
      components = refl;
      refused = refused_as _ r.result _ r.ensures.1 refl;
    }

pub returns-in_err-push : goal.returns-in_err-push
returns-in_err-push g c =
    let r = c.from_residual-in_err-push in
    record {
      path = on_failed _ _ r.ensures.0;
      waiting = on_failed _ _ r.ensures.0;
      segments = on_failed _ _ r.ensures.0;
      places = on_failed _ _ r.ensures.0;
      components = refl;
      refused = refused_as _ r.result _ r.ensures.1 refl;
    }

pub returns-in_err-push-2 : goal.returns-in_err-push-2
returns-in_err-push-2 g c =
    let r = c.from_residual-in_err-push-2 in
    record {
      path = on_failed _ _ r.ensures.0;
      waiting = on_failed _ _ r.ensures.0;
      segments = on_failed _ _ r.ensures.0;
      places = on_failed _ _ r.ensures.0;
      components = refl;
      refused = refused_as _ r.result _ r.ensures.1 refl;
    }

pub returns-in_err-extend_from_slice : goal.returns-in_err-extend_from_slice
returns-in_err-extend_from_slice g c =
    let r = c.from_residual-in_err-extend_from_slice in
    record {
      path = on_failed _ _ r.ensures.0;
      waiting = on_failed _ _ r.ensures.0;
      segments = on_failed _ _ r.ensures.0;
      places = on_failed _ _ r.ensures.0;
      components = refl;
      refused = refused_as _ r.result _ r.ensures.1 refl;
    }

pub index_mut-requires : goal.index_mut-requires
index_mut-requires g c = omega (arith, c.requires.inside, c.requires.found, c.in_ok-resize.ensures.len)

pub returns : goal.returns
returns g c = record {
  path = c.in_ok-push-2.ensures.items;
  waiting =
      let waiting = c.args.self.now.waiting.items in
      c.in_ok-extend_from_slice.ensures.items ∙ ap (λ (ks : List ℕ). ks ++ c.deref.result.now) (popped waiting waiting _ _ c.pop.ensures.rest (sym c.args.self.now.waiting.ok.0) refl) ∙ ap (λ (ks : List ℕ). take (length waiting - 1) waiting ++ ks) c.deref.ensures.value;
  segments = segment_begun _ _ _ _ c.args.self.now.path.items c.args.self.now.waiting.items c.pop.new.self.items c.in_ok-push.ensures.items (c.len-2.ensures ∙ c.args.self.now.path.ok.0) (c.len-3.ensures ∙ c.pop.new.self.ok.0) (popped c.args.self.now.waiting.items c.args.self.now.waiting.items _ _ c.pop.ensures.rest (sym c.args.self.now.waiting.ok.0) refl);
  places = place_opened c.args.self.now.places.items c.resize.new.self.items c.args.found c.args.number c.len.result c.args.self.now.path.items _ c.in_ok-resize.ensures.items c.args.self.now.places.ok.0 c.requires.found (c.len.ensures ∙ c.args.self.now.path.ok.0);
  components = refl;
  refused = tt;
}
