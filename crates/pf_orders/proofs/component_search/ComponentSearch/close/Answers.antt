use Rattle.std.proofs.Common.{refl, sym, ap, length}
use Rattle.pf_orders.proofs.ComponentLists.{popped}
use Rattle.pf_orders.proofs.SegmentLemmas.{inside_path, component_put, places_closed}
use Rattle.pf_base.proofs.Outcomes.{on_failed, refused_as}
use Rattle.pf_orders.proofs.component_search.ComponentSearch.close.Goals as goal

pub returns-in_err-component : goal.returns-in_err-component
returns-in_err-component g c =
    let r = c.from_residual in
    record {
      waiting = refl;
      path = on_failed _ _ r.ensures.0;
      segments = on_failed _ _ r.ensures.0;
      components = on_failed _ _ r.ensures.0;
      places = on_failed _ _ r.ensures.0;
      refused = refused_as _ r.result _ r.ensures.1 refl;
    }

pub returns-in_err-push : goal.returns-in_err-push
returns-in_err-push g c =
    let r = c.from_residual-in_err-push in
    record {
      waiting = refl;
      path = on_failed _ _ r.ensures.0;
      segments = on_failed _ _ r.ensures.0;
      components = on_failed _ _ r.ensures.0;
      places = on_failed _ _ r.ensures.0;
      refused = refused_as _ r.result _ r.ensures.1 refl;
    }

pub close_places-requires : goal.close_places-requires
close_places-requires g c = record {
  inside = inside_path c.in_ok-component.component c.deref.result.now c.args.self.now.path.items c.args.begin c.in_ok-component.ensures.items c.deref.ensures.value _ _ _ c.deref-2.ensures.value c.requires.inside (ap length c.deref_mut.ensures.value);
}

pub returns : goal.returns
returns g c = record {
  waiting = refl;
  path = c.truncate.ensures.items;
  segments = popped c.args.self.now.segments.items c.args.self.now.segments.items _ _ c.pop.ensures.rest (sym c.args.self.now.segments.ok.0) refl;
  components = component_put c.in_ok-component.component c.deref.result.now c.args.self.now.path.items c.args.begin c.in_ok-component.ensures.items c.deref.ensures.value _ _ c.in_ok-push.ensures.items;
  places = places_closed c.in_ok-component.component c.deref.result.now c.args.self.now.path.items c.args.begin c.in_ok-component.ensures.items c.deref.ensures.value _ _ _ _ _ c.deref-2.ensures.value c.deref_mut.ensures.value c.args.self.now.places.ok.0 c.close_places.ensures;
  refused = tt;
}
