use Rattle.std.proofs.Common.{rules, ◌≡◌, ◌<◌, ◌-◌, ◌∙◌, ap, sym, arith, length, refl, inl, inr, slice_get, Some, suc}
use Rattle.pf_base.proofs.ListLemmas.{at_place}
use Rattle.pf_base.proofs.Outcomes.{on_refused, refused_as}
use Rattle.pf_informed.specs.Internal.Chains.{BeginsWith, chain, lists_at, before_in}
use Rattle.pf_informed.proofs.ChainLemmas.{chain_step, chain_none, list_at, lists_long, none_first, other_first, chained_put, chained_same, lists_put}
use Rattle.pf_informed.proofs.predecessors.Predecessors.link.Goals as goal
use Rattle.pf_informed.proofs.predecessors.Predecessors.link.Goals.{else-head-gt0-via-then-head-gt0+else-index-number, else-head-gt0-via-else-head-gt0}

pub returns-then-index-number-clause-linked : goal.returns-then-index-number-clause-linked
returns-then-index-number-clause-linked g c =
    let heads = c.self.inside.heads.items in
    let links = c.self.inside.links.items in
    let head = c.index-head.result.now in
    let inside : c.args.next < length heads = omega (arith, ap length c.self.view_is, lists_long links heads, c.requires) in
    let at : slice_get heads c.args.next ≡ Some head = at_place _ _ _ _ inside (sym c.index-head.ensures) in
    let low = c.self.invariant.begins c.args.next head at in
    let some : 0 < head = search rules in
    let earlier : head - 1 < length links = omega (arith, low, some) in
    let there : slice_get links (head - 1) ≡ Some c.index.result.now = at_place _ _ _ _ earlier (sym c.index.ensures) in
    let place : head ≡ suc (head - 1) = omega (arith, some) in
    let same : c.index.result.now.number ≡ c.args.number = search rules in
    let begins = list_at links heads c.args.next head at ∙ ap (chain links (length links)) place ∙ chain_step links c.self.invariant.back (length links) (head - 1) c.index.result.now there earlier in
    inl (refl, (chain links (length links) c.index.result.now.next, rw (c.self.view_is, same) at begins))

pub invariant_of-self-2 : goal.invariant_of-self-2
invariant_of-self-2 g c =
    let heads = c.self.inside.heads.items in
    let links = c.self.inside.links.items in
    let head = c.index-head.result.now in
    let inside : c.args.next < length heads = omega (arith, ap length c.self.view_is, lists_long links heads, c.requires) in
    let at : slice_get heads c.args.next ≡ Some head = at_place _ _ _ _ inside (sym c.index-head.ensures) in
    let long : c.len.result ≡ length c.push.new.self.items = search rules in
    rw (long, c.in_ok-push.ensures.items) (chained_put links heads c.self.invariant c.args.next c.args.number head at)

pub returns-clause-linked : goal.returns-clause-linked
returns-clause-linked g c =
    let heads = c.self.inside.heads.items in
    let links = c.self.inside.links.items in
    let head = c.index-head.result.now in
    let inside : c.args.next < length heads = omega (arith, ap length c.self.view_is, lists_long links heads, c.requires) in
    let at : slice_get heads c.args.next ≡ Some head = at_place _ _ _ _ inside (sym c.index-head.ensures) in
    let long : c.len.result ≡ length c.push.new.self.items = search rules in
    let low = c.self.invariant.begins c.args.next head at in
    let begins = list_at links heads c.args.next head at in
    let not : ¬ (BeginsWith c.args.number (before_in (lists_at links heads) c.args.next)) = elim c.else-head-gt0.branch as (λ _. ¬ (BeginsWith c.args.number (before_in (lists_at links heads) c.args.next))) [
      | else-head-gt0-via-then-head-gt0+else-index-number w ↦
          let some : 0 < head = search rules in
          let earlier : head - 1 < length links = omega (arith, low, some) in
          let there : slice_get links (head - 1) ≡ Some w.index.result.now = at_place _ _ _ _ earlier (sym w.index.ensures) in
          let place : head ≡ suc (head - 1) = omega (arith, some) in
          let other : ¬ (w.index.result.now.number ≡ c.args.number) = search rules in
          other_first c.args.number w.index.result.now.number _ _ (begins ∙ ap (chain links (length links)) place ∙ chain_step links c.self.invariant.back (length links) (head - 1) w.index.result.now there earlier) other
      | else-head-gt0-via-else-head-gt0 w ↦
          let zero : head ≡ 0 = search rules in
          none_first c.args.number _ (begins ∙ ap (chain links (length links)) zero ∙ chain_none links (length links))
    ] in
    inr (rw (← c.self.view_is, long, c.in_ok-push.ensures.items) (lists_put links heads c.self.invariant c.args.next c.args.number head at, not))

pub index-head-requires : goal.index-head-requires
index-head-requires g c = omega (arith, ap length c.self.view_is, lists_long c.self.inside.links.items c.self.inside.heads.items, c.requires, c.self.inside.heads.ok.0)

pub index_mut-requires : goal.index_mut-requires
index_mut-requires g c = omega (arith, ap length c.self.view_is, lists_long c.self.inside.links.items c.self.inside.heads.items, c.requires, c.self.inside.heads.ok.0)

pub overflow_sub-head : goal.overflow_sub-head
overflow_sub-head g c = omega (arith, c.if-head-gt0.true)

pub index-requires : goal.index-requires
index-requires g c =
    let heads = c.self.inside.heads.items in
    let links = c.self.inside.links in
    let head = c.index-head.result.now in
    let inside : c.args.next < length heads = omega (arith, ap length c.self.view_is, lists_long links.items heads, c.requires) in
    let low = c.self.invariant.begins c.args.next head (at_place _ _ _ _ inside (sym c.index-head.ensures)) in
    omega (arith, low, c.if-head-gt0.true, links.ok.0)

pub invariant_of-self : goal.invariant_of-self
invariant_of-self g c = chained_same _ _ _ _ refl c.in_err-push.ensures.items c.self.invariant

pub returns-then-index-number-clause-refused : goal.returns-then-index-number-clause-refused
returns-then-index-number-clause-refused g c = tt

pub returns-in_err-push : goal.returns-in_err-push
returns-in_err-push g c = record {
  linked = on_refused _ c.from_residual.result _ c.from_residual.ensures.1;
  refused = refused_as _ c.from_residual.result _ c.from_residual.ensures.1 refl;
}

pub returns-clause-refused : goal.returns-clause-refused
returns-clause-refused g c = tt
