use Rattle.std.proofs.Common.{ℕ, zero, suc, ◌+◌, ◌-◌, ◌≡◌, nat_eq, nat_lt, Bool, true, false, ◌||◌, ◌&&◌, List, ◌++◌, Option, arith, length, take, drop, refl, subst, sym, ap, ◌∙◌, take-add, length-take, length-drop, take_all}
use Rattle.std.specs.Io.KnownBytes.{Appends}
use Rattle.std.proofs.KnownBytes.{Appends-nil, Appends-trans}
use Rattle.std.proofs.Math.Dec.{eqb-suc-zero}
use Rattle.std.proofs.lemmas.List.{take_rest}
use Rattle.pf_route_io.proofs.writing.write_whole.Goals as goal

-- what stood before `at`, and then n bytes of the rest
written_more : (a b c : Option (List ℕ)) (bytes : List ℕ) (at n : ℕ) → Appends a b (take at bytes)
    → Appends b c (take n (take (length bytes - at) (drop at bytes))) → Appends a c (take (at + n) bytes)
written_more a b c bytes at n before now =
    subst (Appends a c) (ap (λ l. take at bytes ++ take n l) (take_rest bytes at) ∙ sym (take-add at n bytes)) (Appends-trans a b c _ _ before now)

-- a write that takes some bytes is no failure
took_some : (count len : ℕ) (new old before : Bool) → new ≡ (old || (nat_eq count 0 && nat_lt 0 len)) → (count ≡ 0 → ⊥) → old ≡ before → new ≡ before
took_some zero len new old before e n h = absurd (n refl)
took_some (suc k) len new true before e n h = e ∙ h
took_some (suc k) len new false before e n h = e ∙ ap (λ b. false || b && nat_lt 0 len) (eqb-suc-zero k) ∙ h

pub loop-at-preserved : goal.loop-at-preserved
loop-at-preserved g c = record {
  within = omega (arith, length-take {A = ℕ}, length-drop {A = ℕ}, c.in-Ok.ensures.bound);
  written = written_more _ _ _ c.args.bytes.now c.loop-at.at c.in-Ok.count c.loop-at.invariant.written c.in-Ok.ensures.bytes;
  unfailed = took_some c.in-Ok.count _ _ _ _ c.in-Ok.ensures.noted c.in-Ok.count-test.1 c.loop-at.invariant.unfailed;
}

pub returns-clause-ok : goal.returns-clause-ok
returns-clause-ok g c = subst (Appends _ _) (take_all c.loop-at.at c.args.bytes.now c.loop-at-test.false) c.loop-at.invariant.written

pub returns-clause-errors : goal.returns-clause-errors
returns-clause-errors g c = tt

pub loop-at-init : goal.loop-at-init
loop-at-init g c = record { within = omega arith; written = Appends-nil (g.O.Sink.held c.args.output.now); unfailed = refl }

pub slice_bounds-write_some-count : goal.slice_bounds-write_some-count
slice_bounds-write_some-count g c = c.loop-at.invariant.within

pub overflow_add-at : goal.overflow_add-at
overflow_add-at g c = omega (arith, length-take {A = ℕ}, length-drop {A = ℕ}, c.in-Ok.ensures.bound, c.loop-at-test.true)

pub loop-at-smaller : goal.loop-at-smaller
loop-at-smaller g c = omega (arith, length-take {A = ℕ}, length-drop {A = ℕ}, c.in-Ok.ensures.bound, c.in-Ok.count-test, c.loop-at-test.true)

pub returns-clause-unfailed : goal.returns-clause-unfailed
returns-clause-unfailed g c = c.loop-at.invariant.unfailed
