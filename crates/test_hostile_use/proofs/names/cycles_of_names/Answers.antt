use Rattle.std.proofs.Common.{rules, ◌≡◌, ap, sym, subst, Bool, true}
use Rattle.std.specs.Prelude.{if◌then◌else◌}
use Rattle.test_hostile_use.proofs.names.cycles_of_names.Goals as goal

-- the value after x
abbrev turned : {T : Type 0} → (T → T → Bool) → T → T → T → T
turned eq second third x = if eq x second then third else second

pub cycles_by-requires-clause-steps : goal.cycles_by-requires-clause-steps
cycles_by-requires-clause-steps g c =
    let eq = g.T.PartialEq.eq in
    let laws = g.met.T.Eq.laws in
    let next = turned eq c.args.second c.args.third in (
      next,
      record {
        alike = λ x y w e. subst (λ z. eq (next x) z ≡ true) (ap (λ (b : Bool). if b then c.args.third else c.args.second) (laws.congr x y c.args.second e)) (laws.refl (next x));
        callable = λ x w. search rules;
        answers = λ x r w p. let is : r ≡ next x = search rules in subst (λ z. eq (next x) z ≡ true) (sym is) (laws.refl (next x));
      },
    )
