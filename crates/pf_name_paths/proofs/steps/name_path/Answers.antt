use Rattle.std.proofs.Common.{◌≡◌, ◌∙◌, Ok, ap, inl, refl, subst, sym}
use Rattle.std.specs.Prelude.{Some}
use Rattle.pf_name_paths.specs.PathWalks.{IsNamed, taken_path}
use Rattle.pf_name_paths.proofs.steps.name_path.Goals as goal

pub returns-in-Ok : goal.returns-in-Ok
returns-in-Ok g c =
    let w = taken_path c.args.waiting.now in
    let path = c.in-Some-Ok.path in
    let e : c.args.path ≡ Some (Ok path) = c.in-Some-Ok.is ∙ ap (λ x. Some x) c.in-Some-Ok.field-0-is in
    subst (λ p. IsNamed g.N.PartialEq.eq c.args.list.now c.args.other.now p w w (Some (Ok (c.in-Ok.names, path.1)))) (sym e) (inl (c.in-Ok.names, refl, rw c.deref.ensures.value at c.in-Ok.ensures.names, refl))
