use Rattle.std.proofs.Common.{◌≡◌, ◌∙◌, ℕ, true, false, Some, slice_get, sym, subst}
use Rattle.std.specs.Prelude.{slice_set}
use Rattle.std.proofs.lemmas.Option.{slice_get_within}
use Rattle.pf_deepening.proofs.Writes.{set_here, set_other}
use Rattle.pf_deepening.proofs.marks.unmark.Goals as goal

apart : Some false ≡ Some true → ⊥
apart e = cc

pub returns : goal.returns
returns g c = λ k.
    let marks = c.args.marks.now.items in
    let number = c.args.number in
    let inside = slice_get_within marks number true c.requires in (
      λ h.
          let ne : ¬ (k ≡ number) = λ e. apart (sym (set_here marks number false inside) ∙ subst (λ (n : ℕ). slice_get (slice_set marks number false) n ≡ Some true) e h) in
          (sym (set_other marks number k false inside ne) ∙ h, ne),
      λ h. set_other marks number k false inside h.1 ∙ h.0,
    )
