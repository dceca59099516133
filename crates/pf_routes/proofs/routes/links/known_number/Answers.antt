use Rattle.std.proofs.Common.{◌≡◌, ◌∙◌, ℕ, Option, Some, None, sym, get_or, Bor, List}
use Rattle.std.proofs.lemmas.List.Quantifiers.{position-Some}
use Rattle.std.proofs.lemmas.Option.{slice_get-get_or}
use Rattle.std.proofs.lemmas.Slice.Eq.{bytes_eq-Decides}
use Rattle.std.specs.Prelude.{position}
use Rattle.std.specs.Str.{bytes_eq}
use Rattle.pf_routes.specs.Internal.Links.{IsNumberOf}
use Rattle.pf_routes.proofs.Numbering.{name_at-key}
use Rattle.pf_routes.proofs.routes.links.known_number.Goals as goal

found : (keys : List (Bor (List ℕ))) (name : Bor (List ℕ)) (o : Option ℕ) → o ≡ position (λ (k : Bor (List ℕ)). bytes_eq name.now k.now) keys → IsNumberOf keys name.now o
found keys name None e = tt
found keys name (Some n) e =
    let p = position-Some (λ (k : Bor (List ℕ)). bytes_eq name.now k.now) keys n name (sym e) in
    (p.0, name_at-key keys n (get_or keys n name) (slice_get-get_or keys n name p.0) ∙ sym ((bytes_eq-Decides name.now (get_or keys n name).now).0 p.1))

pub returns : goal.returns
returns g c = found c.args.names.now.keys c.args.name.now c.get_index_of.result c.get_index_of.ensures.index
