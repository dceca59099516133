use Rattle.std.proofs.Common.{ℕ, ◌<◌, ◌≤◌, ◌^◌, List, length, ap, arith, le_refl, Vec}
use Rattle.std.specs.Prelude.{Result, Ok, Err, IfOk}
use Rattle.pf_routes.specs.EdgeText.{Edge}
use Rattle.pf_routes.specs.AnswerText.{AreAllPathLines, AreCheapestPathLines}
use Rattle.pf_routes.specs.Internal.Parsed.{HoldsOfEdges}
use Rattle.pf_routes.proofs.PathText.{long_text}
use Rattle.pf_routes.proofs.routes.ranked.all_lines.Goals as goal

-- where fewer are listed than were asked for, all are
all_of_fewer : (edges : List Edge) (from to : List ℕ) (count : ℕ) (text : List ℕ) → length text < count → AreCheapestPathLines edges from to count text → AreAllPathLines edges from to text
all_of_fewer edges from to count text fewer p =
    let h = p.cheapest in
    record {
      paths = p.paths;
      cheapest = record { clean = h.clean; costs = h.costs; once = h.once; ordered = h.ordered; none_cheaper = h.none_cheaper; most = le_refl (length p.paths); complete = λ less. absurd (omega (arith, less)) };
      all = h.complete (omega (arith, fewer, long_text p.paths, ap length p.written));
      written = p.written;
    }

-- a text in memory has fewer bytes than this
all_in_memory : {A E : Type 0} (from to : List ℕ) (count : ℕ) (text : List ℕ) (r : Result (Vec ℕ A) E) → 2 ^ 63 ≤ count
    → IfOk r (λ lines. HoldsOfEdges text (λ edges. AreCheapestPathLines edges from to count lines.items)) → IfOk r (λ lines. HoldsOfEdges text (λ edges. AreAllPathLines edges from to lines.items))
all_in_memory from to count text (Ok lines) many h = (h.0, h.1, all_of_fewer h.0 from to count lines.items (omega (arith, many, lines.ok.0, lines.ok.1, lines.small)) h.2)
all_in_memory from to count text (Err e) many h = h

pub returns-clause-ok : goal.returns-clause-ok
returns-clause-ok g c = all_in_memory c.args.from.now c.args.to.now _ c.args.text.items c.ranked_lines.result (omega arith) c.ranked_lines.ensures.ok
