use Rattle.std.proofs.Common.{◌≡◌, ℕ, ◌<◌, List, [], ◌∷◌, ◌++◌, ◌∙◌, sym, ap, subst}
use Rattle.std.specs.Prelude.{All}
use Rattle.std.specs.List.{flat_map}
use Rattle.std.proofs.lemmas.List.{append_assoc, append-nil}
use Rattle.std.proofs.lemmas.Grind.{flat_map-append}
use Rattle.pf_routes.specs.Internal.NameTable.{table_len}
use Rattle.pf_routes.specs.Internal.NumberedLines.{numbered_line}
use Rattle.pf_routes.specs.declared.routes.name_table.NameTable.{NameTable}
use Rattle.pf_routes.proofs.SpanningLemmas.{all_between}
use Rattle.pf_routes.proofs.routes.edge_lines.write_edges.Goals as goal

abbrev InTable : {A : Type 0} → NameTable A → ℕ × ℕ × ℕ → Type 0
InTable table e = (e.0 < table_len table) × (e.1 < table_len table)

-- a block with the edge that was taken out behind it
with_edge : {X : Type 0} (done block all rest left : List X) (e : X) → rest ≡ e ∷ left → done ++ block ++ rest ≡ all → done ++ (block ++ e ∷ []) ++ left ≡ all
with_edge done block all rest left e steps h = ap (λ xs. xs ++ left) (sym (append_assoc done block (e ∷ []))) ∙ append_assoc (done ++ block) (e ∷ []) left ∙ ap (λ xs. done ++ block ++ xs) (sym steps) ∙ h

pub push_lines-requires : goal.push_lines-requires
push_lines-requires g c =
    let i = c.loop-edge.invariant in
    let whole = with_edge i.done c.loop-edge.block.items c.args.chosen c.loop-edge.edge-iterator c.next.new.self c.in-Some.edge c.in-Some.ensures.steps i.all in
    subst (All (InTable c.args.names.now)) (sym (c.deref.ensures.value ∙ c.in_ok-push.ensures.items))
    (all_between (InTable c.args.names.now) i.done (c.loop-edge.block.items ++ c.in-Some.edge ∷ []) c.next.new.self (subst (All (InTable c.args.names.now)) (sym whole) c.requires))

pub loop-edge-preserved-then-len-eq-BLOCK : goal.loop-edge-preserved-then-len-eq-BLOCK
loop-edge-preserved-then-len-eq-BLOCK g c =
    let i = c.loop-edge.invariant in
    let line = numbered_line c.args.names.now in
    let block = c.loop-edge.block.items ++ c.in-Some.edge ∷ [] in
    let whole = with_edge i.done c.loop-edge.block.items c.args.chosen c.loop-edge.edge-iterator c.next.new.self c.in-Some.edge c.in-Some.ensures.steps i.all in
    record {
      done = i.done ++ block;
      all = ap (λ xs. (i.done ++ block) ++ xs ++ c.next.new.self) c.clear.ensures.items ∙ ap (λ xs. xs ++ c.next.new.self) (append-nil (i.done ++ block)) ∙ whole;
      lines = c.in_ok-push_lines.ensures ∙ ap (λ es. c.loop-edge.lines.items ++ flat_map line es) (c.deref.ensures.value ∙ c.in_ok-push.ensures.items)
          ∙ ap (λ ls. ls ++ flat_map line block) i.lines ∙ sym (flat_map-append line i.done block);
    }

pub push_lines-requires-2 : goal.push_lines-requires-2
push_lines-requires-2 g c =
    let i = c.loop-edge.invariant in
    subst (All (InTable c.args.names.now)) (sym c.deref-2.ensures.value)
    (all_between (InTable c.args.names.now) i.done c.loop-edge.block.items c.loop-edge.edge-iterator (subst (All (InTable c.args.names.now)) (sym i.all) c.requires))
