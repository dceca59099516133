use Rattle.std.proofs.Common.{rules, ◌≡◌, ◌<◌, ◌+◌, ℕ, zero, suc, List, [], ◌∷◌, ◌++◌, take, take_all, length, get_or, refl, sym, ap, ◌∙◌, subst, arith, length-append, Bor}
use Rattle.std.proofs.lemmas.List.{take_more, length-map}
use Rattle.pf_routes.specs.Internal.Links.{bytes_of}
use Rattle.pf_routes.specs.Internal.NameTable.{name_in}
use Rattle.pf_routes.proofs.Tables.{IsTable, no_rows, row_added}
use Rattle.pf_routes.proofs.routes.name_table.NameTable.of.Goals as goal

row_is : (names : List (Bor (List ℕ))) (i : ℕ) (d : Bor (List ℕ)) → i < length names → get_or (bytes_of names) i [] ≡ (get_or names i d).now
row_is [] i d lt = absurd (omega (arith, lt))
row_is (x ∷ names) zero d lt = refl
row_is (x ∷ names) (suc i) d lt = row_is names i d (omega (arith, lt))

pub names-init : goal.names-init
names-init g c = no_rows _ _ (search rules) (search rules)

pub names-preserved : goal.names-preserved
names-preserved g c =
    let all = bytes_of c.args.names.now in
    let i = c.names.name-index in
    let row : List ℕ = get_or all i [] in
    let lt : i < length all = omega (arith, c.names-test.true, length-map c.args.names.now (λ (k : Bor (List ℕ)). k.now)) in
    let added : c.extend_from_slice.new.self.items ≡ c.names.bytes.items ++ row = c.in_ok-extend_from_slice.ensures.items ∙ ap (λ xs. c.names.bytes.items ++ xs) (ap (λ (b : Bor (List ℕ)). b.now) (c.bytes.ensures ∙ c.name-item.is) ∙ sym (row_is c.args.names.now i c.name-item.result c.names-test.true)) in
    let count : c.len.result ≡ length c.names.bytes.items + length row = omega (arith, c.len.ensures, c.extend_from_slice.new.self.ok.0, ap length added, length-append c.names.bytes.items row) in
    let placed : c.push-in-names.new.self.items ≡ c.names.offsets.items ++ (length c.names.bytes.items + length row) ∷ [] = c.in_ok-push-2.ensures.items ∙ ap (λ n. c.names.offsets.items ++ n ∷ []) count in
    subst (λ os. IsTable os c.extend_from_slice.new.self.items (take (i + 1) all)) (sym placed)
    (subst (λ xs. IsTable (c.names.offsets.items ++ (length c.names.bytes.items + length row) ∷ []) xs (take (i + 1) all)) (sym added)
    (subst (λ rs. IsTable (c.names.offsets.items ++ (length c.names.bytes.items + length row) ∷ []) (c.names.bytes.items ++ row) rs) (sym (take_more all i [] lt))
    (row_added c.names.offsets.items c.names.bytes.items (take i all) c.names.invariant row)))

pub invariant_of-result : goal.invariant_of-result
invariant_of-result g c =
    let all = bytes_of c.args.names.now in
    let t = subst (IsTable c.names.offsets.items c.names.bytes.items) (take_all c.names.name-index all (omega (arith, c.names-test.false, length-map c.args.names.now (λ (k : Bor (List ℕ)). k.now)))) c.names.invariant in
    record {
      some = omega (arith, t.len, c.names.offsets.ok.0);
      within = λ n lt. omega (arith, t.within n (omega (arith, lt, c.names.offsets.ok.0)), c.names.bytes.ok.0);
      ordered = λ n lt. t.ordered n (omega (arith, lt, t.len, c.names.offsets.ok.0));
    }

pub returns : goal.returns
unfolding name_in
returns g c =
    let all = bytes_of c.args.names.now in
    let t = subst (IsTable c.names.offsets.items c.names.bytes.items) (take_all c.names.name-index all (omega (arith, c.names-test.false, length-map c.args.names.now (λ (k : Bor (List ℕ)). k.now)))) c.names.invariant in
    let count = length-map c.args.names.now (λ (k : Bor (List ℕ)). k.now) in
    record {
      count = omega (arith, t.len, count, c.names.offsets.ok.0);
      same = λ n lt. t.same n (omega (arith, lt, count));
    }
