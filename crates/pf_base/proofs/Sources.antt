-- What an answer of a function gives when it is drained: the lemma for an answer whose items are known by std's lemmas on chains, and the one source that std has no such lemma for.
use Rattle.std.proofs.Common.{◌≡◌, ℕ, sym, subst, ◌∙◌, true, Option, List}
use Rattle.std.specs.Iterator.{Count, IsFinite, DrainsIf}
use Rattle.std.specs.Iterator.Runs.{Run}
use Rattle.std.specs.Array.Iter.{array_into_iter_items, array_steps}
use Rattle.std.specs.declared.array.IntoIter.{IntoIter}
use Rattle.std.proofs.iter.runs.Made.{took}
use Rattle.std.proofs.lemmas.Iterator.{YieldsList, items_from_drains}
use Rattle.std.proofs.lemmas.Iterator.Consumers.{YieldsList-from_shown}
use Rattle.std.proofs.lemmas.List.{map-id}
use Rattle.pf_base.specs.Answers.{Gives}

-- a run to the end gives the items that the chain is known to give
pub items_from_run : {S A : Type 0} {steps : S → Option A → S → Type 0} {s : S} {ys : List A} → YieldsList steps (λ x. x) s ys → (p : Run steps) → p.from ≡ s → p.whole ≡ true → p.items ≡ ys
items_from_run {S} {A} {steps} {s} {ys} h p o u =
    let d = took p in
    let e : DrainsIf steps (Unit {0}) s p.items = subst (λ z. DrainsIf steps (Unit {0}) z p.items) o (d.0, d.1, λ _. d.2 u) in
    sym (map-id p.items) ∙ items_from_drains p.items e h

-- an answer gives ys where the iterator that is made of it is a chain that gives ys
pub gives_chain : {I S A : Type 0} {becomes : I → S → Type 0} {can : S → Type 0} {left : S → Count} {steps : S → Option A → S → Type 0} {r : I} {ys : List A}
    → ((it : S) → becomes r it → can it × IsFinite (left it) × YieldsList steps (λ x. x) it ys) → Gives becomes can left steps (λ xs. xs ≡ ys) r
gives_chain chain = record { can_next = λ it b. (chain it b).0; finite = λ it b. (chain it b).1; items = λ it b p g o u. items_from_run (chain it b).2 p o u }

-- an array gives its items in order
pub YieldsList-from_array : {A : Type 0} {n : ℕ} {s : IntoIter A n} (xs : List A) → array_into_iter_items s ≡ xs → YieldsList array_steps (λ x. x) s xs
YieldsList-from_array {A} {n} {s} xs e = subst (λ l. YieldsList array_steps (λ x. x) s l) e (YieldsList-from_shown array_steps (λ x. x) array_into_iter_items (λ s t h. h.0) (λ s x t h. h) s)
