-- What follows for one who calls functions that answer a graph or a test.
use Rattle.std.proofs.Common.{Option, true, List, [], ◌∷◌, length, refl, Bor}
use Rattle.std.specs.Iterator.{Count, Drains, IsFiniteIterable}
use Rattle.std.specs.Fn.{Called, Mut}
use Rattle.std.proofs.iter.runs.Made.{run, to_end, seen}
use Rattle.pf_base.specs.Answers.{Gives, Answers}

module _ {F N R : Type 0} (g : Mut F (Bor N × Unit {0}) R) (within : N → Type 0) (gives : N → R → Type 0) where
  pub Answers-takes : {f : F} → Answers g within gives f → (x : Bor N) → within x.now → g.pre f (x, tt)
  Answers-takes h x w = (h.at (x ∷ []) w).0

  pub Answers-gives : {f : F} → Answers g within gives f → (x : Bor N) → within x.now → (r : R) (f' : F) → Called g f (x, tt) r f' → gives x.now r
  Answers-gives h x w r f' k = ((h.at (x ∷ []) w).1 r f' k).0

  pub Answers-on : {f : F} → Answers g within gives f → (x : Bor N) → within x.now → (r : R) (f' : F) → Called g f (x, tt) r f' → Answers g within gives f'
  Answers-on h x w r f' k = record { at = λ xs. ((h.at (x ∷ xs) w).1 r f' k).1 }

-- what is drained from an answer is what it gives
pub Gives-drains : {I S A : Type 0} (becomes : I → S → Type 0) (can : S → Type 0) (left : S → Count) (steps : S → Option A → S → Type 0) (P : List A → Type 0) (r : I) → Gives becomes can left steps P r
    → (it : S) (xs : List A) → becomes r it → Drains steps it xs → P xs
Gives-drains becomes can left steps P r g it xs b d = g.items it b (run steps it xs true (to_end steps it xs d)) (seen (length xs)) refl refl

pub Gives-ends : {I S A : Type 0} (becomes : I → S → Type 0) (can : S → Type 0) (left : S → Count) (steps : S → Option A → S → Type 0) (P : List A → Type 0) (r : I) → Gives becomes can left steps P r → IsFiniteIterable becomes can left r
Gives-ends becomes can left steps P r g it b = (g.can_next it b, g.finite it b)
