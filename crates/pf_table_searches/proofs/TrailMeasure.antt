-- How much is left of a search up to a number of edges: it falls with every step.
use Rattle.std.proofs.Common.{◌≡◌, ℕ, zero, suc, ◌+◌, ◌-◌, ◌*◌, ◌<◌, ◌≤◌, List, [], ◌∷◌, ◌++◌, length, length-append, arith, ap, ◌∙◌}
use Rattle.std.proofs.Math.Nat.{suc-mul}
use Rattle.std.proofs.lemmas.Nat.{mul-le}

-- more than what is left at the nodes that lie beyond one edge, with so many edges up to the limit behind it, where no place is above `most`
room : ℕ → ℕ → ℕ
room most zero = 1
room most (suc edges) = 2 + most * room most edges

-- what is left at a node from a place on
left_at : ℕ → ℕ → ℕ → ℕ
left_at most edges place = 1 + (most - place) * room most edges

-- what is left at the entries of a path, where the first has so many edges up to the limit
left_along : ℕ → ℕ → List (ℕ × ℕ) → ℕ
left_along most edges [] = 0
left_along most edges (e ∷ es) = left_at most edges e.1 + left_along most (edges - 1) es

-- what is left at the entries, and at the node above them from a place on
pub left_to : ℕ → ℕ → List (ℕ × ℕ) → ℕ → ℕ
left_to most limit below place = left_along most limit below + left_at most (limit - length below) place

room_above : (most edges : ℕ) → 1 ≤ room most edges
unfolding room
room_above most zero = omega arith
room_above most (suc edges) = omega arith

one_less : (x y r : ℕ) → x < y → x * r + r ≤ y * r
one_less x y r h = omega (arith, mul-le (suc x) r y r (omega (arith, h)) (omega arith), suc-mul x r)

-- a later place leaves less, by what one edge may lead to
moves : (most edges place after : ℕ) → place < after → after ≤ most → left_at most edges after + room most edges ≤ left_at most edges place
unfolding left_at
moves most edges place after l h =
    let less = one_less (most - after) (most - place) (room most edges) (omega (arith, l, h)) in
    omega (arith, less)

enters : (most edges : ℕ) → left_at most edges 0 < room most (suc edges)
unfolding left_at room
enters most edges = let none : most - 0 ≡ most = omega arith in let same : (most - 0) * room most edges ≡ most * room most edges = ap (λ n. n * room most edges) none in omega (arith, same)

along_more : (most limit : ℕ) (xs : List (ℕ × ℕ)) (e : ℕ × ℕ) → left_along most limit (xs ++ e ∷ []) ≡ left_along most limit xs + left_at most (limit - length xs) e.1
unfolding left_along
along_more most limit [] e =
    let same : left_at most limit e.1 ≡ left_at most (limit - 0) e.1 = ap (λ n. left_at most n e.1) (omega arith) in
    omega (arith, same)
along_more most limit (x ∷ xs) e =
    let less : limit - 1 - length xs ≡ limit - length (x ∷ xs) = omega arith in
    let same : left_at most (limit - 1 - length xs) e.1 ≡ left_at most (limit - length (x ∷ xs)) e.1 = ap (λ n. left_at most n e.1) less in
    omega (arith, same, along_more most (limit - 1) xs e)

module _ (most limit : ℕ) (below : List (ℕ × ℕ)) (place : ℕ) where
  pub left_moves : (after : ℕ) → place < after → after ≤ most → left_to most limit below after < left_to most limit below place
  unfolding left_to
  left_moves after l h = omega (arith, moves most (limit - length below) place after l h, room_above most (limit - length below))

  pub left_enters : (after node : ℕ) (pushed : List (ℕ × ℕ)) → place < after → after ≤ most → length below + 1 < limit → pushed ≡ below ++ (node, after) ∷ [] → left_to most limit pushed 0 < left_to most limit below place
  unfolding left_to
  left_enters after node pushed l h s e =
      let long : length pushed ≡ length below + 1 = ap length e ∙ length-append below ((node, after) ∷ []) in
      let along : left_along most limit pushed ≡ left_along most limit below + left_at most (limit - length below) after = ap (left_along most limit) e ∙ along_more most limit below (node, after) in
      let edges : limit - length below ≡ suc (limit - length pushed) = omega (arith, long, s) in
      let wide : room most (limit - length below) ≡ room most (suc (limit - length pushed)) = ap (room most) edges in
      omega (arith, along, wide, moves most (limit - length below) place after l h, enters most (limit - length pushed))

  pub left_leaves : (rest : List (ℕ × ℕ)) (e : ℕ × ℕ) → below ≡ rest ++ e ∷ [] → left_to most limit rest e.1 < left_to most limit below place
  unfolding left_to left_at
  left_leaves rest e same =
      let along : left_along most limit below ≡ left_along most limit rest + left_at most (limit - length rest) e.1 = ap (left_along most limit) same ∙ along_more most limit rest e in
      omega (arith, along)
