-- Calls of a function at one argument after another. The lemmas on a function that a call leaves as it was are for callers of `from_fn` and `map`.
use Rattle.std.proofs.Common.{◌≡◌, ℕ, zero, suc, ◌+◌, ◌*◌, ◌/◌, ◌%◌, ◌<◌, refl, sym, ap, ◌∙◌, subst, arith, List, [], ◌∷◌, length, length-append, get_or}
use Rattle.std.specs.List.{All, AllZip, FoldsTo}
use Rattle.std.proofs.lemmas.List.{get_or_at}
use Rattle.std.proofs.lemmas.Nat.{div_below, mod_below, mul-add-lt}
use Rattle.pf_matrix.specs.Calls.{CallableInTurn, GivesEach, GivesInTurn}
use Rattle.pf_matrix.specs.Positions.{positions}
use Rattle.pf_matrix.proofs.PositionLemmas.{length-positions, get_or-positions, position_at, wide_at}

left_by : {F X Y : Type 0} (step : F → X → Y → F → Type 0) (f : F) → ((x : X) (y : Y) (g : F) → step f x y g → g ≡ f) → (g : F) (xs : List X) → FoldsTo (λ p z q. (y : Y) × step p z y q) f xs g → g ≡ f
left_by step f leaves g [] run = sym run
left_by {Y = Y} step f leaves g (x ∷ xs) run =
    left_by step f leaves g xs (subst (λ p. FoldsTo (λ p z q. (y : Y) × step p z y q) p xs g) (leaves x run.1.0 run.0 run.1.1) run.2)

module _ {F X Y : Type 0} {pre : F → X → Type 0} {step : F → X → Y → F → Type 0} where
  -- the first call
  pub callable_first : (f : F) (x : X) (xs : List X) → CallableInTurn pre step f (x ∷ xs) → pre f x
  callable_first f x xs c = c.at [] xs x f refl refl

  -- the calls after it
  pub callable_rest : (f g : F) (x : X) (y : Y) (xs : List X) → step f x y g → CallableInTurn pre step f (x ∷ xs) → CallableInTurn pre step g xs
  callable_rest f g x y xs s c = record { at = λ before after z h e run. c.at (x ∷ before) after z h (ap (λ zs. x ∷ zs) e) (g, (y, s), run) }

  -- a function that a call leaves as it was may be called at each of these in turn, if at each alone
  pub callable_at_each : (f : F) (xs : List X) → ((x : X) (y : Y) (g : F) → step f x y g → g ≡ f) → All (pre f) xs → CallableInTurn pre step f xs
  callable_at_each f xs leaves all = record {
    at = λ before after x g e run.
        let inside : length before < length xs = omega (arith, ap length e, length-append before (x ∷ after)) in
        let read : get_or xs (length before) x ≡ x = ap (λ zs. get_or zs (length before) x) e ∙ get_or_at before x after x (length before) refl in
        subst (λ p. pre p x) (sym (left_by step f leaves g before run)) (subst (pre f) read (all (length before) x inside));
  }

-- and at the positions of a table, if at each position inside
pub callable_at_positions : {F Y : Type 0} {pre : F → ℕ × ℕ → Type 0} {step : F → ℕ × ℕ → Y → F → Type 0} (f : F) (rows columns : ℕ)
    → ((p : ℕ × ℕ) (y : Y) (g : F) → step f p y g → g ≡ f) → ((r c : ℕ) → r < rows → c < columns → pre f (r, c)) → CallableInTurn pre step f (positions rows columns)
callable_at_positions {pre = pre} f rows columns leaves may = callable_at_each f (positions rows columns) leaves
    (λ k d h.
    let below : k < rows * columns = omega (arith, length-positions rows columns) in
    let wide = wide_at rows columns k below in
    subst (pre f) (sym (position_at rows columns k d below)) (may (k / columns) (k % columns) (div_below k columns rows wide below) (mod_below k columns wide)))

gives_each : {F X Y : Type 0} (step : F → X → Y → F → Type 0) (P : X → Y → Type 0) (f : F) (xs : List X) (ys : List Y)
    → ((x : X) (y : Y) (g : F) → step f x y g → (g ≡ f) × P x y) → GivesEach step f xs ys → AllZip P xs ys
gives_each step P f [] [] each given = tt
gives_each step P f [] (y ∷ ys) each given = absurd given
gives_each step P f (x ∷ xs) [] each given = absurd given
gives_each step P f (x ∷ xs) (y ∷ ys) each given =
    let e = each x y given.0 given.1 in (e.1, gives_each step P f xs ys each (subst (λ p. GivesEach step p xs ys) e.0 given.2))

AllZip-at : {X Y : Type 0} (P : X → Y → Type 0) (xs : List X) (ys : List Y) (k : ℕ) (d : X) (e : Y) → AllZip P xs ys → k < length xs → P (get_or xs k d) (get_or ys k e)
AllZip-at P [] ys k d e all h = absurd (omega arith)
AllZip-at P (x ∷ xs) [] k d e all h = absurd all
AllZip-at P (x ∷ xs) (y ∷ ys) zero d e all h = all.0
AllZip-at P (x ∷ xs) (y ∷ ys) (suc k) d e all h = AllZip-at P xs ys k d e all.1 (omega arith)

-- what the calls gave, where each leaves the function as it was and gives what P says
pub given_at_each : {F X Y : Type 0} {step : F → X → Y → F → Type 0} {f : F} {xs : List X} {ys : List Y} (P : X → Y → Type 0)
    → GivesInTurn step f xs ys → ((x : X) (y : Y) (g : F) → step f x y g → (g ≡ f) × P x y) → AllZip P xs ys
given_at_each {step = step} {f = f} {xs = xs} {ys = ys} P given each = gives_each step P f xs ys each given.each

-- and at each position of a table
pub given_at_positions : {F Y : Type 0} {step : F → ℕ × ℕ → Y → F → Type 0} {f : F} {rows columns : ℕ} {ys : List Y} (P : ℕ × ℕ → Y → Type 0)
    → GivesInTurn step f (positions rows columns) ys → ((p : ℕ × ℕ) (y : Y) (g : F) → step f p y g → (g ≡ f) × P p y)
    → (r c : ℕ) (d : Y) → r < rows → c < columns → P (r, c) (get_or ys (r * columns + c) d)
given_at_positions {rows = rows} {columns = columns} {ys = ys} P given each r c d h k =
    subst (λ p. P p (get_or ys (r * columns + c) d)) (get_or-positions rows columns r c (r, c) h k)
    (AllZip-at P (positions rows columns) ys (r * columns + c) (r, c) d (given_at_each P given each) (omega (arith, length-positions rows columns, mul-add-lt r columns c rows h k)))
