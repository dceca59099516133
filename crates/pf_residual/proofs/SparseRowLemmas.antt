-- One row of edges.
use Rattle.std.proofs.Common.{◌≡◌, ◌≢◌, ◌∙◌, refl, sym, ap, subst, ◌<◌, ◌≤◌, ◌+ℤ◌, ℕ, ℤ, zero, suc, pos, arith, Bool, true, false, true≢false, List, [], ◌∷◌, length, nat_eq, if◌then◌else◌, eq-eqb}
use Rattle.std.proofs.Math.Dec.{ltb}
use Rattle.std.proofs.Math.Seq.{map-set_same}
use Rattle.std.specs.Prelude.{◌-◌, Some, slice_get, slice_index_or, slice_set}
use Rattle.std.specs.List.{insert, remove}
use Rattle.std.proofs.lemmas.Option.{get_or_from_slice_get}
use borrow.Author.Tests.{eqb-true, eqb-false, ne_eqb, lt-ltb, le-ltb, ltb-true, ltb-false}
use Rattle.pf_residual.specs.SparseRows.{ends, has_end, amount_to}
use Rattle.pf_residual.specs.Internal.RowChanges.{Rises, place_of, IsRowChanged, with_edge, without_edge, end_after, AreBelow}
use Rattle.pf_residual.specs.Internal.SparseLaws.{amount_none}
use Rattle.pf_residual.specs.declared.sparse_row.Edge.{Edge}

-- each end is at least the lowest
pub above : {C : Type 0} → (low : ℕ) (row : List (Edge C)) (i : ℕ) (d : Edge C) → Rises low (ends row) → i < length row → low ≤ (slice_index_or row i d).to
above low [] i d r l = absurd (omega (arith, l))
above low (e ∷ es) zero d r l = r.0
above low (e ∷ es) (suc i) d r l =
    let h = above (suc e.to) es i d r.1 (omega (arith, l)) in
    omega (arith, h, r.0)

less_of : (i j : ℕ) → i ≤ j → i ≢ j → i < j
less_of i j l apart = omega (arith, l, apart)

-- the ends rise strictly
pub rising : {C : Type 0} → (low : ℕ) (row : List (Edge C)) (i j : ℕ) (d : Edge C) → Rises low (ends row) → i < j → j < length row → (slice_index_or row i d).to < (slice_index_or row j d).to
rising low [] i j d r l m = absurd (omega (arith, m))
rising low (e ∷ es) zero zero d r l m = absurd (omega (arith, l))
rising low (e ∷ es) zero (suc j) d r l m =
    let h = above (suc e.to) es j d r.1 (omega (arith, m)) in
    omega (arith, h)
rising low (e ∷ es) (suc i) zero d r l m = absurd (omega (arith, l))
rising low (e ∷ es) (suc i) (suc j) d r l m = rising (suc e.to) es i j d r.1 (omega (arith, l)) (omega (arith, m))

-- an end does not stand before a lower one
pub rising_or_same : {C : Type 0} → (low : ℕ) (row : List (Edge C)) (i j : ℕ) (d : Edge C) → Rises low (ends row) → i ≤ j → j < length row → (slice_index_or row i d).to ≤ (slice_index_or row j d).to
rising_or_same low row i j d r l m = same_or_less (nat_eq i j) refl
  where
    same_or_less : (t : Bool) → nat_eq i j ≡ t → (slice_index_or row i d).to ≤ (slice_index_or row j d).to
    same_or_less true e = let same = eqb-true i j e in let h : (slice_index_or row i d).to ≡ (slice_index_or row j d).to = ap (λ k. (slice_index_or row k d).to) same in omega (arith, h)
    same_or_less false e = let apart = eqb-false i j e in let less : i < j = less_of i j l apart in let h = rising low row i j d r less m in omega (arith, h)

-- a place between what is below b and what is not is the place of b
pub place_is : {C : Type 0} → (row : List (Edge C)) (b p : ℕ) → p ≤ length row
    → ((k : ℕ) (d : Edge C) → k < p → (slice_index_or row k d).to < b)
    → ((k : ℕ) (d : Edge C) → p ≤ k → k < length row → b ≤ (slice_index_or row k d).to) → p ≡ place_of (ends row) b
place_is [] b p l below from = omega (arith, l)
place_is (e ∷ es) b zero l below from = rw (le-ltb e.to b (from 0 e (omega arith) (omega arith))) refl
place_is (e ∷ es) b (suc p) l below from =
    let rest = place_is es b p (omega (arith, l)) (λ k d m. below (suc k) d (omega (arith, m))) (λ k d m n. from (suc k) d (omega (arith, m)) (omega (arith, n))) in
    rw (lt-ltb e.to b (below 0 e (omega arith))) (ap (λ n. suc n) rest)

-- an edge that leads to b stands at the place of b
pub stands : {C : Type 0} → (low : ℕ) (row : List (Edge C)) (b p : ℕ) (d : Edge C) → Rises low (ends row) → p < length row → (slice_index_or row p d).to ≡ b → p ≡ place_of (ends row) b
stands low [] b p d r l e = absurd (omega (arith, l))
stands low (x ∷ xs) b zero d r l e = rw (le-ltb x.to b (omega (arith, e))) refl
stands low (x ∷ xs) b (suc p) d r l e =
    let m : p < length xs = omega (arith, l) in
    let h = above (suc x.to) xs p d r.1 m in
    rw (lt-ltb x.to b (omega (arith, h, e))) (ap (λ n. suc n) (stands (suc x.to) xs b p d r.1 m e))

-- where the last end is below b, the place of b is behind all
pub past_last : {C : Type 0} → (row : List (Edge C)) (b : ℕ) (last : Edge C) → Rises 0 (ends row) → slice_get row (length row - 1) ≡ Some last → last.to < b → length row ≡ place_of (ends row) b
past_last row b last r at less = place_is row b (length row) (omega arith) below (λ k d l m. absurd (omega (arith, l, m)))
  where
    below : (k : ℕ) (d : Edge _) → k < length row → (slice_index_or row k d).to < b
    below k d l =
        let h = rising_or_same 0 row k (length row - 1) d r (omega (arith, l)) (omega (arith, l)) in
        let e : (slice_index_or row (length row - 1) d).to ≡ last.to = ap (λ (x : Edge _). x.to) (get_or_from_slice_get row (length row - 1) last d at) in
        omega (arith, h, e, less)

-- where the last end is b, the place of b is the last
pub at_last : {C : Type 0} → (row : List (Edge C)) (b : ℕ) (last : Edge C) → Rises 0 (ends row) → slice_get row (length row - 1) ≡ Some last → last.to ≡ b → length row - 1 ≡ place_of (ends row) b
at_last row b last r at same = place_is row b (length row - 1) (omega arith) below from
  where
    end_at : (d : Edge _) → (slice_index_or row (length row - 1) d).to ≡ b
    end_at d = ap (λ (x : Edge _). x.to) (get_or_from_slice_get row (length row - 1) last d at) ∙ same

    below : (k : ℕ) (d : Edge _) → k < length row - 1 → (slice_index_or row k d).to < b
    below k d l =
        let h = rising 0 row k (length row - 1) d r l (omega (arith, l)) in
        omega (arith, h, end_at d)

    from : (k : ℕ) (d : Edge _) → length row - 1 ≤ k → k < length row → b ≤ (slice_index_or row k d).to
    from k d l m =
        let h = rising_or_same 0 row (length row - 1) k d r l m in
        omega (arith, h, end_at d)

or_true : (t u : Bool) → u ≡ true → (if t then true else u) ≡ true
or_true true u h = refl
or_true false u h = h

-- where the edge at the place of b leads to b, b is an end
pub found : {C : Type 0} → (row : List (Edge C)) (b : ℕ) (p : ℕ) (d : Edge C) → p < length row → (slice_index_or row p d).to ≡ b → has_end (ends row) b ≡ true
found [] b p d l e = absurd (omega (arith, l))
found (x ∷ xs) b zero d l e = rw (eq-eqb x.to b e) refl
found (x ∷ xs) b (suc p) d l e = or_true (nat_eq x.to b) (has_end (ends xs) b) (found xs b p d (omega (arith, l)) e)

-- where no edge leads to b, b is no end
pub missing : {C : Type 0} → (row : List (Edge C)) (b : ℕ) → ((k : ℕ) (d : Edge C) → k < length row → (slice_index_or row k d).to ≢ b) → has_end (ends row) b ≡ false
missing [] b h = refl
missing (x ∷ xs) b h = rw (ne_eqb x.to b (h 0 x (omega arith))) (missing xs b (λ k d l. h (suc k) d (omega (arith, l))))

-- no end is below the lowest
pub has_none : (low : ℕ) (xs : List ℕ) (b : ℕ) → Rises low xs → b < low → has_end xs b ≡ false
has_none low [] b r l = refl
has_none low (x ∷ xs) b r l = rw (ne_eqb x b (λ q. absurd (omega (arith, q, l, r.0)))) (has_none (suc x) xs b r.1 (omega (arith, l, r.0)))

absent_step : {C : Type 0} → (x : Edge C) (xs : List (Edge C)) (b : ℕ) (t : Bool) → ltb x.to b ≡ t → Rises (suc x.to) (ends xs)
    → ((if t then suc (place_of (ends xs) b) else 0) < suc (length xs) → (d : Edge C) × ((slice_index_or (x ∷ xs) (if t then suc (place_of (ends xs) b) else 0) d).to ≢ b))
    → ((place_of (ends xs) b < length xs → (d : Edge C) × ((slice_index_or xs (place_of (ends xs) b) d).to ≢ b)) → has_end (ends xs) b ≡ false)
    → has_end (x.to ∷ ends xs) b ≡ false
absent_step x xs b true e r k rest =
    let less = ltb-true x.to b e in
    rw (ne_eqb x.to b (λ q. absurd (omega (arith, q, less)))) (rest (λ l. k (omega (arith, l))))
absent_step x xs b false e r k rest =
    let more = ltb-false x.to b e in
    let apart = (k (omega arith)).1 in
    rw (ne_eqb x.to b apart) (has_none (suc x.to) (ends xs) b r (omega (arith, more, apart)))

-- where the edge at the place of b does not lead there, b is no end
pub absent : {C : Type 0} → (low : ℕ) (row : List (Edge C)) (b : ℕ) → Rises low (ends row)
    → (place_of (ends row) b < length row → (d : Edge C) × ((slice_index_or row (place_of (ends row) b) d).to ≢ b)) → has_end (ends row) b ≡ false
absent low [] b r h = refl
absent low (x ∷ xs) b r h = absent_step x xs b (ltb x.to b) refl r.1 h (absent (suc x.to) xs b r.1)

-- the number of the edge at p, where that edge leads to b
pub amount_at : {C : Type 0} → (f : Edge C → ℤ) (low : ℕ) (row : List (Edge C)) (b p : ℕ) (d : Edge C) → Rises low (ends row) → p < length row
    → (slice_index_or row p d).to ≡ b → amount_to f row b ≡ f (slice_index_or row p d)
amount_at f low [] b p d r l q = absurd (omega (arith, l))
amount_at f low (x ∷ xs) b zero d r l q = rw (eq-eqb x.to b q) refl
amount_at f low (x ∷ xs) b (suc p) d r l q =
    let m : p < length xs = omega (arith, l) in
    let h = above (suc x.to) xs p d r.1 m in
    rw (ne_eqb x.to b (λ e. absurd (omega (arith, h, q, e)))) (amount_at f (suc x.to) xs b p d r.1 m q)

-- the ends stay where an edge is replaced by one with the same end
pub ends_set : {C : Type 0} → (row : List (Edge C)) (p : ℕ) (e d : Edge C) → e.to ≡ (slice_index_or row p d).to → ends (slice_set row p e) ≡ ends row
ends_set row p e d q = map-set_same (λ x. x.to) row p e d q

set_here : {C : Type 0} → (f : Edge C → ℤ) (e x : Edge C) (xs : List (Edge C)) (b : ℕ) (t : Bool) → t ≡ nat_eq x.to b
    → (if t then f e else amount_to f xs b) ≡ (if t then f e else (if nat_eq x.to b then f x else amount_to f xs b))
set_here f e x xs b true q = refl
set_here f e x xs b false q = rw (← q) refl

set_above : {C : Type 0} → (f : Edge C → ℤ) (e x : Edge C) (xs : List (Edge C)) (b : ℕ) (t : Bool) → nat_eq x.to b ≡ t → x.to < e.to
    → (after : ℤ) → after ≡ (if nat_eq e.to b then f e else amount_to f xs b)
    → (if t then f x else after) ≡ (if nat_eq e.to b then f e else (if t then f x else amount_to f xs b))
set_above f e x xs b true q l after h = let same = eqb-true x.to b q in rw (ne_eqb e.to b (λ k. absurd (omega (arith, k, same, l)))) refl
set_above f e x xs b false q l after h = h

-- a number after that
pub amount_set : {C : Type 0} → (f : Edge C → ℤ) (low : ℕ) (row : List (Edge C)) (p : ℕ) (e d : Edge C) (b : ℕ) → Rises low (ends row) → p < length row
    → e.to ≡ (slice_index_or row p d).to → amount_to f (slice_set row p e) b ≡ (if nat_eq e.to b then f e else amount_to f row b)
amount_set f low [] p e d b r l q = absurd (omega (arith, l))
amount_set f low (x ∷ xs) zero e d b r l q = set_here f e x xs b (nat_eq e.to b) (ap (λ n. nat_eq n b) q)
amount_set f low (x ∷ xs) (suc p) e d b r l q =
    let m : p < length xs = omega (arith, l) in
    let h = above (suc x.to) xs p d r.1 m in
    set_above f e x xs b (nat_eq x.to b) refl (omega (arith, h, q)) (amount_to f (slice_set xs p e) b) (amount_set f (suc x.to) xs p e d b r.1 m q)

-- the number of an edge that was read from the row
pub amount_read : {C : Type 0} (f : Edge C → ℤ) (row : List (Edge C)) (b p : ℕ) (y : Edge C) → Rises 0 (ends row) → p < length row
    → y ≡ slice_index_or row p y → (slice_index_or row p y).to ≡ b → amount_to f row b ≡ f y
amount_read f row b p y r l here q = amount_at f 0 row b p y r l q ∙ ap f (sym here)

number_step : {C : Type 0} (f : Edge C → ℤ) (row : List (Edge C)) (to : ℕ) (y e : Edge C) (more : ℤ) (b : ℕ) → amount_to f row to ≡ f y → e.to ≡ to → f e ≡ f y +ℤ more
    → (if nat_eq e.to b then f e else amount_to f row b) ≡ (if nat_eq to b then amount_to f row b +ℤ more else amount_to f row b)
number_step f row to y e more b now w h = subst (λ n. (if nat_eq n b then f e else amount_to f row b) ≡ (if nat_eq to b then amount_to f row b +ℤ more else amount_to f row b)) (sym w) (step (nat_eq to b) refl)
  where
    step : (t : Bool) → nat_eq to b ≡ t → (if t then f e else amount_to f row b) ≡ (if t then amount_to f row b +ℤ more else amount_to f row b)
    step true k = h ∙ ap (λ z. z +ℤ more) (sym now ∙ ap (λ n. amount_to f row n) (eqb-true to b k))
    step false k = refl

-- a row in which one edge has other numbers
pub row_changed : {C : Type 0} (value : C → ℤ) (row : List (Edge C)) (to p : ℕ) (y e : Edge C) (more carried : ℤ) → Rises 0 (ends row) → p < length row
    → y ≡ slice_index_or row p y → (slice_index_or row p y).to ≡ to → e.to ≡ to → value e.residual ≡ value y.residual +ℤ more
    → value e.flow ≡ value y.flow +ℤ carried → IsRowChanged value to more carried row (slice_set row p e)
row_changed value row to p y e more carried r l here q w first second =
    let same : e.to ≡ (slice_index_or row p y).to = w ∙ sym q in
    let left = λ (x : Edge _). value x.residual in
    let carries = λ (x : Edge _). value x.flow in
    record {
      ends = ends_set row p e y same;
      residual = λ b. amount_set left 0 row p e y b r l same ∙ number_step left row to y e more b (amount_read left row to p y r l here q) w first;
      flow = λ b. amount_set carries 0 row p e y b r l same ∙ number_step carries row to y e carried b (amount_read carries row to p y r l here q) w second;
    }

insert_step : {C : Type 0} (x : Edge C) (xs : List (Edge C)) (e : Edge C) (t : Bool) → insert xs (place_of (ends xs) e.to) e ≡ with_edge xs e
    → insert (x ∷ xs) (if t then suc (place_of (ends xs) e.to) else 0) e ≡ (if t then x ∷ with_edge xs e else e ∷ x ∷ xs)
insert_step x xs e true h = ap (λ l. x ∷ l) h
insert_step x xs e false h = refl

remove_step : {C : Type 0} (x : Edge C) (xs : List (Edge C)) (b : ℕ) (t : Bool) → ltb x.to b ≡ t → (u : Bool) → nat_eq x.to b ≡ u → Rises (suc x.to) (ends xs)
    → (if u then true else has_end (ends xs) b) ≡ true → (has_end (ends xs) b ≡ true → remove xs (place_of (ends xs) b) ≡ without_edge xs b)
    → remove (x ∷ xs) (if t then suc (place_of (ends xs) b) else 0) ≡ (if u then xs else x ∷ without_edge xs b)
remove_step x xs b true e true k r h rest = let less = ltb-true x.to b e in let same = eqb-true x.to b k in absurd (omega (arith, less, same))
remove_step x xs b true e false k r h rest = ap (λ l. x ∷ l) (rest h)
remove_step x xs b false e true k r h rest = refl
remove_step x xs b false e false k r h rest = let more = ltb-false x.to b e in absurd (true≢false (sym h ∙ has_none (suc x.to) (ends xs) b r (omega (arith, more))))

-- an insert at the place of an edge
pub insert_is : {C : Type 0} (row : List (Edge C)) (e : Edge C) → insert row (place_of (ends row) e.to) e ≡ with_edge row e
insert_is [] e = refl
insert_is (x ∷ xs) e = insert_step x xs e (ltb x.to e.to) (insert_is xs e)

-- a removal at the place of an edge
pub remove_is : {C : Type 0} (low : ℕ) (row : List (Edge C)) (b : ℕ) → Rises low (ends row) → has_end (ends row) b ≡ true → remove row (place_of (ends row) b) ≡ without_edge row b
remove_is low [] b r h = absurd (true≢false (sym h))
remove_is low (x ∷ xs) b r h = remove_step x xs b (ltb x.to b) refl (nat_eq x.to b) refl r.1 h (remove_is (suc x.to) xs b r.1)

pub end_after_low : {C : Type 0} (low : ℕ) (row : List (Edge C)) (i : ℕ) → Rises low (ends row) → low ≤ end_after low row i
end_after_low low [] zero r = omega arith
end_after_low low (x ∷ xs) zero r = omega arith
end_after_low low [] (suc i) r = omega arith
end_after_low low (x ∷ xs) (suc i) r = let h = end_after_low (suc x.to) xs i r.1 in omega (arith, h, r.0)

end_after_zero : {C : Type 0} (low : ℕ) (row : List (Edge C)) → end_after low row zero ≡ low
end_after_zero low [] = refl
end_after_zero low (x ∷ xs) = refl

-- the next end is not below that of the edge, and directly above it once the edge is passed
pub end_after_at : {C : Type 0} (low : ℕ) (row : List (Edge C)) (i : ℕ) (d : Edge C) → Rises low (ends row) → i < length row → end_after low row i ≤ (slice_index_or row i d).to
end_after_at low [] i d r l = absurd (omega (arith, l))
end_after_at low (x ∷ xs) zero d r l = r.0
end_after_at low (x ∷ xs) (suc i) d r l = end_after_at (suc x.to) xs i d r.1 (omega (arith, l))

pub end_after_next : {C : Type 0} (low : ℕ) (row : List (Edge C)) (i : ℕ) (d : Edge C) → i < length row → end_after low row (suc i) ≡ suc (slice_index_or row i d).to
end_after_next low [] i d l = absurd (omega (arith, l))
end_after_next low (x ∷ xs) zero d l = end_after_zero (suc x.to) xs
end_after_next low (x ∷ xs) (suc i) d l = end_after_next (suc x.to) xs i d (omega (arith, l))

-- no end lies between
pub end_gap : {C : Type 0} (low : ℕ) (row : List (Edge C)) (i : ℕ) (d : Edge C) (a : ℕ) → Rises low (ends row) → i < length row → end_after low row i ≤ a → a < (slice_index_or row i d).to
    → has_end (ends row) a ≡ false
end_gap low [] i d a r l m n = refl
end_gap low (x ∷ xs) zero d a r l m n = rw (ne_eqb x.to a (λ q. absurd (omega (arith, q, n)))) (has_none (suc x.to) (ends xs) a r.1 (omega (arith, n)))
end_gap low (x ∷ xs) (suc i) d a r l m n =
    let h = end_after_low (suc x.to) xs i r.1 in
    rw (ne_eqb x.to a (λ q. absurd (omega (arith, q, h, m)))) (end_gap (suc x.to) xs i d a r.1 (omega (arith, l)) m n)

-- nor behind the last
pub end_behind : {C : Type 0} (low : ℕ) (row : List (Edge C)) (i : ℕ) (a : ℕ) → Rises low (ends row) → length row ≤ i → end_after low row i ≤ a → has_end (ends row) a ≡ false
end_behind low [] i a r l m = refl
end_behind low (x ∷ xs) zero a r l m = absurd (omega (arith, l))
end_behind low (x ∷ xs) (suc i) a r l m =
    let h = end_after_low (suc x.to) xs i r.1 in
    rw (ne_eqb x.to a (λ q. absurd (omega (arith, q, h, m)))) (end_behind (suc x.to) xs i a r.1 (omega (arith, l)) m)

-- the end that comes after all edges is a vertex or directly behind the last
pub end_after_below : {C : Type 0} (n low : ℕ) (row : List (Edge C)) (i : ℕ) → low ≤ n → ((k : ℕ) (d : Edge C) → k < length row → (slice_index_or row k d).to < n) → end_after low row i ≤ n
end_after_below n low [] zero l h = l
end_after_below n low (x ∷ xs) zero l h = l
end_after_below n low [] (suc i) l h = l
end_after_below n low (x ∷ xs) (suc i) l h =
    let first = h 0 x (omega arith) in
    end_after_below n (suc x.to) xs i (omega (arith, first)) (λ k d m. h (suc k) d (omega (arith, m)))

pub all_below : {C : Type 0} (n : ℕ) (row : List (Edge C)) → AreBelow n row → (k : ℕ) (d : Edge C) → k < length row → (slice_index_or row k d).to < n
all_below n row h k d l = h.at _ (found row _ k d l refl)

or_swap : (u v w : Bool) → (if u then true else (if v then true else w)) ≡ (if v then true else (if u then true else w))
or_swap true true w = refl
or_swap true false w = refl
or_swap false true w = refl
or_swap false false w = refl

or_tail : (u w : Bool) → (if u then true else w) ≡ false → w ≡ false
or_tail true w h = absurd (true≢false h)
or_tail false w h = h

with_ends_step : {C : Type 0} (x : Edge C) (xs : List (Edge C)) (e : Edge C) (b : ℕ) (t : Bool) → has_end (ends (with_edge xs e)) b ≡ (if nat_eq e.to b then true else has_end (ends xs) b)
    → has_end (ends (if t then x ∷ with_edge xs e else e ∷ x ∷ xs)) b ≡ (if nat_eq e.to b then true else (if nat_eq x.to b then true else has_end (ends xs) b))
with_ends_step x xs e b true h = ap (λ w. if nat_eq x.to b then true else w) h ∙ or_swap (nat_eq x.to b) (nat_eq e.to b) (has_end (ends xs) b)
with_ends_step x xs e b false h = refl

-- the ends of a row with one edge more
pub with_edge_ends : {C : Type 0} (row : List (Edge C)) (e : Edge C) (b : ℕ) → has_end (ends (with_edge row e)) b ≡ (if nat_eq e.to b then true else has_end (ends row) b)
with_edge_ends [] e b = refl
with_edge_ends (x ∷ xs) e b = with_ends_step x xs e b (ltb x.to e.to) (with_edge_ends xs e b)

pub with_edge_has : {C : Type 0} (row : List (Edge C)) (e : Edge C) → has_end (ends (with_edge row e)) e.to ≡ true
with_edge_has row e = with_edge_ends row e e.to ∙ ap (λ t. if t then true else has_end (ends row) e.to) (eq-eqb e.to e.to refl)

with_rises_step : {C : Type 0} (low : ℕ) (x : Edge C) (xs : List (Edge C)) (e : Edge C) (t : Bool) → ltb x.to e.to ≡ t → (u : Bool) → nat_eq x.to e.to ≡ u
    → Rises low (x.to ∷ ends xs) → low ≤ e.to → (if u then true else has_end (ends xs) e.to) ≡ false
    → (suc x.to ≤ e.to → has_end (ends xs) e.to ≡ false → Rises (suc x.to) (ends (with_edge xs e))) → Rises low (ends (if t then x ∷ with_edge xs e else e ∷ x ∷ xs))
with_rises_step low x xs e t k true q r l h rest = absurd (true≢false h)
with_rises_step low x xs e true k false q r l h rest = let less = ltb-true x.to e.to k in (r.0, rest (omega (arith, less)) h)
with_rises_step low x xs e false k false q r l h rest =
    let more = ltb-false x.to e.to k in
    let apart = eqb-false x.to e.to q in
    (l, (omega (arith, more, apart), r.1))

pub with_edge_rises : {C : Type 0} (low : ℕ) (row : List (Edge C)) (e : Edge C) → Rises low (ends row) → low ≤ e.to → has_end (ends row) e.to ≡ false → Rises low (ends (with_edge row e))
with_edge_rises low [] e r l h = (l, tt)
with_edge_rises low (x ∷ xs) e r l h = with_rises_step low x xs e (ltb x.to e.to) refl (nat_eq x.to e.to) refl r l h (λ m k. with_edge_rises (suc x.to) xs e r.1 m k)

head_none : {C : Type 0} (f : Edge C → ℤ) (e : Edge C) (row : List (Edge C)) (b : ℕ) (v : Bool) → nat_eq e.to b ≡ v → has_end (ends row) e.to ≡ false → f e ≡ pos 0
    → (if v then f e else amount_to f row b) ≡ amount_to f row b
head_none f e row b true k h z = z ∙ sym (amount_none f row b (subst (λ n. has_end (ends row) n ≡ false) (eqb-true e.to b k) h))
head_none f e row b false k h z = refl

with_amount_step : {C : Type 0} (f : Edge C → ℤ) (x : Edge C) (xs : List (Edge C)) (e : Edge C) (b : ℕ) (t : Bool) → has_end (ends (x ∷ xs)) e.to ≡ false → f e ≡ pos 0
    → amount_to f (with_edge xs e) b ≡ amount_to f xs b → amount_to f (if t then x ∷ with_edge xs e else e ∷ x ∷ xs) b ≡ amount_to f (x ∷ xs) b
with_amount_step f x xs e b true h z rest = ap (λ n. if nat_eq x.to b then f x else n) rest
with_amount_step f x xs e b false h z rest = head_none f e (x ∷ xs) b (nat_eq e.to b) refl h z

-- its numbers, where the new edge has none
pub with_edge_amount : {C : Type 0} (f : Edge C → ℤ) (row : List (Edge C)) (e : Edge C) (b : ℕ) → has_end (ends row) e.to ≡ false → f e ≡ pos 0 → amount_to f (with_edge row e) b ≡ amount_to f row b
with_edge_amount f [] e b h z = head_none f e [] b (nat_eq e.to b) refl refl z
with_edge_amount f (x ∷ xs) e b h z = with_amount_step f x xs e b (ltb x.to e.to) h z (with_edge_amount f xs e b (or_tail (nat_eq x.to e.to) (has_end (ends xs) e.to) h) z)

without_step : {C : Type 0} (x : Edge C) (xs : List (Edge C)) (e : Edge C) (t u : Bool) → nat_eq x.to e.to ≡ u → (if u then true else has_end (ends xs) e.to) ≡ false
    → (has_end (ends xs) e.to ≡ false → without_edge (with_edge xs e) e.to ≡ xs) → without_edge (if t then x ∷ with_edge xs e else e ∷ x ∷ xs) e.to ≡ x ∷ xs
without_step x xs e t true q h rest = absurd (true≢false h)
without_step x xs e true false q h rest = rw q (ap (λ l. x ∷ l) (rest h))
without_step x xs e false false q h rest = rw (eq-eqb e.to e.to refl) refl

-- without it the row is as before
pub without_with : {C : Type 0} (row : List (Edge C)) (e : Edge C) → has_end (ends row) e.to ≡ false → without_edge (with_edge row e) e.to ≡ row
without_with [] e h = rw (eq-eqb e.to e.to refl) refl
without_with (x ∷ xs) e h = without_step x xs e (ltb x.to e.to) (nat_eq x.to e.to) refl h (λ k. without_with xs e k)
