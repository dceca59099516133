-- A step of the list of clean paths between two names, by the step over numbers and the naming of what it gave.
use Rattle.std.proofs.Common.{◌≡◌, ◌⊎◌, ◌+◌, ◌-◌, inl, inr, ℕ, suc, ℤ, nat_eq, refl, sym, subst, ap, ◌∙◌, arith, Bool, true, false, true≢false, List, [], ◌∷◌, ◌++◌, length, map, take}
use Rattle.std.specs.Prelude.{not, ◌↔◌, ◌<◌, ◌^◌, Contains, Err, MatchOption, None, Ok, Option, Result, Some, Vec, ⊤}
use Rattle.std.specs.Borrow.{Bor}
use Rattle.std.specs.Cmp.{IsEquivalence}
use Rattle.std.specs.Iterator.{MakesProgress, at_most}
use Rattle.std.specs.Option.{is_some}
use Rattle.std.proofs.lemmas.List.{length-map, map-append}
use Rattle.pf_base.specs.declared.error.PathError.{PathError}
use Rattle.pf_base.specs.NodeRefs.{nodes_of}
use Rattle.pf_base.proofs.ListLemmas.{Contains-cases, Contains-head, Contains-tail, bool_dec}
use Rattle.pf_edge_lists.specs.EdgeLists.{NamesAndEdges, edges_from, names_of, places_of}
use Rattle.pf_name_numbers.specs.declared.numbers.NameGoal.{NameGoal}
use Rattle.pf_name_numbers.specs.Numbered.{is_numbered, names_with}
use Rattle.pf_name_numbers.proofs.NamedNumbers.{With, edges_with, name_at, named_at, with_apart}
use Rattle.pf_name_paths.specs.PathWalks.{GivesPath, HasRoom, IsListed, IsNamed, IsPathWalkByName, IsTaken, IsTakenFrom, NamePathWalk, NumberedPaths, PathStepByName, given_but, graph_by_number, has_refused, has_ended, path_by_name, path_walk_by_name, taken_path}
use Rattle.pf_name_paths.proofs.PathWalkNames.{all_out, next_out, refused_out}
use Rattle.pf_table_paths.specs.RankedWalks.{IsPathWalkInTable}
use Rattle.pf_tables.specs.Graphs.{graph_of}
use Rattle.pf_yen.specs.CleanPaths.{AllGiven, IsCleanPath, IsNextPath, RefusedFor}
use Rattle.pf_yen.specs.Counting.{most_paths}
use Rattle.pf_yen.specs.Walk.{IsBarred, PathStep, StepKeepsBar, most_items}

long : {X : Type 0} (xs : List X) (x : X) → length (xs ++ x ∷ []) - 1 ≡ length xs
long [] x = refl
long (y ∷ xs) x = by (length (xs ++ x ∷ [])) (pushed xs)
  where
    pushed : (ys : List _) → length (ys ++ x ∷ []) ≡ suc (length ys)
    pushed [] = refl
    pushed (z ∷ ys) = ap suc (pushed ys)

    by : (n : ℕ) → n ≡ suc (length xs) → suc n - 1 ≡ suc (length xs)
    by n e = omega (arith, e)

front : {X : Type 0} (xs : List X) (x : X) → take (length xs) (xs ++ x ∷ []) ≡ xs
front [] x = refl
front (y ∷ xs) x = ap (λ ys. y ∷ ys) (front xs x)

but_last : {X : Type 0} (xs ys : List X) (x : X) → ys ≡ xs ++ x ∷ [] → take (length ys - 1) ys ≡ xs
but_last xs ys x e = ap (λ zs. take (length zs - 1) zs) e ∙ ap (λ (n : ℕ). take n (xs ++ x ∷ [])) (long xs x) ∙ front xs x

in_pushed : {X : Type 0} (xs : List X) (x y : X) → Contains (xs ++ x ∷ []) y → Contains xs y ⊎ (x ≡ y)
in_pushed [] x y c = elim (Contains-cases [] x y c) as (λ _. Contains [] y ⊎ (x ≡ y)) [ inl e ↦ inr e | inr i ↦ inl i ]
in_pushed (z ∷ xs) x y c = elim (Contains-cases (xs ++ x ∷ []) z y c) as (λ _. Contains (z ∷ xs) y ⊎ (x ≡ y)) [
  | inl e ↦ inl (subst (Contains (z ∷ xs)) e (Contains-head xs z))
  | inr i ↦ elim (in_pushed xs x y i) as (λ _. Contains (z ∷ xs) y ⊎ (x ≡ y)) [ inl j ↦ inl (Contains-tail xs z y j) | inr e ↦ inr e ]
]

module _ {N C : Type 0} {eq : N → N → Bool} (laws : IsEquivalence eq) (value : C → ℤ) (fits : ℤ → Type 0) (list : NamesAndEdges N C) (from to : N) where
  abbrev EdgesM : ℕ → List (ℕ × ℤ)
  EdgesM = graph_by_number eq value list

  abbrev EdgesN : N → List (N × ℤ)
  EdgesN = edges_from eq value list

  abbrev test : NumberedPaths N C → ℕ → Bool
  test numbers = is_numbered numbers.goals.number

  abbrev Listed : NumberedPaths N C → Option (List ℕ × C) → Bool → Bool → Type 0
  Listed = IsListed eq value fits list from to

  abbrev Seen : NumberedPaths N C → Option (List ℕ × C) → Bool → Bool → NamePathWalk N C
  Seen = path_walk_by_name eq list from to

  -- given paths of numbers that stand for names
  module _ (numbers : NumberedPaths N C) (begins : With laws list from numbers.start from) (tests : (k : ℕ) (x : N) → With laws list from k x → test numbers k ≡ eq x to) (given : List (List ℕ × C)) (clean : (p : List ℕ × C) → Contains given p → IsCleanPath nat_eq EdgesM numbers.start (test numbers) p.0) where
    all_named : AllGiven nat_eq EdgesM numbers.start (test numbers) value given → AllGiven eq EdgesN from (λ x. eq x to) value (map (path_by_name eq list from) given)
    all_named = all_out laws (names_with eq list from) (with_apart laws list from) (name_at eq list from) (named_at laws list from) EdgesM EdgesN (edges_with laws list from value) numbers.start from begins (test numbers) (λ x. eq x to) tests value given clean

    next_named : (path : List ℕ) (cost : C) → IsNextPath nat_eq EdgesM numbers.start (test numbers) value given path cost → IsNextPath eq EdgesN from (λ x. eq x to) value (map (path_by_name eq list from) given) (map (name_at eq list from) path) cost
    next_named = next_out laws (names_with eq list from) (with_apart laws list from) (name_at eq list from) (named_at laws list from) EdgesM EdgesN (edges_with laws list from value) numbers.start from begins (test numbers) (λ x. eq x to) tests value given clean

    refused_named : (refusal : PathError) → RefusedFor nat_eq EdgesM numbers.start (test numbers) value fits given refusal → RefusedFor eq EdgesN from (λ x. eq x to) value fits (map (path_by_name eq list from) given) refusal
    refused_named = refused_out laws (names_with eq list from) (with_apart laws list from) (name_at eq list from) (named_at laws list from) EdgesM EdgesN (edges_with laws list from value) numbers.start from begins (test numbers) (λ x. eq x to) tests value given clean fits

  -- ---- what is known of the list in names

  pub by_name : (numbers : NumberedPaths N C) (waiting : Option (List ℕ × C)) (refused ended : Bool) → Listed numbers waiting refused ended → IsPathWalkByName eq value fits (Seen numbers waiting refused ended)
  by_name numbers None refused ended l = record {
    bar = λ b. (
      refused_named numbers l.begins l.tests numbers.walk.given l.clean PathError.CostOverflow
          (subst (λ t. RefusedFor nat_eq (graph_of value (length (names_of eq t)) (places_of eq t)) numbers.start (test numbers) value fits numbers.walk.given PathError.CostOverflow) l.table (l.walks.bar b).0),
      λ e. (l.ends e).1 b,
    );
    ends = λ e. all_named numbers l.begins l.tests numbers.walk.given l.clean (l.ends e).2;
    numbers = l;
  }
  by_name numbers (Some path) refused ended l = record {
    bar = λ b. absurd (l.waits.unbarred b);
    ends = λ e. let n : Some path ≡ None = (l.ends e).0 in cc;
    numbers = l;
  }

  -- ---- a step

  abbrev pub Given : {A : Type 0} → NumberedPaths N C → Option (Vec ℕ A × C) → List (List ℕ × C)
  Given numbers waiting = given_but numbers.walk.given (taken_path waiting)

  abbrev Walks : NumberedPaths N C → Type 0
  Walks = IsPathWalkInTable value (λ t. length (names_of eq t)) (places_of eq) (λ (goal : NameGoal). is_numbered goal.number) fits

  -- what stays where a path is taken
  pub record Stays (numbers after : NumberedPaths N C) (given : List (List ℕ × C)) : Type 0 where
    pub table : after.table ≡ list
    pub start : after.start ≡ numbers.start
    pub goals : after.goals ≡ numbers.goals
    pub walks : Walks after
    pub clean : (p : List ℕ × C) → Contains given p → IsCleanPath nat_eq EdgesM numbers.start (test numbers) p.0

  -- what is known of what was taken
  abbrev pub Ready : {A : Type 0} → NumberedPaths N C → NumberedPaths N C → List (List ℕ × C) → Option (Result (Vec ℕ A × C) PathError) → Type 0
  Ready numbers after given None = AllGiven nat_eq EdgesM numbers.start (test numbers) value given × (after.walk.given ≡ given) × ¬ (IsBarred after.walk) × (after.walk.refused ≡ false) × ¬ (IsBarred numbers.walk)
  Ready numbers after given (Some (Err refusal)) = RefusedFor nat_eq EdgesM numbers.start (test numbers) value fits given refusal × (after.walk.given ≡ given) × (IsBarred numbers.walk → refusal ≡ PathError.CostOverflow) × (IsBarred after.walk ↔ (refusal ≡ PathError.CostOverflow))
  Ready numbers after given (Some (Ok path)) = IsNextPath nat_eq EdgesM numbers.start (test numbers) value given path.0.items path.1 × (after.walk.given ≡ given ++ (path.0.items, path.1) ∷ []) × ¬ (IsBarred after.walk) × (after.walk.refused ≡ false) × ¬ (IsBarred numbers.walk) × (length given < most_paths (2 ^ 64))

  lowered : (numbers : NumberedPaths N C) (waiting : Option (List ℕ × C)) → Listed numbers waiting false false → numbers.walk.refused ≡ false
  lowered numbers waiting l = elim (bool_dec numbers.walk.refused) as (λ _. numbers.walk.refused ≡ false) [ inl t ↦ absurd (true≢false (sym (l.lowered t))) | inr f ↦ f ]

  ready_walk : {A : Type 0} (numbers after : NumberedPaths N C) (low : numbers.walk.refused ≡ false) (path : Option (Result (Vec ℕ A × C) PathError)) → PathStep nat_eq value EdgesM numbers.start (test numbers) fits numbers.walk path after.walk → StepKeepsBar numbers.walk path after.walk → HasRoom numbers.walk path → Ready numbers after numbers.walk.given path
  ready_walk numbers after low None s b r =
      let unbarred : ¬ (IsBarred numbers.walk) = λ h. true≢false (sym (b.0 h) ∙ low) in
      let all = elim s.0 as (λ _. AllGiven nat_eq EdgesM numbers.start (test numbers) value numbers.walk.given) [ inl t ↦ absurd (true≢false (sym t ∙ low)) | inr a ↦ a.0 ] in
      (all, s.2, λ h. unbarred (b.1.0 h), s.1 ∙ low, unbarred)
  ready_walk numbers after low (Some (Err refusal)) s b r = (s.2, s.3, b.0, b.1)
  ready_walk numbers after low (Some (Ok path)) s b r = (s.2, s.3, b.1, s.1, b.0, r)

  in_left : (xs : List (List ℕ × C)) (x y : List ℕ × C) → Contains xs y → Contains (xs ++ x ∷ []) y
  in_left [] x y c = absurd (omega (arith, c.1))
  in_left (z ∷ xs) x y c = elim (Contains-cases xs z y c) as (λ _. Contains ((z ∷ xs) ++ x ∷ []) y) [
    | inl e ↦ subst (Contains ((z ∷ xs) ++ x ∷ [])) e (Contains-head (xs ++ x ∷ []) z)
    | inr i ↦ Contains-tail (xs ++ x ∷ []) z y (in_left xs x y i)
  ]

  pub ready : {A : Type 0} (numbers after : NumberedPaths N C) (waiting : Option (Vec ℕ A × C)) (path : Option (Result (Vec ℕ A × C) PathError)) → Listed numbers (taken_path waiting) false false → IsTakenFrom eq value fits numbers waiting path after
      → Stays numbers after (Given numbers waiting) × Ready numbers after (Given numbers waiting) path
  ready numbers after None path l h =
      let step = subst (λ t. PathStep nat_eq value (graph_of value (length (names_of eq t)) (places_of eq t)) numbers.start (test numbers) fits numbers.walk path after.walk) l.table h.0.4 in
      (record { table = h.0.0 ∙ l.table; start = h.0.1; goals = h.0.2; walks = h.0.3; clean = l.clean }, ready_walk numbers after (lowered numbers None l) path step h.0.5 h.1)
  ready {A} numbers after (Some q) path l h =
      let p : List ℕ × C = (q.0.items, q.1) in
      let t = l.waits in
      let given : Given numbers (Some q) ≡ t.before = but_last t.before numbers.walk.given p t.is in
      let stays : Stays numbers numbers (Given numbers (Some q)) = record {
        table = l.table;
        start = refl;
        goals = refl;
        walks = l.walks;
        clean = λ r c. l.clean r (subst (λ gs. Contains gs r) (sym t.is) (in_left t.before p r (subst (λ gs. Contains gs r) given c)));
      } in
      let taken : Ready {A = A} numbers numbers (Given numbers (Some q)) (Some (Ok q)) = (
        subst (λ gs. IsNextPath nat_eq EdgesM numbers.start (test numbers) value gs q.0.items q.1) (sym given) t.next,
        t.is ∙ ap (λ gs. gs ++ p ∷ []) (sym given),
        t.unbarred,
        lowered numbers (Some p) l,
        t.unbarred,
        subst (λ gs. length gs < most_paths (2 ^ 64)) (sym given) t.room,
      ) in (
        subst (λ m. Stays numbers m (Given numbers (Some q))) (sym h.1) stays,
        subst (λ m. Ready numbers m (Given numbers (Some q)) path) (sym h.1) (subst (Ready numbers numbers (Given numbers (Some q))) (sym h.0) taken),
      )

  -- ---- what is told of a step

  module _ {A : Type 0} (numbers after : NumberedPaths N C) (waiting : Option (Vec ℕ A × C)) (l : Listed numbers (taken_path waiting) false false) (s : Stays numbers after (Given numbers waiting)) where
    moved : (P : ℕ → NameGoal → Type 0) → P numbers.start numbers.goals → P after.start after.goals
    moved P h = subst (λ (k : ℕ). P k after.goals) (sym s.start) (subst (P numbers.start) (sym s.goals) h)

    -- the paths over numbers after the step
    listed : (waits : Option (List ℕ × C)) (refused ended : Bool) → ((p : List ℕ × C) → Contains after.walk.given p → IsCleanPath nat_eq EdgesM numbers.start (test numbers) p.0) → (after.walk.refused ≡ true → refused ≡ true)
        → MatchOption waits ⊤ (IsTaken eq value fits list after) → (ended ≡ true → (waits ≡ None) × ¬ (IsBarred after.walk) × AllGiven nat_eq EdgesM numbers.start (test numbers) value after.walk.given) → Listed after waits refused ended
    listed waits refused ended clean low taken ends = record {
      table = s.table;
      begins = subst (λ (k : ℕ). With laws list from k from) (sym s.start) l.begins;
      tests = λ k x h. ap (λ (goal : NameGoal). is_numbered goal.number k) s.goals ∙ l.tests k x h;
      walks = s.walks;
      clean = λ p c. moved (λ (k : ℕ) (goal : NameGoal). IsCleanPath nat_eq EdgesM k (is_numbered goal.number) p.0) (clean p c);
      lowered = low;
      waits = taken;
      ends = λ e. let r = ends e in (r.0, r.1, moved (λ (k : ℕ) (goal : NameGoal). AllGiven nat_eq EdgesM k (is_numbered goal.number) value after.walk.given) r.2);
    }

    abbrev pub Before : NamePathWalk N C
    Before = Seen numbers (taken_path waiting) false false

    abbrev pub After : Option (List ℕ × C) → Option (Result (Vec (Bor N) A × C) PathError) → NamePathWalk N C
    After waits named = Seen after waits (has_refused named) (has_ended named)

    abbrev pub Told : Option (List ℕ × C) → Option (Result (Vec (Bor N) A × C) PathError) → Type 0
    Told waits named = Listed after waits (has_refused named) (has_ended named) × GivesPath eq value fits Before named (After waits named) × StepKeepsBar Before.walk named (After waits named).walk

    same_given : after.walk.given ≡ Given numbers waiting → map (path_by_name eq list from) after.walk.given ≡ map (path_by_name eq list from) (Given numbers waiting)
    same_given e = ap (map (path_by_name eq list from)) e

    still_clean : after.walk.given ≡ Given numbers waiting → (p : List ℕ × C) → Contains after.walk.given p → IsCleanPath nat_eq EdgesM numbers.start (test numbers) p.0
    still_clean e p c = s.clean p (subst (λ gs. Contains gs p) e c)

    told_end : Ready {A = A} numbers after (Given numbers waiting) None → Told None None
    told_end r = (
      listed None false true (still_clean r.1) (λ t. absurd (true≢false (sym t ∙ r.3))) tt (λ e. (refl, r.2, subst (AllGiven nat_eq EdgesM numbers.start (test numbers) value) (sym r.1) r.0)),
      (inr (all_named numbers l.begins l.tests (Given numbers waiting) s.clean r.0, refl), refl, same_given r.1),
      (λ b. absurd (r.4 b), (λ b. absurd (r.2 b), λ b. absurd (r.4 b))),
    )

    told_refusal : (refusal : PathError) → Ready {A = A} numbers after (Given numbers waiting) (Some (Err refusal)) → Told None (Some (Err refusal))
    told_refusal refusal r = (
      listed None true false (still_clean r.1) (λ t. refl) tt (λ e. absurd (true≢false (sym e))),
      (refl, refl, refused_named numbers l.begins l.tests (Given numbers waiting) s.clean refusal r.0, same_given r.1, λ e. true≢false (sym e)),
      (r.2, r.3),
    )

    module _ (path : Vec ℕ A × C) (r : Ready {A = A} numbers after (Given numbers waiting) (Some (Ok path))) where
      all_clean : (p : List ℕ × C) → Contains after.walk.given p → IsCleanPath nat_eq EdgesM numbers.start (test numbers) p.0
      all_clean p c = elim (in_pushed (Given numbers waiting) (path.0.items, path.1) p (subst (λ gs. Contains gs p) r.1 c)) as (λ _. IsCleanPath nat_eq EdgesM numbers.start (test numbers) p.0) [
        | inl i ↦ s.clean p i
        | inr e ↦ subst (λ (q : List ℕ × C). IsCleanPath nat_eq EdgesM numbers.start (test numbers) q.0) e r.0.clean
      ]

      told_path : (names : Vec (Bor N) A) → nodes_of names.items ≡ map (name_at eq list from) path.0.items → Told None (Some (Ok (names, path.1)))
      told_path names e = (
        listed None false false all_clean (λ t. absurd (true≢false (sym t ∙ r.3))) tt (λ d. absurd (true≢false (sym d))),
        (
          refl,
          refl,
          subst (λ xs. IsNextPath eq EdgesN from (λ x. eq x to) value (map (path_by_name eq list from) (Given numbers waiting)) xs path.1) (sym e) (next_named numbers l.begins l.tests (Given numbers waiting) s.clean path.0.items path.1 r.0),
          ap (map (path_by_name eq list from)) r.1 ∙ map-append (path_by_name eq list from) (Given numbers waiting) ((path.0.items, path.1) ∷ []) ∙ ap (λ xs. map (path_by_name eq list from) (Given numbers waiting) ++ (xs, path.1) ∷ []) (sym e),
        ),
        (r.4, r.2),
      )

      told_waits : Told (Some (path.0.items, path.1)) (Some (Err PathError.OutOfMemory))
      told_waits = (
        listed (Some (path.0.items, path.1)) true false all_clean (λ t. refl) taken (λ e. absurd (true≢false (sym e))),
        (refl, refl, inl refl, ap (map (path_by_name eq list from)) (but_last (Given numbers waiting) after.walk.given (path.0.items, path.1) r.1), λ e. true≢false (sym e)),
        (λ b. absurd (r.4 b), (λ b. absurd (r.2 b), λ e. cc)),
      )
        where
          taken : IsTaken eq value fits list after (path.0.items, path.1)
          taken = record {
            before = Given numbers waiting;
            is = r.1;
            next = moved (λ (k : ℕ) (goal : NameGoal). IsNextPath nat_eq EdgesM k (is_numbered goal.number) value (Given numbers waiting) path.0.items path.1) r.0;
            unbarred = r.2;
            room = r.5;
          }

    pub told : (path : Option (Result (Vec ℕ A × C) PathError)) → Ready numbers after (Given numbers waiting) path → (waits : Option (List ℕ × C)) (named : Option (Result (Vec (Bor N) A × C) PathError)) → IsNamed eq list from path None waits named → Told waits named
    told None r waits named n = subst (λ w. Told w named) (sym n.1) (subst (Told None) (sym n.0) (told_end r))
    told (Some (Err refusal)) r waits named n = subst (λ w. Told w named) (sym n.1) (subst (Told None) (sym n.0) (told_refusal refusal r))
    told (Some (Ok path)) r waits named n = elim n as (λ _. Told waits named) [
      | inl m ↦ subst (λ w. Told w named) (sym m.3) (subst (Told None) (sym m.1) (told_path path r m.0 m.2))
      | inr m ↦ subst (λ w. Told w named) (sym m.1) (subst (Told (Some (path.0.items, path.1))) (sym m.0) (told_waits path r))
    ]

  -- ---- a step, and how many are left

  fewer : (most given after : ℕ) → after ≡ given + 1 → given < most → suc (most - after) < suc (most - given)
  fewer most given after e h = omega (arith, e, h)

  pushed : {X : Type 0} (xs : List X) (x : X) → length (xs ++ x ∷ []) ≡ length xs + 1
  pushed [] x = refl
  pushed (y ∷ xs) x = let r = pushed xs x in omega (arith, r)

  pub stepped : {A : Type 0} (numbers after : NumberedPaths N C) (waiting : Option (Vec ℕ A × C)) (refused ended : Bool) → refused ≡ false → ended ≡ false → Listed numbers (taken_path waiting) refused ended
      → (path : Option (Result (Vec ℕ A × C) PathError)) → IsTakenFrom eq value fits numbers waiting path after → (waits : Option (List ℕ × C)) (named : Option (Result (Vec (Bor N) A × C) PathError)) → IsNamed eq list from path None waits named
      → Listed after waits (has_refused named) (has_ended named) × PathStepByName eq value fits (Seen numbers (taken_path waiting) refused ended) named (Seen after waits (has_refused named) (has_ended named))
  stepped numbers after waiting refused ended e f l path h waits named n =
      let k = subst (λ (b : Bool). Listed numbers (taken_path waiting) false b) f (subst (λ (b : Bool). Listed numbers (taken_path waiting) b ended) e l) in
      let r = ready numbers after waiting path k h in
      let t = told numbers after waiting k r.0 path r.1 waits named n in
      let goes : PathStepByName eq value fits (Seen numbers (taken_path waiting) false false) named (Seen after waits (has_refused named) (has_ended named)) = (refl, refl, refl, by_name after waits (has_refused named) (has_ended named) t.0, t.1, t.2) in (
        t.0,
        subst (λ (b : Bool). PathStepByName eq value fits (Seen numbers (taken_path waiting) b ended) named (Seen after waits (has_refused named) (has_ended named))) (sym e)
            (subst (λ (b : Bool). PathStepByName eq value fits (Seen numbers (taken_path waiting) false b) named (Seen after waits (has_refused named) (has_ended named))) (sym f) goes),
      )

  -- behind a refusal, and at the end, nothing comes and nothing changes
  pub rested : {A : Type 0} (numbers : NumberedPaths N C) (waits : Option (List ℕ × C)) (refused ended : Bool) → Listed numbers waits refused ended → (refused ≡ true) ⊎ (ended ≡ true) → (named : Option (Result (Vec (Bor N) A × C) PathError)) → named ≡ None
      → PathStepByName eq value fits (Seen numbers waits refused ended) named (Seen numbers waits refused ended)
  rested numbers waits refused ended l (inl t) named e = subst (λ q. PathStepByName eq value fits (Seen numbers waits refused ended) q (Seen numbers waits refused ended)) (sym e) (refl, refl, refl, by_name numbers waits refused ended l, (inl t, refl, refl), (λ b. t, (λ b. b, λ b. b)))
  rested numbers waits refused ended l (inr t) named e =
      let s = by_name numbers waits refused ended l in
      subst (λ q. PathStepByName eq value fits (Seen numbers waits refused ended) q (Seen numbers waits refused ended)) (sym e) (refl, refl, refl, s, (inr (s.ends t, t), refl, refl), (λ b. absurd ((l.ends t).1 b), (λ b. b, λ b. b)))

  module _ {A : Type 0} (numbers after : NumberedPaths N C) (waiting : Option (Vec ℕ A × C)) (can : NamePathWalk N C → Type 0) where
    abbrev Goes : Option (List ℕ × C) → Option (Result (Vec (Bor N) A × C) PathError) → Type 0
    Goes waits named = MakesProgress can (λ s. at_most (most_items s.walk)) (Seen numbers (taken_path waiting) false false) named (Seen after waits (has_refused named) (has_ended named))

    goes_to : (path : Option (Result (Vec ℕ A × C) PathError)) → Ready numbers after (Given numbers waiting) path → (waits : Option (List ℕ × C)) (named : Option (Result (Vec (Bor N) A × C) PathError)) → IsNamed eq list from path None waits named
        → can (Seen after waits (has_refused named) (has_ended named)) → Goes waits named
    goes_to path r waits None n c = record { on = λ f. tt; keeps = tt; rests = λ f. tt }
    goes_to path r waits (Some (Err refusal)) n c = record { on = λ f. (c, tt, omega arith); keeps = c; rests = λ f. tt }
    goes_to None r waits (Some (Ok item)) n c = let e : Some (Ok item) ≡ None = n.0 in cc
    goes_to (Some (Err refusal)) r waits (Some (Ok item)) n c = let e : Some (Ok item) ≡ Some (Err refusal) = n.0 in cc
    goes_to (Some (Ok path)) r waits (Some (Ok item)) n c = elim n as (λ _. Goes waits (Some (Ok item))) [
      | inl m ↦
          let short = length-map (Given numbers waiting) (path_by_name eq list from) in
          let long = length-map (given_but after.walk.given waits) (path_by_name eq list from) in
          let all : given_but after.walk.given waits ≡ after.walk.given = ap (given_but after.walk.given) m.3 in
          let more : length (map (path_by_name eq list from) (given_but after.walk.given waits)) ≡ length (map (path_by_name eq list from) (Given numbers waiting)) + 1 =
          long ∙ ap length all ∙ ap length r.1 ∙ pushed (Given numbers waiting) (path.0.items, path.1) ∙ ap (λ (k : ℕ). k + 1) (sym short) in
          record {
            on = λ f. (c, tt, fewer (most_paths (2 ^ 64)) _ _ more (subst (λ (k : ℕ). k < most_paths (2 ^ 64)) (sym short) r.5));
            keeps = c;
            rests = λ f. tt;
          }
      | inr m ↦ let e : Some (Ok item) ≡ Some (Err PathError.OutOfMemory) = m.0 in cc
    ]

  pub progressed : {A : Type 0} (numbers after : NumberedPaths N C) (waiting : Option (Vec ℕ A × C)) {can : NamePathWalk N C → Type 0} (refused ended : Bool) → refused ≡ false → ended ≡ false → Listed numbers (taken_path waiting) refused ended
      → (path : Option (Result (Vec ℕ A × C) PathError)) → IsTakenFrom eq value fits numbers waiting path after → (waits : Option (List ℕ × C)) (named : Option (Result (Vec (Bor N) A × C) PathError)) → IsNamed eq list from path None waits named
      → can (Seen after waits (has_refused named) (has_ended named)) → MakesProgress can (λ s. at_most (most_items s.walk)) (Seen numbers (taken_path waiting) refused ended) named (Seen after waits (has_refused named) (has_ended named))
  progressed numbers after waiting {can = can} refused ended e f l path h waits named n c =
      let k = subst (λ (b : Bool). Listed numbers (taken_path waiting) false b) f (subst (λ (b : Bool). Listed numbers (taken_path waiting) b ended) e l) in
      let r = ready numbers after waiting path k h in
      subst (λ (b : Bool). MakesProgress can (λ s. at_most (most_items s.walk)) (Seen numbers (taken_path waiting) b ended) named (Seen after waits (has_refused named) (has_ended named))) (sym e)
      (subst (λ (b : Bool). MakesProgress can (λ s. at_most (most_items s.walk)) (Seen numbers (taken_path waiting) false b) named (Seen after waits (has_refused named) (has_ended named))) (sym f)
      (goes_to numbers after waiting can path r.1 waits named n c))

  -- a walk that may try again
  pub resumed : (numbers after : NumberedPaths N C) (waits : Option (List ℕ × C)) (refused ended : Bool) → after ≡ record numbers { walk = record numbers.walk { refused = false } } → IsPathWalkInTable value (λ t. length (names_of eq t)) (places_of eq) (λ (goal : NameGoal). is_numbered goal.number) fits after
      → Listed numbers waits refused ended → Listed after waits false ended
  resumed numbers after waits refused ended e h l = subst (λ n. Listed n waits false ended) (sym e) (record {
    table = l.table;
    begins = l.begins;
    tests = l.tests;
    walks = subst Walks e h;
    clean = l.clean;
    lowered = λ t. t;
    waits = taken waits l.waits;
    ends = l.ends;
  })
    where
      taken : (w : Option (List ℕ × C)) → MatchOption w ⊤ (IsTaken eq value fits list numbers) → MatchOption w ⊤ (IsTaken eq value fits list (record numbers { walk = record numbers.walk { refused = false } }))
      taken None h = tt
      taken (Some p) t = record { before = t.before; is = t.is; next = t.next; unbarred = t.unbarred; room = t.room }

  -- the list of paths at its beginning
  pub begun : (numbers : NumberedPaths N C) (start : ℕ) (goal : NameGoal) → With laws list from start from → ((k : ℕ) (x : N) → With laws list from k x → is_numbered goal.number k ≡ eq x to) → numbers.table ≡ list → numbers.start ≡ start → numbers.goals ≡ goal → numbers.walk.given ≡ [] → numbers.walk.refused ≡ false → Walks numbers
      → Listed numbers None false false
  begun numbers start goal begins tests table is_start is_goal none low h = record {
    table = table;
    begins = subst (λ (k : ℕ). With laws list from k from) (sym is_start) begins;
    tests = λ k x s. ap (λ (other : NameGoal). is_numbered other.number k) is_goal ∙ tests k x s;
    walks = h;
    clean = λ p c. let n = subst (λ gs. Contains gs p) none c in absurd (omega (arith, n.1));
    lowered = λ t. sym low ∙ t;
    waits = tt;
    ends = λ e. absurd (true≢false (sym e));
  }

  -- what stands where a call of `next` returns
  module _ {A : Type 0} (numbers after : NumberedPaths N C) (waiting : Option (Vec ℕ A × C)) (refused ended : Bool) (e : refused ≡ false) (f : ended ≡ false) (l : Listed numbers (taken_path waiting) refused ended) (path : Option (Result (Vec ℕ A × C) PathError)) (h : IsTakenFrom eq value fits numbers waiting path after)
      (between : Option (Vec ℕ A × C)) (none : between ≡ None) (waits : Option (List ℕ × C)) (named : Option (Result (Vec (Bor N) A × C) PathError)) (n : IsNamed eq list from path (taken_path between) waits named) (refused' ended' : Bool) (r : refused' ≡ has_refused named) (s : is_some named ≡ not ended') where
    is_named : IsNamed eq list from path None waits named
    is_named = subst (λ b. IsNamed eq list from path (taken_path b) waits named) none n

    is_ended : ended' ≡ has_ended named
    is_ended = by named ended' s
      where
        by : (q : Option (Result (Vec (Bor N) A × C) PathError)) (b : Bool) → is_some q ≡ not b → b ≡ has_ended q
        by None true e = refl
        by None false e = cc
        by (Some x) true e = cc
        by (Some x) false e = refl

    marked : (P : Bool → Bool → Type 0) → P (has_refused named) (has_ended named) → P refused' ended'
    marked P p = subst (λ b. P b ended') (sym r) (subst (P (has_refused named)) (sym is_ended) p)

    pub listed_after : Listed after waits refused' ended'
    listed_after = marked (Listed after waits) (stepped numbers after waiting refused ended e f l path h waits named is_named).0

    pub steps_after : PathStepByName eq value fits (Seen numbers (taken_path waiting) refused ended) named (Seen after waits refused' ended')
    steps_after = marked (λ b d. PathStepByName eq value fits (Seen numbers (taken_path waiting) refused ended) named (Seen after waits b d)) (stepped numbers after waiting refused ended e f l path h waits named is_named).1

    pub goes_after : (can : NamePathWalk N C → Type 0) → can (Seen after waits refused' ended') → MakesProgress can (λ s. at_most (most_items s.walk)) (Seen numbers (taken_path waiting) refused ended) named (Seen after waits refused' ended')
    goes_after can c = marked (λ b d. can (Seen after waits b d) → MakesProgress can (λ s. at_most (most_items s.walk)) (Seen numbers (taken_path waiting) refused ended) named (Seen after waits b d))
        (λ d. progressed numbers after waiting {can = can} refused ended e f l path h waits named is_named d) c
