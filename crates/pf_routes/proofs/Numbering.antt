-- Names by their numbers, and the lines that links stand for.
use Rattle.std.proofs.Common.{◌≡◌, ℕ, zero, suc, ◌+◌, ◌<◌, ◌≤◌, List, [], ◌∷◌, ◌++◌, map, length, length-append, refl, sym, ap, ◌∙◌, subst, arith, take, get_or, Bool, true, false, Option, Some, None, Result, Ok, Err, Bor, append_assoc, append-nil, ◌||◌}
use Rattle.std.specs.Prelude.{slice_get, if◌then◌else◌, IfSome}
use Rattle.std.specs.List.{list_any, position_from, filter_map, flat_map, AllZip}
use Rattle.std.specs.Str.{bytes_eq}
use Rattle.std.proofs.lemmas.Iterator.Adapters.{position_from-zero}
use Rattle.std.proofs.lemmas.Grind.{flat_map-append}
use Rattle.std.proofs.lemmas.List.{map-append, take_more}
use Rattle.std.proofs.lemmas.List.Sums.{fold-append}
use Rattle.std.proofs.lemmas.Slice.Eq.{bytes_eq-Decides}
use Rattle.indexmap.specs.IndexSet.{insert_all, insert_key}
use Rattle.pf_routes.specs.FlowText.{ends_of, flow_names}
use Rattle.pf_routes.specs.EdgeText.{Edge, Line, Blank, Holds, Bad, line_of, said_by, is_bad, edge_in, first_bad_or, edge_text}
use Rattle.pf_routes.specs.Internal.Fields.{lines_left}
use Rattle.pf_routes.specs.Internal.Links.{bytes_of, name_at, edge_between, edges_between, AllBelow, KeepsNames, NumbersInTurn, IsNumberOf}
use Rattle.pf_routes.specs.Internal.Parsed.{edge_read, edges_taken, names_taken, AreEndsOf}
use Rattle.pf_routes.specs.declared.routes.links.Link.{Link}
use Rattle.pf_routes.specs.declared.routes.links.Ends.{Ends}
use Rattle.pf_routes.specs.declared.routes.edge_text.NamedEdge.{NamedEdge}

some_of : {X : Type 0} (x y : X) → Some x ≡ Some y → x ≡ y
some_of x y e = ap (value_or x) e
  where
    value_or : {X : Type 0} → X → Option X → X
    value_or d (Some z) = z
    value_or d None = d

pub name_at-key : (keys : List (Bor (List ℕ))) (n : ℕ) (k : Bor (List ℕ)) → slice_get keys n ≡ Some k → name_at keys n ≡ k.now
name_at-key [] n k e = cc
name_at-key (x ∷ keys) zero k e = ap (λ (b : Bor (List ℕ)). b.now) (some_of x k e)
name_at-key (x ∷ keys) (suc n) k e = name_at-key keys n k e

-- numbers below the old count are below the new one
pub keeps-trans : (a b c : List (Bor (List ℕ))) → KeepsNames a b → KeepsNames b c → KeepsNames a c
keeps-trans a b c ab bc = record {
  longer = omega (arith, ab.longer, bc.longer);
  same = λ n l. bc.same n (omega (arith, l, ab.longer)) ∙ ab.same n l;
}

pub keeps-refl : (a : List (Bor (List ℕ))) → KeepsNames a a
keeps-refl a = record { longer = omega arith; same = λ n l. refl }

name_at-front : (keys more : List (Bor (List ℕ))) (n : ℕ) → n < length keys → name_at (keys ++ more) n ≡ name_at keys n
name_at-front [] more n lt = absurd (omega (arith, lt))
name_at-front (x ∷ keys) more zero lt = refl
name_at-front (x ∷ keys) more (suc n) lt = name_at-front keys more n (omega (arith, lt))

-- names keep their numbers where one more is put in
pub keeps-insert : (old new : List (Bor (List ℕ))) (key : Bor (List ℕ)) → new ≡ insert_key (λ a b. bytes_eq a.now b.now) old key → KeepsNames old new
keeps-insert old new key e = subst (KeepsNames old) (sym e) (kept (list_any (λ k. bytes_eq key.now k.now) old))
  where
    kept : (known : Bool) → KeepsNames old (if known then old else old ++ key ∷ [])
    kept true = keeps-refl old
    kept false = record { longer = omega (arith, length-append old (key ∷ [])); same = λ n l. name_at-front old (key ∷ []) n l }

any-bytes : (key : Bor (List ℕ)) (names : List (Bor (List ℕ))) → list_any (λ k. bytes_eq key.now k.now) names ≡ list_any (bytes_eq key.now) (bytes_of names)
any-bytes key [] = refl
any-bytes key (x ∷ names) = ap (λ b. bytes_eq key.now x.now || b) (any-bytes key names)

-- a name was met
pub turn-insert : (old new : List (Bor (List ℕ))) (key : Bor (List ℕ)) (name : List ℕ) → key.now ≡ name → new ≡ insert_key (λ a b. bytes_eq a.now b.now) old key → NumbersInTurn old (name ∷ []) new
turn-insert old new key name is e = subst (λ x. NumbersInTurn old (x ∷ []) new) is (ap bytes_of e ∙ by (list_any (λ k. bytes_eq key.now k.now) old) ∙ ap (λ (b : Bool). if b then bytes_of old else bytes_of old ++ key.now ∷ []) (any-bytes key old))
  where
    by : (b : Bool) → bytes_of (if b then old else old ++ key ∷ []) ≡ (if b then bytes_of old else bytes_of old ++ key.now ∷ [])
    by true = refl
    by false = map-append (λ k. k.now) old (key ∷ [])

known-any : (names : List (Bor (List ℕ))) (n : ℕ) (name : List ℕ) → n < length names → name_at names n ≡ name → list_any (bytes_eq name) (bytes_of names) ≡ true
known-any [] n name l e = absurd (omega (arith, l))
known-any (x ∷ names) zero name l e = ap (λ b. b || list_any (bytes_eq name) (bytes_of names)) ((bytes_eq-Decides name x.now).1 (sym e))
known-any (x ∷ names) (suc n) name l e = ap (λ b. bytes_eq name x.now || b) (known-any names n name (omega (arith, l)) e) ∙ by (bytes_eq name x.now)
  where
    by : (b : Bool) → (b || true) ≡ true
    by true = refl
    by false = refl

-- a name was met that has a number
pub turn-known : (names : List (Bor (List ℕ))) (n : ℕ) (name : List ℕ) → n < length names → name_at names n ≡ name → NumbersInTurn names (name ∷ []) names
turn-known names n name l e = sym (ap (λ (b : Bool). if b then bytes_of names else bytes_of names ++ name ∷ []) (known-any names n name l e))

-- the names of one edge more are met
met-more : (ks : List (List ℕ)) (es : List Edge) (f : Edge) → insert_all bytes_eq ks (flat_map ends_of (es ++ f ∷ [])) ≡ insert_all bytes_eq (insert_all bytes_eq ks (flat_map ends_of es)) (ends_of f)
met-more ks es f = ap (insert_all bytes_eq ks) (flat_map-append ends_of es (f ∷ [])) ∙ fold-append (insert_key bytes_eq) ks (flat_map ends_of es) (ends_of f)

-- the names of edges were met, and then those of one more
pub turn-more : (start old mid new : List (Bor (List ℕ))) (before after : List Edge) (e : Edge) → after ≡ before ++ e ∷ [] → NumbersInTurn start (flat_map ends_of before) old → NumbersInTurn old (e.from ∷ []) mid → NumbersInTurn mid (e.to ∷ []) new
    → NumbersInTurn start (flat_map ends_of after) new
turn-more start old mid new before after e more a b c =
    c ∙ ap (λ ks. insert_all bytes_eq ks (e.to ∷ [])) b ∙ ap (λ ks. insert_all bytes_eq ks (ends_of e)) a
    ∙ sym (ap (λ es. insert_all bytes_eq (bytes_of start) (flat_map ends_of es)) more ∙ met-more (bytes_of start) before e)

edge-kept : (old new : List (Bor (List ℕ))) (l : Link) → KeepsNames old new → l.source < length old → l.target < length old → edge_between new l ≡ edge_between old l
edge-kept old new l kept s t =
    ap (λ (f : List ℕ). record { from = f; to = name_at new l.target; cost = l.cost }) (kept.same l.source s)
    ∙ ap (λ (f : List ℕ). record { from = name_at old l.source; to = f; cost = l.cost }) (kept.same l.target t)

pub below-tail : (count : ℕ) (l : Link) (links : List Link) → AllBelow count (l ∷ links) → AllBelow count links
below-tail count l links below = λ k d lt. below (suc k) d (omega (arith, lt))

-- links stand for the same edges where more names have numbers
pub edges-kept : (old new : List (Bor (List ℕ))) (links : List Link) → KeepsNames old new → AllBelow (length old) links → edges_between new links ≡ edges_between old links
edges-kept old new [] kept below = refl
edges-kept old new (l ∷ links) kept below =
    let here = below 0 l (omega arith) in
    ap (λ e. e ∷ edges_between new links) (edge-kept old new l kept here.0 here.1) ∙ ap (λ es. edge_between old l ∷ es) (edges-kept old new links kept (below-tail (length old) l links below))

pub below-more : (count more : ℕ) (links : List Link) → count ≤ more → AllBelow count links → AllBelow more links
below-more count more links le below = λ k d lt. (omega (arith, le, (below k d lt).0), omega (arith, le, (below k d lt).1))

pub below-push : (count : ℕ) (links : List Link) (l : Link) → AllBelow count links → l.source < count → l.target < count → AllBelow count (links ++ l ∷ [])
below-push count [] l below s t zero d lt = (s, t)
below-push count [] l below s t (suc k) d lt = absurd (omega (arith, lt))
below-push count (x ∷ links) l below s t zero d lt = below 0 d (omega arith)
below-push count (x ∷ links) l below s t (suc k) d lt = below-push count links l (below-tail count x links below) s t k d (omega (arith, lt))

-- how many bytes and lines are left
abbrev pub left_len : Option (Bor (List ℕ)) → ℕ
left_len None = 0
left_len (Some rest) = length rest.now + 1

-- what the lines left say
abbrev pub said_left : Option (Bor (List ℕ)) → List Line
said_left rest = map line_of (lines_left rest)

-- what lines say after these edges, where the first of the lines has the number behind `number`
abbrev pub text_from : ℕ → List Edge → List Line → Result (List Edge) ℕ
text_from number found lines = first_bad_or (position_from is_bad number lines) (found ++ filter_map edge_in lines)

pub text_from-start : (text : List ℕ) → text_from 0 [] (said_by text) ≡ edge_text text
text_from-start text = ap (λ o. first_bad_or o (filter_map edge_in (said_by text))) (sym (position_from-zero is_bad (said_by text)))

pub text_from-end : (number : ℕ) (found : List Edge) → text_from number found [] ≡ Ok found
text_from-end number found = ap Ok (append-nil found)

pub text_from-holds : (number : ℕ) (found : List Edge) (e : Edge) (lines : List Line) → text_from number found (Holds e ∷ lines) ≡ text_from (number + 1) (found ++ e ∷ []) lines
text_from-holds number found e lines = ap (first_bad_or (position_from is_bad (number + 1) lines)) (sym (append_assoc found (e ∷ []) (filter_map edge_in lines)))

pub said_left-some : (rest : Option (Bor (List ℕ))) (here : Bor (List ℕ)) → rest ≡ Some here → said_left rest ≡ said_by here.now
said_left-some rest here e = ap said_left e

pub left_len-next : (rest next : Option (Bor (List ℕ))) (here : Bor (List ℕ)) → rest ≡ Some here → IfSome next (λ more. length more.now < length here.now) → left_len next < left_len rest
left_len-next rest None here at shorter = omega (arith, ap left_len at)
left_len-next rest (Some more) here at shorter = omega (arith, ap left_len at)

-- one link more stands for one edge more
pub edges-push : (old new : List (Bor (List ℕ))) (links : List Link) (l : Link) (e : Edge) → KeepsNames old new → AllBelow (length old) links
    → name_at new l.source ≡ e.from → name_at new l.target ≡ e.to → l.cost ≡ e.cost → edges_between new (links ++ l ∷ []) ≡ edges_between old links ++ e ∷ []
edges-push old new links l e kept below from to cost =
    map-append (edge_between new) links (l ∷ []) ∙ ap (λ es. es ++ edge_between new l ∷ []) (edges-kept old new links kept below)
    ∙ ap (λ (f : List ℕ). edges_between old links ++ record { from = f; to = name_at new l.target; cost = l.cost } ∷ []) from
    ∙ ap (λ (f : List ℕ). edges_between old links ++ record { from = e.from; to = f; cost = l.cost } ∷ []) to
    ∙ ap (λ (f : ℕ). edges_between old links ++ record { from = e.from; to = e.to; cost = f } ∷ []) cost

-- the edges up to a place, and the one there
pub taken-more : (edges : List NamedEdge) (i : ℕ) (e : NamedEdge) → i < length edges → e ≡ get_or edges i e → map edge_read (take (i + 1) edges) ≡ map edge_read (take i edges) ++ edge_read e ∷ []
taken-more edges i e lt is =
    ap (map edge_read) (take_more edges i e lt) ∙ map-append edge_read (take i edges) (get_or edges i e ∷ [])
    ∙ ap (λ (x : NamedEdge). map edge_read (take i edges) ++ edge_read x ∷ []) (sym is)

-- numbers stay those of their names where more names have numbers
pub number-kept : (old new : List (Bor (List ℕ))) (name : List ℕ) (o : Option ℕ) → KeepsNames old new → IsNumberOf old name o → IsNumberOf new name o
number-kept old new name None kept h = tt
number-kept old new name (Some n) kept h = (omega (arith, h.0, kept.longer), kept.same n h.0 ∙ h.1)

module _ (names : List (Bor (List ℕ))) where
  pub ends-push : (edges : List NamedEdge) (ends : List Ends) (e : NamedEdge) (k : Ends) → AllZip (AreEndsOf names) edges ends → AreEndsOf names e k → AllZip (AreEndsOf names) (edges ++ e ∷ []) (ends ++ k ∷ [])
  ends-push [] [] e k z h = (h, tt)
  ends-push [] (y ∷ ys) e k z h = absurd z
  ends-push (x ∷ xs) [] e k z h = absurd z
  ends-push (x ∷ xs) (y ∷ ys) e k z h = (z.0, ends-push xs ys e k z.1 h)

  pub ends-length : (edges : List NamedEdge) (ends : List Ends) → AllZip (AreEndsOf names) edges ends → length ends ≡ length edges
  ends-length [] [] z = refl
  ends-length [] (y ∷ ys) z = absurd z
  ends-length (x ∷ xs) [] z = absurd z
  ends-length (x ∷ xs) (y ∷ ys) z = ap suc (ends-length xs ys z.1)

  pub ends-at : (edges : List NamedEdge) (ends : List Ends) (i : ℕ) (e : NamedEdge) (k : Ends) → AllZip (AreEndsOf names) edges ends → i < length edges → e ≡ get_or edges i e → k ≡ get_or ends i k → AreEndsOf names e k
  ends-at [] ends i e k z lt ei ki = absurd (omega (arith, lt))
  ends-at (x ∷ xs) [] i e k z lt ei ki = absurd z
  ends-at (x ∷ xs) (y ∷ ys) zero e k z lt ei ki = subst (λ f. AreEndsOf names f k) (sym ei) (subst (AreEndsOf names x) (sym ki) z.0)
  ends-at (x ∷ xs) (y ∷ ys) (suc i) e k z lt ei ki = ends-at xs ys i e k z.1 (omega (arith, lt)) ei ki

-- the line here, and those behind it
reads : (rest next : Option (Bor (List ℕ))) (here : Bor (List ℕ)) (s : Line) → rest ≡ Some here → said_by here.now ≡ s ∷ said_left next → said_left rest ≡ s ∷ said_left next
reads rest next here s at says = said_left-some rest here at ∙ says

pub says-blank : (line : ℕ) (found : List Edge) (rest next : Option (Bor (List ℕ))) (here : Bor (List ℕ)) (s : Line) (all : Result (List Edge) ℕ) → rest ≡ Some here
    → said_by here.now ≡ s ∷ said_left next → s ≡ Blank → text_from line found (said_left rest) ≡ all → text_from (line + 1) found (said_left next) ≡ all
says-blank line found rest next here s all at says blank before = ap (text_from line found) (sym (reads rest next here s at says ∙ ap (λ x. x ∷ said_left next) blank)) ∙ before

pub says-edge : (line : ℕ) (found : List Edge) (e : Edge) (rest next : Option (Bor (List ℕ))) (here : Bor (List ℕ)) (s : Line) (all : Result (List Edge) ℕ) → rest ≡ Some here
    → said_by here.now ≡ s ∷ said_left next → s ≡ Holds e → text_from line found (said_left rest) ≡ all → text_from (line + 1) (found ++ e ∷ []) (said_left next) ≡ all
says-edge line found e rest next here s all at says holds before =
    sym (text_from-holds line found e (said_left next)) ∙ ap (text_from line found) (sym (reads rest next here s at says ∙ ap (λ x. x ∷ said_left next) holds)) ∙ before

pub says-bad : (line : ℕ) (found : List Edge) (rest : Option (Bor (List ℕ))) (here : Bor (List ℕ)) (more : List Line) (all : Result (List Edge) ℕ) → rest ≡ Some here
    → said_by here.now ≡ Bad ∷ more → text_from line found (said_left rest) ≡ all → all ≡ Err (line + 1)
says-bad line found rest here more all at says before = sym before ∙ ap (text_from line found) (said_left-some rest here at ∙ says)

-- one edge more waits
pub waits-more : (names : List (Bor (List ℕ))) (waiting more : List NamedEdge) (e : NamedEdge) → more ≡ waiting ++ e ∷ [] → names_taken names more ≡ insert_all bytes_eq (names_taken names waiting) (ends_of (edge_read e))
waits-more names waiting more e is = ap (names_taken names) is ∙ ap (λ es. insert_all bytes_eq (bytes_of names) (flat_map ends_of es)) (map-append edge_read waiting (e ∷ [])) ∙ met-more (bytes_of names) (map edge_read waiting) (edge_read e)

-- those that waited are linked
pub waits-none : (old new : List (Bor (List ℕ))) (waiting none : List NamedEdge) → none ≡ [] → NumbersInTurn old (flat_map ends_of (map edge_read waiting)) new → names_taken new none ≡ names_taken old waiting
waits-none old new waiting none is met = ap (names_taken new) is ∙ met

-- the names were met of all edges that were taken
abbrev pub HasMet : List (Bor (List ℕ)) → List (Bor (List ℕ)) → List Link → List NamedEdge → Type 0
HasMet start names links waiting = names_taken names waiting ≡ insert_all bytes_eq (bytes_of start) (flat_map ends_of (edges_taken names links waiting))

pub met-start : (names : List (Bor (List ℕ))) (links : List Link) (waiting : List NamedEdge) → links ≡ [] → waiting ≡ [] → HasMet names names links waiting
met-start names links waiting l w = subst (λ ls. HasMet names names ls waiting) (sym l) (subst (HasMet names names []) (sym w) refl)

pub met-edge : (start old new : List (Bor (List ℕ))) (links all : List Link) (waiting left : List NamedEdge) (e : Edge) → HasMet start old links waiting → names_taken new left ≡ insert_all bytes_eq (names_taken old waiting) (ends_of e)
    → edges_taken new all left ≡ edges_taken old links waiting ++ e ∷ [] → HasMet start new all left
met-edge start old new links all waiting left e h met taken =
    met ∙ ap (λ ks. insert_all bytes_eq ks (ends_of e)) h
    ∙ sym (ap (λ es. insert_all bytes_eq (bytes_of start) (flat_map ends_of es)) taken ∙ met-more (bytes_of start) (edges_taken old links waiting) e)

pub met-end : (start old new : List (Bor (List ℕ))) (links all : List Link) (waiting : List NamedEdge) → HasMet start old links waiting → NumbersInTurn old (flat_map ends_of (map edge_read waiting)) new → edges_between new all ≡ edges_taken old links waiting
    → NumbersInTurn start (flat_map ends_of (edges_between new all)) new
met-end start old new links all waiting h met taken = met ∙ h ∙ ap (λ es. insert_all bytes_eq (bytes_of start) (flat_map ends_of es)) (sym taken)

-- two names were met, and then those of edges
pub met_in_turn : (none : List (Bor (List ℕ))) (first second all : List (List ℕ)) (from to : List ℕ) (edges : List Edge) → none ≡ [] → first ≡ insert_key bytes_eq (bytes_of none) from → second ≡ insert_key bytes_eq first to
    → all ≡ insert_all bytes_eq second (flat_map ends_of edges) → all ≡ flow_names from to edges
met_in_turn none first second all from to edges n a b c =
    c ∙ ap (λ ks. insert_all bytes_eq ks (flat_map ends_of edges)) (b ∙ ap (λ ks. insert_key bytes_eq ks to) (a ∙ ap (λ ks. insert_key bytes_eq (bytes_of ks) from) n))
