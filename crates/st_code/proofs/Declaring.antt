-- Names that are declared one after the other, and targets from the outside in.
use Rattle.std.proofs.Common.{◌≡◌, ℕ, ◌+◌, ◌-◌, ◌<◌, ◌≤◌, Bool, true, false, ◌||◌, List, [], ◌∷◌, ◌++◌, length, take, drop, get_or, Option, Some, None, refl, sym, ap, ◌∙◌, subst, arith, append_assoc, cond}
use Rattle.std.specs.Prelude.{is_some, bytes_eq, if◌then◌else◌}
use Rattle.std.proofs.lemmas.List.{at_drop_more, take_more, length-map, length-take-le}
use Rattle.st_scan.specs.declared.tree.Name.{Name}
use Rattle.st_scan.specs.declared.chain.Link.{Link}
use Rattle.st_scan.specs.Views.{NameView, name_view, names_view}
use Rattle.st_scan.specs.inside.Chains.{LinkView, link_view, links_view}
use Rattle.st_code.specs.declared.fault.Fault.{Fault}
use Rattle.st_code.specs.declared.fault.Cause.TheVariants.{Twice}
use Rattle.st_emit.specs.Names.{NamesView, Scope, Declared, numbered, declared, declared_as, or_else, is_among}
use Rattle.st_code.specs.Faults.{declare_fault, fault_at}
use Rattle.st_code.specs.inside.ChainFaults.{among_fault, target_fault, targets_fault}
use Rattle.st_code.specs.declared.fault.CodeFault.{CodeFault}
use Rattle.st_code.specs.Reported.{IsFault}
use Rattle.st_code.proofs.ChainFaults.{or_assoc}
use Rattle.st_code.proofs.Reporting.{fault_first}

-- TARGETS

targets_more : (names : NamesView) (scope : Scope) (ls : List LinkView) (l : LinkView) → targets_fault names scope (ls ++ l ∷ []) ≡ or_else (target_fault names scope l) (targets_fault names scope ls)
targets_more names scope [] l = or_none_first (target_fault names scope l)
  where
    or_none_first : (f : Option Fault) → f ≡ or_else f None
    or_none_first None = refl
    or_none_first (Some x) = refl
targets_more names scope (x ∷ ls) l =
    ap (λ f. or_else f (target_fault names scope x)) (targets_more names scope ls l)
    ∙ or_assoc (target_fault names scope l) (targets_fault names scope ls) (target_fault names scope x)

-- one target more, from the outside in
pub targets_turn : (names : NamesView) (scope : Scope) (links : List Link) (i : ℕ) (l : Link) → i < length links → l ≡ get_or links i l
    → targets_fault names scope (links_view (take (i + 1) links)) ≡ or_else (target_fault names scope (link_view l)) (targets_fault names scope (links_view (take i links)))
targets_turn names scope links i l lt e =
    ap (λ ls. targets_fault names scope (links_view ls)) (take_more links i l lt ∙ ap (λ x. take i links ++ x ∷ []) (sym e))
    ∙ ap (targets_fault names scope) (map_more (take i links) l)
    ∙ targets_more names scope (links_view (take i links)) (link_view l)
  where
    map_more : (ls : List Link) (x : Link) → links_view (ls ++ x ∷ []) ≡ links_view ls ++ link_view x ∷ []
    map_more [] x = refl
    map_more (y ∷ ls) x = ap (λ r. link_view y ∷ r) (map_more ls x)

-- what is left of the targets from the outside in
targets_here : (names : NamesView) (scope : Scope) (links : List Link) (left : ℕ) (l : Link) → 0 < left → left ≤ length links → l ≡ get_or links (left - 1) l
    → targets_fault names scope (links_view (take left links)) ≡ or_else (target_fault names scope (link_view l)) (targets_fault names scope (links_view (take (left - 1) links)))
targets_here names scope links left l some within e =
    let one : left - 1 + 1 ≡ left = omega arith in
    sym (ap (λ (k : ℕ). targets_fault names scope (links_view (take k links))) one) ∙ targets_turn names scope links (left - 1) l (omega arith) e

pub targets_go_on : (names : NamesView) (scope : Scope) (links : List Link) (left : ℕ) (l : Link) (total : Option Fault) → 0 < left → left ≤ length links → l ≡ get_or links (left - 1) l → target_fault names scope (link_view l) ≡ None
    → targets_fault names scope (links_view (take left links)) ≡ total → targets_fault names scope (links_view (take (left - 1) links)) ≡ total
targets_go_on names scope links left l total some within e none so_far =
    sym (targets_here names scope links left l some within e ∙ ap (λ (f : Option Fault). or_else f (targets_fault names scope (links_view (take (left - 1) links)))) none) ∙ so_far

pub targets_stop : (names : NamesView) (scope : Scope) (links : List Link) (left : ℕ) (l : Link) (total : Option Fault) → 0 < left → left ≤ length links → l ≡ get_or links (left - 1) l
    → targets_fault names scope (links_view (take left links)) ≡ total → (f : CodeFault) → IsFault (target_fault names scope (link_view l)) f → IsFault total f
targets_stop names scope links left l total some within e so_far f h =
    subst (λ (x : Option Fault). IsFault x f) (sym (targets_here names scope links left l some within e) ∙ so_far) (fault_first (target_fault names scope (link_view l)) (targets_fault names scope (links_view (take (left - 1) links))) f h)

-- NAMES

-- in scope already, or among those before it
declared_append : (scope : Scope) (assignable : Bool) (k : ℕ) (names : List NameView) (text : List ℕ)
    → is_some (declared_as (scope ++ numbered assignable k names) text) ≡ (is_some (declared_as scope text) || is_among names text)
declared_append [] assignable k [] text = refl
declared_append [] assignable k (x ∷ xs) text = by_test (bytes_eq x.text text) (declared_append [] assignable (k + 1) xs text)
  where
    by_test : (b : Bool) → is_some (declared_as (numbered assignable (k + 1) xs) text) ≡ is_among xs text
        → is_some (cond b (Some (record { text = x.text; number = k; assignable = assignable })) (declared_as (numbered assignable (k + 1) xs) text)) ≡ (b || is_among xs text)
    by_test true h = refl
    by_test false h = h
declared_append (d ∷ ds) assignable k names text = by_test (bytes_eq d.text text) (declared_append ds assignable k names text)
  where
    by_test : (b : Bool) → is_some (declared_as (ds ++ numbered assignable k names) text) ≡ (is_some (declared_as ds text) || is_among names text)
        → is_some (cond b (Some d) (declared_as (ds ++ numbered assignable k names) text)) ≡ (is_some (cond b (Some d) (declared_as ds text)) || is_among names text)
    by_test true h = refl
    by_test false h = h

numbered_more : (assignable : Bool) (k : ℕ) (names : List NameView) (x : NameView) → numbered assignable k (names ++ x ∷ []) ≡ numbered assignable k names ++ numbered assignable (k + length names) (x ∷ [])
numbered_more assignable k [] x = let e : k ≡ k + 0 = omega arith in ap (λ (j : ℕ). numbered assignable j (x ∷ [])) e
numbered_more assignable k (y ∷ ys) x =
    let e : (k + 1) + length ys ≡ k + length (y ∷ ys) = omega arith in
    ap (λ (r : List Declared). record { text = y.text; number = k; assignable = assignable } ∷ r) (numbered_more assignable (k + 1) ys x ∙ ap (λ (j : ℕ). numbered assignable (k + 1) ys ++ numbered assignable j (x ∷ [])) e)

names_more : (names : List Name) (x : Name) → names_view (names ++ x ∷ []) ≡ names_view names ++ name_view x ∷ []
names_more [] x = refl
names_more (y ∷ ys) x = ap (λ r. name_view y ∷ r) (names_more ys x)

scope_more : (assignable : Bool) (names : List Name) (scope : Scope) (i : ℕ) (n : Name) → i < length names → n ≡ get_or names i n
    → declared assignable i (name_view n ∷ []) (scope ++ numbered assignable 0 (names_view (take i names))) ≡ scope ++ numbered assignable 0 (names_view (take (i + 1) names))
scope_more assignable names scope i n lt e =
    let long : i ≡ 0 + length (names_view (take i names)) = omega (arith, length-map (take i names) name_view, length-take-le i names (omega arith)) in
    append_assoc scope (numbered assignable 0 (names_view (take i names))) (numbered assignable i (name_view n ∷ []))
    ∙ ap (λ (j : ℕ). scope ++ (numbered assignable 0 (names_view (take i names)) ++ numbered assignable j (name_view n ∷ []))) long
    ∙ ap (λ (r : List Declared). scope ++ r) (sym (numbered_more assignable 0 (names_view (take i names)) (name_view n)))
    ∙ ap (λ (r : List NameView). scope ++ numbered assignable 0 r) (sym (names_more (take i names) n) ∙ ap names_view (ap (λ x. take i names ++ x ∷ []) e ∙ sym (take_more names i n lt)))

-- one name more is declared
pub declare_turn : (names : List Name) (scope : Scope) (i : ℕ) (n : Name) (found : Bool) → i < length names → n ≡ get_or names i n
    → found ≡ (is_some (declared_as scope n.text.items) || is_among (names_view (take i names)) n.text.items)
    → declare_fault i (names_view (drop i names)) (scope ++ numbered false 0 (names_view (take i names)))
    ≡ or_else (if found then fault_at n.place Twice else None) (declare_fault (i + 1) (names_view (drop (i + 1) names)) (scope ++ numbered false 0 (names_view (take (i + 1) names))))
declare_turn names scope i n found lt e h =
    let here = scope ++ numbered false 0 (names_view (take i names)) in
    let rest = names_view (drop (i + 1) names) in
    at_drop_more (λ ns. declare_fault i (names_view ns) here) names i n lt
    ∙ ap (λ x. declare_fault i (names_view (x ∷ drop (i + 1) names)) here) (sym e)
    ∙ ap (λ (b : Bool). or_else (if b then fault_at n.place Twice else None) (declare_fault (i + 1) rest (declared false i (name_view n ∷ []) here)))
    (declared_append scope false 0 (names_view (take i names)) n.text.items ∙ sym h)
    ∙ ap (λ (s : Scope). or_else (if found then fault_at n.place Twice else None) (declare_fault (i + 1) rest s)) (scope_more false names scope i n lt e)

-- the first fault from the i-th name on, those before it being in scope
abbrev pub declared_from : List Name → Scope → ℕ → Option Fault
declared_from names scope i = declare_fault i (names_view (drop i names)) (scope ++ numbered false 0 (names_view (take i names)))

abbrev pub declared_here : List Name → Scope → ℕ → Name → Option Fault
declared_here names scope i n = among_fault scope (names_view (take i names)) (name_view n)

-- a name without a fault leaves the fault to the others; the fault of one is that of all
pub declare_goes_on : (names : List Name) (scope : Scope) (i : ℕ) (n : Name) (total : Option Fault) → i < length names → n ≡ get_or names i n → declared_here names scope i n ≡ None → declared_from names scope i ≡ total → declared_from names scope (i + 1) ≡ total
declare_goes_on names scope i n total lt e none so_far = sym (declare_turn names scope i n _ lt e refl ∙ ap (λ (f : Option Fault). or_else f (declared_from names scope (i + 1))) none) ∙ so_far

pub declare_stops : (names : List Name) (scope : Scope) (i : ℕ) (n : Name) (total : Option Fault) → i < length names → n ≡ get_or names i n → declared_from names scope i ≡ total → (f : CodeFault) → IsFault (declared_here names scope i n) f → IsFault total f
declare_stops names scope i n total lt e so_far f h =
    subst (λ (x : Option Fault). IsFault x f) (sym (declare_turn names scope i n _ lt e refl) ∙ so_far) (fault_first (declared_here names scope i n) (declared_from names scope (i + 1)) f h)
