-- What is wanted leaves what is there.
use Rattle.std.proofs.Common.{◌≡◌, ℕ, suc, ◌+◌, ◌*◌, ◌≤◌, Bool, true, false, cond, List, [], ◌∷◌, ◌++◌, length, nat_eq, refl, sym, subst, ap, ◌∙◌, arith}
use Rattle.std.specs.Prelude.{◌&&◌, not, Result, Ok, Err, IsErrAnd}
use Rattle.st_first_objects.specs.declared.unmade.Unmade.{Unmade}
use Rattle.st_first_objects.specs.declared.unmade.Unmade.TheVariants.{NoRoom, OutOfMemory}
use Rattle.st_first_objects.specs.inside.Ordered.{Becomes, IsOrder}
use Rattle.st_kernel_text.specs.Parts.{Part}
use Rattle.st_kernel_text.specs.Known.{Names}
use Rattle.st_kernel_text.specs.Texts.{Account}
use Rattle.st_first_objects.specs.declared.thing.What.TheVariants as what
use Rattle.st_first_objects.specs.Things.{Thing, numbered, is}
use Rattle.st_first_objects.specs.Orders.{Order, is_made, put, with_symbol, want, want_all, wanted_by, want_parts, order, last_things, first_things, empty, selectors, selector_symbols, scheduling, lists}

-- the things of one order begin those of another
pub record Begins (o p : Order) : Type 0 where
  pub rest : List Thing
  pub is : p.things ≡ o.things ++ rest

append_nil : (ts : List Thing) → ts ≡ ts ++ []
append_nil [] = refl
append_nil (t ∷ ts) = ap (λ (xs : List Thing). t ∷ xs) (append_nil ts)

append_more : (xs ys zs : List Thing) → (xs ++ ys) ++ zs ≡ xs ++ (ys ++ zs)
append_more [] ys zs = refl
append_more (x ∷ xs) ys zs = ap (λ (ts : List Thing). x ∷ ts) (append_more xs ys zs)

itself : (o : Order) → Begins o o
itself o = record { rest = []; is = append_nil o.things }

pub further : (o p q : Order) → Begins o p → Begins p q → Begins o q
further o p q a b = record { rest = a.rest ++ b.rest; is = b.is ∙ ap (λ (ts : List Thing). ts ++ b.rest) a.is ∙ append_more o.things a.rest b.rest }

put_begins : (o : Order) (t : Thing) → Begins o (put o t)
put_begins o t = by (is_made o t)
  where
    by : (b : Bool) → Begins o (cond b o (record { things = o.things ++ t ∷ []; symbols = o.symbols; places = o.places }))
    by true = itself o
    by false = record { rest = t ∷ []; is = refl }

symbol_begins : (o : Order) → Begins o (with_symbol o)
symbol_begins o = by (nat_eq o.symbols o.places) (put_begins (record { things = o.things; symbols = o.symbols + 1; places = 2 * o.places }) (numbered what.SymbolTable (2 * o.places)))
  where
    more : Order
    more = record { things = o.things; symbols = o.symbols + 1; places = 2 * o.places }

    by : (b : Bool) → Begins more (put more (numbered what.SymbolTable (2 * o.places)))
        → Begins o (cond b (put more (numbered what.SymbolTable (2 * o.places))) (record { things = o.things; symbols = o.symbols + 1; places = o.places }))
    by true grown = record { rest = grown.rest; is = grown.is }
    by false grown = record { rest = []; is = append_nil o.things }

want_begins : (o : Order) (t : Thing) → Begins o (want o t)
unfolding want
want_begins o t = by (not (is_made o t) && is what.Symbol t) (put_begins o t) (symbol_begins (put o t))
  where
    by : (b : Bool) → Begins o (put o t) → Begins (put o t) (with_symbol (put o t)) → Begins o (cond b (with_symbol (put o t)) (put o t))
    by true x y = further o (put o t) (with_symbol (put o t)) x y
    by false x y = x

pub all_begins : (o : Order) (ts : List Thing) → Begins o (want_all o ts)
all_begins o [] = itself o
all_begins o (t ∷ ts) = further o (want o t) (want_all (want o t) ts) (want_begins o t) (all_begins (want o t) ts)

pub parts_begin : (names : Names) (o : Order) (number : ℕ) (ps : List Part) → Begins o (want_parts names o number ps)
parts_begin names o number [] = itself o
parts_begin names o number (p ∷ ps) =
    let next = want_all o (wanted_by names number p) in
    further o next (want_parts names next (suc number) ps) (all_begins o (wanted_by names number p)) (parts_begin names next (suc number) ps)

pub last_begin : (o : Order) → Begins o (last_things o)
last_begin o =
    let a = want_all o (selector_symbols selectors) in
    let b = want_all a scheduling in
    further o b (want_all b lists) (further o a b (all_begins o (selector_symbols selectors)) (all_begins a scheduling)) (all_begins b lists)

length_more : (xs ys : List Thing) → length xs ≤ length (xs ++ ys)
length_more [] ys = omega arith
length_more (x ∷ xs) ys = let l = length_more xs ys in omega arith

pub fewer : (o p : Order) → Begins o p → length o.things ≤ length p.things
fewer o p b = let l = length_more o.things b.rest in let e = ap length b.is in omega arith

-- NO ROOM

pub no_memory : (whole now : Order) (r : Result Unit Unmade) → IsErrAnd r (λ e. e ≡ OutOfMemory) → Becomes whole now r
no_memory whole now (Ok done) e = absurd e
no_memory whole now (Err u) e = subst (λ (x : Unmade). Becomes whole now (Err x)) (sym e) tt

passed : (a : Account) (o now : Order) (u : Unmade) → Becomes (want_parts a.names o 0 a.parts) now (Err u) → IsOrder (last_things (want_parts a.names o 0 a.parts)) (Err u)
passed a o now NoRoom e =
    let whole = want_parts a.names o 0 a.parts in
    let l = fewer whole (last_things whole) (last_begin whole) in
    omega arith
passed a o now OutOfMemory e = tt

pub passed_on : (a : Account) (o now : Order) (u : Unmade) → o ≡ first_things empty → Becomes (want_parts a.names o 0 a.parts) now (Err u) → IsOrder (order a) (Err u)
passed_on a o now u begun e =
    passed a (first_things empty) now u (subst (λ (start : Order). Becomes (want_parts a.names start 0 a.parts) now (Err u)) begun e)
