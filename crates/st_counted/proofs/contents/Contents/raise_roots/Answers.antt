use Rattle.std.proofs.Common.{◌≡◌, ℕ, ◌+◌, ◌≤◌, Bool, List, [], ◌∷◌, map, cond, true, false, zero, suc, sym, ap, ◌∙◌, subst, arith}
use Rattle.std.specs.Prelude.{Option, Some, None, slice_get}
use Rattle.st_model.specs.Limits.{most_words}
use Rattle.st_model.specs.declared.oop.Oop.{Oop}
use Rattle.st_model.specs.declared.page.PageObject.TheVariants as page_object
use Rattle.st_model.specs.Values.{Value, value, value_of}
use Rattle.st_model.specs.Objects.{nil, page}
use Rattle.st_model.specs.Machine.{table_root}
use Rattle.st_model.specs.Table.{Table}
use Rattle.st_model.specs.Settled.{names}
use Rattle.st_model.specs.View.{is_live, table_of, IsKnown, IsWhole}
use Rattle.st_counted.specs.inside.Contents.{counts_of}
use Rattle.st_heap.specs.inside.Tables.{objects_of}
use Rattle.st_counted.specs.declared.contents.Contents.{Contents}
use Rattle.st_counted.specs.inside.References.{times, uses, page_values, all_roots, raised_by, IsTallied, IsEntered, AddsReferences, IsCounted}
use Rattle.st_counted.specs.inside.Counted.{counted_view, numbers_of}
use Rattle.st_counted.proofs.Tallying.{known_counted, tally_entered, tally_most, tally_raised}
use Rattle.st_counted.proofs.Rooting.{times_few, uses_few}
use Rattle.st_counted.proofs.Finishing.{adds_to, page_known, all_counted}
use Rattle.st_counted.proofs.contents.Contents.raise_roots.Goals as goal

abbrev objs : Contents → Table
objs m = objects_of m.objects

-- how often what is counted so far names j

abbrev with_page : Contents → ℕ → ℕ
with_page m j = times j (page_values page) + uses j (objs m)

abbrev with_nil : Contents → ℕ → ℕ
with_nil m j = cond (names nil j) 4106 0 + with_page m j

abbrev with_globals : Contents → ℕ → ℕ
with_globals m j = times j (table_root (table_of m.head.globals.0)) + with_nil m j

abbrev with_symbols : Contents → ℕ → ℕ
with_symbols m j = times j (table_root (table_of m.head.symbols.0)) + with_globals m j

uses_small : (m : Contents) (j : ℕ) → IsWhole (counted_view m) → uses j (objs m) ≤ most_words
uses_small m j whole = let a = uses_few j (objs m) whole.formed in let b = whole.words in let d = whole.most_words in omega (arith, a, b, d)

page_small : (j : ℕ) → times j (page_values page) ≤ 20
page_small j = let a = times_few j (page_values page) in omega (arith, a)

nil_small : (j : ℕ) → cond (names nil j) 4106 0 ≤ 4106
nil_small j = by_case (names nil j)
  where
    by_case : (b : Bool) → cond b 4106 0 ≤ 4106
    by_case true = omega arith
    by_case false = omega arith

root_small : (j w : ℕ) → times j (table_root (table_of w)) ≤ 1
root_small j w = by_case (table_of w)
  where
    by_case : (x : Option Value) → times j (table_root x) ≤ 1
    by_case None = omega arith
    by_case (Some v) = let a = times_few j (v ∷ []) in omega (arith, a)

nil_known : (m : Contents) → IsWhole (counted_view m) → IsKnown (objs m) nil
nil_known m whole = λ s. whole.complete.page page_object.NilObject

tally_page : (m s1 : Contents) → IsTallied (objs m) (λ k. uses k (objs m)) (numbers_of m) → AddsReferences (objs m) (numbers_of m) (numbers_of s1) (page_values page) → IsTallied (objs m) (with_page m) (numbers_of s1)
tally_page m s1 h adds = adds_to (objs m) (λ k. uses k (objs m)) (numbers_of m) (numbers_of s1) (page_values page) h adds

tally_nil : (m s1 : Contents) (cs2 : List (Option ℕ)) → IsWhole (counted_view m) → IsTallied (objs m) (with_page m) (numbers_of s1) → cs2 ≡ raised_by (numbers_of s1) nil 4106 → IsTallied (objs m) (with_nil m) cs2
tally_nil m s1 cs2 whole h e = subst (IsTallied (objs m) (with_nil m)) (sym e) (tally_raised (objs m) (with_page m) (numbers_of s1) nil 4106 h (nil_known m whole))

tally_globals : (m s1 : Contents) (cs2 cs3 : List (Option ℕ)) → s1 ≡ record m { counts = s1.counts } → IsTallied (objs m) (with_nil m) cs2 → AddsReferences (objs s1) cs2 cs3 (table_root (table_of s1.head.globals.0)) → IsTallied (objs m) (with_globals m) cs3
tally_globals m s1 cs2 cs3 r h adds =
    adds_to (objs m) (with_nil m) cs2 cs3 (table_root (table_of m.head.globals.0)) h (subst (λ (y : Contents). AddsReferences (objs y) cs2 cs3 (table_root (table_of y.head.globals.0))) r adds)

tally_symbols : (m s3 : Contents) (cs3 cs4 : List (Option ℕ)) → s3 ≡ record m { counts = s3.counts } → IsTallied (objs m) (with_globals m) cs3 → AddsReferences (objs s3) cs3 cs4 (table_root (table_of s3.head.symbols.0)) → IsTallied (objs m) (with_symbols m) cs4
tally_symbols m s3 cs3 cs4 r h adds =
    adds_to (objs m) (with_globals m) cs3 cs4 (table_root (table_of m.head.symbols.0)) h (subst (λ (y : Contents). AddsReferences (objs y) cs3 cs4 (table_root (table_of y.head.symbols.0))) r adds)

value_at : (words : List Oop) (i : ℕ) (o : Oop) → slice_get words i ≡ Some o → slice_get (map value words) i ≡ Some (value o)
value_at [] i o h = cc
value_at (w ∷ ws) zero o h = ap value_in h
  where
    value_in : Option Oop → Option Value
    value_in None = None
    value_in (Some x) = Some (value x)
value_at (w ∷ ws) (suc i) o h = value_at ws i o h

-- the words of the root page
abbrev page_words : List Oop
page_words = record { 0 = 2 } ∷ record { 0 = 4 } ∷ record { 0 = 6 } ∷ record { 0 = 8 } ∷ record { 0 = 12 } ∷ record { 0 = 14 } ∷ record { 0 = 16 } ∷ record { 0 = 22 } ∷ record { 0 = 24 } ∷ record { 0 = 26 } ∷ record { 0 = 28 } ∷ record { 0 = 32 } ∷ record { 0 = 34 } ∷ record { 0 = 40 } ∷ record { 0 = 42 } ∷ record { 0 = 44 } ∷ record { 0 = 48 } ∷ record { 0 = 50 } ∷ record { 0 = 52 } ∷ record { 0 = 56 } ∷ []

pub raise_all-requires-clause-known : goal.raise_all-requires-clause-known
unfolding value_of
raise_all-requires-clause-known c = λ i o h. page_known (counted_view c.args.self.now) (value o) i c.requires.whole (value_at page_words i o h)

pub raise_all-requires-clause-entered : goal.raise_all-requires-clause-entered
raise_all-requires-clause-entered c = let m = c.args.self.now in tally_entered (objs m) (λ k. uses k (objs m)) (numbers_of m) c.requires.tallied

pub raise_all-requires-clause-room : goal.raise_all-requires-clause-room
raise_all-requires-clause-room c = λ j.
    let m = c.args.self.now in
    let a = tally_most (objs m) (λ k. uses k (objs m)) (numbers_of m) j c.requires.tallied in
    let b = uses_small m j c.requires.whole in omega (arith, a, b)

pub add-requires-clause-counted : goal.add-requires-clause-counted
unfolding value_of
add-requires-clause-counted c small =
    let m = c.args.self.now in
    known_counted (objs m) (with_page m) (numbers_of c.raise_all.new.self) 2 (tally_page m c.raise_all.new.self c.requires.tallied c.raise_all.ensures.adds) (nil_known m c.requires.whole) small

pub add-requires-clause-room : goal.add-requires-clause-room
unfolding value_of
add-requires-clause-room c =
    let m = c.args.self.now in
    let a = tally_most (objs m) (with_page m) (numbers_of c.raise_all.new.self) 1 (tally_page m c.raise_all.new.self c.requires.tallied c.raise_all.ensures.adds) in
    let b = uses_small m 1 c.requires.whole in
    let d = page_small 1 in omega (arith, a, b, d)

pub raise_table-requires-clause-known : goal.raise_table-requires-clause-known
raise_table-requires-clause-known c =
    subst (λ (y : Contents). (x : Value) → table_of y.head.globals.0 ≡ Some x → is_live (objs y) x ≡ true) (sym c.raise_all.ensures.rest) c.requires.whole.complete.globals

pub raise_table-requires-clause-entered : goal.raise_table-requires-clause-entered
unfolding value_of
raise_table-requires-clause-entered c =
    let m = c.args.self.now in
    let s1 = c.raise_all.new.self in
    let cs2 = counts_of c.add.new.counts in
    subst (λ (y : Contents). IsEntered (objs y) cs2) (sym c.raise_all.ensures.rest)
    (tally_entered (objs m) (with_nil m) cs2 (tally_nil m s1 cs2 c.requires.whole (tally_page m s1 c.requires.tallied c.raise_all.ensures.adds) c.add.ensures))

pub raise_table-requires-clause-room : goal.raise_table-requires-clause-room
unfolding value_of
raise_table-requires-clause-room c = λ j.
    let m = c.args.self.now in
    let s1 = c.raise_all.new.self in
    let cs2 = counts_of c.add.new.counts in
    let a = tally_most (objs m) (with_nil m) cs2 j (tally_nil m s1 cs2 c.requires.whole (tally_page m s1 c.requires.tallied c.raise_all.ensures.adds) c.add.ensures) in
    let b = uses_small m j c.requires.whole in
    let d = page_small j in
    let e = nil_small j in omega (arith, a, b, d, e)

-- what was changed so far are the counts
rest_of : (m s1 s3 : Contents) → s1 ≡ record m { counts = s1.counts } → s3 ≡ record s1 { counts = s3.counts } → s3 ≡ record m { counts = s3.counts }
rest_of m s1 s3 r q = q ∙ ap (λ (y : Contents). record y { counts = s3.counts }) r

pub raise_table-requires-2-clause-known : goal.raise_table-requires-2-clause-known
raise_table-requires-2-clause-known c =
    let r = rest_of c.args.self.now c.raise_all.new.self c.raise_table.new.self c.raise_all.ensures.rest c.raise_table.ensures.rest in
    subst (λ (y : Contents). (x : Value) → table_of y.head.symbols.0 ≡ Some x → is_live (objs y) x ≡ true) (sym r) c.requires.whole.complete.symbols

pub raise_table-requires-2-clause-entered : goal.raise_table-requires-2-clause-entered
unfolding value_of
raise_table-requires-2-clause-entered c =
    let m = c.args.self.now in
    let s1 = c.raise_all.new.self in
    let s3 = c.raise_table.new.self in
    let cs2 = counts_of c.add.new.counts in
    let r1 = c.raise_all.ensures.rest in
    let r = rest_of m s1 s3 r1 c.raise_table.ensures.rest in
    let h = tally_nil m s1 cs2 c.requires.whole (tally_page m s1 c.requires.tallied c.raise_all.ensures.adds) c.add.ensures in
    subst (λ (y : Contents). IsEntered (objs y) (numbers_of s3)) (sym r) (tally_entered (objs m) (with_globals m) (numbers_of s3) (tally_globals m s1 cs2 (numbers_of s3) r1 h c.raise_table.ensures.adds))

pub raise_table-requires-2-clause-room : goal.raise_table-requires-2-clause-room
unfolding value_of
raise_table-requires-2-clause-room c = λ j.
    let m = c.args.self.now in
    let s1 = c.raise_all.new.self in
    let s3 = c.raise_table.new.self in
    let cs2 = counts_of c.add.new.counts in
    let h = tally_nil m s1 cs2 c.requires.whole (tally_page m s1 c.requires.tallied c.raise_all.ensures.adds) c.add.ensures in
    let a = tally_most (objs m) (with_globals m) (numbers_of s3) j (tally_globals m s1 cs2 (numbers_of s3) c.raise_all.ensures.rest h c.raise_table.ensures.adds) in
    let b = uses_small m j c.requires.whole in
    let d = page_small j in
    let e = nil_small j in
    let f = root_small j m.head.globals.0 in omega (arith, a, b, d, e, f)

pub returns-clause-rest : goal.returns-clause-rest
returns-clause-rest c =
    let m = c.args.self.now in
    let s3 = c.raise_table.new.self in
    rest_of m s3 c.raise_table-2.new.self (rest_of m c.raise_all.new.self s3 c.raise_all.ensures.rest c.raise_table.ensures.rest) c.raise_table-2.ensures.rest

pub returns-clause-counted : goal.returns-clause-counted
unfolding value_of
returns-clause-counted c =
    let m = c.args.self.now in
    let s1 = c.raise_all.new.self in
    let s3 = c.raise_table.new.self in
    let s4 = c.raise_table-2.new.self in
    let cs2 = counts_of c.add.new.counts in
    let r1 = c.raise_all.ensures.rest in
    let r3 = rest_of m s1 s3 r1 c.raise_table.ensures.rest in
    let r4 = rest_of m s3 s4 r3 c.raise_table-2.ensures.rest in
    let h = tally_nil m s1 cs2 c.requires.whole (tally_page m s1 c.requires.tallied c.raise_all.ensures.adds) c.add.ensures in
    let g = tally_globals m s1 cs2 (numbers_of s3) r1 h c.raise_table.ensures.adds in
    subst (λ (y : Contents). IsCounted (objs y) (all_roots (counted_view y)) [] (numbers_of s4)) (sym r4)
    (all_counted (counted_view m) (numbers_of s4) c.requires.whole c.requires.held (tally_symbols m s3 (numbers_of s3) (numbers_of s4) r3 g c.raise_table-2.ensures.adds))
