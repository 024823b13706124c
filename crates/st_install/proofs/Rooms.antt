-- Whether there is room for a plan, by what a memory says, and how many words its objects have.
use Rattle.std.proofs.Common.{◌≡◌, ℕ, suc, ◌+◌, ◌*◌, ◌^◌, ◌<◌, ◌≤◌, List, [], ◌∷◌, length, Some, Bool, true, false, Ok, Err, refl, sym, ap, ◌∙◌, arith}
use Rattle.std.specs.Prelude.{not, ◌&&◌, nat_lt, nat_le, if◌then◌else◌}
use Rattle.std.specs.List.{AllByRecursion}
use Rattle.std.proofs.lemmas.Bool.Decides.{nat_tests}
use Rattle.std.proofs.lemmas.List.{length-map}
use Rattle.st_model.specs.declared.demand.Demand.{Demand}
use Rattle.st_model.specs.Machine.{State, Went, used, is_over, answer, after, ◌>>=◌}
use Rattle.st_model.specs.Objects.{one, words_of}
use Rattle.st_model.specs.Table.{Table, table, total_used}
use Rattle.st_model.specs.View.{View, fits}
use Rattle.st_scope.specs.declared.fault.InstallFault.TheVariants.{NoRoom}
use Rattle.st_install.specs.declared.plan.NewObject.{NewObject as CodeObject}
use Rattle.st_install.specs.inside.Readies.{object_of, objects_of}
use Rattle.st_install.specs.Plans.{NewObject, Plan, words_of_new, words_of_all, demand_of_all}
use Rattle.st_install.specs.Calls.{both, is_crowded, room_or, with_room}

over_if : (a b c d : ℕ) (x y : Bool) → nat_le b a ≡ x → nat_le d c ≡ y → (if nat_lt a b then true else nat_lt c d) ≡ not (x && y)
over_if a b c d true true e f =
    let p : nat_lt a b ≡ false = grind (arith, nat_tests) in
    let q : nat_lt c d ≡ false = grind (arith, nat_tests) in
    rw (p, q) refl
over_if a b c d true false e f =
    let p : nat_lt a b ≡ false = grind (arith, nat_tests) in
    let q : nat_lt c d ≡ true = grind (arith, nat_tests) in
    rw (p, q) refl
over_if a b c d false y e f =
    let p : nat_lt a b ≡ true = grind (arith, nat_tests) in
    rw p refl

-- the objects are crowded where they don't fit
over_is : (v : View) (d : Demand) → is_over (both (used table v.objects) d) v.head ≡ not (fits v d)
over_is v d = over_if v.head.entries (total_used one v.objects + d.entries) v.head.words (total_used words_of v.objects + d.words) _ _ refl refl

told : (v : View) (p : Plan) (s : State Table) → s.memory ≡ v.objects → (with_room table v.head (Some p)).run s ≡ Went (room_or p (not (fits v (demand_of_all p.objects)))) s
unfolding with_room is_crowded answer after ◌>>=◌
told v p s e =
    let o : is_over (both (used table s.memory) (demand_of_all p.objects)) v.head ≡ not (fits v (demand_of_all p.objects)) =
    ap (λ t. is_over (both (used table t) (demand_of_all p.objects)) v.head) e ∙ over_is v (demand_of_all p.objects) in
    ap (λ b. Went (room_or p b) s) o

pub no_room : (v : View) (p : Plan) (d : Demand) → d ≡ demand_of_all p.objects → fits v d ≡ false → (s : State Table) → s.memory ≡ v.objects → (with_room table v.head (Some p)).run s ≡ Went (Err (NoRoom d)) s
no_room v p d e f s g =
    let h : fits v (demand_of_all p.objects) ≡ false = ap (fits v) (sym e) ∙ f in
    told v p s g ∙ ap (λ b. Went (room_or p (not b)) s) h ∙ ap (λ x. Went (Err (NoRoom x)) s) (sym e)

pub has_room : (v : View) (p : Plan) (d : Demand) → d ≡ demand_of_all p.objects → fits v d ≡ true → (s : State Table) → s.memory ≡ v.objects → (with_room table v.head (Some p)).run s ≡ Went (Ok p) s
has_room v p d e f s g =
    let h : fits v (demand_of_all p.objects) ≡ true = ap (fits v) (sym e) ∙ f in
    told v p s g ∙ ap (λ b. Went (room_or p (not b)) s) h

-- WORDS

-- an object has a word or more
pub words_each : (os : List NewObject) → length os ≤ words_of_all os
words_each [] = omega arith
words_each (o ∷ os) = omega (arith, words_each os)

-- as many objects have as many words
pub many_entries : (os : List CodeObject) → 2 ^ 32 ≤ length os → 2 ^ 32 ≤ words_of_all (objects_of os)
many_entries os h = omega (arith, h, length-map os object_of, words_each (objects_of os))

pub ruleset sizes = (many_entries)

words_within : (os : List NewObject) → AllByRecursion (λ o. words_of_new o ≤ 65535) os → words_of_all os ≤ 65535 * length os
words_within [] h = omega arith
words_within (o ∷ os) h = omega (arith, h.0, words_within os h.1)

-- of objects that an object space can hold it takes many to have 2^32 words
pub many_objects : (os : List NewObject) → AllByRecursion (λ o. words_of_new o ≤ 65535) os → 2 ^ 32 ≤ words_of_all os → 65537 < length os
many_objects os h l = omega (arith, words_within os h, l)
