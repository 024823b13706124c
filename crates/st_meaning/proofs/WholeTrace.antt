-- The trace of a method, from what its nodes do.
use Rattle.std.proofs.Common.{◌≡◌, ℕ, ◌+◌, ◌≤◌, true, false, List, [], ◌++◌, length, None, refl, sym, ap, ◌∙◌, subst, arith, length-append}
use Rattle.st_scan.specs.declared.tree.Name.{Name}
use Rattle.st_scan.specs.declared.tree.Statement.{Statement}
use Rattle.st_scan.specs.declared.tree.MethodTree.{MethodTree}
use Rattle.st_scan.specs.Views.{MethodView, StatementsView, statements_view, method_view, names_view as names_list}
use Rattle.st_emit.specs.declared.names.Around.{Around}
use Rattle.st_emit.specs.Names.{NamesView, Scope, numbered}
use Rattle.st_emit.specs.Literals.{LiteralView}
use Rattle.st_emit.specs.Resolving.{Context, statements_body}
use Rattle.st_emit.specs.inside.Around.{context}
use Rattle.st_emit.proofs.Forms.{names_many}
use Rattle.st_code.specs.Methods.{body, fault}
use Rattle.st_code.specs.Methods as methods
use Rattle.st_resolved.specs.inside.Seen.{AllBelow, numbers}
use Rattle.st_resolved.proofs.Seen.{below_more}
use Rattle.st_resolved.proofs.Wholes.{few_literals, few_variables, all_below}
use Rattle.st_meaning.specs.declared.deed.Answer.{Answer}
use Rattle.st_meaning.specs.declared.deed.Value.{Value}
use Rattle.st_meaning.specs.declared.arena.Statements.{Statements}
use Rattle.st_meaning.specs.declared.sketch.Sketch.{Sketch}
use Rattle.st_meaning.specs.inside.Values.{AnswerView}
use Rattle.st_meaning.specs.inside.Runs.{Going, Outcome, went, over, long, stuck, unfinished, Run}
use Rattle.st_meaning.specs.inside.Traces.{method_value}
use Rattle.st_meaning.specs.inside.Deeds.{Lists, answers_view}
use Rattle.st_meaning.specs.inside.Meanings.{most, start_of, before_all, enough_turns, IsEnded, Trace}
use Rattle.st_meaning.specs.inside.Traced.{Cut, method_in}
use Rattle.st_meaning.specs.inside.Meant.{IsBody}
use Rattle.st_meaning.specs.inside.Sketches.{runs_in, literals_of, Builds, IsFew, body_naming, IsSketchOf}
use Rattle.st_meaning.proofs.Enough.{has_trace}

abbrev pub the_context : NamesView → Scope → ℕ → Context
the_context names scope n = record { names = names; scope = scope; next = n }

-- a method's arguments and temporaries, as they are declared
pub declared_is : (tree : MethodTree) (names : NamesView) (scope : Scope) (xs ys : List Name) (k n j : ℕ) → k ≡ length tree.arguments.items → j ≡ length tree.temporaries.items → n ≡ k + j → xs ≡ tree.arguments.items → ys ≡ tree.temporaries.items
    → scope ≡ numbered false 0 (names_list xs) ++ numbered true k (names_list ys) → the_context names scope n ≡ methods.context (method_view tree) names
declared_is tree names scope xs ys k n j many more count arguments temporaries is =
    let a = tree.arguments.items in
    let b = tree.temporaries.items in
    let frames = λ (l m : List Name) (i : ℕ). numbered false 0 (names_list l) ++ numbered true i (names_list m) in
    let first : k ≡ length (names_list a) = many ∙ names_many a in
    let second : j ≡ length (names_list b) = more ∙ names_many b in
    let scoped : scope ≡ frames a b (length (names_list a)) = is ∙ ap (λ (l : List Name). frames l ys k) arguments ∙ ap (λ (l : List Name). frames a l k) temporaries ∙ ap (λ (i : ℕ). frames a b i) first in
    let counted : n ≡ length (names_list a) + length (names_list b) = count ∙ ap (λ (i : ℕ). i + j) first ∙ ap (λ (i : ℕ). length (names_list a) + i) second in
    ap (λ (s : Scope). the_context names s n) scoped ∙ ap (λ (i : ℕ). the_context names (frames a b (length (names_list a))) i) counted

-- its variables are few
pub few_is : (t : MethodView) (names : NamesView) (a : Around) → fault t names ≡ None → context a ≡ methods.context t names → IsFew a
few_is t names a sound here =
    subst (λ (c : Context). AllBelow 256 (numbers c.scope)) (sym here)
    (below_more (methods.own_variables t names) 256 (numbers (methods.context t names).scope) (omega (arith, few_variables names t sound)) (all_below names t sound))

-- the nodes of a method, made in its context
pub sketch_is : (t : MethodView) (names : NamesView) (a : Around) (ss : List Statement) (s : Statements) (old new : Sketch) → fault t names ≡ None → literals_of old ≡ [] → context a ≡ methods.context t names → statements_view ss ≡ t.body
    → Builds (body_naming a ss) (IsBody s) old new → IsSketchOf t names new s
sketch_is t names a ss s old new sound none here text b =
    let named = λ (x : StatementsView) (c : Context) (ls : List LiteralView). (statements_body x c ls).literals in
    let literals : literals_of new ≡ (body t names).literals =
    b.literals ∙ ap (λ (x : StatementsView). named x (context a) (literals_of old)) text ∙ ap (λ (c : Context). named t.body c (literals_of old)) here ∙ ap (λ (ls : List LiteralView). named t.body (methods.context t names) ls) none in
    let few : length (literals_of new) ≤ 256 = omega (arith, ap (λ (ls : List LiteralView). length ls) literals, length-append (body t names).literals (methods.last_literals t names), few_literals names t sound) in
    let made = b.part (runs_in new) (record { nodes = λ i m h. h; few = few }) in
    let at_body = subst (λ (x : StatementsView). IsBody s (runs_in new) (statements_body x (context a) (literals_of old)).part) text made in
    let at_context = subst (λ (c : Context). IsBody s (runs_in new) (statements_body t.body c (literals_of old)).part) here at_body in
    subst (λ (ls : List LiteralView). IsBody s (runs_in new) (statements_body t.body (methods.context t names) ls).part) none at_context

-- what they do is the trace
pub trace_is : (t : MethodView) (names : NamesView) (answers : List AnswerView) (sketch : Sketch) (s : Statements) (bound : ℕ) (g : Going) → IsSketchOf t names sketch s → bound ≡ enough_turns most → g ≡ before_all (start_of (length t.arguments)) answers
    → method_in sketch.nodes.items bound s g ≡ Trace t names answers
trace_is t names answers sketch s bound g is enough start =
    ap (λ (m : Run Value). m g) (is.method bound) ∙ ap (λ (n : ℕ). method_value most (body t names).part n g) enough ∙ ap (λ (h : Going). method_value most (body t names).part (enough_turns most) h) start

-- what a trace begins with
pub begun_with : (n m : ℕ) (given held : List Answer) (g : Going) → g ≡ before_all (start_of n) (answers_view held) → n ≡ m → held ≡ given → g ≡ before_all (start_of m) (answers_view given)
begun_with n m given held g begins many same = begins ∙ ap (λ (k : ℕ). before_all (start_of k) (answers_view held)) many ∙ ap (λ (xs : List Answer). before_all (start_of m) (answers_view xs)) same

pub lists_over : (o : Outcome Value) (d : Going) → o ≡ over d → Lists o d.deeds
lists_over o d e = subst (λ (x : Outcome Value). Lists x d.deeds) (sym e) refl

cut_long : (o : Outcome Value) → IsEnded o → Cut o → o ≡ long
cut_long (went v g) h k = absurd k
cut_long (over d) h k = absurd k
cut_long long h k = refl
cut_long (stuck d) h k = absurd k
cut_long unfinished h k = absurd h

-- a trace that is cut is too long: each method has one
pub trace_long : (t : MethodView) (names : NamesView) (answers : List AnswerView) (o : Outcome Value) → o ≡ Trace t names answers → Cut o → Trace t names answers ≡ long
trace_long t names answers o is h = cut_long (Trace t names answers) (has_trace most (length t.arguments) answers (body t names).part) (subst (λ (x : Outcome Value). Cut x) is h)
