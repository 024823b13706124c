-- What a step leaves that makes nothing and stays in its context: its registers name what they named, as much is used, and each object
-- has its kind and its sizes.
use Rattle.std.proofs.Common.{◌≡◌, ℕ, zero, suc, Bool, true, false, List, [], ◌∷◌, Option, Some, None, refl, sym, ◌∙◌, subst}
use Rattle.std.specs.Prelude.{◌==◌, ℤ, if◌then◌else◌}
use Rattle.st_model.specs.declared.dead.Dead.{Dead}
use Rattle.st_model.specs.declared.page.PageObject.{PageObject}
use Rattle.st_model.specs.declared.bytecode.Operand.{Operand}
use Rattle.st_model.specs.declared.bytecode.Operand.TheVariants.{ReceiverVariable, TemporaryVariable, LiteralConstant, LiteralVariable}
use Rattle.st_model.specs.declared.bytecode.Constant.{Constant}
use Rattle.st_model.specs.declared.bytecode.Constant.TheVariants as constant
use Rattle.st_model.specs.declared.bytecode.Bytecode.{Bytecode}
use Rattle.st_model.specs.declared.bytecode.Bytecode.TheVariants as code
use Rattle.st_model.specs.declared.integers.IntAnswer.{IntAnswer}
use Rattle.st_model.specs.declared.integers.IntAnswer.TheVariants.{Number, Truth, Point}
use Rattle.st_model.specs.Values.{Value, Small, Ref}
use Rattle.st_model.specs.Objects.{Object, one, words_of, with_field}
use Rattle.st_model.specs.Machine.{Registers, State, Transition, Died, Went, Step, is_there, used, answer, die, after, or_left, tried, ◌>>=◌, ◌>>◌}
use Rattle.st_model.specs.Steps.{get_active, get_home, get_method, get_receiver, get_ip, get_sp, set_ip, set_sp, found, object_named, object, stored_at, store_at, set_field, of_page, class_of, same_value, or_die, check, integer_or_die, fetch_field, store_field, fetch_fields, store_fields, transfer, count_fields, put, push, top, under, drop_words, pop, literal, byte_at, next_byte, jump}
use Rattle.st_model.specs.Primitives.{pop_words, answer_with, truth}
use Rattle.st_model.specs.Arithmetic.{integer_under, equivalence, receiver_class}
use Rattle.st_model.specs.Bytecodes.{fetch_receiver_variable, fetch_temporary_variable, fetch_literal_constant, fetch_literal_variable, fetch_operand, store_receiver_variable, store_temporary_variable, store_literal_variable, store_operand, push_operand, store_and_pop, push_receiver, constant_value, push_constant, extended_push, extended_store, extended_store_and_pop, pop_stack, duplicate_top, push_active_context, short_unconditional_jump, long_unconditional_jump}
use Rattle.st_model.specs.Table.{Table, table, bounded_table, entry}
use Rattle.st_model.proofs.FormedLemmas.{words_of-with_field}
use Rattle.st_model.proofs.WholeLemmas.{total_used-changed}
use Rattle.st_memory.proofs.Wide.{store_field-bounded, transfer-bounded}
use Rattle.st_control.specs.inside.AtOnce.{at_once, jump_at_once}
use Rattle.st_at_once.specs.inside.AtOnce.{NamesSame, argument_answer, replace_pair, answered_at_once, arithmetic_at_once_by, arithmetic_at_once, primitive_at_once, long_jump_at_once, bytecode_at_once}
use Rattle.st_at_once.proofs.Keeping.{KeepsSizes, KeepsBy, keeps_same, keeps_then, keeps_changed, stored_sized}
use Rattle.st_at_once.proofs.Uses.{Keeps}

pub record InContext (s t : State Table) : Type 0 where
  pub names : NamesSame s.registers t.registers
  pub used : used table t.memory ≡ used table s.memory
  pub sizes : KeepsSizes s.memory t.memory

abbrev same : (r : Registers) → NamesSame r r
same r = record { active = refl; home = refl; method = refl; receiver = refl }

pub names_then : (r q p : Registers) → NamesSame r q → NamesSame q p → NamesSame r p
names_then r q p a b = record { active = b.active ∙ a.active; home = b.home ∙ a.home; method = b.method ∙ a.method; receiver = b.receiver ∙ a.receiver }

named : (s : State Table) (r : Registers) → NamesSame s.registers r → InContext s (record s { registers = r })
named s r n = record { names = n; used = refl; sizes = keeps_same s.memory s.memory refl }

as_it_was : (s : State Table) → InContext s s
as_it_was s = named s s.registers (same s.registers)

context_then : (s t u : State Table) → InContext s t → InContext t u → InContext s u
context_then s t u a b = record {
  names = names_then s.registers t.registers u.registers a.names b.names;
  used = b.used ∙ a.used;
  sizes = keeps_then s.memory t.memory u.memory a.sizes b.sizes;
}

-- so it leaves the state, where it goes on
abbrev pub Left : {A : Type 0} → State Table → Transition (State Table) A → Type 0
Left s (Died cause) = Unit {0}
Left s (Went a t) = InContext s t

pub record Stays {A : Type 0} (m : Step Table A) : Type 0 where
  pub stays : (s : State Table) → Left s (m.run s)

left_then : {A : Type 0} (s t : State Table) (o : Transition (State Table) A) → InContext s t → Left t o → Left s o
left_then s t (Died cause) a l = tt
left_then s t (Went x u) a l = context_then s t u a l

after_stays : {A B : Type 0} (s : State Table) (o : Transition (State Table) A) (f : A → Step Table B) → Left s o → ((a : A) → Stays (f a)) → Left s (after o (λ a t. (f a).run t))
unfolding after
after_stays s (Died cause) f l h = tt
after_stays s (Went a t) f l h = left_then s t ((f a).run t) l ((h a).stays t)

then_stays : {A B : Type 0} (m : Step Table A) (f : A → Step Table B) → Stays m → ((a : A) → Stays (f a)) → Stays (m >>= f)
unfolding ◌>>=◌
then_stays m f h k = record { stays = λ s. after_stays s (m.run s) f (h.stays s) k }

answer_stays : {A : Type 0} (x : A) → Stays (answer x)
unfolding answer
answer_stays x = record { stays = λ s. as_it_was s }

die_stays : {A : Type 0} (d : Dead) → Stays (die {A = A} d)
unfolding die
die_stays d = record { stays = λ s. tt }

if_stays : {A : Type 0} (b : Bool) (m n : Step Table A) → Stays m → Stays n → Stays (if b then m else n)
if_stays true m n h k = h
if_stays false m n h k = k

check_stays : (d : Dead) (b : Bool) → Stays (check d b)
unfolding check
check_stays d true = answer_stays tt
check_stays d false = die_stays d

or_die_stays : {A : Type 0} (d : Dead) (x : Option A) → Stays (or_die d x)
unfolding or_die
or_die_stays d None = die_stays d
or_die_stays d (Some a) = answer_stays a

or_left_stays : {A : Type 0} (s : State Table) (o : Transition (State Table) A) → Left s o → Left s (or_left s o)
or_left_stays s (Died cause) l = as_it_was s
or_left_stays s (Went a t) l = l

tried_stays : {A : Type 0} (m : Step Table A) → Stays m → Stays (tried m)
unfolding tried
tried_stays m h = record { stays = λ s. or_left_stays s (m.run s) (h.stays s) }

-- registers

active_stays : Stays get_active
unfolding get_active
active_stays = record { stays = λ s. as_it_was s }

home_stays : Stays get_home
unfolding get_home
home_stays = record { stays = λ s. as_it_was s }

method_stays : Stays get_method
unfolding get_method
method_stays = record { stays = λ s. as_it_was s }

receiver_stays : Stays get_receiver
unfolding get_receiver
receiver_stays = record { stays = λ s. as_it_was s }

ip_stays : Stays get_ip
unfolding get_ip
ip_stays = record { stays = λ s. as_it_was s }

sp_stays : Stays get_sp
unfolding get_sp
sp_stays = record { stays = λ s. as_it_was s }

set_ip_stays : (n : ℤ) → Stays (set_ip n)
unfolding set_ip
set_ip_stays n = record { stays = λ s. named s (record s.registers { ip = n }) (record { active = refl; home = refl; method = refl; receiver = refl }) }

set_sp_stays : (n : ℕ) → Stays (set_sp n)
unfolding set_sp
set_sp_stays n = record { stays = λ s. named s (record s.registers { sp = n }) (record { active = refl; home = refl; method = refl; receiver = refl }) }

jump_stays : (d : ℤ) → Stays (jump d)
unfolding jump ◌>>◌
jump_stays d = then_stays _ _ ip_stays (λ ip. then_stays _ _ (check_stays _ _) (λ u. then_stays _ _ (check_stays _ _) (λ u. set_ip_stays _)))

drop_stays : (n : ℕ) → Stays (drop_words n)
unfolding drop_words ◌>>◌
drop_stays n = then_stays _ _ sp_stays (λ sp. then_stays _ _ (check_stays _ _) (λ u. set_sp_stays _))

integer_stays : (v : Value) → Stays (integer_or_die v)
unfolding integer_or_die
integer_stays (Small n) = answer_stays _
integer_stays (Ref n) = die_stays _

-- objects

found_stays : (e : Option Object) → Stays (found e)
unfolding found
found_stays None = die_stays _
found_stays (Some o) = answer_stays o

named_stays : (n : ℕ) → Stays (object_named table n)
unfolding object_named
named_stays n = record { stays = λ s. (found_stays (entry s.memory n)).stays s }

object_stays : (v : Value) → Stays (object table v)
unfolding object
object_stays (Small n) = die_stays _
object_stays (Ref n) = named_stays n

stored_stays : (n i : ℕ) (x : Value) (s : State Table) (e : Option Object) (b : Bool) → entry s.memory n ≡ e → Left s (stored_at table n i x s e b)
unfolding stored_at
stored_stays n i x s None b is = tt
stored_stays n i x s (Some o) false is = tt
stored_stays n i x s (Some o) true is = record {
  names = same s.registers;
  used = λ j. record { entries = total_used-changed one s.memory n o (with_field o i x) is refl j; words = total_used-changed words_of s.memory n o (with_field o i x) is (words_of-with_field o i x) j };
  sizes = keeps_changed s.memory n o (with_field o i x) is (stored_sized o i x);
}

set_field_stays : (v : Value) (i : ℕ) (x : Value) → Stays (set_field table v i x)
unfolding set_field store_at
set_field_stays (Small n) i x = die_stays _
set_field_stays (Ref n) i x = record { stays = λ s. stored_stays n i x s (entry s.memory n) (is_there table s.memory x) refl }

page_stays : (q : PageObject) → Stays (of_page table q)
unfolding of_page
page_stays q = record { stays = λ s. as_it_was s }

class_stays : (v : Value) → Stays (class_of table v)
unfolding class_of
class_stays (Small n) = page_stays _
class_stays (Ref n) = then_stays _ _ (named_stays n) (λ o. answer_stays _)

fetch_stays : (v : Value) (i : ℕ) → Stays (fetch_field table v i)
unfolding fetch_field ◌>>◌
fetch_stays v i = then_stays _ _ (object_stays v) (λ o. then_stays _ _ (check_stays _ _) (λ u. or_die_stays _ _))

store_stays : (v : Value) (i : ℕ) (x : Value) → Stays (store_field table v i x)
unfolding store_field ◌>>◌
store_stays v i x = then_stays _ _ (object_stays v) (λ o. then_stays _ _ (check_stays _ _) (λ u. then_stays _ _ (check_stays _ _) (λ u. set_field_stays v i x)))

fetches_stay : (n : ℕ) (v : Value) (from : ℕ) → Stays (fetch_fields table v from n)
unfolding fetch_fields
fetches_stay zero v from = answer_stays []
fetches_stay (suc n) v from = then_stays _ _ (fetch_stays v from) (λ x. then_stays _ _ (fetches_stay n v (suc from)) (λ xs. answer_stays (x ∷ xs)))

stores_stay : (xs : List Value) (v : Value) (to : ℕ) → Stays (store_fields table v to xs)
unfolding store_fields ◌>>◌
stores_stay [] v to = answer_stays tt
stores_stay (x ∷ xs) v to = then_stays _ _ (store_stays v to x) (λ u. stores_stay xs v (suc to))

transfer_stays : (n : ℕ) (source : Value) (from : ℕ) (target : Value) (to : ℕ) → Stays (transfer table n source from target to)
unfolding transfer
transfer_stays n source from target to = then_stays _ _ (fetches_stay n source from) (λ xs. stores_stay xs target to)

-- so they do over a bounded table

pub bounded_store : (v : Value) (i : ℕ) (x : Value) → Stays (store_field bounded_table v i x)
bounded_store v i x = subst Stays (sym (store_field-bounded v i x)) (store_stays v i x)

pub bounded_transfer : (n : ℕ) (source : Value) (from : ℕ) (target : Value) (to : ℕ) → Stays (transfer bounded_table n source from target to)
bounded_transfer n source from target to = subst Stays (sym (transfer-bounded n source from target to)) (transfer_stays n source from target to)

count_stays : (v : Value) → Stays (count_fields table v)
unfolding count_fields ◌>>◌
count_stays v = then_stays _ _ (object_stays v) (λ o. then_stays _ _ (check_stays _ _) (λ u. answer_stays _))

literal_stays : (v : Value) (i : ℕ) → Stays (literal table v i)
unfolding literal ◌>>◌
literal_stays v i = then_stays _ _ (object_stays v) (λ o. then_stays _ _ (check_stays _ _) (λ u. or_die_stays _ _))

byte_stays : (v : Value) (ip : ℤ) → Stays (byte_at table v ip)
unfolding byte_at ◌>>◌
byte_stays v ip = then_stays _ _ (object_stays v) (λ o. then_stays _ _ (check_stays _ _) (λ u. or_die_stays _ _))

pub next_byte_stays : Stays (next_byte table)
unfolding next_byte ◌>>◌
next_byte_stays = then_stays _ _ method_stays (λ v. then_stays _ _ ip_stays (λ ip. then_stays _ _ (byte_stays v ip) (λ b. then_stays _ _ (set_ip_stays _) (λ u. answer_stays b))))

-- the stack

put_stays : (c : Value) (at : ℕ) (x : Value) → Stays (put table c at x)
unfolding put ◌>>◌
put_stays c at x = then_stays _ _ (count_stays c) (λ n. then_stays _ _ (check_stays _ _) (λ u. then_stays _ _ (check_stays _ _) (λ u. store_stays c at x)))

push_stays : (x : Value) → Stays (push table x)
unfolding push ◌>>◌
push_stays x = then_stays _ _ active_stays (λ c. then_stays _ _ sp_stays (λ sp. then_stays _ _ (put_stays c _ x) (λ u. set_sp_stays _)))

top_stays : Stays (top table)
unfolding top ◌>>◌
top_stays = then_stays _ _ sp_stays (λ sp. then_stays _ _ (check_stays _ _) (λ u. then_stays _ _ active_stays (λ c. fetch_stays c sp)))

under_stays : (k : ℕ) → Stays (under table k)
unfolding under ◌>>◌
under_stays k = then_stays _ _ sp_stays (λ sp. then_stays _ _ (check_stays _ _) (λ u. then_stays _ _ active_stays (λ c. fetch_stays c _)))

pop_stays : Stays (pop table)
unfolding pop ◌>>◌
pop_stays = then_stays _ _ top_stays (λ v. then_stays _ _ sp_stays (λ sp. then_stays _ _ (set_sp_stays _) (λ u. answer_stays v)))

pops_stay : (n : ℕ) → Stays (pop_words table n)
unfolding pop_words
pops_stay zero = answer_stays tt
pops_stay (suc n) = then_stays _ _ pop_stays (λ x. pops_stay n)

answer_with_stays : (n : ℕ) (v : Value) → Stays (answer_with table n v)
unfolding answer_with ◌>>◌
answer_with_stays n v = then_stays _ _ (pops_stay _) (λ u. push_stays v)

truth_stays : (b : Bool) → Stays (truth table b)
unfolding truth
truth_stays true = page_stays _
truth_stays false = page_stays _

-- operands

constant_stays : (i : ℕ) → Stays (fetch_literal_constant table i)
unfolding fetch_literal_constant
constant_stays i = then_stays _ _ method_stays (λ v. literal_stays v i)

operand_stays : (o : Operand) → Stays (fetch_operand table o)
unfolding fetch_operand fetch_receiver_variable fetch_temporary_variable fetch_literal_variable
operand_stays (ReceiverVariable i) = then_stays _ _ receiver_stays (λ v. fetch_stays v i)
operand_stays (TemporaryVariable i) = then_stays _ _ home_stays (λ v. fetch_stays v _)
operand_stays (LiteralConstant i) = constant_stays i
operand_stays (LiteralVariable i) = then_stays _ _ (constant_stays i) (λ v. fetch_stays v 1)

store_operand_stays : (o : Operand) (x : Value) → Stays (store_operand table o x)
unfolding store_operand store_receiver_variable store_temporary_variable store_literal_variable
store_operand_stays (ReceiverVariable i) x = then_stays _ _ receiver_stays (λ v. store_stays v i x)
store_operand_stays (TemporaryVariable i) x = then_stays _ _ home_stays (λ v. store_stays v _ x)
store_operand_stays (LiteralConstant i) x = die_stays _
store_operand_stays (LiteralVariable i) x = then_stays _ _ (constant_stays i) (λ v. store_stays v 1 x)

push_operand_stays : (o : Operand) → Stays (push_operand table o)
unfolding push_operand
push_operand_stays o = then_stays _ _ (operand_stays o) push_stays

store_and_pop_stays : (o : Operand) → Stays (store_and_pop table o)
unfolding store_and_pop
store_and_pop_stays o = then_stays _ _ pop_stays (store_operand_stays o)

constant_value_stays : (c : Constant) → Stays (constant_value table c)
unfolding constant_value
constant_value_stays constant.True = page_stays _
constant_value_stays constant.False = page_stays _
constant_value_stays constant.Nil = page_stays _
constant_value_stays constant.MinusOne = answer_stays _
constant_value_stays constant.Zero = answer_stays _
constant_value_stays constant.One = answer_stays _
constant_value_stays constant.Two = answer_stays _

-- arithmetic

under_integer_stays : (k : ℕ) → Stays (integer_under table k)
unfolding integer_under
under_integer_stays k = then_stays _ _ (under_stays k) integer_stays

argument_stays : (n : ℕ) (receiver : ℤ) → Stays (argument_answer table n receiver)
unfolding argument_answer
argument_stays n receiver = then_stays _ _ (under_integer_stays 0) (λ b. or_die_stays _ _)

replace_stays : (v : Value) → Stays (at_once (replace_pair table v))
unfolding at_once replace_pair ◌>>◌
replace_stays v = then_stays _ _ (then_stays _ _ (drop_stays 2) (λ u. push_stays v)) (λ u. answer_stays true)

answered_stays : (a : Option IntAnswer) → Stays (answered_at_once table a)
unfolding answered_at_once
answered_stays None = answer_stays false
answered_stays (Some (Number n)) = replace_stays _
answered_stays (Some (Truth b)) = then_stays _ _ (truth_stays b) replace_stays
answered_stays (Some (Point x y)) = answer_stays false

arithmetic_by_stays : (k : ℕ) (v : Value) → Stays (arithmetic_at_once_by table k v)
unfolding arithmetic_at_once_by
arithmetic_by_stays k (Small n) = then_stays _ _ (tried_stays _ (argument_stays _ _)) answered_stays
arithmetic_by_stays k (Ref n) = answer_stays false

equivalence_stays : Stays (equivalence table)
unfolding equivalence
equivalence_stays = then_stays _ _ (under_stays 1) (λ a. then_stays _ _ top_stays (λ b. then_stays _ _ (truth_stays _) (answer_with_stays 1)))

class_answer_stays : Stays (receiver_class table)
unfolding receiver_class
class_answer_stays = then_stays _ _ top_stays (λ a. then_stays _ _ (class_stays a) (answer_with_stays 0))

-- rows

at_once_stays : (n : Step Table Unit) → Stays n → Stays (at_once n)
unfolding at_once ◌>>◌
at_once_stays n h = then_stays _ _ h (λ u. answer_stays true)

jump_on_stays : (wanted other : PageObject) (d : ℤ) → Stays (jump_at_once table wanted other d)
unfolding jump_at_once
jump_on_stays wanted other d =
    then_stays _ _ pop_stays (λ x. then_stays _ _ (page_stays _) (λ a. then_stays _ _ (page_stays _) (λ b.
    if_stays (same_value x a) _ _ (at_once_stays _ (jump_stays d)) (answer_stays _))))

long_jump_stays : (wanted other : PageObject) (i : ℕ) → Stays (long_jump_at_once table wanted other i)
unfolding long_jump_at_once
long_jump_stays wanted other i = then_stays _ _ next_byte_stays (λ b. jump_on_stays wanted other _)

pub row_stays : (b : Bytecode) → Stays (bytecode_at_once table b)
unfolding bytecode_at_once primitive_at_once push_receiver push_constant extended_push extended_store extended_store_and_pop pop_stack duplicate_top push_active_context short_unconditional_jump long_unconditional_jump arithmetic_at_once
row_stays (code.Push o) = at_once_stays _ (push_operand_stays o)
row_stays (code.StoreAndPop o) = at_once_stays _ (store_and_pop_stays o)
row_stays code.PushReceiver = at_once_stays _ (then_stays _ _ receiver_stays push_stays)
row_stays (code.PushConstant c) = at_once_stays _ (then_stays _ _ (constant_value_stays c) push_stays)
row_stays code.ExtendedPush = at_once_stays _ (then_stays _ _ next_byte_stays (λ b. push_operand_stays _))
row_stays code.ExtendedStore = at_once_stays _ (then_stays _ _ next_byte_stays (λ b. then_stays _ _ top_stays (store_operand_stays _)))
row_stays code.ExtendedStoreAndPop = at_once_stays _ (then_stays _ _ next_byte_stays (λ b. store_and_pop_stays _))
row_stays code.PopStack = at_once_stays _ (then_stays _ _ pop_stays (λ x. answer_stays tt))
row_stays code.DuplicateTop = at_once_stays _ (then_stays _ _ top_stays push_stays)
row_stays code.PushActiveContext = at_once_stays _ (then_stays _ _ active_stays push_stays)
row_stays (code.ShortUnconditionalJump i) = at_once_stays _ (jump_stays _)
row_stays (code.ShortJumpOnFalse i) = jump_on_stays _ _ _
row_stays (code.LongUnconditionalJump i) = at_once_stays _ (then_stays _ _ next_byte_stays (λ b. jump_stays _))
row_stays (code.LongJumpOnTrue i) = long_jump_stays _ _ i
row_stays (code.LongJumpOnFalse i) = long_jump_stays _ _ i
row_stays (code.ArithmeticSend k) = then_stays _ _ (under_stays 1) (arithmetic_by_stays k)
row_stays (code.PrimitiveSend k) = if_stays (k == 22) _ _ (at_once_stays _ equivalence_stays) (if_stays (k == 23) _ _ (at_once_stays _ class_answer_stays) (answer_stays false))
row_stays b = answer_stays false

-- what a step that went leaves
pub left_so : {A : Type 0} (m : Step Table A) (s t : State Table) (a : A) → Stays m → m.run s ≡ Went a t → InContext s t
left_so m s t a h e = subst (Left s) e (h.stays s)

pub keeps_sizes : {A : Type 0} (m : Step Table A) → Stays m → KeepsBy m
keeps_sizes m h s t a e = (left_so m s t a h e).sizes

pub keeps_used : {A : Type 0} (m : Step Table A) → Stays m → Keeps m
keeps_used m h s t a e = (left_so m s t a h e).used
