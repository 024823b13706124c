-- What a step says is the word at the top of the stack.
use Rattle.std.proofs.Common.{◌≡◌, ℕ, refl, sym, ◌∙◌, ap, arith}
use Rattle.std.specs.Prelude.{◌-◌}
use Rattle.st_model.specs.declared.dead.Dead.{Dead}
use Rattle.st_model.specs.Values.{Value}
use Rattle.st_model.specs.Outcomes as outcome
use Rattle.st_model.specs.Machine.{State, Died, Went, after, ◌>>=◌, ◌>>◌}
use Rattle.st_model.specs.Steps.{get_sp, get_active, found, object_named, object, check, or_die, fetch_field, top, under}
use Rattle.st_model.specs.Table.{Table, table, bounded_table}

less_none : (n : ℕ) → n - 0 ≡ n
less_none n = omega arith

-- 0 words below the top
top_under : (s : State Table) → (top bounded_table).run s ≡ (under table 0).run s
unfolding top under get_sp get_active fetch_field object object_named found ◌>>=◌ ◌>>◌ after check or_die
top_under s = rw (less_none s.registers.sp) refl

pub said_is : (s : State Table) (o x : Value) → (under table 0).run s ≡ Went o s → (top bounded_table).run s ≡ Went x s → outcome.Say o ≡ outcome.Say x
said_is s o x u e =
    let q : Went o s ≡ Went x s = sym u ∙ (sym (top_under s) ∙ e) in
    let r : o ≡ x = cc in
    ap (λ y. outcome.Say y) r

pub none_said : (s : State Table) (k : Dead) (x : Value) → (under table 0).run s ≡ Died k → (top bounded_table).run s ≡ Went x s → ⊥
none_said s k x u e = let q : Died k ≡ Went x s = sym u ∙ (sym (top_under s) ∙ e) in cc
