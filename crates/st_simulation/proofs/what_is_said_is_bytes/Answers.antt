-- What a step says is of kind Bytes, and what comes after a step changes no object of the births.
use Rattle.std.proofs.Common.{◌≡◌, Bool, true, false, ◌∙◌, ap, subst, refl}
use Rattle.st_model.specs.Values.{Value}
use Rattle.st_model.specs.Outcomes.{Outcome, With, Say}
use Rattle.st_model.specs.Machine.{State, Transition, Died, Went, is_over, used, roots_of}
use Rattle.st_model.specs.Births.{Births, births}
use Rattle.st_model.specs.Bytecodes.{step}
use Rattle.st_model.specs.Cycles.{check_process_switch, warned, done_or_not, ended, cycle_from, cycle}
use Rattle.st_model.specs.Settled.{reclaim, settled_set}
use Rattle.st_model.proofs.SettledLemmas.{object_born-settled}
use Rattle.st_simulation.specs.inside.Laws.{IsOfBytes}
use Rattle.st_simulation.proofs.Going.{step_says_bytes}
use Rattle.st_simulation.proofs.what_is_said_is_bytes.Goals as goal

reclaimed_bytes : (s : State Births) (v : Value) → IsOfBytes s.memory v → IsOfBytes (reclaim births s).memory v
unfolding reclaim
reclaimed_bytes s v is = (is.0, is.1, is.2, object_born-settled s.memory (settled_set births s.memory (roots_of s)) is.0 ∙ is.3, is.4)

by_room : (s t u : State Births) (o : Outcome) (v : Value) (b : Bool) → (o ≡ Say v → IsOfBytes t.memory v) → done_or_not births s o t b ≡ Went (With (Say v)) u → IsOfBytes u.memory v
by_room s t u o v true h e = cc
by_room s t u o v false h e =
    let said : o ≡ Say v = cc in
    let q : warned births (reclaim births t) ≡ u = cc in
    subst (λ (y : State Births). IsOfBytes y.memory v) q (reclaimed_bytes t v (h said))

by_step : (s u : State Births) (v : Value) (x : Transition (State Births) Outcome) → (step births).run s ≡ x → ended births s x ≡ Went (With (Say v)) u → IsOfBytes u.memory v
by_step s u v (Died cause) is e = cc
by_step s u v (Went o t) is e =
    by_room s t u o v (is_over (used births t.memory) s.head) (λ said. step_says_bytes s t v (is ∙ ap (λ y. Went y t) said)) e

by_switch : (u : State Births) (v : Value) (x : Transition (State Births) (Unit {0})) → cycle_from births x ≡ Went (With (Say v)) u → IsOfBytes u.memory v
by_switch u v (Died cause) e = cc
by_switch u v (Went z s) e = by_step s u v ((step births).run s) refl e

cycle_says : (s t : State Births) (v : Value) → cycle births s ≡ Went (With (Say v)) t → IsOfBytes t.memory v
unfolding cycle
cycle_says s t v e = by_switch t v ((check_process_switch births).run s) e

pub returns : goal.returns
returns z = cycle_says
