-- A step over the table that stays within the capacities was foreseen, and is the one of a bounded table.
use Rattle.std.proofs.Common.{◌≡◌, ◌≤◌, ℕ, arith, true, false, sym, ap, ◌∙◌, subst}
use Rattle.std.specs.Prelude.{nat_lt, if◌then◌else◌}
use Rattle.std.proofs.lemmas.Bool.Decides.{nat_tests}
use Rattle.st_model.specs.declared.dead.Dead.{Dead}
use Rattle.st_model.specs.Objects.{one, words_of}
use Rattle.st_model.specs.Outcomes.{Outcome}
use Rattle.st_model.specs.Machine.{World, Head, State, Transition, Died, Went, used, is_over}
use Rattle.st_model.specs.Table.{Table, table, apart, bounded_table, total_used}
use Rattle.st_model.specs.Bytecodes.{step}
use Rattle.st_model.specs.View.{View, IsWhole}
use Rattle.st_simulation.proofs.Bounded.{bounded_same}
use Rattle.st_frames.specs.declared.frame.Frame.{Frame}
use Rattle.st_frames.specs.inside.Shown.{shown, IsReady}
use Rattle.st_control.specs.inside.Foreseen.{IsForeseen}
use Rattle.st_control.proofs.Linked.{Linked, linked}

within_if : (a b c d : ℕ) → a ≤ b → c ≤ d → (if nat_lt b a then true else nat_lt d c) ≡ false
within_if a b c d l k = grind (arith, nat_tests, l, k)

-- what a memory keeps is within its capacities
within : (v : View) (a : Head) → IsWhole v → v.head ≡ a → is_over (used table v.objects) a ≡ false
within v a whole e =
    let x = whole.entries in
    let y = whole.words in
    ap (λ b. is_over (used table v.objects) b) (sym e) ∙ within_if (total_used one v.objects) v.head.entries (total_used words_of v.objects) v.head.words x y

module _ (v : View) (f : Frame) (w : World) (whole : IsWhole v) (ready : IsReady v f w) where
  link : (p : Transition (State Table) Outcome) → (step table).run (shown v f w) ≡ p → Linked p ((step apart).run (shown v f w))
  link p e = subst (λ y. Linked y ((step apart).run (shown v f w))) e (linked v f w whole ready)

  pub dies : (cause : Dead) → (step table).run (shown v f w) ≡ Died cause → (step apart).run (shown v f w) ≡ Died cause
  dies cause e = link (Died cause) e

  -- as much is used as a memory keeps
  module _ (o : Outcome) (d : State Table) (u : View) (does : (step table).run (shown v f w) ≡ Went o d) (kept : IsWhole u) (uses : used table d.memory ≡ used table u.objects) (head : u.head ≡ v.head) where
    stays_within : is_over (used table d.memory) v.head ≡ false
    stays_within = ap (λ y. is_over y v.head) uses ∙ within u v.head kept head

    pub foreseen : IsForeseen (shown v f w)
    foreseen = let l = link (Went o d) does in record { outcome = l.0; after = l.1; goes = l.2; fits = ap (λ y. is_over y v.head) l.3 ∙ stays_within }

    pub bounded : (step bounded_table).run (shown v f w) ≡ Went o d
    bounded = bounded_same (shown v f w) d o does stays_within
