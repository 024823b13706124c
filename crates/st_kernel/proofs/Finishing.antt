-- What a text comes to at its start, once the first process was begun.
use Rattle.std.proofs.Common.{◌≡◌, ◌∙◌, ℕ, ◌+◌, List, ◌∷◌, true, false, Bool, Option, Some, None, Result, Ok, Err, length, refl, sym, ap, subst}
use Rattle.st_model.specs.declared.dead.Dead.{Dead}
use Rattle.st_model.specs.Machine.{State, Transition, Died, Went}
use Rattle.st_model.specs.Table.{Table}
use Rattle.st_model.specs.View.{View}
use Rattle.st_model.specs.Start.{idle_state}
use Rattle.st_model.proofs.Showing.{show_is}
use Rattle.st_kernel_text.specs.declared.cause.Cause.{Cause}
use Rattle.st_kernel_text.specs.Parts.{Side, Start, Part, start}
use Rattle.st_protocol.specs.Installing.{Install}
use Rattle.st_kernel.specs.Starting.{begin_by}
use Rattle.st_kernel.specs.Built.{Built, Fault, fault_at, cause_number, finished, begun_as, begun_in, built_from}
use Rattle.st_kernel.specs.inside.Following.{IsUnderway, Ends}

dead_as : (n : ℕ) (o : Transition (State Table) Bool) (k : Dead) (w : View) → Ends o (Err k) w → begun_as n o ≡ fault_at n 6
dead_as n (Died cause) k w e = refl
dead_as n (Went made c) k w e = absurd e

no_room_as : (n : ℕ) (o : Transition (State Table) Bool) (w : View) → Ends o (Ok false) w → begun_as n o ≡ fault_at n 7
no_room_as n (Died cause) w e = absurd e
no_room_as n (Went true c) w e = absurd (let x = e.0 in cc)
no_room_as n (Went false c) w e = refl

-- a memory of this image
abbrev Contains : View → Built → Type 0
Contains w b = (w.objects ≡ b.objects) × (w.head ≡ b.head)

made_as : (n : ℕ) (o : Transition (State Table) Bool) (w : View) → Ends o (Ok true) w → (b : Built) × (begun_as n o ≡ Ok b) × Contains w b
made_as n (Died cause) w e = absurd e
made_as n (Went true c) w e = (record { objects = c.memory; head = c.head }, refl, (sym e.1, sym e.2))
made_as n (Went false c) w e = absurd (let x = e.0 in cc)

module _ (install : Install) (cause : Option Cause) (whole : Result Built Fault) (n : ℕ) (side : Side) (s : Start) (parts : List Part) (v : View)
    (places : length v.objects ≡ 32768) (u : IsUnderway install cause whole n side (start s ∷ parts) v) where
  abbrev o : Transition (State Table) Bool
  o = (begin_by v.head s).run (idle_state v)

  comes : finished (n + 1) cause (begun_as n o) ≡ whole
  unfolding built_from
  comes = ap (λ c. finished (n + 1) cause (begun_in n s c)) (sym (show_is (idle_state v) u.state u.shows places)) ∙ u.is

  pub dead_start : (k : Dead) (w : View) → Ends o (Err k) w → whole ≡ fault_at n 6
  dead_start k w e = sym comes ∙ ap (finished (n + 1) cause) (dead_as n o k w e)

  pub no_room_start : (w : View) (b : Bool) → b ≡ false → Ends o (Ok b) w → whole ≡ fault_at n 7
  no_room_start w b f e = sym comes ∙ ap (finished (n + 1) cause) (no_room_as n o w (subst (λ x. Ends o (Ok x) w) f e))

  pub whole_start : (w : View) (b : Bool) → b ≡ true → Ends o (Ok b) w → cause ≡ None → (b : Built) × (whole ≡ Ok b) × (w.objects ≡ b.objects) × (w.head ≡ b.head)
  whole_start w b t e none =
      let m = made_as n o w (subst (λ x. Ends o (Ok x) w) t e) in
      (m.0, sym comes ∙ ap (finished (n + 1) cause) m.1 ∙ ap (λ c. finished (n + 1) c (Ok m.0)) none, m.2.0, m.2.1)

  pub longer_start : (w : View) (c : Cause) (b : Bool) → b ≡ true → Ends o (Ok b) w → cause ≡ Some c → whole ≡ fault_at (n + 1) (cause_number c)
  longer_start w c b t e some =
      let m = made_as n o w (subst (λ x. Ends o (Ok x) w) t e) in
      sym comes ∙ ap (finished (n + 1) cause) m.1 ∙ ap (λ x. finished (n + 1) x (Ok m.0)) some
