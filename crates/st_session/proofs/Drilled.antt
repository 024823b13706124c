-- The machine of a drill begins, and what is said of it.
use Rattle.std.proofs.Common.{◌≡◌, inl, inr, ◌∙◌, ℕ, ◌≤◌, ◌^◌, List, length, refl, sym, ap, subst, arith}
use Rattle.std.specs.Prelude.{Result, Ok, Err}
use Rattle.st_host.specs.Runs.{ReadsAlike, ReadsAndSays}
use Rattle.st_host.specs.declared.host.Host.{Ghosts}
use Rattle.st_host.specs.declared.host.SayFault.{SayFault}
use Rattle.st_model.specs.declared.dead.Dead.{Dead}
use Rattle.st_model.specs.Objects.{nil}
use Rattle.st_model.specs.Machine.{State, World, Transition, Died, Went, empty_world}
use Rattle.st_model.specs.Births.{Births, births}
use Rattle.st_model.specs.Table.{Table, table}
use Rattle.st_model.specs.Show.{Shows, raised}
use Rattle.st_model.specs.View.{View, IsWhole}
use Rattle.st_model.specs.Contexts.{fetch_scheduled_registers}
use Rattle.st_model.specs.Start.{idle_registers, idle_state}
use Rattle.st_model.specs.inside.Foreseen.{ShownAgain}
use Rattle.st_simulation.proofs.Again.{fetched_shown}
use Rattle.st_frames.specs.declared.frame.Frame.{Frame}
use Rattle.st_frames.specs.inside.Shown.{FetchesFrame, shown}
use Rattle.st_frames.proofs.Closed.{closed_idle}
use Rattle.st_protocol.specs.declared.status.Status.{Status}
use Rattle.st_protocol.specs.declared.status.Status.TheVariants as status
use Rattle.st_install.specs.Defining.{installed}
use Rattle.st_kernel.specs.declared.fault.KernelFault.{KernelFault}
use Rattle.st_kernel.specs.declared.fault.KernelFault.TheVariants as kernel
use Rattle.st_kernel.specs.Built.{Fault, built}
use Rattle.st_kernel.specs.inside.Answered.{IsBuilt, IsBegun, IsFaultOf}
use Rattle.st_kernel.specs.Drills.{drill_text}
use Rattle.st_call.specs.LastLines.{SaysLastLine}
use Rattle.st_session.specs.Builds.{Builds, IsWrongAt, kernel_status}
use Rattle.st_session.specs.Drills.{BeginsDrill, IsDrill, IsNoDrill, DrillEnds, idle_over, drill_said}
use Rattle.st_session.specs.Makings.{Contents, contents_in}
use Rattle.st_session.specs.inside.Reporting.{Reports}

-- THE MACHINE

-- the registers of the first process are found
pub surely_fetched : (old new : View) (r : Result Frame Dead) → IsBegun old → FetchesFrame (fetch_scheduled_registers table) old r new → ((f : Frame) → r ≡ Ok f → ⊥) → ⊥
surely_fetched old new (Ok f) begun fetched none = none f refl
surely_fetched old new (Err k) begun died none = let clash = sym begun.fetched ∙ died idle_registers (empty_world nil) in cc

built_is : (text : List ℕ) (v : View) → IsBuilt (built installed text) v → built installed text ≡ Ok (record { objects = v.objects; head = v.head })
built_is text v b =
    let same : b.0 ≡ record { objects = v.objects; head = v.head } = λ i. record { objects = sym b.2 i; head = sym b.3 i } in
    b.1 ∙ ap Ok same

-- the kernel text of a drill is short
pub builds_drill : (n : ℕ) (text : List ℕ) (v : View) → text ≡ drill_text n → length text ≤ 2 ^ 17 → IsBuilt (built installed text) v → Builds (drill_text n) (contents_in v)
builds_drill n text v is short b = subst (λ (t : List ℕ). Builds t (contents_in v)) is (record { short = omega (arith, short); is = built_is text v b })

-- booted, it is as it was before
pub booted : (n : ℕ) (v w : View) (f h : Frame) (x : World) → w ≡ v → h ≡ f → x ≡ empty_world nil → BeginsDrill n (contents_in v) (shown v f (empty_world nil)) → BeginsDrill n (contents_in w) (shown w h x)
booted n v w f h x memory frame world begins = rw (memory, frame, world) begins

pub begins_drill : (n : ℕ) (old new : View) (f : Frame) → Builds (drill_text n) (contents_in old) → new.objects ≡ old.objects → new.head ≡ old.head → FetchesFrame (fetch_scheduled_registers table) old (Ok f) new
    → BeginsDrill n (contents_in new) (shown new f (empty_world nil))
begins_drill n old new f builds objects head fetched =
    let same : contents_in old ≡ contents_in new = λ i. record { objects = sym objects i; head = sym head i } in
    record {
      builds = subst (Builds (drill_text n)) same builds;
      fetched = ap (λ (c : Contents). (fetch_scheduled_registers table).run (idle_over c)) (sym same) ∙ fetched idle_registers (empty_world nil);
    }

pub none_drilled : (n : ℕ) (text : List ℕ) (fault : KernelFault) → text ≡ drill_text n → length text ≤ 2 ^ 17 → IsFaultOf (built installed text) fault → IsNoDrill n fault
none_drilled n text (kernel.At chunk cause) is short wrong = subst (λ (t : List ℕ). IsWrongAt t (record { chunk = chunk; cause = cause })) is (record { short = omega (arith, short); is = wrong })
none_drilled n text kernel.OutOfMemory is short wrong = tt

-- WHAT IS SAID

-- the births with which the book's machine begins
abbrev First : Contents → State Table → Type 0
First c t = (s : State Births) × ((fetch_scheduled_registers births).run (raised (idle_over c)) ≡ Went tt s) × Shows t s

abbrev born : View → Transition (State Births) Unit
born v = (fetch_scheduled_registers births).run (raised (idle_state v))

first_as : (v : View) (t : State Table) (x : Transition (State Births) Unit) → born v ≡ x → ShownAgain (Went tt t) x → First (contents_in v) t
first_as v t (Died cause) e shown = absurd shown
first_as v t (Went u s) e shown = (s, e, shown.0)

first_births : (n : ℕ) (v : View) (t : State Table) → IsWhole v → BeginsDrill n (contents_in v) t → First (contents_in v) t
first_births n v t whole begins =
    first_as v t (born v) refl (subst (λ x. ShownAgain x (born v)) begins.fetched (fetched_shown (idle_state v) (closed_idle v whole.complete)))

module _ {D : Type 0} (host : Ghosts D) (n : ℕ) (old new : D) where
  module _ (v : View) (t : State Table) (whole : IsWhole v) (begins : BeginsDrill n (contents_in v) t) where
    abbrev first : First (contents_in v) t
    first = first_births n v t whole begins

    abbrev said : List ℕ
    said = drill_said (contents_in v) first.0

    is_drill : IsDrill n said
    is_drill = record { image = contents_in v; builds = begins.builds; first = first.0; begins = first.1; is = refl }

    abbrev SaysDrill : Result Unit SayFault → Type 0
    SaysDrill result = Reports host (drill_said (contents_in v)) t old new result

    pub drill_done : SaysDrill (Ok tt) → DrillEnds host n old new status.Done
    drill_done reports =
        let says = reports.says first.0 first.2 in
        record {
          has = (said, is_drill, reports.all first.0 first.2);
          alike = says.alike;
          disk = says.disk_count;
          complete = λ x builds calm. inl refl;
        }

    pub drill_unsaid : (e : SayFault) → SaysDrill (Err e) → DrillEnds host n old new status.SayFault
    drill_unsaid e reports =
        let says = reports.says first.0 first.2 in
        record {
          has = (said, is_drill, says.part.part);
          alike = says.alike;
          disk = says.disk_count;
          complete = λ x builds calm. absurd (calm (reports.cause.rose refl));
        }

    pub drill_reads : (result : Result Unit SayFault) → SaysDrill result → (text : List ℕ) × ReadsAndSays host text old new
    drill_reads result reports = (said, (reports.says first.0 first.2).part)

  -- a text that is right isn't wrong
  right_is_right : (c : Contents) (fault : Fault) → Builds (drill_text n) c → IsWrongAt (drill_text n) fault → ⊥
  right_is_right c fault is wrong = let clash = sym is.is ∙ wrong.is in cc

  pub drill_refused : (fault : KernelFault) (e : Status) → e ≡ kernel_status fault → IsNoDrill n fault → SaysLastLine host e old new → ReadsAlike host old new → host.disk_faults new ≡ host.disk_faults old → DrillEnds host n old new e
  drill_refused fault e is none line alike disk =
      subst (DrillEnds host n old new) (sym is) (over fault none (subst (λ (x : Status). SaysLastLine host x old new) is line))
    where
      over : (fault : KernelFault) → IsNoDrill n fault → SaysLastLine host (kernel_status fault) old new → DrillEnds host n old new (kernel_status fault)
      over (kernel.At chunk cause) none line = record {
        has = (none, line);
        alike = alike;
        disk = disk;
        complete = λ c builds calm. absurd (right_is_right c (record { chunk = chunk; cause = cause }) builds none);
      }
      over kernel.OutOfMemory none line = record { has = line; alike = alike; disk = disk; complete = λ c builds calm. inr refl }
