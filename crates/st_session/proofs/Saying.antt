-- Texts that are added and then said.
use Rattle.std.proofs.Common.{◌≡◌, ◌≤◌, ◌∙◌, ℕ, List, [], IsTrue, refl, sym, subst, arith}
use Rattle.std.specs.Prelude.{Option, Result, Ok, Err, OnOk}
use Rattle.st_model.specs.declared.dead.Dead.{Dead}
use Rattle.st_model.specs.Machine.{State}
use Rattle.st_model.specs.Table.{Table}
use Rattle.st_host.specs.declared.host.Host.{Ghosts}
use Rattle.st_host.specs.declared.host.SayFault.{SayFault}
use Rattle.st_host.specs.Files.{Files}
use Rattle.st_host.specs.Runs.{SaysAll, IsAtRest}
use Rattle.st_host.specs.inside.Telling.{Says}
use Rattle.st_host.proofs.Joining.{all_join}
use Rattle.st_host.proofs.Rising.{rose_second}
use Rattle.st_host.proofs.Telling.{says_then}
use Rattle.st_call.specs.inside.Saying.{Pushes}
use Rattle.st_call.proofs.Pushing.{pushed_all, pushed_says, pushed_part}
use Rattle.st_protocol.specs.declared.status.Status.{Status}
use Rattle.st_protocol.specs.declared.status.Status.TheVariants as status
use Rattle.st_protocol.specs.Courses.{Course, Goes, Ends, deeds_of, said_of, commits_of, replies}
use Rattle.st_protocol.specs.Statuses.{StatusHasCause, EndHasCause}
use Rattle.st_protocol.specs.inside.Obeying.{Obeys}
use Rattle.st_protocol.proofs.Courses.{last_unkept}
use Rattle.st_protocol.proofs.Joins.{said_did, said_began, obeys_reply, obeys_unsaid, obeys_began}
use Rattle.st_call.specs.inside.Telling.{IsSayFault, Tells}
use Rattle.st_session.specs.inside.Pushing.{LeadsTo, PushesCourse}
use Rattle.st_session.specs.inside.Stretches.{Stretch, words_of, PushesStretch, SaysStretch}

-- a course that keeps nothing, and leads to what was kept before
abbrev pub KeepsNone : {C X : Type 0} → (X → C) → C → Course C X → Type 0
KeepsNone commit c (Goes ds x) = (commits_of ds ≡ []) × (commit x ≡ c)
KeepsNone commit c (Ends ds end) = ⊥

pub when_ok : {A : Type 0} (r : Result Unit Status) → A → OnOk r A
when_ok (Ok u) a = a
when_ok (Err e) a = tt

module _ {D : Type 0} (host : Ghosts D) where
  end_cause : (old mid new : D) (result : Result Unit Status) → IsSayFault result → host.say_faults old ≤ host.say_faults mid → EndHasCause host ⊥ mid new result → EndHasCause host ⊥ old new result
  end_cause old mid new (Ok u) f le cause = tt
  end_cause old mid new (Err e) f le cause =
      subst (λ x. StatusHasCause host ⊥ old new x) (sym f) (rose_second (host.say_faults old) (host.say_faults mid) (host.say_faults new) le (subst (λ x. StatusHasCause host ⊥ mid new x) f cause))

  -- what a call tells, where something was said or kept before it
  tells_from : (text rest : List ℕ) (old mid new : D) (result : Result Unit Status) → host.say_faults old ≤ host.say_faults mid → Says host text old new
      → (SaysAll host rest mid new → SaysAll host text old new) → Tells host rest mid new result → Tells host text old new result
  tells_from text rest old mid new result low says more end = record {
    all = over result end.all;
    says = says;
    fault = end.fault;
    counts = record { disk = omega (arith, says.disk_count); say = says.part.say; cause = end_cause old mid new result end.fault low end.counts.cause };
    served = end.served;
  }
    where
      over : (r : Result Unit Status) → OnOk r (SaysAll host rest mid new) → OnOk r (SaysAll host text old new)
      over (Ok u) all = more all
      over (Err e) all = tt

  -- behind a call that said nothing
  pub tells_behind : (text : List ℕ) (old mid new : D) (result : Result Unit Status) → SaysAll host [] old mid → Says host [] old mid → Tells host text mid new result → Tells host text old new result
  tells_behind text old mid new result all says end =
      tells_from text text old mid new result says.part.say (says_then says all end.says refl) (λ rest. all_join host [] text old mid new all rest) end

  -- what was added to nothing, and then said, or not
  pub tells_pushed : (text p q : List ℕ) (old mid new : D) (result : Result Unit Status) → p ≡ [] → Pushes {E = SayFault} host text old mid p q (Ok tt) → Tells host q mid new result → Tells host text old new result
  tells_pushed text p q old mid new result empty run end =
      tells_from text q old mid new result run.cause.later (pushed_says {E = SayFault} {t = text} {p = p} {q = q} {old = old} {mid = mid} {new = new} empty run end.says)
      (λ all. pushed_all {E = SayFault} {t = text} {p = p} {q = q} {old = old} {mid = mid} {new = new} empty run all) end

  pub tells_cut : (text p q : List ℕ) (old new : D) (fault : SayFault) → p ≡ [] → Pushes {E = SayFault} host text old new p q (Err fault) → Tells host text old new (Err status.SayFault)
  tells_cut text p q old new fault empty run =
      let says = pushed_part {E = SayFault} {t = text} {p = p} {q = q} {old = old} {new = new} {fault = fault} empty run in
      record {
        all = tt;
        says = says;
        fault = refl;
        counts = record { disk = omega (arith, says.disk_count); say = says.part.say; cause = run.cause.rose refl };
        served = tt;
      }

  module _ {C X : Type 0} (opens : C → Files → Type 0) (spared : List ℕ → Type 0) (at : X → Type 0) (commit : X → C) (c : C) where
    -- a text that is said, or not, as a course
    pub obeys_tells : (text : List ℕ) (x : X) (result : Result Unit Status) (old new : D) → Tells host text old new result → (IsTrue host.is_told → IsAtRest host opens c old) → OnOk result (at x) → commit x ≡ c
        → Obeys host opens spared at commit c (replies text x) result old new
    obeys_tells text x (Ok u) old new run rest stands same = obeys_reply host opens spared at commit c text x run.all run.says rest stands same
    obeys_tells text x (Err e) old new run rest stands same = obeys_unsaid host opens spared at commit c text x e run.fault run.says rest

    -- deeds that were begun, of which none keeps anything
    pub obeys_unfinished : (course : Course C X) (e : Status) (old new : D) → commits_of (deeds_of course) ≡ [] → Tells host (said_of (deeds_of course)) old new (Err e) → (IsTrue host.is_told → IsAtRest host opens c old)
        → Obeys host opens spared at commit c course (Err e) old new
    obeys_unfinished course e old new none run rest =
        subst (λ (s : Status). Obeys host opens spared at commit c course (Err s) old new) (sym run.fault)
        (obeys_began host opens spared at commit c course status.SayFault old new tt (said_began host opens spared c (deeds_of course) old new none rest run.says))

    -- a course that was added and said, or not
    pub obeys_said : (from : X → Type 0) (course : Course C X) (result : Result Unit Status) (old new : D) → KeepsNone commit c course → Tells host (said_of (deeds_of course)) old new result → (IsTrue host.is_told → IsAtRest host opens c old)
        → OnOk result (LeadsTo from course) → ((x : X) → from x → commit x ≡ c → at x) → Obeys host opens spared at commit c course result old new
    obeys_said from (Goes ds x) (Ok u) old new none run rest leads f =
        (f x leads none.1, none.1 ∙ sym (last_unkept c ds none.0), said_did host opens spared c ds old new none.0 rest run.all run.says)
    obeys_said from (Goes ds x) (Err e) old new none run rest leads f = obeys_unfinished (Goes ds x) e old new none.0 run rest
    obeys_said from (Ends ds end) result old new none run rest leads f = absurd none

    pub obeys_pushed : (from : X → Type 0) (course : Course C X) (p q : List ℕ) (old mid new : D) (result : Result Unit Status) → KeepsNone commit c course → p ≡ [] → PushesCourse {E = SayFault} host from course old mid p q (Ok tt) → Tells host q mid new result
        → (IsTrue host.is_told → IsAtRest host opens c old) → ((x : X) → from x → commit x ≡ c → at x) → Obeys host opens spared at commit c course result old new
    obeys_pushed from course p q old mid new result none empty run end rest f =
        obeys_said from course result old new none (tells_pushed (said_of (deeds_of course)) p q old mid new result empty run.pushes end) rest (when_ok result run.leads) f

    pub obeys_cut : (from : X → Type 0) (course : Course C X) (p q : List ℕ) (old new : D) (fault : SayFault) → KeepsNone commit c course → p ≡ [] → PushesCourse {E = SayFault} host from course old new p q (Err fault)
        → (IsTrue host.is_told → IsAtRest host opens c old) → ((x : X) → from x → commit x ≡ c → at x) → Obeys host opens spared at commit c course (Err status.SayFault) old new
    obeys_cut from course p q old new fault none empty run rest f =
        obeys_said from course (Err status.SayFault) old new none (tells_cut (said_of (deeds_of course)) p q old new fault empty run.pushes) rest tt f

-- a stretch that was added to nothing, and then said, or not
module _ {D : Type 0} (host : Ghosts D) (death : Option Dead) (c : State Table) (r : Stretch) where
  pub stretch_said : (p q : List ℕ) (old mid new : D) (answer : Option ℕ) → p ≡ [] → PushesStretch {E = SayFault} host death c r old mid p q (Ok answer) → Tells host q mid new (Ok tt) → SaysStretch host death c r old new (Ok answer)
  stretch_said p q old mid new answer empty run end = record { tells = tells_pushed host (words_of r.texts) p q old mid new (Ok tt) empty run.pushes end; stops = run.stops }

  pub stretch_unsaid : (p q : List ℕ) (old mid new : D) (answer : Option ℕ) (e : Status) → p ≡ [] → PushesStretch {E = SayFault} host death c r old mid p q (Ok answer) → Tells host q mid new (Err e) → SaysStretch host death c r old new (Err e)
  stretch_unsaid p q old mid new answer e empty run end = record { tells = tells_pushed host (words_of r.texts) p q old mid new (Err e) empty run.pushes end; stops = tt }

  pub stretch_cut : (p q : List ℕ) (old new : D) (fault : SayFault) → p ≡ [] → PushesStretch {E = SayFault} host death c r old new p q (Err fault) → SaysStretch host death c r old new (Err status.SayFault)
  stretch_cut p q old new fault empty run = record { tells = tells_cut host (words_of r.texts) p q old new fault empty run.pushes; stops = tt }
