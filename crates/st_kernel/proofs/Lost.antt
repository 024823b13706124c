-- There is a scheduler when the start comes, so that a start of cause 6 isn't found.
use Rattle.std.proofs.Common.{◌≡◌, ◌≢◌, ℕ, ◌+◌, ◌≤◌, List, [], ◌∷◌, length, Option, Some, None, Bool, true, false, Result, Ok, Err, refl, sym, ap, subst, ◌∙◌, arith, is_some}
use Rattle.std.specs.Prelude.{slice_get, unwrap_or, pos}
use Rattle.st_model.specs.declared.page.PageObject.{PageObject}
use Rattle.st_model.specs.declared.page.PageObject.TheVariants.{NilObject, SchedulerAssociation}
use Rattle.st_model.specs.Values.{Value, Ref, renamed, renamed_all, AllLive}
use Rattle.st_model.specs.Objects.{Object, nil, place_of, is_pointers, renamed_object}
use Rattle.st_model.specs.Machine.{State, Transition, Died, Went, empty_world}
use Rattle.st_model.specs.Births.{Births, borne}
use Rattle.st_model.specs.Table.{Table, entry}
use Rattle.st_model.specs.Show.{pointer_of, renamed_registers, renamed_world, IsKept, show}
use Rattle.st_model.specs.View.{View, is_live, object_of, empty_view, nothing}
use Rattle.st_model.specs.Start.{idle_registers, idle_state}
use Rattle.st_model.proofs.BirthLemmas.{pointer_of-borne}
use Rattle.st_model.proofs.Showing.{show_is}
use Rattle.st_simulation.proofs.Same.{length-renamed}
use Rattle.st_kernel_text.specs.declared.cause.Cause.{Cause}
use Rattle.st_kernel_text.specs.declared.cause.Cause.TheVariants.{Form, Name, Variables, Missing}
use Rattle.st_kernel_text.specs.Parts.{Side, Start, Part, class, pool, global, opening, header, method, closing, start}
use Rattle.st_kernel_text.specs.Definitions.{definition_by}
use Rattle.st_protocol.specs.Installing.{Installed, Refused, Accepted}
use Rattle.st_install.specs.Defining.{installed}
use Rattle.st_kernel.specs.Built.{Built, Fault, fault_at, cause_number, unfinished, finished, begun_as, begun_in, with_installed, built_from, without_room}
use Rattle.st_kernel.specs.inside.Found.{IsFound, IsPointers, HasScheduler}
use Rattle.st_kernel.specs.inside.Lost.{arrival_behind, arrival_from, image_of, IsLost, IsBare}
use Rattle.st_kernel.proofs.KeepingInstalls.{Fixed}
use Rattle.st_kernel.proofs.Guarded.{Holds, accepted}
use Rattle.st_kernel.proofs.Found.{missing_over}

-- the two objects are the association and the scheduler, and the registers name nil in an empty world
pub record IsScheduled (z : Fixed) : Type 0 where
  pub association : z.page SchedulerAssociation ≡ z.one
  pub association_pointers : is_pointers z.one_object.kind ≡ true
  pub key : Value
  pub fields : z.one_object.fields ≡ key ∷ Ref z.other ∷ []
  pub other_pointers : is_pointers z.other_object.kind ≡ true
  pub enough : 2 ≤ length z.other_object.fields
  pub apart : z.one ≢ z.other
  pub registers : z.registers ≡ record { active = Ref (z.page NilObject); home = Ref (z.page NilObject); method = Ref (z.page NilObject); receiver = Ref (z.page NilObject); ip = pos 0; sp = 5 }
  pub world : z.world ≡ empty_world (Ref (z.page NilObject))

-- THE IMAGE THAT BIRTHS SHOW

module _ (z : Fixed) (s : State Births) (holds : Holds z s) (is : IsScheduled z) where
  abbrev c : State Table
  c = holds.table

  shown : show s ≡ c
  shown = show_is c s holds.runs.shows holds.runs.sound.places

  abbrev f : ℕ → ℕ
  f = pointer_of s.memory

  borne_page : (q : PageObject) → borne s.memory (z.page q) ≡ Some (place_of q)
  borne_page q = subst (λ n. borne s.memory n ≡ Some (place_of q)) (holds.guarded.page q) (holds.runs.shows.page q)

  nil_pointer : f (z.page NilObject) ≡ 1
  nil_pointer = pointer_of-borne s.memory (z.page NilObject) 1 (borne_page NilObject)

  one_borne : borne s.memory z.one ≡ Some 4
  one_borne = subst (λ n. borne s.memory n ≡ Some 4) is.association (borne_page SchedulerAssociation)

  one_shown : entry c.memory 4 ≡ Some (renamed_object f z.one_object)
  one_shown = holds.runs.shows.objects z.one 4 z.one_object one_borne holds.guarded.is_one

  second_live : (vs : List Value) (k : Value) → vs ≡ k ∷ Ref z.other ∷ [] → AllLive (IsKept s.memory) vs → IsKept s.memory z.other
  second_live vs k e h = (subst (AllLive (IsKept s.memory)) e h).1.0

  other_kept : IsKept s.memory z.other
  other_kept = second_live z.one_object.fields is.key is.fields (holds.runs.shows.closed z.one 4 z.one_object one_borne holds.guarded.is_one).fields

  abbrev p : ℕ
  p = other_kept.0

  other_pointer : f z.other ≡ p
  other_pointer = pointer_of-borne s.memory z.other p other_kept.1

  other_shown : entry c.memory p ≡ Some (renamed_object f z.other_object)
  other_shown = holds.runs.shows.objects z.other p z.other_object other_kept.1 holds.guarded.is_other

  abbrev v : View
  v = image_of s

  objects_are : v.objects ≡ c.memory
  objects_are = ap (λ (x : State Table). x.memory) shown

  live_by : (n : ℕ) (o : Object) → entry v.objects n ≡ Some o → is_live v.objects (Ref n) ≡ true
  unfolding is_live
  live_by n o e = ap is_some e

  object_by : (n : ℕ) (o : Object) → entry v.objects n ≡ Some o → object_of v.objects (Ref n) ≡ o
  unfolding object_of
  object_by n o e = ap (λ x. unwrap_or x nothing) e

  entry_at : (n : ℕ) (o : Object) → entry c.memory n ≡ Some o → entry v.objects n ≡ Some o
  entry_at n o e = ap (λ t. entry t n) objects_are ∙ e

  pointers_at : (n : ℕ) (o : Object) → entry c.memory n ≡ Some o → is_pointers o.kind ≡ true → 2 ≤ length o.fields → IsPointers v.objects (Ref n) 2
  pointers_at n o e k l =
      let q = object_by n o (entry_at n o e) in
      record {
        live = live_by n o (entry_at n o e);
        pointers = ap (λ (x : Object). is_pointers x.kind) q ∙ k;
        enough = subst (λ (x : Object). 2 ≤ length x.fields) (sym q) l;
      }

  shown_fields : renamed_all f z.one_object.fields ≡ renamed f is.key ∷ Ref p ∷ []
  shown_fields = ap (renamed_all f) is.fields ∙ ap (λ n. renamed f is.key ∷ Ref n ∷ []) other_pointer

  has_scheduler : HasScheduler v
  has_scheduler = record {
    scheduler = Ref p;
    association = pointers_at 4 _ one_shown is.association_pointers (subst (λ xs. 2 ≤ length xs) (sym shown_fields) (omega arith));
    is = ap (λ (x : Object). slice_get x.fields 1) (object_by 4 _ (entry_at 4 _ one_shown)) ∙ ap (λ xs. slice_get xs 1) shown_fields;
    object = pointers_at p _ other_shown is.other_pointers (let l = is.enough in let e = length-renamed f z.other_object.fields in omega (arith, l, e));
    other = λ e. (let q : p ≡ 4 = cc in is.apart (holds.runs.shows.distinct z.one z.other 4 one_borne (subst (λ n. borne s.memory z.other ≡ Some n) q other_kept.1)));
  }

  page_live : (q : PageObject) → is_live v.objects (Ref (place_of q)) ≡ true
  page_live q = let u = holds.runs.sound.closed.page q in live_by (place_of q) u.0 (entry_at (place_of q) u.0 u.1)

  registers_idle : renamed_registers f s.registers ≡ idle_registers
  registers_idle =
      ap (renamed_registers f) (holds.guarded.registers ∙ is.registers)
      ∙ ap (λ n. record { active = Ref n; home = Ref n; method = Ref n; receiver = Ref n; ip = pos 0; sp = 5 }) nil_pointer

  world_idle : renamed_world f s.world ≡ empty_world nil
  world_idle = ap (renamed_world f) (holds.guarded.world ∙ is.world) ∙ ap (λ n. empty_world (Ref n)) nil_pointer

  idle : show s ≡ idle_state v
  unfolding empty_view show
  idle = λ i. record { memory = v.objects; registers = registers_idle i; world = world_idle i; head = (show s).head }

  pub not_found : (first : Start) (n : ℕ) → begun_in n first (show s) ≡ fault_at n 6 → ¬ IsFound v first
  not_found first n e = missing_over v first n page_live (subst (λ x. begun_in n first x ≡ fault_at n 6) idle e) has_scheduler

-- A TEXT

abbrev cause_of : Result Built Fault → ℕ
cause_of (Ok b) = 0
cause_of (Err f) = f.cause

abbrev chunk_of : Result Built Fault → ℕ
chunk_of (Ok b) = 0
chunk_of (Err f) = f.chunk

few_causes : (c : Cause) → cause_number c ≢ 6
few_causes Form e = omega (arith, e)
few_causes Name e = omega (arith, e)
few_causes Variables e = omega (arith, e)
few_causes Missing e = omega (arith, e)

not_unfinished : (n k : ℕ) (cause : Option Cause) → unfinished n cause ≢ fault_at k 6
not_unfinished n k None e = let q : 1 ≡ 6 = ap cause_of e in omega (arith, q)
not_unfinished n k (Some c) e = few_causes c (ap cause_of e)

begun_at : (n k : ℕ) (o : Transition (State Table) Bool) → begun_as n o ≡ fault_at k 6 → n ≡ k
begun_at n k (Died cause) e = ap chunk_of e
begun_at n k (Went true c) e = let q : 0 ≡ 6 = ap cause_of e in absurd (omega (arith, q))
begun_at n k (Went false c) e = let q : 7 ≡ 6 = ap cause_of e in absurd (omega (arith, q))

not_longer : (n k : ℕ) (cause : Option Cause) (r : Result Built Fault) → finished n cause r ≡ fault_at k 6 → r ≡ fault_at k 6
not_longer n k cause (Err fault) e = e
not_longer n k None (Ok b) e = let q : 0 ≡ 6 = ap cause_of e in absurd (omega (arith, q))
not_longer n k (Some c) (Ok b) e = absurd (few_causes c (ap cause_of e))

module _ (z : Fixed) (is : IsScheduled z) (cause : Option Cause) (k : ℕ) where
  pub lost_from : (parts : List Part) (n : ℕ) (s : State Births) (side : Side) → Holds z s → built_from installed cause n s side parts ≡ fault_at k 6 → IsLost (arrival_from installed n s side parts) k
  unfolding built_from arrival_from
  lost_from [] n s side h e = absurd (not_unfinished n k cause e)
  lost_from (class c ∷ parts) n s side h e = lost_from parts (n + 1) s side h e
  lost_from (pool p ∷ parts) n s side h e = lost_from parts (n + 1) s side h e
  lost_from (global name ∷ parts) n s side h e = lost_from parts (n + 1) s side h e
  lost_from (opening ∷ parts) n s side h e = lost_from parts (n + 1) s side h e
  lost_from (header named ∷ parts) n s side h e = lost_from parts (n + 1) s named h e
  lost_from (closing ∷ parts) n s side h e = lost_from parts (n + 1) s side h e
  lost_from (method text ∷ parts) n s side h e = by_result (λ t g f. lost_from parts (n + 1) t side g f) (installed (definition_by side text) s) refl e
    where
      by_result : ((t : State Births) → Holds z t → built_from installed cause (n + 1) t side parts ≡ fault_at k 6 → IsLost (arrival_from installed (n + 1) t side parts) k)
          → (r : Installed) → installed (definition_by side text) s ≡ r → with_installed n r (λ t. built_from installed cause (n + 1) t side parts) ≡ fault_at k 6
          → IsLost (arrival_behind r (λ t. arrival_from installed (n + 1) t side parts)) k
      by_result later (Refused why) f g = let q : 5 ≡ 6 = ap cause_of g in absurd (omega (arith, q))
      by_result later (Accepted selector t) f g = later t (accepted z s (definition_by side text) selector t h f) g
  lost_from (start first ∷ parts) n s side h e =
      let b = not_longer (n + 1) k cause (begun_in n first (show s)) e in
      let q = begun_at n k _ b in
      (q, not_found z s h is first n (b ∙ ap (λ j. fault_at j 6) (sym q)))

-- WITHOUT ROOM

pub bare_from : (cause : Option Cause) (k : ℕ) (parts : List Part) (n opened : ℕ) → without_room cause opened n parts ≡ fault_at k 6 → IsBare n parts k
unfolding without_room
bare_from cause k [] n opened e = absurd (not_unfinished n k cause e)
bare_from cause k (class c ∷ parts) n opened e = bare_from cause k parts (n + 1) opened e
bare_from cause k (pool p ∷ parts) n opened e = bare_from cause k parts (n + 1) opened e
bare_from cause k (global name ∷ parts) n opened e = bare_from cause k parts (n + 1) opened e
bare_from cause k (opening ∷ parts) n opened e = bare_from cause k parts (n + 1) n e
bare_from cause k (header named ∷ parts) n opened e = bare_from cause k parts (n + 1) opened e
bare_from cause k (method text ∷ parts) n opened e = let q : 7 ≡ 6 = ap cause_of e in absurd (omega (arith, q))
bare_from cause k (closing ∷ parts) n opened e = bare_from cause k parts (n + 1) opened e
bare_from cause k (start first ∷ parts) n opened e = ap chunk_of e
