-- What is installed in a running machine's table is what is installed in the births that it shows.
use Rattle.std.proofs.Common.{◌≡◌, ℕ, ◌≤◌, List, [], ◌∷◌, Option, Some, None, Bool, true, false, Ok, refl, sym, ap, subst, ◌∙◌, arith, inl, inr}
use Rattle.std.specs.Prelude.{nat_lt, if◌then◌else◌}
use Rattle.std.proofs.lemmas.Bool.Decides.{nat_tests}
use Rattle.st_model.specs.declared.dead.Dead.{Dead}
use Rattle.st_model.specs.Values.{Value}
use Rattle.st_model.specs.Outcomes as outcome
use Rattle.st_model.specs.Machine.{Head, State, Transition, Died, Went, answer, after, ◌>>=◌, tried, used, is_over}
use Rattle.st_model.specs.Births.{Births, births}
use Rattle.st_model.specs.Table.{Table, table, bounded_table}
use Rattle.st_model.specs.inside.Calls.{itself}
use Rattle.st_model.specs.Saving.{settled_after}
use Rattle.st_model.specs.Show.{pointer_of, IsKept}
use Rattle.st_model.specs.inside.Foreseen.{IsSound}
use Rattle.st_simulation.specs.inside.Laws.{Runs}
use Rattle.st_model.proofs.BirthLemmas.{pointer_of-borne}
use Rattle.st_model.proofs.Names.{map_live, same_value}
use Rattle.st_simulation.proofs.Same.{TransitionSame, Anything, SameAnswer, StateSame}
use Rattle.st_simulation.proofs.HeapsSame.{cycle_simulation, same_used}
use Rattle.st_simulation.proofs.Started.{lives, named, named-kept, naming, states_start, heaps_start}
use Rattle.st_simulation.proofs.Again.{shows_now}
use Rattle.st_simulation.proofs.Reclaimed.{went_step}
use Rattle.st_model.proofs.Reclaiming.{reclaim_sound, reclaim_head}
use Rattle.st_simulation.proofs.Closed.{sound_simulation, stays_sound}
use Rattle.st_code.specs.Methods.{PartsView}
use Rattle.st_install.specs.Plans.{PlannedValue, There, Made, NewObject, FieldStore, Plan, words_of_all, demand_of_all}
use Rattle.st_install.specs.Calls.{both, is_crowded, room_or, with_room, planned, ready}
use Rattle.st_install.specs.Installing.{install}
use Rattle.st_install.specs.inside.SamePlans.{renamed_part, renamed_parts, renamed_objects, renamed_stores, renamed_plan, renamed_ready, IsLivePart, AllLiveParts, AllLiveObjects, AllLiveStores, IsLivePlan}
use Rattle.st_install.specs.inside.Same.{RunsOn, IsReady, InstallShows, InstallSettles}
use Rattle.st_install.proofs.SameReads.{Shown, TransitionAlike}
use Rattle.st_install.proofs.SameParts.{AllFormed, length-parts, length-objects}
use Rattle.st_install.proofs.SamePlanning.{PlanLive}
use Rattle.st_install.proofs.SameCalls.{ReadyLive, ready-alike}
use Rattle.st_install.proofs.SameFilling.{install-same}
use Rattle.st_install.proofs.SameRooms.{Fits, plan_itself, any_plan, install_bounded}

-- A PLAN UNDER OTHER NAMES

module _ (P Q : ℕ → Type 0) (f g : ℕ → ℕ) (up : (n : ℕ) → P n → Q n) (e : (n : ℕ) → P n → f n ≡ g n) where
  part_up : (p : PlannedValue) → IsLivePart P p → IsLivePart Q p
  part_up (There v) h = map_live P Q up v h
  part_up (Made k) h = h

  part_same : (p : PlannedValue) → IsLivePart P p → renamed_part f p ≡ renamed_part g p
  part_same (There v) h = ap (λ x. There x) (same_value P f g e v h)
  part_same (Made k) h = refl

  parts_up : (ps : List PlannedValue) → AllLiveParts P ps → AllLiveParts Q ps
  parts_up [] h = h
  parts_up (p ∷ ps) h = (part_up p h.0, parts_up ps h.1)

  parts_same : (ps : List PlannedValue) → AllLiveParts P ps → renamed_parts f ps ≡ renamed_parts g ps
  parts_same [] h = refl
  parts_same (p ∷ ps) h = let a = part_same p h.0 in let b = parts_same ps h.1 in λ i. a i ∷ b i

  objects_up : (os : List NewObject) → AllLiveObjects P os → AllLiveObjects Q os
  objects_up [] h = h
  objects_up (o ∷ os) h = (record { class = map_live P Q up o.class h.0.class; fields = parts_up o.fields h.0.fields }, objects_up os h.1)

  objects_same : (os : List NewObject) → AllLiveObjects P os → renamed_objects f os ≡ renamed_objects g os
  objects_same [] h = refl
  objects_same (o ∷ os) h =
      let c = same_value P f g e o.class h.0.class in
      let a = parts_same o.fields h.0.fields in
      let b = objects_same os h.1 in
      λ i. record { class = c i; kind = o.kind; fields = a i; bytes = o.bytes } ∷ b i

  stores_up : (ss : List FieldStore) → AllLiveStores P ss → AllLiveStores Q ss
  stores_up [] h = h
  stores_up (s ∷ ss) h = (record { object = part_up s.object h.0.object; value = part_up s.value h.0.value }, stores_up ss h.1)

  stores_same : (ss : List FieldStore) → AllLiveStores P ss → renamed_stores f ss ≡ renamed_stores g ss
  stores_same [] h = refl
  stores_same (s ∷ ss) h =
      let o = part_same s.object h.0.object in
      let x = part_same s.value h.0.value in
      let b = stores_same ss h.1 in
      λ i. record { object = o i; field = s.field; value = x i } ∷ b i

  plan_up : (p : Plan) → IsLivePlan P p → IsLivePlan Q p
  plan_up p h = record {
    objects = objects_up p.objects h.objects;
    symbol_stores = stores_up p.symbol_stores h.symbol_stores;
    selector = part_up p.selector h.selector;
    method = part_up p.method h.method;
    class = map_live P Q up p.class h.class;
    dictionary = map_live P Q up p.dictionary h.dictionary;
  }

  plan_same : (p : Plan) → IsLivePlan P p → renamed_plan f p ≡ renamed_plan g p
  plan_same p h =
      let o = objects_same p.objects h.objects in
      let s = stores_same p.symbol_stores h.symbol_stores in
      let x = part_same p.selector h.selector in
      let y = part_same p.method h.method in
      let c = same_value P f g e p.class h.class in
      let d = same_value P f g e p.dictionary h.dictionary in
      λ i. record { objects = o i; symbol_stores = s i; selector = x i; method = y i; class = c i; dictionary = d i; grown = p.grown }

formed_renamed : (f : ℕ → ℕ) (os : List NewObject) → AllFormed os → AllFormed (renamed_objects f os)
formed_renamed f [] h = tt
formed_renamed f (o ∷ os) h = (record { kind = h.0.kind; header = λ e. rw (length-parts f o.fields) (h.0.header e) }, formed_renamed f os h.1)

words_renamed : (f : ℕ → ℕ) (os : List NewObject) → words_of_all (renamed_objects f os) ≡ words_of_all os
words_renamed f [] = refl
words_renamed f (o ∷ os) = rw (length-parts f o.fields, words_renamed f os) refl

-- A PLAN THAT IS READY has room

room_left : (h : Head) (u : State Births) (q p : Plan) (t : State Births) (b : Bool) → is_over (both (used births u.memory) (demand_of_all q.objects)) h ≡ b → Went (room_or q b) u ≡ Went (Ok p) t
    → is_over (both (used births t.memory) (demand_of_all p.objects)) h ≡ false
room_left h u q p t true e f = cc
room_left h u q p t false e f =
    let a : q ≡ p = cc in
    let b : u ≡ t = cc in
    rw (← a, ← b) e

fits_at : (h : Head) (o : Transition (State Births) (Option Plan)) (p : Plan) (t : State Births) → after o (λ a s. (with_room births h a).run s) ≡ Went (Ok p) t
    → is_over (both (used births t.memory) (demand_of_all p.objects)) h ≡ false
unfolding after with_room is_crowded answer ◌>>=◌
fits_at h (Died k) p t e = cc
fits_at h (Went None u) p t e = cc
fits_at h (Went (Some q) u) p t e = room_left h u q p t (is_over (both (used births u.memory) (demand_of_all q.objects)) h) refl e

ready_fits : (h : Head) (v : Value) (text : List ℕ) (meta : Bool) (parts : PartsView) (p : Plan) (s t : State Births) → (ready births h v text meta parts).run s ≡ Went (Ok p) t
    → is_over (both (used births t.memory) (demand_of_all p.objects)) h ≡ false
unfolding ready ◌>>=◌
ready_fits h v text meta parts p s t e = fits_at h ((tried (planned births h v text meta parts)).run s) p t e

not_over : (a b c d : ℕ) → (if nat_lt c a then true else nat_lt d b) ≡ false → (a ≤ c) × (b ≤ d)
not_over a b c d e = by_first (nat_lt c a) refl e
  where
    by_first : (x : Bool) → nat_lt c a ≡ x → (if x then true else nat_lt d b) ≡ false → (a ≤ c) × (b ≤ d)
    by_first true f g = cc
    by_first false f g = (grind (arith, nat_tests), grind (arith, nat_tests))

-- what is ready over births names what is kept

alive_at : {A B : Type 0} (z : Shown) (P : A → Type 0) (r : A → B) (o : Transition (State Births) A) (q : Transition (State Table) B) (a : A) (u : State Births) → o ≡ Went a u → TransitionAlike z P r o q → P a
alive_at z P r (Died k) q a u e h = cc
alive_at z P r (Went b t) (Died k) a u e h = absurd h
alive_at z P r (Went b t) (Went x d) a u e h = let f : b ≡ a = cc in subst P f h.0

-- what is kept lives through an installation, and its pointer is its name

module _ (c : State Table) (s : State Births) where
  now_live : (n : ℕ) → IsKept s.memory n → lives s.memory n
  now_live n k = inl k

  pointer_named : (n : ℕ) → IsKept s.memory n → pointer_of s.memory n ≡ named s.memory c.memory n
  pointer_named n k = pointer_of-borne s.memory n k.0 k.1 ∙ sym (named-kept s.memory c.memory n k.0 k.1)

module _ (p : Plan) (c : State Table) (s : State Births) (runs : Runs c s) (is_ready : IsReady p s) where
  abbrev both_shown : Shown
  both_shown = record { table = c; births = s; shows = runs.shows }

  alive : PlanLive (IsKept s.memory) p
  alive =
      let k = ready-alike both_shown is_ready.class _ is_ready.name is_ready.meta is_ready.parts (record { live = is_ready.kept; is = refl }) is_ready.header in
      alive_at both_shown (ReadyLive both_shown) (renamed_ready (pointer_of s.memory)) _ _ (Ok p) s is_ready.ready k.go

  abbrev shown_plan : Plan
  shown_plan = renamed_plan (pointer_of s.memory) p

  fits : Fits c.memory c.head shown_plan.objects
  fits =
      let free = ready_fits s.head is_ready.class is_ready.name is_ready.meta is_ready.parts p s s is_ready.ready in
      let u = same_used (naming c s runs.shows) s.memory c.memory (heaps_start c s runs.shows) in
      let g : is_over (both (used table c.memory) (demand_of_all p.objects)) c.head ≡ false =
      ap (λ x. is_over (both x (demand_of_all p.objects)) c.head) u ∙ (ap (λ (a : Head). is_over (both (used births s.memory) (demand_of_all p.objects)) a) runs.shows.head ∙ free) in
      let n = not_over _ _ _ _ g in
      record { entries = rw (length-objects (pointer_of s.memory) p.objects) n.0; words = rw (words_renamed (pointer_of s.memory) p.objects) n.1 }

  formed : AllFormed shown_plan.objects
  formed = formed_renamed (pointer_of s.memory) p.objects alive.formed

  -- installed in both
  beside : TransitionSame (cycle_simulation (naming c s runs.shows)) Anything itself ((install births p).run s) ((install bounded_table shown_plan).run c)
  beside =
      let w = naming c s runs.shows in
      let live = plan_up (IsKept s.memory) (lives s.memory) (pointer_of s.memory) (named s.memory c.memory) (now_live c s) (pointer_named c s) p alive.is in
      let q = plan_same (IsKept s.memory) (lives s.memory) (pointer_of s.memory) (named s.memory c.memory) (now_live c s) (pointer_named c s) p alive.is in
      let go = (install-same (cycle_simulation w) p tt live).go s c (states_start c s runs.shows) in
      rw (install_bounded shown_plan c fits formed)
      (subst (λ x. TransitionSame (cycle_simulation (naming c s runs.shows)) Anything itself ((install births p).run s) ((install table x).run c)) (sym q) go)

  -- the table stays sound
  same_alone : SameAnswer (sound_simulation c.head runs.entries) (install bounded_table shown_plan) (install bounded_table shown_plan)
  same_alone =
      subst (λ q. SameAnswer (sound_simulation c.head runs.entries) (install bounded_table shown_plan) (install bounded_table q)) (plan_itself shown_plan)
      (install-same (sound_simulation c.head runs.entries) shown_plan tt (any_plan shown_plan))

  stays : (d : State Table) → (install bounded_table shown_plan).run c ≡ Went tt d → IsSound d × (d.head ≡ c.head)
  stays d e = stays_sound c.head runs.entries Anything itself (install bounded_table shown_plan) same_alone c d tt runs.sound refl e

  -- both die of the same cause, or both go
  by_transitions : (P : Transition (State Births) (Unit {0}) → Transition (State Table) (Unit {0}) → Type 0) → ((a b : Dead) → b ≡ a → P (Died a) (Died b))
      → ((u : State Births) (d : State Table) → StateSame (cycle_simulation (naming c s runs.shows)) u d → IsSound d × (d.head ≡ c.head) → P (Went tt u) (Went tt d))
      → (o : Transition (State Births) (Unit {0})) (q : Transition (State Table) (Unit {0})) → TransitionSame (cycle_simulation (naming c s runs.shows)) Anything itself o q → ((d : State Table) → q ≡ Went tt d → IsSound d × (d.head ≡ c.head)) → P o q
  by_transitions P died went (Died a) (Died b) (inl h) k = died a b h
  by_transitions P died went (Died a) (Died b) (inr h) k = absurd h
  by_transitions P died went (Died a) (Went y d) h k = absurd h
  by_transitions P died went (Went x u) (Died b) h k = absurd h.1
  by_transitions P died went (Went x u) (Went y d) (inl h) k = absurd h.1
  by_transitions P died went (Went x u) (Went y d) (inr h) k = went u d h.2 (k d refl)

  runs_on : (o : Transition (State Births) (Unit {0})) (q : Transition (State Table) (Unit {0})) → TransitionSame (cycle_simulation (naming c s runs.shows)) Anything itself o q → ((d : State Table) → q ≡ Went tt d → IsSound d × (d.head ≡ c.head)) → RunsOn q o
  runs_on = by_transitions (λ o q. RunsOn q o) (λ a b h. h)
      (λ u d h r. record {
        shows = shows_now (naming c s runs.shows) u d h r.0.closed;
        sound = r.0;
        entries = subst (λ (a : Head). a.entries ≤ 32767) (sym r.1) runs.entries;
      })

  settles : (o : Transition (State Births) (Unit {0})) (q : Transition (State Table) (Unit {0})) → TransitionSame (cycle_simulation (naming c s runs.shows)) Anything itself o q → ((d : State Table) → q ≡ Went tt d → IsSound d × (d.head ≡ c.head)) → RunsOn (settled_after table q) (settled_after births o)
  settles = by_transitions (λ o q. RunsOn (settled_after table q) (settled_after births o)) (λ a b h. h)
      (λ u d h r. let sound = reclaim_sound d r.0 in record {
        shows = (went_step (naming c s runs.shows) d u outcome.Went h tt sound.closed tt).1;
        sound = sound;
        entries = subst (λ (a : Head). a.entries ≤ 32767) (sym (reclaim_head d ∙ r.1)) runs.entries;
      })

-- THE LAWS

pub install_shows : InstallShows
install_shows p c s r k = runs_on p c s r k _ _ (beside p c s r k) (stays p c s r k)

pub install_settles : InstallSettles
install_settles p c s r k = settles p c s r k _ _ (beside p c s r k) (stays p c s r k)
