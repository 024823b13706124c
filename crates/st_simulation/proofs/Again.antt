-- A step over the births and over the table that shows them leaves a table that shows them again, also where nothing is
-- reclaimed after it.
use Rattle.std.proofs.Common.{◌≡◌, ℕ, List, Some, refl, sym, ◌∙◌, ap, subst, inl, inr}
use Rattle.st_model.specs.Values.{AllLive}
use Rattle.st_model.specs.Objects.{Object, place_of, renamed_object, IsLiveObject}
use Rattle.st_model.specs.Machine.{State, Transition, Died, Went, roots_of}
use Rattle.st_model.specs.Births.{Births, births, object_born, bearer, borne}
use Rattle.st_model.specs.Table.{Table, table, entry}
use Rattle.st_model.specs.Contexts.{fetch_scheduled_registers}
use Rattle.st_model.specs.inside.Calls.{itself}
use Rattle.st_model.specs.Births.{pointer_of}
use Rattle.st_model.specs.Show.{IsKept, IsUsed, Shows, IsClosed, raised}
use Rattle.st_model.specs.declared.head.ImageHead.{ImageHead}
use Rattle.st_model.specs.Start.{idle_state, start_view, start, begin}
use Rattle.st_model.specs.inside.Foreseen.{ShownAgain}
use Rattle.st_simulation.proofs.Same.{StateSame, TransitionSame, Anything}
use Rattle.st_simulation.proofs.ContextsSame.{fetch_scheduled_registers-same}
use Rattle.st_model.proofs.BirthLemmas.{pointer_of-borne}
use Rattle.st_model.proofs.SettledLemmas.{bearer-borne}
use Rattle.st_model.proofs.Names.{map_all, map_object, same_object, same_registers, same_head, same_world}
use Rattle.st_simulation.proofs.HeapsSame.{Naming, HeapSame, cycle_simulation}
use Rattle.st_simulation.proofs.Started.{naming, states_start}
use Rattle.st_simulation.proofs.Ended.{same_at, roots_both, object_both}
use Rattle.st_simulation.proofs.Closed.{fetched_closed}
use Rattle.st_model.proofs.Raised.{raised_shown}

module _ (w : Naming) (u : State Births) (c : State Table) (ss : StateSame (cycle_simulation w) u c) (closed : IsClosed c) where
  hs : HeapSame w u.memory c.memory
  hs = ss.memory

  abbrev here : ℕ → Type 0
  here n = w.live n × IsUsed c.memory (w.name n)

  borne_here : (n p : ℕ) → w.live n → p ≡ w.name n → IsUsed c.memory p → borne u.memory n ≡ Some p
  borne_here n p l e used =
      let k = hs.covered p used.0 used.1 in
      let q = w.injective k.0 n k.1 l (k.3 ∙ e) in
      subst (λ x. borne u.memory x ≡ Some p) q (hs.kept k.0 k.1 k.2 ∙ ap (λ x. Some x) k.3)

  kept_here : (n : ℕ) → here n → IsKept u.memory n
  kept_here n h = (w.name n, borne_here n (w.name n) h.0 refl h.1)

  name_is : (n : ℕ) → here n → w.name n ≡ pointer_of u.memory n
  name_is n h = sym (pointer_of-borne u.memory n (w.name n) (borne_here n (w.name n) h.0 refl h.1))

  object_here : (n p : ℕ) (o : Object) → borne u.memory n ≡ Some p → object_born u.memory n ≡ Some o → (entry c.memory p ≡ Some (renamed_object w.name o)) × IsLiveObject here o
  object_here n p o e f =
      let b = hs.bears n p e in
      let s = same_at w.live w.name (object_born u.memory n) (entry c.memory (w.name n)) o (hs.objects n b.0) f in
      let g : entry c.memory p ≡ Some (renamed_object w.name o) = subst (λ x. entry c.memory x ≡ Some (renamed_object w.name o)) b.1 s.1 in
      (g, object_both w u c ss (IsUsed c.memory) o s.0 (closed.objects p (renamed_object w.name o) g))

  roots_here : AllLive here (roots_of u)
  roots_here = roots_both w u c ss (IsUsed c.memory) closed.roots

  pub shows_now : Shows c u
  shows_now = record {
    objects = λ n p o e f. let s = object_here n p o e f in s.0 ∙ ap (λ x. Some x) (same_object here w.name (pointer_of u.memory) name_is o s.1);
    only = λ p o e. let k = hs.covered p o e in (k.0, borne_here k.0 p k.1 (sym k.3) (o, e));
    distinct = λ m n p e f. let a = hs.bears m p e in let b = hs.bears n p f in w.injective m n a.0 b.0 (a.1 ∙ sym b.1);
    closed = λ n p o e f. map_object here (IsKept u.memory) kept_here o (object_here n p o e f).1;
    page = λ q. let b = hs.page q in bearer-borne u.memory (bearer u.memory (place_of q)) (place_of q) (borne_here (bearer u.memory (place_of q)) (place_of q) b.1 b.2 (closed.page q));
    roots = map_all here (IsKept u.memory) kept_here (roots_of u) roots_here;
    registers = ss.registers ∙ same_registers here w.name (pointer_of u.memory) name_is u.registers u.head u.world roots_here;
    world = ss.world ∙ same_world here w.name (pointer_of u.memory) name_is u.registers u.head u.world roots_here;
    head = ss.head ∙ same_head here w.name (pointer_of u.memory) name_is u.registers u.head u.world roots_here;
  }

-- any step with a lemma that it does the same, where it leaves the table closed
pub shown_again : (w : Naming) (o : Transition (State Births) Unit) (p : Transition (State Table) Unit) → TransitionSame (cycle_simulation w) Anything itself o p
    → ((d : State Table) → p ≡ Went tt d → IsClosed d) → ShownAgain p o
shown_again w (Died a) (Died b) (inl h) k = h
shown_again w (Died a) (Died b) (inr h) k = absurd h
shown_again w (Died a) (Went b d) h k = absurd h
shown_again w (Went a u) (Died b) h k = absurd h.1
shown_again w (Went a u) (Went b d) (inl h) k = absurd h.1
shown_again w (Went a u) (Went b d) (inr h) k = let c = k d refl in (shows_now w u d h.2 c, c)

-- the registers that are fetched from what begins as births
pub fetched_shown : (c : State Table) → IsClosed c → ShownAgain ((fetch_scheduled_registers table).run c) ((fetch_scheduled_registers births).run (raised c))
fetched_shown c k =
    let w = raised_shown c k in
    let n = naming c (raised c) w in
    shown_again n ((fetch_scheduled_registers births).run (raised c)) ((fetch_scheduled_registers table).run c)
    ((fetch_scheduled_registers-same (cycle_simulation n)).go (raised c) c (states_start c (raised c) w)) (λ d e. fetched_closed c d k e)

pub begin_shown : (h : ImageHead) (bytes : List ℕ) → IsClosed (idle_state (start_view h bytes)) → ShownAgain (start h bytes) (begin h bytes)
unfolding start begin
begin_shown h bytes k = fetched_shown (idle_state (start_view h bytes)) k
