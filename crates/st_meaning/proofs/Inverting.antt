-- What a step of the machine did that went: its parts went, and what each read or stored.
use Rattle.std.proofs.Common.{◌≡◌, ℕ, ◌+◌, ◌<◌, length, Bool, true, false, Option, Some, None, refl, sym, ap, ◌∙◌, subst, arith}
use Rattle.std.specs.Prelude.{◌-◌, ℤ, ◌+ℤ◌, slice_get}
use Rattle.std.proofs.lemmas.Bool.Decides.{nat_tests}
use Rattle.st_model.specs.declared.dead.Dead.{Dead}
use Rattle.st_model.specs.Values.{Value, Small, Ref}
use Rattle.st_model.specs.declared.page.PageObject.{PageObject}
use Rattle.st_model.specs.Objects.{Object, is_pointers, is_method, with_field}
use Rattle.st_model.specs.Machine.{ObjectMemory, State, Transition, Died, Went, Step, is_there, answer, die, after, ◌>>=◌, ◌>>◌}
use Rattle.st_model.specs.Steps.{get_active, get_home, get_method, get_receiver, get_ip, get_sp, set_ip, set_sp, found, object_named, object, stored_at, store_at, set_field, of_page, or_die, check, fetch_field, store_field, count_fields, put, push, top, pop, under, literal, jump}
use Rattle.st_meaning.specs.inside.Machines.{field_in, literal_in, object_in, field_at}

-- two steps, one after the other
pub record Split {H A B : Type 0} (n : Step H A) (f : A → Step H B) (s t : State H) (b : B) : Type 0 where
  pub mid : A
  pub state : State H
  pub first : n.run s ≡ Went mid state
  pub rest : (f mid).run state ≡ Went b t

split_by : {H A B : Type 0} (n : Step H A) (f : A → Step H B) (s t : State H) (b : B) (o : Transition (State H) A) → n.run s ≡ o → after o (λ a u. (f a).run u) ≡ Went b t → Split n f s t b
unfolding after
split_by n f s t b (Died c) e q = cc
split_by n f s t b (Went a u) e q = record { mid = a; state = u; first = e; rest = q }

pub split : {H A B : Type 0} (n : Step H A) (f : A → Step H B) (s t : State H) (b : B) → (n >>= f).run s ≡ Went b t → Split n f s t b
unfolding ◌>>=◌
split n f s t b q = split_by n f s t b (n.run s) refl q

pub split_next : {H A B : Type 0} (n : Step H A) (p : Step H B) (s t : State H) (b : B) → (n >> p).run s ≡ Went b t → Split n (λ a. p) s t b
unfolding ◌>>◌
split_next n p s t b q = split n (λ a. p) s t b q

-- and forward
pub then_goes : {H A B : Type 0} (n : Step H A) (f : A → Step H B) (s u : State H) (a : A) → n.run s ≡ Went a u → (n >>= f).run s ≡ (f a).run u
unfolding ◌>>=◌ after
then_goes n f s u a e = ap (λ o. after o (λ x w. (f x).run w)) e

pub next_goes : {H A B : Type 0} (n : Step H A) (p : Step H B) (s u : State H) (a : A) → n.run s ≡ Went a u → (n >> p).run s ≡ p.run u
unfolding ◌>>◌
next_goes n p s u a e = then_goes n (λ x. p) s u a e

pub then_as : {H A B : Type 0} (n p : Step H A) (f : A → Step H B) (s u : State H) → n.run s ≡ p.run u → (n >>= f).run s ≡ (p >>= f).run u
unfolding ◌>>=◌
then_as n p f s u e = ap (λ o. after o (λ x w. (f x).run w)) e

-- STEPS THAT READ

-- it leaves the state as it is
abbrev pub Reads : {H A : Type 0} → Step H A → Type 0
Reads {H} {A} n = (s u : State H) (a : A) → n.run s ≡ Went a u → u ≡ s

pub answer_reads : {H A : Type 0} (a : A) → Reads {H = H} (answer a)
unfolding answer
answer_reads a s u x q = cc

pub then_reads : {H A B : Type 0} (n : Step H A) (f : A → Step H B) → Reads n → ((a : A) → Reads (f a)) → Reads (n >>= f)
then_reads n f r g s u b q =
    let p = split n f s u b q in
    g p.mid p.state u b p.rest ∙ r s p.state p.mid p.first

pub next_reads : {H A B : Type 0} (n : Step H A) (p : Step H B) → Reads n → Reads p → Reads (n >> p)
unfolding ◌>>◌
next_reads n p r g = then_reads n (λ a. p) r (λ a. g)

-- what was read, and the rest from the same state
pub record ReadThen {H A B : Type 0} (n : Step H A) (f : A → Step H B) (s t : State H) (b : B) : Type 0 where
  pub mid : A
  pub first : n.run s ≡ Went mid s
  pub rest : (f mid).run s ≡ Went b t

pub read_then : {H A B : Type 0} (n : Step H A) (f : A → Step H B) (s t : State H) (b : B) → Reads n → (n >>= f).run s ≡ Went b t → ReadThen n f s t b
read_then n f s t b r q =
    let p = split n f s t b q in
    let e : p.state ≡ s = r s p.state p.mid p.first in
    record { mid = p.mid; first = subst (λ u. n.run s ≡ Went p.mid u) e p.first; rest = subst (λ u. (f p.mid).run u ≡ Went b t) e p.rest }

pub read_next : {H A B : Type 0} (n : Step H A) (p : Step H B) (s t : State H) (b : B) → Reads n → (n >> p).run s ≡ Went b t → ReadThen n (λ a. p) s t b
unfolding ◌>>◌
read_next n p s t b r q = read_then n (λ a. p) s t b r q

pub answered : {H A : Type 0} (a b : A) (s t : State H) → (answer a).run s ≡ Went b t → (a ≡ b) × (s ≡ t)
unfolding answer
answered a b s t q = let e : a ≡ b = cc in let f : s ≡ t = cc in (e, f)

module _ {H : Type 0} where
  pub active_reads : Reads {H = H} get_active
  unfolding get_active
  active_reads s u a q = cc

  pub home_reads : Reads {H = H} get_home
  unfolding get_home
  home_reads s u a q = cc

  pub method_reads : Reads {H = H} get_method
  unfolding get_method
  method_reads s u a q = cc

  pub receiver_reads : Reads {H = H} get_receiver
  unfolding get_receiver
  receiver_reads s u a q = cc

  pub ip_reads : Reads {H = H} get_ip
  unfolding get_ip
  ip_reads s u a q = cc

  pub sp_reads : Reads {H = H} get_sp
  unfolding get_sp
  sp_reads s u a q = cc

  pub check_reads : (c : Dead) (b : Bool) → Reads {H = H} (check c b)
  unfolding check answer die
  check_reads c true s u a q = cc
  check_reads c false s u a q = cc

  pub or_die_reads : {A : Type 0} (c : Dead) (x : Option A) → Reads {H = H} (or_die c x)
  unfolding or_die answer die
  or_die_reads c None s u a q = cc
  or_die_reads c (Some y) s u a q = cc

  pub active_is : (s u : State H) (a : Value) → get_active.run s ≡ Went a u → a ≡ s.registers.active
  unfolding get_active
  active_is s u a q = cc

  pub home_is : (s u : State H) (a : Value) → get_home.run s ≡ Went a u → a ≡ s.registers.home
  unfolding get_home
  home_is s u a q = cc

  pub method_is : (s u : State H) (a : Value) → get_method.run s ≡ Went a u → a ≡ s.registers.method
  unfolding get_method
  method_is s u a q = cc

  pub receiver_is : (s u : State H) (a : Value) → get_receiver.run s ≡ Went a u → a ≡ s.registers.receiver
  unfolding get_receiver
  receiver_is s u a q = cc

  pub ip_is : (s u : State H) (a : ℤ) → get_ip.run s ≡ Went a u → a ≡ s.registers.ip
  unfolding get_ip
  ip_is s u a q = cc

  pub sp_is : (s u : State H) (a : ℕ) → get_sp.run s ≡ Went a u → a ≡ s.registers.sp
  unfolding get_sp
  sp_is s u a q = cc

  pub check_is : (c : Dead) (b : Bool) (s u : State H) (a : Unit {0}) → (check c b).run s ≡ Went a u → b ≡ true
  unfolding check die
  check_is c true s u a q = refl
  check_is c false s u a q = cc

  pub some_is : {A : Type 0} (c : Dead) (x : Option A) (s u : State H) (a : A) → (or_die c x).run s ≡ Went a u → x ≡ Some a
  unfolding or_die answer die
  some_is c None s u a q = cc
  some_is c (Some y) s u a q = let e : y ≡ a = cc in ap Some e

  pub set_sp_is : (n : ℕ) (s t : State H) (a : Unit {0}) → (set_sp n).run s ≡ Went a t → t ≡ record s { registers = record s.registers { sp = n } }
  unfolding set_sp
  set_sp_is n s t a q = cc

  pub set_ip_is : (z : ℤ) (s t : State H) (a : Unit {0}) → (set_ip z).run s ≡ Went a t → t ≡ record s { registers = record s.registers { ip = z } }
  unfolding set_ip
  set_ip_is z s t a q = cc

module _ {H : Type 0} (m : ObjectMemory H) where
  pub page_reads : (q : PageObject) → Reads (of_page m q)
  unfolding of_page
  page_reads q s u a e = cc

  pub page_is : (q : PageObject) (s u : State H) (a : Value) → (of_page m q).run s ≡ Went a u → a ≡ Ref (m.named s.memory q)
  unfolding of_page
  page_is q s u a e = cc

  found_reads : (e : Option Object) → Reads {H = H} (found e)
  unfolding found answer die
  found_reads None s u a q = cc
  found_reads (Some o) s u a q = cc

  found_is : (e : Option Object) (s u : State H) (a : Object) → (found e).run s ≡ Went a u → e ≡ Some a
  unfolding found answer die
  found_is None s u a q = cc
  found_is (Some o) s u a q = let p : o ≡ a = cc in ap Some p

  pub object_reads : (v : Value) → Reads (object m v)
  unfolding object object_named die
  object_reads (Small n) s u a q = cc
  object_reads (Ref n) s u a q = found_reads (m.read s.memory n) s u a q

  pub object_is : (v : Value) (s u : State H) (a : Object) → (object m v).run s ≡ Went a u → object_in m s.memory v ≡ Some a
  unfolding object object_named die
  object_is (Small n) s u a q = cc
  object_is (Ref n) s u a q = found_is (m.read s.memory n) s u a q

  pub field_reads : (v : Value) (i : ℕ) → Reads (fetch_field m v i)
  unfolding fetch_field
  field_reads v i = then_reads _ _ (object_reads v) (λ o. next_reads _ _ (check_reads _ _) (or_die_reads _ _))

  kept_field : (o : Object) (i : ℕ) (x : Value) (e : Option Object) → e ≡ Some o → is_pointers o.kind ≡ true → slice_get o.fields i ≡ Some x → field_in e i ≡ Some x
  kept_field o i x e p k g = rw (p, k) g

  pub field_is : (v : Value) (i : ℕ) (s u : State H) (x : Value) → (fetch_field m v i).run s ≡ Went x u → field_at m s.memory v i ≡ Some x
  unfolding fetch_field
  field_is v i s u x q =
      let p = read_then _ _ s u x (object_reads v) q in
      let c = read_next _ _ s u x (check_reads _ _) p.rest in
      kept_field p.mid i x (object_in m s.memory v) (object_is v s s p.mid p.first) (check_is _ _ s s c.mid c.first) (some_is _ _ s u x c.rest)

  pub literal_reads : (v : Value) (i : ℕ) → Reads (literal m v i)
  unfolding literal
  literal_reads v i = then_reads _ _ (object_reads v) (λ o. next_reads _ _ (check_reads _ _) (or_die_reads _ _))

  kept_literal : (o : Object) (i : ℕ) (x : Value) (e : Option Object) → e ≡ Some o → is_method o.kind ≡ true → slice_get o.fields (i + 1) ≡ Some x → literal_in e i ≡ Some x
  kept_literal o i x e p k g = rw (p, k) g

  pub literal_is : (v : Value) (i : ℕ) (s u : State H) (x : Value) → (literal m v i).run s ≡ Went x u → literal_in (object_in m s.memory v) i ≡ Some x
  unfolding literal
  literal_is v i s u x q =
      let p = read_then _ _ s u x (object_reads v) q in
      let c = read_next _ _ s u x (check_reads _ _) p.rest in
      kept_literal p.mid i x (object_in m s.memory v) (object_is v s s p.mid p.first) (check_is _ _ s s c.mid c.first) (some_is _ _ s u x c.rest)

  pub count_reads : (v : Value) → Reads (count_fields m v)
  unfolding count_fields
  count_reads v = then_reads _ _ (object_reads v) (λ o. next_reads _ _ (check_reads _ _) (answer_reads _))

  -- STEPS THAT STORE

  -- x was stored into field i of an object of kind Pointers
  pub record Stored (h g : H) (v : Value) (i : ℕ) (x : Value) : Type 0 where
    pub name : ℕ
    pub object : Object
    pub is : v ≡ Ref name
    pub read : m.read h name ≡ Some object
    pub kind : is_pointers object.kind ≡ true
    pub range : i < length object.fields
    pub new : g ≡ m.replace h name (with_field object i x)

  pub record StoredIn (s t : State H) (v : Value) (i : ℕ) (x : Value) : Type 0 where
    pub memory : H
    pub stored : Stored s.memory memory v i x
    pub is : t ≡ record s { memory = memory }

  stored_by : (n i : ℕ) (x : Value) (s t : State H) (u : Unit {0}) (e : Option Object) (o : Object) (b : Bool) → e ≡ Some o → stored_at m n i x s e b ≡ Went u t
      → t ≡ record s { memory = m.replace s.memory n (with_field o i x) }
  unfolding stored_at
  stored_by n i x s t u None o b p q = cc
  stored_by n i x s t u (Some a) o false p q = cc
  stored_by n i x s t u (Some a) o true p q =
      let e : t ≡ record s { memory = m.replace s.memory n (with_field a i x) } = cc in
      let f : a ≡ o = cc in
      e ∙ ap (λ (z : Object). record s { memory = m.replace s.memory n (with_field z i x) }) f

  set_is : (v : Value) (i : ℕ) (x : Value) (s t : State H) (u : Unit {0}) (o : Object) → object_in m s.memory v ≡ Some o → is_pointers o.kind ≡ true → i < length o.fields
      → (set_field m v i x).run s ≡ Went u t → StoredIn s t v i x
  unfolding set_field store_at die
  set_is (Small n) i x s t u o e k l q = cc
  set_is (Ref n) i x s t u o e k l q = record {
    memory = m.replace s.memory n (with_field o i x);
    stored = record { name = n; object = o; is = refl; read = e; kind = k; range = l; new = refl };
    is = stored_by n i x s t u (m.read s.memory n) o (is_there m s.memory x) e q;
  }

  pub store_is : (v : Value) (i : ℕ) (x : Value) (s t : State H) (u : Unit {0}) → (store_field m v i x).run s ≡ Went u t → StoredIn s t v i x
  unfolding store_field
  store_is v i x s t u q =
      let p = read_then _ _ s t u (object_reads v) q in
      let c = read_next _ _ s t u (check_reads _ _) p.rest in
      let d = read_next _ _ s t u (check_reads _ _) c.rest in
      let b = check_is _ _ s s d.mid d.first in
      let l : i < length p.mid.fields = grind (arith, nat_tests, b) in
      set_is v i x s t u p.mid (object_is v s s p.mid p.first) (check_is _ _ s s c.mid c.first) l d.rest

  -- a word was pushed
  pub record Pushed (s t : State H) (x : Value) : Type 0 where
    pub memory : H
    pub stored : Stored s.memory memory s.registers.active (s.registers.sp + 1) x
    pub is : t ≡ record s { memory = memory; registers = record s.registers { sp = s.registers.sp + 1 } }

  put_is : (c : Value) (at : ℕ) (x : Value) (s t : State H) (u : Unit {0}) → (put m c at x).run s ≡ Went u t → StoredIn s t c at x
  unfolding put
  put_is c at x s t u q =
      let p = read_then _ _ s t u (count_reads c) q in
      let d = read_next _ _ s t u (check_reads _ _) p.rest in
      let e = read_next _ _ s t u (check_reads _ _) d.rest in
      store_is c at x s t u e.rest

  pushed_at : (c : Value) (sp : ℕ) (x : Value) (s t : State H) (u : Unit {0}) → c ≡ s.registers.active → sp ≡ s.registers.sp → (put m c (sp + 1) x >> set_sp (sp + 1)).run s ≡ Went u t → Pushed s t x
  pushed_at c sp x s t u e f q =
      let p = split_next (put m c (sp + 1) x) (set_sp (sp + 1)) s t u q in
      let g = put_is c (sp + 1) x s p.state p.mid p.first in
      let z : t ≡ record p.state { registers = record p.state.registers { sp = sp + 1 } } = set_sp_is (sp + 1) p.state t u p.rest in
      record {
        memory = g.memory;
        stored = subst (λ n. Stored s.memory g.memory s.registers.active (n + 1) x) f (subst (λ v. Stored s.memory g.memory v (sp + 1) x) e g.stored);
        is = z ∙ ap (λ (w : State H). record w { registers = record w.registers { sp = sp + 1 } }) g.is ∙ ap (λ n. record s { memory = g.memory; registers = record s.registers { sp = n + 1 } }) f;
      }

  pub push_is : (x : Value) (s t : State H) (u : Unit {0}) → (push m x).run s ≡ Went u t → Pushed s t x
  unfolding push
  push_is x s t u q =
      let p = read_then _ _ s t u active_reads q in
      let d = read_then _ _ s t u sp_reads p.rest in
      pushed_at p.mid d.mid x s t u (active_is s s p.mid p.first) (sp_is s s d.mid d.first) d.rest

  -- THE STACK

  -- the word at the top
  pub record Topped (s : State H) (x : Value) : Type 0 where
    pub some : 5 < s.registers.sp
    pub stands : field_at m s.memory s.registers.active s.registers.sp ≡ Some x

  pub top_reads : Reads (top m)
  unfolding top
  top_reads = then_reads _ _ sp_reads (λ sp. next_reads _ _ (check_reads _ _) (then_reads _ _ active_reads (λ c. field_reads c sp)))

  pub top_is : (s u : State H) (x : Value) → (top m).run s ≡ Went x u → Topped s x
  unfolding top
  top_is s u x q =
      let p = read_then _ _ s u x sp_reads q in
      let c = read_next _ _ s u x (check_reads _ _) p.rest in
      let d = read_then _ _ s u x active_reads c.rest in
      let e = sp_is s s p.mid p.first in
      let b = check_is _ _ s s c.mid c.first in
      let l : 5 < p.mid = grind (arith, nat_tests, b) in
      record {
        some = subst (λ n. 5 < n) e l;
        stands = subst (λ n. field_at m s.memory s.registers.active n ≡ Some x) e
            (subst (λ v. field_at m s.memory v p.mid ≡ Some x) (active_is s s d.mid d.first) (field_is d.mid p.mid s u x d.rest));
      }

  pub under_reads : (k : ℕ) → Reads (under m k)
  unfolding under
  under_reads k = then_reads _ _ sp_reads (λ sp. next_reads _ _ (check_reads _ _) (then_reads _ _ active_reads (λ c. field_reads c _)))

  -- it was popped
  pub record Popped (s t : State H) (x : Value) : Type 0 where
    pub top : Topped s x
    pub is : t ≡ record s { registers = record s.registers { sp = s.registers.sp - 1 } }

  pub pop_is : (s t : State H) (x : Value) → (pop m).run s ≡ Went x t → Popped s t x
  unfolding pop
  pop_is s t x q =
      let p = read_then _ _ s t x top_reads q in
      let d = read_then _ _ s t x sp_reads p.rest in
      let c = split_next _ _ s t x d.rest in
      let a = answered p.mid x c.state t c.rest in
      let z : c.state ≡ record s { registers = record s.registers { sp = d.mid - 1 } } = set_sp_is (d.mid - 1) s c.state c.mid c.first in
      record {
        top = subst (Topped s) a.0 (top_is s s p.mid p.first);
        is = sym a.1 ∙ z ∙ ap (λ n. record s { registers = record s.registers { sp = n - 1 } }) (sp_is s s d.mid d.first);
      }

  pub jump_is : (d : ℤ) (s t : State H) (u : Unit {0}) → (jump d).run s ≡ Went u t → t ≡ record s { registers = record s.registers { ip = s.registers.ip +ℤ d } }
  unfolding jump
  jump_is d s t u q =
      let p = read_then _ _ s t u ip_reads q in
      let c = read_next _ _ s t u (check_reads _ _) p.rest in
      let e = read_next _ _ s t u (check_reads _ _) c.rest in
      set_ip_is (p.mid +ℤ d) s t u e.rest ∙ ap (λ z. record s { registers = record s.registers { ip = z +ℤ d } }) (ip_is s s p.mid p.first)
