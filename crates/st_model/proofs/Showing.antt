-- What births show, as a function, is the state over a table that shows them.
use Rattle.std.proofs.Common.{◌≡◌, ℕ, ◌<◌, [], ◌∷◌, length, zero, suc, Option, Some, None, Bool, true, false, refl, sym, ◌∙◌, ap, arith}
use Rattle.std.specs.Option.{option_map}
use Rattle.std.specs.Prelude.{if◌then◌else◌}
use Rattle.st_model.specs.Lists.{made}
use Rattle.st_model.specs.Objects.{Object, renamed_object}
use Rattle.st_model.specs.Machine.{State}
use Rattle.st_model.specs.Births.{Birth, Births, object_born, bears, borne}
use Rattle.st_model.specs.Table.{Table, entry}
use Rattle.st_model.specs.Show.{pointer_of, Shows, object_borne, shown_table, show}
use Rattle.st_model.proofs.BirthLemmas.{kept_bears, bears_kept}

-- two tables of one length with the same entries are the same
pub same_entries : (t : Table) (f : ℕ → Option Object) → ((k : ℕ) → k < length t → f k ≡ entry t k) → made f (length t) ≡ t
same_entries [] f e = refl
same_entries (x ∷ t) f e =
    let a = e 0 (omega arith) in
    let b = same_entries t (λ k. f (suc k)) (λ k l. e (suc k) (omega (arith, l))) in
    λ i. a i ∷ b i

found_case : (b : Birth) (h : Births) (p : ℕ) (o : Object) (c : Bool) → bears b p ≡ c → (if c then Some b.object else object_borne h p) ≡ Some o
    → (object_borne h p ≡ Some o → (n : ℕ) × (borne h n ≡ Some p) × (object_born h n ≡ Some o))
    → (n : ℕ) × (borne (b ∷ h) n ≡ Some p) × (object_born (b ∷ h) n ≡ Some o)
found_case b h p o true e q f = (0, bears_kept b.kept b.pointer p e, q)
found_case b h p o false e q f = let r = f q in (suc r.0, r.1, r.2)

pub found_birth : (h : Births) (p : ℕ) (o : Object) → object_borne h p ≡ Some o → (n : ℕ) × (borne h n ≡ Some p) × (object_born h n ≡ Some o)
found_birth [] p o e = cc
found_birth (b ∷ h) p o e = found_case b h p o (bears b p) refl e (λ q. found_birth h p o q)

none_case : (b : Birth) (h : Births) (p n : ℕ) (c : Bool) → bears b p ≡ c → (if c then Some b.object else object_borne h p) ≡ None
    → borne (b ∷ h) n ≡ Some p → ((m : ℕ) → object_borne h p ≡ None → borne h m ≡ Some p → ⊥) → ⊥
none_case b h p n true e q k f = cc
none_case b h p zero false e q k f = let t = kept_bears b.kept b.pointer p k in absurd (cc)
none_case b h p (suc n) false e q k f = f n q k

no_birth : (h : Births) (p n : ℕ) → object_borne h p ≡ None → borne h n ≡ Some p → ⊥
no_birth [] p n e k = cc
no_birth (b ∷ h) p n e k = none_case b h p n (bears b p) refl e k (λ m q l. no_birth h p m q l)

entry_cases : (x : Option Object) (g : Object → Object) (y : Option Object) → ((o : Object) → x ≡ Some o → y ≡ Some (g o)) → (x ≡ None → (o : Object) → y ≡ Some o → ⊥) → option_map g x ≡ y
entry_cases (Some o) g y f k = sym (f o refl)
entry_cases None g None f k = refl
entry_cases None g (Some o) f k = absurd (k refl o refl)

module _ (c : State Table) (s : State Births) (w : Shows c s) where
  same_entry : (p : ℕ) → option_map (renamed_object (pointer_of s.memory)) (object_borne s.memory p) ≡ entry c.memory p
  same_entry p = entry_cases (object_borne s.memory p) (renamed_object (pointer_of s.memory)) (entry c.memory p)
      (λ o e. let r = found_birth s.memory p o e in w.objects r.0 p o r.1 r.2)
      (λ e o f. let r = w.only p o f in no_birth s.memory p r.0 e r.1)

  same_table : length c.memory ≡ 32768 → shown_table s.memory ≡ c.memory
  unfolding shown_table
  same_table e = ap (made (λ p. option_map (renamed_object (pointer_of s.memory)) (object_borne s.memory p))) (sym e) ∙ same_entries c.memory (λ p. option_map (renamed_object (pointer_of s.memory)) (object_borne s.memory p)) (λ p l. same_entry p)

  pub show_is : length c.memory ≡ 32768 → show s ≡ c
  unfolding show
  show_is e = let m = same_table e in λ i. record { memory = m i; registers = sym w.registers i; world = sym w.world i; head = sym w.head i }
