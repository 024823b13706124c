-- What a text is compared with: the bytes of an object, or none.
use Rattle.std.proofs.Common.{◌≡◌, ◌≢◌, ℕ, List, Bool, true, false, Option, Some, None, refl, sym}
use Rattle.std.specs.Prelude.{◌&&◌, if◌then◌else◌, is_some, unwrap_or, bytes_eq, Ok, Err}
use Rattle.std.proofs.lemmas.Slice.Eq.{bytes_eq-Decides}
use Rattle.std.proofs.lemmas.Bool.Decides.{same_from_decides}
use Rattle.st_model.specs.declared.dead.Dead.{Dead}
use Rattle.st_model.specs.declared.dead.Dead.TheVariants as dead
use Rattle.st_model.specs.declared.oop.Oop.{Oop}
use Rattle.st_model.specs.Values.{Value, Small, Ref, value}
use Rattle.st_model.specs.Objects.{Object, is_bytes}
use Rattle.st_model.specs.Machine.{State, Went, answer, die, after, or_left, tried, ◌>>=◌, ◌>>◌}
use Rattle.st_model.specs.Steps.{object, object_named, found, check}
use Rattle.st_model.specs.Table.{Table, table, entry}
use Rattle.st_model.specs.inside.Calls.{Reads, itself}
use Rattle.st_model.specs.View.{is_live, object_of, nothing}
use Rattle.st_model.proofs.Runs.{run-then, after-went, after-died}
use Rattle.st_scope.specs.Tables.{bytes_of, is_text, member_key, member_name, has_name}
use Rattle.st_scope.specs.Texts.{text_at}

pub text-gone : (t : Table) (v : Value) (ts : List ℕ) → is_live t v ≡ false → false ≡ is_text ts (text_at t v)
unfolding text_at
text-gone t v ts e = rw e refl

pub text-other : (t : Table) (v : Value) (ts : List ℕ) → is_live t v ≡ true → is_bytes (object_of t v).kind ≡ false → false ≡ is_text ts (text_at t v)
unfolding text_at
text-other t v ts e k = rw (e, k) refl

decided : (b : Bool) (us ts : List ℕ) → (b ≡ true → us ≡ ts) → (b ≡ false → us ≢ ts) → b ≡ bytes_eq us ts
decided true us ts same other = sym ((bytes_eq-Decides us ts).1 (same refl))
decided false us ts same other = same_from_decides false (bytes_eq us ts) (λ e. cc, λ q. absurd (other refl q)) (bytes_eq-Decides us ts)

pub text-there : (t : Table) (v : Value) (ts : List ℕ) (b : Bool) → is_live t v ≡ true → is_bytes (object_of t v).kind ≡ true → (b ≡ true → (object_of t v).units ≡ ts) → (b ≡ false → (object_of t v).units ≢ ts)
    → b ≡ is_text ts (text_at t v)
unfolding text_at
text-there t v ts b e k same other = rw (e, k) (decided b (object_of t v).units ts same other)

pub ruleset texts = (text-gone, text-other, text-there)

-- A MEMBER'S NAME

bytes_if : (o : Object) (b : Bool) (s : State Table) → or_left s ((check dead.Kind b >> answer {H = Table} o.units).run s) ≡ Went (if b then Some o.units else None) s
unfolding check answer die ◌>>◌ ◌>>=◌ after
bytes_if o true s = refl
bytes_if o false s = refl

bytes_at : (e : Option Object) (s : State Table) → or_left s ((found e >>= (λ o. check dead.Kind (is_bytes o.kind) >> answer {H = Table} o.units)).run s)
    ≡ Went (if is_some e && is_bytes (unwrap_or e nothing).kind then Some (unwrap_or e nothing).units else None) s
unfolding found answer die ◌>>◌ ◌>>=◌ after
bytes_at None s = refl
bytes_at (Some o) s = bytes_if o (is_bytes o.kind) s

-- the bytes of an object, where they are tried
pub tried_bytes : (v : Value) (s : State Table) → or_left s ((bytes_of table v).run s) ≡ Went (text_at s.memory v) s
unfolding bytes_of object object_named die after ◌>>=◌ ◌>>◌ text_at is_live object_of
tried_bytes (Small n) s = refl
tried_bytes (Ref n) s = bytes_at (entry s.memory n) s

module _ (v : Oop) (ts : List ℕ) (t : Table) where
  pub name-there : (key : Oop) (b : Bool) → Reads (member_key table (value v)) value t (Ok key) → b ≡ is_text ts (text_at t (value key)) → Reads (has_name table (value v) ts) itself t (Ok b)
  unfolding has_name tried member_name answer
  name-there key b e q s f =
      simp (run-then, e s f, after-went, tried_bytes (value key) s, f, ← q) refl

  pub name-none : (k : Dead) → Reads (member_key table (value v)) value t (Err k) → Reads (has_name table (value v) ts) itself t (Ok false)
  unfolding has_name tried member_name answer
  name-none k e s f = simp (run-then, e s f, after-died, after-went) refl

pub ruleset names = (name-there, name-none)
