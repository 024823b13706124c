-- What an exchange of two words comes to, over a memory and over a draft.
use Rattle.std.proofs.Common.{◌≡◌, Bool, true, false, Ok, Err, refl, sym, ap, ◌∙◌, subst, is_some}
use Rattle.std.specs.Prelude.{◌&&◌}
use Rattle.st_model.specs.declared.dead.Dead.{Dead}
use Rattle.st_model.specs.declared.dead.Dead.TheVariants as dead
use Rattle.st_model.specs.Values.{Value, Small, Ref, is_small}
use Rattle.st_model.specs.Machine.{ObjectMemory, Head, State, Died, Went, die}
use Rattle.st_model.specs.Steps.{exchange, exchange_named, exchanged_there}
use Rattle.st_model.specs.Table.{Table, table, entry, IsTabular}
use Rattle.st_model.specs.View.{is_live, with_exchanged, Lacks, SmallInteger, Gone, OtherKind, TooFew}
use Rattle.st_model.specs.inside.Calls.{Changes, itself}
use Rattle.st_model.proofs.Runs.{run-exchange}
use Rattle.st_model.proofs.Tabular.{exchange-as}
use Rattle.std.proofs.lemmas.Bool.{and_right}

small_first : (v w : Value) (s : State Table) → is_small v ≡ true → (exchange table v w).run s ≡ Died dead.Small
unfolding exchange die
small_first (Small a) w s e = refl
small_first (Ref a) w s e = cc

small_second : (v w : Value) (s : State Table) → is_small w ≡ true → (exchange table v w).run s ≡ Died dead.Small
unfolding exchange die
small_second (Small a) w s e = refl
small_second (Ref a) (Small b) s e = refl
small_second (Ref a) (Ref b) s e = cc

there_false : (a b : _) (s : State Table) (x y : Bool) → (x && y) ≡ false → exchanged_there table a b s (x && y) ≡ Died dead.Kind
unfolding exchanged_there
there_false a b s x y e = ap (exchanged_there table a b s) e

and_left : (x y : Bool) → x ≡ false → (x && y) ≡ false
and_left true y e = cc
and_left false y e = refl

gone_first : (v w : Value) (s : State Table) → is_small v ≡ false → is_small w ≡ false → is_live s.memory v ≡ false → (exchange table v w).run s ≡ Died dead.Kind
unfolding exchange exchange_named is_live
gone_first (Small a) w s e f h = cc
gone_first (Ref a) (Small b) s e f h = cc
gone_first (Ref a) (Ref b) s e f h = there_false a b s (is_some (entry s.memory a)) (is_some (entry s.memory b)) (and_left (is_some (entry s.memory a)) (is_some (entry s.memory b)) h)

gone_second : (v w : Value) (s : State Table) → is_small v ≡ false → is_small w ≡ false → is_live s.memory w ≡ false → (exchange table v w).run s ≡ Died dead.Kind
unfolding exchange exchange_named is_live
gone_second (Small a) w s e f h = cc
gone_second (Ref a) (Small b) s e f h = cc
gone_second (Ref a) (Ref b) s e f h = there_false a b s (is_some (entry s.memory a)) (is_some (entry s.memory b)) (and_right (is_some (entry s.memory a)) (is_some (entry s.memory b)) h)

-- a word that is no SmallInteger and names nothing is of a wrong kind
pub gone_kind : (t : Table) (v : Value) (k : Dead) → is_small v ≡ false → is_live t v ≡ false → Lacks t v 0 0 k → k ≡ dead.Kind
gone_kind t v k even gone (SmallInteger small) = cc
gone_kind t v k even gone (Gone big absent) = refl
gone_kind t v k even gone (OtherKind live kind) = refl
gone_kind t v k even gone (TooFew live kind few) = cc

module _ {m : ObjectMemory Table} (tabular : IsTabular m) (t u : Table) (v w : Value) (a : Head) where
  pub exchanges_small_first : is_small v ≡ true → Changes (exchange m v w) itself t a (Err dead.Small) u
  exchanges_small_first e = λ s over h. subst (λ x. x.run s ≡ Died dead.Small) (sym (exchange-as tabular v w)) (small_first v w s e)

  pub exchanges_small_second : is_small w ≡ true → Changes (exchange m v w) itself t a (Err dead.Small) u
  exchanges_small_second e = λ s over h. subst (λ x. x.run s ≡ Died dead.Small) (sym (exchange-as tabular v w)) (small_second v w s e)

  pub exchanges_gone_first : is_small v ≡ false → is_small w ≡ false → is_live t v ≡ false → Changes (exchange m v w) itself t a (Err dead.Kind) u
  exchanges_gone_first e f g = λ s over h. subst (λ x. x.run s ≡ Died dead.Kind) (sym (exchange-as tabular v w)) (gone_first v w s e f (ap (λ x. is_live x v) over ∙ g))

  pub exchanges_gone_second : is_small v ≡ false → is_small w ≡ false → is_live t w ≡ false → Changes (exchange m v w) itself t a (Err dead.Kind) u
  exchanges_gone_second e f g = λ s over h. subst (λ x. x.run s ≡ Died dead.Kind) (sym (exchange-as tabular v w)) (gone_second v w s e f (ap (λ x. is_live x w) over ∙ g))

  -- why there is no such object
  pub exchanges_err_first : (k : Dead) → is_small v ≡ false → is_small w ≡ false → is_live t v ≡ false → Lacks t v 0 0 k → Changes (exchange m v w) itself t a (Err k) u
  exchanges_err_first k e f g lacks = rw (gone_kind t v k e g lacks) (exchanges_gone_first e f g)

  pub exchanges_err_second : (k : Dead) → is_small v ≡ false → is_small w ≡ false → is_live t w ≡ false → Lacks t w 0 0 k → Changes (exchange m v w) itself t a (Err k) u
  exchanges_err_second k e f g lacks = rw (gone_kind t w k f g lacks) (exchanges_gone_second e f g)

  pub exchanges : is_live t v ≡ true → is_live t w ≡ true → u ≡ with_exchanged t v w → Changes (exchange m v w) itself t a (Ok tt) u
  exchanges e f is = λ s over h.
      subst (λ x. x.run s ≡ Went tt (record s { memory = u })) (sym (exchange-as tabular v w))
      (run-exchange v w s (ap (λ x. is_live x v) over ∙ e) (ap (λ x. is_live x w) over ∙ f)
      ∙ ap (λ x. Went tt (record s { memory = x })) (ap (λ x. with_exchanged x v w) over ∙ sym is))
