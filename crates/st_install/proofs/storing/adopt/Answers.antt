use Rattle.std.proofs.Common.{ℕ, Option, sym, subst}
use Rattle.st_model.specs.Values.{value}
use Rattle.st_model.specs.Table.{table}
use Rattle.st_install.specs.inside.Carried.{Goes, Becomes}
use Rattle.st_install.specs.Installing.{adopt}
use Rattle.st_install.proofs.Stores.{adopts_none}
use Rattle.st_install.proofs.storing.adopt.Goals as goal

pub store_field-requires : goal.store_field-requires
unfolding adopt
store_field-requires g c = subst (λ (k : Option ℕ). Goes (adopt table (value c.args.class) (value c.args.dictionary) k) (g.M.Memory.view c.args.m.now)) c.in-Some.is c.requires

pub returns-in-Some : goal.returns-in-Some
unfolding adopt
returns-in-Some g c =
    subst (λ (k : Option ℕ). Becomes (adopt table (value c.args.class) (value c.args.dictionary) k) (g.M.Memory.view c.args.m.now) tt (g.M.Memory.view c.store_field.new.m)) (sym c.in-Some.is) c.store_field.ensures.becomes

pub returns-in-None : goal.returns-in-None
returns-in-None g c =
    let v = g.M.Memory.view c.args.m.now in
    subst (λ (k : Option ℕ). Becomes (adopt table (value c.args.class) (value c.args.dictionary) k) v tt v) (sym c.in-None.is) (adopts_none (value c.args.class) (value c.args.dictionary) v)
