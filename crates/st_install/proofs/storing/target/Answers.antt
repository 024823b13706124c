use Rattle.std.proofs.Common.{ℕ, Option, Some, sym, subst}
use Rattle.st_model.specs.Values.{Value, value}
use Rattle.st_model.specs.Objects.{nil}
use Rattle.st_model.specs.Table.{table}
use Rattle.st_install.specs.inside.Carried.{Goes, Becomes}
use Rattle.st_install.specs.Dictionaries.{refill}
use Rattle.st_install.specs.Installing.{target}
use Rattle.st_scope.specs.inside.Meanings.{values}
use Rattle.st_install.proofs.Stores.{target_old, target_refills, target_new}
use Rattle.st_install.proofs.storing.target.Goals as goal

pub refill-requires : goal.refill-requires
refill-requires g c =
    let vs = values c.args.made.now in
    let old = value c.args.old in
    let v = g.M.Memory.view c.args.m.now in
    subst (λ (y : Value). Goes (refill table old y) v) (sym c.part_value-new.ensures)
    (target_refills vs old v c.in-Some.k (subst (λ (k : Option ℕ). Goes (target table nil vs old k) v) c.in-Some.is c.requires))

pub returns-in-Some : goal.returns-in-Some
returns-in-Some g c =
    let vs = values c.args.made.now in
    let old = value c.args.old in
    let v = g.M.Memory.view c.args.m.now in
    let w = g.M.Memory.view c.refill.new.m in
    subst (λ (k : Option ℕ). Becomes (target table nil vs old k) v (value c.part_value-new.result) w) (sym c.in-Some.is)
    (subst (λ (y : Value). Becomes (target table nil vs old (Some c.in-Some.k)) v y w) (sym c.part_value-new.ensures)
    (target_new vs old v c.in-Some.k w (subst (λ (y : Value). Becomes (refill table old y) v tt w) c.part_value-new.ensures c.refill.ensures)))

pub returns-in-None : goal.returns-in-None
returns-in-None g c =
    let vs = values c.args.made.now in
    let v = g.M.Memory.view c.args.m.now in
    subst (λ (k : Option ℕ). Becomes (target table nil vs (value c.args.old) k) v (value c.args.old) v) (sym c.in-None.is) (target_old vs (value c.args.old) v)
