use Rattle.std.proofs.Common.{rules, ◌≡◌, Err, false, refl, arith}
use Rattle.st_model.specs.Values.{word}
use Rattle.st_model.specs.Machine.{is_there}
use Rattle.st_frames.proofs.Doing.{row-memory, rows}
use Rattle.st_frames.proofs.Leaves.{leaves-died}
use Rattle.st_storage.proofs.Left.{field-missing, field-unfetched, method_fields}
use Rattle.st_storage.proofs.compiled_methods.store_method_field.Goals as goal

pub returns-in_err-fetch_method_field : goal.returns-in_err-fetch_method_field
returns-in_err-fetch_method_field g c =
    let e : c.from_residual.result ≡ Err c.in_err-fetch_method_field.field-0.0 = search rules in
    record { does = leaves-died _ _ _ _ _ _ _ _ _ _ e refl (field-unfetched g.O.Objects.names g.met.O.Objects.tabular _ _ _ _ _ (c.in_err-fetch_method_field.ensures _ (row-memory _ _ _))); plain = search rules }

pub returns-then-not-is_there : goal.returns-then-not-is_there
returns-then-not-is_there g c =
    let there : is_there g.O.Objects.names (g.O.Objects.table c.args.m.now) (word c.args.value) ≡ false = search rules in
    record {
      does = record {
        does = field-missing g.O.Objects.names g.met.O.Objects.tabular _ _ _ _ _ _ (row-memory _ _ _) (c.in_ok-fetch_method_field.ensures _ (row-memory _ _ _)) there;
        world = refl;
      };
      plain = tt;
    }

pub returns-then-i-eq0-clause-does : goal.returns-then-i-eq0-clause-does
returns-then-i-eq0-clause-does g c = grind (arith, rows, method_fields)

pub returns-else-i-eq0-clause-does : goal.returns-else-i-eq0-clause-does
returns-else-i-eq0-clause-does g c = grind (arith, rows, method_fields)
