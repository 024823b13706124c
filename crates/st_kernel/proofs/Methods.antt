-- Over a table that makes only what has room the arguments of a method are counted as over any.
use Rattle.std.proofs.Common.{◌≡◌, ℕ, sym, ap}
use Rattle.std.specs.Prelude.{◌==◌, if◌then◌else◌, nat_lt}
use Rattle.st_model.specs.Values.{Value}
use Rattle.st_model.specs.Machine.{State, Step, answer, ◌>>=◌}
use Rattle.st_model.specs.Table.{Table, table, bounded_table}
use Rattle.st_model.specs.Methods.{flag_of, extension_arguments, arguments_by_extension, arguments_by, method_arguments}
use Rattle.st_model.proofs.Tabular.{method_header-as, literal_from_last-as}
use Rattle.st_memory.specs.inside.Tabular.{bounded_tabular}

extension-same : (v : Value) → arguments_by_extension bounded_table v ≡ arguments_by_extension table v
unfolding arguments_by_extension
extension-same v = λ i. literal_from_last-as bounded_tabular v 1 i >>= extension_arguments

by-same : (v : Value) (flag : ℕ) → arguments_by bounded_table v flag ≡ arguments_by table v flag
unfolding arguments_by
by-same v flag = λ i. if flag == 7 then extension-same v i else if nat_lt flag 5 then answer flag else answer 0

arguments-same : (v : Value) → method_arguments bounded_table v ≡ method_arguments table v
unfolding method_arguments
arguments-same v = λ i. method_header-as bounded_tabular v i >>= (λ header. by-same v (flag_of header) i)

pub arguments-over : (v : Value) (s : State Table) → (method_arguments table v).run s ≡ (method_arguments bounded_table v).run s
arguments-over v s = ap (λ (m : Step Table ℕ). m.run s) (sym (arguments-same v))

pub ruleset arguments = (arguments-over)
