use Rattle.std.proofs.Common.{◌≡◌, ◌≤◌, drop}
use Rattle.st_emit.specs.Names.{field_from}
use Rattle.st_emit.specs.inside.NameViews.{texts_view}
use Rattle.st_emit.proofs.names.field_named.Given as goal

abbrev pub invariant-loop-i : goal.invariant-loop-i
invariant-loop-i l = record {
  same : field_from l.i (texts_view (drop l.i l.names.fields.items)) l.text ≡ field_from 0 (texts_view l.names.fields.items) l.text;
  within : l.i ≤ 64;
}
