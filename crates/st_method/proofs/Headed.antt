-- A method has a header.
use Rattle.std.proofs.Common.{◌≡◌, ◌<◌, true, length}
use Rattle.st_model.specs.Values.{Value}
use Rattle.st_model.specs.Objects.{is_method}
use Rattle.st_model.specs.View.{View, IsWhole, is_live, object_of}
use Rattle.st_model.proofs.WholeLemmas.{formed_live}

pub has_header : {v : View} (x : Value) → IsWhole v → is_live v.objects x ≡ true → is_method (object_of v.objects x).kind ≡ true
    → 0 < length (object_of v.objects x).fields
has_header {v} x whole live method = (formed_live v whole x live).has_header method

pub ruleset headed = (has_header)
