use Rattle.st_scope.proofs.SoughtIn.{sought_noted}
use Rattle.st_scope.proofs.sought.note_sought.Goals as goal

pub returns : goal.returns
returns c = sought_noted c.args.names.now.keys c.insert.new.self.keys c.in_ok-to_vec.field-0 c.args.text.now (c.in_ok-to_vec.ensures.items_if_clones_equal (λ x y h. h)) c.in_ok-insert.ensures.keys
