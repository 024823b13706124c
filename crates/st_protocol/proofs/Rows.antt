-- Worked rows: what is acknowledged.
use Rattle.std.proofs.Common.{◌≡◌, refl}
use Rattle.std.specs.Prelude.{codes}
use Rattle.st_protocol.specs.Acknowledged.{acknowledged}

whole_lines : acknowledged (codes "opened 0 0\naccepted Point\nused 24 78\nsnapshot 1156\nran 5\n") ≡ 2
whole_lines = refl

cut_line : acknowledged (codes "opened 0 0\naccepted Point\nsnapshot 11") ≡ 1
cut_line = refl

others : acknowledged (codes "say accepted \nsnapshots 1\n accepted x\n") ≡ 0
others = refl
