-- The tables of a draft: with what is noted of the objects that a row makes and of its changes, and then with the exchanges.
use Rattle.std.specs.Prelude.{ℕ, ◌+◌}
use Rattle.st_model.specs.Table.{Table}
use Rattle.st_draft.specs.declared.notes.Notes.{Notes}
use Rattle.st_draft.specs.declared.exchanges.Exchanges.{Exchanges}
use Rattle.st_draft.specs.inside.Drafts.{with_made, draft_table, exchanged_by}

-- the objects made, behind a table
abbrev pub with_noted : Table → Notes → Table
with_noted t n = with_made t n.made n.made_count

-- and with the changes
abbrev pub noted : Table → Notes → Table
noted t n = draft_table t n.made n.made_count n.changes n.count

-- and with the exchanges, which stand behind all changes
abbrev pub drafted : Table → Notes → Exchanges → Table
drafted t n e = exchanged_by (noted t n) e.pairs e.count

-- how many objects, changes and exchanges there are
abbrev pub count_of : Notes → Exchanges → ℕ
count_of n e = n.made_count + n.count + e.count
