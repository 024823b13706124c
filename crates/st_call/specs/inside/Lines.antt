-- The lines that show nothing of the machine's objects.
use Rattle.std.specs.Prelude.{ℕ, List}
use Rattle.st_model.specs.Text.{dead_text}
use Rattle.st_call.specs.declared.replies.Reply.{Reply}
use Rattle.st_call.specs.declared.replies.Reply.TheVariants.{Snapshot, Exported, Cleaned, Condensed, Died, Accepted, Refused, Missing}
use Rattle.st_call.specs.Replies.{snapshot_text, exported_text, cleaned_text, condensed_text, accepted_line, refused_text, missing_text}

abbrev pub reply_text : Reply → List ℕ
reply_text (Snapshot length) = snapshot_text length
reply_text (Exported length) = exported_text length
reply_text (Cleaned demand) = cleaned_text demand
reply_text (Condensed before after) = condensed_text before after
reply_text (Died finished cause) = dead_text finished cause
reply_text (Accepted class meta selector) = accepted_line class.now meta selector.now
reply_text (Refused why) = refused_text why
reply_text Missing = missing_text
