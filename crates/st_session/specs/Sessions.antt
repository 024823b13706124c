-- A session: a script is followed request by request, from the point where it begins.
use Rattle.std.specs.Prelude.{ℕ, Bool, true, false, nat_le, List, [], ◌∷◌, length, take}
use Rattle.st_chunk.specs.Reading.{Reading, line_from}
use Rattle.st_chunk.specs.Scripts.{Asked, asked_from, told_from, told}
use Rattle.st_protocol.specs.declared.status.Status.TheVariants.{Done, TooLarge}
use Rattle.st_protocol.specs.Courses.{Course, Reply, Goes, preceded, and_then, ended}
use Rattle.st_protocol.specs.Installing.{Install}
use Rattle.st_session.specs.Points.{Point}
use Rattle.st_session.specs.Keeping.{Keeping}
use Rattle.st_recover.specs.Replays.{Loss}
use Rattle.st_session.specs.FirstLines.{opening_text}
use Rattle.st_session.specs.Answers.{answer}

-- the most bytes of a script
abbrev pub longest : ℕ
longest = 4294967296

-- what a script asks for, where it isn't too long; of one that is, what its first 2^32 bytes tell
abbrev pub asked_where : List ℕ → Bool → List Asked
asked_where script true = asked_from (line_from 1) script
asked_where script false = told_from (line_from 1) (take longest script)

abbrev pub asked_in : List ℕ → List Asked
asked_in script = asked_where script (nat_le (length script) longest)

module _ {C : Type 0} (keeping : Keeping C) (install : Install) where
  -- these requests, one after the other
  abbrev pub follow : Point C → List Asked → Course C (Point C)
  follow p [] = Goes [] p
  follow p (a ∷ rest) = and_then (answer keeping install p a) (λ q. follow q rest)

  -- what these bytes tell to be asked for, however the script goes on
  abbrev pub follow_told : Point C → List ℕ → Course C (Point C)
  follow_told p front = follow p (told front)

  -- after what is said first, these requests, one after the other
  abbrev pub session_of : ℕ → List Loss → Point C → List Asked → Course C (Point C)
  session_of replayed lost p asked = preceded (Reply (opening_text replayed lost) ∷ []) (follow p asked)

  -- what is left of a script, where so many bytes may come
  abbrev pub follow_rest : Reading → ℕ → Point C → List ℕ → Bool → Course C (Point C)
  follow_rest r left p rest true = ended (follow p (asked_from r rest)) Done
  follow_rest r left p rest false = ended (follow p (told_from r (take left rest))) TooLarge

  -- A script of at most 2^32 bytes is followed to its end, or up to `end` or what is wrong. Of a longer one the first 2^32
  -- bytes are followed.
  abbrev pub follow_script : Point C → List ℕ → Course C (Point C)
  follow_script p script = follow_rest (line_from 1) longest p script (nat_le (length script) longest)

  -- First it is said how many definitions were replayed, and which were lost.
  unfoldable pub session : ℕ → List Loss → Point C → List ℕ → Course C (Point C)
  session replayed lost p script = preceded (Reply (opening_text replayed lost) ∷ []) (follow_script p script)

  -- after the first bytes of a script
  abbrev pub session_so_far : ℕ → List Loss → Point C → List ℕ → Course C (Point C)
  session_so_far replayed lost p front = preceded (Reply (opening_text replayed lost) ∷ []) (follow_told p front)
