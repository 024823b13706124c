-- A group that is read byte by byte asks for its definitions.
use Rattle.std.proofs.Common.{◌≡◌, ℕ, ◌+◌, ◌≤◌, ◌<◌, Bool, true, false, List, [], ◌∷◌, ◌++◌, length, map, refl, sym, ap, ◌∙◌, arith, append_assoc, length-append}
use Rattle.std.specs.Prelude.{◌==◌, not, All, None, Some}
use Rattle.std.proofs.lemmas.Bool.{lt-ltb}
use Rattle.std.proofs.lemmas.List.{append-nil}
use Rattle.std.proofs.lemmas.List.Elements.{All-head, All-tail}
use Rattle.st_chunk.specs.declared.cutting.Phase.TheVariants.{Within, Marked, Told as Ends}
use Rattle.st_chunk.specs.declared.cutting.Fed.TheVariants as answers
use Rattle.st_chunk.specs.declared.request.Request.TheVariants.{Define}
use Rattle.st_chunk.specs.Texts.{mark, most, doubled, chunk_text, is_empty}
use Rattle.st_chunk.specs.Feeding.{State, fed, answer}
use Rattle.st_chunk.specs.Groups.{trimmed, GroupHeader, header_of}
use Rattle.st_chunk.specs.Definitions.{group_definitions}
use Rattle.st_chunk.specs.Reading.{Place, InLine, Opened, InHeader, InMethods, Defined, Reading, Told, begun, start_with, method_told, method_byte, method_ended, line_byte, byte_in, line_from, line_behind, read}
use Rattle.st_chunk.specs.Scripts.{Asked, Defines, asked_by, asked_from}
use Rattle.st_session.specs.inside.ScriptGroups.{IsChunk, IsMethod, line_after, GroupsByBytes}
use Rattle.st_chunk.proofs.Cases.{by_test}

abbrev within : List ℕ → State
within bytes = record { bytes = bytes; phase = Within }

abbrev marked : List ℕ → State
marked bytes = record { bytes = bytes; phase = Marked }

abbrev at : Place → ℕ → ℕ → Reading
at place n start = record { place = place; line = n; start = start }

-- TEXTS

twice : (b : ℕ) (text : List ℕ) → (b == mark) ≡ true → doubled (b ∷ text) ≡ b ∷ b ∷ doubled text
twice b text e = rw e refl

once : (b : ℕ) (text : List ℕ) → (b == mark) ≡ false → doubled (b ∷ text) ≡ b ∷ doubled text
once b text e = rw e refl

lines_both : (n : ℕ) (a b : List ℕ) → line_after n (a ++ b) ≡ line_after (line_after n a) b
lines_both n [] b = refl
lines_both n (x ∷ a) b = lines_both (line_behind x n) a b

no_mark : (t : Bool) → not t ≡ true → t ≡ false
no_mark true e = cc
no_mark false e = refl

-- BYTES OF A CHUNK

-- A byte at a place goes to this state of a chunk, behind which the place is the one that `to` gives.
record Acts (to : State → Place) (place : Place) (s : State) : Type 0 where
  step : (r : Reading) (here b : ℕ) → answer (fed s b).phase ≡ answers.More → byte_in place r here b ≡ (at (to (fed s b)) r.line (start_with r here s (fed s b)), None)

in_header : (s : State) → Acts InHeader (InHeader s) s
in_header s = record { step = λ r here b e. rw e refl }

in_methods : (h : GroupHeader) (s : State) → Acts (InMethods h) (InMethods h s) s
in_methods h s = record { step = λ r here b e. rw e refl }

behind_method : (h : GroupHeader) (bytes : List ℕ) (b : ℕ) → Acts (InMethods h) (Defined h (record { bytes = bytes; phase = Ends b })) (begun b)
behind_method h bytes b = record { step = λ r here c e. rw e refl }

fed_mark : (bytes : List ℕ) (b : ℕ) → (b == mark) ≡ true → fed (within bytes) b ≡ marked bytes
fed_mark bytes b e = rw e refl

fed_other : (bytes : List ℕ) (b : ℕ) → (b == mark) ≡ false → length bytes < most → fed (within bytes) b ≡ within (bytes ++ b ∷ [])
fed_other bytes b e room = rw (e, lt-ltb (length bytes) most room) refl

fed_pair : (bytes : List ℕ) (b : ℕ) → (b == mark) ≡ true → length bytes < most → fed (marked bytes) b ≡ within (bytes ++ b ∷ [])
fed_pair bytes b e room = rw (e, lt-ltb (length bytes) most room) refl

fed_ends : (bytes : List ℕ) (b : ℕ) → (b == mark) ≡ false → fed (marked bytes) b ≡ record { bytes = bytes; phase = Ends b }
fed_ends bytes b e = rw e refl

-- one byte, behind which the chunk is in this state
one_byte : (to : State → Place) (place : Place) (s t : State) (n start b : ℕ) (more : List ℕ) → Acts to place s → fed s b ≡ t → answer t.phase ≡ answers.More
    → (from : ℕ) × (asked_from (at place n start) (b ∷ more) ≡ asked_from (at (to t) (line_behind b n) from) more)
unfolding read
one_byte to place s t n start b more acts is goes =
    let r : Reading = at place (line_behind b n) start in
    let from = start_with r n s (fed s b) in (
      from,
      ap (λ (x : Told). asked_by x ++ asked_from x.0 more) (acts.step r n b (ap (λ (x : State). answer x.phase) is ∙ goes))
          ∙ ap (λ (x : State). asked_from (at (to x) (line_behind b n) from) more) is,
    )

-- the bytes of a chunk, and the mark behind them
module _ (to : State → Place) (acts : (s : State) → Acts to (to s) s) where
  chunk_read : (place : Place) (before text more : List ℕ) (n start : ℕ) → Acts to place (within before) → length before + length text ≤ most
      → (from : ℕ) × (asked_from (at place n start) (doubled text ++ mark ∷ more) ≡ asked_from (at (to (marked (before ++ text))) (line_after n (doubled text ++ mark ∷ [])) from) more)
  chunk_read place before [] more n start a short =
      let one = one_byte to place (within before) (marked before) n start mark more a (fed_mark before mark refl) refl in
      (one.0, one.1 ∙ ap (λ (x : List ℕ). asked_from (at (to (marked x)) (line_behind mark n) one.0) more) (sym (append-nil before)))
  chunk_read place before (b ∷ text) more n start a short = by_test (b == mark)
      (λ e.
      let one = one_byte to place (within before) (marked before) n start b (b ∷ (doubled text ++ mark ∷ more)) a (fed_mark before b e) refl in
      let two = one_byte to (to (marked before)) (marked before) (within (before ++ b ∷ [])) (line_behind b n) one.0 b (doubled text ++ mark ∷ more) (acts (marked before)) (fed_pair before b e (omega arith)) refl in
      let rest = chunk_read (to (within (before ++ b ∷ []))) (before ++ b ∷ []) text more (line_behind b (line_behind b n)) two.0 (acts (within (before ++ b ∷ []))) (omega (arith, length-append before (b ∷ []))) in (
        rest.0,
        ap (λ (x : List ℕ). asked_from (at place n start) (x ++ mark ∷ more)) (twice b text e) ∙ one.1 ∙ two.1 ∙ rest.1
            ∙ ap (λ (x : List ℕ). asked_from (at (to (marked x)) (line_after n ((b ∷ b ∷ doubled text) ++ mark ∷ [])) rest.0) more) (append_assoc before (b ∷ []) text)
            ∙ ap (λ (x : List ℕ). asked_from (at (to (marked (before ++ b ∷ text))) (line_after n (x ++ mark ∷ [])) rest.0) more) (sym (twice b text e)),
      ))
      (λ e.
      let one = one_byte to place (within before) (within (before ++ b ∷ [])) n start b (doubled text ++ mark ∷ more) a (fed_other before b e (omega arith)) refl in
      let rest = chunk_read (to (within (before ++ b ∷ []))) (before ++ b ∷ []) text more (line_behind b n) one.0 (acts (within (before ++ b ∷ []))) (omega (arith, length-append before (b ∷ []))) in (
        rest.0,
        ap (λ (x : List ℕ). asked_from (at place n start) (x ++ mark ∷ more)) (once b text e) ∙ one.1 ∙ rest.1
            ∙ ap (λ (x : List ℕ). asked_from (at (to (marked x)) (line_after n ((b ∷ doubled text) ++ mark ∷ [])) rest.0) more) (append_assoc before (b ∷ []) text)
            ∙ ap (λ (x : List ℕ). asked_from (at (to (marked (before ++ b ∷ text))) (line_after n (x ++ mark ∷ [])) rest.0) more) (sym (once b text e)),
      ))

-- METHODS

-- Before the first byte of a chunk below this header: what that byte asks for, and where it leads.
record Waits (h : GroupHeader) (r : Reading) (asks : List Asked) : Type 0 where
  place : ℕ → Place
  start : ℕ
  goes : (b : ℕ) (more : List ℕ) → (b == mark) ≡ false → asked_from r (b ∷ more) ≡ asks ++ asked_from (at (place b) (line_behind b r.line) start) more
  acts : (b : ℕ) → Acts (InMethods h) (place b) (begun b)

behind_header : (h : GroupHeader) (bytes : List ℕ) (n start : ℕ) → header_of bytes ≡ Some h → Waits h (at (InHeader (marked bytes)) n start) []
unfolding read
behind_header h bytes n start is = record { place = λ b. InMethods h (begun b); start = n; goes = goes; acts = λ b. in_methods h (begun b) }
  where
    goes : (b : ℕ) (more : List ℕ) → (b == mark) ≡ false → asked_from (at (InHeader (marked bytes)) n start) (b ∷ more) ≡ asked_from (at (InMethods h (begun b)) (line_behind b n) n) more
    goes b more e = rw (e, is) refl

module _ (h : GroupHeader) where
  abbrev defined : List ℕ → Asked
  defined method = Defines (record { class = h.class; meta = h.meta; category = h.category; text = trimmed method })

  -- the first byte behind a method's mark
  method_ends : (r : Reading) (here : ℕ) (bytes : List ℕ) (b : ℕ) → (b == mark) ≡ false → method_byte r here h (marked bytes) b ≡ method_ended r here h b (record { bytes = bytes; phase = Ends b })
  method_ends r here bytes b e = ap (λ (t : State). method_told r here h (marked bytes) b t (answer t.phase)) (fed_ends bytes b e)

  ended_text : (r : Reading) (here b : ℕ) (t : State) → is_empty t.bytes ≡ false → method_ended r here h b t ≡ (at (Defined h t) r.line here, Some Define)
  ended_text r here b t e = rw e refl

  ended_blanks : (r : Reading) (here b : ℕ) (t : State) → is_empty t.bytes ≡ true → method_ended r here h b t ≡ line_byte (record r { start = here }) [] b
  ended_blanks r here b t e = rw e refl

  -- a line's first byte asks for the same, wherever it stood
  same_line : (p q : Place) (line start b : ℕ) → line_byte (at p line start) [] b ≡ line_byte (at q line start) [] b
  same_line p q line start b = refl

  behind_text : (bytes : List ℕ) (n start : ℕ) → is_empty bytes ≡ false → Waits h (at (InMethods h (marked bytes)) n start) (defined bytes ∷ [])
  unfolding read
  behind_text bytes n start there = record { place = λ b. Defined h (record { bytes = bytes; phase = Ends b }); start = n; goes = goes; acts = λ b. behind_method h bytes b }
    where
      goes : (b : ℕ) (more : List ℕ) → (b == mark) ≡ false
          → asked_from (at (InMethods h (marked bytes)) n start) (b ∷ more) ≡ defined bytes ∷ asked_from (at (Defined h (record { bytes = bytes; phase = Ends b })) (line_behind b n) n) more
      goes b more e =
          let r : Reading = at (InMethods h (marked bytes)) (line_behind b n) start in
          ap (λ (x : Told). asked_by x ++ asked_from x.0 more) (method_ends r n bytes b e ∙ ended_text r n b (record { bytes = bytes; phase = Ends b }) there)

  -- behind a chunk of blanks a line begins
  closes : (bytes : List ℕ) (n start b : ℕ) (rest : List ℕ) → is_empty bytes ≡ true → (b == mark) ≡ false → asked_from (at (InMethods h (marked bytes)) n start) (b ∷ rest) ≡ asked_from (line_from n) (b ∷ rest)
  unfolding read
  closes bytes n start b rest blank e =
      let r : Reading = at (InMethods h (marked bytes)) (line_behind b n) start in
      ap (λ (x : Told). asked_by x ++ asked_from x.0 rest)
      (method_ends r n bytes b e ∙ ended_blanks r n b (record { bytes = bytes; phase = Ends b }) blank ∙ same_line (InMethods h (marked bytes)) (InLine []) (line_behind b n) n b)

  -- a chunk from its first byte on
  chunk_from : (chunk : List ℕ) (r : Reading) (asks : List Asked) (more : List ℕ) → IsChunk chunk → Waits h r asks
      → (from : ℕ) × (asked_from r (doubled chunk ++ mark ∷ more) ≡ asks ++ asked_from (at (InMethods h (marked chunk)) (line_after r.line (doubled chunk ++ mark ∷ [])) from) more)
  chunk_from [] r asks more is w = let none = is.first in absurd cc
  chunk_from (b ∷ tail) r asks more is w =
      let plain = no_mark (b == mark) is.first in
      let short = is.short in
      let body = chunk_read (InMethods h) (in_methods h) (w.place b) (b ∷ []) tail more (line_behind b r.line) w.start (w.acts b) (omega arith) in (
        body.0,
        ap (λ (x : List ℕ). asked_from r (x ++ mark ∷ more)) (once b tail plain)
            ∙ w.goes b (doubled tail ++ mark ∷ more) plain
            ∙ ap (λ (x : List Asked). asks ++ x) (body.1 ∙ ap (λ (x : List ℕ). asked_from (at (InMethods h (marked (b ∷ tail))) (line_after r.line (x ++ mark ∷ [])) body.0) more) (sym (once b tail plain))),
      )

  module _ (close : List ℕ) (closing : IsChunk close) (blank : is_empty close ≡ true) (b : ℕ) (rest : List ℕ) (e : (b == mark) ≡ false) where
    methods_read : (methods : List (List ℕ)) (r : Reading) (asks : List Asked) → All IsMethod methods → Waits h r asks
        → asked_from r (chunk_text (methods ++ close ∷ []) [] ++ b ∷ rest) ≡ asks ++ (map defined methods ++ asked_from (line_from (line_after r.line (chunk_text (methods ++ close ∷ []) []))) (b ∷ rest))
    methods_read [] r asks are w =
        let last = chunk_from close r asks (b ∷ rest) closing w in
        ap (asked_from r) (append_assoc (doubled close) (mark ∷ []) (b ∷ rest))
        ∙ last.1
        ∙ ap (λ (x : List Asked). asks ++ x) (closes close (line_after r.line (doubled close ++ mark ∷ [])) last.0 b rest blank e)
    methods_read (m ∷ methods) r asks are w =
        let text = chunk_text (methods ++ close ∷ []) [] in
        let is = All-head IsMethod m methods are in
        let line = line_after r.line (doubled m ++ mark ∷ []) in
        let first = chunk_from m r asks (text ++ b ∷ rest) is.whole w in
        let others = methods_read methods (at (InMethods h (marked m)) line first.0) (defined m ∷ []) (All-tail IsMethod m methods are) (behind_text m line first.0 is.there) in
        let lines : line_after line text ≡ line_after r.line (doubled m ++ mark ∷ text) =
        sym (lines_both r.line (doubled m ++ mark ∷ []) text) ∙ ap (line_after r.line) (append_assoc (doubled m) (mark ∷ []) text) in
        ap (asked_from r) (append_assoc (doubled m) (mark ∷ text) (b ∷ rest))
        ∙ first.1
        ∙ ap (λ (x : List Asked). asks ++ x) (others ∙ ap (λ (n : ℕ). defined m ∷ (map defined methods ++ asked_from (line_from n) (b ∷ rest))) lines)

-- THE WHOLE

opens_group : (n : ℕ) (more : List ℕ) → asked_from (line_from n) (mark ∷ more) ≡ asked_from (at Opened n n) more
unfolding read
opens_group n more = refl

begins_header : (n b : ℕ) (more : List ℕ) → (b == mark) ≡ false → asked_from (at Opened n n) (b ∷ more) ≡ asked_from (at (InHeader (begun b)) (line_behind b n) n) more
unfolding read
begins_header n b more e = rw e refl

header_read : (n : ℕ) (chunk more : List ℕ) → IsChunk chunk
    → (from : ℕ) × (asked_from (at Opened n n) (doubled chunk ++ mark ∷ more) ≡ asked_from (at (InHeader (marked chunk)) (line_after n (doubled chunk ++ mark ∷ [])) from) more)
header_read n [] more is = let none = is.first in absurd cc
header_read n (b ∷ tail) more is =
    let plain = no_mark (b == mark) is.first in
    let short = is.short in
    let body = chunk_read InHeader in_header (InHeader (begun b)) (b ∷ []) tail more (line_behind b n) n (in_header (begun b)) (omega arith) in (
      body.0,
      ap (λ (x : List ℕ). asked_from (at Opened n n) (x ++ mark ∷ more)) (once b tail plain)
          ∙ begins_header n b (doubled tail ++ mark ∷ more) plain
          ∙ body.1
          ∙ ap (λ (x : List ℕ). asked_from (at (InHeader (marked (b ∷ tail))) (line_after n (x ++ mark ∷ [])) body.0) more) (sym (once b tail plain)),
    )

defined_all : (h : GroupHeader) (methods : List (List ℕ)) → map (defined h) methods ≡ map Defines (group_definitions (record { header = h; methods = map trimmed methods }))
defined_all h [] = refl
defined_all h (m ∷ methods) = ap (λ (x : List Asked). defined h m ∷ x) (defined_all h methods)

pub groups_by_bytes : GroupsByBytes
groups_by_bytes n g header methods close b rest is e =
    let h = g.header in
    let text = chunk_text (methods ++ close ∷ []) [] in
    let line = line_after n (doubled header ++ mark ∷ []) in
    let first = header_read n header (text ++ b ∷ rest) is.heads in
    let others = methods_read h close is.closes is.blank b rest e methods (at (InHeader (marked header)) line first.0) [] is.each (behind_header h header line first.0 is.names) in
    let lines : line_after line text ≡ line_after n (mark ∷ (doubled header ++ mark ∷ text)) =
    sym (lines_both n (doubled header ++ mark ∷ []) text) ∙ ap (line_after n) (append_assoc (doubled header) (mark ∷ []) text) in
    let asks : map (defined h) methods ≡ map Defines (group_definitions g) =
    defined_all h methods ∙ ap (λ (ms : List (List ℕ)). map Defines (group_definitions (record { header = h; methods = ms }))) (sym is.texts) in
    opens_group n ((doubled header ++ mark ∷ text) ++ b ∷ rest)
    ∙ ap (asked_from (at Opened n n)) (append_assoc (doubled header) (mark ∷ text) (b ∷ rest))
    ∙ first.1 ∙ others
    ∙ ap (λ (x : List Asked). x ++ asked_from (line_from (line_after line text)) (b ∷ rest)) asks
    ∙ ap (λ (k : ℕ). map Defines (group_definitions g) ++ asked_from (line_from k) (b ∷ rest)) lines
