-- A text of which some bytes are fed.
use Rattle.std.proofs.Common.{◌≡◌, ℕ, ◌+◌, ◌<◌, ◌≤◌, Bool, true, false, List, [], ◌∷◌, ◌++◌, length, drop, refl, sym, ap, ◌∙◌, subst, arith, append_assoc, length-append, Some, None}
use Rattle.std.specs.Prelude.{◌==◌, ◌&&◌, nat_lt, nat_le, if◌then◌else◌, Err}
use Rattle.std.proofs.lemmas.List.{append-nil}
use Rattle.std.proofs.lemmas.List.Folds.{list_all-append}
use Rattle.std.proofs.lemmas.Bool.{eqb-true, ltb-true}
use Rattle.std.proofs.lemmas.Bool.Decides.{leb_tells}
use Rattle.st_chunk.proofs.Cases.{by_test}
use Rattle.st_chunk.specs.declared.cutting.Phase.{Phase}
use Rattle.st_chunk.specs.declared.cutting.Phase.TheVariants.{Within, Marked, Told, Long, Ended}
use Rattle.st_chunk.specs.declared.cutting.Fed.{Fed}
use Rattle.st_chunk.specs.declared.cutting.Fed.TheVariants as answers
use Rattle.st_chunk.specs.Texts.{mark, most, is_blank, is_empty, Cut, with_chunk, cut_behind, behind_mark}
use Rattle.st_chunk.specs.Feeding.{State as FeedState, with_byte, fed_in, fed, answer, last_answer}
use Rattle.st_kernel_text.specs.declared.cause.Cause.TheVariants.{Form}
use Rattle.st_kernel_text.specs.declared.cause.Stop.{Stop}
use Rattle.st_kernel_text.specs.declared.cause.Stop.TheVariants.{At, OutOfMemory}
use Rattle.st_kernel_text.specs.Texts.{Account, is_end, account}
use Rattle.st_kernel_text.specs.inside.Reading.{State, Tells, account_behind, account_left, stopped, end_of, cut_from}

-- the next byte may be of the chunk
abbrev pub IsOpen : Phase → Type 0
IsOpen Within = Unit {0}
IsOpen Marked = Unit {0}
IsOpen _ = ⊥

not_short : (n : ℕ) → most < n → nat_le n most ≡ false
not_short n long = grind (arith, leb_tells n most)

longer : (before : List ℕ) (b : ℕ) → length (before ++ b ∷ []) ≡ length before + 1
longer before b = length-append before (b ∷ [])

full : (before : List ℕ) (b : ℕ) → nat_lt (length before) most ≡ false → most < length (before ++ b ∷ [])
full before b e = grind (arith, longer before b, leb_tells (length before + 1) most)

-- nothing comes of a chunk that is too long
refused : (s : State) (c : List ℕ) (cs : List (List ℕ)) (rest : List ℕ) → most < length c → account_behind s (c ∷ cs) rest ≡ stopped s (Some Form)
refused s c cs rest long = rw (not_short (length c) long) (λ i. record { parts = append-nil s.parts i; names = s.known.names; cause = Some Form })

pub ends : (s : State) (rest : List ℕ) → account_behind s [] rest ≡ end_of s rest
ends s rest = λ i. record { parts = append-nil s.parts i; names = s.known.names; cause = if is_end s.place && is_empty rest then None else Some Form }

never : (t : Bool) → t && false ≡ false
never true = refl
never false = refl

-- a mark is no blank
marked_rest : (s : State) (before : List ℕ) (b : ℕ) (text : List ℕ) → (b == mark) ≡ true → end_of s (before ++ b ∷ text) ≡ stopped s (Some Form)
marked_rest s before b text e =
    let blank : is_blank b ≡ false = ap is_blank (eqb-true b mark e) in
    let none : is_empty (before ++ b ∷ text) ≡ false =
    list_all-append is_blank before (b ∷ text) ∙ ap (λ t. is_empty before && (t && is_empty text)) blank ∙ never (is_empty before) in
    ap (λ t. stopped s (if t then None else Some Form)) (ap (λ t. is_end s.place && t) none ∙ never (is_end s.place))

mutual
  long_within : (s : State) (before text : List ℕ) → most < length before → account_left s (cut_behind before text) ≡ end_of s (before ++ text)
  long_within s before [] long = ends s before ∙ ap (end_of s) (sym (append-nil before))
  long_within s before (b ∷ text) long = by_test (b == mark)
      (λ e. rw e (long_marked s before text long) ∙ sym (marked_rest s before b text e))
      (λ e. rw e (long_within s (before ++ b ∷ []) text (omega (arith, long, longer before b))) ∙ ap (end_of s) (append_assoc before (b ∷ []) text))

  long_marked : (s : State) (before text : List ℕ) → most < length before → account_left s (behind_mark before text) ≡ stopped s (Some Form)
  long_marked s before [] long = refused s before [] [] long
  long_marked s before (b ∷ text) long = by_test (b == mark)
      (λ e. rw e (long_within s (before ++ b ∷ []) text (omega (arith, long, longer before b))) ∙ ap (end_of s) (append_assoc before (b ∷ []) text) ∙ marked_rest s before b text e)
      (λ e. rw e (refused s before (cut_behind (b ∷ []) text).chunks (cut_behind (b ∷ []) text).rest long))

pub record GoesOn (whole : Cut) (text : List ℕ) (now : FeedState) : Type 0 where
  pub still : IsOpen now.phase
  pub same : whole ≡ cut_from now.phase now.bytes text
  pub short : length now.bytes ≤ most

pub record Ends (whole : Cut) (b : ℕ) (text before : List ℕ) (now : FeedState) : Type 0 where
  pub told : now.phase ≡ Told b
  pub bytes : now.bytes ≡ before
  pub same : whole ≡ with_chunk before (cut_behind (b ∷ []) text)

pub record IsLong (whole : Cut) (b : ℕ) (text before : List ℕ) (now : FeedState) : Type 0 where
  pub bytes : now.bytes ≡ before
  pub same : (s : State) → account_left s whole ≡ end_of s (before ++ b ∷ text)

-- what a text is cut into, by what a byte told
abbrev pub IsFed : Cut → ℕ → List ℕ → List ℕ → FeedState → Fed → Type 0
IsFed whole b text before now answers.More = GoesOn whole text now
IsFed whole b text before now answers.Chunk = Ends whole b text before now
IsFed whole b text before now answers.Long = IsLong whole b text before now

kept : (before : List ℕ) (b : ℕ) (text : List ℕ) → IsFed (cut_behind (before ++ b ∷ []) text) b text before (with_byte before b) (answer (with_byte before b).phase)
kept before b text = by_test (nat_lt (length before) most)
    (λ e. rw e (record { still = tt; same = refl; short = omega (arith, longer before b, ltb-true (length before) most e) }))
    (λ e. rw e (record { bytes = refl; same = λ s. long_within s (before ++ b ∷ []) text (full before b e) ∙ ap (end_of s) (append_assoc before (b ∷ []) text) }))

pub byte_fed : (p : Phase) (before : List ℕ) (b : ℕ) (text : List ℕ) → IsOpen p → length before ≤ most
    → IsFed (cut_from p before (b ∷ text)) b text before (fed_in p before b) (answer (fed_in p before b).phase)
byte_fed Within before b text still short = by_test (b == mark)
    (λ e. rw e (record { still = tt; same = refl; short = short }))
    (λ e. rw e (kept before b text))
byte_fed Marked before b text still short = by_test (b == mark)
    (λ e. rw e (kept before b text))
    (λ e. rw e (record { told = refl; bytes = refl; same = refl }))
byte_fed (Told c) before b text still short = absurd still
byte_fed Long before b text still short = absurd still
byte_fed Ended before b text still short = absurd still

-- what stops the reading stops the account
pub stopped_at : (whole other : Account) (goes_on then_on : State → Account) (s : State) (e : Stop) → whole ≡ other → Tells other goes_on s (Err e) → Tells whole then_on s (Err e)
stopped_at whole other goes_on then_on s (At cause) same told = same ∙ told
stopped_at whole other goes_on then_on s OutOfMemory same told = tt

module _ (text : List ℕ) (s : State) (c : FeedState) (at : ℕ) (still : IsOpen c.phase) (short : length c.bytes ≤ most)
    (left : account_left s (cut_from c.phase c.bytes (drop at text)) ≡ account text) where
  module _ (now : FeedState) (b : ℕ) (rest : List ℕ) (here : drop at text ≡ b ∷ rest) (read : now ≡ fed c b) where
    fed_here : (told : Fed) → answer now.phase ≡ told → IsFed (cut_from c.phase c.bytes (b ∷ rest)) b rest c.bytes now told
    fed_here told e =
        subst (λ (f : Fed). IsFed (cut_from c.phase c.bytes (b ∷ rest)) b rest c.bytes now f) e
        (subst (λ (n : FeedState). IsFed (cut_from c.phase c.bytes (b ∷ rest)) b rest c.bytes n (answer n.phase)) (sym read) (byte_fed c.phase c.bytes b rest still short))

    left_here : account text ≡ account_left s (cut_from c.phase c.bytes (b ∷ rest))
    left_here = sym left ∙ ap (λ (t : List ℕ). account_left s (cut_from c.phase c.bytes t)) here

    abbrev pub behind : Cut
    behind = cut_behind (b ∷ []) rest

    pub chunk_ended : answer now.phase ≡ answers.Chunk → account text ≡ account_behind s (now.bytes ∷ behind.chunks) behind.rest
    chunk_ended told =
        let f = fed_here answers.Chunk told in
        left_here ∙ ap (λ (x : Cut). account_left s x) f.same ∙ ap (λ (x : List ℕ). account_behind s (x ∷ behind.chunks) behind.rest) (sym f.bytes)

    pub chunk_goes_on : answer now.phase ≡ answers.More → account_left s (cut_from now.phase now.bytes rest) ≡ account text
    chunk_goes_on told = let f = fed_here answers.More told in sym (left_here ∙ ap (λ (x : Cut). account_left s x) f.same)

    pub chunk_too_long : answer now.phase ≡ answers.Long → account text ≡ end_of s (now.bytes ++ b ∷ rest)
    chunk_too_long told = let f = fed_here answers.Long told in left_here ∙ f.same s ∙ ap (λ (x : List ℕ). end_of s (x ++ b ∷ rest)) (sym f.bytes)

  pub last_ended : drop at text ≡ [] → last_answer c.phase ≡ answers.Chunk → account text ≡ account_behind s (c.bytes ∷ []) []
  last_ended none told = sym left ∙ ap (λ (t : List ℕ). account_left s (cut_from c.phase c.bytes t)) none ∙ by c.phase still told
    where
      by : (p : Phase) → IsOpen p → last_answer p ≡ answers.Chunk → account_left s (cut_from p c.bytes []) ≡ account_behind s (c.bytes ∷ []) []
      by Within open_still e = absurd cc
      by Marked open_still e = refl
      by (Told b) open_still e = absurd open_still
      by Long open_still e = absurd open_still
      by Ended open_still e = absurd open_still
