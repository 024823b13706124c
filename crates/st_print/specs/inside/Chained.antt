-- The words of an expression along its chain: what stands before its start, and what stands behind it.
use Rattle.std.specs.Prelude.{Bool, true, false, List, [], ◌∷◌, ◌++◌, Option, Some, None, if◌then◌else◌}
use Rattle.std.specs.Str.{byte}
use Rattle.st_scan.specs.declared.token.Signed.{Signed}
use Rattle.st_scan.specs.Views.{ContentView, ExpressionView, MessagesView}
use Rattle.st_scan.specs.Views as views
use Rattle.st_scan.specs.inside.Chains.{LinkView, assigned, sent}
use Rattle.st_print.specs.declared.rank.Rank.{Rank}
use Rattle.st_print.specs.declared.rank.Rank.TheVariants.{Any}
use Rattle.st_print.specs.Words.{Word, name, mark}
use Rattle.st_print.specs.Printed.{is_loose, rank_of_messages, receiver_rank, messages_words}

-- the number with a sign that a start is
abbrev pub signed_content : ContentView → Option Signed
signed_content (views.number n) = if n.minus then Some n else None
signed_content what = None

abbrev pub signed_start : ExpressionView → Option Signed
signed_start (views.literal e) = signed_content e.what
signed_start e = None

-- what a link makes, and what it is made of
abbrev pub rank_of_link : LinkView → Rank
rank_of_link (assigned target) = Any
rank_of_link (sent ms) = rank_of_messages ms

abbrev pub inner_rank : LinkView → Rank
inner_rank (assigned target) = Any
inner_rank (sent ms) = receiver_rank ms

-- what is wanted of an expression to which links are still to be done
abbrev pub wanted_by : Rank → List LinkView → Rank
wanted_by outer [] = outer
wanted_by outer (l ∷ ls) = inner_rank l

abbrev pub opened : Bool → List Word
opened true = mark (byte "(") ∷ []
opened false = []

abbrev pub closed : Bool → List Word
closed true = mark (byte ")") ∷ []
closed false = []

abbrev pub target_words : LinkView → List Word
target_words (assigned target) = name target.text ∷ mark (byte "_") ∷ []
target_words (sent ms) = []

abbrev pub link_words : LinkView → List Word
link_words (assigned target) = []
link_words (sent ms) = messages_words ms

-- what stands before and behind an expression for one link, where an expression of a rank is wanted of it
abbrev pub before_link : Rank → LinkView → List Word
before_link wanted l = opened (is_loose wanted (rank_of_link l)) ++ target_words l

abbrev pub behind_link : Rank → LinkView → List Word
behind_link wanted l = link_words l ++ closed (is_loose wanted (rank_of_link l))

-- and for all links, the first of which is the innermost
abbrev pub before_links : Rank → List LinkView → List Word
before_links outer [] = []
before_links outer (l ∷ ls) = before_links outer ls ++ before_link (wanted_by outer ls) l

abbrev pub behind_links : Rank → List LinkView → List Word
behind_links outer [] = []
behind_links outer (l ∷ ls) = behind_link (wanted_by outer ls) l ++ behind_links outer ls
