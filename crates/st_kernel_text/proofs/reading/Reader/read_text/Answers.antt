use Rattle.std.proofs.Common.{rules, ◌≡◌, suc, ℕ, List, [], ◌∷◌, ◌++◌, drop, get_or, sym, ap, ◌∙◌, subst}
use Rattle.std.specs.Prelude.{Result, Err}
use Rattle.std.proofs.Math.Seq.{drop-cons}
use Rattle.std.proofs.lemmas.List.{drop_all}
use Rattle.st_chunk.proofs.Blanks.{tail_whole}
use Rattle.st_chunk.specs.Feeding.{State as FeedState, answer}
use Rattle.st_kernel_text.specs.declared.cause.Stop.{Stop}
use Rattle.st_kernel_text.specs.Texts.{Account, account}
use Rattle.st_kernel_text.specs.inside.Reading.{Tells, account_behind, complete, end_of}
use Rattle.st_kernel_text.specs.inside.States.{state_of}
use Rattle.st_kernel_text.proofs.Cutting.{ends, stopped_at, behind, chunk_ended, chunk_too_long, last_ended}
use Rattle.st_kernel_text.proofs.reading.Reader.read_text.Goals as goal

pub returns-in_err-read_chunk-in-Chunk : goal.returns-in_err-read_chunk-in-Chunk
returns-in_err-read_chunk-in-Chunk c =
    let text = c.args.text.now in
    let l = c.loop-at in
    let b = get_or text l.at 0 in
    let rest = drop (suc l.at) text in
    let here = drop-cons text l.at 0 c.loop-at-test.true in
    let told = ap (λ (n : FeedState). answer n.phase) c.in-Chunk.ensures.read ∙ sym c.in-Chunk.ensures.told in
    let bytes : c.text.result.now ≡ c.feed.new.self.bytes = search rules in
    let cut = behind text (state_of l.self) l.chunk l.at l.invariant.still l.invariant.short l.invariant.left c.feed.new.self b rest here c.in-Chunk.ensures.read in
    let whole = chunk_ended text (state_of l.self) l.chunk l.at l.invariant.still l.invariant.short l.invariant.left c.feed.new.self b rest here c.in-Chunk.ensures.read told
    ∙ ap (λ (x : List ℕ). account_behind (state_of l.self) (x ∷ cut.chunks) cut.rest) (sym bytes) in
    let e : c.from_residual-in_err-read_chunk-in-Chunk.result ≡ Err c.in_err-read_chunk-in-Chunk.field-0.0 = search rules in
    subst (λ (r : Result Unit Stop). Tells (account text) complete (state_of c.read_chunk.new.self) r) (sym e)
    (stopped_at (account text) (account_behind (state_of l.self) (c.text.result.now ∷ cut.chunks) cut.rest) (λ s. account_behind s cut.chunks cut.rest) complete
    (state_of c.read_chunk.new.self) c.in_err-read_chunk-in-Chunk.field-0.0 whole (c.in_err-read_chunk-in-Chunk.ensures cut.chunks cut.rest))

pub returns-in-Long : goal.returns-in-Long
returns-in-Long c =
    let text = c.args.text.now in
    let l = c.loop-at in
    let b = get_or text l.at 0 in
    let rest = drop (suc l.at) text in
    let here = drop-cons text l.at 0 c.loop-at-test.true in
    let told = ap (λ (n : FeedState). answer n.phase) c.in-Long.ensures.read ∙ sym c.in-Long.ensures.told in
    let bytes : c.text-in-Long.result.now ≡ c.feed.new.self.bytes = search rules in
    let whole = chunk_too_long text (state_of l.self) l.chunk l.at l.invariant.still l.invariant.short l.invariant.left c.feed.new.self b rest here c.in-Long.ensures.read told in
    let tail = tail_whole text l.at ∙ here in
    subst (λ (w : Account). Tells w complete (state_of l.self) c.end_long.result) (sym (whole ∙ (λ i. end_of (state_of l.self) (sym bytes i ++ sym tail i)))) c.end_long.ensures

pub returns-in_err-read_chunk-in-Chunk-finish : goal.returns-in_err-read_chunk-in-Chunk-finish
returns-in_err-read_chunk-in-Chunk-finish c =
    let text = c.args.text.now in
    let l = c.loop-at in
    let none = drop_all l.at text c.loop-at-test.false in
    let bytes : c.text-in-Chunk-finish.result.now ≡ l.chunk.bytes = search rules in
    let whole = last_ended text (state_of l.self) l.chunk l.at l.invariant.still l.invariant.short l.invariant.left none (sym c.in-Chunk-finish.ensures.told)
    ∙ ap (λ (x : List ℕ). account_behind (state_of l.self) (x ∷ []) []) (sym bytes) in
    let e : c.from_residual-in_err-read_chunk-in-Chunk-finish.result ≡ Err c.in_err-read_chunk-in-Chunk-finish.field-0.0 = search rules in
    subst (λ (r : Result Unit Stop). Tells (account text) complete (state_of c.read_chunk-in-Chunk-finish.new.self) r) (sym e)
    (stopped_at (account text) (account_behind (state_of l.self) (c.text-in-Chunk-finish.result.now ∷ []) []) (λ s. account_behind s [] []) complete
    (state_of c.read_chunk-in-Chunk-finish.new.self) c.in_err-read_chunk-in-Chunk-finish.field-0.0 whole (c.in_err-read_chunk-in-Chunk-finish.ensures [] []))

pub returns-in-Chunk-finish : goal.returns-in-Chunk-finish
returns-in-Chunk-finish c =
    let text = c.args.text.now in
    let l = c.loop-at in
    let new = state_of c.read_chunk-in-Chunk-finish.new.self in
    let none = drop_all l.at text c.loop-at-test.false in
    let bytes : c.text-in-Chunk-finish.result.now ≡ l.chunk.bytes = search rules in
    let whole = last_ended text (state_of l.self) l.chunk l.at l.invariant.still l.invariant.short l.invariant.left none (sym c.in-Chunk-finish.ensures.told)
    ∙ ap (λ (x : List ℕ). account_behind (state_of l.self) (x ∷ []) []) (sym bytes)
    ∙ c.in_ok-read_chunk-in-Chunk-finish.ensures [] []
    ∙ ends new [] in
    subst (λ (w : Account). Tells w complete new c.end.result) (sym whole) c.end.ensures
