-- Code that has few words on the stack sends each message that is come to with few arguments.
use Rattle.std.proofs.Common.{◌≡◌, ℕ, ◌+◌, ◌<◌, ◌≤◌, Bool, true, false, ◌&&◌, ◌||◌, max, refl, sym, ap, ◌∙◌, subst, arith}
use Rattle.std.specs.Prelude.{if◌then◌else◌}
use Rattle.st_emit.specs.declared.instruction.Constant.TheVariants.{Receiver, True, False, Nil, Context}
use Rattle.st_emit.specs.declared.form.TwoSided.TheVariants.{TrueFirst, FalseFirst}
use Rattle.st_emit.specs.declared.level.Level.{Level}
use Rattle.st_emit.specs.Emitting.{Use, for_value, for_effect}
use Rattle.st_emit.specs.Depths.{pushed, popped, level_used, ended, beside, joined, within, around, return_level, level_of, body_level, messages_level, nodes_level, method_level, empty}
use Rattle.st_emit.specs.Nodes.{Node, constant, small, literal, variable, assign, block, send, one_sided, two_sided, loop, Body, nothing, last, next, returned, Messages, only, also, Nodes, none, node, count}
use Rattle.st_emit.specs.Emitting.{code_of, pop_arguments}
use Rattle.st_emit.specs.Steps.{size}
use Rattle.st_meaning.specs.inside.Blocks.{inside_at, Each, EachOfBody, EachOfMessages, EachOfNodes}
use Rattle.st_meaning.proofs.EachBlock.{FewBlock}
use Rattle.st_meaning.proofs.Living.{goes, body_goes, messages_go, nodes_go, Few, BodyFew, MessagesFew, NodesFew}

-- from one level to another: it is live where it was and the code goes on, it only rises, and it is at least k words higher
record Up (k : ℕ) (on : Bool) (l m : Level) : Type 0 where
  live : m.live ≡ l.live && on
  greatest : l.greatest ≤ m.greatest
  blocks : l.blocks ≤ m.blocks
  held : l.height ≤ l.greatest → m.height ≤ m.greatest
  high : m.live ≡ true → l.height + k ≤ m.height

and_same : (b : Bool) → b && true ≡ b
and_same true = refl
and_same false = refl

and_first : (a b : Bool) → (a && b) ≡ true → a ≡ true
and_first true b e = refl
and_first false b e = absurd cc

and_second : (a b : Bool) → (a && b) ≡ true → b ≡ true
and_second true b e = e
and_second false b e = absurd cc

and_assoc : (a b c : Bool) → (a && b) && c ≡ a && (b && c)
and_assoc true b c = refl
and_assoc false b c = refl

-- where the later level is live, so was the earlier one
was_live : {k : ℕ} {on : Bool} (l m : Level) → Up k on l m → m.live ≡ true → l.live ≡ true
was_live {k} {on} l m u e = and_first l.live on (sym u.live ∙ e)

max_left : (a b : ℕ) → a ≤ max a b
max_left a b = grind (arith, max)

max_right : (a b : ℕ) → b ≤ max a b
max_right a b = grind (arith, max)

up_same : (l : Level) → Up 0 true l l
up_same l = record { live = sym (and_same l.live); greatest = omega arith; blocks = omega arith; held = λ h. h; high = λ e. omega arith }

up_pushed : (l : Level) → Up 1 true l (pushed l)
up_pushed l = by_live l.live refl
  where
    by_live : (b : Bool) → l.live ≡ b → Up 1 true l (if b then record l { height = l.height + 1; greatest = max l.greatest (l.height + 1) } else l)
    by_live true e = record { live = sym (and_same l.live); greatest = max_left l.greatest (l.height + 1); blocks = omega arith; held = λ h. max_right l.greatest (l.height + 1); high = λ i. omega arith }
    by_live false e = record { live = sym (and_same l.live); greatest = omega arith; blocks = omega arith; held = λ h. h; high = λ i. let no : false ≡ true = sym e ∙ i in absurd cc }

up_then : (j k : ℕ) (a b : Bool) (l m n : Level) → Up j a l m → Up k b m n → Up (j + k) (a && b) l n
up_then j k a b l m n u v = record {
  live = v.live ∙ ap (λ (x : Bool). x && b) u.live ∙ and_assoc l.live a b;
  greatest = omega (arith, u.greatest, v.greatest);
  blocks = omega (arith, u.blocks, v.blocks);
  held = λ h. v.held (u.held h);
  high = λ e. let m_live : m.live ≡ true = and_first m.live b (sym v.live ∙ e) in omega (arith, u.high m_live, v.high e);
}

-- n words fewer
up_popped : (n k j : ℕ) (on : Bool) (l m : Level) → Up k on l m → j + n ≡ k → Up j on l (popped n m)
up_popped n k j on l m u e = record {
  live = u.live;
  greatest = u.greatest;
  blocks = u.blocks;
  held = λ h. omega (arith, u.held h);
  high = λ i. omega (arith, u.high i, e);
}

-- what an expression leaves
abbrev left : Use → ℕ
left for_value = 1
left for_effect = 0

up_used : (u : Use) (on : Bool) (l m : Level) → Up 1 on l m → Up (left u) on l (level_used u m)
up_used for_value on l m h = h
up_used for_effect on l m h = up_popped 1 1 0 on l m h refl

up_less : (j k : ℕ) (on : Bool) (l m : Level) → j ≤ k → Up k on l m → Up j on l m
up_less j k on l m e h = record { live = h.live; greatest = h.greatest; blocks = h.blocks; held = h.held; high = λ i. omega (arith, h.high i, e) }

up_on : (k : ℕ) (on off : Bool) (l m : Level) → on ≡ off → Up k on l m → Up k off l m
up_on k on off l m e h = subst (λ (b : Bool). Up k b l m) e h

-- a constant is returned without a push
up_ended : (k : ℕ) (on : Bool) (l m : Level) → Up k on l m → Up 1 false l (ended m)
up_ended k on l m h = record { live = none l.live; greatest = h.greatest; blocks = h.blocks; held = h.held; high = λ e. absurd cc }
  where
    none : (b : Bool) → false ≡ b && false
    none true = refl
    none false = refl

up_returned : (n : Node) (l m : Level) → Up 1 (goes n) l m → Up 1 false l (return_level n l m)
up_returned (constant Context) l m h = up_ended 1 true l m h
up_returned (constant Receiver) l m h = up_ended 0 true l l (up_same l)
up_returned (constant True) l m h = up_ended 0 true l l (up_same l)
up_returned (constant False) l m h = up_ended 0 true l l (up_same l)
up_returned (constant Nil) l m h = up_ended 0 true l l (up_same l)
up_returned (small k) l m h = up_ended 1 true l m h
up_returned (literal x place) l m h = up_ended 1 true l m h
up_returned (variable q) l m h = up_ended 1 true l m h
up_returned (assign q x) l m h = up_ended 1 (goes x) l m h
up_returned (block f i x b) l m h = up_ended 1 (goes x) l m h
up_returned (send above r ms) l m h = up_ended 1 (goes (send above r ms)) l m h
up_returned (one_sided side x a) l m h = up_ended 1 (goes x) l m h
up_returned (two_sided side x a b) l m h = up_ended 1 (goes (two_sided side x a b)) l m h
up_returned (loop kind x a) l m h = up_ended 1 (body_goes x) l m h

-- where a second side begins
up_beside : (k : ℕ) (on : Bool) (s f : Level) → Up k on s f → Up 0 true s (beside s f)
up_beside k on s f h = record { live = sym (and_same s.live); greatest = h.greatest; blocks = h.blocks; held = λ e. omega (arith, e, h.greatest); high = λ e. omega arith }

either : (s a b : Bool) → ((s && a) || (s && b)) ≡ s && (a || b)
either true a b = refl
either false a b = refl

up_joined : (a b : Bool) (s f t : Level) → Up 1 a s f → Up 1 b (beside s f) t → Up 1 (a || b) s (joined f t)
up_joined a b s f t u v = by_live t.live refl
  where
    lives_on : (f.live || t.live) ≡ s.live && (a || b)
    lives_on = ap (λ (x : Bool). x || t.live) u.live ∙ ap (λ (x : Bool). (s.live && a) || x) v.live ∙ either s.live a b

    by_live : (c : Bool) → t.live ≡ c → Up 1 (a || b) s (record t { height = if c then t.height else f.height; live = f.live || t.live })
    by_live true e = record {
      live = lives_on;
      greatest = omega (arith, u.greatest, v.greatest);
      blocks = omega (arith, u.blocks, v.blocks);
      held = λ h. v.held (omega (arith, h, u.greatest));
      high = λ i. v.high e;
    }
    by_live false e = record {
      live = lives_on;
      greatest = omega (arith, u.greatest, v.greatest);
      blocks = omega (arith, u.blocks, v.blocks);
      held = λ h. omega (arith, u.held h, v.greatest);
      high = λ i. u.high (first_true f.live t.live i e);
    }
      where
        first_true : (x y : Bool) → (x || y) ≡ true → y ≡ false → x ≡ true
        first_true true y i e = refl
        first_true false y i e = let no : true ≡ false = sym i ∙ e in absurd cc

always_one : (a b : Bool) → (a && (b || true)) ≡ a
always_one a true = and_same a
always_one a false = and_same a

or_swap : (a b : Bool) → (a || b) ≡ (b || a)
or_swap true true = refl
or_swap true false = refl
or_swap false true = refl
or_swap false false = refl

-- NODES

-- a receiver, and two sides behind it
abbrev sides_level : Node → Body → Body → Level → Level
sides_level x a b l = let s = popped 1 (level_of for_value x l) in joined (body_level a s) (body_level b (beside s (body_level a s)))

sides_up : (gx ga gb : Bool) (l m f t : Level) → Up 1 gx l m → Up 1 ga (popped 1 m) f → Up 1 gb (beside (popped 1 m) f) t → Up 1 (gx && (ga || gb)) l (joined f t)
sides_up gx ga gb l m f t u v w = up_then 0 1 gx (ga || gb) l (popped 1 m) (joined f t) (up_popped 1 1 0 gx l m u refl) (up_joined ga gb (popped 1 m) f t v w)

up_block : (on inner : Bool) (l o m : Level) (i : ℕ) → Up 1 on l o → Up 1 inner (popped i (within i o)) m → Up 1 on l (around o m)
up_block on inner l o m i h k = record { live = h.live; greatest = h.greatest; blocks = omega (arith, h.blocks, k.blocks, max_left m.blocks m.greatest); held = h.held; high = h.high }

mutual
  node_up : (u : Use) (n : Node) (l : Level) → Up (left u) (goes n) l (level_of u n l)
  node_up u (constant k) l = up_used u true l (pushed l) (up_pushed l)
  node_up u (small k) l = up_used u true l (pushed l) (up_pushed l)
  node_up u (literal x place) l = up_used u true l (pushed l) (up_pushed l)
  node_up u (variable q) l = up_used u true l (pushed l) (up_pushed l)
  node_up u (assign q x) l = up_used u (goes x) l (level_of for_value x l) (node_up for_value x l)
  node_up u (block f i x b) l =
      let o = popped 1 (level_of for_value x (pushed l)) in
      up_used u (goes x) l (around o (body_level b (popped i (within i o)))) (up_block (goes x) (body_goes b) l o (body_level b (popped i (within i o))) i (up_popped 1 2 1 (goes x) l (level_of for_value x (pushed l)) (up_then 1 1 true (goes x) l (pushed l) (level_of for_value x (pushed l)) (up_pushed l) (node_up for_value x (pushed l))) refl)
      (body_up b (popped i (within i o))))
  node_up u (send above r ms) l =
      let m = level_of for_value r l in
      up_used u (goes r && messages_go ms) l (messages_level ms m) (up_then 1 0 (goes r) (messages_go ms) l m (messages_level ms m) (node_up for_value r l) (messages_up ms m))
  node_up u (one_sided side x a) l =
      let s = popped 1 (level_of for_value x l) in
      let f = body_level a s in
      up_used u (goes x) l (joined f (pushed (beside s f)))
      (up_on 1 (goes x && (body_goes a || true)) (goes x) l (joined f (pushed (beside s f))) (always_one (goes x) (body_goes a))
      (up_then 0 1 (goes x) (body_goes a || true) l s (joined f (pushed (beside s f))) (up_popped 1 1 0 (goes x) l (level_of for_value x l) (node_up for_value x l) refl)
      (up_joined (body_goes a) true s f (pushed (beside s f)) (body_up a s) (up_pushed (beside s f)))))
  node_up u (two_sided TrueFirst x a b) l = up_used u (goes x && (body_goes a || body_goes b)) l (sides_level x a b l) (sides_up (goes x) (body_goes a) (body_goes b) l (level_of for_value x l) (body_level a (popped 1 (level_of for_value x l))) (body_level b (beside (popped 1 (level_of for_value x l)) (body_level a (popped 1 (level_of for_value x l))))) (node_up for_value x l) (body_up a (popped 1 (level_of for_value x l))) (body_up b (beside (popped 1 (level_of for_value x l)) (body_level a (popped 1 (level_of for_value x l))))))
  node_up u (two_sided FalseFirst x a b) l =
      up_used u (goes x && (body_goes a || body_goes b)) l (sides_level x b a l)
      (up_on 1 (goes x && (body_goes b || body_goes a)) (goes x && (body_goes a || body_goes b)) l (sides_level x b a l) (ap (λ (c : Bool). goes x && c) (or_swap (body_goes b) (body_goes a)))
      (sides_up (goes x) (body_goes b) (body_goes a) l (level_of for_value x l) (body_level b (popped 1 (level_of for_value x l))) (body_level a (beside (popped 1 (level_of for_value x l)) (body_level b (popped 1 (level_of for_value x l))))) (node_up for_value x l) (body_up b (popped 1 (level_of for_value x l))) (body_up a (beside (popped 1 (level_of for_value x l)) (body_level b (popped 1 (level_of for_value x l)))))))
  node_up u (loop kind x a) l =
      let s = popped 1 (body_level x l) in
      let f = body_level a s in
      up_used u (body_goes x) l (pushed (beside s f))
      (up_on 1 (body_goes x && (true && true)) (body_goes x) l (pushed (beside s f)) (and_same (body_goes x))
      (up_then 0 1 (body_goes x) (true && true) l s (pushed (beside s f)) (up_popped 1 1 0 (body_goes x) l (body_level x l) (body_up x l) refl)
      (up_then 0 1 true true s (beside s f) (pushed (beside s f)) (up_beside 1 (body_goes a) s f (body_up a s)) (up_pushed (beside s f)))))

  body_up : (b : Body) (l : Level) → Up 1 (body_goes b) l (body_level b l)
  body_up nothing l = up_pushed l
  body_up (last n) l = node_up for_value n l
  body_up (next n b) l = up_then 0 1 (goes n) (body_goes b) l (level_of for_effect n l) (body_level b (level_of for_effect n l)) (node_up for_effect n l) (body_up b (level_of for_effect n l))
  body_up (returned n) l = up_returned n l (level_of for_value n l) (node_up for_value n l)

  messages_up : (ms : Messages) (l : Level) → Up 0 (messages_go ms) l (messages_level ms l)
  messages_up (only s ns) l = up_popped (count ns) (count ns) 0 (nodes_go ns) l (nodes_level ns l) (nodes_up ns l) (omega arith)
  messages_up (also s ns ms) l =
      let m = nodes_level ns (pushed l) in
      let k = popped 1 (popped (count ns) m) in
      up_then 0 0 (nodes_go ns) (messages_go ms) l k (messages_level ms k)
      (up_popped 1 1 0 (nodes_go ns) l (popped (count ns) m)
      (up_popped (count ns) (1 + count ns) 1 (nodes_go ns) l m (up_then 1 (count ns) true (nodes_go ns) l (pushed l) m (up_pushed l) (nodes_up ns (pushed l))) (omega arith)) refl)
      (messages_up ms k)

  nodes_up : (ns : Nodes) (l : Level) → Up (count ns) (nodes_go ns) l (nodes_level ns l)
  nodes_up none l = up_same l
  nodes_up (node n ns) l =
      up_less (count ns + 1) (1 + count ns) (goes n && nodes_go ns) l (nodes_level ns (level_of for_value n l)) (omega arith)
      (up_then 1 (count ns) (goes n) (nodes_go ns) l (level_of for_value n l) (nodes_level ns (level_of for_value n l)) (node_up for_value n l) (nodes_up ns (level_of for_value n l)))

-- FEW WORDS

record Small (l : Level) : Type 0 where
  greatest : l.greatest ≤ 255
  blocks : l.blocks ≤ 255

-- live, and no higher than the greatest
record Sound (l : Level) : Type 0 where
  live : l.live ≡ true
  held : l.height ≤ l.greatest

small_before : {k : ℕ} {on : Bool} (l m : Level) → Up k on l m → Small m → Small l
small_before l m u h = record { greatest = omega (arith, u.greatest, h.greatest); blocks = omega (arith, u.blocks, h.blocks) }

sound_after : {k : ℕ} {on : Bool} (l m : Level) → Up k on l m → Sound l → on ≡ true → Sound m
sound_after {k} {on} l m u h e = record { live = u.live ∙ ap (λ (b : Bool). b && on) h.live ∙ e; held = u.held h.held }

sound_popped : (n : ℕ) (l : Level) → Sound l → Sound (popped n l)
sound_popped n l h = record { live = h.live; held = omega (arith, h.held) }

effect_is : (n : Node) (l : Level) → level_of for_effect n l ≡ popped 1 (level_of for_value n l)
effect_is (constant k) l = refl
effect_is (small k) l = refl
effect_is (literal x place) l = refl
effect_is (variable q) l = refl
effect_is (assign q x) l = refl
effect_is (block f i x b) l = refl
effect_is (send above r ms) l = refl
effect_is (one_sided side x a) l = refl
effect_is (two_sided TrueFirst x a b) l = refl
effect_is (two_sided FalseFirst x a b) l = refl
effect_is (loop kind x a) l = refl

small_effect : (n : Node) (l : Level) → Small (level_of for_effect n l) → Small (level_of for_value n l)
small_effect n l h = let k = subst (λ (m : Level). Small m) (effect_is n l) h in record { greatest = k.greatest; blocks = k.blocks }

of_popped : (m : Level) → Small (popped 1 m) → Small m
of_popped m s = record { greatest = s.greatest; blocks = s.blocks }

sides_small : (gx ga gb : Bool) (l m f t : Level) → Up 1 gx l m → Up 1 ga (popped 1 m) f → Up 1 gb (beside (popped 1 m) f) t → Small (joined f t) → Small m × Small f × Small t
sides_small gx ga gb l m f t u v w s =
    let second : Small t = record { greatest = s.greatest; blocks = s.blocks } in
    let k = small_before (beside (popped 1 m) f) t w second in
    let first : Small f = record { greatest = k.greatest; blocks = k.blocks } in
    (of_popped m (small_before (popped 1 m) f v first), first, second)

-- as many arguments as words above where they began
count_few : (ns : Nodes) (l : Level) → Sound l → Small (nodes_level ns l) → nodes_go ns ≡ true → count ns < 256
count_few ns l h s on =
    let after = sound_after l (nodes_level ns l) (nodes_up ns l) h on in
    omega (arith, (nodes_up ns l).high after.live, after.held, s.greatest)

-- a value that is returned
returned_few : (n : Node) (l m : Level) → (Small m → Few n) → Small (return_level n l m) → Few n
returned_few (constant k) l m f s = tt
returned_few n l m f s = f (record { greatest = s.greatest; blocks = s.blocks })

mutual
  few : (n : Node) (l : Level) → Sound l → Small (level_of for_value n l) → Few n
  few (assign q x) l h s = few x l h s
  few (block f i x b) l h s =
      let o = popped 1 (level_of for_value x (pushed l)) in
      let m = body_level b (popped i (within i o)) in
      body_few b (popped i (within i o)) (record { live = refl; held = omega arith })
      (record { greatest = omega (arith, s.blocks, max_right m.blocks m.greatest); blocks = omega (arith, s.blocks, max_left m.blocks m.greatest) })
  few (send above r ms) l h s =
      let m = level_of for_value r l in
      (few r l h (small_before m (messages_level ms m) (messages_up ms m) s), λ on. messages_few ms m (sound_after l m (node_up for_value r l) h on) s)
  few (one_sided side x a) l h s =
      let m = level_of for_value x l in
      let f = body_level a (popped 1 m) in
      let t = pushed (beside (popped 1 m) f) in
      let inner : Small f = let k = small_before (beside (popped 1 m) f) t (up_pushed (beside (popped 1 m) f)) (record { greatest = s.greatest; blocks = s.blocks }) in record { greatest = k.greatest; blocks = k.blocks } in
      (few x l h (of_popped m (small_before (popped 1 m) f (body_up a (popped 1 m)) inner)), λ on. body_few a (popped 1 m) (sound_popped 1 m (sound_after l m (node_up for_value x l) h on)) inner)
  few (two_sided TrueFirst x a b) l h s =
      let m = level_of for_value x l in
      let f = body_level a (popped 1 m) in
      let e = beside (popped 1 m) f in
      let k = sides_small (goes x) (body_goes a) (body_goes b) l m f (body_level b e) (node_up for_value x l) (body_up a (popped 1 m)) (body_up b e) s in (
        few x l h k.0,
        λ on. (let begun = sound_popped 1 m (sound_after l m (node_up for_value x l) h on) in
            let behind = sound_after (popped 1 m) e (up_beside 1 (body_goes a) (popped 1 m) f (body_up a (popped 1 m))) begun refl in
            (body_few a (popped 1 m) begun k.1, body_few b e behind k.2)),
      )
  few (two_sided FalseFirst x a b) l h s =
      let m = level_of for_value x l in
      let f = body_level b (popped 1 m) in
      let e = beside (popped 1 m) f in
      let k = sides_small (goes x) (body_goes b) (body_goes a) l m f (body_level a e) (node_up for_value x l) (body_up b (popped 1 m)) (body_up a e) s in (
        few x l h k.0,
        λ on. (let begun = sound_popped 1 m (sound_after l m (node_up for_value x l) h on) in
            let behind = sound_after (popped 1 m) e (up_beside 1 (body_goes b) (popped 1 m) f (body_up b (popped 1 m))) begun refl in
            (body_few a e behind k.2, body_few b (popped 1 m) begun k.1)),
      )
  few (loop kind x a) l h s =
      let m = body_level x l in
      let f = body_level a (popped 1 m) in
      let t = pushed (beside (popped 1 m) f) in
      let inner : Small f = let k = small_before (beside (popped 1 m) f) t (up_pushed (beside (popped 1 m) f)) s in record { greatest = k.greatest; blocks = k.blocks } in
      (body_few x l h (of_popped m (small_before (popped 1 m) f (body_up a (popped 1 m)) inner)), λ on. body_few a (popped 1 m) (sound_popped 1 m (sound_after l m (body_up x l) h on)) inner)
  few n l h s = tt

  body_few : (b : Body) (l : Level) → Sound l → Small (body_level b l) → BodyFew b
  body_few nothing l h s = tt
  body_few (last n) l h s = few n l h s
  body_few (next n b) l h s =
      let m = level_of for_effect n l in
      (few n l h (small_effect n l (small_before m (body_level b m) (body_up b m) s)), λ on. body_few b m (sound_after l m (node_up for_effect n l) h on) s)
  body_few (returned n) l h s = returned_few n l (level_of for_value n l) (λ k. few n l h k) s

  messages_few : (ms : Messages) (l : Level) → Sound l → Small (messages_level ms l) → MessagesFew ms
  messages_few (only s ns) l h k =
      let m = nodes_level ns l in
      let inner : Small m = record { greatest = k.greatest; blocks = k.blocks } in
      (nodes_few ns l h inner, λ on. count_few ns l h inner on)
  messages_few (also s ns ms) l h k =
      let m = nodes_level ns (pushed l) in
      let p = popped 1 (popped (count ns) m) in
      let before : Small p = small_before p (messages_level ms p) (messages_up ms p) k in
      let inner : Small m = record { greatest = before.greatest; blocks = before.blocks } in
      let begun = sound_after l (pushed l) (up_pushed l) h refl in (
        nodes_few ns (pushed l) begun inner,
        λ on. (count_few ns (pushed l) begun inner on, messages_few ms p (sound_popped 1 (popped (count ns) m) (sound_popped (count ns) m (sound_after (pushed l) m (nodes_up ns (pushed l)) begun on))) k),
      )

  nodes_few : (ns : Nodes) (l : Level) → Sound l → Small (nodes_level ns l) → NodesFew ns
  nodes_few none l h s = tt
  nodes_few (node n ns) l h s =
      let m = level_of for_value n l in
      (few n l h (small_before m (nodes_level ns m) (nodes_up ns m) s), λ on. nodes_few ns m (sound_after l m (node_up for_value n l) h on) s)

-- METHODS

method_small : (b : Body) (l : Level) → Small (method_level b l) → Small l
method_small nothing l s = s
method_small (last n) l s = small_before l (level_of for_effect n l) (node_up for_effect n l) s
method_small (next n b) l s = small_before l (level_of for_effect n l) (node_up for_effect n l) (method_small b (level_of for_effect n l) s)
method_small (returned n) l s = small_before l (return_level n l (level_of for_value n l)) (up_returned n l (level_of for_value n l) (node_up for_value n l)) s

-- the statements of a method
few_in : (b : Body) (l : Level) → Sound l → Small (method_level b l) → BodyFew b
few_in nothing l h s = tt
few_in (last n) l h s = few n l h (small_effect n l s)
few_in (next n b) l h s =
    let m = level_of for_effect n l in
    (few n l h (small_effect n l (method_small b m s)), λ on. few_in b m (sound_after l m (node_up for_effect n l) h on) s)
few_in (returned n) l h s = returned_few n l (level_of for_value n l) (λ k. few n l h k) s

pub method_few : (b : Body) → (method_level b empty).greatest ≤ 255 → (method_level b empty).blocks ≤ 255 → BodyFew b
method_few b g k = few_in b empty (record { live = refl; held = omega arith }) (record { greatest = g; blocks = k })

-- EACH BLOCK

each_returned : (n : Node) (l m : Level) (at : ℕ) → (Small m → Each FewBlock at n) → Small (return_level n l m) → Each FewBlock at n
each_returned (constant k) l m at f s = tt
each_returned n l m at f s = f (record { greatest = s.greatest; blocks = s.blocks })

mutual
  each_few : (n : Node) (l : Level) (at : ℕ) → Small (level_of for_value n l) → Each FewBlock at n
  each_few (assign q x) l at s = each_few x l at s
  each_few (block f i x b) l at s =
      let o = popped 1 (level_of for_value x (pushed l)) in
      let m = body_level b (popped i (within i o)) in
      let inner : Small m = record { greatest = omega (arith, s.blocks, max_right m.blocks m.greatest); blocks = omega (arith, s.blocks, max_left m.blocks m.greatest) } in
      (body_few b (popped i (within i o)) (record { live = refl; held = omega arith }) inner, each_body b (popped i (within i o)) (inside_at at x + size (pop_arguments f i)) inner)
  each_few (send above r ms) l at s =
      let m = level_of for_value r l in
      (each_few r l at (small_before m (messages_level ms m) (messages_up ms m) s), each_messages above ms m (at + size (code_of for_value r)) s)
  each_few (one_sided side x a) l at s =
      let m = level_of for_value x l in
      let f = body_level a (popped 1 m) in
      let t = pushed (beside (popped 1 m) f) in
      let inner : Small f = let k = small_before (beside (popped 1 m) f) t (up_pushed (beside (popped 1 m) f)) (record { greatest = s.greatest; blocks = s.blocks }) in record { greatest = k.greatest; blocks = k.blocks } in
      (each_few x l at (of_popped m (small_before (popped 1 m) f (body_up a (popped 1 m)) inner)), each_body a (popped 1 m) _ inner)
  each_few (two_sided TrueFirst x a b) l at s =
      let m = level_of for_value x l in
      let f = body_level a (popped 1 m) in
      let e = beside (popped 1 m) f in
      let k = sides_small (goes x) (body_goes a) (body_goes b) l m f (body_level b e) (node_up for_value x l) (body_up a (popped 1 m)) (body_up b e) s in
      (each_few x l at k.0, each_body a (popped 1 m) _ k.1, each_body b e _ k.2)
  each_few (two_sided FalseFirst x a b) l at s =
      let m = level_of for_value x l in
      let f = body_level b (popped 1 m) in
      let e = beside (popped 1 m) f in
      let k = sides_small (goes x) (body_goes b) (body_goes a) l m f (body_level a e) (node_up for_value x l) (body_up b (popped 1 m)) (body_up a e) s in
      (each_few x l at k.0, each_body b (popped 1 m) _ k.1, each_body a e _ k.2)
  each_few (loop kind x a) l at s =
      let m = body_level x l in
      let f = body_level a (popped 1 m) in
      let t = pushed (beside (popped 1 m) f) in
      let inner : Small f = let k = small_before (beside (popped 1 m) f) t (up_pushed (beside (popped 1 m) f)) s in record { greatest = k.greatest; blocks = k.blocks } in
      (each_body x l at (of_popped m (small_before (popped 1 m) f (body_up a (popped 1 m)) inner)), each_body a (popped 1 m) _ inner)
  each_few n l at s = tt

  each_body : (b : Body) (l : Level) (at : ℕ) → Small (body_level b l) → EachOfBody FewBlock at b
  each_body nothing l at s = tt
  each_body (last n) l at s = each_few n l at s
  each_body (next n b) l at s =
      let m = level_of for_effect n l in
      (each_few n l at (small_effect n l (small_before m (body_level b m) (body_up b m) s)), each_body b m _ s)
  each_body (returned n) l at s = each_returned n l (level_of for_value n l) at (λ k. each_few n l at k) s

  each_messages : (above : Bool) (ms : Messages) (l : Level) (at : ℕ) → Small (messages_level ms l) → EachOfMessages FewBlock at above ms
  each_messages above (only s ns) l at k = each_nodes ns l at (record { greatest = k.greatest; blocks = k.blocks })
  each_messages above (also s ns ms) l at k =
      let m = nodes_level ns (pushed l) in
      let p = popped 1 (popped (count ns) m) in
      let before : Small p = small_before p (messages_level ms p) (messages_up ms p) k in
      (each_nodes ns (pushed l) (at + 1) (record { greatest = before.greatest; blocks = before.blocks }), each_messages above ms p _ k)

  each_nodes : (ns : Nodes) (l : Level) (at : ℕ) → Small (nodes_level ns l) → EachOfNodes FewBlock at ns
  each_nodes none l at s = tt
  each_nodes (node n ns) l at s = let m = level_of for_value n l in (each_few n l at (small_before m (nodes_level ns m) (nodes_up ns m) s), each_nodes ns m _ s)

each_in : (b : Body) (l : Level) (at : ℕ) → Small (method_level b l) → EachOfBody FewBlock at b
each_in nothing l at s = tt
each_in (last n) l at s = each_few n l at (small_effect n l s)
each_in (next n b) l at s = let m = level_of for_effect n l in (each_few n l at (small_effect n l (method_small b m s)), each_in b m _ s)
each_in (returned n) l at s = each_returned n l (level_of for_value n l) at (λ k. each_few n l at k) s

pub method_each : (b : Body) → (method_level b empty).greatest ≤ 255 → (method_level b empty).blocks ≤ 255 → EachOfBody FewBlock 0 b
method_each b g k = each_in b empty 0 (record { greatest = g; blocks = k })
