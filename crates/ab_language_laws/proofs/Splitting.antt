-- The bytes of a printed shape split into its tokens: each is the longest that stands at its place.
use Rattle.std.proofs.Common.{◌≡◌, ℕ, suc, ◌+◌, ◌-◌, ◌≤◌, length, List, [], ◌∷◌, ◌++◌, Bool, true, false, codes, refl, sym, ◌∙◌, ap, subst, arith, append_assoc, take, drop}
use Rattle.std.specs.Prelude.{slice_range, ◌&&◌, ◌||◌, if◌then◌else◌}
use Rattle.std.specs.List.{list_all}
use Rattle.std.specs.Char.{is_ascii_alphabetic}
use Rattle.std.proofs.lemmas.Bool.{and_parts}
use Rattle.ab_grammar.specs.Grammar.{left, right}
use Rattle.std.proofs.lemmas.List.{append-nil, take_at, drop_at, length-append}
use Rattle.ab_lex.specs.declared.token.TokenKind.{TokenKind}
use Rattle.ab_lex.specs.declared.token.TokenKind.TheVariants.{Word, Sign}
use Rattle.ab_lex.specs.declared.token.Token.{Token as Lexed}
use Rattle.ab_lex.specs.Units.{blank}
use Rattle.ab_lex.specs.Tokens.{is_word_byte, IsWordTail, ends, byte, joined, IsWord, alone, letters, TokenAt, token_at, TokensFrom, no_more, gap, token}
use Rattle.ab_lex.specs.Reader.{tail_size, sign_size}
use Rattle.ab_lex.proofs.FirstByte.{kind_of, first_kind}
use Rattle.ab_lex.proofs.Words.{goes_on, joins}
use Rattle.ab_lex.proofs.Pieces.{longest_of, word_at_most, alone_at_most, sign_stands}
use Rattle.ab_grammar.specs.declared.Infix.{Infix}
use Rattle.ab_grammar.specs.declared.Infix.TheVariants.{Arrow, Or, And, Equal, Imply, With, Cons}
use Rattle.ab_grammar.specs.declared.Quant.{Quant}
use Rattle.ab_grammar.specs.declared.Quant.TheVariants.{Forall, Exists, Nabla}
use Rattle.ab_grammar.specs.Token as grammar
use Rattle.ab_grammar.specs.Token.{Token, quantifier, pi_word, sign, left_paren, right_paren, left_brace, right_brace, left_bracket, right_bracket, turnstile, backslash, comma}
use Rattle.ab_print.specs.Shapes.{Shape, word, truth, empty, applied, abstraction, join, bind, pi, judge, focus, marked, broken, Shapes, no_shapes, shape, is_none}
use Rattle.ab_print.specs.ShapeText.{is_enclosed, enclosed, placed, bound, bare, arguments, context, further, items, token_bytes, part_bytes, part_tokens, bytes, tokens}
use Rattle.ab_syntax.specs.ab_expressions.specs.Tokens.{token_by}
use Rattle.ab_language_laws.specs.Spellings.{seen, HasTokens, IsName, AreNames, IsPlain, ArePlain}

-- tokens and single spaces, one behind another
data Lexes : List ℕ → List Token → Type 0 where
  none : Lexes [] []
  space : {r : List ℕ} {ks : List Token} → Lexes r ks → Lexes (32 ∷ r) ks
  one : {r : List ℕ} {ks : List Token} (kind : TokenKind) (c : List ℕ) (k : Token) → token_by kind c 0 ≡ k → TokenAt kind c r → Lexes r ks → Lexes (c ++ r) (k ∷ ks)

-- the bytes of the token at this place
bytes_there : (text front c r : List ℕ) (place : ℕ) → text ≡ front ++ (c ++ r) → length front ≡ place → slice_range text place (place + length c) ≡ c
bytes_there text front c r place e l =
    let d : drop place text ≡ c ++ r = ap (drop place) e ∙ drop_at front (c ++ r) place l in
    let size : length c ≡ place + length c - place = omega arith in
    ap (take (place + length c - place)) d ∙ take_at c r (place + length c - place) size

record TokensThere (text : List ℕ) (place : ℕ) (s : List ℕ) (ks : List Token) : Type 0 where
  tokens : List Lexed
  reads : TokensFrom place s tokens
  same : seen text tokens ≡ ks

there : {ks : List Token} {s : List ℕ} (text front : List ℕ) (place : ℕ) → text ≡ front ++ s → length front ≡ place → Lexes s ks → TokensThere text place s ks
there text front place e l none = record { tokens = []; reads = no_more; same = refl }
there text front place e l (space {r = r} h) =
    let k = there text (front ++ 32 ∷ []) (place + 1) (e ∙ sym (append_assoc front (32 ∷ []) r)) (length-append front (32 ∷ []) ∙ ap (λ n. n + 1) l) h in
    record { tokens = k.tokens; reads = gap (32 ∷ []) refl (blank refl) k.reads; same = k.same }
there text front place e l (one {r = r} {ks = ks} kind c k is at h) =
    let b = bytes_there text front c r place e l in
    let m = there text (front ++ c) (place + length c) (e ∙ sym (append_assoc front c r)) (length-append front c ∙ ap (λ n. n + length c) l) h in
    record {
      tokens = token_at kind place (length c) ∷ m.tokens;
      reads = token refl at m.reads;
      same = ap (λ w. token_by kind w 0 ∷ seen text m.tokens) b ∙ ap (λ w. w ∷ seen text m.tokens) is ∙ ap (λ ws. k ∷ ws) m.same;
    }

-- Words

tail_stops : {w : List ℕ} (s : List ℕ) → IsWordTail w → tail_size s ≡ 0 → tail_size (w ++ s) ≡ length w
tail_stops s ends e = e
tail_stops s (byte {b = b} {w = w} h k) e = goes_on b (w ++ s) h ∙ ap suc (tail_stops s k e)
tail_stops s (joined {b = b} {c = c} {w = w} h f k) e = joins b c (w ++ s) h f ∙ ap suc (tail_stops s k e)

word_most : {b : ℕ} {c d : List ℕ} (s q : List ℕ) → tail_size s ≡ 0 → IsWord (b ∷ c) → d ++ q ≡ c ++ s → IsWord (b ∷ d) → length d ≤ length c
word_most s q stopped (alone u) p g = alone_at_most u g
word_most s q stopped (letters {w = w} h k) p g = let a = word_at_most (w ++ s) q p g in let e = tail_stops s k stopped in omega arith

word_at : (c s : List ℕ) → IsWord c → tail_size s ≡ 0 → TokenAt Word c s
word_at [] s h stopped = absurd (no_word h)
  where
    no_word : IsWord [] → ⊥
    no_word h = elim h [ ]
word_at (b ∷ c) s h stopped = record {
  form = h;
  longest = λ other d q p g. longest_of Word b (c ++ s) (length c) (first_kind Word b c s h) (λ d q p g. word_most s q stopped h p g) other d q p g;
}

-- Pieces of a text: where what follows them is as it is asked, their tokens come before its tokens

record Lays (P : List ℕ → Type 0) (xs : List ℕ) (ks : List Token) : Type 0 where
  run : (r : List ℕ) (ls : List Token) → P r → Lexes r ls → Lexes (xs ++ r) (ks ++ ls)

-- no word goes on there; anything stands there
abbrev Stopped : List ℕ → Type 0
Stopped r = tail_size r ≡ 0

abbrev Any : List ℕ → Type 0
Any r = Unit {0}

behind : {P Q : List ℕ → Type 0} {xs ys : List ℕ} {ks ls : List Token} → Lays P xs ks → ((r : List ℕ) → Q r → P (ys ++ r)) → Lays Q ys ls → Lays Q (xs ++ ys) (ks ++ ls)
behind {xs = xs} {ys = ys} {ks = ks} {ls = ls} first goes second = record {
  run = λ r ms h m. subst (λ (w : List ℕ). Lexes w ((ks ++ ls) ++ ms)) (sym (append_assoc xs ys r))
      (subst (λ (w : List Token). Lexes (xs ++ (ys ++ r)) w) (sym (append_assoc ks ls ms)) (first.run (ys ++ r) (ls ++ ms) (goes r h) (second.run r ms h m)));
}

nothing : {P : List ℕ → Type 0} → Lays P [] []
nothing = record { run = λ r ls h m. m }

named : (x : List ℕ) (k : Token) → IsWord x → token_by Word x 0 ≡ k → Lays Stopped x (k ∷ [])
named x k h e = record { run = λ r ls stopped m. one Word x k e (word_at x r h stopped) m }

spaced : Lays Any (32 ∷ []) []
spaced = record { run = λ r ls h m. space m }

-- Signs: brackets, and signs before a space

size_40 : (r : List ℕ) → 1 ≡ sign_size 40 r
size_40 [] = refl
size_40 (c ∷ r) = refl

size_41 : (r : List ℕ) → 1 ≡ sign_size 41 r
size_41 [] = refl
size_41 (c ∷ r) = refl

size_91 : (r : List ℕ) → 1 ≡ sign_size 91 r
size_91 [] = refl
size_91 (c ∷ r) = refl

size_93 : (r : List ℕ) → 1 ≡ sign_size 93 r
size_93 [] = refl
size_93 (c ∷ r) = refl

size_123 : (r : List ℕ) → 1 ≡ sign_size 123 r
size_123 [] = refl
size_123 (c ∷ r) = refl

size_125 : (r : List ℕ) → 1 ≡ sign_size 125 r
size_125 [] = refl
size_125 (c ∷ r) = refl

single : (b : ℕ) (k : Token) → kind_of b ≡ Sign → ((r : List ℕ) → 1 ≡ sign_size b r) → token_by Sign (b ∷ []) 0 ≡ k → Lays Any (b ∷ []) (k ∷ [])
single b k kind size e = record {
  run = λ r ls h m. one Sign (b ∷ []) k e (sign_stands b r 1 kind (size r) (λ z. omega arith)).2 m;
}

before_space : (b : ℕ) (k : Token) → kind_of b ≡ Sign → ((r : List ℕ) → 1 ≡ sign_size b (32 ∷ r)) → token_by Sign (b ∷ []) 0 ≡ k → Lays Any (b ∷ 32 ∷ []) (k ∷ [])
before_space b k kind size e = record {
  run = λ r ls h m. one Sign (b ∷ []) k e (sign_stands b (32 ∷ r) 1 kind (size r) (λ z. omega arith)).2 (space m);
}

between_one : (b : ℕ) (k : Token) → kind_of b ≡ Sign → ((r : List ℕ) → 1 ≡ sign_size b (32 ∷ r)) → token_by Sign (b ∷ []) 0 ≡ k → Lays Any (32 ∷ b ∷ 32 ∷ []) (k ∷ [])
between_one b k kind size e = record {
  run = λ r ls h m. space (one Sign (b ∷ []) k e (sign_stands b (32 ∷ r) 1 kind (size r) (λ z. omega arith)).2 (space m));
}

between_two : (b c : ℕ) (k : Token) → kind_of b ≡ Sign → ((r : List ℕ) → 2 ≡ sign_size b (c ∷ 32 ∷ r)) → token_by Sign (b ∷ c ∷ []) 0 ≡ k → Lays Any (32 ∷ b ∷ c ∷ 32 ∷ []) (k ∷ [])
between_two b c k kind size e = record {
  run = λ r ls h m. space (one Sign (b ∷ c ∷ []) k e (sign_stands b (c ∷ 32 ∷ r) 2 kind (size r) (λ z. omega arith)).2 (space m));
}

signed : (o : Infix) → Lays Any (token_bytes (sign o)) (sign o ∷ [])
signed Arrow = between_two 45 62 (sign Arrow) refl (λ r. refl) refl
signed Or = between_two 92 47 (sign Or) refl (λ r. refl) refl
signed And = between_two 47 92 (sign And) refl (λ r. refl) refl
signed Equal = between_one 61 (sign Equal) refl (λ r. refl) refl
signed Imply = between_two 61 62 (sign Imply) refl (λ r. refl) refl
signed With = between_one 38 (sign With) refl (λ r. refl) refl
signed Cons = between_two 58 58 (sign Cons) refl (λ r. refl) refl

anywhere : {P : List ℕ → Type 0} {xs : List ℕ} {ks : List Token} → Lays Any xs ks → Lays P xs ks
anywhere l = record { run = λ r ls h m. l.run r ls tt m }

opens : Lays Any (token_bytes left_paren) (left_paren ∷ [])
opens = single 40 left_paren refl size_40 refl

closes : Lays Any (token_bytes right_paren) (right_paren ∷ [])
closes = single 41 right_paren refl size_41 refl

opens_brace : Lays Any (token_bytes (left_brace 0)) (left_brace 0 ∷ [])
opens_brace = single 123 (left_brace 0) refl size_123 refl

closes_brace : Lays Any (token_bytes right_brace) (right_brace ∷ [])
closes_brace = single 125 right_brace refl size_125 refl

opens_bracket : Lays Any (token_bytes left_bracket) (left_bracket ∷ [])
opens_bracket = single 91 left_bracket refl size_91 refl

closes_bracket : Lays Any (token_bytes right_bracket) (right_bracket ∷ [])
closes_bracket = single 93 right_bracket refl size_93 refl

turns : Lays Any (token_bytes turnstile) (turnstile ∷ [])
turns = between_two 124 45 turnstile refl (λ r. refl) refl

slashed : Lays Any (token_bytes backslash) (backslash ∷ [])
slashed = before_space 92 backslash refl (λ r. refl) refl

goes_on_behind_comma : Lays Any (token_bytes comma) (comma ∷ [])
goes_on_behind_comma = before_space 44 comma refl (λ r. refl) refl

-- words of letters

letters_tail : (w : List ℕ) → list_all is_word_byte w ≡ true → IsWordTail w
letters_tail [] h = ends
letters_tail (b ∷ w) h = let p = and_parts (is_word_byte b) (list_all is_word_byte w) h in byte p.0 (letters_tail w p.1)

a_word : (b : ℕ) (w : List ℕ) → is_ascii_alphabetic b ≡ true → list_all is_word_byte w ≡ true → IsWord (b ∷ w)
a_word b w h k = letters h (letters_tail w k)

quantifies : (q : Quant) → Lays Stopped (token_bytes (quantifier q 0)) (quantifier q 0 ∷ [])
quantifies Forall = named (codes "forall") (quantifier Forall 0) (a_word 102 (codes "orall") refl refl) refl
quantifies Exists = named (codes "exists") (quantifier Exists 0) (a_word 101 (codes "xists") refl refl) refl
quantifies Nabla = named (codes "nabla") (quantifier Nabla 0) (a_word 110 (codes "abla") refl refl) refl

begins_pi : Lays Any (token_bytes (pi_word 0)) (pi_word 0 ∷ [])
begins_pi = record {
  run = λ r ls h m. one Word (codes "pi") (pi_word 0) refl (word_at (codes "pi") (32 ∷ r) (a_word 112 (codes "i") refl refl) refl) (space m);
}

-- Shapes

by_name : (x : List ℕ) → IsName x → Lays Stopped x (grammar.word x 0 ∷ [])
by_name x h = named x (grammar.word x 0) h.0 h.1

enclosed_lays : (b : Bool) {xs : List ℕ} {ks : List Token} → Lays Stopped xs ks → Lays Stopped (enclosed part_bytes b xs) (enclosed part_tokens b ks)
enclosed_lays true l = behind opens (λ r h. tt) (behind l (λ r h. refl) (anywhere closes))
enclosed_lays false l = l

bound_lays : (xs : List (List ℕ)) → AreNames xs → Lays Stopped (bound part_bytes xs) (bound part_tokens xs)
bound_lays [] h = nothing
bound_lays (x ∷ xs) h = behind spaced (λ r k. tt) (behind (by_name x h.0) (λ r k. bound_stops xs r k) (bound_lays xs h.1))
  where
    bound_stops : (xs : List (List ℕ)) (r : List ℕ) → Stopped r → Stopped (bound part_bytes xs ++ r)
    bound_stops [] r k = k
    bound_stops (y ∷ ys) r k = refl

names_stop : (xs : List (List ℕ)) (ys r : List ℕ) → Stopped ((bound part_bytes xs ++ (codes ", " ++ ys)) ++ r)
names_stop [] ys r = refl
names_stop (x ∷ xs) ys r = refl

sign_stops : (o : Infix) (ys r : List ℕ) → Stopped ((token_bytes (sign o) ++ ys) ++ r)
sign_stops Arrow ys r = refl
sign_stops Or ys r = refl
sign_stops And ys r = refl
sign_stops Equal ys r = refl
sign_stops Imply ys r = refl
sign_stops With ys r = refl
sign_stops Cons ys r = refl

arguments_stop : (ss : Shapes) (last : Bool) (r : List ℕ) → Stopped r → Stopped (arguments part_bytes ss last ++ r)
arguments_stop no_shapes last r h = h
arguments_stop (shape s ss) last r h = refl

further_stops : (cs : Shapes) (r : List ℕ) → Stopped (further part_bytes cs ++ r)
further_stops no_shapes r = refl
further_stops (shape c cs) r = refl

placed_lays : (l : ℕ) (last : Bool) (s : Shape) → ((b : Bool) → Lays Stopped (bare part_bytes s b) (bare part_tokens s b)) → Lays Stopped (placed part_bytes l last s (bare part_bytes s)) (placed part_tokens l last s (bare part_tokens s))
placed_lays l last s each = enclosed_lays (is_enclosed l last s) (each (is_enclosed l last s || last))

mutual
  lays : (s : Shape) → IsPlain s → (last : Bool) → Lays Stopped (bare part_bytes s last) (bare part_tokens s last)
  lays (word x) p last = by_name x p
  lays (truth x) p last = named x (grammar.truth x 0) p.0 p.1
  lays empty p last = named (codes "nil") (grammar.word (codes "nil") 0) (a_word 110 (codes "il") refl refl) refl
  lays (applied f ss) p last = behind (by_name f p.0) (λ r h. arguments_stop ss last r h) (all_lay ss p.1 last)
  lays (abstraction x s) p last = behind (by_name x p.0) (λ r h. refl) (behind slashed (λ r h. tt) (lays s p.1 true))
  lays (join o s u) p last = behind (placed_lays (left o) false s (lays s p.0)) (λ r h. sign_stops o (placed part_bytes (right o) last u (bare part_bytes u)) r) (behind (signed o) (λ r h. tt) (placed_lays (right o) last u (lays u p.1)))
  lays (bind q xs s) p last = behind (quantifies q) (λ r h. names_stop xs (bare part_bytes s true) r) (behind (bound_lays xs p.0) (λ r h. refl) (behind goes_on_behind_comma (λ r h. tt) (lays s p.1 true)))
  lays (pi x s) p last = behind begins_pi (λ r h. tt) (enclosed_lays (if last then false else true) (behind (by_name x p.0) (λ r h. refl) (behind slashed (λ r h. tt) (lays s p.1 true))))
  lays (judge cs g) p last = behind opens_brace (λ r h. tt) (behind (context_lays cs p.0) (λ r h. tt) (behind (lays g p.1 true) (λ r h. refl) (anywhere closes_brace)))
  lays (focus cs f g) p last =
      behind opens_brace (λ r h. tt) (behind (items_lay cs p.0) (λ r h. tt) (behind opens_bracket (λ r h. tt) (behind (lays f p.1 true) (λ r h. refl) (behind closes_bracket (λ r h. tt)
      (behind turns (λ r h. tt) (behind (lays g p.2 true) (λ r h. refl) (anywhere closes_brace)))))))
  lays (marked m s) p last = absurd p
  lays broken p last = absurd p

  all_lay : (ss : Shapes) → ArePlain ss → (last : Bool) → Lays Stopped (arguments part_bytes ss last) (arguments part_tokens ss last)
  all_lay no_shapes p last = nothing
  all_lay (shape s ss) p last = behind spaced (λ r h. tt) (behind (placed_lays 9 (is_none ss && last) s (lays s p.0)) (λ r h. arguments_stop ss last r h) (all_lay ss p.1 last))

  context_lays : (cs : Shapes) → ArePlain cs → Lays Any (context part_bytes cs) (context part_tokens cs)
  context_lays no_shapes p = nothing
  context_lays (shape c cs) p = behind (placed_lays 1 false c (lays c p.0)) (λ r h. further_stops cs r) (further_lays cs p.1)

  further_lays : (cs : Shapes) → ArePlain cs → Lays Any (further part_bytes cs) (further part_tokens cs)
  further_lays no_shapes p = turns
  further_lays (shape c cs) p = behind goes_on_behind_comma (λ r h. tt) (behind (placed_lays 1 false c (lays c p.0)) (λ r h. further_stops cs r) (further_lays cs p.1))

  items_lay : (cs : Shapes) → ArePlain cs → Lays Any (items part_bytes cs) (items part_tokens cs)
  items_lay no_shapes p = nothing
  items_lay (shape c cs) p = behind (placed_lays 1 false c (lays c p.0)) (λ r h. refl) (behind goes_on_behind_comma (λ r h. tt) (items_lay cs p.1))

pub splits : (s : Shape) → IsPlain s → HasTokens (bytes s) (tokens s)
splits s p =
    let l = subst (λ (w : List Token). Lexes (bytes s) w) (append-nil (tokens s)) (subst (λ (w : List ℕ). Lexes w (tokens s ++ [])) (append-nil (bytes s)) ((lays s p true).run [] [] refl none)) in
    let k = there (bytes s) [] 0 refl refl l in
    record { tokens = k.tokens; reads = k.reads; same = k.same }
