-- A text has one list of tokens or one fault.
use Rattle.std.proofs.Common.{◌≡◌, ◌==◌, ◌&&◌, ◌||◌, ◌+◌, ℕ, Bool, true, false, not, List, [], ◌∷◌, ◌++◌, length, take, drop, refl, sym, ap, ◌∙◌, subst, arith, inl, inr}
use Rattle.std.specs.List.{list_all}
use Rattle.std.proofs.lemmas.List.{append_cancel_right, take_at, drop_at}
use Rattle.std.proofs.lemmas.Bool.{or_cases, eqb-true}
use Rattle.ab_lex.specs.declared.token.TokenKind.{TokenKind}
use Rattle.ab_lex.specs.declared.token.TokenKind.TheVariants.{Text, Sign}
use Rattle.ab_lex.specs.declared.token.Token.{Token}
use Rattle.ab_lex.specs.declared.token.LexFault.{LexFault}
use Rattle.ab_lex.specs.Units.{newline, is_blank, percent, quote, slash, Opens, OpensNothing, StringEnds, GapAt, blank, line_comment, block_comment}
use Rattle.ab_lex.specs.Tokens.{signs, IsToken, TokenAt, token_at, TokensFrom, no_more, gap, token, FaultAt, bad_byte, open_string, open_comment, FaultFrom, here, gap_before, token_before}
use Rattle.ab_lex.proofs.FirstByte.{contains_passes, kind_of, first_kind, some_bytes}
use Rattle.ab_lex.proofs.Past.{line_unique, block_unique}
use Rattle.ab_lex.proofs.Pieces.{string_on}

-- what blanks and comments begin with, no token begins with
blank_kind : (b : ℕ) → is_blank b ≡ true → kind_of b ≡ Sign
blank_kind b h =
    elim (or_cases (b == 32) ((b == 9) || ((b == 13) || (b == newline))) h) [
      | inl e ↦ rw (eqb-true b 32 e)
      | inr h ↦ elim (or_cases (b == 9) ((b == 13) || (b == newline)) h) [
        | inl e ↦ rw (eqb-true b 9 e)
        | inr h ↦ elim (or_cases (b == 13) (b == newline) h) [
          | inl e ↦ rw (eqb-true b 13 e)
          | inr e ↦ rw (eqb-true b newline e)
        ]
      ]
    ]

abbrev begins_dark : List ℕ → Bool
begins_dark [] = false
begins_dark (b ∷ s) = not (is_blank b) && not (b == percent)

all_dark : list_all begins_dark signs ≡ true
all_dark = refl

-- a sign begins with no blank and no `%`
dark : (b : ℕ) (d q : List ℕ) → IsToken Sign (b ∷ d) q → begins_dark (b ∷ d) ≡ true
dark b d q h = contains_passes begins_dark signs (b ∷ d) all_dark h.0

blank_no_token : (b : ℕ) (k : TokenKind) (d q : List ℕ) → is_blank b ≡ true → IsToken k (b ∷ d) q → ⊥
blank_no_token b k d q h t =
    let e : k ≡ Sign = sym (first_kind k b d q t) ∙ blank_kind b h in
    let f = dark b d q (subst (λ j. IsToken j (b ∷ d) q) e t) in
    let g : false ≡ true = rw h at f in
    cc

percent_no_token : (b : ℕ) (k : TokenKind) (d q : List ℕ) → b ≡ percent → IsToken k (b ∷ d) q → ⊥
percent_no_token b k d q p t =
    let s : kind_of b ≡ Sign = rw p in
    let e : k ≡ Sign = sym (first_kind k b d q t) ∙ s in
    let f = dark b d q (subst (λ j. IsToken j (b ∷ d) q) e t) in
    let g : false ≡ true = rw p at f in
    cc

comment_no_token : (b c : ℕ) (s : List ℕ) (k : TokenKind) (d q : List ℕ) → Opens b c → d ++ q ≡ c ∷ s → IsToken k (b ∷ d) q → ⊥
comment_no_token b c s k d q o e t =
    let f : kind_of b ≡ Sign = rw o.0 in
    let g : k ≡ Sign = sym (first_kind k b d q t) ∙ f in
    let h = (subst (λ j. IsToken j (b ∷ d) q) g t).1.0 in
    subst (λ w. OpensNothing b w) e h o

-- a token that stands at b is no empty list
at_first : (b : ℕ) (s : List ℕ) (k : TokenKind) (c q : List ℕ) → ((d : List ℕ) → d ++ q ≡ s → IsToken k (b ∷ d) q → ⊥) → b ∷ s ≡ c ++ q → IsToken k c q → ⊥
at_first b s k [] q h e t = some_bytes k q t
at_first b s k (x ∷ d) q h e t =
    let first : x ≡ b = cc in
    let behind : d ++ q ≡ s = cc in
    h d behind (subst (λ y. IsToken k (y ∷ d) q) first t)

pub gap_no_token : {s r : List ℕ} → GapAt s r → (k : TokenKind) (c q : List ℕ) → s ≡ c ++ q → IsToken k c q → ⊥
gap_no_token (blank {b = b} {s = s} h) k c q e t = at_first b s k c q (λ d _ u. blank_no_token b k d q h u) e t
gap_no_token (line_comment {b = b} {s = s} p l) k c q e t = at_first b s k c q (λ d _ u. percent_no_token b k d q p u) e t
gap_no_token (block_comment {b = b} {c = x} {s = s} o l) k c q e t = at_first b (x ∷ s) k c q (λ d f u. comment_no_token b x s k d q o f u) e t

pub gap_some : {r : List ℕ} → GapAt [] r → ⊥
gap_some h = elim h [ ]

-- the empty text is no token with something behind it
nothing_there : (k : TokenKind) (c r : List ℕ) → [] ≡ c ++ r → IsToken k c r → ⊥
nothing_there k [] r e t = some_bytes k r t
nothing_there k (b ∷ c) r e t = cc

-- one gap, or one token, stands at a place
pub gap_unique : {s r q : List ℕ} → GapAt s r → GapAt s q → r ≡ q
gap_unique (blank h) (blank k) = refl
gap_unique (blank h) (line_comment e l) = let f : false ≡ true = rw e at h in cc
gap_unique (blank h) (block_comment o l) = let f : false ≡ true = rw o.0 at h in cc
gap_unique (line_comment e l) (blank h) = let f : false ≡ true = rw e at h in cc
gap_unique (line_comment e l) (line_comment f k) = line_unique l k
gap_unique (line_comment e l) (block_comment o k) = absurd (let f : percent ≡ slash = sym e ∙ o.0 in omega arith)
gap_unique (block_comment o l) (blank h) = let f : false ≡ true = rw o.0 at h in cc
gap_unique (block_comment o l) (line_comment e k) = absurd (let f : percent ≡ slash = sym e ∙ o.0 in omega arith)
gap_unique (block_comment o l) (block_comment p k) = block_unique l k

same_front : (c d r q : List ℕ) → length c ≡ length d → c ++ r ≡ d ++ q → (c ≡ d) × (r ≡ q)
same_front c d r q l e = (
  sym (take_at c r (length c) refl) ∙ (ap (take (length c)) e ∙ take_at d q (length c) (sym l)),
  sym (drop_at c r (length c) refl) ∙ (ap (drop (length c)) e ∙ drop_at d q (length c) (sym l)),
)

one_kind : (k j : TokenKind) (c d r q : List ℕ) → c ≡ d → IsToken k c r → IsToken j d q → k ≡ j
one_kind k j [] d r q e t u = absurd (some_bytes k r t)
one_kind k j (b ∷ c) [] r q e t u = absurd (some_bytes j q u)
one_kind k j (b ∷ c) (x ∷ d) r q e t u =
    let f : b ≡ x = cc in
    sym (first_kind k b c r t) ∙ (ap kind_of f ∙ first_kind j x d q u)

pub record SameToken (k j : TokenKind) (c d r q : List ℕ) : Type 0 where
  pub kind : k ≡ j
  pub bytes : c ≡ d
  pub behind : r ≡ q

token_unique : {k j : TokenKind} {c d r q : List ℕ} → TokenAt k c r → TokenAt j d q → c ++ r ≡ d ++ q → SameToken k j c d r q
token_unique {k} {j} {c} {d} {r} {q} t u e =
    let a = t.longest j d q (sym e) u.form in
    let b = u.longest k c r e t.form in
    let l : length c ≡ length d = omega arith in
    let s = same_front c d r q l e in
    record { kind = one_kind k j c d r q s.0 t.form u.form; bytes = s.0; behind = s.1 }

pub tokens_unique : {place : ℕ} {s : List ℕ} {ts us : List Token} → TokensFrom place s ts → TokensFrom place s us → ts ≡ us
tokens_unique no_more no_more = refl
tokens_unique no_more (gap c e g h) = absurd (gap_some g)
tokens_unique no_more (token {kind = k} {c = c} {r = r} e t h) = absurd (nothing_there k c r e t.form)
tokens_unique (gap c e g h) no_more = absurd (gap_some g)
tokens_unique {place} (gap {r = r} {ts = ts} c e g h) (gap {r = q} {ts = us} d f k l) =
    let a : r ≡ q = gap_unique g k in
    let b : c ≡ d = append_cancel_right c d r (sym e ∙ (f ∙ ap (λ w. d ++ w) (sym a))) in
    tokens_unique h (subst (λ w. TokensFrom (place + length w) r us) (sym b) (subst (λ w. TokensFrom (place + length d) w us) (sym a) l))
tokens_unique (gap c e g h) (token {kind = k} {c = d} {r = q} f t l) = absurd (gap_no_token g k d q f t.form)
tokens_unique (token {kind = k} {c = c} {r = r} e t h) no_more = absurd (nothing_there k c r e t.form)
tokens_unique (token {kind = k} {c = c} {r = r} e t h) (gap d f g l) = absurd (gap_no_token g k c r e t.form)
tokens_unique {place} (token {kind = k} {c = c} {r = r} {ts = ts} e t h) (token {kind = j} {c = d} {r = q} {ts = us} f u l) =
    let a = token_unique t u (sym e ∙ f) in
    let b : ts ≡ us = tokens_unique h (subst (λ w. TokensFrom (place + length w) r us) (sym a.bytes) (subst (λ w. TokensFrom (place + length d) w us) (sym a.behind) l)) in
    ap (λ j. token_at j place (length c) ∷ ts) a.kind ∙ (ap (λ w. token_at j place (length w) ∷ ts) a.bytes ∙ ap (λ ws. token_at j place (length d) ∷ ws) b)

-- where a fault stands, no gap and no token does
pub stuck_no_gap : {place : ℕ} {s r : List ℕ} {f : LexFault} → FaultAt place s f → GapAt s r → ⊥
stuck_no_gap (bad_byte n p q o h) (blank e) = let f : true ≡ false = sym e ∙ n in cc
stuck_no_gap (bad_byte n p q o h) (line_comment e l) = p e
stuck_no_gap (bad_byte n p q o h) (block_comment e l) = o e
stuck_no_gap (open_string e h) (blank f) = let g : false ≡ true = rw e at f in cc
stuck_no_gap (open_string e h) (line_comment f l) = let g : quote ≡ percent = sym e ∙ f in absurd (omega arith)
stuck_no_gap (open_string e h) (block_comment o l) = let g : quote ≡ slash = sym e ∙ o.0 in absurd (omega arith)
stuck_no_gap (open_comment o h) (blank f) = let g : false ≡ true = rw o.0 at f in cc
stuck_no_gap (open_comment o h) (line_comment f l) = let g : slash ≡ percent = sym o.0 ∙ f in absurd (omega arith)
stuck_no_gap (open_comment {s = s} o h) (block_comment {r = r} p l) = h r l

string_no_token : (b : ℕ) (s : List ℕ) (k : TokenKind) (d q : List ℕ) → b ≡ quote → ((r : List ℕ) → ¬ StringEnds s r) → d ++ q ≡ s → IsToken k (b ∷ d) q → ⊥
string_no_token b s k d q e h f t =
    let g : kind_of b ≡ Text = rw e in
    let i : k ≡ Text = sym (first_kind k b d q t) ∙ g in
    let u = subst (λ j. IsToken j (b ∷ d) q) i t in
    h q (subst (λ w. StringEnds w q) f (string_on q u.1))

stuck_no_token : {place : ℕ} {s : List ℕ} {f : LexFault} → FaultAt place s f → (k : TokenKind) (c q : List ℕ) → s ≡ c ++ q → IsToken k c q → ⊥
stuck_no_token (bad_byte n p m o h) k c q e t = h k c q e t
stuck_no_token (open_string {b = b} {s = s} e h) k c q f t = at_first b s k c q (λ d g u. string_no_token b s k d q e h g u) f t
stuck_no_token (open_comment {b = b} {c = x} {s = s} o h) k c q f t = at_first b (x ∷ s) k c q (λ d g u. comment_no_token b x s k d q o g u) f t

stuck_some : {place : ℕ} {f : LexFault} → FaultAt place [] f → ⊥
stuck_some h = elim h [ ]

stuck_unique : {place : ℕ} {s : List ℕ} {f g : LexFault} → FaultAt place s f → FaultAt place s g → f ≡ g
stuck_unique (bad_byte n p q o h) (bad_byte _ _ _ _ _) = refl
stuck_unique (bad_byte n p q o h) (open_string e _) = absurd (q e)
stuck_unique (bad_byte n p q o h) (open_comment e _) = absurd (o e)
stuck_unique (open_string e _) (bad_byte n p q o h) = absurd (q e)
stuck_unique (open_string e _) (open_string _ _) = refl
stuck_unique (open_string e _) (open_comment o _) = let g : quote ≡ slash = sym e ∙ o.0 in absurd (omega arith)
stuck_unique (open_comment e _) (bad_byte n p q o h) = absurd (o e)
stuck_unique (open_comment o _) (open_string e _) = let g : quote ≡ slash = sym e ∙ o.0 in absurd (omega arith)
stuck_unique (open_comment _ _) (open_comment _ _) = refl

-- no text has tokens and a fault
pub fault_excludes : {place : ℕ} {s : List ℕ} {f : LexFault} {ts : List Token} → FaultFrom place s f → TokensFrom place s ts → ⊥
fault_excludes (here x) no_more = stuck_some x
fault_excludes (here x) (gap c e g h) = stuck_no_gap x g
fault_excludes (here x) (token {kind = k} {c = c} {r = r} e t h) = stuck_no_token x k c r e t.form
fault_excludes (gap_before c e g x) no_more = gap_some g
fault_excludes {place} (gap_before {r = r} c e g x) (gap {r = q} {ts = us} d f k l) =
    let a : r ≡ q = gap_unique g k in
    let b : c ≡ d = append_cancel_right c d r (sym e ∙ (f ∙ ap (λ w. d ++ w) (sym a))) in
    fault_excludes x (subst (λ w. TokensFrom (place + length w) r us) (sym b) (subst (λ w. TokensFrom (place + length d) w us) (sym a) l))
fault_excludes (gap_before c e g x) (token {kind = k} {c = d} {r = q} f t l) = gap_no_token g k d q f t.form
fault_excludes (token_before {kind = k} {c = c} {r = r} e t x) no_more = nothing_there k c r e t.form
fault_excludes (token_before {kind = k} {c = c} {r = r} e t x) (gap d f g l) = gap_no_token g k c r e t.form
fault_excludes {place} (token_before {r = r} e t x) (token {c = d} {r = q} {ts = us} f u l) =
    let a = token_unique t u (sym e ∙ f) in
    fault_excludes x (subst (λ w. TokensFrom (place + length w) r us) (sym a.bytes) (subst (λ w. TokensFrom (place + length d) w us) (sym a.behind) l))

pub fault_unique : {place : ℕ} {s : List ℕ} {f g : LexFault} → FaultFrom place s f → FaultFrom place s g → f ≡ g
fault_unique (here x) (here y) = stuck_unique x y
fault_unique (here x) (gap_before c e g y) = absurd (stuck_no_gap x g)
fault_unique (here x) (token_before {kind = k} {c = c} {r = r} e t y) = absurd (stuck_no_token x k c r e t.form)
fault_unique (gap_before c e g x) (here y) = absurd (stuck_no_gap y g)
fault_unique {place} (gap_before {r = r} c e g x) (gap_before {r = q} {fault = o} d f k y) =
    let a : r ≡ q = gap_unique g k in
    let b : c ≡ d = append_cancel_right c d r (sym e ∙ (f ∙ ap (λ w. d ++ w) (sym a))) in
    fault_unique x (subst (λ w. FaultFrom (place + length w) r o) (sym b) (subst (λ w. FaultFrom (place + length d) w o) (sym a) y))
fault_unique (gap_before c e g x) (token_before {kind = k} {c = d} {r = q} f t y) = absurd (gap_no_token g k d q f t.form)
fault_unique (token_before {kind = k} {c = c} {r = r} e t x) (here y) = absurd (stuck_no_token y k c r e t.form)
fault_unique (token_before {kind = k} {c = c} {r = r} e t x) (gap_before d f g y) = absurd (gap_no_token g k c r e t.form)
fault_unique {place} (token_before {r = r} e t x) (token_before {c = d} {r = q} {fault = o} f u y) =
    let a = token_unique t u (sym e ∙ f) in
    fault_unique x (subst (λ w. FaultFrom (place + length w) r o) (sym a.bytes) (subst (λ w. FaultFrom (place + length d) w o) (sym a.behind) y))
