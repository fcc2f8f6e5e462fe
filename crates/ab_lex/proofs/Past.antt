-- The end of a string or comment: what the scanner finds, its units give, and no other.
use Rattle.std.proofs.Common.{◌≡◌, ◌==◌, ℕ, zero, suc, Bool, true, false, cond, List, [], ◌∷◌, Some, None, refl, sym, ◌∙◌, subst, inl, inr}
use Rattle.std.proofs.lemmas.Bool.{ne_eqb, eq-eqb, cases_eq}
use Rattle.ab_lex.specs.declared.scanner.Mode.{Mode}
use Rattle.ab_lex.specs.declared.scanner.Mode.TheVariants.{Plain, Slash, Line, Quoted, Block, BlockSlash, BlockStar}
use Rattle.ab_lex.specs.Units.{newline, quote, slash, star, LineEnds, at_end, at_newline, in_line, StringEnds, BlocksEnd}
use Rattle.ab_lex.specs.Scanner.{from_block, closed, step, past}
use Rattle.ab_lex.proofs.Inside.{Ahead, line_byte, quoted_byte, block_byte, block_slash_byte, block_star_byte}
use Rattle.ab_lex.proofs.Folds.{mode_of, fold_string, fold_blocks}

string_past : {s r : List ℕ} → StringEnds s r → past Quoted s ≡ Some r
string_past l = fold_string past (λ b s. refl) l

blocks_past : {n : ℕ} {s r : List ℕ} → BlocksEnd n s r → past (mode_of n) s ≡ Some r
blocks_past l = fold_blocks past (λ d b s. refl) (λ d b s. refl) (λ d b s. refl) (λ d. (refl, refl)) l

-- any mode but that behind a lone slash, from which a comment is not entered yet
abbrev IsInside : Mode → Type 0
IsInside Slash = ⊥
IsInside m = Unit {0}

one_inside : (t : Bool) (m n : Mode) → IsInside m → IsInside n → IsInside (cond t m n)
one_inside true m n a b = a
one_inside false m n a b = b

block_inside : (d b : ℕ) → IsInside (from_block d b)
block_inside d b = one_inside (b == slash) (BlockSlash d) (cond (b == star) (BlockStar d) (Block d)) tt (one_inside (b == star) (BlockStar d) (Block d) tt tt)

closed_inside : (d : ℕ) → IsInside (closed d)
closed_inside zero = tt
closed_inside (suc d) = tt

past_ahead : (m : Mode) (s r : List ℕ) → IsInside m → past m s ≡ Some r → Ahead (λ q. q ≡ r) m s
past_ahead Plain s r i e = cc
past_ahead Slash s r i e = absurd i
past_ahead Line [] r i e = cc
past_ahead Quoted [] r i e = cc
past_ahead (Block d) [] r i e = cc
past_ahead (BlockSlash d) [] r i e = cc
past_ahead (BlockStar d) [] r i e = cc
past_ahead Line (b ∷ s) r i e = line_byte (λ q. q ≡ r) b s (past_ahead (step Line b) s r (one_inside (b == newline) Plain Line tt tt) e)
past_ahead Quoted (b ∷ s) r i e = quoted_byte (λ q. q ≡ r) b s (past_ahead (step Quoted b) s r (one_inside (b == quote) Plain Quoted tt tt) e)
past_ahead (Block d) (b ∷ s) r i e = block_byte (λ q. q ≡ r) d b s (past_ahead (from_block d b) s r (block_inside d b) e)
past_ahead (BlockSlash d) (b ∷ s) r i e =
    block_slash_byte (λ q. q ≡ r) d b s (past_ahead (step (BlockSlash d) b) s r (one_inside (b == star) (Block (suc d)) (from_block d b) tt (block_inside d b)) e)
past_ahead (BlockStar d) (b ∷ s) r i e =
    block_star_byte (λ q. q ≡ r) d b s (past_ahead (step (BlockStar d) b) s r (one_inside (b == slash) (closed d) (from_block d b) (closed_inside d) (block_inside d b)) e)

-- a line comment
pub line_ends : (s r : List ℕ) → past Line s ≡ Some r → LineEnds s r
line_ends s r e = let h = past_ahead Line s r tt e in subst (λ q. LineEnds s q) h.2 h.1

pub line_runs_out : (s : List ℕ) → past Line s ≡ None → LineEnds s []
line_runs_out [] e = at_end
line_runs_out (b ∷ s) e =
    elim (cases_eq b 10) [
      | inl p ↦ let f : Some s ≡ None = subst (λ t. past (cond t Plain Line) s ≡ None) (eq-eqb b 10 p) e in cc
      | inr n ↦ let f : past Line s ≡ None = subst (λ t. past (cond t Plain Line) s ≡ None) (ne_eqb b 10 n) e in in_line n (line_runs_out s f)
    ]

pub line_unique : {s r q : List ℕ} → LineEnds s r → LineEnds s q → r ≡ q
line_unique at_end at_end = refl
line_unique (at_newline e) (at_newline f) = refl
line_unique (at_newline e) (in_line n l) = absurd (n e)
line_unique (in_line n l) (at_newline e) = absurd (n e)
line_unique (in_line n l) (in_line m k) = line_unique l k

-- a string
pub string_ends : (s r : List ℕ) → past Quoted s ≡ Some r → StringEnds s r
string_ends s r e = let h = past_ahead Quoted s r tt e in subst (λ q. StringEnds s q) h.2 h.1

pub string_open : (s : List ℕ) → past Quoted s ≡ None → (r : List ℕ) → ¬ StringEnds s r
string_open s e r h = let f : None ≡ Some r = sym e ∙ string_past h in cc

pub string_unique : {s r q : List ℕ} → StringEnds s r → StringEnds s q → r ≡ q
string_unique h k = let e = sym (string_past h) ∙ string_past k in cc

-- a block comment
pub block_ends : (s r : List ℕ) → past (Block 0) s ≡ Some r → BlocksEnd 1 s r
block_ends s r e = let h = past_ahead (Block 0) s r tt e in subst (λ q. BlocksEnd 1 s q) h.2 h.1

pub block_open : (s : List ℕ) → past (Block 0) s ≡ None → (r : List ℕ) → ¬ BlocksEnd 1 s r
block_open s e r h = let f : None ≡ Some r = sym e ∙ blocks_past h in cc

pub block_unique : {s r q : List ℕ} → BlocksEnd 1 s r → BlocksEnd 1 s q → r ≡ q
block_unique h k = let e = sym (blocks_past h) ∙ blocks_past k in cc
