-- The bytes that stand for a scan bring a scan to it, and end no command.
use Rattle.std.proofs.Common.{◌≡◌, ◌==◌, ◌&&◌, ℕ, zero, suc, Bool, true, false, cond, List, [], ◌∷◌, ◌++◌, None, refl, ap, ◌∙◌, inl, inr}
use Rattle.std.proofs.lemmas.Bool.{ne_eqb, eqb-true, cases_eq, and_parts}
use Rattle.ab_lex.specs.declared.scanner.Mode.{Mode}
use Rattle.ab_lex.specs.declared.scanner.Mode.TheVariants.{Plain, Slash, Line, Quoted, Block, BlockSlash, BlockStar}
use Rattle.ab_lex.specs.declared.scanner.Scan.{Scan}
use Rattle.ab_lex.specs.Units.{newline, quote, percent, star, slash}
use Rattle.ab_lex.specs.Scanner.{from_block, closed, step, behind, keeps_blank, fresh, after_byte, run, blank_from}
use Rattle.ab_lex.specs.SplitterFields.{open_comments, bytes_to, letter_unless, bytes_before, is_quoted, IsReached}
use Rattle.ab_lex.proofs.Items.{behind_on, run_append}
use Rattle.ab_lex.proofs.Blanks.{blank_on}

abbrev scan_of : Mode → Bool → Scan
scan_of m b = record { mode = m; blank = b }

run_comments : (b : Bool) (d : ℕ) → run (scan_of Plain b) (open_comments d) ≡ scan_of (Block d) b
run_comments true zero = refl
run_comments false zero = refl
run_comments true (suc d) = run_append (scan_of Plain true) (open_comments d) (slash ∷ star ∷ []) ∙ ap (λ k. run k (slash ∷ star ∷ [])) (run_comments true d)
run_comments false (suc d) = run_append (scan_of Plain false) (open_comments d) (slash ∷ star ∷ []) ∙ ap (λ k. run k (slash ∷ star ∷ [])) (run_comments false d)

run_to : (b : Bool) (m : Mode) → (b ≡ true → is_quoted m ≡ false) → run (scan_of Plain b) (bytes_to m) ≡ scan_of m b
run_to b Plain i = refl
run_to true Slash i = refl
run_to false Slash i = refl
run_to true Line i = refl
run_to false Line i = refl
run_to true Quoted i = let f : true ≡ false = i refl in cc
run_to false Quoted i = refl
run_to b (Block d) i = run_comments b d
run_to true (BlockSlash d) i = run_append (scan_of Plain true) (open_comments d) (slash ∷ []) ∙ ap (λ k. run k (slash ∷ [])) (run_comments true d)
run_to false (BlockSlash d) i = run_append (scan_of Plain false) (open_comments d) (slash ∷ []) ∙ ap (λ k. run k (slash ∷ [])) (run_comments false d)
run_to true (BlockStar d) i = run_append (scan_of Plain true) (open_comments d) (star ∷ []) ∙ ap (λ k. run k (star ∷ [])) (run_comments true d)
run_to false (BlockStar d) i = run_append (scan_of Plain false) (open_comments d) (star ∷ []) ∙ ap (λ k. run k (star ∷ [])) (run_comments false d)

run_before : (b : Bool) (m : Mode) → (b ≡ true → is_quoted m ≡ false) → run fresh (letter_unless b ++ bytes_to m) ≡ scan_of m b
run_before true m i = run_to true m i
run_before false m i = run_to false m i

comments_end_none : (d : ℕ) → behind Plain (open_comments d) ≡ None
comments_end_none zero = refl
comments_end_none (suc d) = behind_on fresh (open_comments d) (slash ∷ star ∷ []) (comments_end_none d) ∙ ap (λ (k : Scan). behind k.mode (slash ∷ star ∷ [])) (run_comments true d)

none_to : (m : Mode) → behind Plain (bytes_to m) ≡ None
none_to Plain = refl
none_to Slash = refl
none_to Line = refl
none_to Quoted = refl
none_to (Block d) = comments_end_none d
none_to (BlockSlash d) = behind_on fresh (open_comments d) (slash ∷ []) (comments_end_none d) ∙ ap (λ (k : Scan). behind k.mode (slash ∷ [])) (run_comments true d)
none_to (BlockStar d) = behind_on fresh (open_comments d) (star ∷ []) (comments_end_none d) ∙ ap (λ (k : Scan). behind k.mode (star ∷ [])) (run_comments true d)

none_before : (b : Bool) (m : Mode) → behind Plain (letter_unless b ++ bytes_to m) ≡ None
none_before true m = none_to m
none_before false m = none_to m

pub behind_before : (k : Scan) (s : List ℕ) → IsReached k → behind Plain (bytes_before k ++ s) ≡ behind k.mode s
behind_before k s i = behind_on fresh (bytes_before k) s (none_before k.blank k.mode) ∙ ap (λ (j : Scan). behind j.mode s) (run_before k.blank k.mode i)

pub blank_before : (k : Scan) (s : List ℕ) → IsReached k → blank_from fresh (bytes_before k ++ s) ≡ blank_from k s
blank_before k s i = blank_on fresh (bytes_before k) s (none_before k.blank k.mode) ∙ ap (λ j. blank_from j s) (run_before k.blank k.mode i)

-- a scan is in no string where all was blank
either_not : (t : Bool) (m n : Mode) → is_quoted m ≡ false → is_quoted n ≡ false → is_quoted (cond t m n) ≡ false
either_not true m n e f = e
either_not false m n e f = f

block_not : (d b : ℕ) → is_quoted (from_block d b) ≡ false
block_not d b = either_not (b == slash) (BlockSlash d) (cond (b == star) (BlockStar d) (Block d)) refl (either_not (b == star) (BlockStar d) (Block d) refl refl)

closed_not : (d : ℕ) → is_quoted (closed d) ≡ false
closed_not zero = refl
closed_not (suc d) = refl

step_not : (m : Mode) (b : ℕ) → is_quoted m ≡ false → keeps_blank m b ≡ true → is_quoted (step m b) ≡ false
step_not Plain b i k =
    elim (cases_eq b 34) [
      | inl e ↦ let f : false ≡ true = rw e at k in cc
      | inr n ↦ either_not (b == percent) Line (cond (b == quote) Quoted (cond (b == slash) Slash Plain)) refl (rw (ne_eqb b 34 n) (either_not (b == slash) Slash Plain refl refl))
    ]
step_not Slash b i k = let e = eqb-true b 42 k in rw e refl
step_not Line b i k = either_not (b == newline) Plain Line refl refl
step_not Quoted b i k = cc
step_not (Block d) b i k = block_not d b
step_not (BlockSlash d) b i k = either_not (b == star) (Block (suc d)) (from_block d b) refl (block_not d b)
step_not (BlockStar d) b i k = either_not (b == slash) (closed d) (from_block d b) (closed_not d) (block_not d b)

reached_byte : (m : Mode) (blank : Bool) (b : ℕ) → (blank ≡ true → is_quoted m ≡ false) → (blank && keeps_blank m b) ≡ true → is_quoted (step m b) ≡ false
reached_byte m blank b i e = let p = and_parts blank (keeps_blank m b) e in step_not m b (i p.0) p.1

pub reached_run : (k : Scan) (s : List ℕ) → IsReached k → IsReached (run k s)
reached_run k [] i = i
reached_run k (b ∷ s) i = reached_run (after_byte k b) s (reached_byte k.mode k.blank b i)

pub reached_fresh : (s : List ℕ) → IsReached (run fresh s)
reached_fresh s = reached_run fresh s (λ e. refl)
