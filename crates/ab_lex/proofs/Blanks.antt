-- The scanner's test of a blank rest is what the units of the text give.
use Rattle.std.proofs.Common.{◌≡◌, ◌≢◌, ◌==◌, ◌&&◌, ◌||◌, ◌⊎◌, ℕ, Bool, true, false, List, [], ◌∷◌, ◌++◌, Option, Some, None, refl, sym, ap, ◌∙◌, inl, inr}
use Rattle.std.proofs.lemmas.Bool.{ne_eqb, eqb-true, cases_eq, cases_Bool, and_parts, or_cases}
use Rattle.ab_lex.specs.declared.scanner.Mode.{Mode}
use Rattle.ab_lex.specs.declared.scanner.Mode.TheVariants.{Plain, Slash, Line, Quoted, Block, BlockSlash, BlockStar}
use Rattle.ab_lex.specs.declared.scanner.Scan.{Scan}
use Rattle.ab_lex.specs.Scanner.{from_plain, step, ends, behind, keeps_blank, is_whole, fresh, after_byte, run, blank_from}
use Rattle.ab_lex.specs.Units.{is_blank, LineEnds, at_end, BlocksEnd, GapAt, blank, line_comment, block_comment, IsBlank, empty, gap}
use Rattle.ab_lex.specs.Commands.{CommandAt, Splits, no_more, one_more, HasBlankRest}
use Rattle.ab_lex.proofs.Found.{commands, rest}
use Rattle.ab_lex.proofs.Inside.{Ahead, line_byte, quoted_byte, block_byte, block_slash_byte, block_star_byte}
use Rattle.ab_lex.proofs.Folds.{fold_line, fold_blocks, mode_of}
use Rattle.ab_lex.proofs.Unique.{found}
use Rattle.ab_lex.proofs.Exists.{exists}
use Rattle.ab_lex.proofs.Cuts.{splits}
use Rattle.ab_lex.proofs.Items.{behind_append}

-- the bytes are blanks and whole comments, from this mode on
abbrev all_blank : Mode → List ℕ → Bool
all_blank m [] = is_whole m
all_blank m (b ∷ s) = keeps_blank m b && all_blank (step m b) s

blank_line : {s r : List ℕ} → LineEnds s r → all_blank Line s ≡ all_blank Plain r
blank_line l = fold_line all_blank refl (λ b s. refl) l

blank_blocks : {n : ℕ} {s r : List ℕ} → BlocksEnd n s r → all_blank (mode_of n) s ≡ all_blank Plain r
blank_blocks l = fold_blocks all_blank (λ d b s. refl) (λ d b s. refl) (λ d b s. refl) (λ d. (refl, refl)) l

blank_byte : (b : ℕ) (s : List ℕ) → is_blank b ≡ true → all_blank Plain (b ∷ s) ≡ all_blank Plain s
blank_byte b s e =
    let n37 : b ≢ 37 = λ p. let f : false ≡ true = rw p at e in cc in
    let n34 : b ≢ 34 = λ p. let f : false ≡ true = rw p at e in cc in
    let n47 : b ≢ 47 = λ p. let f : false ≡ true = rw p at e in cc in
    ap (λ t. (t || ((b == 37) || (b == 47))) && all_blank (from_plain b) s) e
    ∙ rw (ne_eqb b 37 n37, ne_eqb b 34 n34, ne_eqb b 47 n47)

blank_gap : {s r : List ℕ} → GapAt s r → all_blank Plain s ≡ all_blank Plain r
blank_gap (blank {b = b} {s = s} e) = blank_byte b s e
blank_gap (line_comment e l) = rw e (blank_line l)
blank_gap (block_comment o l) = rw (o.0, o.1) (blank_blocks l)

blank_holds : {s : List ℕ} → IsBlank s → all_blank Plain s ≡ true
blank_holds empty = refl
blank_holds (gap g h) = blank_gap g ∙ blank_holds h

plain_ahead : (b : ℕ) (s : List ℕ) → keeps_blank Plain b ≡ true → Ahead IsBlank (from_plain b) s → IsBlank (b ∷ s)
plain_ahead b s k h =
    elim (cases_eq b 37) [
      | inl e ↦ let g : Ahead IsBlank Line s = rw e at h in gap (line_comment e g.1) g.2
      | inr n37 ↦ elim (cases_eq b 34) [
        | inl e ↦ let f : false ≡ true = rw e at k in cc
        | inr n34 ↦ elim (cases_eq b 47) [
          | inl e ↦ let g : Ahead IsBlank Slash s = rw e at h in rw e g
          | inr n47 ↦
              let g : Ahead IsBlank Plain s = rw (ne_eqb b 37 n37, ne_eqb b 34 n34, ne_eqb b 47 n47) at h in
              let f : (is_blank b || (false || false)) ≡ true = rw (ne_eqb b 37 n37, ne_eqb b 47 n47) at k in
              gap (blank (elim (or_cases (is_blank b) false f) [ inl x ↦ x | inr x ↦ cc ])) g
        ]
      ]
    ]

byte_ahead : (m : Mode) (b : ℕ) (s : List ℕ) → keeps_blank m b ≡ true → Ahead IsBlank (step m b) s → Ahead IsBlank m (b ∷ s)
byte_ahead Plain b s k h = plain_ahead b s k h
byte_ahead Slash b s k h =
    let e = eqb-true b 42 k in
    let g : Ahead IsBlank (Block 0) s = rw e at h in
    gap (block_comment (refl, e) g.1) g.2
byte_ahead Line b s k h = line_byte IsBlank b s h
byte_ahead Quoted b s k h = quoted_byte IsBlank b s h
byte_ahead (Block d) b s k h = block_byte IsBlank d b s h
byte_ahead (BlockSlash d) b s k h = block_slash_byte IsBlank d b s h
byte_ahead (BlockStar d) b s k h = block_star_byte IsBlank d b s h

blank_ahead : (m : Mode) (s : List ℕ) → all_blank m s ≡ true → Ahead IsBlank m s
blank_ahead Plain [] e = empty
blank_ahead Slash [] e = cc
blank_ahead Line [] e = ([], at_end, empty)
blank_ahead Quoted [] e = cc
blank_ahead (Block d) [] e = cc
blank_ahead (BlockSlash d) [] e = cc
blank_ahead (BlockStar d) [] e = cc
blank_ahead m (b ∷ s) e =
    let p = and_parts (keeps_blank m b) (all_blank (step m b) s) e in
    byte_ahead m b s p.0 (blank_ahead (step m b) s p.1)

and_assoc : (a b c : Bool) → ((a && b) && c) ≡ (a && (b && c))
and_assoc true b c = refl
and_assoc false b c = refl

-- where no command ends in s, what comes after goes on from there
pub blank_on : (k : Scan) (s more : List ℕ) → behind k.mode s ≡ None → blank_from k (s ++ more) ≡ blank_from (run k s) more
blank_on k [] more e = refl
blank_on k (b ∷ s) more e =
    elim (cases_Bool (ends k.mode b)) [
      | inl t ↦ let f : Some s ≡ None = rw t at e in cc
      | inr t ↦ let f : behind (step k.mode b) s ≡ None = rw t at e in rw t (blank_on (after_byte k b) s more f)
    ]

-- where one does, what follows its end decides
blank_behind : (k : Scan) (s r : List ℕ) → behind k.mode s ≡ Some r → blank_from k s ≡ blank_from fresh r
blank_behind k [] r e = cc
blank_behind k (b ∷ s) r e =
    elim (cases_Bool (ends k.mode b)) [
      | inl t ↦ let f : Some s ≡ Some r = rw t at e in let g : s ≡ r = cc in rw (t, g)
      | inr t ↦ let f : behind (step k.mode b) s ≡ Some r = rw t at e in rw t (blank_behind (after_byte k b) s r f)
    ]

pub blank_ends : (k : Scan) (s r more : List ℕ) → behind k.mode s ≡ Some r → blank_from k (s ++ more) ≡ blank_from fresh (r ++ more)
blank_ends k s r more e = blank_behind k (s ++ more) (r ++ more) (behind_append k.mode s r more e)

blank_of_rest : (k : Scan) (s : List ℕ) → behind k.mode s ≡ None → blank_from k s ≡ (k.blank && all_blank k.mode s)
blank_of_rest k [] e = refl
blank_of_rest k (b ∷ s) e =
    elim (cases_Bool (ends k.mode b)) [
      | inl t ↦ let f : Some s ≡ None = rw t at e in cc
      | inr t ↦
          let f : behind (step k.mode b) s ≡ None = rw t at e in
          rw t (blank_of_rest (after_byte k b) s f ∙ and_assoc k.blank (keeps_blank k.mode b) (all_blank (step k.mode b) s))
    ]

blank_split : {text left : List ℕ} {cs : List (List ℕ)} → Splits text cs left → blank_from fresh text ≡ all_blank Plain left
blank_split (no_more {s = s} n) = none s (behind Plain s) refl n
  where
    none : (s : List ℕ) (o : Option (List ℕ)) → behind Plain s ≡ o → ((r : List ℕ) → ¬ CommandAt s r) → blank_from fresh s ≡ all_blank Plain s
    none s None e n = blank_of_rest fresh s e
    none s (Some r) e n = absurd (n r (exists s r e))
blank_split (one_more {s = s} {r = r} c e h) = blank_behind fresh s r (found c) ∙ blank_split h

pub has_blank : (text : List ℕ) → blank_from fresh text ≡ true → HasBlankRest text
has_blank text e =
    let h = splits text in
    record { whole = commands text; rest = rest text; splits = h; blank = blank_ahead Plain (rest text) (sym (blank_split h) ∙ e) }

pub blank_has : (text : List ℕ) → HasBlankRest text → blank_from fresh text ≡ true
blank_has text h = blank_split h.splits ∙ blank_holds h.blank

pub blank_or_not : (text : List ℕ) → HasBlankRest text ⊎ ¬ HasBlankRest text
blank_or_not text =
    elim (cases_Bool (blank_from fresh text)) [
      | inl e ↦ inl (has_blank text e)
      | inr e ↦ inr (λ h. let f : true ≡ false = sym (blank_has text h) ∙ e in cc)
    ]
