-- What a fold over the scanner's modes leaves of a comment or a string, where inside it only goes on.
use Rattle.std.proofs.Common.{◌≡◌, ◌≢◌, ℕ, zero, suc, cond, List, [], ◌∷◌, refl, sym, ap, ◌∙◌, inl, inr}
use Rattle.std.proofs.lemmas.Bool.{ne_eqb, eq-eqb, cases_eq}
use Rattle.ab_lex.specs.declared.scanner.Mode.{Mode}
use Rattle.ab_lex.specs.declared.scanner.Mode.TheVariants.{Plain, Line, Quoted, Block, BlockSlash, BlockStar}
use Rattle.ab_lex.specs.Scanner.{from_block, closed, step}
use Rattle.ab_lex.specs.Units.{IsNoSign, LineEnds, at_end, at_newline, in_line, StringEnds, at_quote, in_string, BlocksEnd, outside, opens, closes, in_block}

-- the mode in n block comments
abbrev pub mode_of : ℕ → Mode
mode_of zero = Plain
mode_of (suc n) = Block n

module _ {X : Type 0} (F : Mode → List ℕ → X) (at_line : F Line [] ≡ F Plain []) (on_line : (b : ℕ) (s : List ℕ) → F Line (b ∷ s) ≡ F (step Line b) s) where
  pub fold_line : {s r : List ℕ} → LineEnds s r → F Line s ≡ F Plain r
  fold_line at_end = at_line
  fold_line (at_newline {b = b} {s = s} e) = on_line b s ∙ ap (λ t. F (cond t Plain Line) s) (eq-eqb b 10 e)
  fold_line (in_line {b = b} {s = s} ne l) = on_line b s ∙ (ap (λ t. F (cond t Plain Line) s) (ne_eqb b 10 ne) ∙ fold_line l)

module _ {X : Type 0} (F : Mode → List ℕ → X) (on_quoted : (b : ℕ) (s : List ℕ) → F Quoted (b ∷ s) ≡ F (step Quoted b) s) where
  pub fold_string : {s r : List ℕ} → StringEnds s r → F Quoted s ≡ F Plain r
  fold_string (at_quote {b = b} {s = s} e) = on_quoted b s ∙ ap (λ t. F (cond t Plain Quoted) s) (eq-eqb b 34 e)
  fold_string (in_string {b = b} {s = s} ne l) = on_quoted b s ∙ (ap (λ t. F (cond t Plain Quoted) s) (ne_eqb b 34 ne) ∙ fold_string l)

module _ {X : Type 0} (F : Mode → List ℕ → X)
    (on_block : (d b : ℕ) (s : List ℕ) → F (Block d) (b ∷ s) ≡ F (step (Block d) b) s)
    (on_slash : (d b : ℕ) (s : List ℕ) → F (BlockSlash d) (b ∷ s) ≡ F (step (BlockSlash d) b) s)
    (on_star : (d b : ℕ) (s : List ℕ) → F (BlockStar d) (b ∷ s) ≡ F (step (BlockStar d) b) s)
    (half : (d : ℕ) → (F (BlockSlash d) [] ≡ F (Block d) []) × (F (BlockStar d) [] ≡ F (Block d) [])) where
  half_slash : (n b : ℕ) (s : List ℕ) → IsNoSign b s → b ≡ 47 → F (BlockSlash n) s ≡ F (Block n) s
  half_slash n b [] h e = (half n).0
  half_slash n b (c ∷ s) h e =
      let ne : c ≢ 42 = λ p. h.0 (e, p) in
      on_slash n c s ∙ (ap (λ t. F (cond t (Block (suc n)) (from_block n c)) s) (ne_eqb c 42 ne) ∙ sym (on_block n c s))

  half_star : (n b : ℕ) (s : List ℕ) → IsNoSign b s → b ≡ 42 → F (BlockStar n) s ≡ F (Block n) s
  half_star n b [] h e = (half n).1
  half_star n b (c ∷ s) h e =
      let ne : c ≢ 47 = λ p. h.1 (e, p) in
      on_star n c s ∙ (ap (λ t. F (cond t (closed n) (from_block n c)) s) (ne_eqb c 47 ne) ∙ sym (on_block n c s))

  fold_byte : (n b : ℕ) (s : List ℕ) → IsNoSign b s → F (Block n) (b ∷ s) ≡ F (Block n) s
  fold_byte n b s h =
      on_block n b s ∙ elim (cases_eq b 47) [
        | inl e ↦ rw e (half_slash n b s h e)
        | inr n47 ↦ elim (cases_eq b 42) [
          | inl e ↦ rw e (half_star n b s h e)
          | inr n42 ↦ rw (ne_eqb b 47 n47, ne_eqb b 42 n42)
        ]
      ]

  pub fold_blocks : {n : ℕ} {s r : List ℕ} → BlocksEnd n s r → F (mode_of n) s ≡ F Plain r
  fold_blocks outside = refl
  fold_blocks (opens {n = n} {b = b} {c = c} {s = s} o l) =
      on_block n b (c ∷ s) ∙ (ap (λ x. F (from_block n x) (c ∷ s)) o.0 ∙ (on_slash n c s ∙ (ap (λ t. F (cond t (Block (suc n)) (from_block n c)) s) (eq-eqb c 42 o.1) ∙ fold_blocks l)))
  fold_blocks (closes {n = zero} {b = b} {c = c} {s = s} o l) =
      on_block 0 b (c ∷ s) ∙ (ap (λ x. F (from_block 0 x) (c ∷ s)) o.0 ∙ (on_star 0 c s ∙ (ap (λ t. F (cond t Plain (from_block 0 c)) s) (eq-eqb c 47 o.1) ∙ fold_blocks l)))
  fold_blocks (closes {n = suc n} {b = b} {c = c} {s = s} o l) =
      on_block (suc n) b (c ∷ s) ∙ (ap (λ x. F (from_block (suc n) x) (c ∷ s)) o.0 ∙ (on_star (suc n) c s ∙ (ap (λ t. F (cond t (Block n) (from_block (suc n) c)) s) (eq-eqb c 47 o.1) ∙ fold_blocks l)))
  fold_blocks (in_block {n = n} {b = b} {s = s} h l) = fold_byte n b s h ∙ fold_blocks l
