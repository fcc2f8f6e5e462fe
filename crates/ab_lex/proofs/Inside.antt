-- What a scanner's mode has still ahead of it, where P says what must stand behind a string or comment.
use Rattle.std.proofs.Common.{◌≡◌, ◌≢◌, ℕ, zero, suc, cond, List, [], ◌∷◌, refl, subst, arith, inl, inr}
use Rattle.std.proofs.lemmas.Bool.{ne_eqb, cases_eq}
use Rattle.ab_lex.specs.declared.scanner.Mode.{Mode}
use Rattle.ab_lex.specs.declared.scanner.Mode.TheVariants.{Plain, Slash, Line, Quoted, Block, BlockSlash, BlockStar}
use Rattle.ab_lex.specs.Units.{slash, star, Opens, Closes, IsNoSign, LineEnds, at_newline, in_line, StringEnds, at_quote, in_string, BlocksEnd, outside, opens, closes, in_block}
use Rattle.ab_lex.specs.Scanner.{from_block, closed, step}

-- half a sign is put back in front
abbrev pub Ahead : (List ℕ → Type 0) → Mode → List ℕ → Type 0
Ahead P Plain s = P s
Ahead P Slash s = P (slash ∷ s)
Ahead P Line s = (m : List ℕ) × LineEnds s m × P m
Ahead P Quoted s = (m : List ℕ) × StringEnds s m × P m
Ahead P (Block d) s = (m : List ℕ) × BlocksEnd (suc d) s m × P m
Ahead P (BlockSlash d) s = (m : List ℕ) × BlocksEnd (suc d) (slash ∷ s) m × P m
Ahead P (BlockStar d) s = (m : List ℕ) × BlocksEnd (suc d) (star ∷ s) m × P m

no_sign_at : (b : ℕ) (s : List ℕ) → b ≢ slash → b ≢ star → IsNoSign b s
no_sign_at b [] n m = tt
no_sign_at b (c ∷ s) n m = (λ o. n o.0, λ o. m o.0)

-- one byte, in each mode inside a string or comment
module _ (P : List ℕ → Type 0) where
  pub line_byte : (b : ℕ) (s : List ℕ) → Ahead P (step Line b) s → Ahead P Line (b ∷ s)
  line_byte b s h =
      elim (cases_eq b 10) [
        | inl p ↦ let g : Ahead P Plain s = rw p at h in (s, at_newline p, g)
        | inr n ↦ let g : Ahead P Line s = rw (ne_eqb b 10 n) at h in (g.0, in_line n g.1, g.2)
      ]

  pub quoted_byte : (b : ℕ) (s : List ℕ) → Ahead P (step Quoted b) s → Ahead P Quoted (b ∷ s)
  quoted_byte b s h =
      elim (cases_eq b 34) [
        | inl p ↦ let g : Ahead P Plain s = rw p at h in (s, at_quote p, g)
        | inr n ↦ let g : Ahead P Quoted s = rw (ne_eqb b 34 n) at h in (g.0, in_string n g.1, g.2)
      ]

  pub block_byte : (d b : ℕ) (s : List ℕ) → Ahead P (from_block d b) s → Ahead P (Block d) (b ∷ s)
  block_byte d b s h =
      elim (cases_eq b 47) [
        | inl e ↦ let g : Ahead P (BlockSlash d) s = rw e at h in rw e g
        | inr n47 ↦ elim (cases_eq b 42) [
          | inl e ↦ let g : Ahead P (BlockStar d) s = rw e at h in rw e g
          | inr n42 ↦
              let g : Ahead P (Block d) s = rw (ne_eqb b 47 n47, ne_eqb b 42 n42) at h in
              (g.0, in_block (no_sign_at b s n47 n42) g.1, g.2)
        ]
      ]

  closed_ahead : (d b c : ℕ) (s : List ℕ) → Closes b c → Ahead P (closed d) s → (m : List ℕ) × BlocksEnd (suc d) (b ∷ c ∷ s) m × P m
  closed_ahead zero b c s o h = (s, closes o outside, h)
  closed_ahead (suc d) b c s o h = (h.0, closes o h.1, h.2)

  pub block_slash_byte : (d b : ℕ) (s : List ℕ) → Ahead P (step (BlockSlash d) b) s → Ahead P (BlockSlash d) (b ∷ s)
  block_slash_byte d b s h =
      elim (cases_eq b 42) [
        | inl p ↦ let g : Ahead P (Block (suc d)) s = rw p at h in (g.0, opens (refl, p) g.1, g.2)
        | inr n ↦
            let g : Ahead P (from_block d b) s = subst (λ t. Ahead P (cond t (Block (suc d)) (from_block d b)) s) (ne_eqb b 42 n) h in
            let k = block_byte d b s g in
            (k.0, in_block (λ o. n o.1, λ (o : Closes 47 b). absurd (let z : 47 ≡ 42 = o.0 in omega arith)) k.1, k.2)
      ]

  pub block_star_byte : (d b : ℕ) (s : List ℕ) → Ahead P (step (BlockStar d) b) s → Ahead P (BlockStar d) (b ∷ s)
  block_star_byte d b s h =
      elim (cases_eq b 47) [
        | inl p ↦ let g : Ahead P (closed d) s = rw p at h in closed_ahead d 42 b s (refl, p) g
        | inr n ↦
            let g : Ahead P (from_block d b) s = subst (λ t. Ahead P (cond t (closed d) (from_block d b)) s) (ne_eqb b 47 n) h in
            let k = block_byte d b s g in
            (k.0, in_block ((λ (o : Opens 42 b). absurd (let z : 42 ≡ 47 = o.0 in omega arith)), λ o. n o.1) k.1, k.2)
      ]
