-- The command that the scanner finds, the units of the text give.
use Rattle.std.proofs.Common.{◌≡◌, ◌≢◌, ℕ, true, false, List, [], ◌∷◌, Some, refl, subst, arith, inl, inr}
use Rattle.std.proofs.lemmas.Bool.{ne_eqb, eqb-true, cases_eq, cases_Bool}
use Rattle.ab_lex.specs.declared.scanner.Mode.{Mode}
use Rattle.ab_lex.specs.declared.scanner.Mode.TheVariants.{Plain, Slash, Line, Quoted, Block, BlockSlash, BlockStar}
use Rattle.ab_lex.specs.Scanner.{ends, from_plain, step, behind}
use Rattle.ab_lex.specs.Units.{Opens, OpensNothing, line, block, string, single}
use Rattle.ab_lex.specs.Commands.{CommandAt, stop, unit}
use Rattle.ab_lex.proofs.Inside.{Ahead, line_byte, quoted_byte, block_byte, block_slash_byte, block_star_byte}

n46 : ◌≢◌ {A = ℕ} 47 46
n46 p = absurd (omega arith)

n37 : ◌≢◌ {A = ℕ} 47 37
n37 p = absurd (omega arith)

n34 : ◌≢◌ {A = ℕ} 47 34
n34 p = absurd (omega arith)

-- a byte from Plain that ends nothing
plain_byte : (b : ℕ) (s r : List ℕ) → b ≢ 46 → Ahead (λ q. CommandAt q r) (from_plain b) s → CommandAt (b ∷ s) r
plain_byte b s r ne h =
    elim (cases_eq b 37) [
      | inl e ↦ let g : Ahead (λ q. CommandAt q r) Line s = rw e at h in unit ne (line e g.1) g.2
      | inr n37 ↦ elim (cases_eq b 34) [
        | inl e ↦ let g : Ahead (λ q. CommandAt q r) Quoted s = rw e at h in unit ne (string e g.1) g.2
        | inr n34 ↦ elim (cases_eq b 47) [
          | inl e ↦ let g : Ahead (λ q. CommandAt q r) Slash s = rw e at h in rw e g
          | inr n47 ↦
              let g : Ahead (λ q. CommandAt q r) Plain s = rw (ne_eqb b 37 n37, ne_eqb b 34 n34, ne_eqb b 47 n47) at h in
              unit ne (single n37 n34 (opens_nothing b s n47)) g
        ]
      ]
    ]
  where
    opens_nothing : (b : ℕ) (s : List ℕ) → b ≢ 47 → OpensNothing b s
    opens_nothing b [] n = tt
    opens_nothing b (c ∷ s) n = λ o. n o.0

step_ahead : (m : Mode) (b : ℕ) (s r : List ℕ) → ends m b ≡ false → Ahead (λ q. CommandAt q r) (step m b) s → Ahead (λ q. CommandAt q r) m (b ∷ s)
step_ahead Plain b s r e h = let ne : b ≢ 46 = λ p. let f : true ≡ false = rw p at e in cc in plain_byte b s r ne h
step_ahead Slash b s r e h =
    let ne : b ≢ 46 = λ p. let f : true ≡ false = rw p at e in cc in
    elim (cases_eq b 42) [
      | inl p ↦ let g : Ahead (λ q. CommandAt q r) (Block 0) s = rw p at h in unit n46 (block (refl, p) g.1) g.2
      | inr n42 ↦
          let g : Ahead (λ q. CommandAt q r) (from_plain b) s = rw (ne_eqb b 42 n42) at h in
          unit n46 (single n37 n34 (λ o. n42 o.1)) (plain_byte b s r ne g)
    ]
step_ahead Line b s r e h = line_byte (λ q. CommandAt q r) b s h
step_ahead Quoted b s r e h = quoted_byte (λ q. CommandAt q r) b s h
step_ahead (Block d) b s r e h = block_byte (λ q. CommandAt q r) d b s h
step_ahead (BlockSlash d) b s r e h = block_slash_byte (λ q. CommandAt q r) d b s h
step_ahead (BlockStar d) b s r e h = block_star_byte (λ q. CommandAt q r) d b s h

end_ahead : (m : Mode) (b : ℕ) (s : List ℕ) → ends m b ≡ true → Ahead (λ q. CommandAt q s) m (b ∷ s)
end_ahead Plain b s e = stop (eqb-true b 46 e)
end_ahead Slash b s e =
    let p = eqb-true b 46 e in
    unit n46 (single n37 n34 (λ (o : Opens 47 b). absurd (let z : b ≡ 42 = o.1 in omega (arith, p)))) (stop p)
end_ahead Line b s e = cc
end_ahead Quoted b s e = cc
end_ahead (Block d) b s e = cc
end_ahead (BlockSlash d) b s e = cc
end_ahead (BlockStar d) b s e = cc

behind_ahead : (m : Mode) (s r : List ℕ) → behind m s ≡ Some r → Ahead (λ q. CommandAt q r) m s
behind_ahead m [] r e = cc
behind_ahead m (b ∷ s) r e =
    elim (cases_Bool (ends m b)) [
      | inl t ↦ let f : Some s ≡ Some r = rw t at e in let g : s ≡ r = cc in subst (λ p. Ahead (λ q. CommandAt q p) m (b ∷ s)) g (end_ahead m b s t)
      | inr t ↦ let f : behind (step m b) s ≡ Some r = rw t at e in step_ahead m b s r t (behind_ahead (step m b) s r f)
    ]

pub exists : (s r : List ℕ) → behind Plain s ≡ Some r → CommandAt s r
exists s r e = behind_ahead Plain s r e
