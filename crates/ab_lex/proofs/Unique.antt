-- The command that the units of a text give, the scanner finds.
use Rattle.std.proofs.Common.{◌≡◌, ◌≢◌, ℕ, List, [], ◌∷◌, Some, refl, sym, ◌∙◌, inl, inr}
use Rattle.std.proofs.lemmas.Bool.{ne_eqb, cases_eq}
use Rattle.ab_lex.specs.declared.scanner.Mode.TheVariants.{Plain, Slash, Line, Quoted}
use Rattle.ab_lex.specs.Scanner.{behind}
use Rattle.ab_lex.specs.Units.{OpensNothing, LineEnds, StringEnds, BlocksEnd, UnitAt, line, block, string, single}
use Rattle.ab_lex.proofs.Folds.{mode_of, fold_line, fold_string, fold_blocks}
use Rattle.ab_lex.specs.Commands.{CommandAt, stop, unit}

line_behind : {s r : List ℕ} → LineEnds s r → behind Line s ≡ behind Plain r
line_behind l = fold_line behind refl (λ b s. refl) l

string_behind : {s r : List ℕ} → StringEnds s r → behind Quoted s ≡ behind Plain r
string_behind l = fold_string behind (λ b s. refl) l

blocks_behind : {n : ℕ} {s r : List ℕ} → BlocksEnd n s r → behind (mode_of n) s ≡ behind Plain r
blocks_behind l = fold_blocks behind (λ d b s. refl) (λ d b s. refl) (λ d b s. refl) (λ d. (refl, refl)) l

slash_plain : (b : ℕ) (s : List ℕ) → OpensNothing b s → b ≡ 47 → behind Slash s ≡ behind Plain s
slash_plain b [] not_here e = refl
slash_plain b (c ∷ s) not_here e = let ne : c ≢ 42 = λ h. not_here (e, h) in rw (ne_eqb c 42 ne)

unit_behind : {b : ℕ} {s r : List ℕ} → b ≢ 46 → UnitAt (b ∷ s) r → behind Plain (b ∷ s) ≡ behind Plain r
unit_behind ne (line e l) = rw e (line_behind l)
unit_behind ne (block o l) = rw (o.0, o.1) (blocks_behind l)
unit_behind ne (string e l) = rw e (string_behind l)
unit_behind ne (single {b = b} {s = s} nl ns not_here) =
    elim (cases_eq b 47) [
      | inl e ↦ rw e (slash_plain b s not_here e)
      | inr n7 ↦ rw (ne_eqb b 46 ne, ne_eqb b 37 nl, ne_eqb b 34 ns, ne_eqb b 47 n7)
    ]

pub found : {s r : List ℕ} → CommandAt s r → behind Plain s ≡ Some r
found (stop e) = rw e
found (unit ne u c) = unit_behind ne u ∙ found c

-- a text has one first command
pub first_unique : {s r q : List ℕ} → CommandAt s r → CommandAt s q → r ≡ q
first_unique c d = let e = sym (found c) ∙ found d in cc
