-- Each text has one row of units.
use Rattle.std.proofs.Common.{◌≡◌, ◌≢◌, ◌<◌, ◌⊎◌, ℕ, zero, suc, List, [], ◌∷◌, ◌++◌, length, Option, Some, None, refl, sym, ap, ◌∙◌, subst, arith, inl, inr}
use Rattle.std.proofs.lemmas.List.{append_cancel_right, length-append}
use Rattle.std.proofs.lemmas.Bool.{cases_eq}
use Rattle.ab_lex.specs.declared.scanner.Mode.TheVariants.{Line, Quoted, Block}
use Rattle.ab_lex.specs.Units.{percent, quote, slash, star, Opens, StringEnds, BlocksEnd, UnitAt, line, block, string, single, Units, UnitRow, no_unit, one_unit}
use Rattle.ab_lex.specs.Scanner.{past}
use Rattle.ab_lex.proofs.Past.{line_ends, line_runs_out, line_unique, string_ends, string_open, string_unique, block_ends, block_open, block_unique}
use Rattle.ab_lex.proofs.Fronts.{Front, one_more, none, line_front, string_front, blocks_front}

percent_quote : {b : ℕ} → b ≡ percent → b ≡ quote → ⊥
percent_quote e f = let g : percent ≡ quote = sym e ∙ f in absurd (omega arith)

percent_slash : {b : ℕ} → b ≡ percent → b ≡ slash → ⊥
percent_slash e f = let g : percent ≡ slash = sym e ∙ f in absurd (omega arith)

quote_slash : {b : ℕ} → b ≡ quote → b ≡ slash → ⊥
quote_slash e f = let g : quote ≡ slash = sym e ∙ f in absurd (omega arith)

unit_unique : {s r q : List ℕ} → UnitAt s r → UnitAt s q → r ≡ q
unit_unique (line e l) (line f k) = line_unique l k
unit_unique (line e l) (block o k) = absurd (percent_slash e o.0)
unit_unique (line e l) (string f k) = absurd (percent_quote e f)
unit_unique (line e l) (single n m o) = absurd (n e)
unit_unique (block o l) (line f k) = absurd (percent_slash f o.0)
unit_unique (block o l) (block p k) = block_unique l k
unit_unique (block o l) (string f k) = absurd (quote_slash f o.0)
unit_unique (block o l) (single n m p) = absurd (p o)
unit_unique (string e l) (line f k) = absurd (percent_quote f e)
unit_unique (string e l) (block o k) = absurd (quote_slash e o.0)
unit_unique (string e l) (string f k) = string_unique l k
unit_unique (string e l) (single n m o) = absurd (m e)
unit_unique (single n m o) (line f k) = absurd (n f)
unit_unique (single n m o) (block p k) = absurd (o p)
unit_unique (single n m o) (string f k) = absurd (m f)
unit_unique (single n m o) (single _ _ _) = refl

pub units_unique : {s left rest : List ℕ} {us vs : List (List ℕ)} → Units s us left → Units s vs rest → (us ≡ vs) × (left ≡ rest)
units_unique (no_unit n) (no_unit m) = (refl, refl)
units_unique (no_unit n) (one_unit {r = r} e u h) = absurd (n r u)
units_unique (one_unit {r = r} e u h) (no_unit n) = absurd (n r u)
units_unique (one_unit {u = a} {r = r} {left = left} {us = us} e u h) (one_unit {u = b} {r = q} {left = rest} {us = vs} f v k) =
    let g : r ≡ q = unit_unique u v in
    let same : a ≡ b = append_cancel_right a b r (sym e ∙ (f ∙ ap (λ w. b ++ w) (sym g))) in
    let i : (us ≡ vs) × (left ≡ rest) = units_unique h (subst (λ w. Units w vs rest) (sym g) k) in
    (ap (λ w. w ∷ us) same ∙ ap (λ ws. b ∷ ws) i.0, i.1)

-- whether a unit stands at the front
pub record UnitThere (s : List ℕ) : Type 0 where
  pub behind : List ℕ
  pub unit : UnitAt s behind

line_there : (b : ℕ) (s : List ℕ) → b ≡ percent → (o : Option (List ℕ)) → past Line s ≡ o → UnitThere (b ∷ s)
line_there b s e None h = record { behind = []; unit = line e (line_runs_out s h) }
line_there b s e (Some r) h = record { behind = r; unit = line e (line_ends s r h) }

open_quote : {b : ℕ} {s r : List ℕ} → UnitAt (b ∷ s) r → b ≡ quote → ((q : List ℕ) → ¬ StringEnds s q) → ⊥
open_quote (line f l) e h = percent_quote f e
open_quote (block o l) e h = quote_slash e o.0
open_quote (string {r = r} f l) e h = h r l
open_quote (single n m o) e h = m e

string_there : (b : ℕ) (s : List ℕ) → b ≡ quote → (o : Option (List ℕ)) → past Quoted s ≡ o → UnitThere (b ∷ s) ⊎ ((r : List ℕ) → ¬ UnitAt (b ∷ s) r)
string_there b s e None h = inr (λ r u. open_quote u e (string_open s h))
string_there b s e (Some r) h = inl (record { behind = r; unit = string e (string_ends s r h) })

open_block : {b c : ℕ} {s r : List ℕ} → UnitAt (b ∷ c ∷ s) r → Opens b c → ((q : List ℕ) → ¬ BlocksEnd 1 s q) → ⊥
open_block (line f l) p h = percent_slash f p.0
open_block (block {r = r} o l) p h = h r l
open_block (string f l) p h = quote_slash f p.0
open_block (single n m o) p h = o p

block_there : (b c : ℕ) (s : List ℕ) → Opens b c → (o : Option (List ℕ)) → past (Block 0) s ≡ o → UnitThere (b ∷ c ∷ s) ⊎ ((r : List ℕ) → ¬ UnitAt (b ∷ c ∷ s) r)
block_there b c s p None h = inr (λ r u. open_block u p (block_open s h))
block_there b c s p (Some r) h = inl (record { behind = r; unit = block p (block_ends s r h) })

other_there : (b : ℕ) (s : List ℕ) → b ≢ percent → b ≢ quote → UnitThere (b ∷ s) ⊎ ((r : List ℕ) → ¬ UnitAt (b ∷ s) r)
other_there b [] n m = inl (record { behind = []; unit = single n m tt })
other_there b (c ∷ s) n m =
    elim (cases_eq b slash) [
      | inl e ↦ elim (cases_eq c star) [
        | inl f ↦ block_there b c s (e, f) (past (Block 0) s) refl
        | inr k ↦ inl (record { behind = c ∷ s; unit = single n m (λ (o : Opens b c). k o.1) })
      ]
      | inr k ↦ inl (record { behind = c ∷ s; unit = single n m (λ (o : Opens b c). k o.0) })
    ]

unit_there : (s : List ℕ) → UnitThere s ⊎ ((r : List ℕ) → ¬ UnitAt s r)
unit_there [] = inr (λ r (u : UnitAt [] r). elim u [ ])
unit_there (b ∷ s) =
    elim (cases_eq b percent) [
      | inl e ↦ inl (line_there b s e (past Line s) refl)
      | inr n ↦ elim (cases_eq b quote) [ inl e ↦ string_there b s e (past Quoted s) refl | inr m ↦ other_there b s n m ]
    ]

unit_front : {s r : List ℕ} → UnitAt s r → Front s r
unit_front (line {b = b} e l) = one_more b (line_front l)
unit_front (block {b = b} {c = c} o l) = one_more b (one_more c (blocks_front l))
unit_front (string {b = b} e l) = one_more b (string_front l)
unit_front (single {b = b} {s = s} n m o) = one_more b (none s)

-- a unit has at least one byte
unit_some : {s r : List ℕ} → UnitAt s r → length r < length s
unit_some (line e l) = let f = line_front l in let e = ap length f.split in omega (arith, length-append {A = ℕ})
unit_some (block o l) = let f = blocks_front l in let e = ap length f.split in omega (arith, length-append {A = ℕ})
unit_some (string e l) = let f = string_front l in let e = ap length f.split in omega (arith, length-append {A = ℕ})
unit_some (single n m o) = omega arith

row_within : (n : ℕ) (s : List ℕ) → length s < n → UnitRow s
row_within zero s l = absurd (omega arith)
row_within (suc n) s l =
    elim (unit_there s) [
      | inl u ↦
          let f = unit_front u.unit in
          let k = unit_some u.unit in
          let r = row_within n u.behind (omega arith) in
          record { units = f.bytes ∷ r.units; left = r.left; row = one_unit f.split u.unit r.row }
      | inr none ↦ record { units = []; left = s; row = no_unit none }
    ]

pub units_there : (s : List ℕ) → UnitRow s
units_there s = row_within (suc (length s)) s (omega arith)
