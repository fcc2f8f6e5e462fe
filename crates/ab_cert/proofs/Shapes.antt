-- Names are what a scan byte by byte comes through.
use Rattle.std.proofs.Common.{◌≡◌, ◌==◌, ◌||◌, ℕ, Bool, true, false, cond, List, [], ◌∷◌, ◌++◌, codes, Option, Some, None, refl, sym, ap, ◌∙◌, inl, inr}
use Rattle.std.specs.Char.{is_ascii_alphabetic, is_ascii_alphanumeric, is_ascii_digit}
use Rattle.std.proofs.lemmas.Bool.{cases_Bool, eqb-true}
use Rattle.ab_lex.specs.Tokens.{is_word_byte, IsWordTail, ends, byte, joined, alone, letters, IsNumber, last_digit, digit}
use Rattle.ab_cert.specs.declared.shape.Shape.{Shape}
use Rattle.ab_cert.specs.declared.shape.Shape.TheVariants.{Start, Underscore, Digits, Letters, Hyphen, Colon, Colons}
use Rattle.ab_cert.specs.Tables.{IsName, word, underscore_number, cons}
use Rattle.ab_cert.specs.Shapes.{next_of, run, ends_at}

pub run_none : (x : List ℕ) → run None x ≡ None
run_none [] = refl
run_none (b ∷ x) = refl

pub run_more : (o : Option Shape) (x y : List ℕ) → run o (x ++ y) ≡ run (run o x) y
run_more o [] y = refl
run_more None (b ∷ x) y = sym (run_none y)
run_more (Some s) (b ∷ x) y = run_more (next_of s b) x y

-- what makes a name of its front
abbrev pub completion : Shape → List ℕ
completion Start = codes "a"
completion Underscore = []
completion Digits = []
completion Letters = []
completion Hyphen = codes "a"
completion Colon = codes ":"
completion Colons = []

pub completes : (s : Shape) → ends_at (run (Some s) (completion s)) ≡ true
completes Start = refl
completes Underscore = refl
completes Digits = refl
completes Letters = refl
completes Hyphen = refl
completes Colon = refl
completes Colons = refl

-- words

both_ways : (t : Bool) → t ≡ true → t ≡ false → ⊥
both_ways true h k = cc
both_ways false h k = cc

or_left : (a b : Bool) → a ≡ true → a || b ≡ true
or_left true b e = refl
or_left false b e = cc

word_byte : (b : ℕ) → is_ascii_alphanumeric b ≡ true → is_word_byte b ≡ true
word_byte b h = or_left (is_ascii_alphanumeric b) ((b == 95) || (b == 39)) h

tail_runs : {w : List ℕ} → IsWordTail w → ends_at (run (Some Letters) w) ≡ true
tail_runs ends = refl
tail_runs (byte {b = b} {w = w} h t) = ap (λ c. ends_at (run (cond c (Some Letters) (cond (b == 45) (Some Hyphen) None)) w)) h ∙ tail_runs t
tail_runs (joined {b = b} {c = c} {w = w} e h t) =
    let behind : ends_at (run (Some Letters) w) ≡ true = sym (ap (λ d. ends_at (run (cond d (Some Letters) (cond (c == 45) (Some Hyphen) None)) w)) (word_byte c h)) ∙ tail_runs t in
    ap (λ d. ends_at (run (next_of Letters d) (c ∷ w))) e ∙ (ap (λ d. ends_at (run (cond d (Some Letters) None) w)) h ∙ behind)

none_ends : (w : List ℕ) → ends_at (run None w) ≡ true → ⊥
none_ends w h = let f : false ≡ true = sym (ap ends_at (run_none w)) ∙ h in cc

moved : (o p : Option Shape) (w : List ℕ) → o ≡ p → ends_at (run o w) ≡ true → ends_at (run p w) ≡ true
moved o p w e h = sym (ap (λ q. ends_at (run q w)) e) ∙ h

letters_on : (b : ℕ) → is_word_byte b ≡ true → next_of Letters b ≡ Some Letters
letters_on b t = ap (λ c. cond c (Some Letters) (cond (b == 45) (Some Hyphen) None)) t

letters_hyphen : (b : ℕ) → is_word_byte b ≡ false → (b == 45) ≡ true → next_of Letters b ≡ Some Hyphen
letters_hyphen b t u = ap (λ c. cond c (Some Letters) (cond (b == 45) (Some Hyphen) None)) t ∙ ap (λ c. cond c (Some Hyphen) None) u

letters_none : (b : ℕ) → is_word_byte b ≡ false → (b == 45) ≡ false → next_of Letters b ≡ None
letters_none b t u = ap (λ c. cond c (Some Letters) (cond (b == 45) (Some Hyphen) None)) t ∙ ap (λ c. cond c (Some Hyphen) None) u

hyphen_next : (b : ℕ) (t : Bool) → is_ascii_alphanumeric b ≡ t → next_of Hyphen b ≡ cond t (Some Letters) None
hyphen_next b t e = ap (λ c. cond c (Some Letters) None) e

digits_next : (b : ℕ) (t : Bool) → is_ascii_digit b ≡ t → next_of Digits b ≡ cond t (Some Digits) None
digits_next b t e = ap (λ c. cond c (Some Digits) None) e

runs_tail : (w : List ℕ) → ends_at (run (Some Letters) w) ≡ true → IsWordTail w
runs_tail [] h = ends
runs_tail (b ∷ []) h =
    elim (cases_Bool (is_word_byte b)) [
      | inl t ↦ byte t ends
      | inr t ↦ elim (cases_Bool (b == 45)) [
        | inl u ↦ let f : false ≡ true = moved (next_of Letters b) (Some Hyphen) [] (letters_hyphen b t u) h in cc
        | inr u ↦ let f : false ≡ true = moved (next_of Letters b) None [] (letters_none b t u) h in cc
      ]
    ]
runs_tail (b ∷ (c ∷ w)) h =
    elim (cases_Bool (is_word_byte b)) [
      | inl t ↦ byte t (runs_tail (c ∷ w) (moved (next_of Letters b) (Some Letters) (c ∷ w) (letters_on b t) h))
      | inr t ↦ elim (cases_Bool (b == 45)) [
        | inl u ↦
            let g : ends_at (run (next_of Hyphen c) w) ≡ true = moved (next_of Letters b) (Some Hyphen) (c ∷ w) (letters_hyphen b t u) h in
            elim (cases_Bool (is_ascii_alphanumeric c)) [
              | inl v ↦ joined (eqb-true b 45 u) v (byte (word_byte c v) (runs_tail w (moved (next_of Hyphen c) (Some Letters) w (hyphen_next c true v) g)))
              | inr v ↦ absurd (none_ends w (moved (next_of Hyphen c) None w (hyphen_next c false v) g))
            ]
        | inr u ↦ absurd (none_ends (c ∷ w) (moved (next_of Letters b) None (c ∷ w) (letters_none b t u) h))
      ]
    ]

digits_run : {w : List ℕ} → IsNumber w → ends_at (run (Some Digits) w) ≡ true
digits_run (last_digit {b = b} h) = ap (λ c. ends_at (cond c (Some Digits) None)) h
digits_run (digit {b = b} {w = w} h n) = ap (λ c. ends_at (run (cond c (Some Digits) None) w)) h ∙ digits_run n

runs_digits : (b : ℕ) (w : List ℕ) → ends_at (run (Some Digits) (b ∷ w)) ≡ true → IsNumber (b ∷ w)
runs_digits b [] h =
    elim (cases_Bool (is_ascii_digit b)) [
      | inl t ↦ last_digit t
      | inr t ↦ let f : false ≡ true = moved (next_of Digits b) None [] (digits_next b false t) h in cc
    ]
runs_digits b (c ∷ w) h =
    elim (cases_Bool (is_ascii_digit b)) [
      | inl t ↦ digit t (runs_digits c w (moved (next_of Digits b) (Some Digits) (c ∷ w) (digits_next b true t) h))
      | inr t ↦ absurd (none_ends (c ∷ w) (moved (next_of Digits b) None (c ∷ w) (digits_next b false t) h))
    ]

first_digit : (b : ℕ) (w : List ℕ) → run (Some Underscore) (b ∷ w) ≡ run (Some Digits) (b ∷ w)
first_digit b w = refl

under : {ds : List ℕ} → IsNumber ds → ends_at (run (Some Underscore) ds) ≡ true
under (last_digit {b = b} h) = digits_run (last_digit {b = b} h)
under (digit {b = b} {w = w} h n) = digits_run (digit {b = b} {w = w} h n)

under_name : (b : ℕ) (w : List ℕ) → b ≡ 95 → ends_at (run (Some Underscore) w) ≡ true → IsName (b ∷ w)
under_name b [] e h = word (alone e)
under_name b (c ∷ w) e h = underscore_number e (runs_digits c w h)

colons_name : (b c : ℕ) (w : List ℕ) → b ≡ 58 → c ≡ 58 → ends_at (run (Some Colons) w) ≡ true → IsName (b ∷ (c ∷ w))
colons_name b c [] e f h = cons (ap (λ x. x ∷ (c ∷ [])) e ∙ ap (λ x. 58 ∷ (x ∷ [])) f)
colons_name b c (d ∷ w) e f h = absurd (none_ends w h)

colon_next : (b : ℕ) (t : Bool) → (b == 58) ≡ t → next_of Colon b ≡ cond t (Some Colons) None
colon_next b t e = ap (λ c. cond c (Some Colons) None) e

colon_name : (b : ℕ) (w : List ℕ) → b ≡ 58 → ends_at (run (Some Colon) w) ≡ true → IsName (b ∷ w)
colon_name b [] e h = cc
colon_name b (c ∷ w) e h =
    elim (cases_Bool (c == 58)) [
      | inl t ↦ colons_name b c w e (eqb-true c 58 t) (moved (next_of Colon c) (Some Colons) w (colon_next c true t) h)
      | inr t ↦ absurd (none_ends w (moved (next_of Colon c) None w (colon_next c false t) h))
    ]

-- A NAME IS WHAT A SCAN COMES THROUGH

pub name_runs : {x : List ℕ} → IsName x → ends_at (run (Some Start) x) ≡ true
name_runs (word (alone {b = b} e)) = ap (λ c. ends_at (next_of Start c)) e
name_runs (word (letters {b = b} {w = w} h t)) = ap (λ c. ends_at (run (cond c (Some Letters) (cond (b == 95) (Some Underscore) (cond (b == 58) (Some Colon) None))) w)) h ∙ tail_runs t
name_runs (underscore_number {b = b} {ds = ds} e n) = ap (λ c. ends_at (run (next_of Start c) ds)) e ∙ under n
name_runs (cons e) = ap (λ y. ends_at (run (Some Start) y)) e

start_next : (b : ℕ) (t u v : Bool) → is_ascii_alphabetic b ≡ t → (b == 95) ≡ u → (b == 58) ≡ v → next_of Start b ≡ cond t (Some Letters) (cond u (Some Underscore) (cond v (Some Colon) None))
start_next b t u v e f g =
    ap (λ c. cond c (Some Letters) (cond (b == 95) (Some Underscore) (cond (b == 58) (Some Colon) None))) e
    ∙ (ap (λ c. cond t (Some Letters) (cond c (Some Underscore) (cond (b == 58) (Some Colon) None))) f
    ∙ ap (λ c. cond t (Some Letters) (cond u (Some Underscore) (cond c (Some Colon) None))) g)

pub runs_name : (x : List ℕ) → ends_at (run (Some Start) x) ≡ true → IsName x
runs_name [] h = cc
runs_name (b ∷ w) h =
    elim (cases_Bool (is_ascii_alphabetic b)) [
      | inl t ↦ word (letters t (runs_tail w (moved (next_of Start b) (Some Letters) w (start_next b true (b == 95) (b == 58) t refl refl) h)))
      | inr t ↦ elim (cases_Bool (b == 95)) [
        | inl u ↦ under_name b w (eqb-true b 95 u) (moved (next_of Start b) (Some Underscore) w (start_next b false true (b == 58) t u refl) h)
        | inr u ↦ elim (cases_Bool (b == 58)) [
          | inl v ↦ colon_name b w (eqb-true b 58 v) (moved (next_of Start b) (Some Colon) w (start_next b false false true t u v) h)
          | inr v ↦ absurd (none_ends w (moved (next_of Start b) None w (start_next b false false false t u v) h))
        ]
      ]
    ]
