-- The pieces of a certificate hold neither spaces nor line feeds.
use Rattle.std.proofs.Common.{◌≡◌, ◌<◌, ◌+◌, ◌%◌, ◌≤◌, ◌^◌, ◌&&◌, ℕ, zero, suc, Bool, true, false, List, [], ◌∷◌, ◌++◌, length, map, codes, decimal, bytes_eq, Option, Some, None, refl, ap, ◌∙◌, subst, arith, lit≤, inl, inr}
use Rattle.std.specs.List.{flat_map}
use Rattle.std.specs.Char.{is_ascii_alphabetic, is_ascii_digit}
use Rattle.std.proofs.lemmas.Bool.{and_parts, and_from, cases_Bool, ne_eqb}
use Rattle.std.proofs.lemmas.Fmt.{decimal_by_steps_wide}
use Rattle.std.proofs.lemmas.Slice.Eq.{bytes_eq-Decides}
use Rattle.ab_lex.specs.Tokens.{is_word_byte, IsWordTail, ends, byte, joined, IsWord, alone, letters, IsNumber, last_digit, digit}
use Rattle.ab_cert.specs.Plain.{Ty, base, arrow, Detail, bare, with_type, with_level, Sign, Head, constant, logic, nominal, cell, index, Term, lam, spine, Terms, no_terms, one_more, list_of, Replace, Field, name, label, flag, place, term, numbers, labels, replaces, Step, Variable, Clause, Item, kind, const, block, program, theorem}
use Rattle.ab_cert.specs.Tables.{IsName, word, underscore_number, cons, IsLong, IsSmall, IsCount, Each, IsList, IsTy, Kind, signs, value_at, kind_of, IsDetail, IsSign, IsHead, IsTerm, AreTerms, IsLabel, IsReplace, IsField, Form, steps, form_at, forms_of, IsStep, IsVariable, IsClause, form_of, IsItem, IsCert}
use Rattle.ab_cert.specs.Pieces.{Pieces, type_pieces, detail_pieces, head_pieces, term_pieces, terms_pieces, label_piece, flag_piece, replace_pieces, list_pieces, field_pieces, step_pieces, variable_pieces, clause_pieces, block_piece, item_lines, last_line, lines_of}
use Rattle.ab_cert.specs.Splits.{is_plain}
use Rattle.ab_cert.proofs.Lines.{is_clean, are_clean, IsLine, AreLines}

-- lists of bytes and of pieces

pub clean_more : (p q : List ℕ) → is_clean p ≡ true → is_clean q ≡ true → is_clean (p ++ q) ≡ true
clean_more [] q h k = k
clean_more (b ∷ p) q h k =
    let i = and_parts (is_plain b) (is_clean p) h in
    and_from (is_plain b) (is_clean (p ++ q)) i.0 (clean_more p q i.1 k)

pub are_more : (ps qs : Pieces) → are_clean ps ≡ true → are_clean qs ≡ true → are_clean (ps ++ qs) ≡ true
are_more [] qs h k = k
are_more (p ∷ ps) qs h k =
    let i = and_parts (is_clean p) (are_clean ps) h in
    and_from (is_clean p) (are_clean (ps ++ qs)) i.0 (are_more ps qs i.1 k)

pub one_and : (p : List ℕ) (ps : Pieces) → is_clean p ≡ true → are_clean ps ≡ true → are_clean (p ∷ ps) ≡ true
one_and p ps h k = and_from (is_clean p) (are_clean ps) h k

-- names

plain_unless : (b : ℕ) → (b ≡ 32 → ⊥) → (b ≡ 10 → ⊥) → is_plain b ≡ true
plain_unless b h k = rw (ne_eqb b 32 h, ne_eqb b 10 k) refl

not_true : (t : Bool) → t ≡ true → t ≡ false → ⊥
not_true true h k = cc
not_true false h k = cc

-- a byte that passes a test which no space and no line feed passes
plain_by : (test : ℕ → Bool) (b : ℕ) → test 32 ≡ false → test 10 ≡ false → test b ≡ true → is_plain b ≡ true
plain_by test b s l h =
    plain_unless b
    (λ e. not_true (test b) h (ap test e ∙ s))
    (λ e. not_true (test b) h (ap test e ∙ l))

tail_clean : {w : List ℕ} → IsWordTail w → is_clean w ≡ true
tail_clean ends = refl
tail_clean (byte {b = b} {w = w} h t) = and_from (is_plain b) (is_clean w) (plain_by is_word_byte b refl refl h) (tail_clean t)
tail_clean (joined {b = b} {c = c} {w = w} e h t) =
    let p : is_plain b ≡ true = ap is_plain e in
    and_from (is_plain b) (is_clean (c ∷ w)) p (tail_clean t)

number_clean : {w : List ℕ} → IsNumber w → is_clean w ≡ true
number_clean (last_digit {b = b} h) = and_from (is_plain b) true (plain_by is_ascii_digit b refl refl h) refl
number_clean (digit {b = b} {w = w} h n) = and_from (is_plain b) (is_clean w) (plain_by is_ascii_digit b refl refl h) (number_clean n)

word_clean : {w : List ℕ} → IsWord w → is_clean w ≡ true
word_clean (alone {b = b} e) = and_from (is_plain b) true (ap is_plain e) refl
word_clean (letters {b = b} {w = w} h t) = and_from (is_plain b) (is_clean w) (plain_by is_ascii_alphabetic b refl refl h) (tail_clean t)

pub name_clean : {x : List ℕ} → IsName x → is_clean x ≡ true
name_clean (word h) = word_clean h
name_clean (underscore_number {b = b} {ds = ds} e n) = and_from (is_plain b) (is_clean ds) (ap is_plain e) (number_clean n)
name_clean (cons e) = ap is_clean e

-- numbers

digit_plain : (n : ℕ) → is_plain (48 + n) ≡ true
digit_plain n = plain_unless (48 + n) (λ e. absurd (omega arith)) (λ e. absurd (omega arith))

pub long_clean : (n : ℕ) → n < 10 ^ 64 → is_clean (decimal n) ≡ true
long_clean n l =
    decimal_by_steps_wide (λ m ds. is_clean ds ≡ true)
    (λ m h. and_from (is_plain (48 + m)) true (digit_plain m) refl)
    (λ m ds h k. clean_more ds ((48 + m % 10) ∷ []) k (and_from (is_plain (48 + m % 10)) true (digit_plain (m % 10)) refl))
    n l

pub widen : (n k : ℕ) → n < k → k ≤ 10 ^ 64 → n < 10 ^ 64
widen n k h l = omega (arith, h, l)

pub count_wide : (n : ℕ) → IsCount n → n < 10 ^ 64
count_wide n h = widen n (2 ^ 64) h (lit≤ tt)

pub small_wide : (n : ℕ) → IsSmall n → n < 10 ^ 64
small_wide n h = widen n (2 ^ 32) h (lit≤ tt)

pub long_wide : (n : ℕ) → IsLong n → n < 10 ^ 64
long_wide n h = widen n (10 ^ 30) h (lit≤ tt)

-- types, terms and steps

pub type_clean : (a : Ty) → IsTy a → are_clean (type_pieces a) ≡ true
type_clean (base k) h = one_and k [] (name_clean h) refl
type_clean (arrow a b) h = one_and (codes ">") (type_pieces a ++ type_pieces b) refl (are_more (type_pieces a) (type_pieces b) (type_clean a h.0) (type_clean b h.1))

detail_clean : (d : Detail) → IsDetail d → are_clean (detail_pieces d) ≡ true
detail_clean bare h = refl
detail_clean (with_type ty) h = type_clean ty h
detail_clean (with_level n) h = one_and (decimal n) [] (long_clean n (long_wide n h)) refl

-- the words of a table are clean
abbrev words_clean : List (List ℕ × Kind) → Bool
words_clean [] = true
words_clean (e ∷ es) = is_clean e.0 && words_clean es

found_clean : (es : List (List ℕ × Kind)) (w : List ℕ) (k : Kind) → words_clean es ≡ true → value_at es w ≡ Some k → is_clean w ≡ true
found_clean [] w k h e = cc
found_clean (e ∷ es) w k h f =
    let parts = and_parts (is_clean e.0) (words_clean es) h in
    elim (cases_Bool (bytes_eq e.0 w)) [
      | inl t ↦ subst (λ q. is_clean q ≡ true) ((bytes_eq-Decides e.0 w).0 t) parts.0
      | inr t ↦ let g : value_at es w ≡ Some k = rw t at f in found_clean es w k parts.1 g
    ]

sign_clean : (s : Sign) → IsSign s → are_clean (s.word ∷ detail_pieces s.detail) ≡ true
sign_clean s h = one_and s.word (detail_pieces s.detail) (found_clean signs s.word (kind_of s.detail) refl h.known) (detail_clean s.detail h.detail)

head_clean : (x : Head) → IsHead x → are_clean (head_pieces x) ≡ true
head_clean (constant c) h = one_and (codes "c") (c ∷ []) refl (one_and c [] (name_clean h) refl)
head_clean (logic s) h = one_and (codes "l") (s.word ∷ detail_pieces s.detail) refl (sign_clean s h)
head_clean (nominal n ty) h = one_and (codes "n") (decimal n ∷ type_pieces ty) refl (one_and (decimal n) (type_pieces ty) (long_clean n (long_wide n h.0)) (type_clean ty h.1))
head_clean (cell x) h = one_and (codes "v") (x ∷ []) refl (one_and x [] (name_clean h) refl)
head_clean (index i) h = one_and (codes "i") (decimal i ∷ []) refl (one_and (decimal i) [] (long_clean i (count_wide i h)) refl)

mutual
  pub term_clean : (t : Term) → IsTerm t → are_clean (term_pieces t) ≡ true
  term_clean (lam ty hint body) h =
      one_and (codes "\\") (type_pieces ty ++ hint ∷ term_pieces body) refl
      (are_more (type_pieces ty) (hint ∷ term_pieces body) (type_clean ty h.0) (one_and hint (term_pieces body) (name_clean h.1) (term_clean body h.2)))
  term_clean (spine head args) h =
      one_and (codes "@") (head_pieces head ++ decimal (length (list_of args)) ∷ terms_pieces args) refl
      (are_more (head_pieces head) (decimal (length (list_of args)) ∷ terms_pieces args) (head_clean head h.0)
      (one_and (decimal (length (list_of args))) (terms_pieces args) (long_clean (length (list_of args)) (count_wide (length (list_of args)) h.1)) (terms_clean args h.2)))

  terms_clean : (ts : Terms) → AreTerms ts → are_clean (terms_pieces ts) ≡ true
  terms_clean no_terms h = refl
  terms_clean (one_more t ts) h = are_more (term_pieces t) (terms_pieces ts) (term_clean t h.0) (terms_clean ts h.1)

label_clean : (l : Option (List ℕ)) → IsLabel l → is_clean (label_piece l) ≡ true
label_clean None h = refl
label_clean (Some x) h = name_clean h

replace_clean : (r : Replace) → IsReplace r → are_clean (replace_pieces r) ≡ true
replace_clean r h =
    one_and (decimal r.number) (type_pieces r.ty ++ term_pieces r.to) (long_clean r.number (long_wide r.number h.0))
    (are_more (type_pieces r.ty) (term_pieces r.to) (type_clean r.ty h.1) (term_clean r.to h.2))

pub each_clean : {A : Type 0} (P : A → Type 0) (pieces : A → Pieces) → ((x : A) → P x → are_clean (pieces x) ≡ true) → (xs : List A) → Each P xs → are_clean (flat_map pieces xs) ≡ true
each_clean P pieces c [] h = refl
each_clean P pieces c (x ∷ xs) h = are_more (pieces x) (flat_map pieces xs) (c x h.0) (each_clean P pieces c xs h.1)

pub list_clean : {A : Type 0} (P : A → Type 0) (pieces : A → Pieces) → ((x : A) → P x → are_clean (pieces x) ≡ true) → (xs : List A) → IsList P xs → are_clean (list_pieces pieces xs) ≡ true
list_clean P pieces c xs h = one_and (decimal (length xs)) (flat_map pieces xs) (long_clean (length xs) (count_wide (length xs) h.0)) (each_clean P pieces c xs h.1)

flag_clean : (b : Bool) → is_clean (flag_piece b) ≡ true
flag_clean true = refl
flag_clean false = refl

field_clean : (x : Field) → IsField x → are_clean (field_pieces x) ≡ true
field_clean (name x) h = one_and x [] (name_clean h) refl
field_clean (label l) h = one_and (label_piece l) [] (label_clean l h) refl
field_clean (flag b) h = one_and (flag_piece b) [] (flag_clean b) refl
field_clean (place n) h = one_and (decimal n) [] (long_clean n (count_wide n h)) refl
field_clean (term t) h = term_clean t h
field_clean (numbers ns) h = list_clean IsSmall (λ n. decimal n ∷ []) (λ n k. one_and (decimal n) [] (long_clean n (small_wide n k)) refl) ns h
field_clean (labels ls) h = list_clean IsLabel (λ l. label_piece l ∷ []) (λ l k. one_and (label_piece l) [] (label_clean l k) refl) ls h
field_clean (replaces rs) h = list_clean IsReplace replace_pieces replace_clean rs h

-- the number of a step is in the table

in_table : (table : List (List Form)) (n : ℕ) (forms : List Form) → form_at table n ≡ Some forms → n < length table
in_table [] n forms e = cc
in_table (x ∷ xs) zero forms e = omega arith
in_table (x ∷ xs) (suc n) forms e = let l = in_table xs n forms e in omega arith

pub step_wide : (n : ℕ) (forms : List Form) → forms_of n ≡ Some forms → n < 10 ^ 64
step_wide zero forms e = cc
step_wide (suc n) forms e =
    let l : n < 28 = in_table steps n forms e in
    widen (suc n) 30 (omega arith) (lit≤ tt)

variable_clean : (v : Variable) → IsVariable v → are_clean (variable_pieces v) ≡ true
variable_clean v h = one_and v.name (type_pieces v.ty) (name_clean h.0) (type_clean v.ty h.1)

pub clause_clean : (c : Clause) → IsClause c → are_clean (clause_pieces c) ≡ true
clause_clean c h =
    are_more (list_pieces variable_pieces c.variables) (term_pieces c.head ++ term_pieces c.body) (list_clean IsVariable variable_pieces variable_clean c.variables h.0)
    (are_more (term_pieces c.head) (term_pieces c.body) (term_clean c.head h.1) (term_clean c.body h.2))

pub fields_clean : (s : Step) → Each IsField s.fields → are_clean (flat_map field_pieces s.fields) ≡ true
fields_clean s h = each_clean IsField field_pieces field_clean s.fields h

step_clean : (s : Step) → IsStep s → IsLine (step_pieces s)
step_clean s h = one_and (decimal s.number) (flat_map field_pieces s.fields) (long_clean s.number (step_wide s.number (map form_of s.fields) h.known)) (fields_clean s h.fields)

-- THE LINES OF A CERTIFICATE

pub lines_more : (ls ms : List Pieces) → AreLines ls → AreLines ms → AreLines (ls ++ ms)
lines_more [] ms h k = k
lines_more (l ∷ ls) ms h k = (h.0, lines_more ls ms h.1 k)

rows_clean : {A : Type 0} (P : A → Type 0) (row : A → Pieces) → ((x : A) → P x → IsLine (row x)) → (xs : List A) → Each P xs → AreLines (map row xs)
rows_clean P row c [] h = tt
rows_clean P row c (x ∷ xs) h = (c x h.0, rows_clean P row c xs h.1)

block_clean : (b : Bool) → is_clean (block_piece b) ≡ true
block_clean true = refl
block_clean false = refl

item_clean : (i : Item) → IsItem i → AreLines (item_lines i)
item_clean (kind x) h = (one_and (codes "K") (x ∷ []) refl (one_and x [] (name_clean h) refl), tt)
item_clean (const x ty) h = (one_and (codes "C") (x ∷ type_pieces ty) refl (one_and x (type_pieces ty) (name_clean h.0) (type_clean ty h.1)), tt)
item_clean (block inductive names clauses) h =
    let count = one_and (decimal (length clauses)) [] (long_clean (length clauses) (count_wide (length clauses) h.1.0)) refl in
    let all = are_more (list_pieces (λ x. x ∷ []) names) (decimal (length clauses) ∷ []) (list_clean IsName (λ x. x ∷ []) (λ x k. one_and x [] (name_clean k) refl) names h.0) count in (
      one_and (codes "B") (block_piece inductive ∷ (list_pieces (λ x. x ∷ []) names ++ decimal (length clauses) ∷ [])) refl (one_and (block_piece inductive) (list_pieces (λ x. x ∷ []) names ++ decimal (length clauses) ∷ []) (block_clean inductive) all),
      rows_clean IsClause (λ c. codes "D" ∷ clause_pieces c) (λ c k. one_and (codes "D") (clause_pieces c) refl (clause_clean c k)) clauses h.1.1,
    )
item_clean (program c) h = (one_and (codes "S") (clause_pieces c) refl (clause_clean c h), tt)
item_clean (theorem x formula steps) h = (
  one_and (codes "T") (x ∷ decimal (length steps) ∷ term_pieces formula) refl
      (one_and x (decimal (length steps) ∷ term_pieces formula) (name_clean h.0)
      (one_and (decimal (length steps)) (term_pieces formula) (long_clean (length steps) (count_wide (length steps) h.2.0)) (term_clean formula h.1))),
  rows_clean IsStep step_pieces step_clean steps h.2.1,
)

items_clean : (items : List Item) → IsCert items → AreLines (flat_map item_lines items)
items_clean [] h = tt
items_clean (i ∷ items) h = lines_more (item_lines i) (flat_map item_lines items) (item_clean i h.0) (items_clean items h.1)

pub lines_clean : (items : List Item) → IsCert items → AreLines (lines_of items)
lines_clean items h = (refl, lines_more (flat_map item_lines items) (last_line ∷ []) (items_clean items h) (refl, tt))
