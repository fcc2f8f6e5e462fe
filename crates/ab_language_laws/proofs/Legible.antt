-- What is printed of a legible term has names that are read as they stand.
use Rattle.std.proofs.Common.{◌≡◌, ◌≢◌, ℕ, zero, suc, ◌+◌, ◌-◌, ◌<◌, ◌%◌, ◌/◌, ◌==◌, length, List, [], ◌∷◌, ◌++◌, Bool, true, false, ◌&&◌, ◌||◌, Option, Some, None, ◌⊎◌, inl, inr, Contains, codes, decimal, refl, sym, ◌∙◌, ap, subst, arith}
use Rattle.std.specs.Prelude.{bytes_eq, if◌then◌else◌, unwrap_or, nat_lt, nat_le}
use Rattle.std.specs.Fmt.{digits, digits_onto, digit_glyph}
use Rattle.std.specs.List.{list_all, list_any}
use Rattle.std.specs.Char.{is_ascii_digit, is_ascii_alphabetic, is_ascii_alphanumeric}
use Rattle.std.specs.Int.{is_in_range}
use Rattle.std.specs.Cmp.Lexicographic.{bytes_decides}
use Rattle.std.proofs.lemmas.Bool.{le-leb, lt-ltb, and_parts}
use Rattle.std.proofs.lemmas.Bool.Decides.{nat_tests}
use Rattle.ab_lex.specs.declared.token.TokenKind.TheVariants.{Word}
use Rattle.ab_lex.specs.Tokens.{hyphen, underscore, apostrophe, is_word_byte, IsWordTail, ends, byte, joined, IsWord, alone as underscore_alone, letters}
use Rattle.ab_grammar.specs.Token as token
use Rattle.ab_grammar.specs.Token.{Token}
use Rattle.ab_grammar.specs.CommandTable.{listed}
use Rattle.ab_syntax.specs.ab_expressions.specs.Tokens.{Row, reserved, otherwise, token_by}
use Rattle.ab_grammar.specs.declared.Infix.{Infix}
use Rattle.ab_grammar.specs.declared.Infix.TheVariants.{Arrow, Or, And, Equal, Imply, With, Cons}
use Rattle.ab_grammar.specs.declared.Quant.{Quant}
use Rattle.ab_grammar.specs.declared.Quant.TheVariants.{Forall, Exists, Nabla}
use Rattle.ab_term.specs.Types.{Ty, kind, arrow, o, olist}
use Rattle.ab_term.specs.Logical.{Logical}
use Rattle.ab_term.specs.Logical as logic
use Rattle.ab_term.specs.Terms.{Head, constant, logical, nominal, variable, index, Term, lam, spine, Terms, no_terms, term}
use Rattle.ab_term.specs.Typing.{Signature, type_at, head_type, HasType, typed_lam, typed_spine, TakeType, take_none, take_term}
use Rattle.ab_print.specs.Shapes.{Shape, word, truth, empty, applied, abstraction, join, bind, pi, judge, focus, marked, broken, Shapes, no_shapes, shape}
use Rattle.ab_print.specs.ShapeTrees.{IsFormed, AreFormed}
use Rattle.ab_print.specs.PrintedNames.{name_of, free_heads, is_in, stem, numbered, first_from, fresh}
use Rattle.ab_print.specs.NameAssignment.{are_last, outside, alone, same_quantifier, joined_to, quantified, with_pi, constant_of, judged, judged_in_focus, between, written_from, guarded, ends_empty, written, logical_form, name_form, constant_form, takes_binder, logical_binds, head_form, bound_name, contracted, named, named_all, printed}
use Rattle.ab_print.specs.NameScopes.{HasLists}
use Rattle.ab_language_laws.specs.Spellings.{IsName, IsTruth, AreNames, IsPlain, ArePlain}
use Rattle.ab_language_laws.specs.Legible.{IsHint, IsNoMark, IsLegible, HasWords, HaveWords, StandsInWords}
use Rattle.ab_language_laws.proofs.Resolving.{by_guard, alone_free, stands, itself, listed as typed_there}

-- Digits

abbrev all_digits : List ℕ → Bool
all_digits = list_all is_ascii_digit

abbrev some_digit : List ℕ → Bool
some_digit = list_any is_ascii_digit

is_digit : (d : ℕ) → d < 10 → is_ascii_digit (digit_glyph false d) ≡ true
is_digit d h =
    let glyph : digit_glyph false d ≡ 48 + d = ap (λ (b : Bool). if b then (48 + d) else (87 + d)) (lt-ltb d 10 h) in
    ap is_ascii_digit glyph ∙ ap (λ (t : Bool). t && nat_le (48 + d) 57) (le-leb 48 (48 + d) (omega arith)) ∙ le-leb (48 + d) 57 (omega arith)

-- what a number is written with: one digit at least
record IsDigits (ds : List ℕ) : Type 0 where
  some : ds ≢ []
  all : all_digits ds ≡ true

and_both : {a b : Bool} → a ≡ true → b ≡ true → (a && b) ≡ true
and_both {b = b} p q = ap (λ (t : Bool). t && b) p ∙ q

onto_by : (k n : ℕ) (acc : List ℕ) (b : Bool) → all_digits acc ≡ true → ((m : ℕ) (more : List ℕ) → all_digits more ≡ true → more ≢ [] → IsDigits (digits_onto k 10 false m more))
    → IsDigits (if b then (digit_glyph false (n % 10) ∷ acc) else (digits_onto k 10 false (n / 10) (digit_glyph false (n % 10) ∷ acc)))
onto_by k n acc true h rest = record { some = λ e. cc; all = and_both (is_digit (n % 10) (omega arith)) h }
onto_by k n acc false h rest = rest (n / 10) (digit_glyph false (n % 10) ∷ acc) (and_both (is_digit (n % 10) (omega arith)) h) (λ e. cc)

onto : (k n : ℕ) (acc : List ℕ) → all_digits acc ≡ true → acc ≢ [] → IsDigits (digits_onto k 10 false n acc)
onto zero n acc h some = record { some = some; all = h }
onto (suc k) n acc h some = onto_by k n acc (n / 10 == 0) h (λ m more g s. onto k m more g s)

decimal_digits : (n : ℕ) → IsDigits (decimal n)
unfolding digits
decimal_digits n = onto_by 63 n [] (n / 10 == 0) refl (λ m more g s. onto 63 m more g s)

-- Words with a number at the end

digit_byte : (b : ℕ) → is_ascii_digit b ≡ true → is_ascii_alphanumeric b ≡ true
digit_byte b h = ap (λ (t : Bool). (t || is_in_range 65 90 b) || is_in_range 97 122 b) h

word_byte : (b : ℕ) → is_ascii_alphanumeric b ≡ true → is_word_byte b ≡ true
word_byte b h = ap (λ (t : Bool). t || ((b == underscore) || (b == apostrophe))) h

digits_tail : (ds : List ℕ) → all_digits ds ≡ true → IsWordTail ds
digits_tail [] h = ends
digits_tail (d ∷ ds) h = let p = and_parts (is_ascii_digit d) (all_digits ds) h in byte (word_byte d (digit_byte d p.0)) (digits_tail ds p.1)

hyphen_before : (b : ℕ) (ds : List ℕ) → b ≡ hyphen → IsDigits ds → IsWordTail (b ∷ ds)
hyphen_before b [] e h = absurd (h.some refl)
hyphen_before b (d ∷ ds) e h = let p = and_parts (is_ascii_digit d) (all_digits ds) h.all in joined e (digit_byte d p.0) (digits_tail (d ∷ ds) h.all)

stem_tail_by : (b : ℕ) (w ds : List ℕ) (t : Bool) → IsDigits ds → is_word_byte b ≡ true → IsWordTail (stem w ++ ds) → IsWordTail ((if t then [] else (b ∷ stem w)) ++ ds)
stem_tail_by b w ds true d h r = digits_tail ds d.all
stem_tail_by b w ds false d h r = byte h r

-- behind a hyphen
stem_join_by : (b c : ℕ) (w ds : List ℕ) (t : Bool) → IsDigits ds → b ≡ hyphen → is_ascii_alphanumeric c ≡ true → IsWordTail (stem w ++ ds) → IsWordTail (b ∷ (if t then [] else (c ∷ stem w)) ++ ds)
stem_join_by b c w ds true d e h r = hyphen_before b ds e d
stem_join_by b c w ds false d e h r = joined e h (byte (word_byte c h) r)

no_digit : (b : ℕ) → b ≡ hyphen → is_ascii_digit b ≡ false
no_digit b e = ap is_ascii_digit e

stem_tail : {w : List ℕ} (ds : List ℕ) → IsDigits ds → IsWordTail w → IsWordTail (stem w ++ ds)
stem_tail ds d ends = digits_tail ds d.all
stem_tail ds d (byte {b = b} {w = w} h k) = stem_tail_by b w ds (all_digits (b ∷ w)) d h (stem_tail ds d k)
stem_tail ds d (joined {b = b} {c = c} {w = w} e h (byte g k)) =
    let other : all_digits (b ∷ c ∷ w) ≡ false = ap (λ (t : Bool). t && all_digits (c ∷ w)) (no_digit b e) in
    subst (λ (t : Bool). IsWordTail ((if t then [] else (b ∷ stem (c ∷ w))) ++ ds)) (sym other) (stem_join_by b c w ds (all_digits (c ∷ w)) d e h (stem_tail ds d k))
stem_tail ds d (joined {b = b} e h (joined f g k)) = absurd (let bad : false ≡ true = sym (ap is_ascii_alphanumeric f) ∙ h in cc)

-- a reserved word has no digit

abbrev has_no_digit : Row → Bool
has_no_digit r = if (some_digit r.0) then false else true

clear : (b : Bool) → (if b then false else true) ≡ true → b ≡ true → ⊥
clear true h e = cc
clear false h e = cc

not_listed : (rows : List Row) (x : List ℕ) → list_all has_no_digit rows ≡ true → some_digit x ≡ true → listed rows x ≡ None
not_listed [] x h d = refl
not_listed (r ∷ rows) x h d =
    let p = and_parts (has_no_digit r) (list_all has_no_digit rows) h in
    go (bytes_eq x r.0) refl (not_listed rows x p.1 d) p.0
  where
    go : (b : Bool) → bytes_eq x r.0 ≡ b → listed rows x ≡ None → has_no_digit r ≡ true → (if b then (Some r.1) else (listed rows x)) ≡ None
    go true e rest clean = absurd (let same : x ≡ r.0 = (bytes_decides x r.0).0 e in clear (some_digit r.0) clean (sym (ap some_digit same) ∙ d))
    go false e rest clean = rest

not_reserved : (x : List ℕ) → some_digit x ≡ true → token_by Word x 0 ≡ token.word x 0
not_reserved x d = ap (λ (o : Option (List ℕ → ℕ → Token)). otherwise o token.word x 0) (not_listed reserved x refl d)

or_right : (a b : Bool) → b ≡ true → (a || b) ≡ true
or_right true b h = refl
or_right false b h = h

digit_at_end : (w ds : List ℕ) → IsDigits ds → some_digit (w ++ ds) ≡ true
digit_at_end [] [] d = absurd (d.some refl)
digit_at_end [] (c ∷ ds) d = let p = and_parts (is_ascii_digit c) (all_digits ds) d.all in ap (λ (b : Bool). b || some_digit ds) p.0
digit_at_end (b ∷ w) ds d = or_right (is_ascii_digit b) (some_digit (w ++ ds)) (digit_at_end w ds d)

-- a letter, then such a word's rest
lettered : (b : ℕ) (w ds : List ℕ) → is_ascii_alphabetic b ≡ true → IsWordTail (w ++ ds) → IsDigits ds → IsHint (b ∷ w ++ ds)
lettered b w ds h k d = (h, (letters h k, not_reserved (b ∷ w ++ ds) (digit_at_end (b ∷ w) ds d)))

-- Names that are chosen

letter_no_digit : (b : ℕ) → is_ascii_alphabetic b ≡ true → is_ascii_digit b ≡ false
letter_no_digit b h = grind (arith, nat_tests)

lettered_stem : (b : ℕ) (w : List ℕ) → is_ascii_alphabetic b ≡ true → stem (b ∷ w) ≡ b ∷ stem w
lettered_stem b w h = ap (λ (t : Bool). if t then [] else (b ∷ stem w)) (ap (λ (t : Bool). t && all_digits w) (letter_no_digit b h))

tail_of : (b : ℕ) (w : List ℕ) → is_ascii_alphabetic b ≡ true → IsWord (b ∷ w) → IsWordTail w
tail_of b w h (underscore_alone e) = absurd (let bad : false ≡ true = sym (ap is_ascii_alphabetic e) ∙ h in cc)
tail_of b w h (letters g k) = k

numbered_hint : (x : List ℕ) (n : ℕ) → IsHint x → IsHint (numbered x n)
numbered_hint [] n h = absurd h
numbered_hint (b ∷ w) n h =
    subst (λ (v : List ℕ). IsHint (v ++ decimal n)) (sym (lettered_stem b w h.0))
    (lettered b (stem w) (decimal n) h.0 (stem_tail (decimal n) (decimal_digits n) (tail_of b w h.0 h.1.0)) (decimal_digits n))

name_of_hint : (x : List ℕ) → IsHint x → IsName x
name_of_hint [] h = absurd h
name_of_hint (b ∷ w) h = h.1

fresh_name : (used : List (List ℕ)) (x : List ℕ) → IsHint x → IsName (fresh used x)
fresh_name used x h = go (is_in used x)
  where
    go : (b : Bool) → IsName (if b then (numbered x (first_from (λ n. is_in used (numbered x n)) (length used) 1)) else x)
    go true = name_of_hint _ (numbered_hint x (first_from (λ n. is_in used (numbered x n)) (length used) 1) h)
    go false = name_of_hint x h

nominal_is_name : (n : ℕ) → IsName (codes "n" ++ decimal n)
nominal_is_name n = (lettered 110 [] (decimal n) refl (digits_tail (decimal n) (decimal_digits n).all) (decimal_digits n)).1

-- Shapes, whatever is broken in them

abbrev mutual
  IsWorded : Shape → Type 0
  IsWorded (word x) = IsName x
  IsWorded (truth x) = IsTruth x
  IsWorded empty = Unit {0}
  IsWorded (applied f ss) = IsName f × AreWorded ss
  IsWorded (abstraction x s) = IsName x × IsWorded s
  IsWorded (join o s u) = IsWorded s × IsWorded u
  IsWorded (bind q xs s) = AreNames xs × IsWorded s
  IsWorded (pi x s) = IsName x × IsWorded s
  IsWorded (judge cs g) = AreWorded cs × IsWorded g
  IsWorded (focus cs f g) = AreWorded cs × IsWorded f × IsWorded g
  IsWorded (marked m s) = ⊥
  IsWorded broken = Unit {0}

  AreWorded : Shapes → Type 0
  AreWorded no_shapes = Unit {0}
  AreWorded (shape s ss) = IsWorded s × AreWorded ss

mutual
  plain_of : (s : Shape) → IsFormed s → IsWorded s → IsPlain s
  plain_of (word x) f w = w
  plain_of (truth x) f w = w
  plain_of empty f w = tt
  plain_of (applied g ss) f w = (w.0, all_plain_of ss f.1 w.1)
  plain_of (abstraction x s) f w = (w.0, plain_of s f w.1)
  plain_of (join o s u) f w = (plain_of s f.0 w.0, plain_of u f.1 w.1)
  plain_of (bind q xs s) f w = (w.0, plain_of s f.1 w.1)
  plain_of (pi x s) f w = (w.0, plain_of s f w.1)
  plain_of (judge cs g) f w = (all_plain_of cs f.0 w.0, plain_of g f.1 w.1)
  plain_of (focus cs h g) f w = (all_plain_of cs f.0 w.0, plain_of h f.1 w.1, plain_of g f.2 w.2)
  plain_of (marked m s) f w = absurd w
  plain_of broken f w = absurd f

  all_plain_of : (ss : Shapes) → AreFormed ss → AreWorded ss → ArePlain ss
  all_plain_of no_shapes f w = tt
  all_plain_of (shape s ss) f w = (plain_of s f.0 w.0, all_plain_of ss f.1 w.1)

bound_worded : (q : Quant) (x : List ℕ) (s : Shape) → IsName x → IsWorded s → IsWorded (bind q (x ∷ []) s)
bound_worded q x s h w = ((h, tt), w)

joined_worded : (q : Quant) (x : List ℕ) (s : Shape) → IsName x → IsWorded s → IsWorded (joined_to q x s)
joined_worded q x (bind p ys s) h w = go (same_quantifier q p)
  where
    go : (b : Bool) → IsWorded (if b then (bind q (x ∷ ys) s) else (bind q (x ∷ []) (bind p ys s)))
    go true = ((h, w.0), w.1)
    go false = ((h, tt), w)
joined_worded q x s h w = ((h, tt), w)

between_worded : (o : Infix) (ss : Shapes) → AreWorded ss → IsWorded (between o ss)
between_worded o (shape s (shape u no_shapes)) w = (w.0, w.1.0)
between_worded o ss w = tt

quantified_worded : (q : Quant) (ss : Shapes) → AreWorded ss → IsWorded (quantified q ss)
quantified_worded q (shape (abstraction x s) no_shapes) w = joined_worded q x s w.0.0 w.0.1
quantified_worded q ss w = tt

pi_worded : (ss : Shapes) → AreWorded ss → IsWorded (with_pi ss)
pi_worded (shape (abstraction x s) no_shapes) w = w.0
pi_worded ss w = tt

constant_worded : (x : List ℕ) → IsTruth x → (ss : Shapes) → AreWorded ss → IsWorded (constant_of x ss)
constant_worded x h no_shapes w = h
constant_worded x h (shape s ss) w = tt

from_worded : (cs : Shapes) (s : Shape) → AreWorded cs → IsWorded s → AreWorded (written_from cs s)
from_worded cs (join Cons s u) c w = from_worded (shape s cs) u (w.0, c) w.1
from_worded cs empty c w = c
from_worded cs s c w = (w, c)

guarded_worded : (b : Bool) (cs : Shapes) → AreWorded cs → AreWorded (guarded b cs)
guarded_worded true (shape (word x) cs) c = (tt, c)
guarded_worded false (shape (word x) cs) c = c
guarded_worded b cs c = c

written_worded : (s : Shape) → IsWorded s → AreWorded (written s)
written_worded s w = guarded_worded (ends_empty s) (written_from no_shapes s) (from_worded no_shapes s tt w)

judged_worded : (ss : Shapes) → AreWorded ss → IsWorded (judged ss)
judged_worded (shape l (shape g no_shapes)) w = (written_worded l w.0, w.1.0)
judged_worded ss w = tt

focused_worded : (ss : Shapes) → AreWorded ss → IsWorded (judged_in_focus ss)
focused_worded (shape l (shape f (shape g no_shapes))) w = (written_worded l w.0, w.1.0, w.1.1.0)
focused_worded ss w = tt

true_is_truth : IsTruth (codes "true")
true_is_truth = (letters refl (byte refl (byte refl (byte refl ends))), refl)

false_is_truth : IsTruth (codes "false")
false_is_truth = (letters refl (byte refl (byte refl (byte refl (byte refl ends)))), refl)

logical_worded : (l : Logical) (ss : Shapes) → IsNoMark l → AreWorded ss → IsWorded (logical_form l ss)
logical_worded logic.truth ss n w = constant_worded (codes "true") true_is_truth ss w
logical_worded logic.falsity ss n w = constant_worded (codes "false") false_is_truth ss w
logical_worded logic.conjunction ss n w = between_worded And ss w
logical_worded logic.disjunction ss n w = between_worded Or ss w
logical_worded logic.implication ss n w = between_worded Arrow ss w
logical_worded (logic.equality A) ss n w = between_worded Equal ss w
logical_worded (logic.universal A) ss n w = quantified_worded Forall ss w
logical_worded (logic.existential A) ss n w = quantified_worded Exists ss w
logical_worded (logic.nabla A) ss n w = quantified_worded Nabla ss w
logical_worded logic.judgement ss n w = judged_worded ss w
logical_worded logic.focused_judgement ss n w = focused_worded ss w
logical_worded (logic.star i) ss n w = absurd n
logical_worded (logic.at_sign i) ss n w = absurd n
logical_worded (logic.plus i) ss n w = absurd n
logical_worded (logic.hash i) ss n w = absurd n
logical_worded (logic.spec_universal A) ss n w = pi_worded ss w
logical_worded logic.spec_implication ss n w = between_worded Imply ss w
logical_worded logic.spec_conjunction ss n w = between_worded With ss w

name_worded : (x : List ℕ) (ss : Shapes) → IsName x → AreWorded ss → IsWorded (name_form x ss)
name_worded x no_shapes h w = h
name_worded x (shape s ss) h w = (h, w)

-- Terms

module _ {Var : Type 0} (sg : Signature) (lists : HasLists sg) (name : Var → List ℕ) where
  bound_is_name : (names : List (List ℕ)) (G : List Ty) → length names ≡ length G → AreNames names → (i : ℕ) (A : Ty) → type_at G i ≡ Some A → IsName (unwrap_or (name_of name names (index i)) [])
  bound_is_name [] [] n h i A e = absurd (cc)
  bound_is_name [] (B ∷ G) n h i A e = absurd (omega arith)
  bound_is_name (y ∷ names) [] n h i A e = absurd (omega arith)
  bound_is_name (y ∷ names) (B ∷ G) n h zero A e = h.0
  bound_is_name (y ∷ names) (B ∷ G) n h (suc i) A e = bound_is_name names G (omega arith) h.1 i A e

  is_name : (c : List ℕ) → bytes_eq c (codes "::") ≡ false → (c ≡ codes "::") ⊎ IsName c → IsName c
  is_name c e (inl f) = absurd (let yes : bytes_eq c (codes "::") ≡ true = (bytes_decides c (codes "::")).1 f in let bad : true ≡ false = sym yes ∙ e in cc)
  is_name c e (inr h) = h

  no_list : {G : List Ty} {A : Ty} {k : List ℕ} (c : List ℕ) → sg c ≡ Some A → c ≡ codes "::" → TakeType sg {Var = Var} {Hint = List ℕ} G no_terms A (kind k) → ⊥
  no_list {A = A} c e f take_none = let typed : Some A ≡ Some (arrow o (arrow olist olist)) = sym e ∙ ap sg f ∙ lists in cc

  nil_by : (b : Bool) (c : List ℕ) → IsName c → IsWorded (if b then empty else (word c))
  nil_by true c h = tt
  nil_by false c h = h

  sign_by : (b : Bool) (c : List ℕ) (s : Shape) (ss : Shapes) → bytes_eq c (codes "::") ≡ b → (c ≡ codes "::") ⊎ IsName c → IsWorded s × AreWorded ss → IsWorded (if b then (between Cons (shape s ss)) else (applied c (shape s ss)))
  sign_by true c s ss e h w = between_worded Cons (shape s ss) w
  sign_by false c s ss e h w = (is_name c e h, w)

  lone_name : (c : List ℕ) → ((c ≡ codes "::") → ⊥) → (c ≡ codes "::") ⊎ IsName c → IsName c
  lone_name c other (inl f) = absurd (other f)
  lone_name c other (inr h) = h

  constant_named : (names : List (List ℕ)) {G : List Ty} {A : Ty} {k : List ℕ} (c : List ℕ) (ts : Terms Var (List ℕ)) → sg c ≡ Some A → TakeType sg G ts A (kind k) → (c ≡ codes "::") ⊎ IsName c
      → AreWorded (named_all name false names ts) → IsWorded (constant_form c (named_all name false names ts))
  constant_named names c no_terms e d h w = nil_by (bytes_eq c (codes "nil")) c (lone_name c (λ f. no_list c e f d) h)
  constant_named names c (term t ts) e d h w = sign_by (bytes_eq c (codes "::")) c _ _ refl h w

  spine_named : (names : List (List ℕ)) {G : List Ty} {A : Ty} {k : List ℕ} (h : Head Var) (ts : Terms Var (List ℕ)) → length names ≡ length G → AreNames names → head_type sg G h ≡ Some A → TakeType sg G ts A (kind k) → IsLegible name h
      → AreWorded (named_all name (takes_binder h) names ts) → IsWorded (head_form name names h (named_all name (takes_binder h) names ts))
  spine_named names (constant c) ts n hs e d l w = constant_named names c ts e d l w
  spine_named names (logical g) ts n hs e d l w = logical_worded g (named_all name (logical_binds g) names ts) l w
  spine_named names (nominal a) ts n hs e d l w = name_worded _ (named_all name false names ts) (nominal_is_name a.number) w
  spine_named names (variable x) ts n hs e d l w = name_worded _ (named_all name false names ts) l w
  spine_named names {G = G} {A = A} (index i) ts n hs e d l w = name_worded _ (named_all name false names ts) (bound_is_name names G n hs i A e) w

  -- a name alone

  same_head : (b : Bool) (h g : Head Var) → (if b then None else (Some h)) ≡ Some g → IsLegible name h → IsLegible name g
  same_head true h g e l = absurd (cc)
  same_head false h g e l = let same : h ≡ g = cc in subst (λ (w : Head Var). IsLegible name w) same l

  alone_legible : (n : ℕ) (t : Term Var (List ℕ)) (g : Head Var) → alone n t ≡ Some g → HasWords name t → IsLegible name g
  alone_legible n (lam A x t) g e w = alone_legible (suc n) t g e w.1
  alone_legible n (spine (constant c) ts) g e w = let same : Some (constant c) ≡ Some g = by_guard name (are_last n ts) (outside n (constant c)) g e in same_head false (constant c) g same w.0
  alone_legible n (spine (logical l) ts) g e w = absurd (let bad : None ≡ Some g = by_guard name (are_last n ts) (outside n (logical l)) g e in cc)
  alone_legible n (spine (nominal a) ts) g e w = let same : Some (nominal a) ≡ Some g = by_guard name (are_last n ts) (outside n (nominal a)) g e in same_head false (nominal a) g same tt
  alone_legible n (spine (variable x) ts) g e w = let same : Some (variable x) ≡ Some g = by_guard name (are_last n ts) (outside n (variable x)) g e in same_head false (variable x) g same w.0
  alone_legible n (spine (index i) ts) g e w = same_head (nat_lt i n) (index (i - n)) g (by_guard name (are_last n ts) (outside n (index i)) g e) tt

  never : (b : Bool) (h g : Head Var) (P : Head Var → Type 0) → (P h → ⊥) → (if b then None else (Some h)) ≡ Some g → P g → ⊥
  never true h g P other e p = cc
  never false h g P other e p = let same : h ≡ g = cc in other (subst P (sym same) p)

  alone_no_logical : (n : ℕ) (t : Term Var (List ℕ)) (g : Head Var) (l : Logical) → alone n t ≡ Some g → g ≡ logical l → ⊥
  alone_no_logical n (lam A x t) g l e f = alone_no_logical (suc n) t g l e f
  alone_no_logical n (spine (constant c) ts) g l e f = never false (constant c) g (λ h. h ≡ logical l) (λ h. cc) (by_guard name (are_last n ts) (outside n (constant c)) g e) f
  alone_no_logical n (spine (logical m) ts) g l e f = let bad : None ≡ Some g = by_guard name (are_last n ts) (outside n (logical m)) g e in cc
  alone_no_logical n (spine (nominal a) ts) g l e f = never false (nominal a) g (λ h. h ≡ logical l) (λ h. cc) (by_guard name (are_last n ts) (outside n (nominal a)) g e) f
  alone_no_logical n (spine (variable x) ts) g l e f = never false (variable x) g (λ h. h ≡ logical l) (λ h. cc) (by_guard name (are_last n ts) (outside n (variable x)) g e) f
  alone_no_logical n (spine (index i) ts) g l e f = never (nat_lt i n) (index (i - n)) g (λ h. h ≡ logical l) (λ h. cc) (by_guard name (are_last n ts) (outside n (index i)) g e) f

  alone_named : (names : List (List ℕ)) (G : List Ty) → length names ≡ length G → AreNames names → (t : Term Var (List ℕ)) (A : Ty) → HasType sg G t A → (g : Head Var) → alone 0 t ≡ Some g → (alone 0 t ≢ Some (constant (codes "::"))) → IsLegible name g
      → IsWorded (head_form name names g no_shapes)
  alone_named names G n hs t A d (constant c) e other l = nil_by (bytes_eq c (codes "nil")) c (lone_name c (λ f. other (e ∙ ap (λ (x : List ℕ). Some (constant x)) f)) l)
  alone_named names G n hs t A d (logical g) e other l = absurd (alone_no_logical 0 t (logical g) g e refl)
  alone_named names G n hs t A d (nominal a) e other l = nominal_is_name a.number
  alone_named names G n hs t A d (variable x) e other l = l
  alone_named names G n hs t A d (index i) e other l = elim (alone_free name 0 t (index i) e) [
    | stands h in_t o ↦ (
        let r = typed_there sg d i (subst (λ (w : Head Var). Contains (free_heads t) w) (itself name h (index i) o) in_t) in
        bound_is_name names G n hs i r.0 r.1
        )
  ]

  contracted_named : (names : List (List ℕ)) (G : List Ty) → length names ≡ length G → AreNames names → (t : Term Var (List ℕ)) (A : Ty) → HasType sg G t A → StandsInWords name t → (s : Shape) → IsWorded s
      → (a : Option (Head Var)) → alone 0 t ≡ a → IsWorded (contracted name names a s)
  contracted_named names G n hs t A d w s h None e = h
  contracted_named names G n hs t A d w s h (Some g) e = alone_named names G n hs t A d g e w.0 (alone_legible 0 t g e w.1)

  argument_named : (binds : Bool) (names : List (List ℕ)) (G : List Ty) → length names ≡ length G → AreNames names → (t : Term Var (List ℕ)) (A : Ty) → HasType sg G t A → StandsInWords name t → (s : Shape) → IsWorded s
      → IsWorded (contracted name names (if binds then None else (alone 0 t)) s)
  argument_named true names G n hs t A d w s h = h
  argument_named false names G n hs t A d w s h = contracted_named names G n hs t A d w s h (alone 0 t) refl

  mutual
    worded : (names : List (List ℕ)) {G : List Ty} {A : Ty} {t : Term Var (List ℕ)} → HasType sg G t A → length names ≡ length G → AreNames names → HasWords name t → IsWorded (named name names t)
    worded names {G = G} (typed_lam {x = x} {t = t} d) n hs w =
        let chosen : IsName (bound_name name names x t) = fresh_name _ x w.0 in
        (chosen, worded (bound_name name names x t ∷ names) d (omega arith) (chosen, hs) w.1)
    worded names (typed_spine {h = h} {ts = ts} e d) n hs w = spine_named names h ts n hs e d w.0 (all_worded (takes_binder h) names d n hs w.1)

    all_worded : (binds : Bool) (names : List (List ℕ)) {G : List Ty} {A B : Ty} {ts : Terms Var (List ℕ)} → TakeType sg G ts A B → length names ≡ length G → AreNames names → HaveWords name ts → AreWorded (named_all name binds names ts)
    all_worded binds names take_none n hs w = tt
    all_worded binds names {G = G} (take_term {A = A} {t = t} d rest) n hs w = (argument_named binds names G n hs t A d (w.0, w.1) (named name names t) (worded names d n hs w.1), all_worded binds names rest n hs w.2)

  pub printed_plain : (A : Ty) (t : Term Var (List ℕ)) → HasType sg [] t A → StandsInWords name t → IsFormed (printed name t) → IsPlain (printed name t)
  printed_plain A t d w f = plain_of (printed name t) f (contracted_named [] [] refl tt t A d w (named name [] t) (worded [] d refl tt w.1) (alone 0 t) refl)
