-- The longest word and the longest number at a place.
use Rattle.std.proofs.Common.{◌≡◌, ◌==◌, ◌&&◌, ◌||◌, ◌+◌, ◌≤◌, ℕ, suc, Bool, true, false, cond, List, [], ◌∷◌, ◌++◌, length, take, refl, sym, ap, subst, arith, one-add}
use Rattle.std.specs.List.{prefix_len}
use Rattle.std.specs.Char.{is_ascii_alphanumeric, is_ascii_digit}
use Rattle.std.proofs.lemmas.Bool.{and_parts, eqb-true}
use Rattle.ab_lex.specs.Tokens.{hyphen, underscore, apostrophe, is_word_byte, IsWordTail, ends, byte, joined, IsNumber, last_digit, digit}
use Rattle.ab_lex.specs.Reader.{begins_alphanumeric, tail_size}

pub goes_on : (b : ℕ) (s : List ℕ) → is_word_byte b ≡ true → tail_size (b ∷ s) ≡ suc (tail_size s)
goes_on b s e = ap (λ t. cond (t || ((b == hyphen) && begins_alphanumeric s)) (suc (tail_size s)) 0) e

pub joins : (b c : ℕ) (s : List ℕ) → b ≡ hyphen → is_ascii_alphanumeric c ≡ true → tail_size (b ∷ c ∷ s) ≡ suc (tail_size (c ∷ s))
joins b c s e f = rw e (ap (λ t. cond t (suc (tail_size (c ∷ s))) 0) f)

pub tail_longest : {d : List ℕ} (q : List ℕ) → IsWordTail d → length d ≤ tail_size (d ++ q)
tail_longest q ends = omega arith
tail_longest q (byte {b = b} {w = w} e h) =
    let g = tail_longest q h in
    let f = goes_on b (w ++ q) e in
    omega arith
tail_longest q (joined {b = b} {c = c} {w = w} e f h) =
    let g = tail_longest q h in
    let k = joins b c (w ++ q) e f in
    omega arith

alphanumeric_byte : (c : ℕ) → is_ascii_alphanumeric c ≡ true → is_word_byte c ≡ true
alphanumeric_byte c h = ap (λ t. t || ((c == underscore) || (c == apostrophe))) h

joined_tail : (b : ℕ) (s : List ℕ) → b ≡ hyphen → begins_alphanumeric s ≡ true → IsWordTail (take (tail_size s) s) → IsWordTail (b ∷ take (tail_size s) s)
joined_tail b [] e f h = cc
joined_tail b (c ∷ s) e f h =
    let g = goes_on c s (alphanumeric_byte c f) in
    let k : IsWordTail (take (suc (tail_size s)) (c ∷ s)) = subst (λ n. IsWordTail (take n (c ∷ s))) g h in
    subst (λ n. IsWordTail (b ∷ take n (c ∷ s))) (sym g) (joined e f k)

tail_by : (b : ℕ) (s : List ℕ) (t u : Bool) → is_word_byte b ≡ t → ((b == hyphen) && begins_alphanumeric s) ≡ u → IsWordTail (take (tail_size s) s)
    → IsWordTail (take (cond (t || u) (suc (tail_size s)) 0) (b ∷ s))
tail_by b s true u e f h = byte e h
tail_by b s false true e f h = let p = and_parts (b == hyphen) (begins_alphanumeric s) f in joined_tail b s (eqb-true b hyphen p.0) p.1 h
tail_by b s false false e f h = ends

pub tail_is : (s : List ℕ) → IsWordTail (take (tail_size s) s)
tail_is [] = ends
tail_is (b ∷ s) = tail_by b s (is_word_byte b) ((b == hyphen) && begins_alphanumeric s) refl refl (tail_is s)

pub number_longest : {d : List ℕ} (q : List ℕ) → IsNumber d → length d ≤ prefix_len is_ascii_digit (d ++ q)
number_longest q (last_digit {b = b} e) = let f = ap (λ t. cond t (1 + prefix_len is_ascii_digit q) 0) e in omega arith
number_longest q (digit {b = b} {w = w} e h) =
    let g = number_longest q h in
    let f = ap (λ t. cond t (1 + prefix_len is_ascii_digit (w ++ q)) 0) e in
    omega arith

number_by : (b c : ℕ) (s : List ℕ) (t : Bool) → is_ascii_digit b ≡ true → is_ascii_digit c ≡ t → (is_ascii_digit c ≡ true → IsNumber (c ∷ take (prefix_len is_ascii_digit s) s))
    → IsNumber (b ∷ take (cond t (1 + prefix_len is_ascii_digit s) 0) (c ∷ s))
number_by b c s true h e r = digit h (rw one-add (r e))
number_by b c s false h e r = last_digit h

pub number_is : (b : ℕ) (s : List ℕ) → is_ascii_digit b ≡ true → IsNumber (b ∷ take (prefix_len is_ascii_digit s) s)
number_is b [] h = last_digit h
number_is b (c ∷ s) h = number_by b c s (is_ascii_digit c) h refl (λ e. number_is c s e)

within_by : (t : Bool) (m n : ℕ) → m ≤ n → cond t (suc m) 0 ≤ suc n
within_by true m n h = omega arith
within_by false m n h = omega arith

pub tail_within : (s : List ℕ) → tail_size s ≤ length s
tail_within [] = omega arith
tail_within (b ∷ s) = within_by (is_word_byte b || ((b == hyphen) && begins_alphanumeric s)) (tail_size s) (length s) (tail_within s)

pub digits_within : (s : List ℕ) → prefix_len is_ascii_digit s ≤ length s
digits_within [] = omega arith
digits_within (b ∷ s) = rw one-add (within_by (is_ascii_digit b) (prefix_len is_ascii_digit s) (length s) (digits_within s))
